-- Bytes over 127: where a walk over the bytes finds the first is where the rule does, and where it finds none the text is ASCII. Assumes nothing.
use Prim.Native.Nat.{ℕ, suc, ◌+◌, ◌≤◌, ◌<◌}
use mathlib.Core.Path.{◌≡◌, refl, sym, ◌∙◌}
use mathlib.Core.Bool.{Bool, not}
use mathlib.Core.List.{List, [], ◌∷◌}
use native.Mathlib.Nat.{add-zero, zero-add}
use native.Mathlib.Omega.{arith}
use lib.Dec.{leb, ltb}
use lib.ListN.{length, get_or}
use borrow.Author.Tests.{leb-true, le-ltb}
use Rattle.std.specs.Prelude.{None, IsAscii}
use Rattle.std.specs.List.{position, position_from}
use Rattle.std.proofs.lemmas.Bool.Decides.{nat_tests}
use Rattle.std.proofs.lemmas.Iterator.Adapters.{position_from-zero}
use Rattle.rules.specs.Checks.{first_bad}
use Rattle.rules.specs.Tokeniser.{is_ascii}
use Rattle.rules.proofs.Characters.{either}
use Rattle.rules.proofs.Checks.{all_right}
use Rattle.tokeniser.specs.Bytes.{Ascii}

-- the first place that is not right is where a test of what stands there fails first
walk : (test right : ℕ → Bool) (xs : List ℕ) (from : ℕ) → ((i : ℕ) → i < length xs → right (from + i) ≡ not (test (get_or xs i 0)))
    → position_from test from xs ≡ first_bad right (length xs) from
unfolding first_bad
walk test right [] from same = refl
walk test right (x ∷ xs) from same =
    let here : right from ≡ not (test x) = rw add-zero at (same 0 (omega arith)) in
    let later : (i : ℕ) → i < length xs → right (from + 1 + i) ≡ not (test (get_or xs i 0)) =
    λ i small. let next : from + 1 + i ≡ from + suc i = omega arith in rw next (same (suc i) (omega arith)) in
    either (test x) (λ t. rw (here, t)) (λ f. rw (here, f) (walk test right xs (from + 1) later))

abbrev over : ℕ → Bool
over byte = ltb 127 byte

low_is : (byte : ℕ) → leb byte 127 ≡ not (over byte)
low_is byte = grind (arith, nat_tests)

pub first_is : (text : List ℕ) → position (λ byte. ltb 127 byte) text ≡ first_bad (is_ascii text) (length text) 0
first_is text = position_from-zero over text ∙ walk over (is_ascii text) text 0 (λ i here. rw zero-add (low_is (get_or text i 0)))

-- where no byte is over 127 a walk finds none
none_from : (xs : List ℕ) (from : ℕ) → IsAscii xs → position_from over from xs ≡ None
none_from [] from low = refl
none_from (x ∷ xs) from low = let small : x ≤ 127 = omega (arith, low 0) in rw (le-ltb 127 x small) (none_from xs (from + 1) (λ i. low (suc i)))

pub none_over : (text : List ℕ) → IsAscii text → position (λ byte. ltb 127 byte) text ≡ None
none_over text low = position_from-zero over text ∙ none_from text 0 low

pub ascii : (text : List ℕ) → None ≡ first_bad (is_ascii text) (length text) 0 → Ascii text
ascii text none =
    let right = all_right (is_ascii text) (length text) (sym none) in
    record { byte = λ at here. omega (arith, leb-true (get_or text at 0) 127 (right at here)) }
