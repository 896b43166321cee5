-- What a name's kind tells of the name: only `begin` has 31, only `end` 32, and none has 27, 28 or a Word's. Assumes nothing.
use Prim.Native.Nat.{ℕ}
use Prim.Native.String.{String}
use mathlib.Core.Path.{◌≡◌, refl, sym, ap₂, ◌∙◌}
use mathlib.Core.Bool.{Bool, true, false, cond, not, false≢true}
use mathlib.Core.List.{List, [], ◌∷◌}
use native.Mathlib.Omega.{arith}
use lib.Dec.{eqb}
use lib.ListN.{length}
use borrow.Author.Tests.{eqb-true, eq-eqb, not-true}
use Rattle.rules.specs.Commands.{spelled, look_up, spellings, kind_of}
use Rattle.rules.specs.Notation.{bytes}
use Rattle.rules.specs.Patterns.{in_front}
use Rattle.rules.specs.Token
use Rattle.rules.proofs.Characters.{either}

-- ---- a name is the bytes that it is spelled by
in_front-is : (these name : List ℕ) → in_front these name ≡ true → length name ≡ length these → these ≡ name
in_front-is [] [] h long = refl
in_front-is [] (x ∷ name) h long = absurd (omega (arith, long))
in_front-is (byte ∷ these) [] h long = absurd (omega (arith, long))
in_front-is (byte ∷ these) (x ∷ name) h long =
    either (eqb x byte) (λ t. ap₂ ◌∷◌ (sym (eqb-true x byte t)) (in_front-is these name (rw t at h) (omega (arith, long))))
    (λ f. absurd (false≢true (rw f at h)))

pub spelled_is : (these name : List ℕ) → spelled these name ≡ true → these ≡ name
unfolding spelled
spelled_is these name h =
    either (in_front these name) (λ t. in_front-is these name t (eqb-true _ _ (rw t at h))) (λ f. absurd (false≢true (rw f at h)))

-- ---- every kind of the table, or Generic, passes a test: so does a name's
abbrev pub all_kinds : (ℕ → Bool) → List (String × ℕ) → Bool
all_kinds test [] = test Token.Generic
all_kinds test (entry ∷ more) = cond (test entry.1) (all_kinds test more) false

passes : (test : ℕ → Bool) (entries : List (String × ℕ)) (name : List ℕ) → all_kinds test entries ≡ true → test (look_up entries name) ≡ true
passes test [] name h = h
passes test (entry ∷ more) name h =
    either (test entry.1)
    (λ t. either (spelled (bytes entry.0) name) (λ s. rw s t) (λ s. rw s (passes test more name (rw t at h))))
    (λ f. absurd (false≢true (rw f at h)))

pub kind_passes : (test : ℕ → Bool) (name : List ℕ) → all_kinds test spellings ≡ true → test (kind_of name) ≡ true
unfolding kind_of
kind_passes test name = passes test spellings name

-- a kind that is neither in the table nor Generic is no name's
pub other_kind : (kind : ℕ) (name : List ℕ) → all_kinds (λ (n : ℕ). not (eqb n kind)) spellings ≡ true → eqb (kind_of name) kind ≡ false
other_kind kind name test = not-true (eqb (kind_of name) kind) (kind_passes (λ (n : ℕ). not (eqb n kind)) name test)

-- ---- every entry of a kind has these bytes: so has a name of that kind
abbrev all_spelled : ℕ → List ℕ → List (String × ℕ) → Bool
all_spelled kind these [] = not (eqb Token.Generic kind)
all_spelled kind these (entry ∷ more) =
    cond (eqb entry.1 kind) (cond (spelled these (bytes entry.0)) (all_spelled kind these more) false) (all_spelled kind these more)

only_these : (kind : ℕ) (these : List ℕ) (entries : List (String × ℕ)) (name : List ℕ) → all_spelled kind these entries ≡ true
    → look_up entries name ≡ kind
    → these ≡ name
only_these kind these [] name h is = absurd (false≢true (rw (eq-eqb Token.Generic kind is) at h))
only_these kind these (entry ∷ more) name h is =
    either (spelled (bytes entry.0) name)
    (λ s.
    let same : entry.1 ≡ kind = rw s at is in
    let whole = rw (eq-eqb entry.1 kind same) at h in
    either (spelled these (bytes entry.0)) (λ u. spelled_is these (bytes entry.0) u ∙ spelled_is (bytes entry.0) name s)
    (λ f. absurd (false≢true (rw f at whole))))
    (λ s. only_these kind these more name (left_over h) (rw s at is))
  where
    left_over : all_spelled kind these (entry ∷ more) ≡ true → all_spelled kind these more ≡ true
    left_over g =
        either (eqb entry.1 kind)
        (λ t.
        let whole = rw t at g in
        either (spelled these (bytes entry.0)) (λ u. rw u at whole) (λ f. absurd (false≢true (rw f at whole))))
        (λ f. rw f at g)

pub begin-only : (name : List ℕ) → kind_of name ≡ Token.ErrorBeginEnvironment → bytes "begin" ≡ name
unfolding kind_of spelled
begin-only name = only_these Token.ErrorBeginEnvironment (bytes "begin") spellings name refl

pub end-only : (name : List ℕ) → kind_of name ≡ Token.ErrorEndEnvironment → bytes "end" ≡ name
unfolding kind_of spelled
end-only name = only_these Token.ErrorEndEnvironment (bytes "end") spellings name refl
