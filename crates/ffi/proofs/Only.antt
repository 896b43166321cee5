-- Two results of an exported function that meet its contract are equal: answers that a Bool and numbers stand for differ where these do, and the
-- contracts of the questions equate the result with the rule's (crates/syntax/proofs/Only.antt). Assumes nothing.
use mathlib.Core.Path.{◌≡◌, refl, sym, ap, ◌∙◌}
use mathlib.Core.Bool.{Bool, true, false}
use mathlib.Core.List.{List}
use Rattle.std.specs.Prelude.{Option, None as none, Some as some, Result, Ok, Err}
use Prim.Native.Nat.{ℕ, ◌<◌}
use native.Mathlib.Omega.{arith}
use borrow.Author.Tests.{leb-false}
use lib.Dec.{leb}
use lib.ListN.{length}
use Rattle.rules.specs.Checks.{Tables}
use Rattle.rules.specs.Run.{Answer, accepted, refused_at, run}
use Rattle.rules.specs.Tokeniser.{Tokenised}
use Rattle.rules.proofs.Characters.{either}
use Rattle.syntax.proofs.Only.{Only, equal}
use Rattle.listings.specs.Contract.{Lists}
use Rattle.sheets.specs.Contract.{numbers_of}
use Rattle.listings.specs.declared.listing.NoRoom.{NoRoom}
use Rattle.ffi.specs.Exported.{HandsOut, answer_from, ran_from, Counts, Hands, listed_from, not_read}
use Rattle.ffi.proofs.cartglaze_is_display.Reads as is-display
use Rattle.ffi.proofs.cartglaze_is_inline.Reads as is-inline
use Rattle.ffi.proofs.cartglaze_is_leaf.Reads as is_leaf
use Rattle.ffi.proofs.cartglaze_is_valid.Reads as is-valid
use Rattle.ffi.proofs.cartglaze_is_whole.Reads as is_whole
use Rattle.ffi.proofs.cartglaze_leaf_length.Reads as leaf-length
use Rattle.ffi.proofs.cartglaze_leaf_start.Reads as leaf-start

-- ---- a text

-- what is returned, both numbers and every element of the lent rows
pub only_tokenise : {done : Tokenised × List ℕ} {r s : Bool} {a b c d : ℕ} {v w : List ℕ} → HandsOut done r a b v → HandsOut done s c d w
    → ((r ≡ s) × ((a ≡ c) × (b ≡ d))) × (v ≡ w)
only_tokenise one other =
    let same = one.numbers ∙ sym other.numbers in
    ((ap (λ x. x.0) same, (ap (λ x. x.1.0) same, ap (λ x. x.1.1) same)), one.written ∙ sym other.written)

-- ---- the run

-- an answer number by number
abbrev told : Answer → Bool × (ℕ × ℕ)
told (accepted rows dropped) = (true, (rows, dropped))
told (refused_at number place) = (false, (number, place))

told_of : (r : Bool) (a b : ℕ) → told (answer_from r a b) ≡ (r, (a, b))
told_of true a b = refl
told_of false a b = refl

same_answer : (r s : Bool) (a b c d : ℕ) → answer_from r a b ≡ answer_from s c d → (r ≡ s) × ((a ≡ c) × (b ≡ d))
same_answer r s a b c d e =
    let same = sym (told_of r a b) ∙ ap told e ∙ told_of s c d in
    (ap (λ x. x.0) same, (ap (λ x. x.1.0) same, ap (λ x. x.1.1) same))

-- what is returned, both numbers and every element of both buffers
pub only_run : (t : Tables) (tree dropped : List ℕ) (r s : Bool) (a b c d : ℕ) (v w x y : List ℕ) → run t tree dropped ≡ ran_from r a b v w
    → run t tree dropped ≡ ran_from s c d x y
    → ((r ≡ s) × ((a ≡ c) × (b ≡ d))) × ((v ≡ x) × (w ≡ y))
only_run t tree dropped r s a b c d v w x y e f =
    let same = sym e ∙ f in
    (same_answer r s a b c d (ap (λ z. z.answer) same), (ap (λ z. z.tree) same, ap (λ z. z.dropped) same))

-- ---- the questions
pub questions :
    Only is-display.Post
    × Only is-inline.Post
    × Only is-valid.Post
    × Only is_whole.Post
    × Only is_leaf.Post
    × Only leaf-start.Post
    × Only leaf-length.Post
questions = (equal, equal, equal, equal, equal, equal, equal)

-- ---- a sheet

-- what is returned, all five numbers and every element of the lent ones
pub only_read : {tables : Option Tables} {numbers v w : List ℕ} {r s : Counts} → Hands tables numbers r v → Hands tables numbers s w
    → (r ≡ s) × (v ≡ w)
only_read one other = (one.counts_are ∙ sym other.counts_are, one.written ∙ sym other.written)

-- a sheet that is not read and needs no room is refused: one that has no room has a number at least
pub refused-tells : (tables : Option Tables) {numbers after : List ℕ} → Hands tables numbers (not_read 0) after → tables ≡ none
refused-tells none k = refl
refused-tells (some t) {numbers} k =
    either (leb (length (numbers_of t)) (length numbers))
    (λ fits. let told : true ≡ false = sym (ap (λ (x : Counts). x.read) (rw fits at k.counts_are)) in cc)
    (λ more.
    let long : length numbers < length (numbers_of t) = leb-false _ _ more in
    let none_needed = ap (λ (x : Counts). x.needed) (rw more at k.counts_are) in
    absurd (omega arith))

-- ---- a listing
abbrev listed : Result ℕ NoRoom → Bool × ℕ
listed (Ok n) = (true, n)
listed (Err short) = (false, short.needed)

listed_of : (r : Bool) (n : ℕ) → listed (listed_from r n) ≡ (r, n)
listed_of true n = refl
listed_of false n = refl

-- what is returned, the number and every byte of the lent ones
pub only_list : (lines out : List ℕ) (r s : Bool) (n m : ℕ) (v w : List ℕ) → Lists lines out (listed_from r n) v → Lists lines out (listed_from s m) w
    → (r ≡ s) × ((n ≡ m) × (v ≡ w))
only_list lines out r s n m v w one other =
    let same = sym (listed_of r n) ∙ ap listed (one.answer ∙ sym other.answer) ∙ listed_of s m in
    (ap (λ x. x.0) same, (ap (λ x. x.1) same, one.written ∙ sym other.written))
