-- Turn by turn the answer is the library's test of the numbers so far.
use Rattle.std.proofs.Common.{rules, tests, ◌≡◌, ℕ, Bool, ◌&&◌, List, ◌∷◌, ◌++◌, [], refl}
use mathlib.Core.Bool.{and-true}
use lib.Dec.{eqb}
use Rattle.std.specs.List.{list_all}
use Rattle.std.proofs.lemmas.Fn.{fold_over, fronts}
use Rattle.std.proofs.lemmas.Iterator.{YieldsList-from_slice}
use Rattle.std.proofs.lemmas.List.Folds.{list_all-append}
use Rattle.compare.proofs.OneNumber.{is, tests_tell}
use Rattle.compare.proofs.all_are.Goals as goal

one_more : (value : ℕ) (so_far : List ℕ) (a : Bool) (n : ℕ) (b : Bool) → a ≡ list_all (is value) so_far → b ≡ (a && eqb n value)
    → b ≡ list_all (is value) (so_far ++ n ∷ [])
one_more value so_far a n b before now = rw (now, before, list_all-append (is value) so_far (n ∷ []), and-true (eqb n value)) refl

pub returns : goal.returns
returns c =
    let value = c.args.value in
    let numbers = c.args.numbers.now in
    let all : c.fold.result ≡ list_all (is value) numbers =
    fold_over fronts (λ y. y.now) _ (λ so_far b. b ≡ list_all (is value) so_far) _
    (λ so_far a x b q before k. (one_more value so_far a x.now b before (search (rules, tests)), search (rules, tests)))
    c.iter.result _ _ _ (YieldsList-from_slice numbers cc).runs refl c.fold.ensures.ran in
    rw all (tests_tell value numbers)
