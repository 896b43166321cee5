-- What holds of both ways in which rows are recorded.
use Rattle.std.specs.Prelude.{ℕ, ◌/◌, ◌≤◌, Bool, true, false, cond, List, ◌≡◌, refl, eqb, length, get_or}
use Rattle.std.proofs.Common.{lit≤}
use Rattle.rules.specs.Flat.{tag_leaf}
use Rattle.recorded.specs.Recorded.{Form, kinds, tree_form, dropped_form}

-- a row has a number or more, as many as the form says, and seven bytes at most
pub record Regular (form : Form) : Type 0 where
  pub some : 1 ≤ form.width
  pub long : (case : List ℕ) (at : ℕ) → length (form.row case at) ≡ form.width
  pub few : (case : List ℕ) (at : ℕ) → form.bytes case at ≤ 7

leaf_or_other : (leaf : Bool) → cond leaf 7 3 ≤ 7
leaf_or_other true = lit≤ tt
leaf_or_other false = lit≤ tt

pub tree_regular : Regular tree_form
tree_regular = record { some = lit≤ tt; long = λ case at. refl; few = λ case at. leaf_or_other (eqb (get_or case at 0 / kinds) tag_leaf) }

pub dropped_regular : Regular dropped_form
dropped_regular = record { some = lit≤ tt; long = λ case at. refl; few = λ case at. lit≤ tt }
