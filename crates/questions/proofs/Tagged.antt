-- A row that has a tag is there, and so is one that is a leaf. Assumes nothing.
use Prim.Native.Nat.{ℕ, ◌<◌}
use mathlib.Core.Bool.{Bool, true}
use mathlib.Core.List.{List}
use mathlib.Core.Path.{◌≡◌}
use Rattle.rules.specs.Questions.{row_count, tagged, is_leaf}
use Rattle.rules.proofs.Questions.{tagged-there, leaf-there}
use Rattle.questions.proofs.Tests.{told}

pub there : (tag : ℕ) (tree : List ℕ) (row : ℕ) {answer : Bool} → answer ≡ tagged tag tree row → answer ≡ true → row < row_count tree
there tag tree row is known = tagged-there tag tree row (told is known)

pub leaf_there : (text tree : List ℕ) (row : ℕ) {leaf : Bool} → leaf ≡ is_leaf text tree row → leaf ≡ true → row < row_count tree
leaf_there text tree row is known = leaf-there text tree row (told is known)
