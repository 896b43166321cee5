-- How the answers of the code stand for the rules', case by case, and the first of a table's rows that is not right.
use Rattle.std.specs.Prelude.{ℕ, ◌+◌, ◌/◌, Bool, List, ◌≡◌, Result, Ok, Err, length}
use Rattle.std.specs.Prelude.{Option, None as none, Some as some}
use Rattle.rules.specs.Checks.{Refusal, first_bad, token_right, shape_or_state_right}
use Rattle.rules.specs.Limits.{shape_width, state_width}
use Rattle.syntax.specs.declared.refusal.Refused.{Refused}
use Rattle.syntax.specs.Tables.{tables}

-- what the checks come to: a number of refusal and a place, or none
abbrev pub checked_of : Result Unit Refused → Option Refusal
checked_of (Ok fine) = none
checked_of (Err r) = some (r.number, r.place)

-- ---- rows that are judged without a look at every table: the answer is the rule's for whatever the tables are that are not looked at

-- the first of so many rows that is not right
pub record FirstBad {Unseen : Type 0} (right : Unseen → ℕ → Bool) (count : ℕ) (r : Option ℕ) : Type 0 where
  pub is : (unseen : Unseen) → first_bad (right unseen) count 0 ≡ r

-- token rows, without the states
abbrev pub token_row : List ℕ → List ℕ → List ℕ → List ℕ → ℕ → Bool
token_row text tokens shapes states = token_right (tables text tokens shapes states)

-- shape rows and then state rows, without text and tokens; and how many there are
abbrev pub shape_or_state_row : List ℕ → List ℕ → List ℕ × List ℕ → ℕ → Bool
shape_or_state_row shapes states unseen = shape_or_state_right (tables unseen.0 unseen.1 shapes states)

abbrev pub shapes_and_states : List ℕ → List ℕ → ℕ
shapes_and_states shapes states = length shapes / shape_width + length states / state_width
