-- What the reading rules ask of a builder of trees, whatever it is made of: a record of operations over a type of states, of marks and of frames.
-- Each operation is handed the place, which is where a refusal of it stands. "Place: the first token not wholly read, the token count at the end."
use Rattle.std.specs.Prelude.{ℕ}
use Rattle.rules.specs.Outcome.{Out}

-- a leaf as it is handed over: its token, its kind, and the range of its text
pub record Leaf : Type 0 where
  pub token : ℕ
  pub kind : ℕ
  pub start : ℕ
  pub size : ℕ

pub record Builder : Type 1 where
  pub State : Type 0
  -- where a wrap may begin later. "A list has .. a start mark and a last mark."
  pub Mark : Type 0
  -- what has to be known again of a node once a node inside it is closed
  pub Frame : Type 0
  pub mark : State → Mark
  pub frame : State → Frame
  -- the operations, each at a place: a leaf; a node of a kind begins, here or at a mark; the innermost open node, which is of this kind, ends
  pub leaf : ℕ → Leaf → State → Out State
  pub start : ℕ → ℕ → State → Out State
  pub start_at : ℕ → ℕ → Mark → State → Out State
  pub finish : ℕ → ℕ → Frame → State → Out State
  -- a token is dropped, for a reason: no row of the tree, so nothing refuses it
  pub drop : ℕ → ℕ → State → State
