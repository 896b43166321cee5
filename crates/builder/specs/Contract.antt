-- What the contracts of the builder's functions say.
use Rattle.std.specs.Prelude.{ℕ, ◌+◌, ◌*◌, ◌-◌, ◌/◌, ◌≤◌, ◌<◌, ◌≡◌, Ok, Err, length, take, drop}
use mathlib.Core.List.{List, [], ◌∷◌, ◌++◌, flatten}
use Rattle.std.specs.Borrow.{MutBor}
use denote.Triple.Both.{Both}
use Rattle.rules.specs.Limits
use Rattle.rules.specs.Flat.{Rows, with_token, start_row, start_at_row}
use Rattle.rules.specs.Outcome.{Out}
use Rattle.builder.specs.declared.Checkpoint.{Checkpoint}
use Rattle.builder.specs.declared.GreenNodeBuilder.{GreenNodeBuilder}
use Rattle.builder.specs.Stands.{Built, rows_of, mark_of, out_of}

-- rows of so many numbers: one is written over what stands there
abbrev pub written : (width row : ℕ) (numbers t : List ℕ) → List ℕ
written width row numbers t = take (row * width) t ++ (numbers ++ drop (row * width + width) t)

-- rows go in front of those of a part, which move down by as many; what stood in the part's last rows is gone
abbrev pub in_front : (width : ℕ) (rows : List (List ℕ)) (part : List ℕ) → List ℕ
in_front width rows part = flatten rows ++ take (length part - length rows * width) part

-- the start rows of two nodes, the inner one's behind the outer one's
abbrev pub start_rows : (place outer inner : ℕ) → List (List ℕ)
start_rows place outer inner = with_token place (start_row outer) ∷ with_token place (start_row inner) ∷ []

-- the rows lie in the buffer, and nothing is counted that is no row
pub record Fits (b : GreenNodeBuilder) (t : List ℕ) : Type 0 where
  pub room : b.rows * Limits.tree_width ≤ length t
  pub leaves : b.leaves ≤ b.rows
  pub children : b.children ≤ b.rows

-- a node is open
pub record Within (b : GreenNodeBuilder) : Type 0 where
  pub depth : 0 < b.depth
  pub first : b.first ≤ b.node
  pub node : b.node < b.rows

-- a mark was made when there were no more rows than now
pub record Inside (m : Checkpoint) (b : GreenNodeBuilder) : Type 0 where
  pub children : m.children ≤ m.row
  pub row : m.row ≤ b.rows

-- what a call leaves in the buffer: behind the new rows all is as it was, and a refused call changes nothing
abbrev pub Leaves : Built → List ℕ → List ℕ → Type 0
Leaves (Ok b) t v = drop (b.rows * Limits.tree_width) v ≡ drop (b.rows * Limits.tree_width) t
Leaves (Err refused) t v = v ≡ t

-- the contract of an operation: what the rule wants of a buffer of that length is what the answer and the buffer at exit stand for
pub record Did (want : ℕ → Out Rows) (t : List ℕ) (r : Built) (v : List ℕ) : Type 0 where
  pub is : want (length t) ≡ out_of r v
  pub rest : Leaves r t v

-- a lent buffer as an `ensures` has it, at the entry and at the exit
abbrev pub Lent : Type 0
Lent = Both (MutBor (List ℕ)) (MutBor (List ℕ))

-- an operation on the builder's numbers and its buffer goes by a rule of the rows, which takes the buffer's length
abbrev pub Goes : (rule : ℕ → Rows → Out Rows) (b : GreenNodeBuilder) (tree : Lent) (r : Built) → Type 0
Goes rule b tree r = Did (λ n. rule n (rows_of b tree.entry.now)) tree.entry.now r tree.exit.now

-- where a start row goes for a mark; that row is not behind the rows
pub record StartRow (b : GreenNodeBuilder) (t : List ℕ) (m : Checkpoint) (row : ℕ) : Type 0 where
  pub is : start_at_row (mark_of m) (rows_of b t) ≡ row
  pub high : row ≤ b.rows

-- nothing refuses a wrap: its mark lies in the open node, two nodes more may be opened, and three rows more have room
pub record Allowed (b : GreenNodeBuilder) (t : List ℕ) (m : Checkpoint) : Type 0 where
  pub inside : b.first ≤ m.children
  pub few : b.depth + 1 < Limits.nodes
  pub free : b.rows + 2 < length t / Limits.tree_width
