-- The code's numbers, with the buffer beside them, as the rules have them.
use Rattle.std.specs.Prelude.{ℕ, ◌*◌, List, Result, Ok, Err, take}
use Rattle.rules.specs.Limits
use Rattle.rules.specs.Flat.{Rows, Mark, Frame}
use Rattle.rules.specs.Outcome.{Out, went, refused}
use Rattle.builder.specs.declared.Checkpoint.{Checkpoint}
use Rattle.builder.specs.declared.Frame as code
use Rattle.builder.specs.declared.GreenNodeBuilder.{GreenNodeBuilder}
use Rattle.syntax.specs.declared.refusal.Refused.{Refused}

-- the rows are the buffer's first numbers
abbrev pub rows_of : GreenNodeBuilder → List ℕ → Rows
rows_of b t =
    record {
      rows = b.rows;
      leaves = b.leaves;
      depth = b.depth;
      children = b.children;
      first = b.first;
      node = b.node;
      tree = take (b.rows * Limits.tree_width) t;
    }

abbrev pub mark_of : Checkpoint → Mark
mark_of m = record { children = m.children; row = m.row }

abbrev pub frame_of : code.Frame → Frame
frame_of f = record { first = f.first; node = f.node }

-- what an operation comes to: the new numbers, or a refusal
abbrev pub Built : Type 0
Built = Result GreenNodeBuilder Refused

abbrev pub out_of : Built → List ℕ → Out Rows
out_of (Ok b) t = went (rows_of b t)
out_of (Err r) t = refused r.number r.place
