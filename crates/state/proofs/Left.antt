-- What a routine leaves that kept the list and the node that is open: from what it passed, and a few facts of the state behind it. And a state that
-- has another list, or in which less is held. Assumes nothing.
use mathlib.Core.Path.{◌≡◌, ap}
use Prim.Native.Nat.{ℕ, ◌≤◌}
use native.Mathlib.Omega.{arith}
use Rattle.rules.specs.Checks.{Tables}
use Rattle.rules.specs.Tables.{token_count}
use Rattle.lexer.specs.Fine.{Fine}
use Rattle.lexer.specs.Reading.{cursor_of}
use Rattle.builder.specs.Contract.{Fits}
use Rattle.state.specs.Stands.{Buffers}
use Rattle.state.specs.Contract.{MarkOk, Steady, Ready, Passed, Left, weight}
use Rattle.state.specs.declared.ListState.{ListState}
use Rattle.state.specs.declared.Parser.{Parser}
use Rattle.state.proofs.Building.{steady_more}

-- the list, and the node that is open, are as they were
module _ {t : Tables} {gain : ℕ} {p : Parser} {m : Buffers} {q : Parser} {v : Buffers} (ready : Ready t p m) (passed : Passed t gain p m q v) where
  pub remains : Fine t.text t.tokens (cursor_of q.lexer) → q.lexer.token ≤ token_count t.tokens → q.dropped ≤ q.lexer.token
      → Fits q.builder v.tree
      → q.builder.depth ≡ p.builder.depth → q.builder.first ≡ p.builder.first → q.builder.node ≡ p.builder.node → q.list ≡ p.list
      → Left t gain p m q v
  remains fine inside few fits depth first node list =
      let within = ready.within in
      let rows = passed.rows in
      record {
        passed = passed;
        ready = record { steady = steady_more ready.steady passed list fine inside few fits; within = omega arith };
        depth = depth;
        first = first;
        node = node;
        scope = ap (λ l. l.scope) list;
      }

-- another list, or less is held
abbrev pub changed : Parser → ℕ → ListState → Parser
changed p held l = record { lexer = p.lexer; held = held; list = l; builder = p.builder; dropped = p.dropped }

-- such a state is steady if its marks are good and no more is to be written for it
pub steady_changed : {t : Tables} {p : Parser} {m : Buffers} (held : ℕ) (l : ListState) → Steady t p m → weight t (changed p held l) ≤ weight t p
    → MarkOk l.start p.builder → MarkOk l.last p.builder → Steady t (changed p held l) m
steady_changed held l s weighs start last =
    record {
      good = s.good;
      fine = s.fine;
      token = s.token;
      fits = s.fits;
      start = start;
      last = last;
      dropped = s.dropped;
      notes = s.notes;
      light = let bound = s.light in omega arith;
    }
