-- The parser's state, with both buffers beside it, as the rules have it.
use Rattle.std.specs.Prelude.{ℕ, ◌*◌, cond, List, Result, Ok, Err, eqb, take}
use Rattle.std.specs.Prelude.{Option, None as none, Some as some}
use Rattle.rules.specs.Limits.{dropped_width}
use Rattle.rules.specs.Flat as flat
use Rattle.rules.specs.Outcome.{Out, went, refused}
use Rattle.rules.specs.Position as rule
use Rattle.syntax.specs.ParseScope.{number_of, scope_at}
use Rattle.syntax.specs.declared.refusal.Refused.{Refused}
use Rattle.syntax.specs.declared.parse_scope.ParseScope.{ParseScope}
use Rattle.lexer.specs.Reading.{cursor_of}
use Rattle.builder.specs.Stands as builder
use Rattle.builder.specs.declared.Checkpoint.{Checkpoint}
use Rattle.state.specs.declared.KeptMark.{KeptMark}
use Rattle.state.specs.declared.ListState.{ListState}
use Rattle.state.specs.declared.Parser.{Parser}

-- both lent buffers
pub record Buffers : Type 0 where
  pub tree : List ℕ
  pub dropped : List ℕ

-- a position of the flat builder
abbrev pub Here : Type 0
Here = rule.Pos flat.Built flat.Mark

-- ---- marks

-- a mark of the code in the rules
abbrev pub option_of : Option Checkpoint → Option flat.Mark
option_of none = none
option_of (some checkpoint) = some (builder.mark_of checkpoint)

-- the mark here
abbrev pub mark_at : Parser → Option Checkpoint
mark_at p = some (record { children = p.builder.children; row = p.builder.rows })

-- how the state keeps a mark: row 0 says that there is none
abbrev pub no_mark : KeptMark
no_mark = record { children = 0; row = 0 }

-- a mark as the state keeps it
abbrev pub kept_of : Option Checkpoint → KeptMark
kept_of none = no_mark
kept_of (some checkpoint) = record { children = checkpoint.children; row = checkpoint.row }

-- the builder's checkpoint of a kept mark
abbrev pub checkpoint_of : KeptMark → Checkpoint
checkpoint_of m = record { children = m.children; row = m.row }

-- a kept mark as the code hands it on
abbrev pub mark_in : KeptMark → Option Checkpoint
mark_in m = cond (eqb m.row 0) none (some (checkpoint_of m))

-- and as the rules have it
abbrev pub mark_of : KeptMark → Option flat.Mark
mark_of m = cond (eqb m.row 0) none (some (builder.mark_of (checkpoint_of m)))

-- ---- lists and positions

-- a list of a scope, with no mark yet
abbrev pub list_at : ParseScope → ListState
list_at scope = record { scope = number_of scope; start = no_mark; last = no_mark }

-- a list as the rules have it
abbrev pub list_of : ListState → rule.ListState flat.Mark
list_of l = record { scope = scope_at l.scope; start = mark_of l.start; last = mark_of l.last }

-- a state as the rules have it: the rows and the dropped rows are the buffers' first numbers
abbrev pub pos_of : Parser → Buffers → Here
pos_of p m =
    record {
      lexer = cursor_of p.lexer;
      held = p.held;
      list = list_of p.list;
      built = record { tree = builder.rows_of p.builder m.tree; dropped = take (p.dropped * dropped_width) m.dropped };
    }

-- what a routine comes to: the new state, or a refusal
abbrev pub Step : Type 0
Step = Result Parser Refused

-- an answer as the rules have it
abbrev pub out_of : Step → Buffers → Out Here
out_of (Ok p) m = went (pos_of p m)
out_of (Err r) m = refused r.number r.place
