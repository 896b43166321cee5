-- What the contract of the root says: all tokens are read from nothing.
use Rattle.std.specs.Prelude.{ℕ, ◌*◌, ◌≤◌, ◌≡◌, List, length, drop}
use Rattle.rules.specs.Checks.{Tables, source_of}
use Rattle.rules.specs.Flat.{flat, empty}
use Rattle.rules.specs.Limits.{tree_width, dropped_width}
use Rattle.rules.specs.Reading.{parse}
use Rattle.rules.specs.Tables.{token_count}
use Rattle.syntax.specs.declared.parse_scope.ParseScope.TheVariants.{Root}
use Rattle.state.specs.Contract.{Good, Gone}
use Rattle.state.specs.Stands.{Buffers, Step, list_at, out_of}
use Rattle.state.specs.declared.Parser.{Parser}

-- before the first token: nothing is held, marked, built or dropped
abbrev pub at_root : Parser
at_root =
    record {
      lexer = record { token = 0; taken = 0 };
      held = 0;
      list = list_at Root;
      builder = record { rows = 0; leaves = 0; depth = 0; children = 0; first = 0; node = 0 };
      dropped = 0;
    }

-- tables that were not refused, and room for a dropped row a token
pub record Readable (t : Tables) (dropped : List ℕ) : Type 0 where
  pub good : Good t
  pub room : token_count t.tokens * dropped_width ≤ length dropped

-- the rows that are counted lie in the buffers, and behind them all is as it was
pub record Written (m : Buffers) (v : Buffers) (q : Parser) : Type 0 where
  pub rows : q.builder.rows * tree_width ≤ length v.tree
  pub dropped : q.dropped * dropped_width ≤ length v.dropped
  pub tree_rest : drop (q.builder.rows * tree_width) v.tree ≡ drop (q.builder.rows * tree_width) m.tree
  pub dropped-rest : drop (q.dropped * dropped_width) v.dropped ≡ drop (q.dropped * dropped_width) m.dropped

-- the root came to what its rule says; a refusal says its number and its place, and nothing of the buffers
pub record Parsed (t : Tables) (m : Buffers) (r : Step) (v : Buffers) : Type 0 where
  pub is : parse (flat (length m.tree)) (source_of t) empty ≡ out_of r v
  pub gone : Gone (Written m v) r
