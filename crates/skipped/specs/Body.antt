-- A token is dropped, and the body of an \if: which tokens are of it, and how deep it is nested behind each.
use Rattle.std.specs.Prelude.{ℕ, ◌+◌, ◌*◌, ◌-◌, ◌^◌, ◌≤◌, ◌<◌, ◌≡◌, Bool, not, cond, ◌&&◌, List, ◌++◌, eqb, length, take, drop}
use Rattle.rules.specs.Limits.{dropped_width}
use Rattle.rules.specs.Flat.{dropped_row}
use Rattle.rules.specs.Items.{is_if}
use Rattle.rules.specs.Token.{EndIf}
use Rattle.state.specs.declared.Parser.{Parser}

-- ---- a token is dropped

-- there is room for a row behind those that are counted, and 32 bits are enough for what stands in it
pub record RowFree (p : Parser) (notes : List ℕ) : Type 0 where
  pub room : p.dropped * dropped_width + dropped_width ≤ length notes
  pub token : p.lexer.token < 2 ^ 32
  pub leaves : p.builder.leaves < 2 ^ 32

-- the next token is passed, and one row more is counted
abbrev pub dropping : Parser → Parser
dropping p =
    record {
      lexer = record { token = p.lexer.token + 1; taken = 0 };
      held = p.held;
      list = p.list;
      builder = p.builder;
      dropped = p.dropped + 1;
    }

-- its row was written behind the others
pub record Dropped (reason : ℕ) (p : Parser) (notes : List ℕ) (q : Parser) (after : List ℕ) : Type 0 where
  pub is : q ≡ dropping p
  pub row : after
      ≡ take (p.dropped * dropped_width) notes
      ++ (dropped_row p.lexer.token reason p.builder.leaves ++ drop (p.dropped * dropped_width + dropped_width) notes)

-- ---- the body of an \if

-- a token of this kind is of the body: it is not the \fi of nesting 0
abbrev pub in_body : ℕ → ℕ → Bool
in_body nested kind = not (eqb EndIf kind && eqb nested 0)

-- the nesting behind it
abbrev pub nested_behind : ℕ → ℕ → ℕ
nested_behind nested kind = cond (eqb EndIf kind) (nested - 1) (cond (is_if kind) (nested + 1) nested)
