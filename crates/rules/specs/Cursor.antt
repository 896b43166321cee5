-- Where reading stands in the token rows: the lexer's `peek`, `eat` and `consume_utf8_bytes` (the lexer's lib.rs).
use Rattle.std.specs.Prelude.{ℕ, ◌+◌, ◌*◌, ◌-◌, cond, List, leb, ltb}
use Rattle.std.specs.Prelude.{Option, None as none, Some as some}
use Rattle.rules.specs.Limits
use Rattle.rules.specs.Tables.{token_count, kind_at, start_at, length_at, part}

-- "the first token not wholly read", and how many bytes of it are taken
pub record Cursor : Type 0 where
  pub token : ℕ
  pub taken : ℕ

-- "Places count from 0."
abbrev pub at_start : Cursor
at_start = record { token = 0; taken = 0 }

-- `peek`: the next token's kind, if there is one
unfoldable pub peek : List ℕ → Cursor → Option ℕ
peek tokens c = cond (ltb c.token (token_count tokens)) (some (kind_at tokens c.token)) none

-- where what is left of the next token starts, and how long it is: "what is left of the word is handed on as a part that starts in its middle"
unfoldable pub rest_start : List ℕ → Cursor → ℕ
rest_start tokens c = start_at tokens c.token + c.taken

unfoldable pub rest_length : List ℕ → Cursor → ℕ
rest_length tokens c = length_at tokens c.token - c.taken

-- `peek_text`: the text of what is left of the next token
unfoldable pub peek_text : List ℕ → List ℕ → Cursor → List ℕ
peek_text text tokens c = part text (rest_start tokens c) (rest_length tokens c)

-- `eat`: the next token is passed
abbrev pub eaten : Cursor → Cursor
eaten c = record { token = c.token + 1; taken = 0 }

-- `consume_utf8_bytes`: so many bytes of it are passed, or all of it where there are no more. "A token is read once its last leaf is written"
unfoldable pub consumed : List ℕ → ℕ → Cursor → Cursor
consumed tokens count c = cond (leb (rest_length tokens c) count) (eaten c) (record { token = c.token; taken = c.taken + count })

-- what is left to read, as a number that falls with each step: a token counts for more than the bytes that it can have
unfoldable pub left : List ℕ → Cursor → ℕ
left tokens c = (token_count tokens - c.token) * (Limits.text + 1) - c.taken
