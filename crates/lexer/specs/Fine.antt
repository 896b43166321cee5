-- What a parser keeps of its tables and its cursor, so that every part of the text that it takes is there.
use Rattle.std.specs.Prelude.{ℕ, ◌+◌, ◌-◌, ◌≤◌, ◌<◌, ◌^◌, ◌≡◌, true, List, length}
use Rattle.rules.specs.Limits
use Rattle.rules.specs.Token
use Rattle.rules.specs.Characters.{is_utf8}
use Rattle.rules.specs.Tables.{token_count, kind_at, start_at, length_at, part}
use Rattle.rules.specs.Cursor.{Cursor, peek_text}

-- bytes that a Word may have: "Word empty or not UTF-8 (RFC 3629)" is refused
pub record IsWord (bytes : List ℕ) : Type 0 where
  pub some : 1 ≤ length bytes
  pub utf8 : is_utf8 bytes ≡ true

-- tables that were not refused: "start + length past the text", a Word that is none, a text over its limit
pub record Sound (text tokens : List ℕ) : Type 0 where
  pub short : length text ≤ Limits.text
  pub inside : (i : ℕ) → i < token_count tokens → start_at tokens i + length_at tokens i ≤ length text
  pub word : (i : ℕ) → i < token_count tokens → kind_at tokens i ≡ Token.Word → IsWord (part text (start_at tokens i) (length_at tokens i))

-- a cursor at which reading can go on: of the next token fewer bytes are taken than it has, or none (`- 1` ends at 0), and what is left
-- of a Word is a Word
pub record Fine (text tokens : List ℕ) (c : Cursor) : Type 0 where
  pub sound : Sound text tokens
  pub fewer : c.taken ≤ length_at tokens c.token - 1
  pub word : c.token < token_count tokens → kind_at tokens c.token ≡ Token.Word → IsWord (peek_text text tokens c)

-- what the functions ask that look at the next token's row alone: there is one, and what is left of it has a length and a start
pub record Here (tokens : List ℕ) (c : Cursor) : Type 0 where
  pub there : c.token < token_count tokens
  pub taken : c.taken ≤ length_at tokens c.token
  pub small : start_at tokens c.token + c.taken < 2 ^ 32
