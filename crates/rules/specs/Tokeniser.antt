-- From formula text to token rows (02, #103): the tokens of a text, one behind the other, and what the lent rows hold afterwards.
use Rattle.std.specs.Prelude.{ℕ, zero, suc, ◌+◌, ◌*◌, ◌≤◌, ◌<◌, ◌≡◌, Bool, cond, ◌&&◌, ◌||◌, List, [], ◌∷◌, ◌++◌, eqb, leb, ltb, length, get_or, take, drop}
use Rattle.std.specs.Prelude.{Option, None as none, Some as some}
use Rattle.rules.specs.Checks.{first_bad}
use Rattle.rules.specs.Commands.{name_size, kind_of, in_braces, with_name, takes_name}
use Rattle.rules.specs.Limits
use Rattle.rules.specs.Notation.{bytes}
use Rattle.rules.specs.Patterns.{patterns, no_pattern, pattern_of}
use Rattle.rules.specs.Run.{over}
use Rattle.rules.specs.Tables.{token_count, kind_at, start_at, length_at, part}
use Rattle.rules.specs.Token

-- a token in front of what is left: how many bytes its source range has, and which of them are its text. "Every byte lies in exactly one token's
-- source range, its text or, for 27 and 28, backslash to `}`."
pub record Lexeme : Type 0 where
  pub kind : ℕ
  pub size : ℕ
  -- so many bytes stand before its text
  pub lead : ℕ
  pub length : ℕ

-- one whose text is its source range
abbrev pub plain : ℕ → ℕ → Lexeme
plain kind size = record { kind = kind; size = size; lead = 0; length = size }

-- a \begin or \end of so many bytes, behind which a name of so many stands in braces
abbrev pub environment : ℕ → ℕ → ℕ → Lexeme
environment kind word name = record { kind = with_name kind; size = word + 1 + name + 1; lead = word + 1; length = name }

-- a backslash and its name
abbrev pub command : List ℕ → Lexeme
command left =
    let size = 1 + name_size (drop 1 left) in
    let kind = kind_of (take (name_size (drop 1 left)) (drop 1 left)) in
    let name = in_braces (drop size left) in
    cond (takes_name kind && ltb 0 name) (environment kind size name) (plain kind size)

-- the token in front of what is left: the longest match, and of a command name what `Commands` says
unfoldable pub lexeme : List ℕ → Lexeme
lexeme left =
    let best = pattern_of left in
    cond (eqb best.kind Token.Generic) (command left) (plain best.kind (best.matched left))

-- the tokens of what is left, at most so many: there are no more than bytes
unfoldable pub lexemes : ℕ → List ℕ → List Lexeme
lexemes zero left = []
lexemes (suc most) [] = []
lexemes (suc most) (byte ∷ left) = lexeme (byte ∷ left) ∷ lexemes most (drop (lexeme (byte ∷ left)).size (byte ∷ left))

abbrev pub tokens_of : List ℕ → List Lexeme
tokens_of text = lexemes (length text) text

-- "Token row: kind, start, length, shape number"; "shape numbers are 0": of tokens that follow each other from a place on
abbrev pub rows_from : ℕ → List Lexeme → List ℕ
rows_from at [] = []
rows_from at (t ∷ more) = t.kind ∷ (at + t.lead) ∷ t.length ∷ 0 ∷ rows_from (at + t.size) more

unfoldable pub token_rows : List ℕ → List ℕ
token_rows text = rows_from 0 (tokens_of text)

-- ---- source ranges

-- what stands in a token's source range before its text and behind it: "its text or, for 27 and 28, backslash to `}`"
abbrev pub opening : ℕ → List ℕ
opening kind = cond (eqb kind Token.BeginEnvironment) (bytes "\\begin{") (cond (eqb kind Token.EndEnvironment) (bytes "\\end{") [])

abbrev pub closing : ℕ → List ℕ
closing kind = cond (eqb kind Token.BeginEnvironment || eqb kind Token.EndEnvironment) (bytes "}") []

-- the source text of a token row, and of so many rows from one on, joined in order
abbrev pub source_text : List ℕ → List ℕ → ℕ → List ℕ
source_text text tokens i = opening (kind_at tokens i) ++ (part text (start_at tokens i) (length_at tokens i) ++ closing (kind_at tokens i))

abbrev pub sources_from : List ℕ → List ℕ → ℕ → ℕ → List ℕ
sources_from text tokens i zero = []
sources_from text tokens i (suc n) = source_text text tokens i ++ sources_from text tokens (i + 1) n

-- where a token row's source range ends
abbrev pub source_end : List ℕ → ℕ → ℕ
source_end tokens i = start_at tokens i + length_at tokens i + length (closing (kind_at tokens i))

-- "Every byte lies in exactly one token's source range": from the i-th row on each begins where the one before it ends, none is empty, and the last
-- ends at `end`
pub data Tiles (tokens : List ℕ) (end : ℕ) : ℕ → ℕ → Type 0 where
  done : {i at : ℕ} → i ≡ token_count tokens → at ≡ end → Tiles tokens end i at
  next : {i at : ℕ} → i < token_count tokens → start_at tokens i ≡ at + length (opening (kind_at tokens i)) → at < source_end tokens i
      → Tiles tokens end (i + 1) (source_end tokens i)
      → Tiles tokens end i at

-- each token is the longest match at its place: from the i-th row on, each is the rules' token where its source range begins, and no pattern matches
-- past the range's end
pub data Longest (text tokens : List ℕ) : ℕ → ℕ → Type 0 where
  done : {i at : ℕ} → i ≡ token_count tokens → Longest text tokens i at
  next : {i at : ℕ} → kind_at tokens i ≡ (lexeme (drop at text)).kind → source_end tokens i ≡ at + (lexeme (drop at text)).size
      → ((k : ℕ) → at + (get_or patterns k no_pattern).matched (drop at text) ≤ source_end tokens i)
      → Longest text tokens (i + 1) (source_end tokens i)
      → Longest text tokens i at

-- ---- the answer

pub data Tokenised : Type 0 where
  written : ℕ → Tokenised
  refused_at : ℕ → ℕ → Tokenised

-- "11, a byte over 127, place its offset"
abbrev pub not_ascii : ℕ
not_ascii = 11

abbrev pub is_ascii : List ℕ → ℕ → Bool
is_ascii text at = leb (get_or text at 0) 127

-- "1 for size": "Text: bytes, at most 65,535", "Token row: .. At most 16,384."; "too few token rows lent, also 1"
abbrev pub fits : List ℕ → ℕ → Bool
fits text room =
    leb (length text) Limits.text
    && (leb (length (tokens_of text)) Limits.tokens && leb (length (tokens_of text) * Limits.token_width) room)

-- an answer with the lent rows after it: "none writes anything", and what lies behind the rows keeps what it held
abbrev pub judged : List ℕ → List ℕ → Option ℕ → Tokenised × List ℕ
judged text buffer (some place) = (refused_at not_ascii place, buffer)
judged text buffer none =
    cond (fits text (length buffer)) (written (length (tokens_of text)), over (token_rows text) buffer) (refused_at 1 0, buffer)

unfoldable pub tokenise : List ℕ → List ℕ → Tokenised × List ℕ
tokenise text buffer = judged text buffer (first_bad (is_ascii text) (length text) 0)
