-- What the bytes of a sheet stand for, as the program `treelist` reads it.
use Rattle.std.specs.Prelude.{ℕ, zero, suc, ◌+◌, ◌*◌, ◌/◌, ◌%◌, Bool, cond, ◌&&◌, List, [], ◌∷◌, ◌++◌, eqb, leb, length, get_or}
use Rattle.std.specs.Prelude.{Option, None as none, Some as some}
use Rattle.rules.specs.Checks.{Tables}
use Rattle.rules.specs.Tables.{part}

-- "reads one sheet .., at most 32,768 bytes"
abbrev pub most_bytes : ℕ
most_bytes = 32768

-- "version byte 1"
abbrev pub version : ℕ
version = 1

-- "numbers 4 bytes, all big-endian": the number whose first byte stands at `at`. A byte past the sheet's end counts as 0
abbrev pub number_bytes : ℕ
number_bytes = 4

unfoldable pub number_at : List ℕ → ℕ → ℕ
number_at sheet at = ((get_or sheet at 0 * 256 + get_or sheet (at + 1) 0) * 256 + get_or sheet (at + 2) 0) * 256 + get_or sheet (at + 3) 0

unfoldable pub numbers_at : List ℕ → ℕ → ℕ → List ℕ
numbers_at sheet at zero = []
numbers_at sheet at (suc count) = number_at sheet at ∷ numbers_at sheet (at + number_bytes) count

-- "then text, tokens, shapes, states, each a 4-byte length and its bytes": where the bytes of the section begin whose length stands at `at`,
-- and where they end
abbrev pub bytes_from : ℕ → ℕ
bytes_from at = at + number_bytes

unfoldable pub end_of : List ℕ → ℕ → ℕ
end_of sheet at = bytes_from at + number_at sheet at

-- where the length of each section stands: the text's behind the version byte, every other's where the section before it ends
abbrev pub text_at : ℕ
text_at = 1

abbrev pub tokens_at : List ℕ → ℕ
tokens_at sheet = end_of sheet text_at

abbrev pub shapes_at : List ℕ → ℕ
shapes_at sheet = end_of sheet (tokens_at sheet)

abbrev pub states_at : List ℕ → ℕ
states_at sheet = end_of sheet (shapes_at sheet)

-- "a table not of whole numbers": this one is
abbrev pub whole_numbers : List ℕ → ℕ → Bool
whole_numbers sheet at = eqb (number_at sheet at % number_bytes) 0

-- "A sheet that is longer, of another version, cut short, followed by more, or with a table not of whole numbers" is refused: this one is none of
-- these. A sheet that is cut short has a section that ends past its end, and one that is followed by more ends behind its last section
unfoldable pub readable : List ℕ → Bool
readable sheet =
    leb (length sheet) most_bytes
    && (eqb (get_or sheet 0 0) version
    && (eqb (end_of sheet (states_at sheet)) (length sheet)
    && (whole_numbers sheet (tokens_at sheet) && (whole_numbers sheet (shapes_at sheet) && whole_numbers sheet (states_at sheet)))))

abbrev pub table_at : List ℕ → ℕ → List ℕ
table_at sheet at = numbers_at sheet (bytes_from at) (number_at sheet at / number_bytes)

abbrev pub tables_of : List ℕ → Tables
tables_of sheet =
    record {
      text = part sheet (bytes_from text_at) (number_at sheet text_at);
      tokens = table_at sheet (tokens_at sheet);
      shapes = table_at sheet (shapes_at sheet);
      states = table_at sheet (states_at sheet);
    }

-- the tables of a sheet; none where it is refused
unfoldable pub read : List ℕ → Option Tables
read sheet = cond (readable sheet) (some (tables_of sheet)) none

-- "prints `refused 9 0`": the number of that refusal
abbrev pub unreadable : ℕ
unreadable = 9

-- ---- the other way round: the bytes of tables

-- A sheet of at most 32,768 bytes is read exactly when it is the bytes of some tables, and it is those that are read (`read_back`, `only_bytes`)
abbrev pub bytes_of_number : ℕ → List ℕ
bytes_of_number n = n / 256 / 256 / 256 % 256 ∷ n / 256 / 256 % 256 ∷ n / 256 % 256 ∷ n % 256 ∷ []

unfoldable pub bytes_of_numbers : List ℕ → List ℕ
bytes_of_numbers [] = []
bytes_of_numbers (n ∷ numbers) = bytes_of_number n ++ bytes_of_numbers numbers

-- "each a 4-byte length and its bytes"
abbrev pub section : List ℕ → List ℕ
section bytes = bytes_of_number (length bytes) ++ bytes

-- "version byte 1, then text, tokens, shapes, states"
unfoldable pub bytes_of : Tables → List ℕ
bytes_of t =
    version
    ∷ (section t.text
    ++ (section (bytes_of_numbers t.tokens) ++ (section (bytes_of_numbers t.shapes) ++ section (bytes_of_numbers t.states))))
