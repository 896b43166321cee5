-- Rows of the tables that come in, read from flat lists of numbers.
use Rattle.std.specs.Prelude.{ℕ, ◌+◌, ◌*◌, ◌/◌, List, length, get_or, take, drop}
use Rattle.rules.specs.Limits

-- the number in a column of a row of a table whose rows have `width` numbers; 0 past the table's end
abbrev pub cell : ℕ → List ℕ → ℕ → ℕ → ℕ
cell width table row column = get_or table (row * width + column) 0

-- "Token row: kind, start, length, shape number (0 none, k the k-th shape)."
abbrev pub token_count : List ℕ → ℕ
token_count tokens = length tokens / Limits.token_width

abbrev pub kind_at : List ℕ → ℕ → ℕ
kind_at tokens i = cell Limits.token_width tokens i 0

abbrev pub start_at : List ℕ → ℕ → ℕ
start_at tokens i = cell Limits.token_width tokens i 1

abbrev pub length_at : List ℕ → ℕ → ℕ
length_at tokens i = cell Limits.token_width tokens i 2

abbrev pub shape_at : List ℕ → ℕ → ℕ
shape_at tokens i = cell Limits.token_width tokens i 3

-- a part of the text
abbrev pub part : List ℕ → ℕ → ℕ → List ℕ
part text start size = take size (drop start text)
