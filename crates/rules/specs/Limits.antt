-- The limits of 01, and how many numbers a row of each table has.
use Rattle.std.specs.Prelude.{ℕ}

-- "Text: bytes, at most 65,535."
abbrev pub text : ℕ
text = 65535

-- "Token row: kind, start, length, shape number .. At most 16,384."
abbrev pub tokens : ℕ
tokens = 16384

abbrev pub token_width : ℕ
token_width = 4

-- "Shape row: class .., form, value. .. At most 4,096."
abbrev pub shapes : ℕ
shapes = 4096

abbrev pub shape_width : ℕ
shape_width = 3

-- "State row: for t, b, p the next state, or 0 for not accepted. At most 4,096."
abbrev pub states : ℕ
states = 4096

abbrev pub state_width : ℕ
state_width = 3

-- "Tree row: tag .., kind, start, length", and of 02's #101: "Each tree row gets a fifth number"
abbrev pub tree_width : ℕ
tree_width = 5

-- "Dropped row: token index, reason .., leaves written before it."
abbrev pub dropped_width : ℕ
dropped_width = 3

-- "a 129th node would be open, root counted": so many may be
abbrev pub nodes : ℕ
nodes = 128

-- "Token kinds: 0 .. 39"
abbrev pub kinds : ℕ
kinds = 40
