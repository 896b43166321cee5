-- The tables that are lent, as the rules have them.
use Rattle.std.specs.Prelude.{ℕ, List}
use Rattle.std.specs.Borrow.{Bor}
use Rattle.rules.specs.Checks as rules
use Rattle.syntax.specs.declared.tables.Tables.{Tables}

-- the four lists, in the order of the code
abbrev pub tables : List ℕ → List ℕ → List ℕ → List ℕ → rules.Tables
tables text tokens shapes states = record { text = text; tokens = tokens; shapes = shapes; states = states }

-- the lists that the slices hold
abbrev pub tables_of : Tables → rules.Tables
tables_of t = tables t.text.now t.tokens.now t.shapes.now t.states.now

-- of tables that are lent in one piece
abbrev pub given : Bor Tables → rules.Tables
given t = tables_of t.now
