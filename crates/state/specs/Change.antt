-- A state with one part of it changed.
use Rattle.std.specs.Prelude.{◌+◌, ◌-◌}
use Rattle.lexer.specs.declared.cursor.Lexer.{Lexer}
use Rattle.builder.specs.declared.GreenNodeBuilder.{GreenNodeBuilder}
use Rattle.state.specs.declared.KeptMark.{KeptMark}
use Rattle.state.specs.declared.ListState.{ListState}
use Rattle.state.specs.declared.Parser.{Parser}

-- the cursor stands elsewhere
abbrev pub relexed : Parser → Lexer → Parser
relexed p l = record { lexer = l; held = p.held; list = p.list; builder = p.builder; dropped = p.dropped }

-- another list
abbrev pub relisted : Parser → ListState → Parser
relisted p l = record { lexer = p.lexer; held = p.held; list = l; builder = p.builder; dropped = p.dropped }

-- the same list with other marks
abbrev pub remarked : Parser → KeptMark → KeptMark → Parser
remarked p start last = relisted p (record { scope = p.list.scope; start = start; last = last })

-- nothing is held
abbrev pub unheld : Parser → Parser
unheld p = record { lexer = p.lexer; held = p.lexer.token; list = p.list; builder = p.builder; dropped = p.dropped }

-- the builder went on
abbrev pub rebuilt : Parser → GreenNodeBuilder → Parser
rebuilt p b = record { lexer = p.lexer; held = p.held; list = p.list; builder = b; dropped = p.dropped }

-- what was held has a dropped row for each token
abbrev pub ignored : Parser → Parser
ignored p =
    record { lexer = p.lexer; held = p.lexer.token; list = p.list; builder = p.builder; dropped = p.dropped + (p.lexer.token - p.held) }
