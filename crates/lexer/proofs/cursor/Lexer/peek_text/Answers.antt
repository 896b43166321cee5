-- At a fine cursor what is left of the token lies in the text.
use Rattle.std.proofs.Common.{arith}
use Rattle.lexer.proofs.Laws.{rest_inside}
use Rattle.lexer.proofs.cursor.Lexer.peek_text.Goals as goal

pub slice_bounds-result-end : goal.slice_bounds-result-end
slice_bounds-result-end c = omega (arith, rest_inside c.requires.1 c.requires.0)
