-- The name lies in the text.
use Rattle.std.proofs.Common.{rules}
use Rattle.tokeniser.proofs.Stops.{name-inside}
use Rattle.tokeniser.proofs.lexeme.command.Goals as goal

pub slice_bounds-kind_of-end : goal.slice_bounds-kind_of-end
slice_bounds-kind_of-end c = let inside = name-inside _ _ _ c.requires.0 c.name_end-end.ensures in search rules
