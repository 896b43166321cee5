-- The routine's promise holds for all tables that agree with more than it sees.
use Rattle.state.proofs.Outside.{ran-seeing}
use Rattle.routines.proofs.tokens.word_character.Goals as goal

pub returns : goal.returns
returns c notes = ran-seeing (λ t seen. (seen.1, rw seen.0 c.peek_text.ensures)) (c.single_char.ensures notes)
