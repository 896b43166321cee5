-- The rule is the loop over trivia.
use Rattle.rules.specs.Routines.{trivia}
use Rattle.routines.proofs.tokens.trivia.Goals as goal

pub returns : goal.returns
unfolding trivia
returns c = c.eat_while.ensures
