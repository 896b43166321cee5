-- The kind of the leaf is what the token's kind turns into.
use Rattle.rules.specs.Routines.{eat}
use Rattle.state.proofs.Walk.{ran-as}
use Rattle.routines.proofs.tokens.eat.Goals as goal

pub returns : goal.returns
unfolding eat
returns c notes = ran-as (c.eat_as.ensures notes) (λ t seen n. rw (seen, ← c.cell.ensures, ← c.from_token.ensures, ← c.number-kind.ensures))
