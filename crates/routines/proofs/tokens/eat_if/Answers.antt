-- The token is eaten where it is of the kind, and else nothing is done.
use Rattle.rules.specs.Flat.{flat}
use Rattle.rules.specs.Routines as spec
use Rattle.state.specs.Contract.{RuleOf}
use Rattle.routines.proofs.ByNext.{kind_there, kind_next, other_next}
use Rattle.routines.proofs.tokens.eat_if.Goals as goal

-- what is read where the kind is next
abbrev read : RuleOf
read s n = spec.eat (flat n) s

pub eat-requires : goal.eat-requires
eat-requires c = (kind_there _ _ _ c.next_is.ensures c.if-next_is.true, c.requires)

pub returns-then-next_is : goal.returns-then-next_is
unfolding spec.eat_if
returns-then-next_is c notes = kind_next _ _ _ c.next_is.ensures (λ t seen. seen) read c.if-next_is.true (c.eat.ensures notes)

pub returns : goal.returns
unfolding spec.eat_if
returns c notes = other_next _ _ _ c.next_is.ensures (λ t seen. seen) read c.if-next_is.false
