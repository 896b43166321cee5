-- The token has a node of its own where it ends an environment, and else nothing is done.
use Rattle.rules.specs.Flat.{flat}
use Rattle.rules.specs.Routines as spec
use Rattle.rules.specs.SyntaxKind.{ItemEnd}
use Rattle.state.specs.Contract.{RuleOf}
use Rattle.routines.proofs.ByNext.{kind_there, kind_next, other_next}
use Rattle.clauses.proofs.end_clause.Goals as goal

-- what is read where the kind is next
abbrev read : RuleOf
read s n = spec.one_in (flat n) s ItemEnd

pub one_in-requires : goal.one_in-requires
one_in-requires c = (kind_there _ _ _ c.next_is.ensures c.if-next_is.true, c.requires)

pub returns-then-next_is : goal.returns-then-next_is
unfolding spec.end_clause
returns-then-next_is c notes = kind_next _ _ _ c.next_is.ensures (λ t seen. seen) read c.if-next_is.true (c.one_in.ensures notes)

pub returns : goal.returns
unfolding spec.end_clause
returns c notes = other_next _ _ _ c.next_is.ensures (λ t seen. seen) read c.if-next_is.false
