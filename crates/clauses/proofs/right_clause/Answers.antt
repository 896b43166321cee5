-- The clause is read where `\right` is next, and else nothing is done.
use Rattle.rules.specs.Flat.{flat}
use Rattle.rules.specs.Routines as spec
use Rattle.state.specs.Contract.{RuleOf}
use Rattle.routines.proofs.ByNext.{kind_there, kind_next, other_next}
use Rattle.clauses.proofs.right_clause.Goals as goal

-- what is read where the kind is next
abbrev read : RuleOf
read s n = spec.clause_lr (flat n) s

pub clause_lr-requires : goal.clause_lr-requires
clause_lr-requires c = (kind_there _ _ _ c.next_is.ensures c.if-next_is.true, c.requires)

pub returns-then-next_is : goal.returns-then-next_is
unfolding spec.right_clause
returns-then-next_is c notes = kind_next _ _ _ c.next_is.ensures (λ t seen. seen.1) read c.if-next_is.true (c.clause_lr.ensures notes)

pub returns : goal.returns
unfolding spec.right_clause
returns c notes = other_next _ _ _ c.next_is.ensures (λ t seen. seen.1) read c.if-next_is.false
