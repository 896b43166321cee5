-- `check` meets its contract: its tests are the rule's, in its order, and a search that looks at some tables alone found the first bad row for the
-- others as they came in.
use Rattle.std.proofs.Common.{arith}
use Rattle.std.proofs.lemmas.Bool.Decides.{nat_tests}
use Rattle.rules.specs.Checks.{checks}
use Rattle.syntax.specs.Tables.{given}
use Rattle.checks.proofs.order.check.Goals as goal

pub returns-in-Some-first_bad_shape_or_state : goal.returns-in-Some-first_bad_shape_or_state
unfolding checks
returns-in-Some-first_bad_shape_or_state c =
    let t = given c.args.tables in
    let token = c.first_bad_token.ensures.is t.states in
    let shape = c.first_bad_shape_or_state.ensures.is (t.text, t.tokens) in
    grind (arith, nat_tests)

pub returns : goal.returns
unfolding checks
returns c =
    let t = given c.args.tables in
    let token = c.first_bad_token.ensures.is t.states in
    let shape = c.first_bad_shape_or_state.ensures.is (t.text, t.tokens) in
    grind (arith, nat_tests)
