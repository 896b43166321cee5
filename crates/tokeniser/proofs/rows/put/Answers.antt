-- Four stores one after the other are the row in its place.
use Rattle.std.proofs.Common.{◌+◌, ◌*◌, ◌≤◌, [], ◌∷◌, length, add-one, arith}
use borrow.Author.Tests.{le-leb}
use Rattle.rules.specs.Limits.{token_width}
use Rattle.builder.proofs.Numbers.{stored, two-on, three_on}
use Rattle.tokeniser.proofs.rows.put.Goals as goal

pub returns : goal.returns
returns c =
    let token = c.args.token in
    let fit : c.args.row * token_width + token_width ≤ length c.args.rows.now = omega arith in
    rw (le-leb _ _ fit, add-one, two-on, three_on) (stored (token.kind ∷ token.start ∷ token.length ∷ 0 ∷ []) _ _ fit)
