-- Three stores one after the other are the row in its place.
use Rattle.std.proofs.Common.{[], ◌∷◌, add-one}
use Rattle.builder.proofs.Numbers.{stored, two-on}
use Rattle.builder.proofs.dropped.drop_token.Goals as goal

pub returns : goal.returns
returns c =
    let x = c.args in
    rw (add-one, two-on) (stored (x.token ∷ x.reason ∷ x.leaves ∷ []) _ _ c.requires)
