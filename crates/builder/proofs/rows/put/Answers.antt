-- Five stores one after the other are the row in its place.
use Rattle.std.proofs.Common.{[], ◌∷◌, add-one}
use Rattle.syntax.specs.Rows.{tag_number}
use Rattle.builder.proofs.Numbers.{stored, two-on, three_on, four-on}
use Rattle.builder.proofs.rows.put.Goals as goal

pub returns : goal.returns
returns c =
    let x = c.args in
    rw (add-one, two-on, three_on, four-on, c.number.ensures)
    (stored (tag_number x.tag ∷ x.kind ∷ x.start ∷ x.size ∷ x.token ∷ []) _ _ c.requires)
