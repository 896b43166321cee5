-- A blank and then the number.
use Rattle.listings.proofs.Writing.{byte_then}
use Rattle.listings.proofs.write.field.Goals as goal

pub returns : goal.returns
returns c = search byte_then
