-- Three tables are read into the buffer, each behind those that are there.
use Rattle.sheets.proofs.Reading.{filled}
use Rattle.sheets.proofs.sheet.fill.Goals as goal

pub returns : goal.returns
returns c = search filled
