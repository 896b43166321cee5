-- The rules agree with 01, and with answers of the Rust, on every formula, row and sheet of the tables: antt computes both sides. The check takes
-- files by name, so these theorems come before the proofs that follow a rule's shape: a slip in a rule is told by a formula whose answer it changes.
pub use Rattle.rules.specs.Cases.{examples as formulas-agree}
pub use Rattle.rules.specs.DroppedCases.{examples as dropped-rows-agree}
pub use Rattle.rules.specs.PutBackCases.{examples as put-back-agrees}
pub use Rattle.rules.specs.QuestionCases.{examples as questions-agree}
pub use Rattle.rules.specs.SheetCases.{examples as sheets-agree}
