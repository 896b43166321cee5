-- antt computes that all 128 digits of each class are the rule's.
use Rattle.std.proofs.Common.{refl}
use Rattle.tokeniser.proofs.Bytes.{by_test}
use Rattle.tokeniser.proofs.class.Class.bits.Goals as goal

pub returns-in-Break : goal.returns-in-Break
returns-in-Break c = rw c.in-Break.is (by_test _ _ refl)

pub returns-in-Blank : goal.returns-in-Blank
returns-in-Blank c = rw c.in-Blank.is (by_test _ _ refl)

pub returns-in-NoBreak : goal.returns-in-NoBreak
returns-in-NoBreak c = rw c.in-NoBreak.is (by_test _ _ refl)

pub returns-in-Word : goal.returns-in-Word
returns-in-Word c = rw c.in-Word.is (by_test _ _ refl)

pub returns-in-Letter : goal.returns-in-Letter
returns-in-Letter c = rw c.in-Letter.is (by_test _ _ refl)

pub returns-in-Name : goal.returns-in-Name
returns-in-Name c = rw c.in-Name.is (by_test _ _ refl)
