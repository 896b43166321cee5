-- The numbers of refusal by name.
use Rattle.std.specs.Prelude.{ℕ}
use Rattle.rules.specs.Outcome as Outcome
use Rattle.rules.specs.Tokeniser as Tokeniser
use Rattle.syntax.specs.declared.refusal.Refusal.{Refusal}
use Rattle.syntax.specs.declared.refusal.Refusal.TheVariants.{Limit, DroppedRoom, Token, Shape, GreedyEnvironment, MarkBeforeNode, TooManyOpen, NoRoom, Sheet, NotAscii}

-- 'Numbers of refusal': 1 to 4 are those of the tables, 9 is that of a sheet
abbrev pub number_of : Refusal → ℕ
number_of Limit = 1
number_of DroppedRoom = 2
number_of Token = 3
number_of Shape = 4
number_of GreedyEnvironment = Outcome.greedy_environment
number_of MarkBeforeNode = Outcome.mark_before_node
number_of TooManyOpen = Outcome.too_many_open
number_of NoRoom = Outcome.no_room
number_of Sheet = 9
number_of NotAscii = Tokeniser.not_ascii
