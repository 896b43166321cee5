-- How items, shapes and choices of the code stand for the rules', case by case.
use Rattle.rules.specs.Items as rules
use Rattle.rules.specs.Position as position
use Rattle.arg_match.specs.Answers.{matcher_of}
use Rattle.syntax.specs.ParseScope.{scope_of}
use Rattle.syntax.specs.SyntaxKind.{number_of}
use Rattle.items.specs.declared.choice.Choice.{Choice}
use Rattle.items.specs.declared.choice.Choice.TheVariants as choice
use Rattle.items.specs.declared.choice.Piece.{Piece}
use Rattle.items.specs.declared.choice.Piece.TheVariants as piece
use Rattle.items.specs.declared.item.Item.{Item}
use Rattle.items.specs.declared.item.Item.TheVariants as item
use Rattle.items.specs.declared.shape.Shape.{Shape}

abbrev pub item_for : Item → rules.Item
item_for item.Plain = rules.plain
item_for item.Error = rules.error
item_for item.Word = rules.word
item_for item.Comma = rules.comma
item_for (item.Group scope) = rules.group (scope_of scope)
item_for (item.Attachment script) = rules.attachment script
item_for item.Command = rules.command
item_for item.Environment = rules.environment
item_for item.LeftRight = rules.left_right
item_for (item.Skipped node) = rules.skipped (number_of node)

abbrev pub shape_for : Shape → position.Shape
shape_for s = record { class = s.class; form = s.form; value = s.value }

-- a character of a Word is no case of the code's: Words are split before a piece is chosen
abbrev pub piece_for : Piece → rules.Piece
piece_for (piece.Within scope) = rules.within (scope_of scope)
piece_for piece.Brace = rules.brace
piece_for piece.Item = rules.item

abbrev pub choice_for : Choice → rules.Choice
choice_for choice.Ends = rules.ends
choice_for choice.Holds = rules.holds
choice_for (choice.Takes piece next) = rules.takes (piece_for piece) (matcher_of next)
