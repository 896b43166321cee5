-- The contracts fix the results (crates/syntax/proofs/Only.antt): each equates the result, or what it stands for, with a rule's value.
-- Assumes nothing.
use mathlib.Core.List.{[]}
use mathlib.Core.Path.{◌≡◌, refl, sym, ap, ap₂, ◌∙◌}
use Rattle.rules.specs.Items as rules
use Rattle.rules.specs.Position as position
use Rattle.syntax.proofs.Only.{Only, equal, fixed, stands, scope, from_scope, kind_at, from_kind}
use Rattle.syntax.specs.SyntaxKind.{number_of}
use Rattle.arg_match.proofs.Fixed.{matcher, from_matcher}
use Rattle.arg_match.specs.Answers.{matcher_of}
use Rattle.items.specs.Items.{item_for, shape_for, piece_for, choice_for}
use Rattle.items.specs.declared.choice.Choice.{Choice}
use Rattle.items.specs.declared.choice.Choice.TheVariants as choice
use Rattle.items.specs.declared.choice.Piece.{Piece}
use Rattle.items.specs.declared.choice.Piece.TheVariants as piece
use Rattle.items.specs.declared.item.Item.{Item}
use Rattle.items.specs.declared.item.Item.TheVariants as item
use Rattle.items.specs.declared.shape.Shape.{Shape}
use Rattle.items.proofs.choice.choose.Reads as choose
use Rattle.items.proofs.choice.greedy_stops.Reads as greedy-stops
use Rattle.items.proofs.item.attachable.Reads as attachable
use Rattle.items.proofs.item.closer.Reads as closer
use Rattle.items.proofs.item.group_kind.Reads as group-kind
use Rattle.items.proofs.item.is_command_name.Reads as is-command-name
use Rattle.items.proofs.item.is_if.Reads as is-if
use Rattle.items.proofs.item.item_of.Reads as item_of
use Rattle.items.proofs.shape.Shape.attachable_command.Reads as attachable-command
use Rattle.items.proofs.shape.Shape.matcher.Reads as matcher-of
use Rattle.items.proofs.shape.Shape.name_only.Reads as name-only
use Rattle.items.proofs.shape.Shape.none.Reads as none
use Rattle.items.proofs.shape.Shape.of_class.Reads as of-class
use Rattle.items.proofs.shape.Shape.of_token.Reads as of-token
use Rattle.items.proofs.shape.Shape.row.Reads as row

pub equations :
    Only greedy-stops.Post
    × Only attachable.Post
    × Only closer.Post
    × Only is-command-name.Post
    × Only is-if.Post
    × Only attachable-command.Post
    × Only name-only.Post
equations = (equal, equal, equal, equal, equal, equal, equal)

pub only_group_kind : Only group-kind.Post
only_group_kind = stands number_of kind_at from_kind

-- ---- shapes

abbrev shape : position.Shape → Shape
shape s = record { class = s.class; form = s.form; value = s.value }

pub shapes : Only none.Post × Only row.Post × Only of-class.Post
shapes = (stands shape_for shape (λ s. refl), stands shape_for shape (λ s. refl), stands shape_for shape (λ s. refl))

-- its contract is for every text and every states, so for none
pub only_of_token : Only of-token.Post
only_of_token = record { same = λ κs a x y e p q. fixed shape_for shape (λ s. refl) x y (p [] [] ∙ sym (q [] [])) }

pub only_matcher : Only matcher-of.Post
only_matcher = stands matcher_of matcher from_matcher

-- ---- items

abbrev item_back : rules.Item → Item
item_back rules.plain = item.Plain
item_back rules.error = item.Error
item_back rules.word = item.Word
item_back rules.comma = item.Comma
item_back (rules.group s) = item.Group (scope s)
item_back (rules.attachment script) = item.Attachment script
item_back rules.command = item.Command
item_back rules.environment = item.Environment
item_back rules.left_right = item.LeftRight
item_back (rules.skipped node) = item.Skipped (kind_at node)

from_item : (i : Item) → item_back (item_for i) ≡ i
from_item item.Plain = refl
from_item item.Error = refl
from_item item.Word = refl
from_item item.Comma = refl
from_item (item.Group s) = ap item.Group (from_scope s)
from_item (item.Attachment script) = refl
from_item item.Command = refl
from_item item.Environment = refl
from_item item.LeftRight = refl
from_item (item.Skipped node) = ap item.Skipped (from_kind node)

pub only_item_of : Only item_of.Post
only_item_of = stands item_for item_back from_item

-- ---- choices

-- no piece of the code is a character, so where that leads back to does not matter
abbrev piece_back : rules.Piece → Piece
piece_back rules.character = piece.Item
piece_back (rules.within s) = piece.Within (scope s)
piece_back rules.brace = piece.Brace
piece_back rules.item = piece.Item

from_piece : (p : Piece) → piece_back (piece_for p) ≡ p
from_piece (piece.Within s) = ap piece.Within (from_scope s)
from_piece piece.Brace = refl
from_piece piece.Item = refl

abbrev choice_back : rules.Choice → Choice
choice_back rules.ends = choice.Ends
choice_back rules.holds = choice.Holds
choice_back (rules.takes what next) = choice.Takes (piece_back what) (matcher next)

from_choice : (c : Choice) → choice_back (choice_for c) ≡ c
from_choice choice.Ends = refl
from_choice choice.Holds = refl
from_choice (choice.Takes what next) = ap₂ choice.Takes (from_piece what) (from_matcher next)

pub only_choose : Only choose.Post
only_choose = stands choice_for choice_back from_choice
