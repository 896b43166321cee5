-- What an item that begins with a kind of token is (`content` of parser.rs), and what a command's shape asks for.
use Rattle.std.specs.Prelude.{ℕ, Bool, true, false, not, cond, ◌&&◌, ◌||◌, List, [], ◌∷◌, eqb, leb}
use Rattle.rules.specs.Matcher.{term, bracket, paren, Matcher, Matched, not_accepted, whole, bare, form_none, form_fixed, form_greedy, form_left1, form_infix_greedy, match_next}
use Rattle.rules.specs.Kinds.{is_trivia}
use Rattle.rules.specs.Limits
use Rattle.rules.specs.Position.{Shape}
use Rattle.rules.specs.Scope
use Rattle.rules.specs.Scope.{Scope, among, stops}
use Rattle.rules.specs.SyntaxKind
use Rattle.rules.specs.Token

pub data Item : Type 0 where
  -- the token alone
  plain : Item
  -- a node of kind TokenError around the token
  error : Item
  -- a text, or one character where a script is read
  word : Item
  -- a text
  comma : Item
  -- a group with this scope
  group : Scope → Item
  -- `'`, `_` or `^`: whether a script follows
  attachment : Bool → Item
  command : Item
  environment : Item
  -- `\left`
  left_right : Item
  -- a body that is skipped, in a node of this kind
  skipped : ℕ → Item

-- the arms of `content`'s match, which is "as the source has" it. A kind that is not named is eaten alone
abbrev pub item_of : ℕ → Item
item_of kind =
    cond (eqb kind Token.LeftCurly) (group Scope.CurlyItem)
    (cond (eqb kind Token.Apostrophe) (attachment false)
    (cond (among kind (Token.Underscore ∷ Token.Caret ∷ [])) (attachment true)
    (cond (among kind (Token.RightCurly ∷ Token.MacroArg ∷ Token.EndEnvironment ∷ Token.EndMath ∷ [])) error
    (cond (eqb kind Token.Word) word
    (cond (eqb kind Token.Comma) comma
    (cond (eqb kind Token.Dollar) (group Scope.DollarFormula)
    (cond (eqb kind Token.BeginMath) (group Scope.CmdFormula)
    (cond (among kind (Token.Generic ∷ Token.If ∷ Token.Else ∷ Token.EndIf ∷ Token.Right ∷ [])) command
    (cond (eqb kind Token.BeginEnvironment) environment
    (cond (eqb kind Token.IfFalse) (skipped SyntaxKind.ItemBlockComment)
    (cond (eqb kind Token.IfTypst) (skipped SyntaxKind.ItemTypstCode)
    (cond (eqb kind Token.Left) left_right plain))))))))))))

-- the node of a group, and the kind of token that closes it (`item_group`)
abbrev pub group_kind : Scope → ℕ
group_kind Scope.Root = SyntaxKind.ScopeRoot
group_kind Scope.DollarFormula = SyntaxKind.ItemFormula
group_kind Scope.CmdFormula = SyntaxKind.ItemFormula
group_kind Scope.Environment = SyntaxKind.ItemEnv
group_kind Scope.LR = SyntaxKind.ItemLR
group_kind Scope.CurlyItem = SyntaxKind.ItemCurly
group_kind Scope.BracketItem = SyntaxKind.ItemBracket
group_kind Scope.ParenItem = SyntaxKind.ItemParen

-- no kind of token closes the root
abbrev pub closer : Scope → ℕ
closer Scope.Root = Limits.kinds
closer Scope.DollarFormula = Token.Dollar
closer Scope.CmdFormula = Token.EndMath
closer Scope.Environment = Token.EndEnvironment
closer Scope.LR = Token.Right
closer Scope.CurlyItem = Token.RightCurly
closer Scope.BracketItem = Token.RightBracket
closer Scope.ParenItem = Token.RightParen

-- `CommandName(..)`: "26 Generic, .. 39 Right"
abbrev pub is_command_name : ℕ → Bool
is_command_name kind = leb Token.Generic kind && leb kind Token.Right

-- `If(..)`: "Counting only `\iffalse` in a nested body" is a slip: any \if counts
abbrev pub is_if : ℕ → Bool
is_if kind = among kind (Token.IfFalse ∷ Token.IfTypst ∷ Token.If ∷ [])

-- ---- shapes

-- "1 command, 2 environment"
abbrev pub class_command : ℕ
class_command = 1

abbrev pub class_environment : ℕ
class_environment = 2

-- "no entry" in the shape table
abbrev pub no_shape : Shape
no_shape = record { class = 0; form = form_none; value = 0 }

-- a shape where one of this class is asked for: another class counts as no entry ("no entry, class 2, ..")
abbrev pub of_class : ℕ → Shape → Shape
of_class class s = cond (eqb s.class class) s no_shape

-- "no entry, class 2, form 0, or fixed 0: name only". Not range 0: "Range 0 is not form 0"
abbrev pub name_only : Shape → Bool
name_only s = eqb s.form form_none || (eqb s.form form_fixed && eqb s.value 0)

-- "Left1: ..; not attachable. .. Greedy commands, infix too, aren't attachable, others are."
abbrev pub attachable_command : Shape → Bool
attachable_command s = not (among s.form (form_left1 ∷ form_infix_greedy ∷ form_greedy ∷ []))

-- the kinds of tokens that are no base of a script: `&`, `\\`, blanks, breaks and comments, `#`, `*`, `@` and errors
abbrev pub no_base : List ℕ
no_base =
    Token.Ampersand ∷ Token.NewLine ∷ Token.LineBreak ∷ Token.Whitespace ∷ Token.LineComment
    ∷ Token.Hash ∷ Token.Asterisk ∷ Token.AtSign ∷ Token.Error ∷ []

-- "an item whose reading says attachable": `content`'s answer, which is fixed by the kind that the item begins with and, if it is a command, by its
-- shape
abbrev pub attachable_item : Item → ℕ → Shape → Bool
attachable_item plain kind s = not (among kind no_base)
attachable_item error kind s = true
attachable_item word kind s = true
attachable_item comma kind s = true
attachable_item (group scope) kind s = not (among kind (Token.Dollar ∷ Token.BeginMath ∷ []))
attachable_item (attachment script) kind s = false
attachable_item command kind s = attachable_command (of_class class_command s)
attachable_item environment kind s = true
attachable_item left_right kind s = true
attachable_item (skipped node) kind s = true

unfoldable pub attachable : ℕ → Shape → Bool
attachable kind s = attachable_item (item_of kind) kind s

-- ---- where greedy arguments stop

-- `inside_env`
abbrev pub is_environment : Scope → Bool
is_environment Scope.Root = false
is_environment Scope.DollarFormula = false
is_environment Scope.CmdFormula = false
is_environment Scope.Environment = true
is_environment Scope.LR = false
is_environment Scope.CurlyItem = false
is_environment Scope.BracketItem = false
is_environment Scope.ParenItem = false

-- "Greedy: stops at `&`, at the scope's stops, and at NewLine only if the scope is Environment."
unfoldable pub greedy_stops : Scope → ℕ → Bool
greedy_stops scope kind = eqb kind Token.Ampersand || ((eqb kind Token.NewLine && is_environment scope) || stops scope kind)

-- ---- what the next argument of a command or a \begin is

-- how an argument is read
pub data Piece : Type 0 where
  -- "A Word gives one argument a character"
  character : Piece
  -- a whole group: a curly one, and "Glob: .. `[` and `(` read whole groups."
  within : Scope → Piece
  -- "`[` or `(` counts as a term and is eaten alone."
  brace : Piece
  -- any other item
  item : Piece

pub data Choice : Type 0 where
  -- the arguments end here. "A refused character ends the word loop and the argument loop together."
  ends : Choice
  -- "Trivia is held"
  holds : Choice
  -- it is taken so, and the matcher goes on so
  takes : Piece → Matcher → Choice

-- by the matcher's answer: the arguments end, the piece is taken whole, or its opening brace alone
abbrev pub if_matched : Piece → Matched → Choice
if_matched piece not_accepted = ends
if_matched piece (whole m) = takes piece m
if_matched piece (bare m) = takes brace m

-- the arms of `match_arguments_`. "Non-greedy: stops at `&`, `^`, `_` and the scope's stops. Trivia is held; .."
unfoldable pub choose : List ℕ → Scope → Matcher → ℕ → Choice
choose states scope m kind =
    cond (is_trivia kind) holds
    (cond (among kind (Token.Ampersand ∷ Token.Caret ∷ Token.Underscore ∷ [])) ends
    (cond (eqb kind Token.Word) (if_matched character (match_next states m term))
    (cond (eqb kind Token.LeftCurly) (if_matched (within Scope.CurlyItem) (match_next states m term))
    (cond (eqb kind Token.LeftBracket) (if_matched (within Scope.BracketItem) (match_next states m bracket))
    (cond (eqb kind Token.LeftParen) (if_matched (within Scope.ParenItem) (match_next states m paren))
    (cond (stops scope kind) ends (if_matched item (match_next states m term))))))))
