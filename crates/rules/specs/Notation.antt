-- How the tables of cases write formulas and trees: tokens and leaves with their texts, and trees with the names of 01, in parentheses for its
-- brackets. 01's  Root[Attach[Arg[Text a] _ b]]  is here  Root (Attach (Arg (Text "a") & underscore & word "b"))
use Rattle.std.specs.Prelude.{ℕ, ◌+◌, ◌*◌, ◌-◌, cond, List, [], ◌∷◌, ◌++◌, eqb, length}
use Prim.Native.Char.{code}
use Prim.Native.String.{String, [] as no_more, ◌∷◌ as ◌before◌}
use Rattle.rules.specs.Flat.{leaf_row, start_row, finish_row, with_token, dropped_row}
use Rattle.rules.specs.Items.{class_command, class_environment}
use Rattle.rules.specs.Matcher.{form_fixed, form_range, form_greedy, form_glob, form_left1, form_infix_greedy}
use Rattle.rules.specs.SyntaxKind

-- the bytes of a text; all texts here are of ASCII characters, whose code is their byte
abbrev pub bytes : String → List ℕ
bytes no_more = []
bytes (c before rest) = code c ∷ bytes rest

-- numbers in decimal digits, with a blank between two
abbrev pub numbers_from : ℕ → List ℕ → List ℕ
numbers_from n [] = n ∷ []
numbers_from n (byte ∷ rest) = cond (eqb byte 32) (n ∷ numbers_from 0 rest) (numbers_from (n * 10 + (byte - 48)) rest)

abbrev pub numbers : String → List ℕ
numbers text = numbers_from 0 (bytes text)

-- ---- formulas

-- a part of a formula's text: a token of a kind, with a number of a shape; or what no token has, as `\begin{`
pub data Part : Type 0 where
  token : ℕ → String → ℕ → Part
  between : String → Part

abbrev pub ◌of◌ : ℕ → String → Part
◌of◌ kind text = token kind text 0

-- "shape number (0 none, k the k-th shape)"
abbrev pub ◌of◌shaped◌ : ℕ → String → ℕ → Part
◌of◌shaped◌ kind text k = token kind text k

infix 70 ◌of◌
infix 70 ◌of◌shaped◌
abbrev pub part_text : Part → List ℕ
part_text (token kind text k) = bytes text
part_text (between text) = bytes text

abbrev pub text_of : List Part → List ℕ
text_of [] = []
text_of (p ∷ rest) = part_text p ++ text_of rest

-- "Token row: kind, start, length, shape number", from a place in the text on
abbrev pub row_from : ℕ → Part → List ℕ
row_from at (token kind text k) = kind ∷ at ∷ length (bytes text) ∷ k ∷ []
row_from at (between text) = []

abbrev pub rows_from : ℕ → List Part → List ℕ
rows_from at [] = []
rows_from at (p ∷ rest) = row_from at p ++ rows_from (at + length (part_text p)) rest

abbrev pub tokens_of : List Part → List ℕ
tokens_of parts = rows_from 0 parts

-- "Shape row: class (1 command, 2 environment), form, value."
abbrev pub fixed : ℕ → List ℕ
fixed n = class_command ∷ form_fixed ∷ n ∷ []

abbrev pub fixed_environment : ℕ → List ℕ
fixed_environment n = class_environment ∷ form_fixed ∷ n ∷ []

abbrev pub range : ℕ → List ℕ
range most = class_command ∷ form_range ∷ most ∷ []

abbrev pub greedy : List ℕ
greedy = class_command ∷ form_greedy ∷ 0 ∷ []

abbrev pub glob : ℕ → List ℕ
glob state = class_command ∷ form_glob ∷ state ∷ []

abbrev pub left1 : List ℕ
left1 = class_command ∷ form_left1 ∷ 0 ∷ []

abbrev pub infix_greedy : List ℕ
infix_greedy = class_command ∷ form_infix_greedy ∷ 0 ∷ []

-- ---- dropped rows

-- "token index, reason (1 trivia, 2 opener, 3 closer), leaves written before it": 01 writes them so, (9,3,8)
abbrev pub DroppedRow : Type 0
DroppedRow = ℕ × ℕ × ℕ

abbrev pub dropped_of : List DroppedRow → List ℕ
dropped_of [] = []
dropped_of (d ∷ rest) = dropped_row d.0 d.1 d.2 ++ dropped_of rest

-- ---- trees

-- trees one behind the other, with their texts
pub data Shown : Type 0 where
  nothing : Shown
  -- a leaf of a kind
  leaf : ℕ → String → Shown
  -- a node of a kind, around its children
  node : ℕ → Shown → Shown
  ◌&◌ : Shown → Shown → Shown
  -- text that is no leaf's: of a dropped token, or of none
  gone : String → Shown

infixr 20 ◌&◌
abbrev pub width : Shown → ℕ
width nothing = 0
width (leaf kind text) = length (bytes text)
width (node kind inside) = width inside
width (s & t) = width s + width t
width (gone text) = length (bytes text)

-- the base's rows, where their text begins at a place
abbrev pub rows_at : ℕ → Shown → List (List ℕ)
rows_at at nothing = []
rows_at at (leaf kind text) = leaf_row kind at (length (bytes text)) ∷ []
rows_at at (node kind inside) = start_row kind ∷ (rows_at at inside ++ (finish_row kind ∷ []))
rows_at at (s & t) = rows_at at s ++ rows_at (at + width s) t
rows_at at (gone text) = []

-- rows one behind the other, each with its fifth number
abbrev pub numbered : List (List ℕ) → List ℕ → List ℕ
numbered [] tokens = []
numbered (row ∷ rows) [] = []
numbered (row ∷ rows) (n ∷ tokens) = with_token n row ++ numbered rows tokens

-- the tree rows, with the fifth numbers in row order
abbrev pub rows_of : Shown → List ℕ → List ℕ
rows_of t tokens = numbered (rows_at 0 t) tokens

-- nodes
abbrev pub Root : Shown → Shown
Root t = node SyntaxKind.ScopeRoot t

abbrev pub Attach : Shown → Shown
Attach t = node SyntaxKind.ItemAttachComponent t

abbrev pub Arg : Shown → Shown
Arg t = node SyntaxKind.ClauseArgument t

abbrev pub Cmd : Shown → Shown
Cmd t = node SyntaxKind.ItemCmd t

abbrev pub Curly : Shown → Shown
Curly t = node SyntaxKind.ItemCurly t

abbrev pub Bracket : Shown → Shown
Bracket t = node SyntaxKind.ItemBracket t

abbrev pub Env : Shown → Shown
Env t = node SyntaxKind.ItemEnv t

abbrev pub Begin : Shown → Shown
Begin t = node SyntaxKind.ItemBegin t

abbrev pub End : Shown → Shown
End t = node SyntaxKind.ItemEnd t

abbrev pub BlockComment : Shown → Shown
BlockComment t = node SyntaxKind.ItemBlockComment t

abbrev pub LR : Shown → Shown
LR t = node SyntaxKind.ItemLR t

abbrev pub ClauseLR : Shown → Shown
ClauseLR t = node SyntaxKind.ClauseLR t

abbrev pub Error : Shown → Shown
Error t = node SyntaxKind.TokenError t

-- leaves
abbrev pub word : String → Shown
word text = leaf SyntaxKind.TokenWord text

abbrev pub name : String → Shown
name text = leaf SyntaxKind.ClauseCommandName text

abbrev pub symbol : String → Shown
symbol text = leaf SyntaxKind.TokenCommandSym text

abbrev pub blank : Shown
blank = leaf SyntaxKind.TokenWhiteSpace " "

abbrev pub new_line : Shown
new_line = leaf SyntaxKind.ItemNewLine "\\\\"

abbrev pub underscore : Shown
underscore = leaf SyntaxKind.TokenUnderscore "_"

abbrev pub caret : Shown
caret = leaf SyntaxKind.TokenCaret "^"

abbrev pub ampersand : Shown
ampersand = leaf SyntaxKind.TokenAmpersand "&"

abbrev pub apostrophe : Shown
apostrophe = leaf SyntaxKind.TokenApostrophe "'"

abbrev pub lbrace : Shown
lbrace = leaf SyntaxKind.TokenLBrace "{"

abbrev pub rbrace : Shown
rbrace = leaf SyntaxKind.TokenRBrace "}"

abbrev pub lbracket : Shown
lbracket = leaf SyntaxKind.TokenLBracket "["

abbrev pub rbracket : Shown
rbracket = leaf SyntaxKind.TokenRBracket "]"

-- 01 writes a text with its one word so
abbrev pub Text : String → Shown
Text text = node SyntaxKind.ItemText (word text)
