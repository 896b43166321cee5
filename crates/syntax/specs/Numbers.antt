-- 01's numbers in the order of the constants that hold them: what the functions `numbers` give. A bare number is 01's, under the words that have it.
use Rattle.std.specs.Prelude.{ℕ, List, [], ◌∷◌}
use Rattle.rules.specs.Flat
use Rattle.rules.specs.Limits
use Rattle.rules.specs.Matcher
use Rattle.rules.specs.Outcome
use Rattle.rules.specs.Tokeniser
use Rattle.rules.specs.SyntaxKind
use Rattle.rules.specs.Token

abbrev pub token_kinds : List ℕ
token_kinds =
    Token.LineBreak
    ∷ Token.Whitespace
    ∷ Token.LineComment
    ∷ Token.LeftCurly
    ∷ Token.LeftBracket
    ∷ Token.LeftParen
    ∷ Token.RightCurly
    ∷ Token.RightBracket
    ∷ Token.RightParen
    ∷ Token.Comma
    ∷ Token.Tilde
    ∷ Token.Slash
    ∷ Token.Ampersand
    ∷ Token.Caret
    ∷ Token.Apostrophe
    ∷ Token.Ditto
    ∷ Token.Semicolon
    ∷ Token.Hash
    ∷ Token.Asterisk
    ∷ Token.AtSign
    ∷ Token.Underscore
    ∷ Token.Word
    ∷ Token.Dollar
    ∷ Token.NewLine
    ∷ Token.Error
    ∷ Token.MacroArg
    ∷ Token.Generic
    ∷ Token.BeginEnvironment
    ∷ Token.EndEnvironment
    ∷ Token.BeginMath
    ∷ Token.EndMath
    ∷ Token.ErrorBeginEnvironment
    ∷ Token.ErrorEndEnvironment
    ∷ Token.IfFalse
    ∷ Token.IfTypst
    ∷ Token.If
    ∷ Token.Else
    ∷ Token.EndIf
    ∷ Token.Left
    ∷ Token.Right
    ∷ []

abbrev pub syntax_kinds : List ℕ
syntax_kinds =
    SyntaxKind.TokenError
    ∷ SyntaxKind.TokenLineBreak
    ∷ SyntaxKind.TokenWhiteSpace
    ∷ SyntaxKind.TokenComment
    ∷ SyntaxKind.TokenLBrace
    ∷ SyntaxKind.TokenRBrace
    ∷ SyntaxKind.TokenLBracket
    ∷ SyntaxKind.TokenRBracket
    ∷ SyntaxKind.TokenLParen
    ∷ SyntaxKind.TokenRParen
    ∷ SyntaxKind.TokenComma
    ∷ SyntaxKind.TokenTilde
    ∷ SyntaxKind.TokenSlash
    ∷ SyntaxKind.TokenWord
    ∷ SyntaxKind.TokenDollar
    ∷ SyntaxKind.TokenBeginMath
    ∷ SyntaxKind.TokenEndMath
    ∷ SyntaxKind.TokenAmpersand
    ∷ SyntaxKind.TokenHash
    ∷ SyntaxKind.TokenAsterisk
    ∷ SyntaxKind.TokenAtSign
    ∷ SyntaxKind.TokenUnderscore
    ∷ SyntaxKind.TokenCaret
    ∷ SyntaxKind.TokenApostrophe
    ∷ SyntaxKind.TokenDitto
    ∷ SyntaxKind.TokenSemicolon
    ∷ SyntaxKind.TokenCommandSym
    ∷ SyntaxKind.ClauseCommandName
    ∷ SyntaxKind.ClauseArgument
    ∷ SyntaxKind.ClauseLR
    ∷ SyntaxKind.ItemNewLine
    ∷ SyntaxKind.ItemText
    ∷ SyntaxKind.ItemCurly
    ∷ SyntaxKind.ItemBracket
    ∷ SyntaxKind.ItemParen
    ∷ SyntaxKind.ItemCmd
    ∷ SyntaxKind.ItemEnv
    ∷ SyntaxKind.ItemLR
    ∷ SyntaxKind.ItemBegin
    ∷ SyntaxKind.ItemEnd
    ∷ SyntaxKind.ItemBlockComment
    ∷ SyntaxKind.ItemTypstCode
    ∷ SyntaxKind.ItemAttachComponent
    ∷ SyntaxKind.ItemFormula
    ∷ SyntaxKind.ScopeRoot
    ∷ []

-- "Tree kinds count `SyntaxKind` from TokenError 0 to ScopeRoot 44": 45 of them
abbrev pub limits : List ℕ
limits =
    Limits.text
    ∷ Limits.tokens
    ∷ Limits.shapes
    ∷ Limits.states
    ∷ Limits.nodes
    ∷ Limits.kinds
    ∷ 45
    ∷ Limits.token_width
    ∷ Limits.shape_width
    ∷ Limits.state_width
    ∷ Limits.tree_width
    ∷ Limits.dropped_width
    ∷ []

abbrev pub tags : List ℕ
tags = Flat.tag_start ∷ Flat.tag_leaf ∷ Flat.tag_finish ∷ []

abbrev pub reasons : List ℕ
reasons = Flat.reason_trivia ∷ Flat.reason_opener ∷ Flat.reason_closer ∷ []

-- "class (1 command, 2 environment)"
abbrev pub classes : List ℕ
classes = 1 ∷ 2 ∷ []

-- "fixed, value 0 to 255"
abbrev pub forms : List ℕ
forms =
    Matcher.form_none
    ∷ Matcher.form_fixed
    ∷ Matcher.form_range
    ∷ Matcher.form_greedy
    ∷ Matcher.form_glob
    ∷ Matcher.form_left1
    ∷ Matcher.form_infix_greedy
    ∷ 255
    ∷ []

-- 'Numbers of refusal': 1 to 4 are those of the tables, 9 is that of a sheet
abbrev pub refusals : List ℕ
refusals =
    1 ∷ 2 ∷ 3 ∷ 4
    ∷ Outcome.greedy_environment ∷ Outcome.mark_before_node ∷ Outcome.too_many_open ∷ Outcome.no_room
    ∷ 9
    ∷ Tokeniser.not_ascii
    ∷ []
