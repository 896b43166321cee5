-- The numbers of the kinds of tree rows, by name.
use Rattle.std.specs.Prelude.{ℕ}
use Rattle.rules.specs.SyntaxKind as rules
use Rattle.syntax.specs.declared.syntax_kind.SyntaxKind.{SyntaxKind}
use Rattle.syntax.specs.declared.syntax_kind.SyntaxKind.TheVariants as kind

abbrev pub number_of : SyntaxKind → ℕ
number_of kind.TokenError = rules.TokenError
number_of kind.TokenLineBreak = rules.TokenLineBreak
number_of kind.TokenWhiteSpace = rules.TokenWhiteSpace
number_of kind.TokenComment = rules.TokenComment
number_of kind.TokenLBrace = rules.TokenLBrace
number_of kind.TokenRBrace = rules.TokenRBrace
number_of kind.TokenLBracket = rules.TokenLBracket
number_of kind.TokenRBracket = rules.TokenRBracket
number_of kind.TokenLParen = rules.TokenLParen
number_of kind.TokenRParen = rules.TokenRParen
number_of kind.TokenComma = rules.TokenComma
number_of kind.TokenTilde = rules.TokenTilde
number_of kind.TokenSlash = rules.TokenSlash
number_of kind.TokenWord = rules.TokenWord
number_of kind.TokenDollar = rules.TokenDollar
number_of kind.TokenBeginMath = rules.TokenBeginMath
number_of kind.TokenEndMath = rules.TokenEndMath
number_of kind.TokenAmpersand = rules.TokenAmpersand
number_of kind.TokenHash = rules.TokenHash
number_of kind.TokenAsterisk = rules.TokenAsterisk
number_of kind.TokenAtSign = rules.TokenAtSign
number_of kind.TokenUnderscore = rules.TokenUnderscore
number_of kind.TokenCaret = rules.TokenCaret
number_of kind.TokenApostrophe = rules.TokenApostrophe
number_of kind.TokenDitto = rules.TokenDitto
number_of kind.TokenSemicolon = rules.TokenSemicolon
number_of kind.TokenCommandSym = rules.TokenCommandSym
number_of kind.ClauseCommandName = rules.ClauseCommandName
number_of kind.ClauseArgument = rules.ClauseArgument
number_of kind.ClauseLR = rules.ClauseLR
number_of kind.ItemNewLine = rules.ItemNewLine
number_of kind.ItemText = rules.ItemText
number_of kind.ItemCurly = rules.ItemCurly
number_of kind.ItemBracket = rules.ItemBracket
number_of kind.ItemParen = rules.ItemParen
number_of kind.ItemCmd = rules.ItemCmd
number_of kind.ItemEnv = rules.ItemEnv
number_of kind.ItemLR = rules.ItemLR
number_of kind.ItemBegin = rules.ItemBegin
number_of kind.ItemEnd = rules.ItemEnd
number_of kind.ItemBlockComment = rules.ItemBlockComment
number_of kind.ItemTypstCode = rules.ItemTypstCode
number_of kind.ItemAttachComponent = rules.ItemAttachComponent
number_of kind.ItemFormula = rules.ItemFormula
number_of kind.ScopeRoot = rules.ScopeRoot
