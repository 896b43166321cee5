-- The kinds of tree rows. 01: "Tree kinds count `SyntaxKind` from TokenError 0 to ScopeRoot 44." The order is that of syntax.rs.
use Rattle.std.specs.Prelude.{ℕ}

abbrev pub TokenError : ℕ
TokenError = 0

abbrev pub TokenLineBreak : ℕ
TokenLineBreak = 1

abbrev pub TokenWhiteSpace : ℕ
TokenWhiteSpace = 2

abbrev pub TokenComment : ℕ
TokenComment = 3

abbrev pub TokenLBrace : ℕ
TokenLBrace = 4

abbrev pub TokenRBrace : ℕ
TokenRBrace = 5

abbrev pub TokenLBracket : ℕ
TokenLBracket = 6

abbrev pub TokenRBracket : ℕ
TokenRBracket = 7

abbrev pub TokenLParen : ℕ
TokenLParen = 8

abbrev pub TokenRParen : ℕ
TokenRParen = 9

abbrev pub TokenComma : ℕ
TokenComma = 10

abbrev pub TokenTilde : ℕ
TokenTilde = 11

abbrev pub TokenSlash : ℕ
TokenSlash = 12

abbrev pub TokenWord : ℕ
TokenWord = 13

abbrev pub TokenDollar : ℕ
TokenDollar = 14

abbrev pub TokenBeginMath : ℕ
TokenBeginMath = 15

abbrev pub TokenEndMath : ℕ
TokenEndMath = 16

abbrev pub TokenAmpersand : ℕ
TokenAmpersand = 17

abbrev pub TokenHash : ℕ
TokenHash = 18

abbrev pub TokenAsterisk : ℕ
TokenAsterisk = 19

abbrev pub TokenAtSign : ℕ
TokenAtSign = 20

abbrev pub TokenUnderscore : ℕ
TokenUnderscore = 21

abbrev pub TokenCaret : ℕ
TokenCaret = 22

abbrev pub TokenApostrophe : ℕ
TokenApostrophe = 23

abbrev pub TokenDitto : ℕ
TokenDitto = 24

abbrev pub TokenSemicolon : ℕ
TokenSemicolon = 25

abbrev pub TokenCommandSym : ℕ
TokenCommandSym = 26

abbrev pub ClauseCommandName : ℕ
ClauseCommandName = 27

abbrev pub ClauseArgument : ℕ
ClauseArgument = 28

abbrev pub ClauseLR : ℕ
ClauseLR = 29

abbrev pub ItemNewLine : ℕ
ItemNewLine = 30

abbrev pub ItemText : ℕ
ItemText = 31

abbrev pub ItemCurly : ℕ
ItemCurly = 32

abbrev pub ItemBracket : ℕ
ItemBracket = 33

abbrev pub ItemParen : ℕ
ItemParen = 34

abbrev pub ItemCmd : ℕ
ItemCmd = 35

abbrev pub ItemEnv : ℕ
ItemEnv = 36

abbrev pub ItemLR : ℕ
ItemLR = 37

abbrev pub ItemBegin : ℕ
ItemBegin = 38

abbrev pub ItemEnd : ℕ
ItemEnd = 39

abbrev pub ItemBlockComment : ℕ
ItemBlockComment = 40

abbrev pub ItemTypstCode : ℕ
ItemTypstCode = 41

abbrev pub ItemAttachComponent : ℕ
ItemAttachComponent = 42

abbrev pub ItemFormula : ℕ
ItemFormula = 43

abbrev pub ScopeRoot : ℕ
ScopeRoot = 44
