-- The kinds of tokens. 01: "Token kinds: 0 LineBreak, 1 Whitespace, 2 LineComment, 3 to 5 Left curly, bracket, paren, 6 to 8 Right likewise,
-- 9 Comma, 10 Tilde, 11 Slash, 12 Ampersand, 13 Caret, 14 Apostrophe, 15 Ditto, 16 Semicolon, 17 Hash, 18 Asterisk, 19 AtSign, 20 Underscore,
-- 21 Word, 22 Dollar, 23 NewLine, 24 Error, 25 MacroArg, 26 Generic, 27 and 28 Begin and EndEnvironment, 29 and 30 Begin and EndMath,
-- 31 and 32 ErrorBegin and ErrorEndEnvironment, 33 IfFalse, 34 IfTypst, 35 any other If, 36 Else, 37 EndIf, 38 Left, 39 Right."
use Rattle.std.specs.Prelude.{ℕ}

abbrev pub LineBreak : ℕ
LineBreak = 0

abbrev pub Whitespace : ℕ
Whitespace = 1

abbrev pub LineComment : ℕ
LineComment = 2

abbrev pub LeftCurly : ℕ
LeftCurly = 3

abbrev pub LeftBracket : ℕ
LeftBracket = 4

abbrev pub LeftParen : ℕ
LeftParen = 5

abbrev pub RightCurly : ℕ
RightCurly = 6

abbrev pub RightBracket : ℕ
RightBracket = 7

abbrev pub RightParen : ℕ
RightParen = 8

abbrev pub Comma : ℕ
Comma = 9

abbrev pub Tilde : ℕ
Tilde = 10

abbrev pub Slash : ℕ
Slash = 11

abbrev pub Ampersand : ℕ
Ampersand = 12

abbrev pub Caret : ℕ
Caret = 13

abbrev pub Apostrophe : ℕ
Apostrophe = 14

abbrev pub Ditto : ℕ
Ditto = 15

abbrev pub Semicolon : ℕ
Semicolon = 16

abbrev pub Hash : ℕ
Hash = 17

abbrev pub Asterisk : ℕ
Asterisk = 18

abbrev pub AtSign : ℕ
AtSign = 19

abbrev pub Underscore : ℕ
Underscore = 20

abbrev pub Word : ℕ
Word = 21

abbrev pub Dollar : ℕ
Dollar = 22

abbrev pub NewLine : ℕ
NewLine = 23

abbrev pub Error : ℕ
Error = 24

abbrev pub MacroArg : ℕ
MacroArg = 25

abbrev pub Generic : ℕ
Generic = 26

abbrev pub BeginEnvironment : ℕ
BeginEnvironment = 27

abbrev pub EndEnvironment : ℕ
EndEnvironment = 28

abbrev pub BeginMath : ℕ
BeginMath = 29

abbrev pub EndMath : ℕ
EndMath = 30

abbrev pub ErrorBeginEnvironment : ℕ
ErrorBeginEnvironment = 31

abbrev pub ErrorEndEnvironment : ℕ
ErrorEndEnvironment = 32

abbrev pub IfFalse : ℕ
IfFalse = 33

abbrev pub IfTypst : ℕ
IfTypst = 34

abbrev pub If : ℕ
If = 35

abbrev pub Else : ℕ
Else = 36

abbrev pub EndIf : ℕ
EndIf = 37

abbrev pub Left : ℕ
Left = 38

abbrev pub Right : ℕ
Right = 39
