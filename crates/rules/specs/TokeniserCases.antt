-- Formula texts and their tokens: the corner cases of 02's #103, as one table, and one theorem over it that antt computes; and what is answered.
use Rattle.std.specs.Prelude.{ℕ, ◌-◌, ◌≡◌, refl, List, [], ◌∷◌, ◌++◌, map, length, replicate}
use Rattle.rules.specs.Checks
use Rattle.rules.specs.Commands
use Rattle.rules.specs.Notation.{Part, ◌of◌, between, bytes, text_of, rows_from}
use Rattle.rules.specs.Patterns
use Rattle.rules.specs.Token.{LineBreak, Whitespace, LineComment, LeftCurly, LeftBracket, LeftParen, RightCurly, RightBracket, RightParen, Comma, Tilde, Slash, Ampersand, Caret, Apostrophe, Ditto, Semicolon, Hash, Asterisk, AtSign, Underscore, Word, Dollar, NewLine, Error, Generic, BeginEnvironment, EndEnvironment, BeginMath, EndMath, ErrorBeginEnvironment, ErrorEndEnvironment, IfFalse, IfTypst, If, Else, EndIf, Left, Right}
use Rattle.rules.specs.Tokeniser
use Rattle.rules.specs.Tokeniser.{Tokenised, written, refused_at}

-- a text as its tokens, in order, and what stands in their source ranges besides their texts
abbrev pub cases : List (List Part)
cases =
    -- nothing; `\frac 1 2`
    []
    ∷ (Generic of "\\frac" ∷ Whitespace of " " ∷ Word of "1" ∷ Whitespace of " " ∷ Word of "2" ∷ [])
    -- "a backslash with the longest run of letters, else with one byte, else alone and then Error"
    ∷ (Error of "\\" ∷ [])
    ∷ (NewLine of "\\\\" ∷ Error of "\\" ∷ [])
    ∷ (NewLine of "\\\\" ∷ Word of "begin" ∷ [])
    ∷ (Generic of "\\%" ∷ Generic of "\\ " ∷ Whitespace of " " ∷ [])
    ∷ (Generic of "\\\r" ∷ LineBreak of "\n" ∷ [])
    ∷ (Generic of "\\1" ∷ Word of "2" ∷ [])
    ∷ (Generic of "\\f" ∷ Asterisk of "*" ∷ [])
    ∷ (Generic of "\\@" ∷ Word of "ifstar" ∷ [])
    -- "`\begin{name}` and `\end{name}`, the name being letters or `*`, one or more, give kinds 27 and 28"
    ∷ (between "\\begin{" ∷ BeginEnvironment of "a*" ∷ between "}" ∷ Word of "b" ∷ [])
    ∷ (between "\\begin{" ∷ BeginEnvironment of "*" ∷ between "}" ∷ between "\\end{" ∷ EndEnvironment of "a" ∷ between "}" ∷ [])
    ∷ (between "\\begin{" ∷ BeginEnvironment of "*a*b" ∷ between "}" ∷ [])
    -- "without such braces they are 31 and 32"
    ∷ (ErrorBeginEnvironment of "\\begin" ∷ LeftCurly of "{" ∷ RightCurly of "}" ∷ [])
    ∷ (ErrorBeginEnvironment of "\\begin" ∷ LeftCurly of "{" ∷ Word of "a" ∷ Whitespace of " " ∷ Word of "b" ∷ RightCurly of "}" ∷ [])
    ∷ (ErrorBeginEnvironment of "\\begin" ∷ Whitespace of " " ∷ LeftCurly of "{" ∷ Word of "a" ∷ RightCurly of "}" ∷ [])
    ∷ (ErrorBeginEnvironment of "\\begin" ∷ LeftCurly of "{" ∷ Word of "a1" ∷ RightCurly of "}" ∷ [])
    ∷ (ErrorBeginEnvironment of "\\begin" ∷ LeftCurly of "{" ∷ Word of "a" ∷ [])
    ∷ (ErrorBeginEnvironment of "\\begin" ∷ LeftBracket of "[" ∷ Word of "a" ∷ RightBracket of "]" ∷ [])
    ∷ (ErrorEndEnvironment of "\\end" ∷ LeftCurly of "{" ∷ RightCurly of "}" ∷ ErrorEndEnvironment of "\\end" ∷ [])
    ∷ (Generic of "\\beginx" ∷ Generic of "\\Begin" ∷ [])
    -- "`\(` and `\[` begin math, `\)` and `\]` end it"
    ∷ (BeginMath of "\\(" ∷ EndMath of "\\)" ∷ BeginMath of "\\[" ∷ EndMath of "\\]" ∷ [])
    -- "`\iffalse`, `\iftypst`, `\else`, `\fi`, `\left`, `\right` and the other spellings of the `IfCommandName` cases in lower case get their kinds"
    ∷ (IfFalse of "\\iffalse" ∷ IfTypst of "\\iftypst" ∷ Else of "\\else" ∷ EndIf of "\\fi" ∷ Left of "\\left" ∷ Right of "\\right" ∷ [])
    ∷ (If of "\\if" ∷ If of "\\iftrue" ∷ If of "\\ifcase" ∷ If of "\\ifnum" ∷ If of "\\ifcat" ∷ If of "\\ifx" ∷ If of "\\ifvoid" ∷ [])
    ∷ (If of "\\ifhbox" ∷ If of "\\ifvbox" ∷ If of "\\ifhmode" ∷ If of "\\ifmmode" ∷ If of "\\ifvmode" ∷ If of "\\ifinner" ∷ If of "\\ifdim" ∷ [])
    ∷ (If of "\\ifeof" ∷ If of "\\ifstar" ∷ Generic of "\\iffalsex" ∷ Generic of "\\IF" ∷ Generic of "\\lefty" ∷ [])
    -- the longest match
    ∷ (Dollar of "$$" ∷ Dollar of "$" ∷ [])
    ∷ (LineComment of "%c" ∷ [])
    ∷ (LineComment of "%c" ∷ LineBreak of "\n" ∷ LineComment of "%" ∷ LineBreak of "\r" ∷ [])
    ∷ (LineComment of "%$\\" ∷ LineBreak of "\r\n\n" ∷ Word of "a" ∷ [])
    ∷ (Word of "a" ∷ Underscore of "_" ∷ Word of "b1" ∷ Caret of "^" ∷ Word of "+:2" ∷ Comma of "," ∷ Ampersand of "&" ∷ Whitespace of " \t " ∷ [])
    ∷ (LeftParen of "(" ∷ RightParen of ")" ∷ LeftBracket of "[" ∷ RightBracket of "]" ∷ LeftCurly of "{" ∷ RightCurly of "}" ∷ Comma of "," ∷ [])
    ∷ (Tilde of "~" ∷ Slash of "/" ∷ Ampersand of "&" ∷ Caret of "^" ∷ Apostrophe of "'" ∷ Ditto of "\"" ∷ Semicolon of ";" ∷ Hash of "#" ∷ [])
    ∷ (Asterisk of "*" ∷ AtSign of "@" ∷ Underscore of "_" ∷ [])
    ∷ []

pub examples : map (λ (parts : List Part). Tokeniser.token_rows (text_of parts)) cases ≡ map (λ (parts : List Part). rows_from 0 parts) cases
unfolding Patterns.run Patterns.pattern_of Commands.spelled Commands.kind_of Commands.in_braces Tokeniser.lexeme Tokeniser.lexemes Tokeniser.token_rows
examples = refl

-- ---- what is answered: a text, how many numbers are lent, and the answer. Each number that is lent is a 7
pub record Lent : Type 0 where
  pub text : List ℕ
  pub lent : ℕ
  pub answer : Tokenised
  -- what the lent numbers hold first
  pub rows : List ℕ

abbrev pub answers : List Lent
answers =
    -- "11, a byte over 127, place its offset", before there is too little room; bytes 00 to 08, 0E to 1F and 7F are a Word's
    record { text = bytes "ab" ++ (200 ∷ []); lent = 0; answer = refused_at 11 2; rows = [] }
    ∷ record { text = bytes "a" ++ (128 ∷ 255 ∷ []); lent = 4; answer = refused_at 11 1; rows = [] }
    ∷ record { text = 0 ∷ 8 ∷ 14 ∷ 31 ∷ 127 ∷ []; lent = 5; answer = written 1; rows = Word ∷ 0 ∷ 5 ∷ 0 ∷ [] }
    -- 09, 0B, 0C and 20 are blanks
    ∷ record { text = 9 ∷ 11 ∷ 12 ∷ 32 ∷ []; lent = 4; answer = written 1; rows = Whitespace ∷ 0 ∷ 4 ∷ 0 ∷ [] }
    -- "too few token rows lent, also 1"; "at place 0, and none writes anything"
    ∷ record { text = bytes "a b"; lent = 11; answer = refused_at 1 0; rows = [] }
    ∷ record { text = bytes "a b"; lent = 13; answer = written 3; rows = Word ∷ 0 ∷ 1 ∷ 0 ∷ Whitespace ∷ 1 ∷ 1 ∷ 0 ∷ Word ∷ 2 ∷ 1 ∷ 0 ∷ [] }
    ∷ record { text = []; lent = 0; answer = written 0; rows = [] }
    ∷ []

abbrev pub outcome : Lent → Tokenised × List ℕ
outcome r = Tokeniser.tokenise r.text (replicate r.lent 7)

abbrev pub expected : Lent → Tokenised × List ℕ
expected r = (r.answer, r.rows ++ replicate (r.lent - length r.rows) 7)

pub answered_examples : map outcome answers ≡ map expected answers
unfolding Checks.first_bad Patterns.run Patterns.pattern_of Commands.spelled Commands.kind_of Commands.in_braces Tokeniser.lexeme Tokeniser.lexemes Tokeniser.token_rows Tokeniser.tokenise
answered_examples = refl
