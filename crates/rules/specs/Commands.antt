-- Command names, which are ours and not the Rust's (02, #103): "Command names are added by us: a backslash with the longest run of letters, else
-- with one byte, else alone and then Error."
use Rattle.std.specs.Prelude.{ℕ, ◌+◌, Bool, cond, ◌&&◌, ◌||◌, List, [], ◌∷◌, eqb, length, drop}
use Prim.Native.String.{String}
use Rattle.rules.specs.Characters.{within}
use Rattle.rules.specs.Notation.{bytes}
use Rattle.rules.specs.Patterns.{Class, run, in_front}
use Rattle.rules.specs.Token

abbrev pub is_letter : Class
is_letter byte = within (0x41, 0x5A) byte || within (0x61, 0x7A) byte

-- "the longest run of letters, else .. one byte, else" nothing: how long the name is that stands behind a backslash
abbrev pub name_size : List ℕ → ℕ
name_size after = cond (eqb (run is_letter after) 0) (cond (eqb (length after) 0) 0 1) (run is_letter after)

-- whether a name is these bytes
unfoldable pub spelled : List ℕ → List ℕ → Bool
spelled these name = in_front these name && eqb (length name) (length these)

abbrev pub look_up : List (String × ℕ) → List ℕ → ℕ
look_up [] name = Token.Generic
look_up (entry ∷ more) name = cond (spelled (bytes entry.0) name) entry.1 (look_up more name)

abbrev pub spellings : List (String × ℕ)
spellings =
    -- "alone and then Error"
    ("", Token.Error)
    -- "`\(` and `\[` begin math, `\)` and `\]` end it"
    ∷ ("(", Token.BeginMath)
    ∷ ("[", Token.BeginMath)
    ∷ (")", Token.EndMath)
    ∷ ("]", Token.EndMath)
    -- "`\iffalse`, `\iftypst`, `\else`, `\fi`, `\left`, `\right`"
    ∷ ("iffalse", Token.IfFalse)
    ∷ ("iftypst", Token.IfTypst)
    ∷ ("else", Token.Else)
    ∷ ("fi", Token.EndIf)
    ∷ ("left", Token.Left)
    ∷ ("right", Token.Right)
    -- "and the other spellings of the `IfCommandName` cases in lower case get their kinds"
    ∷ ("if", Token.If)
    ∷ ("iftrue", Token.If)
    ∷ ("ifcase", Token.If)
    ∷ ("ifnum", Token.If)
    ∷ ("ifcat", Token.If)
    ∷ ("ifx", Token.If)
    ∷ ("ifvoid", Token.If)
    ∷ ("ifhbox", Token.If)
    ∷ ("ifvbox", Token.If)
    ∷ ("ifhmode", Token.If)
    ∷ ("ifmmode", Token.If)
    ∷ ("ifvmode", Token.If)
    ∷ ("ifinner", Token.If)
    ∷ ("ifdim", Token.If)
    ∷ ("ifeof", Token.If)
    ∷ ("ifstar", Token.If)
    -- "without such braces they are 31 and 32"
    ∷ ("begin", Token.ErrorBeginEnvironment)
    ∷ ("end", Token.ErrorEndEnvironment)
    ∷ []

-- "the rest is Generic"
unfoldable pub kind_of : List ℕ → ℕ
kind_of name = look_up spellings name

-- ---- \begin{name} and \end{name}

-- "letters or `*`"
abbrev pub is_name : Class
is_name byte = is_letter byte || eqb byte 0x2A

-- "`\begin{name}` and `\end{name}`, the name being letters or `*`, one or more": how long the name is that stands in front in braces; 0 if none does
unfoldable pub in_braces : List ℕ → ℕ
in_braces left =
    let name = run is_name (drop 1 left) in
    cond (in_front (bytes "{") left && in_front (bytes "}") (drop (1 + name) left)) name 0

-- "give kinds 27 and 28 with the name as text"
abbrev pub with_name : ℕ → ℕ
with_name kind = cond (eqb kind Token.ErrorBeginEnvironment) Token.BeginEnvironment Token.EndEnvironment

abbrev pub takes_name : ℕ → Bool
takes_name kind = eqb kind Token.ErrorBeginEnvironment || eqb kind Token.ErrorEndEnvironment
