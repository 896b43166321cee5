-- The patterns of token.rs, and which of them a token is: "the longest-match rules and priorities shown in token.rs" (02, #103). For each pattern it
-- is said how long a prefix of what is left it matches; 0 is no match.
use Rattle.std.specs.Prelude.{ℕ, suc, ◌+◌, Bool, true, false, not, cond, ◌&&◌, ◌||◌, List, [], ◌∷◌, eqb, ltb, length, drop}
use Prim.Native.String.{String}
use Rattle.rules.specs.Notation.{bytes}
use Rattle.rules.specs.Scope.{among}
use Rattle.rules.specs.Token

-- ---- classes of bytes, as a pattern has them in brackets

abbrev pub Class : Type 0
Class = ℕ → Bool

-- "[\r\n]"
abbrev pub is_break : Class
is_break byte = among byte (0x0D ∷ 0x0A ∷ [])

-- "[^\S\r\n]": a white byte, and none of these two
abbrev pub is_blank : Class
is_blank byte = among byte (0x09 ∷ 0x0B ∷ 0x0C ∷ 0x20 ∷ [])

-- "[^\r\n]"
abbrev pub is_no_break : Class
is_no_break byte = not (is_break byte)

-- "[^\s\\%\{\},\$\[\]\(\)\~/_\*@'";&^#]"
abbrev pub is_word : Class
is_word byte = not (is_break byte || (is_blank byte || among byte (bytes "\\%{},$[]()~/_*@'\";&^#")))

-- ---- what patterns are made of

-- "[..]+", and "[..]*" behind something else: how many bytes of a class stand in front
unfoldable pub run : Class → List ℕ → ℕ
run of [] = 0
run of (byte ∷ left) = cond (of byte) (suc (run of left)) 0

-- whether these bytes stand in front
abbrev pub in_front : List ℕ → List ℕ → Bool
in_front [] left = true
in_front (byte ∷ more) [] = false
in_front (byte ∷ more) (first ∷ left) = eqb first byte && in_front more left

-- these bytes and what another pattern matches behind them, be it nothing
abbrev pub followed : List ℕ → (List ℕ → ℕ) → List ℕ → ℕ
followed these more left = cond (in_front these left) (length these + more (drop (length these) left)) 0

-- these bytes and no more
abbrev pub just : List ℕ → List ℕ → ℕ
just these = followed these (λ left. 0)

-- ---- the patterns

pub record Pattern : Type 0 where
  pub kind : ℕ
  pub priority : ℕ
  -- how long a prefix of what is left it matches
  pub matched : List ℕ → ℕ

-- the priority of those for which token.rs shows none. No two patterns match as long at one place (`never_tied`), so it decides nothing
abbrev pub unshown : ℕ
unshown = 0

abbrev pub one : String → ℕ → Pattern
one text kind = record { kind = kind; priority = unshown; matched = just (bytes text) }

-- token.rs's, in its order
abbrev pub patterns : List Pattern
patterns =
    -- #[regex(r"[\r\n]+", priority = 2)] LineBreak
    record { kind = Token.LineBreak; priority = 2; matched = run is_break }
    -- #[regex(r"[^\S\r\n]+", priority = 1)] Whitespace
    ∷ record { kind = Token.Whitespace; priority = 1; matched = run is_blank }
    -- #[regex(r"%[^\r\n]*")] LineComment
    ∷ record { kind = Token.LineComment; priority = unshown; matched = followed (bytes "%") (run is_no_break) }
    -- #[token("{", bc)] #[token("[", bb)] #[token("(", bp)] Left(BraceKind)
    ∷ one "{" Token.LeftCurly
    ∷ one "[" Token.LeftBracket
    ∷ one "(" Token.LeftParen
    -- #[token("}", bc)] #[token("]", bb)] #[token(")", bp)] Right(BraceKind)
    ∷ one "}" Token.RightCurly
    ∷ one "]" Token.RightBracket
    ∷ one ")" Token.RightParen
    -- #[token(",")] Comma, and so on: each an ASCII character of its own
    ∷ one "," Token.Comma
    ∷ one "~" Token.Tilde
    ∷ one "/" Token.Slash
    ∷ one "&" Token.Ampersand
    ∷ one "^" Token.Caret
    ∷ one "'" Token.Apostrophe
    ∷ one "\"" Token.Ditto
    ∷ one ";" Token.Semicolon
    ∷ one "#" Token.Hash
    ∷ one "*" Token.Asterisk
    ∷ one "@" Token.AtSign
    -- #[token("_", priority = 2)] Underscore
    ∷ record { kind = Token.Underscore; priority = 2; matched = just (bytes "_") }
    -- #[regex(r#"[^\s\\%\{\},\$\[\]\(\)\~/_\*@'";&^#]+"#, priority = 1)] Word
    ∷ record { kind = Token.Word; priority = 1; matched = run is_word }
    -- #[regex(r"\$\$?")] Dollar
    ∷ record { kind = Token.Dollar; priority = unshown; matched = followed (bytes "$") (just (bytes "$")) }
    -- #[regex(r"\\\\", priority = 4)] NewLine
    ∷ record { kind = Token.NewLine; priority = 4; matched = just (bytes "\\\\") }
    -- #[regex(r"\\", lex_command_name, priority = 3)] CommandName: what its name is, `Commands` says
    ∷ record { kind = Token.Generic; priority = 3; matched = just (bytes "\\") }
    ∷ []

-- ---- the longest match

-- longer than another, or as long and of a higher priority
abbrev pub beats : List ℕ → Pattern → Pattern → Bool
beats left p q = ltb (q.matched left) (p.matched left) || (eqb (q.matched left) (p.matched left) && ltb q.priority p.priority)

abbrev pub best_of : List ℕ → Pattern → List Pattern → Pattern
best_of left best [] = best
best_of left best (p ∷ more) = best_of left (cond (beats left p best) p best) more

-- before any is looked at: it matches nothing, so each that matches beats it
abbrev pub no_pattern : Pattern
no_pattern = record { kind = Token.Error; priority = 0; matched = λ left. 0 }

-- the pattern of the token in front of what is left
unfoldable pub pattern_of : List ℕ → Pattern
pattern_of left = best_of left no_pattern patterns
