-- Questions about the kind of a token, and the kind of the leaf that it becomes (token.rs, syntax.rs, `text` of parser.rs).
use Rattle.std.specs.Prelude.{ℕ, Bool, cond, List, [], ◌∷◌, eqb, ltb}
use Rattle.rules.specs.Limits
use Rattle.rules.specs.Scope.{among}
use Rattle.rules.specs.SyntaxKind
use Rattle.rules.specs.Token

-- trivia, as `Token::is_trivia` has it
unfoldable pub is_trivia : ℕ → Bool
is_trivia kind = among kind (Token.LineBreak ∷ Token.Whitespace ∷ Token.LineComment ∷ [])

-- `is_text_component` of `text`: what goes on a text
unfoldable pub is_text_component : ℕ → Bool
is_text_component kind = among kind (Token.LineBreak ∷ Token.Whitespace ∷ Token.LineComment ∷ Token.Word ∷ Token.Comma ∷ [])

-- "the conversion from `Token`": the arms of `From<Token> for SyntaxKind`, but for the last
abbrev pub conversions : List (ℕ × ℕ)
conversions =
    (Token.LineBreak, SyntaxKind.TokenLineBreak)
    ∷ (Token.Whitespace, SyntaxKind.TokenWhiteSpace)
    ∷ (Token.LineComment, SyntaxKind.TokenComment)
    ∷ (Token.LeftCurly, SyntaxKind.TokenLBrace)
    ∷ (Token.RightCurly, SyntaxKind.TokenRBrace)
    ∷ (Token.LeftBracket, SyntaxKind.TokenLBracket)
    ∷ (Token.RightBracket, SyntaxKind.TokenRBracket)
    ∷ (Token.LeftParen, SyntaxKind.TokenLParen)
    ∷ (Token.RightParen, SyntaxKind.TokenRParen)
    ∷ (Token.Comma, SyntaxKind.TokenComma)
    ∷ (Token.Tilde, SyntaxKind.TokenTilde)
    ∷ (Token.Slash, SyntaxKind.TokenSlash)
    ∷ (Token.Underscore, SyntaxKind.TokenUnderscore)
    ∷ (Token.Apostrophe, SyntaxKind.TokenApostrophe)
    ∷ (Token.Ditto, SyntaxKind.TokenDitto)
    ∷ (Token.Semicolon, SyntaxKind.TokenSemicolon)
    ∷ (Token.Caret, SyntaxKind.TokenCaret)
    ∷ (Token.Word, SyntaxKind.TokenWord)
    ∷ (Token.Dollar, SyntaxKind.TokenDollar)
    ∷ (Token.Ampersand, SyntaxKind.TokenAmpersand)
    ∷ (Token.Hash, SyntaxKind.TokenHash)
    ∷ (Token.Asterisk, SyntaxKind.TokenAsterisk)
    ∷ (Token.AtSign, SyntaxKind.TokenAtSign)
    ∷ (Token.NewLine, SyntaxKind.ItemNewLine)
    ∷ (Token.MacroArg, SyntaxKind.TokenWord)
    ∷ (Token.ErrorBeginEnvironment, SyntaxKind.TokenError)
    ∷ (Token.ErrorEndEnvironment, SyntaxKind.TokenError)
    ∷ (Token.Error, SyntaxKind.TokenError)
    ∷ (Token.BeginEnvironment, SyntaxKind.TokenCommandSym)
    ∷ (Token.EndEnvironment, SyntaxKind.TokenCommandSym)
    ∷ (Token.BeginMath, SyntaxKind.TokenBeginMath)
    ∷ (Token.EndMath, SyntaxKind.TokenEndMath)
    ∷ []

-- what stands beside a kind in such a list, or else `other`
abbrev pub beside : ℕ → ℕ → List (ℕ × ℕ) → ℕ
beside other kind [] = other
beside other kind (p ∷ ps) = cond (eqb kind p.0) p.1 (beside other kind ps)

-- the last arm: any other command name is a ClauseCommandName. A number over 39 is no token's kind, and gives TokenError
unfoldable pub leaf_kind : ℕ → ℕ
leaf_kind kind = cond (ltb kind Limits.kinds) (beside SyntaxKind.ClauseCommandName kind conversions) SyntaxKind.TokenError
