-- What the code gives of a token, beside the rule's.
use Rattle.std.specs.Prelude.{ℕ, ◌+◌, ◌≡◌}
use Rattle.rules.specs.Tokeniser as rules
use Rattle.tokeniser.specs.declared.lexeme.Lexeme.{Lexeme}

-- a token that stands at a place of the text
pub record Stands (at : ℕ) (token : rules.Lexeme) (given : Lexeme) : Type 0 where
  pub kind : given.kind ≡ token.kind
  pub start : given.start ≡ at + token.lead
  pub long : given.length ≡ token.length
  pub end : given.end ≡ at + token.size
