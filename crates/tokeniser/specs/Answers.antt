-- What the code's answers stand for.
use Rattle.std.specs.Prelude.{ℕ, zero, suc, Option, Some, None, Result, Ok, Err}
use Rattle.rules.specs.Tokeniser as rules
use Rattle.syntax.specs.declared.refusal.Refused.{Refused}

-- how long a name is, of which the rules say 0 where there is none
abbrev pub named_in : ℕ → Option ℕ
named_in zero = None
named_in (suc more) = Some (suc more)

abbrev pub tokenised_of : Result ℕ Refused → rules.Tokenised
tokenised_of (Ok tokens) = rules.written tokens
tokenised_of (Err refused) = rules.refused_at refused.number refused.place
