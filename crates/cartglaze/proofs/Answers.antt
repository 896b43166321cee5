-- The two kinds of answer of a run, by their numbers.
use Rattle.std.specs.Prelude.{ℕ, Result, Ok, Err}
use Rattle.listings.specs.declared.answer.Counts.{Counts}
use Rattle.syntax.specs.declared.refusal.Refused.{Refused}

abbrev pub Answer : Type 0
Answer = Result Counts Refused

-- accepted with the counts of tree rows and of dropped rows
abbrev pub Accepted : ℕ → ℕ → Answer
Accepted rows dropped = Ok (record { rows = rows; dropped = dropped })

-- refused with a number, at a place
abbrev pub RefusedAt : ℕ → ℕ → Answer
RefusedAt number place = Err (record { number = number; place = place })
