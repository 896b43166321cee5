-- A run's answer and that of its listing in the paper's numbers and values, case by case.
use Rattle.std.specs.Prelude.{ℕ, Bool, true, false, List, Result, Ok, Err}
use Rattle.rules.specs.Run.{accepted, refused_at, Ran}
use Rattle.rules.specs.Run as run
use Rattle.listings.specs.declared.answer.Counts.{Counts}
use Rattle.listings.specs.declared.listing.NoRoom.{NoRoom}
use Rattle.syntax.specs.declared.refusal.Refused.{Refused}

-- "Success gives both row counts"; a refusal its number and its place
abbrev pub answer_of : Result Counts Refused → run.Answer
answer_of (Ok counts) = accepted counts.rows counts.dropped
answer_of (Err refused) = refused_at refused.number refused.place

-- with both lent buffers after it
abbrev pub ran_of : Result Counts Refused → List ℕ → List ℕ → Ran
ran_of answer tree dropped = record { answer = answer_of answer; tree = tree; dropped = dropped }

-- whether the lines were written, all of them, and how many bytes they have. A listing without room is no refusal: 01 has no number for it
pub record Written : Type 0 where
  pub whole : Bool
  pub bytes : ℕ

abbrev pub written_of : Result ℕ NoRoom → Written
written_of (Ok count) = record { whole = true; bytes = count }
written_of (Err short) = record { whole = false; bytes = short.needed }
