-- What a replay says of a recorded case.
use Rattle.std.specs.Prelude.{ℕ, ◌*◌, Bool, true, false, cond, ◌&&◌, List, ◌≡◌, leb, length, replicate}
use Rattle.std.specs.Prelude.{Option, Some, None}
use Rattle.rules.specs.Checks.{Tables}
use Rattle.rules.specs.Limits.{dropped_width}
use Rattle.rules.specs.Run.{Answer, accepted, refused_at, Ran, run}
use Rattle.rules.specs.Sheet.{most_bytes, read}
use Rattle.rules.specs.Tables.{token_count}
use Rattle.put_back.specs.Back.{counted, Returns}
use Rattle.recorded.specs.Recorded.{before, Agrees, sheet_end, sheet_of, room_of, answer_at}
use Rattle.compare.specs.Tells.{Tells}
use Rattle.replay.specs.declared.case.Replayed.{Replayed}

-- ---- of a run's answer and buffers
abbrev pub is_accepted : Answer → Bool
is_accepted (accepted rows drops) = true
is_accepted (refused_at number place) = false

-- the token texts of an accepted run return, where they have room in as many bytes as a sheet has at most; those of a refused one don't
abbrev pub TextsReturn : List ℕ → List ℕ → Ran → Answer → Type 0
TextsReturn text tokens ran (accepted rows drops) = Returns (counted text tokens ran.tree rows ran.dropped drops) most_bytes most_bytes
TextsReturn text tokens ran (refused_at number place) = ⊥

-- what is said of a run on this text and these tokens, beside what is recorded from a place on
pub record Judges (case : List ℕ) (at : ℕ) (text tokens : List ℕ) (ran : Ran) (r : Replayed) : Type 0 where
  pub agrees : Tells (Agrees case at ran) r.agrees
  pub accepted : r.accepted ≡ is_accepted ran.answer
  pub returns : Tells (TextsReturn text tokens ran ran.answer) r.returns

-- ---- of a case

-- the largest tree buffer: "its room at most 16,384 numbers"
abbrev pub most_room : ℕ
most_room = 16384

-- the tables of a case, if it can be replayed: its sheet is all there and is read, and no larger buffer is asked for
abbrev pub tables_in : List ℕ → Option Tables
tables_in case = cond (leb (sheet_end case) (length case) && leb (room_of case) most_room) (read (sheet_of case)) None

-- "A replay lends a tree buffer of `room` numbers, five a row, and a dropped buffer of 3 numbers a token."
abbrev pub tree_before : List ℕ → List ℕ
tree_before case = replicate (room_of case) before

abbrev pub dropped_before : List ℕ → List ℕ
dropped_before tokens = replicate (token_count tokens * dropped_width) before

-- a case that can't be replayed neither agrees nor is accepted
abbrev pub not_replayed : Replayed
not_replayed = record { agrees = false; accepted = false; returns = false }

abbrev pub ReplaysOn : List ℕ → Option Tables → Replayed → Type 0
ReplaysOn case None r = r ≡ not_replayed
ReplaysOn case (Some t) r = Judges case (answer_at case) t.text t.tokens (run t (tree_before case) (dropped_before t.tokens)) r

pub record Replays (case : List ℕ) (r : Replayed) : Type 0 where
  pub on : ReplaysOn case (tables_in case) r
