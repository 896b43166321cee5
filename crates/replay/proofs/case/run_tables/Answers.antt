-- There is room for a dropped row for each token.
use Rattle.std.proofs.Common.{◌≡◌, ℕ, ◌*◌, ◌≤◌, List, length, take, replicate, arith}
use Rattle.std.specs.Prelude.{Result}
use Rattle.std.proofs.lemmas.List.{take-replicate}
use Rattle.rules.specs.Checks.{Tables}
use Rattle.rules.specs.Limits.{dropped_width}
use Rattle.rules.specs.Run.{run}
use Rattle.rules.specs.Tables.{token_count}
use Rattle.rules.specs.Treelist.{most_numbers}
use Rattle.listings.specs.Stands.{ran_of}
use Rattle.listings.specs.declared.answer.Counts.{Counts}
use Rattle.syntax.specs.declared.refusal.Refused.{Refused}
use Rattle.recorded.specs.Recorded.{before}
use Rattle.replay.specs.Replays.{Judges, dropped_before}
use Rattle.replay.specs.declared.case.Replayed.{Replayed}
use Rattle.replay.proofs.case.run_tables.Goals as goal

room_few : (tokens : List ℕ) → length tokens ≤ most_numbers → token_count tokens * dropped_width ≤ 8192
room_few tokens few = omega arith

module _ (case : List ℕ) (at : ℕ) (text tokens shapes states tree : List ℕ) where
  abbrev t : Tables
  t = record { text = text; tokens = tokens; shapes = shapes; states = states }

  judges : (answer : Result Counts Refused) {v w : List ℕ} {r : Replayed} → length tokens ≤ most_numbers
      → run t tree (take (token_count tokens * dropped_width) (replicate 8192 before)) ≡ ran_of answer v w
      → Judges case at text tokens (ran_of answer v w) r
      → Judges case at text tokens (run t tree (dropped_before tokens)) r
  judges answer few ran judged =
      let lent = take-replicate (token_count tokens * dropped_width) 8192 before (room_few tokens few) in
      let same = rw lent at ran in
      rw same judged

pub returns : goal.returns
returns c = search judges
