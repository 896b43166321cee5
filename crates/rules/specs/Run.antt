-- The whole run: the answer, and what both lent buffers hold afterwards.
use Rattle.std.specs.Prelude.{ℕ, ◌/◌, List, ◌++◌, length, drop, replicate}
use Rattle.std.specs.Prelude.{Option, None as none, Some as some}
use Rattle.rules.specs.Checks.{Tables, Refusal, checks, source_of}
use Rattle.rules.specs.Flat.{Built, Mark, flat, empty}
use Rattle.rules.specs.Limits
use Rattle.rules.specs.Outcome.{Out, went, refused}
use Rattle.rules.specs.Position.{Pos}
use Rattle.rules.specs.Reading.{parse}

-- "Success gives both row counts"; a refusal its number and its place
pub data Answer : Type 0 where
  accepted : ℕ → ℕ → Answer
  refused_at : ℕ → ℕ → Answer

-- an answer with the tree buffer and the dropped buffer after it
pub record Ran : Type 0 where
  pub answer : Answer
  pub tree : List ℕ
  pub dropped : List ℕ

-- the rows and then what the buffer held there
abbrev pub over : List ℕ → List ℕ → List ℕ
over rows buffer = rows ++ drop (length rows) buffer

-- "They set both lent output buffers to zeros throughout. Success gives both row counts; later elements keep what they held."
abbrev pub after_reading : List ℕ → List ℕ → Out (Pos Built Mark) → Ran
after_reading tree dropped (went p) =
    record {
      answer = accepted p.built.tree.rows (length p.built.dropped / Limits.dropped_width);
      tree = over p.built.tree.tree tree;
      dropped = over p.built.dropped dropped;
    }
after_reading tree dropped (refused number place) =
    record { answer = refused_at number place; tree = replicate (length tree) 0; dropped = replicate (length dropped) 0 }

-- "1 to 4 are checked in that order before reading, and write nothing."
abbrev pub after_checks : Option Refusal → Tables → List ℕ → List ℕ → Ran
after_checks (some refusal) t tree dropped = record { answer = refused_at refusal.0 refusal.1; tree = tree; dropped = dropped }
after_checks none t tree dropped = after_reading tree dropped (parse (flat (length tree)) (source_of t) empty)

unfoldable pub run : Tables → List ℕ → List ℕ → Ran
run t tree dropped = after_checks (checks t (length dropped)) t tree dropped
