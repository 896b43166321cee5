-- The run's contract fixes what it speaks of: two results that meet it are equal, for no two answers stand for the same. The questions' are fixed in
-- crates/questions/proofs/Only.antt. Assumes nothing.
use Rattle.std.specs.Prelude.{Ok, Err}
use mathlib.Core.Path.{◌≡◌, sym, ap, ap₂, ◌∙◌}
use mathlib.Core.List.{List}
use Prim.Native.Nat.{ℕ}
use native.Mathlib.Omega.{arith}
use Rattle.rules.specs.Checks.{Tables}
use Rattle.rules.specs.Run as rules
use Rattle.rules.specs.Run.{run}
use Rattle.listings.specs.Stands.{answer_of, ran_of}
use Rattle.cartglaze.proofs.Answers.{Answer}
use Rattle.listings.specs.declared.answer.Counts.{Counts}
use Rattle.syntax.specs.declared.refusal.Refused.{Refused}

-- the two numbers of an answer
abbrev first : rules.Answer → ℕ
first (rules.accepted rows dropped) = rows
first (rules.refused_at number place) = number

abbrev second : rules.Answer → ℕ
second (rules.accepted rows dropped) = dropped
second (rules.refused_at number place) = place

-- two answers that stand for the same are the same
pub same_answer : (r s : Answer) → answer_of r ≡ answer_of s → r ≡ s
same_answer (Ok r) (Ok s) e = ap Ok (ap₂ counts (ap first e) (ap second e))
  where
    counts : ℕ → ℕ → Counts
    counts rows dropped = record { rows = rows; dropped = dropped }
same_answer (Ok r) (Err s) e = let z : ◌≡◌ {A = ℕ} 0 1 = cc in absurd (omega arith)
same_answer (Err r) (Ok s) e = let z : ◌≡◌ {A = ℕ} 0 1 = cc in absurd (omega arith)
same_answer (Err r) (Err s) e = ap Err (ap₂ refused (ap first e) (ap second e))
  where
    refused : ℕ → ℕ → Refused
    refused number place = record { number = number; place = place }

-- the answer and every element of both buffers
pub only_run : (t : Tables) (tree dropped : List ℕ) (r s : Answer) (v v' w w' : List ℕ) → run t tree dropped ≡ ran_of r v w
    → run t tree dropped ≡ ran_of s v' w'
    → (r ≡ s) × ((v ≡ v') × (w ≡ w'))
only_run t tree dropped r s v v' w w' e f =
    let same = sym e ∙ f in
    (same_answer r s (ap (λ x. x.answer) same), (ap (λ x. x.tree) same, ap (λ x. x.dropped) same))
