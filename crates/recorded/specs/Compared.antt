-- What the answers of the comparisons stand for.
use Rattle.std.specs.Prelude.{ℕ, ◌*◌, List, ◌≡◌, take, Option, Some, None}
use Rattle.rules.specs.Tables.{part}
use Rattle.recorded.specs.Recorded.{Form, rows_at}

-- the place where the bytes go on, exactly where something holds
pub record Compares (end : ℕ) (P : Type 0) (r : Option ℕ) : Type 0 where
  pub same : (next : ℕ) → r ≡ Some next → (next ≡ end) × P
  pub differs : r ≡ None → P → ⊥

-- the numbers of one row of a buffer are those that are recorded at a place
abbrev pub RowIs : Form → List ℕ → ℕ → List ℕ → ℕ → Type 0
RowIs form case at rows row = part rows (row * form.width) form.width ≡ form.row case at

-- and those of its first rows
abbrev pub RowsAre : Form → List ℕ → ℕ → List ℕ → ℕ → Type 0
RowsAre form case at rows count = take (count * form.width) rows ≡ rows_at form case at count
