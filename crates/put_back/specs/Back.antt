-- What is put back of a run's rows, and when the token texts return.
use Rattle.std.specs.Prelude.{ℕ, ◌/◌, ◌≤◌, Bool, cond, ◌&&◌, List, ◌≡◌, leb, length}
use Rattle.std.proofs.lemmas.List.Edits.{sets}
use Rattle.rules.specs.Limits.{dropped_width}
use Rattle.rules.specs.PutBack.{stored, put_back, tree_rows, dropped_rows, token_texts}
use Rattle.rules.specs.Questions.{row_count}
use Rattle.compare.specs.Tells.{Tells}

-- both buffers of a run with how many rows are counted in each, beside its text and its tokens
pub record Counted : Type 0 where
  pub text : List ℕ
  pub tokens : List ℕ
  pub tree : List ℕ
  pub rows : ℕ
  pub dropped : List ℕ
  pub drops : ℕ

-- in the order of the code
abbrev pub counted : List ℕ → List ℕ → List ℕ → ℕ → List ℕ → ℕ → Counted
counted text tokens tree rows dropped drops =
    record { text = text; tokens = tokens; tree = tree; rows = rows; dropped = dropped; drops = drops }

-- what is put back, and the token texts joined
abbrev pub back_of : Counted → List ℕ
back_of c = put_back (stored c.text c.tokens (tree_rows c.rows c.tree) (dropped_rows c.drops c.dropped))

abbrev pub texts_of : Counted → List ℕ
texts_of c = token_texts c.text c.tokens

-- so many rows stand in the buffers
abbrev pub stand : Counted → Bool
stand c = leb c.rows (row_count c.tree) && leb c.drops (length c.dropped / dropped_width)

-- the token texts return: the rows stand in the buffers, what is put back are the token texts, and they have room in so many bytes, twice
pub record Returns (c : Counted) (back whole : ℕ) : Type 0 where
  pub rows : c.rows ≤ row_count c.tree
  pub drops : c.drops ≤ length c.dropped / dropped_width
  pub same : back_of c ≡ texts_of c
  pub back_room : length (texts_of c) ≤ back
  pub whole_room : length (texts_of c) ≤ whole

-- whether they do; both texts are written into the bytes lent for them, as far as these go, if the rows stand in the buffers
pub record Returned (c : Counted) (back whole : List ℕ) (r : Bool) (back' whole' : List ℕ) : Type 0 where
  pub answer : Tells (Returns c (length back) (length whole)) r
  pub back_after : back' ≡ cond (stand c) (sets back 0 (back_of c)) back
  pub whole-after : whole' ≡ cond (stand c) (sets whole 0 (texts_of c)) whole
