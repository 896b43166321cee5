-- When an accepted run gave what is recorded, as the code asks it: number after number, the rows, and what lies behind them. Assumes nothing.
use Prim.Native.Nat.{ℕ, zero, suc, ◌+◌, ◌*◌, ◌-◌}
use mathlib.Core.List.{List}
use mathlib.Core.Path.{◌≡◌, sym, ap, ◌∙◌}
use native.Mathlib.Nat.{sub-zero}
use native.Mathlib.Omega.{arith}
use borrow.Author.Tests.{eqb-true, eq-eqb}
use lib.Dec.{eqb}
use lib.ListN.{length, take, drop, replicate, take-append-drop}
use lib.Seq.{take_at, drop_at}
use Rattle.rules.specs.Limits.{tree_width, dropped_width}
use Rattle.rules.specs.Run.{Answer, accepted, Ran, over}
use Rattle.rules.specs.Sheet.{number_at}
use Rattle.rules.proofs.Characters.{either}
use Rattle.listings.specs.Stands.{ran_of}
use Rattle.std.specs.Prelude.{Ok}
use Rattle.compare.specs.Tells.{AllFrom}
use Rattle.recorded.specs.Compared.{RowsAre}
use Rattle.recorded.specs.Regular.{tree_regular, dropped_regular}
use Rattle.recorded.specs.Recorded.{tree_form, dropped_form, rows_at, rows_end, before, Agrees}
use Rattle.recorded.proofs.Forms.{rows_long}

-- ---- a buffer that is rows and behind them one number throughout
drop_replicate : (n m value : ℕ) → drop n (replicate m value) ≡ replicate (m - n) value
drop_replicate zero m value = rw sub-zero
drop_replicate (suc n) zero value = let none : 0 - suc n ≡ 0 = omega arith in rw none
drop_replicate (suc n) (suc m) value = let less : suc m - suc n ≡ m - n = omega arith in drop_replicate n m value ∙ rw less

module _ (rows buffer : List ℕ) (n value : ℕ) (long : length rows ≡ n) where
  over-rows : buffer ≡ over rows (replicate (length buffer) value) → take n buffer ≡ rows
  over-rows e = ap (λ (l : List ℕ). take n l) e ∙ take_at rows (drop (length rows) (replicate (length buffer) value)) n long

  over-rest : buffer ≡ over rows (replicate (length buffer) value) → AllFrom buffer n value
  over-rest e =
      ap (λ (l : List ℕ). drop n l) e
      ∙ drop_at rows (drop (length rows) (replicate (length buffer) value)) n long
      ∙ rw long (drop_replicate n (length buffer) value)

  is_over : take n buffer ≡ rows → AllFrom buffer n value → buffer ≡ over rows (replicate (length buffer) value)
  is_over first rest =
      sym (take-append-drop n buffer) ∙ rw (first, rest, long, drop_replicate n (length buffer) value)

-- an answer with both buffers
abbrev ran : Answer → List ℕ → List ℕ → Ran
ran answer tree dropped = record { answer = answer; tree = tree; dropped = dropped }

same-ran : (answer : Answer) {tree tree' dropped dropped' : List ℕ} → tree ≡ tree' → dropped ≡ dropped'
    → ran answer tree dropped ≡ ran answer tree' dropped'
same-ran answer e f = rw (e, f)

never : {A : Type 0} → ◌≡◌ {A = ℕ} 0 1 → A
never e = absurd (omega arith)

-- ---- an accepted run
module _ (case : List ℕ) (at : ℕ) (tree dropped : List ℕ) (rows drops : ℕ) where
  abbrev pub Accepts : Type 0
  Accepts = Agrees case at (ran_of (Ok (record { rows = rows; dropped = drops })) tree dropped)

  pub record AsAccepted : Type 0 where
    pub none : number_at case at ≡ 0
    pub row_count : rows ≡ number_at case (at + 4)
    pub drop_count : drops ≡ number_at case (at + 8)
    pub tree_rows : RowsAre tree_form case (at + 12) tree rows
    pub dropped-rows : RowsAre dropped_form case (rows_end tree_form case (at + 12) rows) dropped drops
    pub ends : rows_end dropped_form case (rows_end tree_form case (at + 12) rows) drops ≡ length case
    pub tree_rest : AllFrom tree (rows * tree_width) before
    pub dropped-rest : AllFrom dropped (drops * dropped_width) before

  abbrev next : ℕ
  next = rows_end tree_form case (at + 12) rows

  abbrev trees : List ℕ
  trees = rows_at tree_form case (at + 12) rows

  abbrev others : List ℕ
  others = rows_at dropped_form case next drops

  trees_long : length trees ≡ rows * tree_width
  trees_long = rows_long tree_regular case (at + 12) rows

  others_long : length others ≡ drops * dropped_width
  others_long = rows_long dropped_regular case next drops

  pub agrees_accepted : AsAccepted → Accepts
  agrees_accepted k =
      let is_zero = eq-eqb _ _ k.none in
      let tree_is = is_over trees tree _ before trees_long k.tree_rows k.tree_rest in
      let dropped-is = is_over others dropped _ before others_long k.dropped-rows k.dropped-rest in
      record {
        is = rw (is_zero, ← k.row_count, ← k.drop_count) (same-ran (accepted rows drops) tree_is dropped-is);
        ends = rw (is_zero, ← k.row_count, ← k.drop_count) k.ends;
      }

  -- the counts, once nothing is refused
  rows_are : number_at case at ≡ 0 → Accepts → rows ≡ number_at case (at + 4)
  rows_are none k = let same = ap (λ (r : Ran). r.answer) (rw (eq-eqb _ _ none) at k.is) in cc

  drops_are : number_at case at ≡ 0 → Accepts → drops ≡ number_at case (at + 8)
  drops_are none k = let same = ap (λ (r : Ran). r.answer) (rw (eq-eqb _ _ none) at k.is) in cc

  none_refused : Accepts → number_at case at ≡ 0
  none_refused k =
      either (eqb (number_at case at) 0) (λ yes. eqb-true _ _ yes)
      (λ no. let same = ap (λ (r : Ran). r.answer) (rw no at k.is) in never (cc))

  pub accepted_agrees : Accepts → AsAccepted
  accepted_agrees k =
      let none = none_refused k in
      let row_count = rows_are none k in
      let drop_count = drops_are none k in
      let is = rw (eq-eqb _ _ none, ← row_count, ← drop_count) at k.is in
      let tree_is = ap (λ (r : Ran). r.tree) is in
      let dropped-is = ap (λ (r : Ran). r.dropped) is in
      record {
        none = none;
        row_count = row_count;
        drop_count = drop_count;
        tree_rows = over-rows trees tree _ before trees_long tree_is;
        dropped-rows = over-rows others dropped _ before others_long dropped-is;
        ends = rw (eq-eqb _ _ none, ← row_count, ← drop_count) at k.ends;
        tree_rest = over-rest trees tree _ before trees_long tree_is;
        dropped-rest = over-rest others dropped _ before others_long dropped-is;
      }
