-- Rows compared one behind the other: so many are the recorded ones, and the others are recorded from a place on; one more at a turn. Assumes
-- nothing.
use Prim.Native.Nat.{ℕ, suc, ◌+◌, ◌*◌, ◌-◌, ◌≤◌, ◌<◌}
use mathlib.Core.List.{List, [], ◌++◌, append_assoc, append-nil}
use mathlib.Core.Path.{◌≡◌, sym, ap, ◌∙◌}
use native.Mathlib.Nat.{suc-mul}
use native.Mathlib.Numerals.{add-one}
use native.Mathlib.Omega.{arith}
use lib.ListN.{length, take, drop, length-take, length-drop}
use lib.Seq.{length-take-le, take-add, take-take, take_at, drop_at}
use Rattle.recorded.specs.Recorded.{Form, rows_at, rows_end}
use Rattle.recorded.specs.Compared.{Compares, RowIs, RowsAre}
use Rattle.recorded.specs.Regular.{Regular}
use Rattle.std.specs.Prelude.{Option, Some, None}
use Rattle.recorded.proofs.Comparing.{is_same, is_other}

-- ---- the rows that are left
module _ (form : Form) (case : List ℕ) where
  left_next : (next n row : ℕ) → row < n → rows_at form case next (n - row)
      ≡ form.row case next ++ rows_at form case (next + form.bytes case next) (n - (row + 1))
  unfolding rows_at
  left_next next n row more = let one : n - row ≡ suc (n - (row + 1)) = omega arith in rw one

  end_next : (next n row : ℕ) → row < n → rows_end form case next (n - row) ≡ rows_end form case (next + form.bytes case next) (n - (row + 1))
  unfolding rows_end
  end_next next n row more = let one : n - row ≡ suc (n - (row + 1)) = omega arith in rw one

  none_left : (next n row : ℕ) → n ≤ row → (rows_at form case next (n - row) ≡ []) × (rows_end form case next (n - row) ≡ next)
  unfolding rows_at rows_end
  none_left next n row all = let none : n - row ≡ 0 = omega arith in (rw none, rw none)

-- ---- a list's first numbers are known, and with more of them what follows is
behind : (n m : ℕ) (rows rest : List ℕ) → n ≤ length rows → take (n + m) rows ≡ take n rows ++ rest → take m (drop n rows) ≡ rest
behind n m rows rest room whole =
    let first = length-take-le n rows room in
    let front : take n rows ++ take m (drop n rows) ≡ take n rows ++ rest = sym (take-add n m rows) ∙ whole in
    sym (drop_at (take n rows) (take m (drop n rows)) n first) ∙ ap (λ (l : List ℕ). drop n l) front ∙ drop_at (take n rows) rest n first

-- so many rows are the recorded ones, and the others are recorded from `next` on
pub record Upto (form : Form) (case : List ℕ) (at : ℕ) (rows : List ℕ) (count next row : ℕ) : Type 0 where
  pub few : row ≤ count
  pub near : next ≤ at + 7 * row
  pub room : row * form.width ≤ length rows
  pub end : rows_end form case at count ≡ rows_end form case next (count - row)
  pub same : rows_at form case at count ≡ take (row * form.width) rows ++ rows_at form case next (count - row)

module _ {form : Form} (regular : Regular form) {case : List ℕ} {at : ℕ} {rows : List ℕ} {count next row : ℕ}
    (before : Upto form case at rows count next row) where
  pub ends : count ≤ row → Compares (rows_end form case at count) (RowsAre form case at rows count) (Some next)
  ends all =
      let here : row ≡ count = let few = before.few in omega arith in
      let none = none_left form case next count row all in
      let read : rows_at form case at count ≡ take (row * form.width) rows = before.same ∙ rw (none.0, append-nil) in
      is_same (sym (before.end ∙ none.1)) (sym (rw here at read))

  module _ (more : row < count) where
    abbrev from : ℕ
    from = row * form.width

    -- the row's own numbers are all there
    row_room : RowIs form case next rows row → from + form.width ≤ length rows
    row_room is =
        let long = ap length is ∙ regular.long case next in
        let some = regular.some in
        omega (arith, length-take form.width (drop from rows), length-drop from rows)

    goes_on : {behind : ℕ} → behind ≡ next + form.bytes case next → RowIs form case next rows row
        → Upto form case at rows count behind (row + 1)
    goes_on place is =
        let few = regular.few case next in
        let near = before.near in
        let all : (row + 1) * form.width ≡ from + form.width = rw add-one (suc-mul row form.width) in
        let rest = rows_at form case (next + form.bytes case next) (count - (row + 1)) in
        record {
          few = omega arith;
          near = omega arith;
          room = rw all (row_room is);
          end = before.end ∙ rw place (end_next form case next count row more);
          same =
              before.same
              ∙ ap (λ (l : List ℕ). take from rows ++ l) (left_next form case next count row more)
              ∙ rw (place, all, take-add from form.width rows, is)
              (sym (append_assoc (take from rows) (form.row case next) rest));
        }

    -- where all rows are the recorded ones, this one is
    row_is : RowsAre form case at rows count → RowIs form case next rows row
    row_is are =
        let width = form.width in
        let left = count - (row + 1) in
        let here : count ≡ row + suc left = omega arith in
        let size : count * width ≡ from + (width + left * width) = ap (λ (n : ℕ). n * width) here ∙ omega arith in
        let this = form.row case next in
        let rest = rows_at form case (next + form.bytes case next) left in
        let recorded = before.same ∙ ap (λ (l : List ℕ). take from rows ++ l) (left_next form case next count row more) in
        let whole : take (from + (width + left * width)) rows ≡ take from rows ++ (this ++ rest) = rw size at (are ∙ recorded) in
        let these = behind from (width + left * width) rows (this ++ rest) before.room whole in
        let few : width ≤ width + left * width = omega arith in
        sym (take-take width _ (drop from rows) few) ∙ ap (λ (l : List ℕ). take width l) these ∙ take_at this rest width (regular.long case next)

    pub stops : {r s : Option ℕ} → Compares (next + form.bytes case next) (RowIs form case next rows row) r → r ≡ None → s ≡ None
        → Compares (rows_end form case at count) (RowsAre form case at rows count) s
    stops compares is none = rw none (is_other (λ are. compares.differs is (row_is are)))

    pub turns : {r : Option ℕ} {behind : ℕ} → Compares (next + form.bytes case next) (RowIs form case next rows row) r
        → r ≡ Some behind
        → Upto form case at rows count behind (row + 1)
    turns compares is = let same = compares.same _ is in goes_on same.0 same.1
