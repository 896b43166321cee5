-- What the answer of `read` tells its caller: it is the only one that meets its contract, and the tables of a sheet that is read stand in the sheet
-- and in the numbers where its sections say. Three lists one behind the other are found again by their lengths. Assumes nothing.
use Prim.Native.Nat.{ℕ, ◌+◌, ◌≤◌, ◌<◌}
use mathlib.Core.Bool.{true, false}
use mathlib.Core.List.{List, ◌++◌, append_assoc}
use mathlib.Core.Path.{◌≡◌, refl, sym, ◌∙◌}
use native.Mathlib.Omega.{arith}
use borrow.Author.Tests.{leb-true, leb-false}
use lib.Dec.{leb}
use lib.ListN.{length, drop, length-append}
use lib.Seq.{take_at, drop_at, drop-drop}
use Rattle.std.specs.Prelude.{Option, Some, None, Result, Ok, Err}
use Rattle.rules.specs.Checks.{Tables}
use Rattle.rules.specs.Run.{over}
use Rattle.rules.specs.Sheet.{bytes_from, text_at, tables_of, readable, read}
use Rattle.rules.specs.Tables.{part}
use Rattle.rules.specs.Treelist.{most_numbers}
use Rattle.rules.proofs.Characters.{either}
use Rattle.rules.proofs.Sheet.{whole, text-inside, text-long, numbers-few}
use Rattle.sheets.specs.Contract.{Reads, numbers_of, sections_of}
use Rattle.sheets.specs.declared.sections.Sections.{Sections}
use Rattle.sheets.specs.declared.sheet.Unread.{Unread}
use Rattle.sheets.specs.declared.sheet.Unread.TheVariants.{Refused, NoRoom}

-- ---- one answer, and one buffer
pub only_read : {tables : Option Tables} {numbers v w : List ℕ} {r s : Result Sections Unread} → Reads tables numbers r v → Reads tables numbers s w
    → (r ≡ s) × (v ≡ w)
only_read a b = (a.answer ∙ sym b.answer, a.written ∙ sym b.written)

-- ---- a sheet that is read
pub record Told (sheet : List ℕ) (t : Tables) (s : Sections) (numbers : List ℕ) : Type 0 where
  pub tables : read sheet ≡ Some t
  pub inside : bytes_from text_at + s.text ≤ length sheet
  pub text : part sheet (bytes_from text_at) s.text ≡ t.text
  pub room : s.tokens + s.shapes + s.states ≤ length numbers
  pub tokens : part numbers 0 s.tokens ≡ t.tokens
  pub shapes : part numbers s.tokens s.shapes ≡ t.shapes
  pub states : part numbers (s.tokens + s.shapes) s.states ≡ t.states

-- three lists one behind the other, found again by their lengths
module _ (a b c d : List ℕ) where
  abbrev all : List ℕ
  all = (a ++ (b ++ c)) ++ d

  first_part : part all 0 (length a) ≡ a
  first_part = rw (append_assoc a (b ++ c) d) (take_at a ((b ++ c) ++ d) (length a) refl)

  behind_first : drop (length a) all ≡ (b ++ c) ++ d
  behind_first = rw (append_assoc a (b ++ c) d) (drop_at a ((b ++ c) ++ d) (length a) refl)

  second_part : part all (length a) (length b) ≡ b
  second_part = rw (behind_first, append_assoc b c d) (take_at b (c ++ d) (length b) refl)

  third_part : part all (length a + length b) (length c) ≡ c
  third_part =
      rw (← drop-drop (length b) (length a) all, behind_first, append_assoc b c d, drop_at b (c ++ d) (length b) refl) (take_at c d (length c) refl)

stands : (sheet numbers : List ℕ) → readable sheet ≡ true → length (numbers_of (tables_of sheet)) ≤ length numbers
    → Told sheet (tables_of sheet) (sections_of (tables_of sheet)) (over (numbers_of (tables_of sheet)) numbers)
unfolding read
stands sheet numbers ok room =
    let tables = tables_of sheet in
    let parts = whole sheet ok in
    let size = text-long sheet parts in
    let rest = drop (length (numbers_of tables)) numbers in
    record {
      tables = rw ok;
      inside = rw size (text-inside sheet parts);
      text = rw size;
      room = simp length-append (omega arith);
      tokens = first_part tables.tokens tables.shapes tables.states rest;
      shapes = second_part tables.tokens tables.shapes tables.states rest;
      states = third_part tables.tokens tables.shapes tables.states rest;
    }

-- the three ways that a sheet can go
abbrev count : List ℕ → ℕ
count sheet = length (numbers_of (tables_of sheet))

data Came (sheet numbers : List ℕ) (r : Result Sections Unread) (v : List ℕ) : Type 0 where
  refused : readable sheet ≡ false → r ≡ Err Refused → Came sheet numbers r v
  no_room : readable sheet ≡ true → length numbers < count sheet → r ≡ Err (NoRoom (count sheet)) → Came sheet numbers r v
  all_read : readable sheet ≡ true → count sheet ≤ length numbers → r ≡ Ok (sections_of (tables_of sheet))
      → v ≡ over (numbers_of (tables_of sheet)) numbers → Came sheet numbers r v

came : (sheet : List ℕ) {numbers v : List ℕ} {r : Result Sections Unread} → Reads (read sheet) numbers r v → Came sheet numbers r v
unfolding read
came sheet {numbers} k =
    either (readable sheet)
    (λ ok.
    either (leb (count sheet) (length numbers))
    (λ room. all_read ok (leb-true _ _ room) (rw (ok, room) at k.answer) (rw (ok, room) at k.written))
    (λ more. no_room ok (leb-false _ _ more) (rw (ok, more) at k.answer)))
    (λ bad. refused bad (rw bad at k.answer))

module _ {sheet numbers v : List ℕ} {r : Result Sections Unread} where
  none_where_refused : Came sheet numbers r v → r ≡ Err Refused → read sheet ≡ None
  unfolding read
  none_where_refused (refused bad is) e = rw bad
  none_where_refused (no_room ok more is) e = cc
  none_where_refused (all_read ok room is all) e = cc

  never_without_room : {n : ℕ} → most_numbers ≤ length numbers → Came sheet numbers r v → r ≡ Err (NoRoom n) → ⊥
  never_without_room enough (refused bad is) e = cc
  never_without_room enough (no_room ok more is) e =
      let few = numbers-few sheet (whole sheet ok) in
      let room : count sheet ≤ most_numbers = simp length-append few in
      omega arith
  never_without_room enough (all_read ok room is all) e = cc

  told-where_read : {s : Sections} → Came sheet numbers r v → r ≡ Ok s → Told sheet (tables_of sheet) s v
  told-where_read (refused bad is) e = absurd (cc)
  told-where_read (no_room ok more is) e = absurd (cc)
  told-where_read {s} (all_read ok room is all) e =
      let same : sections_of (tables_of sheet) ≡ s = cc in
      rw (← same, all) (stands sheet numbers ok room)

module _ (sheet : List ℕ) {numbers v : List ℕ} {r : Result Sections Unread} (k : Reads (read sheet) numbers r v) where
  pub told-refused : r ≡ Err Refused → read sheet ≡ None
  told-refused is = none_where_refused (came sheet k) is

  -- a buffer of so many numbers has room for every sheet's
  pub always_room : {n : ℕ} → most_numbers ≤ length numbers → r ≡ Err (NoRoom n) → ⊥
  always_room enough is = never_without_room enough (came sheet k) is

  pub told : {s : Sections} → r ≡ Ok s → Told sheet (tables_of sheet) s v
  told is = told-where_read (came sheet k) is
