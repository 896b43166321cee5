-- What the tests and the three parts of `read` come to: the answer and the numbers of the rule. Each table is read behind those that are there
-- already (`next`), so that after three of them the buffer begins with all. Assumes nothing.
use Prim.Native.Nat.{ℕ, ◌+◌, ◌/◌, ◌≤◌, ◌<◌}
use mathlib.Core.Bool.{true, false}
use mathlib.Core.List.{List, [], ◌++◌, append_assoc}
use mathlib.Core.Path.{◌≡◌, refl, sym, ap, ◌∙◌}
use native.Mathlib.Nat.{zero-add}
use native.Mathlib.Omega.{arith}
use borrow.Author.Tests.{le-leb, lt-leb}
use lib.ListN.{length, take, drop, length-append}
use lib.Seq.{take_at, drop_at, drop-drop}
use Rattle.std.specs.Prelude.{Ok, Err}
use Rattle.rules.specs.Run.{over}
use Rattle.rules.specs.Sheet.{number_bytes, number_at, tokens_at, shapes_at, states_at, table_at, tables_of, readable, read}
use Rattle.rules.proofs.Sheet.{table_long, whole, text-long}
use Rattle.sheets.specs.Contract.{Placed, Counted, Room, with_table, Reads, numbers_of, sections_of}
use Rattle.sheets.specs.declared.sections.Places.{Places}
use Rattle.sheets.specs.declared.sections.Sections.{Sections}
use Rattle.sheets.specs.declared.sheet.Unread.TheVariants.{Refused, NoRoom}

-- the first numbers of a buffer are `done`, and all behind them as they were
pub record Done (numbers done : List ℕ) (count : ℕ) (v : List ℕ) : Type 0 where
  pub is : v ≡ done ++ drop count numbers
  pub long : length done ≡ count
  pub fits : count ≤ length numbers

-- the next table is read behind them
pub next : (sheet numbers : List ℕ) (at : ℕ) {place count from : ℕ} {done v w : List ℕ} → Done numbers done from v → from + count ≤ length numbers
    → place ≡ at → count ≡ number_at sheet at / number_bytes → w ≡ with_table sheet place from count v
    → Done numbers (done ++ table_at sheet at) (from + count) w
next sheet numbers at {count = count} {from} {done} {v} so_far fits here counted is =
    let rest = drop from numbers in
    let front : take from v ≡ done = ap (λ (l : List ℕ). take from l) so_far.is ∙ take_at done rest from so_far.long in
    let behind : drop from v ≡ rest = ap (λ (l : List ℕ). drop from l) so_far.is ∙ drop_at done rest from so_far.long in
    let last : drop (from + count) v ≡ drop (from + count) numbers =
    sym (drop-drop count from v) ∙ ap (λ (l : List ℕ). drop count l) behind ∙ drop-drop count from numbers in
    record {
      is = is ∙ rw (here, front, last);
      long = simp length-append (omega (arith, so_far.long, table_long sheet at));
      fits = fits;
    }

module _ (sheet numbers : List ℕ) where
  pub refused : readable sheet ≡ false → Reads (read sheet) numbers (Err Refused) numbers
  unfolding read
  refused no-sheet = record { answer = rw no-sheet; refusal = rw no-sheet; written = rw no-sheet }

  module _ {s : Sections} (counts : Counted sheet s) where
    tokens-long : length (table_at sheet (tokens_at sheet)) ≡ s.tokens
    tokens-long = table_long sheet (tokens_at sheet) ∙ sym counts.tokens

    shapes-long : length (table_at sheet (shapes_at sheet)) ≡ s.shapes
    shapes-long = table_long sheet (shapes_at sheet) ∙ sym counts.shapes

    states-long : length (table_at sheet (states_at sheet)) ≡ s.states
    states-long = table_long sheet (states_at sheet) ∙ sym counts.states

    total : length (numbers_of (tables_of sheet)) ≡ s.tokens + s.shapes + s.states
    total = simp length-append (omega (arith, tokens-long, shapes-long, states-long))

    module _ (ok : readable sheet ≡ true) where
      counted : sections_of (tables_of sheet) ≡ s
      counted = rw (text-long sheet (whole sheet ok) ∙ sym counts.text, tokens-long, shapes-long, states-long)

      pub no_room : length numbers < s.tokens + s.shapes + s.states
          → Reads (read sheet) numbers (Err (NoRoom (s.tokens + s.shapes + s.states))) numbers
      unfolding read
      no_room more =
          let all = total in
          let longer : length numbers < length (numbers_of (tables_of sheet)) = omega arith in
          record { answer = rw (ok, lt-leb _ _ longer, all); refusal = rw ok; written = rw (ok, lt-leb _ _ longer) }

      pub all_read : {v : List ℕ} → s.tokens + s.shapes + s.states ≤ length numbers → v ≡ over (numbers_of (tables_of sheet)) numbers
          → Reads (read sheet) numbers (Ok s) v
      unfolding read
      all_read fits written =
          let all = total in
          let room : length (numbers_of (tables_of sheet)) ≤ length numbers = omega arith in
          record { answer = rw (ok, le-leb _ _ room, counted); refusal = rw ok; written = rw (ok, le-leb _ _ room) written }

-- the three tables one behind the other
pub filled : (sheet numbers : List ℕ) {p : Places} {s : Sections} {one two three : List ℕ} → Placed sheet p → Room sheet s numbers
    → one ≡ with_table sheet p.tokens 0 s.tokens numbers
    → two ≡ with_table sheet p.shapes s.tokens s.shapes one
    → three ≡ with_table sheet p.states (s.tokens + s.shapes) s.states two
    → three ≡ over (numbers_of (tables_of sheet)) numbers
filled sheet numbers {s = s} placed room tokens-in shapes-in states-in =
    let counts = room.counted in
    let fits = room.fits in
    let none : Done numbers [] 0 numbers = record { is = refl; long = refl; fits = omega arith } in
    let tokens-done = rw zero-add at (next sheet numbers (tokens_at sheet) none (omega arith) placed.tokens counts.tokens tokens-in) in
    let shapes-done = next sheet numbers (shapes_at sheet) tokens-done (omega arith) placed.shapes counts.shapes shapes-in in
    let states-done = next sheet numbers (states_at sheet) shapes-done (omega arith) placed.states counts.states states-in in
    let all : length (numbers_of (tables_of sheet)) ≡ s.tokens + s.shapes + s.states = total sheet numbers counts in
    states-done.is ∙ rw (all, append_assoc (table_at sheet (tokens_at sheet)) (table_at sheet (shapes_at sheet)) (table_at sheet (states_at sheet)))
