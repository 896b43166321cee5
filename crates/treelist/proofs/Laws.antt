-- What is printed of a sheet that is read is the listing of its run; and the lines of every answer have room, since no row's line has more than five
-- numbers of 32 bits. Assumes nothing.
use Prim.Native.Nat.{ℕ, ◌*◌, ◌≤◌}
use mathlib.Core.List.{List}
use mathlib.Core.Path.{◌≡◌, sym, ◌∙◌}
use native.Mathlib.Omega.{arith}
use borrow.Author.Tests.{le-leb}
use lib.ListN.{length, get_or}
use Rattle.std.specs.Prelude.{Result, Ok}
use mir.Syntax.{w32}
use mir.Val.{Fits}
use Rattle.rules.specs.Limits.{tree_width, dropped_width}
use Rattle.rules.specs.Listing.{listing}
use Rattle.rules.specs.Run.{Ran, run}
use Rattle.rules.specs.Sheet.{tables_of, read}
use Rattle.rules.specs.Treelist.{tree_rows, dropped_rows, printed_ran, printed_of}
use Rattle.rules.proofs.Listing.{InWords, listing-few}
use Rattle.listings.specs.Contract.{Lists}
use Rattle.sheets.specs.Contract.{Reads}
use Rattle.listings.specs.Stands.{answer_of}
use Rattle.listings.specs.declared.answer.Counts.{Counts}
use Rattle.listings.specs.declared.listing.NoRoom.{NoRoom}
use Rattle.sheets.specs.declared.sections.Sections.{Sections}
use Rattle.sheets.specs.declared.sheet.Unread.{Unread}
use Rattle.syntax.specs.declared.refusal.Refused.{Refused}
use Rattle.sheets.proofs.Answers.{told}
use Rattle.treelist.specs.Contract.{Small, Prints}

-- ---- what is printed of a sheet
module _ (sheet tree dropped : List ℕ) {numbers after out v : List ℕ} {found : Result Sections Unread} {n : ℕ}
    (k : Reads (read sheet) numbers found after) where
  pub of_run : {s : Sections} {ran : Ran} → found ≡ Ok s → run (tables_of sheet) tree dropped ≡ ran → Prints (printed_ran ran) out n v
      → Prints (printed_of tree dropped (read sheet)) out n v
  of_run is ran-is put = rw ((told sheet k is).tables, ran-is) put

-- ---- the lines
-- of any answer, on the program's buffers: they have room, since every number of a row has 32 bits
abbrev Rows : List ℕ → Type 0
Rows l = (i : ℕ) → Fits w32 (get_or l i 0)

module _ (answer : Result Counts Refused) (tree dropped : List ℕ) {out v : List ℕ} {r : Result ℕ NoRoom}
    (low : InWords (answer_of answer)) (tree_words : Rows tree) (dropped_words : Rows dropped) (small : Small tree dropped out)
    (k : Lists (listing (answer_of answer) tree dropped) out r v) where
  room : length (listing (answer_of answer) tree dropped) ≤ length out
  room =
      let of_tree : length tree ≤ tree_rows * tree_width = omega (arith, small.tree_rows) in
      let of_dropped : length dropped ≤ dropped_rows * dropped_width = omega (arith, small.dropped-rows) in
      let few = listing-few (answer_of answer) tree dropped low (λ i. (tree_words i).fits) (λ i. (dropped_words i).fits) of_tree of_dropped in
      omega (arith, small.room)

  pub all_written : r ≡ Ok (length (listing (answer_of answer) tree dropped))
  all_written = let fits = room in k.answer ∙ rw (le-leb _ _ fits)

-- ---- what is printed, and every byte of the buffer, are the only ones that meet the contract
pub only_printed : {lines out v w : List ℕ} {r s : ℕ} → Prints lines out r v → Prints lines out s w → (r ≡ s) × (v ≡ w)
only_printed one other = (one.count ∙ sym other.count, one.written ∙ sym other.written)
