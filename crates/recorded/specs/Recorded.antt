-- What the bytes of a recorded case say (README.md of the data folder of `cases` has the format). A byte past the case's end counts as 0: a case that
-- is cut short says something else.
use Rattle.std.specs.Prelude.{ℕ, zero, suc, ◌+◌, ◌*◌, ◌-◌, ◌/◌, ◌%◌, ◌^◌, Bool, cond, List, [], ◌∷◌, ◌++◌, ◌≡◌, eqb, length, get_or, replicate}
use Rattle.rules.specs.Flat.{tag_leaf}
use Rattle.rules.specs.Limits.{tree_width, dropped_width}
use Rattle.rules.specs.Run.{accepted, refused_at, Ran, over}
use Rattle.rules.specs.Sheet.{number_at}
use Rattle.rules.specs.Tables.{part}

-- ---- numbers: "All numbers are big-endian". One of four bytes is the sheets' `number_at`
abbrev pub short_at : List ℕ → ℕ → ℕ
short_at case at = get_or case at 0 * 256 + get_or case (at + 1) 0

-- ---- rows

-- how the rows of a buffer are recorded: how many numbers a row has, the numbers of the row whose bytes begin at a place, and how many bytes it has
pub record Form : Type 0 where
  pub width : ℕ
  pub row : List ℕ → ℕ → List ℕ
  pub bytes : List ℕ → ℕ → ℕ

-- "3 or 7 a tree row: 1 byte tag * 64 + kind, 2 bytes token; for a leaf also 2 bytes start and 2 bytes length"
abbrev pub kinds : ℕ
kinds = 64

abbrev pub if_leaf : List ℕ → ℕ → ℕ → ℕ → ℕ
if_leaf case at leaf other = cond (eqb (get_or case at 0 / kinds) tag_leaf) leaf other

abbrev pub tree_form : Form
tree_form =
    record {
      width = tree_width;
      row = λ case at.
          get_or case at 0 / kinds
          ∷ get_or case at 0 % kinds
          ∷ if_leaf case at (short_at case (at + 3)) 0
          ∷ if_leaf case at (short_at case (at + 5)) 0
          ∷ short_at case (at + 1)
          ∷ [];
      bytes = λ case at. if_leaf case at 7 3;
    }

-- "7 a dropped row: 2 bytes token, 1 byte reason, 4 bytes leaves"
abbrev pub dropped_form : Form
dropped_form =
    record {
      width = dropped_width;
      row = λ case at. short_at case at ∷ get_or case (at + 2) 0 ∷ number_at case (at + 3) ∷ [];
      bytes = λ case at. 7;
    }

-- so many rows, one behind the other, from a place on; and where their bytes end
unfoldable pub rows_at : Form → List ℕ → ℕ → ℕ → List ℕ
rows_at form case at zero = []
rows_at form case at (suc n) = form.row case at ++ rows_at form case (at + form.bytes case at) n

unfoldable pub rows_end : Form → List ℕ → ℕ → ℕ → ℕ
rows_end form case at zero = at
rows_end form case at (suc n) = rows_end form case (at + form.bytes case at) n

-- ---- the answer, from a place on: "number of refusal, 0 if accepted"; then the place; or both counts, the tree's rows and the dropped rows
abbrev pub is_accepted : List ℕ → ℕ → Bool
is_accepted case at = eqb (number_at case at) 0

abbrev pub row_count : List ℕ → ℕ → ℕ
row_count case at = number_at case (at + 4)

abbrev pub drop_count : List ℕ → ℕ → ℕ
drop_count case at = number_at case (at + 8)

abbrev pub tree_numbers : List ℕ → ℕ → List ℕ
tree_numbers case at = rows_at tree_form case (at + 12) (row_count case at)

abbrev pub tree_end : List ℕ → ℕ → ℕ
tree_end case at = rows_end tree_form case (at + 12) (row_count case at)

abbrev pub dropped_numbers : List ℕ → ℕ → List ℕ
dropped_numbers case at = rows_at dropped_form case (tree_end case at) (drop_count case at)

abbrev pub answer_end : List ℕ → ℕ → ℕ
answer_end case at = cond (is_accepted case at) (rows_end dropped_form case (tree_end case at) (drop_count case at)) (at + 8)

-- what both buffers hold before a run, so that what is not written can be told
abbrev pub before : ℕ
before = 2 ^ 32 - 1

-- what is recorded of a run with buffers of so many numbers: its answer, and every number of both buffers. "A refusal in this list is 5, 6, 7 or 8,
-- so both buffers are zeros behind it."
abbrev pub recorded : List ℕ → ℕ → ℕ → ℕ → Ran
recorded case at room space =
    cond (is_accepted case at)
    (record {
      answer = accepted (row_count case at) (drop_count case at);
      tree = over (tree_numbers case at) (replicate room before);
      dropped = over (dropped_numbers case at) (replicate space before);
    })
    (record { answer = refused_at (number_at case at) (number_at case (at + 4)); tree = replicate room 0; dropped = replicate space 0 })

-- a run gave what is recorded from a place on, and the case ends there
pub record Agrees (case : List ℕ) (at : ℕ) (ran : Ran) : Type 0 where
  pub is : ran ≡ recorded case at (length ran.tree) (length ran.dropped)
  pub ends : answer_end case at ≡ length case

-- ---- a whole case: "length of the sheet", the sheet, "room: length of the tree buffer in numbers", the answer
abbrev pub sheet_at : ℕ
sheet_at = 4

abbrev pub sheet_end : List ℕ → ℕ
sheet_end case = sheet_at + number_at case 0

abbrev pub sheet_of : List ℕ → List ℕ
sheet_of case = part case sheet_at (number_at case 0)

abbrev pub room_of : List ℕ → ℕ
room_of case = number_at case (sheet_end case)

abbrev pub answer_at : List ℕ → ℕ
answer_at case = sheet_end case + 4
