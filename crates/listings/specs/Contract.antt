-- What the contracts say of the lent bytes that lines are written into.
use Rattle.std.specs.Prelude.{ℕ, ◌+◌, ◌-◌, ◌/◌, ◌^◌, min, true, false, cond, List, ◌++◌, ◌≡◌, leb, length, Result, Ok, Err}
use Rattle.std.proofs.lemmas.List.Edits.{sets}
use Rattle.rules.specs.Limits
use Rattle.rules.specs.Listing.{tree_lines, dropped_lines}
use Rattle.rules.specs.Questions.{row_count}
use Rattle.rules.specs.Run.{over}
use Rattle.listings.specs.Stands.{Written, written_of}
use Rattle.listings.specs.declared.listing.NoRoom.{NoRoom}

-- the largest count
abbrev pub most : ℕ
most = 2 ^ 64 - 1

-- bytes are written one by one from `at` on, those that have no room are left out; all are counted, up to the largest count
pub record Wrote (bytes : List ℕ) (t : List ℕ) (at : ℕ) (v : List ℕ) (r : ℕ) : Type 0 where
  pub is : v ≡ sets t at bytes
  pub next : r ≡ min (at + length bytes) most

-- the lines of the first rows of each table, of as many as there are
abbrev pub row_lines : List ℕ → ℕ → List ℕ → ℕ → List ℕ
row_lines tree rows dropped count =
    tree_lines tree (min rows (row_count tree)) 0 0 ++ dropped_lines dropped (min count (length dropped / Limits.dropped_width)) 0

-- the answer for a listing when so many bytes are lent, what it says, and what the bytes are afterwards
abbrev pub listed_in : List ℕ → ℕ → Result ℕ NoRoom
listed_in lines room = cond (leb (length lines) room) (Ok (length lines)) (Err (record { needed = min (length lines) most }))

abbrev pub written_in : List ℕ → ℕ → Written
written_in lines room =
    cond (leb (length lines) room)
    (record { whole = true; bytes = length lines })
    (record { whole = false; bytes = min (length lines) most })

abbrev pub bytes_after : List ℕ → List ℕ → List ℕ
bytes_after lines bytes = cond (leb (length lines) (length bytes)) (over lines bytes) bytes

pub record Lists (lines : List ℕ) (bytes : List ℕ) (r : Result ℕ NoRoom) (after : List ℕ) : Type 0 where
  pub answer : r ≡ listed_in lines (length bytes)
  pub says : written_of r ≡ written_in lines (length bytes)
  pub written : after ≡ bytes_after lines bytes
