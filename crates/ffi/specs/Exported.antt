-- What goes over C in numbers: what a text comes to, the run's answer, what a sheet comes to, and what a listing comes to.
use Rattle.std.specs.Prelude.{ℕ, ◌-◌, ◌^◌, min, Bool, true, false, List, ◌≡◌, length, Result, Ok, Err, Option}
use Rattle.rules.specs.Checks.{Tables}
use Rattle.rules.specs.Run.{Answer, accepted, refused_at, Ran}
use Rattle.rules.specs.Tokeniser as tokeniser
use Rattle.sheets.specs.Contract.{answer_for, numbers_after}
use Rattle.listings.specs.declared.listing.NoRoom.{NoRoom}
use Rattle.sheets.specs.declared.sections.Sections.{Sections}
use Rattle.sheets.specs.declared.sheet.Unread.{Unread}
use Rattle.sheets.specs.declared.sheet.Unread.TheVariants as unread

-- ---- a text

-- what is returned, and both numbers
abbrev pub told : Bool → ℕ → ℕ → Bool × (ℕ × ℕ)
told is first second = (is, (first, second))

-- the count of token rows and 0, or the number of refusal and the place
abbrev pub told_of : tokeniser.Tokenised → Bool × (ℕ × ℕ)
told_of (tokeniser.written rows) = told true rows 0
told_of (tokeniser.refused_at number place) = told false number place

-- what is handed out of what a text comes to, and the lent rows after it
pub record HandsOut (done : tokeniser.Tokenised × List ℕ) (is : Bool) (first second : ℕ) (rows : List ℕ) : Type 0 where
  pub numbers : told is first second ≡ told_of done.0
  pub written : rows ≡ done.1

-- ---- the run

-- both row counts, or the number of refusal and the place
abbrev pub answer_from : Bool → ℕ → ℕ → Answer
answer_from true rows dropped = accepted rows dropped
answer_from false number place = refused_at number place

-- with both lent buffers after it
abbrev pub ran_from : Bool → ℕ → ℕ → List ℕ → List ℕ → Ran
ran_from is first second tree dropped = record { answer = answer_from is first second; tree = tree; dropped = dropped }

-- ---- a sheet

-- whether it is read, and how much each section has; else all of these are 0. `needed` is 0 too unless the numbers have no room
pub record Counts : Type 0 where
  pub read : Bool
  pub text : ℕ
  pub tokens : ℕ
  pub shapes : ℕ
  pub states : ℕ
  pub needed : ℕ

-- what is handed out, in the order of the parameters
abbrev pub handed : Bool → ℕ → ℕ → ℕ → ℕ → ℕ → Counts
handed read text tokens shapes states needed =
    record { read = read; text = text; tokens = tokens; shapes = shapes; states = states; needed = needed }

-- none of its sections is told: it is refused, or has so many numbers that there is no room for
abbrev pub not_read : ℕ → Counts
not_read needed = handed false 0 0 0 0 needed

-- a sheet without room has a number at least, so 0 tells refusal 9 (`refused-tells`)
abbrev pub counts_of : Result Sections Unread → Counts
counts_of (Ok s) = handed true s.text s.tokens s.shapes s.states 0
counts_of (Err unread.Refused) = not_read 0
counts_of (Err (unread.NoRoom numbers)) = not_read numbers

-- the counts for a sheet of these tables, or of none, when these numbers are lent; and what the numbers are afterwards
pub record Hands (tables : Option Tables) (numbers : List ℕ) (counts : Counts) (after : List ℕ) : Type 0 where
  pub counts_are : counts ≡ counts_of (answer_for tables (length numbers))
  pub written : after ≡ numbers_after tables numbers

-- ---- a listing

-- the answer as it comes in again. A number of refusal has 32 bits; a larger one counts for the largest
abbrev pub largest_number : ℕ
largest_number = 2 ^ 32 - 1

abbrev pub answer_in : Bool → ℕ → ℕ → Answer
answer_in true rows dropped = accepted rows dropped
answer_in false number place = refused_at (min number largest_number) place

-- written with so many bytes, or not for want of room for so many
abbrev pub listed_from : Bool → ℕ → Result ℕ NoRoom
listed_from true count = Ok count
listed_from false count = Err (record { needed = count })
