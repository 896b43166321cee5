-- What the contracts say of the lent numbers that a sheet is read into.
use Rattle.std.specs.Prelude.{ℕ, ◌+◌, ◌/◌, ◌^◌, ◌≤◌, ◌<◌, cond, ◌&&◌, List, ◌++◌, ◌≡◌, leb, length, take, drop, Option, Some, None, Result, Ok, Err}
use Rattle.rules.specs.Checks.{Tables, Refusal}
use Rattle.rules.specs.Run.{over}
use Rattle.rules.specs.Sheet.{number_bytes, number_at, bytes_from, text_at, tokens_at, shapes_at, states_at, table_at, end_of, unreadable}
use Rattle.rules.specs.Tables.{part}
use Rattle.sheets.specs.Stands.{refusal_of}
use Rattle.sheets.specs.declared.sections.Places.{Places}
use Rattle.sheets.specs.declared.sections.Sections.{Sections}
use Rattle.sheets.specs.declared.sheet.Unread.{Unread}
use Rattle.sheets.specs.declared.sheet.Unread.TheVariants.{Refused, NoRoom}

-- the places of a sheet's lengths; no sum of them passes 40 bits
pub record Placed (bytes : List ℕ) (p : Places) : Type 0 where
  pub tokens : p.tokens ≡ tokens_at bytes
  pub shapes : p.shapes ≡ shapes_at bytes
  pub states : p.states ≡ states_at bytes
  pub end : p.end ≡ end_of bytes (states_at bytes)
  pub tokens-low : p.tokens < 2 ^ 40
  pub shapes-low : p.shapes < 2 ^ 40
  pub states-low : p.states < 2 ^ 40

-- how much the sections of a sheet claim to have
pub record Counted (bytes : List ℕ) (s : Sections) : Type 0 where
  pub text : s.text ≡ number_at bytes text_at
  pub tokens : s.tokens ≡ number_at bytes (tokens_at bytes) / number_bytes
  pub shapes : s.shapes ≡ number_at bytes (shapes_at bytes) / number_bytes
  pub states : s.states ≡ number_at bytes (states_at bytes) / number_bytes
  pub tokens-low : s.tokens < 2 ^ 30
  pub shapes-low : s.shapes < 2 ^ 30
  pub states-low : s.states < 2 ^ 30

-- so many numbers have room for all that the sections claim
pub record Room (bytes : List ℕ) (s : Sections) (numbers : List ℕ) : Type 0 where
  pub counted : Counted bytes s
  pub fits : s.tokens + s.shapes + s.states ≤ length numbers

-- so many of the numbers from one on are those of the table whose length stands at a place, and all others are as they were
abbrev pub with_table : List ℕ → ℕ → ℕ → ℕ → List ℕ → List ℕ
with_table bytes at from count numbers = (take from numbers ++ table_at bytes at) ++ drop (from + count) numbers

-- the numbers of all tables, one behind the other, and how many each section has
abbrev pub numbers_of : Tables → List ℕ
numbers_of t = t.tokens ++ (t.shapes ++ t.states)

abbrev pub sections_of : Tables → Sections
sections_of t = record { text = length t.text; tokens = length t.tokens; shapes = length t.shapes; states = length t.states }

-- the tables that stand in a sheet and in numbers where the sections say; none where either of them has less
abbrev pub tables_in : Sections → List ℕ → List ℕ → Option Tables
tables_in s sheet numbers =
    cond (leb (bytes_from text_at + s.text) (length sheet) && leb (s.tokens + s.shapes + s.states) (length numbers))
    (Some
    (record {
      text = part sheet (bytes_from text_at) s.text;
      tokens = part numbers 0 s.tokens;
      shapes = part numbers s.tokens s.shapes;
      states = part numbers (s.tokens + s.shapes) s.states;
    }))
    None

-- the answer for a sheet of these tables, or of none, when so many numbers are lent; and what the numbers are afterwards
abbrev pub answer_for : Option Tables → ℕ → Result Sections Unread
answer_for None room = Err Refused
answer_for (Some t) room = cond (leb (length (numbers_of t)) room) (Ok (sections_of t)) (Err (NoRoom (length (numbers_of t))))

abbrev pub numbers_after : Option Tables → List ℕ → List ℕ
numbers_after None numbers = numbers
numbers_after (Some t) numbers = cond (leb (length (numbers_of t)) (length numbers)) (over (numbers_of t) numbers) numbers

-- refused 9 where the sheet is of no tables
abbrev pub refused_for : Option Tables → Option Refusal
refused_for None = Some (unreadable, 0)
refused_for (Some t) = None

pub record Reads (tables : Option Tables) (numbers : List ℕ) (r : Result Sections Unread) (after : List ℕ) : Type 0 where
  pub answer : r ≡ answer_for tables (length numbers)
  pub refusal : refusal_of r ≡ refused_for tables
  pub written : after ≡ numbers_after tables numbers
