-- Demand 1 for a client of the run: more room changes nothing but refusal 8. Of two calls on the same tables, whose results meet the contract, the
-- second has a tree buffer at least as long. Both come to the same checks; then the rules' theorems about two rooms speak of both readings. Assumes
-- nothing.
use Prim.Native.Nat.{ℕ, ◌*◌, ◌/◌, ◌≤◌}
use mathlib.Core.List.{List}
use Rattle.std.specs.Prelude.{Option, None as none, Some as some}
use mathlib.Core.Path.{◌≡◌, refl, sym, ap, ◌∙◌}
use native.Mathlib.Omega.{arith}
use borrow.Author.Tests.{le-ltb}
use lib.Dec.{ltb}
use lib.ListN.{length, take, drop}
use lib.Seq.{take_at}
use Rattle.rules.specs.Checks.{Tables, Refusal, checks, source_of}
use Rattle.rules.specs.Flat.{Built, Mark}
use Rattle.rules.specs.Limits.{tree_width, dropped_width}
use Rattle.rules.specs.Outcome.{Out, went, refused, no_room}
use Rattle.rules.specs.Position.{Pos}
use Rattle.rules.specs.Run.{Ran, accepted, refused_at, over, after_reading, after_checks, run}
use Rattle.rules.specs.Tables.{token_count}
use Rattle.rules.proofs.Checks as checked
use Rattle.rules.proofs.Goes.{Goes, goes}
use Rattle.rules.proofs.HandedRows.{HasRead, rows_read}
use Rattle.rules.proofs.NothingLost.{sound}
use Rattle.rules.proofs.Room as rules
use Rattle.cartglaze.proofs.Answers.{Answer, Accepted, RefusedAt}
use Rattle.listings.specs.Stands.{ran_of}
use Rattle.cartglaze.proofs.NothingLost.{Met}
use Rattle.cartglaze.proofs.Only.{same_answer}

-- ---- what the checks ask of a dropped buffer

-- so many numbers that refusal 2 does not come: 3 per token
abbrev pub enough : Tables → ℕ
enough t = token_count t.tokens * dropped_width

-- refusal 2 comes with both buffers or with neither; nothing else is asked of them
abbrev pub Alike : Tables → List ℕ → List ℕ → Type 0
Alike t dropped dropped' = ltb (length dropped') (enough t) ≡ ltb (length dropped) (enough t)

-- so are two of one length, and any two that are long enough, whatever they hold
pub equally_long : (t : Tables) (dropped dropped' : List ℕ) → length dropped' ≡ length dropped → Alike t dropped dropped'
equally_long t dropped dropped' e = rw e

pub long-enough : (t : Tables) (dropped dropped' : List ℕ) → enough t ≤ length dropped → enough t ≤ length dropped' → Alike t dropped dropped'
long-enough t dropped dropped' room room' = le-ltb _ _ room' ∙ sym (le-ltb _ _ room)

same-checks : (t : Tables) (dropped dropped' : List ℕ) → Alike t dropped dropped' → checks t (length dropped') ≡ checks t (length dropped)
unfolding checks
same-checks t dropped dropped' alike = rw alike

-- ---- rows

-- the rows that an answer counts, in two pairs of buffers after a run
pub record SameRows (rows drops : ℕ) (v w v' w' : List ℕ) : Type 0 where
  pub tree : take (rows * tree_width) v' ≡ take (rows * tree_width) v
  pub dropped : take (drops * dropped_width) w' ≡ take (drops * dropped_width) w

-- whatever a buffer held, rows that are written over it are its first numbers
over-alike : (rows buffer buffer' : List ℕ) (n : ℕ) → length rows ≡ n → take n (over rows buffer') ≡ take n (over rows buffer)
over-alike rows buffer buffer' n long = take_at rows (drop (length rows) buffer') n long ∙ sym (take_at rows (drop (length rows) buffer) n long)

-- ---- two runs of the rules

-- an accepted run has passed the checks
passed_checks : (t : Tables) (tree dropped : List ℕ) {rows drops : ℕ} (o : Option Refusal)
    → (after_checks o t tree dropped).answer ≡ accepted rows drops
    → o ≡ none
passed_checks t tree dropped none e = refl
passed_checks t tree dropped (some refusal) e = cc

module _ (t : Tables) (tree tree' dropped dropped' : List ℕ) where
  -- the second is accepted with these counts, and to the rows of the first
  abbrev SameAccepted : ℕ → ℕ → Ran → Ran → Type 0
  SameAccepted rows drops one other =
      (other.answer ≡ accepted rows drops) × SameRows rows drops one.tree one.dropped other.tree other.dropped

  -- that all is read tells that the rows are as many as are counted
  abbrev Read : Pos Built Mark → Type 0
  Read p = HasRead (source_of t) (record { token = token_count t.tokens; taken = 0 }) p.built

  -- how many dropped rows there are
  abbrev drops_of : Pos Built Mark → ℕ
  drops_of p = length p.built.dropped / dropped_width

  rows_alike : (p : Pos Built Mark) → Read p
      → SameAccepted p.built.tree.rows (drops_of p) (after_reading tree dropped (went p)) (after_reading tree' dropped' (went p))
  rows_alike p read =
      let long = read.tied.long in
      let whole : length p.built.dropped ≡ drops_of p * dropped_width = omega arith in
      let rows = over-alike p.built.tree.tree tree tree' _ read.tied.size in
      let drops = over-alike p.built.dropped dropped dropped' _ whole in
      (refl, record { tree = rows; dropped = drops })

  read-accepted : {rows drops : ℕ} (o u : Out (Pos Built Mark)) → ((p : Pos Built Mark) → o ≡ went p → u ≡ went p) → Goes Read o
      → (after_reading tree dropped o).answer ≡ accepted rows drops
      → SameAccepted rows drops (after_reading tree dropped o) (after_reading tree' dropped' u)
  read-accepted {rows} {drops} (went p) u more (goes read) e =
      let row_count : p.built.tree.rows ≡ rows = cc in
      let drop_count : drops_of p ≡ drops = cc in
      rw (more p refl, ← row_count, ← drop_count) (rows_alike p read)
  read-accepted (refused number place) u more read e = let z : ◌≡◌ {A = ℕ} 0 1 = cc in absurd (omega arith)

  read-refused : {number place : ℕ} (o u : Out (Pos Built Mark)) → (o ≡ refused number place → u ≡ refused number place)
      → (after_reading tree dropped o).answer ≡ refused_at number place
      → (after_reading tree' dropped' u).answer ≡ refused_at number place
  read-refused (went p) u more e = let z : ◌≡◌ {A = ℕ} 0 1 = cc in absurd (omega arith)
  read-refused (refused number place) u more e = rw (more (cc))

  module _ (larger : length tree ≤ length tree') where
    after-accepted : {rows drops : ℕ} → checks t (length dropped) ≡ none → (after_checks none t tree dropped).answer ≡ accepted rows drops
        → SameAccepted rows drops (after_checks none t tree dropped) (after_checks none t tree' dropped')
    after-accepted passed e =
        let all_read = rows_read (length tree) (source_of t) (sound t (length dropped) (checked.accepted t (length dropped) passed)) in
        read-accepted _ _ (rules.accepted_with_more (length tree) (length tree') larger (source_of t)) all_read e

    -- the room is no part of what refusals 1 to 4 judge
    after-refused : {number place : ℕ} (o : Option Refusal) → (number ≡ no_room → ⊥)
        → (after_checks o t tree dropped).answer ≡ refused_at number place
        → (after_checks o t tree' dropped').answer ≡ refused_at number place
    after-refused none other e = read-refused _ _ (rules.refused-with_more (length tree) (length tree') larger (source_of t) _ _ other) e
    after-refused (some refusal) other e = e

    module _ (alike : Alike t dropped dropped') where
      run-accepted : {rows drops : ℕ} → (run t tree dropped).answer ≡ accepted rows drops
          → SameAccepted rows drops (run t tree dropped) (run t tree' dropped')
      unfolding run
      run-accepted e =
          let passed = passed_checks t tree dropped (checks t (length dropped)) e in
          rw (same-checks t dropped dropped' alike, passed) (after-accepted passed (rw passed at e))

      run-refused : {number place : ℕ} → (number ≡ no_room → ⊥) → (run t tree dropped).answer ≡ refused_at number place
          → (run t tree' dropped').answer ≡ refused_at number place
      unfolding run
      run-refused other e = rw (same-checks t dropped dropped' alike) (after-refused (checks t (length dropped)) other e)

-- ---- the theorems: of any two results that meet the contract of `run`

-- the dropped buffer of an accepted call is long enough
pub accepted_room : (t : Tables) (tree dropped : List ℕ) {rows drops : ℕ} {v w : List ℕ} → Met t tree dropped rows drops v w
    → enough t ≤ length dropped
unfolding run
accepted_room t tree dropped met =
    let passed = passed_checks t tree dropped (checks t (length dropped)) (ap (λ (x : Ran). x.answer) met) in
    (checked.accepted t (length dropped) passed).room

module _ (t : Tables) (tree tree' dropped dropped' : List ℕ) (larger : length tree ≤ length tree') (alike : Alike t dropped dropped') where
  -- "more room changes nothing but refusal 8": where the first call was accepted, the second is, with the same counts, the same rows and the same
  -- dropped rows
  pub accepted_with_more : {rows drops : ℕ} {v w v' w' : List ℕ} (r : Answer) → Met t tree dropped rows drops v w
      → run t tree' dropped' ≡ ran_of r v' w'
      → (r ≡ Accepted rows drops) × SameRows rows drops v w v' w'
  accepted_with_more r met met' =
      let same = rw (met, met') at (run-accepted t tree tree' dropped dropped' larger alike (ap (λ (x : Ran). x.answer) met)) in
      (same_answer _ _ same.0, same.1)

  -- and where the first was refused with another number than 8, the second is refused with the same number and place. 1 to 4 are told before the
  -- tree buffer is looked at, 2 by the dropped buffers alone
  pub refused-with_more : {number place : ℕ} {v w v' w' : List ℕ} (r : Answer) → (number ≡ no_room → ⊥)
      → run t tree dropped ≡ ran_of (RefusedAt number place) v w
      → run t tree' dropped' ≡ ran_of r v' w'
      → r ≡ RefusedAt number place
  refused-with_more r other met met' =
      let same = rw met' at (run-refused t tree tree' dropped dropped' larger alike other (ap (λ (x : Ran). x.answer) met)) in
      same_answer _ _ same
