-- What the checks tell. Row by row, the first bad row is looked for where the last one ended, and none is bad only where all are right;
-- a test of several parts holds only where each does. So tables that are not refused are as a parser needs them. Assumes nothing.
use Prim.Native.Nat.{ℕ, zero, suc, ◌+◌, ◌*◌, ◌-◌, ◌/◌, ◌%◌, ◌≤◌, ◌<◌}
use mathlib.Core.Path.{◌≡◌, refl, sym, ◌∙◌}
use mathlib.Core.Bool.{Bool, true, false, not, cond, ◌||◌, and-eq-true_iff, false≢true}
use mathlib.Core.List.{List}
use Rattle.std.specs.Prelude.{Option, None as none, Some as some}
use native.Mathlib.Nat.{sub-zero}
use native.Mathlib.Omega.{arith}
use lib.Dec.{eqb, leb}
use lib.ListN.{length}
use borrow.Author.Tests.{ltb-true, ltb-false, leb-true, eqb-true, eqb-false, eq-eqb, lt-ltb, le-ltb, not-true, not-false}
use Rattle.rules.specs.Characters.{is_utf8}
use Rattle.rules.specs.Checks.{Tables, Refusal, shape_count, state_count, first_bad, whole_rows, within_limits, word_right, token_right, shape_right, shape_row, state_right, shape_or_state_right, at, checks}
use Rattle.rules.specs.Limits
use Rattle.rules.specs.Tables.{token_count, kind_at, start_at, length_at, shape_at, part}
use Rattle.rules.specs.Token
use Rattle.rules.proofs.Characters.{either}

-- ---- one row after the other
module _ (right : ℕ → Bool) where
  next_row : (n from : ℕ) → right from ≡ true → first_bad right (suc n) from ≡ first_bad right n (from + 1)
  unfolding first_bad
  next_row n from met = rw met

  bad_row : (n from : ℕ) → right from ≡ false → first_bad right (suc n) from ≡ some from
  unfolding first_bad
  bad_row n from missed = rw missed

  no_row : (from : ℕ) → first_bad right 0 from ≡ none
  unfolding first_bad
  no_row from = refl

-- of so many rows those before `from` are right
pub record Passed (right : ℕ → Bool) (count from : ℕ) : Type 0 where
  pub is : first_bad right count 0 ≡ first_bad right (count - from) from

pub none_passed : (right : ℕ → Bool) (count : ℕ) → Passed right count 0
none_passed right count = record { is = rw sub-zero }

module _ {right : ℕ → Bool} {count from : ℕ} (passed : Passed right count from) where
  one_more : from < count → count - from ≡ suc (count - (from + 1))
  one_more more = omega arith

  pub passes : from < count → right from ≡ true → Passed right count (from + 1)
  passes more met = record { is = passed.is ∙ rw (one_more more) (next_row right (count - (from + 1)) from met) }

  pub found : from < count → right from ≡ false → first_bad right count 0 ≡ some from
  found more missed = passed.is ∙ rw (one_more more) (bad_row right (count - (from + 1)) from missed)

  pub all_passed : count ≤ from → first_bad right count 0 ≡ none
  all_passed end = let nothing : count - from ≡ 0 = omega arith in passed.is ∙ rw nothing (no_row right from)

-- where none of so many rows is bad, each is right
right_from : (right : ℕ → Bool) (n from : ℕ) → first_bad right n from ≡ none → (i : ℕ) → from ≤ i → i < from + n → right i ≡ true
right_from right zero from e i low high = absurd (omega arith)
right_from right (suc n) from e i low high =
    either (right from)
    (λ met.
    either (eqb i from) (λ here. rw (eqb-true i from here) met)
    (λ there.
    let past = eqb-false i from there in
    right_from right n (from + 1) (sym (next_row right n from met) ∙ e) i (omega arith) (omega arith)))
    (λ missed. let z : ◌≡◌ {A = ℕ} 0 1 = cc (bad_row right n from missed) in absurd (omega arith))

pub all_right : (right : ℕ → Bool) (n : ℕ) → first_bad right n 0 ≡ none → (i : ℕ) → i < n → right i ≡ true
all_right right n e i h = right_from right n 0 e i (omega arith) (omega arith)

-- and the other way round
pub none_where : (right : ℕ → Bool) (n from : ℕ) → ((i : ℕ) → from ≤ i → i < from + n → right i ≡ true) → first_bad right n from ≡ none
none_where right zero from each = no_row right from
none_where right (suc n) from each =
    next_row right n from (each from (omega arith) (omega arith)) ∙ none_where right n (from + 1) (λ i low high. each i (omega arith) (omega arith))

-- ---- one refusal after the other
-- where nothing is refused, this refusal did not come, and none comes after it
unrefused : (test : Bool) (r : Refusal) (rest : Option Refusal) → cond test (some r) rest ≡ none → (test ≡ false) × (rest ≡ none)
unrefused true r rest e = let z : ◌≡◌ {A = ℕ} 0 1 = cc in absurd (omega arith)
unrefused false r rest e = (refl, e)

no_place : (number : ℕ) (place : Option ℕ) (rest : Option Refusal) → at number place rest ≡ none → (place ≡ none) × (rest ≡ none)
no_place number none rest e = (refl, e)
no_place number (some place) rest e = let z : ◌≡◌ {A = ℕ} 0 1 = cc in absurd (omega arith)

-- a test that is asked only where another holds
only_where : (a b : Bool) → (not a || b) ≡ true → a ≡ true → b ≡ true
only_where true b e met = e
only_where false b e met = absurd (false≢true met)

-- ---- a token row that is right
pub record TokenRight (t : Tables) (i : ℕ) : Type 0 where
  pub kind : kind_at t.tokens i < Limits.kinds
  pub inside : start_at t.tokens i + length_at t.tokens i ≤ length t.text
  pub shaped : shape_at t.tokens i ≤ shape_count t
  pub some : kind_at t.tokens i ≡ Token.Word → 1 ≤ length_at t.tokens i
  pub utf8 : kind_at t.tokens i ≡ Token.Word → is_utf8 (part t.text (start_at t.tokens i) (length_at t.tokens i)) ≡ true

module _ (t : Tables) (i : ℕ) (e : word_right t i ≡ true) where
  parts : (not (eqb (length_at t.tokens i) 0) ≡ true) × (is_utf8 (part t.text (start_at t.tokens i) (length_at t.tokens i)) ≡ true)
  unfolding word_right
  parts = (and-eq-true_iff (not (eqb (length_at t.tokens i) 0)) (is_utf8 (part t.text (start_at t.tokens i) (length_at t.tokens i)))).0 e

  filled : 1 ≤ length_at t.tokens i
  filled = let some = eqb-false (length_at t.tokens i) 0 (not-true (eqb (length_at t.tokens i) 0) parts.0) in omega arith

token-right : (t : Tables) (i : ℕ) → token_right t i ≡ true → TokenRight t i
unfolding token_right
token-right t i e =
    let kind = (and-eq-true_iff _ _).0 e in
    let inside = (and-eq-true_iff _ _).0 kind.1 in
    let shaped = (and-eq-true_iff _ _).0 inside.1 in
    let word : kind_at t.tokens i ≡ Token.Word → word_right t i ≡ true = λ is. only_where _ _ shaped.1 (eq-eqb _ _ is) in
    record {
      kind = ltb-true _ _ kind.0;
      inside = leb-true _ _ inside.0;
      shaped = leb-true _ _ shaped.0;
      some = λ is. filled t i (word is);
      utf8 = λ is. (parts t i (word is)).1;
    }

-- ---- tables within their limits
pub record WholeRows (width most : ℕ) (table : List ℕ) : Type 0 where
  pub whole : length table % width ≡ 0
  pub few : length table / width ≤ most

whole-rows : (width most : ℕ) (table : List ℕ) → whole_rows width most table ≡ true → WholeRows width most table
whole-rows width most table e =
    let tests = (and-eq-true_iff (eqb (length table % width) 0) (leb (length table / width) most)).0 e in
    record { whole = eqb-true (length table % width) 0 tests.0; few = leb-true (length table / width) most tests.1 }

pub record WithinLimits (t : Tables) : Type 0 where
  pub text : length t.text ≤ Limits.text
  pub tokens : WholeRows Limits.token_width Limits.tokens t.tokens
  pub shapes : WholeRows Limits.shape_width Limits.shapes t.shapes
  pub states : WholeRows Limits.state_width Limits.states t.states

within-limits : (t : Tables) → within_limits t ≡ true → WithinLimits t
unfolding within_limits
within-limits t e =
    let text = (and-eq-true_iff (leb (length t.text) Limits.text) _).0 e in
    let tokens = (and-eq-true_iff (whole_rows Limits.token_width Limits.tokens t.tokens) _).0 text.1 in
    let others = (and-eq-true_iff (whole_rows Limits.shape_width Limits.shapes t.shapes) _).0 tokens.1 in
    record {
      text = leb-true _ _ text.0;
      tokens = whole-rows _ _ _ tokens.0;
      shapes = whole-rows _ _ _ others.0;
      states = whole-rows _ _ _ others.1;
    }

-- ---- shape rows and state rows that are right
module _ (t : Tables) (row : (i : ℕ) → i < shape_count t + state_count t → shape_or_state_right t i ≡ true) where
  shape_right_lem : (i : ℕ) → i < shape_count t → shape_right (state_count t) (shape_row t.shapes i) ≡ true
  unfolding shape_or_state_right
  shape_right_lem i h = rw (lt-ltb i (shape_count t) h) at (row i (omega arith))

  state_right_lem : (i : ℕ) → i < state_count t → state_right t.states (state_count t) i ≡ true
  unfolding shape_or_state_right
  state_right_lem i h =
      let back : shape_count t + i - shape_count t ≡ i = omega arith in
      rw (le-ltb (shape_count t + i) (shape_count t) (omega arith), back) at (row (shape_count t + i) (omega arith))

-- ---- tables that are not refused
pub record Accepted (t : Tables) (dropped : ℕ) : Type 0 where
  pub limits : WithinLimits t
  pub room : token_count t.tokens * Limits.dropped_width ≤ dropped
  pub token : (i : ℕ) → i < token_count t.tokens → TokenRight t i
  pub shape : (i : ℕ) → i < shape_count t → shape_right (state_count t) (shape_row t.shapes i) ≡ true
  pub state : (i : ℕ) → i < state_count t → state_right t.states (state_count t) i ≡ true

pub accepted : (t : Tables) (dropped : ℕ) → checks t dropped ≡ none → Accepted t dropped
unfolding checks
accepted t dropped e =
    let bad-token = first_bad (token_right t) (token_count t.tokens) 0 in
    let bad_row = first_bad (shape_or_state_right t) (shape_count t + state_count t) 0 in
    let limits = unrefused _ _ _ e in
    let room = unrefused _ _ _ limits.1 in
    let tokens = no_place 3 bad-token (at 4 bad_row none) room.1 in
    let row = all_right (shape_or_state_right t) (shape_count t + state_count t) (no_place 4 bad_row none tokens.1).0 in
    record {
      limits = within-limits t (not-false (within_limits t) limits.0);
      room = ltb-false _ _ room.0;
      token = λ i h. token-right t i (all_right (token_right t) (token_count t.tokens) tokens.0 i h);
      shape = shape_right_lem t row;
      state = state_right_lem t row;
    }
