-- The rows are cut out of the table before they are counted.
use Rattle.std.proofs.Common.{◌≡◌, ℕ, ◌+◌, ◌/◌, ◌≤◌, ◌<◌, ◌⊎◌, inl, inr, List, length, Bor, MatchOption, ◌∙◌, arith}
use Rattle.std.specs.Prelude.{Option, Some, None}
use Rattle.std.specs.List.{slice_range}
use Rattle.std.specs.Simd.{first_chunks}
use native.Mathlib.Nat.{sub-zero}
use Rattle.rules.specs.PutBack.{rows_of}
use Rattle.put_back.proofs.TextsLeft.{rows_are}
use Rattle.put_back.proofs.back.first_rows.Goals as goal

counted : (width count : ℕ) (table : List ℕ) {all : List (List ℕ)} (r : Option (Bor (List (List ℕ))))
    → all ≡ first_chunks width (length table / width) table → length all ≡ length table / width
    → MatchOption r ((count < 0) ⊎ (length all < count))
    (λ x. (0 ≤ count) × (count ≤ length all) × (x.now ≡ slice_range all 0 count) × (length x.now + 0 ≡ count))
    → MatchOption r (length table / width < count) (λ rows. (count ≤ length table / width) × (rows.now ≡ rows_of width count table))
counted width count table None is long (inl low) = omega arith
counted width count table None is long (inr less) = omega arith
counted width count table (Some rows) is long found =
    let fits : count ≤ length table / width = omega arith in
    (fits, found.2 ∙ rw (sub-zero, is) (rows_are width count (length table / width) table fits))

pub returns : goal.returns
returns g c = counted _ _ _ _ c.as_chunks.ensures.front c.as_chunks.ensures.front_len c.get.ensures.lookup.0
