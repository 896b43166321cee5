-- A turn writes the next number of what is left, and at the end nothing is left.
use Rattle.std.proofs.Common.{◌≡◌, ℕ, ◌+◌, ◌≤◌, ◌<◌, List, [], ◌∷◌, ◌++◌, length, drop, get_or, add-one, drop_of_length-le, drop-cons}
use Rattle.rules.specs.Listing.{numbered, blank, decimal}
use Rattle.listings.specs.Contract.{Wrote}
use Rattle.listings.proofs.Writing.{Left, turns, goes, ends}
use Rattle.listings.proofs.write.fields.Goals as goal

-- ---- the rule, number by number
one_more : (l : List ℕ) (i : ℕ) → i < length l → numbered (drop i l) ≡ (blank ∷ decimal (get_or l i 0)) ++ numbered (drop (i + 1) l)
unfolding numbered
one_more l i here = rw (add-one i, drop-cons l i 0 here)

no_more : (l : List ℕ) (i : ℕ) → length l ≤ i → numbered (drop i l) ≡ []
unfolding numbered
no_more l i end = rw (drop_of_length-le l end)

-- ---- and the code beside it
module _ (numbers : List ℕ) (i : ℕ) {out whole out₀ : List ℕ} {at at₀ : ℕ} (left : Left (numbered (drop i numbers)) out at whole out₀ at₀) where
  next_number : i < length numbers → {v : List ℕ} {next : ℕ} → Wrote (blank ∷ decimal (get_or numbers i 0)) out at v next
      → Left (numbered (drop (i + 1) numbers)) v next whole out₀ at₀
  next_number there put = goes (turns (one_more numbers i there) left) put

  none_left : length numbers ≤ i → Wrote whole out₀ at₀ out at
  none_left ended = ends (turns (no_more numbers i ended) left)

pub loop-n-preserved : goal.loop-n-preserved
loop-n-preserved c = search next_number

pub returns : goal.returns
returns c = search none_left
