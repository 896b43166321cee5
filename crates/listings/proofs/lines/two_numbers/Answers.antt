-- Two numbers with a blank before each, and a line break.
use Rattle.std.proofs.Common.{◌≡◌, ℕ, ◌^◌, ◌<◌, List, [], ◌∷◌, ◌++◌, length, append_assoc, append-nil}
use Rattle.rules.specs.Listing.{numbered, blank, decimal, line_break}
use Rattle.listings.specs.Contract.{Wrote}
use Rattle.listings.proofs.Writing.{all_left, goes, closes}
use Rattle.listings.proofs.lines.two_numbers.Goals as goal

-- in their parts
parts : (one other : ℕ)
    → numbered (one ∷ other ∷ []) ++ (line_break ∷ []) ≡ (blank ∷ decimal one) ++ ((blank ∷ decimal other) ++ (line_break ∷ []))
unfolding numbered
parts one other = simp (append_assoc, append-nil)

written : (one other : ℕ) {out half whole all : List ℕ} {at one_end other_end end : ℕ}
    → length out < 2 ^ 64 → at < 2 ^ 64 → Wrote (blank ∷ decimal one) out at half one_end
    → Wrote (blank ∷ decimal other) half one_end whole other_end → Wrote (line_break ∷ []) whole other_end all end
    → Wrote (numbered (one ∷ other ∷ []) ++ (line_break ∷ [])) out at all end
written one other short low one_put other_put break_put =
    rw (parts one other) (closes (goes (goes (all_left _ _ _ short low) one_put) other_put) break_put)

pub returns : goal.returns
returns c = search written
