-- Laws of bytes written one behind the other, past a buffer's end too. Two calls write what one would (`then`). In a loop what is left to write leads
-- to the whole: `Left` says that whatever writes the rest from here has written the whole from the start, and each call takes a part off the rest.
-- Assumes nothing.
use Prim.Native.Nat.{ℕ, suc, ◌+◌, ◌^◌, ◌≤◌, ◌<◌}
use mathlib.Core.List.{List, [], ◌∷◌, ◌++◌}
use mathlib.Core.Path.{◌≡◌, refl, sym, ap, ◌∙◌}
use native.Mathlib.Nat.{add-zero}
use native.Mathlib.Omega.{arith}
use lib.Dec.{leb}
use lib.ListN.{length, set, length-append}
use lib.Seq.{sets, length-sets, set_out}
use borrow.Author.Tests.{leb-true, leb-false}
use Rattle.rules.proofs.Characters.{either}
use Rattle.listings.specs.Contract.{most, Wrote}

pub sets_append : (x y t : List ℕ) (i : ℕ) → sets t i (x ++ y) ≡ sets (sets t i x) (i + length x) y
sets_append [] y t i = rw (add-zero i)
sets_append (a ∷ x) y t i =
    let on : suc i + length x ≡ i + suc (length x) = omega arith in
    sets_append x y (set t i a) (suc i) ∙ ap (λ (k : ℕ). sets (sets (set t i a) (suc i) x) k y) on

pub sets_past : (x t : List ℕ) (i : ℕ) → length t ≤ i → sets t i x ≡ t
sets_past [] t i h = refl
sets_past (a ∷ x) t i h = rw (set_out t i a h) (sets_past x t (suc i) (omega arith))

-- nothing is written
pub none : (t : List ℕ) (at : ℕ) → at ≤ most → Wrote [] t at t at
none t at h = record { is = refl; next = omega arith }

-- one part and then another. Where the count stays at the largest, both places lie past the buffer's end, and nothing is written at either
module _ {x y t v w : List ℕ} {at r s : ℕ} (short : length t ≤ most) (one : Wrote x t at v r) (other : Wrote y v r w s) where
  kept : length v ≡ length t
  kept = ap length one.is ∙ length-sets t at x

  same_place : sets v r y ≡ sets v (at + length x) y
  same_place =
      let count = one.next in
      either (leb (at + length x) most)
      (λ fits.
      let low : at + length x ≤ most = leb-true (at + length x) most fits in
      let here : r ≡ at + length x = omega arith in
      rw here)
      (λ over.
      let high : most < at + length x = leb-false (at + length x) most over in
      let long = kept in
      sets_past y v r (omega arith) ∙ sym (sets_past y v (at + length x) (omega arith)))

  joined : w ≡ sets t at (x ++ y)
  joined = other.is ∙ same_place ∙ ap (λ (u : List ℕ). sets u (at + length x) y) one.is ∙ sym (sets_append x y t at)

  pub joins : Wrote (x ++ y) t at w s
  joins =
      record {
        is = joined;
        next = let n = one.next in let m = other.next in omega (arith, length-append x y);
      }

-- for a buffer of the machine: a part, or a byte, and then another part
pub then : {x y t v w : List ℕ} {at r s : ℕ} → length t < 2 ^ 64 → Wrote x t at v r → Wrote y v r w s → Wrote (x ++ y) t at w s
then short one other = joins (omega arith) one other

pub byte_then : {byte : ℕ} {y t v w : List ℕ} {at r s : ℕ} → length t < 2 ^ 64 → Wrote (byte ∷ []) t at v r → Wrote y v r w s
    → Wrote (byte ∷ y) t at w s
byte_then short one other = then short one other

-- ---- a loop

-- the code stands at t and `at`, and whatever writes `rest` from here has written `whole` from t₀ and at₀
pub record Left (rest t : List ℕ) (at : ℕ) (whole t₀ : List ℕ) (at₀ : ℕ) : Type 0 where
  pub short : length t ≤ most
  pub low : at ≤ most
  pub kept : length t ≡ length t₀
  pub leads : (w : List ℕ) (s : ℕ) → Wrote rest t at w s → Wrote whole t₀ at₀ w s

pub begins : (whole : List ℕ) {t : List ℕ} {at : ℕ} → length t ≤ most → at ≤ most → Left whole t at whole t at
begins whole short low = record { short = short; low = low; kept = refl; leads = λ w s k. k }

-- the same for a buffer and a place of the machine
pub all_left : (whole t : List ℕ) (at : ℕ) → length t < 2 ^ 64 → at < 2 ^ 64 → Left whole t at whole t at
all_left whole t at short low = begins whole (omega arith) (omega arith)

-- the rest is another list, which is the same
pub turns : {rest other t whole t₀ : List ℕ} {at at₀ : ℕ} → other ≡ rest → Left other t at whole t₀ at₀ → Left rest t at whole t₀ at₀
turns e l = record { short = l.short; low = l.low; kept = l.kept; leads = λ w s k. l.leads w s (rw e k) }

-- a part of the rest is written
pub goes : {x rest t v whole t₀ : List ℕ} {at r at₀ : ℕ} → Left (x ++ rest) t at whole t₀ at₀ → Wrote x t at v r → Left rest v r whole t₀ at₀
goes {x} {t = t} {v = v} {at = at} l one =
    let long : length v ≡ length t = ap length one.is ∙ length-sets t at x in
    record {
      short = omega (arith, l.short);
      low = omega (arith, one.next);
      kept = long ∙ l.kept;
      leads = λ w s k. l.leads w s (joins l.short one k);
    }

-- all of the rest is written, and nothing was left to write
pub closes : {rest t v whole t₀ : List ℕ} {at r at₀ : ℕ} → Left rest t at whole t₀ at₀ → Wrote rest t at v r → Wrote whole t₀ at₀ v r
closes l k = l.leads _ _ k

pub ends : {t whole t₀ : List ℕ} {at at₀ : ℕ} → Left [] t at whole t₀ at₀ → Wrote whole t₀ at₀ t at
ends {t} {at = at} l = l.leads t at (none t at l.low)
