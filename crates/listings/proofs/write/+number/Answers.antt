-- A number of one digit; and one whose digits but the last were written.
use Rattle.std.proofs.Common.{ℕ, ◌/◌, ◌%◌, ◌^◌, ◌≤◌, ◌<◌, List, [], ◌∷◌, length}
use Rattle.rules.specs.Listing.{digit, decimal}
use Rattle.rules.proofs.Listing.{decimal-low, decimal-high}
use Rattle.listings.specs.Contract.{Wrote}
use Rattle.listings.proofs.Writing.{then}
use Rattle.listings.proofs.write.+number.Goals as goal

digit_put : (n : ℕ) → n < 10 → {out v : List ℕ} {at r : ℕ} → Wrote (digit n ∷ []) out at v r → Wrote (decimal n) out at v r
digit_put n low put = rw (decimal-low n low) put

digits_put : (n : ℕ) → 10 ≤ n → {out most all : List ℕ} {at next end : ℕ} → length out < 2 ^ 64 → Wrote (decimal (n / 10)) out at most next
    → Wrote (digit (n % 10) ∷ []) most next all end → Wrote (decimal n) out at all end
digits_put n high short most_put last_put = rw (decimal-high n high) (then short most_put last_put)

pub returns-then-n-lt10 : goal.returns-then-n-lt10
returns-then-n-lt10 t c = search digit_put

pub returns : goal.returns
returns t c = search digits_put
