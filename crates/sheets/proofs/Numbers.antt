-- Numbers that are read into a lent buffer: one number more. Assumes nothing.
use Prim.Native.Nat.{ℕ, suc, ◌+◌, ◌*◌, ◌<◌}
use mathlib.Core.List.{List, [], ◌∷◌, ◌++◌, append_assoc}
use mathlib.Core.Path.{◌≡◌}
use native.Mathlib.Numerals.{add-one}
use native.Mathlib.Omega.{arith}
use lib.ListN.{length, drop, set}
use lib.Seq.{drop-cons, set_at}
use Rattle.rules.specs.Sheet.{number_bytes, number_at, numbers_at}
use Rattle.rules.proofs.Sheet.{numbers-long, numbers_more}

-- ---- a part whose first i numbers are the sheet's
module _ (sheet : List ℕ) where
  module _ (t : List ℕ) (from i : ℕ) {part : List ℕ} (so_far : part ≡ numbers_at sheet from i ++ drop i t) where
    pub read_more : i < length t → {n : ℕ} → n ≡ number_at sheet (from + i * number_bytes)
        → set part i n ≡ numbers_at sheet from (i + 1) ++ drop (i + 1) t
    read_more there is =
        let done = numbers_at sheet from i in
        let next = number_at sheet (from + i * number_bytes) in
        let rest = drop (suc i) t in
        rw (so_far, is, add-one i, drop-cons t i 0 (omega arith), numbers_more sheet from i, append_assoc done (next ∷ []) rest)
        (set_at done _ rest next i (numbers-long sheet from i))
