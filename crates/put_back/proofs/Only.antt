-- Two results of `texts_return` that meet its contract are equal, and so are the bytes lent to it. The functions below it write as `put` of
-- `listings` does, and `only_written` of that crate speaks of them too. Assumes nothing.
use Prim.Native.Nat.{ℕ}
use mathlib.Core.Bool.{Bool}
use mathlib.Core.List.{List}
use mathlib.Core.Path.{◌≡◌, sym, ◌∙◌}
use Rattle.compare.proofs.Telling.{only}
use Rattle.put_back.specs.Back.{Counted, Returned}

-- the answer, and every byte of both lent parts
pub only_returned : {c : Counted} {back whole v w v' w' : List ℕ} (r s : Bool) → Returned c back whole r v w → Returned c back whole s v' w'
    → (r ≡ s) × ((v ≡ v') × (w ≡ w'))
only_returned r s k l =
    (only r s k.answer l.answer, (k.back_after ∙ sym l.back_after, k.whole-after ∙ sym l.whole-after))
