-- The contracts fix what they speak of: two answers that meet one are equal, and so are two buffers. Assumes nothing.
use Prim.Native.Nat.{ℕ}
use mathlib.Core.List.{List}
use mathlib.Core.Path.{◌≡◌, sym, ◌∙◌}
use Rattle.std.specs.Prelude.{Result}
use Rattle.listings.specs.Contract.{Wrote, Lists}
use Rattle.listings.specs.declared.listing.NoRoom.{NoRoom}

-- `list`
pub only_list : {lines out v w : List ℕ} {r s : Result ℕ NoRoom} → Lists lines out r v → Lists lines out s w → (r ≡ s) × (v ≡ w)
only_list one other = (one.answer ∙ sym other.answer, one.written ∙ sym other.written)

-- `put` and the functions below `list`: how many bytes there are then, and every byte of the lent ones
pub only_written : {bytes t v w : List ℕ} {at r s : ℕ} → Wrote bytes t at v r → Wrote bytes t at w s → (r ≡ s) × (v ≡ w)
only_written one other = (one.next ∙ sym other.next, one.is ∙ sym other.is)
