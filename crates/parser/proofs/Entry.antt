-- What a member of the cycle hands to a routine outside it. Assumes nothing.
use mathlib.Core.List.{List}
use Prim.Native.Nat.{ℕ}
use Rattle.rules.specs.Checks.{Tables}
use Rattle.state.specs.Contract.{Ready, Somehow}
use Rattle.state.specs.declared.Parser.{Parser}
use Rattle.parser.specs.Member.{buffers}

-- the tables and the dropped buffer are the member's own
pub somehow : {sees : Tables → Type 0} {t : Tables} {p : Parser} {tree dropped : List ℕ}
    → sees t → Ready t p (buffers tree dropped) → Somehow sees p tree
somehow {t = t} {dropped = dropped} seen ready = record { t = t; notes = dropped; seen = seen; ready = ready }
