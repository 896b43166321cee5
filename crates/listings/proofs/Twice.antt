-- What two writings of a listing come to: the first, into no room, counts its bytes; the second writes them where they have room. Assumes nothing.
use Prim.Native.Nat.{ℕ, ◌*◌, ◌^◌, ◌≤◌, ◌<◌}
use mathlib.Core.List.{List, [], ◌++◌}
use mathlib.Core.Path.{◌≡◌, sym}
use native.Mathlib.Nat.{zero-add}
use native.Mathlib.Omega.{arith}
use borrow.Author.Tests.{le-leb}
use lib.ListN.{length}
use lib.Seq.{sets, sets-eq}
use Rattle.std.specs.Prelude.{Ok}
use Rattle.rules.specs.Run.{over}
use Rattle.listings.specs.Contract.{Wrote, Lists}
use Rattle.listings.proofs.Writing.{sets_past}

-- the bytes of a lent slice are fewer than 2^63
module _ {lines v : List ℕ} {needed : ℕ} (out : List ℕ) (counted : Wrote lines [] 0 v needed) (short : length out * 1 < 2 ^ 63) where
  -- the part of no bytes comes back as it was
  back : v ++ out ≡ out
  back = rw (counted.is, sets_past lines [] 0 (omega arith))

  pub all_written : {w : List ℕ} {r : ℕ} → needed ≤ length (v ++ out) → Wrote lines (v ++ out) 0 w r → Lists lines out (Ok needed) w
  all_written fits k =
      let room : needed ≤ length out = rw back at fits in
      let count : needed ≡ length lines = let n = counted.next in omega arith in
      let enough : length lines ≤ length out = omega arith in
      let written : over lines out ≡ sets out 0 lines = sym (rw (zero-add (length lines)) at (sets-eq lines out 0 (omega arith))) in
      record {
        answer = rw (le-leb _ _ enough, count);
        says = rw (le-leb _ _ enough, count);
        written = rw (le-leb _ _ enough, written) (rw back at k.is);
      }
