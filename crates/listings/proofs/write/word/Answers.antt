-- A turn writes the next byte of what is left, and at the end nothing is left.
use Rattle.std.proofs.Common.{ℕ, ◌+◌, ◌≤◌, ◌<◌, List, [], ◌∷◌, length, drop, get_or, add-one, drop_of_length-le, drop-cons}
use Rattle.listings.specs.Contract.{Wrote}
use Rattle.listings.proofs.Writing.{Left, turns, goes, ends}
use Rattle.listings.proofs.write.word.Goals as goal

module _ (bytes : List ℕ) (i : ℕ) {out whole out₀ : List ℕ} {at at₀ : ℕ} (left : Left (drop i bytes) out at whole out₀ at₀) where
  next_byte : i < length bytes → {v : List ℕ} {next : ℕ} → Wrote (get_or bytes i 0 ∷ []) out at v next
      → Left (drop (i + 1) bytes) v next whole out₀ at₀
  next_byte there put = goes (turns (rw (add-one i) (drop-cons bytes i 0 there)) left) put

  none_left : length bytes ≤ i → Wrote whole out₀ at₀ out at
  none_left past = ends (turns (drop_of_length-le bytes past) left)

pub loop-byte-preserved : goal.loop-byte-preserved
loop-byte-preserved c = search next_byte

pub returns : goal.returns
returns c = search none_left
