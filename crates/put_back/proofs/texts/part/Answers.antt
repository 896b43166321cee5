-- The bytes are the part of the text, and a turn writes the next of them.
use Rattle.std.proofs.Common.{◌≡◌, ℕ, ◌+◌, ◌-◌, ◌≤◌, ◌<◌, min, List, [], ◌∷◌, ◌++◌, length, get_or, take, drop, sym, arith}
use Rattle.std.proofs.Common.{add-one, drop-cons, length-drop}
use Rattle.std.proofs.lemmas.List.{take_all, take_min, drop_all}
use borrow.Author.Tests.{leb-true, leb-false}
use lib.Dec.{leb}
use Rattle.rules.specs.Tables.{part}
use Rattle.rules.proofs.Characters.{either}
use Rattle.listings.proofs.Writing.{Left, turns, goes, ends}
use Rattle.listings.specs.Contract.{Wrote}
use Rattle.put_back.proofs.texts.part.Goals as goal

module _ (text : List ℕ) (start size : ℕ) {end from : ℕ} (ends_at : end ≡ min (length text) (start + size)) (begins_at : from ≡ min end start) where
  inside : start ≤ length text → take (end - from) (drop from text) ≡ part text start size
  inside here =
      let first : from ≡ start = omega arith in
      let count : end - from ≡ min size (length (drop start text)) = omega (arith, length-drop start text) in
      rw (count, first) (take_min size (drop start text))

  outside : length text < start → take (end - from) (drop from text) ≡ part text start size
  outside over =
      let none : end - from ≡ 0 = omega arith in
      let past : length text ≤ start = omega arith in
      rw (none, drop_all start text past) (sym (take_all size [] (omega arith)))

  bytes_are : take (end - from) (drop from text) ≡ part text start size
  bytes_are = either (leb start (length text)) (λ here. inside (leb-true _ _ here)) (λ over. outside (leb-false start (length text) over))

  written : {i at next : ℕ} {out out₀ : List ℕ} → length (take (end - from) (drop from text)) ≤ i
      → Left (drop i (take (end - from) (drop from text))) out next (take (end - from) (drop from text)) out₀ at
      → Wrote (part text start size) out₀ at out next
  written past rest = rw bytes_are at (ends (turns (drop_all _ _ past) rest))

next : (bytes : List ℕ) (i : ℕ) → i < length bytes → drop i bytes ≡ (get_or bytes i 0 ∷ []) ++ drop (i + 1) bytes
next bytes i h = rw (drop-cons bytes i 0, add-one i)

pub loop-byte-preserved : goal.loop-byte-preserved
loop-byte-preserved c = search (goes, turns, next)

pub returns : goal.returns
returns c = search written
