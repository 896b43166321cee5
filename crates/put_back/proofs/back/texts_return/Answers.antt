-- Where both texts are written whole, they are the same exactly where their bytes are; where they are the same and have room, no test fails.
use Rattle.std.proofs.Common.{◌≡◌, ℕ, ◌/◌, ◌*◌, ◌^◌, ◌≤◌, ◌<◌, Bool, true, false, ◌&&◌, List, length, take, refl, sym, ap, ◌∙◌, arith, rules}
use borrow.Author.Tests.{leb-true}
use lib.Dec.{leb}
use lib.Seq.{length-sets}
use Rattle.rules.specs.Limits.{dropped_width}
use Rattle.rules.specs.Questions.{row_count}
use Rattle.listings.specs.Contract.{Wrote}
use Rattle.compare.specs.Tells.{Tells}
use Rattle.put_back.specs.Back.{Counted, counted, back_of, texts_of, stand, Returns, Returned}
use Rattle.compare.proofs.Telling.{tells_as}
use Rattle.put_back.proofs.TextsLeft.{written, texts_same}
use Rattle.put_back.proofs.back.texts_return.Goals as goal

both : (a b : Bool) → (a && b) ≡ true → (a ≡ true) × (b ≡ true)
both true true h = (refl, refl)
both true false h = cc
both false b h = cc

module _ (text tokens tree : List ℕ) (rows : ℕ) (dropped : List ℕ) (drops : ℕ) (back whole : List ℕ) where
  abbrev run : Counted
  run = counted text tokens tree rows dropped drops

  module _ (stands : stand run ≡ true) {size wanted : ℕ} {back' whole' : List ℕ}
      (puts : Wrote (back_of run) back 0 back' size) (joins : Wrote (texts_of run) whole 0 whole' wanted)
      (sizes : size ≡ wanted) (room : size ≤ length back') (space : size ≤ length whole')
      (few : length back * 1 < 2 ^ 63) (less : length whole * 1 < 2 ^ 63) where
    back_kept : length back' ≡ length back
    back_kept = ap length puts.is ∙ length-sets back 0 (back_of run)

    whole_kept : length whole' ≡ length whole
    whole_kept = ap length joins.is ∙ length-sets whole 0 (texts_of run)

    long : length (texts_of run) ≡ size
    long = let next = joins.next in omega (arith, whole_kept)

    returned : take size back' ≡ take size whole' → Returns run (length back) (length whole)
    returned same =
        let text_size = long in
        let each = both (leb rows (row_count tree)) (leb drops (length dropped / dropped_width)) stands in
        record {
          rows = leb-true _ _ each.0;
          drops = leb-true _ _ each.1;
          same = texts_same puts joins sizes (omega arith) (omega arith) room space same;
          back_room = omega (arith, back_kept);
          whole_room = omega (arith, whole_kept);
        }

    same_bytes : Returns run (length back) (length whole) → take size back' ≡ take size whole'
    same_bytes k =
        let all : wanted ≤ length whole' = omega arith in
        written puts (omega arith) room ∙ k.same ∙ sym (ap (λ (n : ℕ). take n whole') sizes ∙ written joins (omega arith) all)

    compared : {r : Bool} → Tells (take size back' ≡ take size whole') r → Returned run back whole r back' whole'
    compared t =
        record { answer = tells_as returned same_bytes t; back_after = puts.is ∙ rw stands; whole-after = joins.is ∙ rw stands }

pub returns : goal.returns
returns c = search (rules, compared)
