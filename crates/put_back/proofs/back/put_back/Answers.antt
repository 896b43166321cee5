-- A turn writes what was dropped before a leaf and the leaf's text, and nothing at any other row.
use Rattle.std.proofs.Common.{◌≡◌, ℕ, ◌≤◌, List, length, sym, ap, ◌∙◌, arith}
use Rattle.std.proofs.lemmas.List.{drop_all}
use Rattle.rules.specs.PutBack.{stored, put_back, with_texts, back_from}
use Rattle.rules.proofs.PutBack.{four-texts}
use Rattle.listings.proofs.Writing.{all_left, turns, goes, closes}
use Rattle.put_back.proofs.TextsLeft.{back_texts, back_leaf, back_other}
use Rattle.put_back.proofs.back.put_back.Goals as goal
use Rattle.put_back.proofs.back.put_back.Goals.{then-tag-number, else-tag-number}

-- the texts of the leaves are read off whole rows
all_rows : (text tokens : List ℕ) (tree dropped : List (List ℕ))
    → put_back (stored text tokens tree dropped) ≡ back_texts text (with_texts text tokens dropped) 0 tree
all_rows text tokens tree dropped = ap (λ (texts : List (List ℕ)). back_from 0 texts (with_texts text tokens dropped)) (four-texts text tree)

pub loop-row-init : goal.loop-row-init
loop-row-init c =
    (omega arith, turns (all_rows c.args.text.now c.args.tokens.now c.args.tree.now c.args.dropped.now) (all_left _ _ 0 (omega arith) (omega arith)))

pub loop-row-preserved : goal.loop-row-preserved
loop-row-preserved c =
    let notes = with_texts c.args.text.now c.args.tokens.now c.args.dropped.now in
    let leaf = back_leaf c.args.text.now notes c.loop-row.leaves c.args.tree.now c.loop-row.row-index c.loop-row-test.true in
    let other = back_other c.args.text.now notes c.loop-row.leaves c.args.tree.now c.loop-row.row-index c.loop-row-test.true in
    let before = c.loop-row.invariant in
    elim c.if-tag-number.branch [
      | then-tag-number w ↦
          let drops = goes (turns (leaf (w.if-tag-number.true ∙ c.number.ensures)) before.1) w.dropped_after-behind_dropped.ensures in
          (omega arith, rw (w.out-is, w.next-is, w.leaves-is) (goes drops w.part-next.ensures))
      | else-tag-number w ↦
          (omega arith, rw (w.out-is, w.next-is, w.leaves-is) (turns (other (λ e. w.if-tag-number.false (e ∙ sym c.number.ensures))) before.1))
    ]

pub returns : goal.returns
returns c =
    let all : length c.args.tree.now ≤ c.loop-row.row-index = omega arith in
    closes (rw (drop_all c.loop-row.row-index c.args.tree.now all) at c.loop-row.invariant.1) c.dropped_after.ensures
