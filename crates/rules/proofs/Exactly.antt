-- What is dropped is exactly what the demand lists: of every accepted run, the dropped rows are those that `Exactly.dropped` reads off the run's tree
-- and the kinds of the tokens. The run's rows are those of that tree. The flat run's tree is rowan's (Alike.antt), and of that one every routine
-- keeps that its dropped rows are the definition's (Control.antt). With whatever room, what is read has one tree. Assumes nothing.
use Prim.Native.Nat.{ℕ, ◌*◌, ◌/◌, ◌≤◌}
use mathlib.Core.Path.{◌≡◌, refl, sym, ap, ◌∙◌}
use mathlib.Core.List.{List, [], ◌∷◌}
use Rattle.std.specs.Prelude.{Option, None as none, Some as some}
use native.Mathlib.Omega.{arith}
use lib.Dec.{leb}
use lib.ListN.{length, take, drop}
use lib.Seq.{take-append_seam}
use borrow.Author.Tests.{leb-true, leb-false}
use Rattle.rules.specs.Checks.{Tables, Refusal, checks, source_of}
use Rattle.rules.specs.Exactly.{dropped, TreeOf, RanExactly}
use Rattle.rules.specs.Flat
use Rattle.rules.specs.Flat.{Built, Mark, flat}
use Rattle.rules.specs.Limits
use Rattle.rules.specs.Outcome.{Out, went, refused}
use Rattle.rules.specs.Position.{Pos, Source}
use Rattle.rules.specs.Reading.{parse}
use Rattle.rules.specs.Rowan.{Green}
use Rattle.rules.specs.Run.{accepted, over, after_reading, after_checks, run}
use Rattle.rules.specs.Tree.{Tree, layout}
use Rattle.rules.proofs.Alike as alike
use Rattle.rules.proofs.Alike.{FlatRun, RowanRun, Whole, SameRun, both_went, both_refused}
use Rattle.rules.proofs.Characters.{either}
use Rattle.rules.proofs.Control.{exact_run}
use Rattle.rules.proofs.Fours.{fours, layout_tells}
use Rattle.rules.proofs.Goes.{went_goes}
use Rattle.rules.proofs.Reasons.{whole-rows, dropped-rows}
use Rattle.rules.proofs.Room.{accepted_with_more}

-- ---- runs

-- the tree of a run, whose rows these are; and the dropped rows are those of the tree
pub record Exactly (room : ℕ) (source : Source) (rows rows_dropped : List ℕ) : Type 0 where
  pub tree : Tree
  pub of : TreeOf room source tree
  pub laid : rows ≡ layout tree
  pub only : rows_dropped ≡ dropped source tree

the_child : {x y : Tree} → ◌≡◌ {A = List Tree} (x ∷ []) (y ∷ []) → x ≡ y
the_child e = cc

module _ (room : ℕ) (source : Source) where
  pub exactly : (p : Pos Built Mark) → parse (flat room) source Flat.empty ≡ went p → Exactly room source p.built.tree.tree p.built.dropped
  exactly p e =
      let green = alike.accepted (alike.same-run room source) e in
      let whole = green.3 in
      let exact = went_goes (exact_run room source) green.1 in
      let is : whole.tree ≡ exact.tree = the_child (sym whole.is ∙ exact.children) in
      record {
        tree = exact.tree;
        of = record { end = green.0; run = green.1; is = exact.children };
        laid = whole.rows ∙ ap (λ (t : Tree). layout t) is;
        only = whole.dropped ∙ exact.dropped;
      }

-- ---- one tree

-- the flat run beside a run of rowan's
beside : {o : FlatRun} {u : RowanRun} {q : Pos Green ℕ} → SameRun o u → u ≡ went q → (p : Pos Built Mark) × (o ≡ went p) × Whole p.built q.built
beside {q} (both_went {p} {q = q'} at whole) e =
    let same : q' ≡ q = cc in
    (p, refl, rw same at whole)
beside (both_refused number place known) e = let z : ◌≡◌ {A = ℕ} 0 1 = cc in absurd (omega arith)

-- the flat rows of a tree
record Laid (room : ℕ) (source : Source) (t : Tree) : Type 0 where
  end : Pos Built Mark
  run : parse (flat room) source Flat.empty ≡ went end
  are : end.built.tree.tree ≡ layout t

laid_out : {room : ℕ} {source : Source} {t : Tree} → TreeOf room source t → Laid room source t
laid_out {room} {source} h =
    let flat-run = beside (alike.same-run room source) h.run in
    let whole = flat-run.2 in
    record { end = flat-run.0; run = flat-run.1; are = whole.rows ∙ ap (λ (t : Tree). layout t) (the_child (sym whole.is ∙ h.is)) }

same_end : {o : FlatRun} {p q : Pos Built Mark} → o ≡ went p → o ≡ went q → p ≡ q
same_end e d = cc

-- the larger room gives the same rows
one-layout : {room room' : ℕ} {source : Source} {t u : Tree} → room ≤ room' → Laid room source t → Laid room' source u → t ≡ u
one-layout {room} {room'} {source} {t} {u} larger a b =
    let ends = same_end (accepted_with_more room room' larger source a.end a.run) b.run in
    layout_tells t u (sym a.are ∙ ap (λ (p : Pos Built Mark). p.built.tree.tree) ends ∙ b.are)

-- with whatever room, what is read has one tree
pub only_tree : {room room' : ℕ} {source : Source} {t u : Tree} → TreeOf room source t → TreeOf room' source u → t ≡ u
only_tree {room} {room'} a b =
    either (leb room room')
    (λ e. one-layout (leb-true room room' e) (laid_out a) (laid_out b))
    (λ e. let less = leb-false room room' e in sym (one-layout (omega arith) (laid_out b) (laid_out a)))

-- ---- whole runs

-- what is written over a buffer is what the buffer then begins with
begins : (l buffer : List ℕ) (n : ℕ) → n ≡ length l → take n (over l buffer) ≡ l
begins l buffer n e = rw e (take-append_seam l (drop (length l) buffer))

whole-count : (count length : ℕ) → count * Limits.dropped_width ≡ length → length / Limits.dropped_width ≡ count
whole-count count length e = omega arith

counts : {a b c d : ℕ} → accepted a b ≡ accepted c d → (a ≡ c) × (b ≡ d)
counts e = (cc, cc)

module _ (t : Tables) (tree buffer : List ℕ) (rows count : ℕ) where
  reading : (o : Out (Pos Built Mark))
      → parse (flat (length tree)) (source_of t) Flat.empty ≡ o
      → (after_reading tree buffer o).answer ≡ accepted rows count
      → RanExactly t (length tree) rows count (after_reading tree buffer o)
  reading (refused number place) e is = let z : ◌≡◌ {A = ℕ} 0 1 = cc in absurd (omega arith)
  reading (went p) e is =
      let built = p.built in
      let exact = exactly (length tree) (source_of t) p e in
      let whole = (alike.accepted (alike.same-run (length tree) (source_of t)) e).3 in
      let same = counts is in
      let written : rows * Limits.tree_width ≡ length built.tree.tree = rw (← same.0) whole.size in
      let laid = begins built.tree.tree tree (rows * Limits.tree_width) written ∙ exact.laid in
      let size = written ∙ ap (λ (l : List ℕ). length l) exact.laid in
      let reasoned = dropped-rows (source_of t) exact.tree 0 in
      let long = whole-rows (source_of t) reasoned.rows ∙ ap (λ (l : List ℕ). length l) (sym exact.only) in
      let counted : reasoned.count ≡ count = sym (whole-count reasoned.count (length built.dropped) long) ∙ same.1 in
      let notes : take (count * Limits.dropped_width) (over built.dropped buffer) ≡ dropped (source_of t) exact.tree =
      begins built.dropped buffer (count * Limits.dropped_width) (rw (← counted) long) ∙ exact.only in
      record {
        tree = exact.tree;
        of = exact.of;
        laid = laid;
        size = size;
        base = fours exact.tree rows (over built.tree.tree tree) size laid;
        only = notes;
        reasons = rw (notes, ← counted) reasoned.rows;
      }

  checked : (o : Option Refusal)
      → (after_checks o t tree buffer).answer ≡ accepted rows count
      → RanExactly t (length tree) rows count (after_checks o t tree buffer)
  checked (some refusal) is = let z : ◌≡◌ {A = ℕ} 0 1 = cc in absurd (omega arith)
  checked none is = reading (parse (flat (length tree)) (source_of t) Flat.empty) refl is

  -- "In every accepted run": the dropped rows are exactly those that the demand lists
  pub run-exactly : (run t tree buffer).answer ≡ accepted rows count → RanExactly t (length tree) rows count (run t tree buffer)
  unfolding run
  run-exactly is = checked (checks t (length buffer)) is
