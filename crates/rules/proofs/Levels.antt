-- What was dropped and the tree with its places, at each open node: the rows so far are those of the children so far. Laws of how a level is opened,
-- grows by a child and is closed. Assumes nothing.
use Prim.Native.Nat.{ℕ, ◌+◌, ◌-◌, ◌≤◌}
use mathlib.Core.Path.{◌≡◌, refl, sym, ap, ◌∙◌}
use mathlib.Core.List.{List, [], ◌∷◌, ◌++◌, append_assoc, append-nil}
use native.Mathlib.Omega.{arith}
use lib.ListN.{length, take, drop, length-append, take-append-drop}
use lib.Seq.{take-append_seam, drop-append_seam, length-take-le}
use Rattle.rules.specs.Builder.{Leaf}
use Rattle.rules.specs.Exactly.{passed_before, end_of, dropped_in, dropped_all, dropped_passing}
use Rattle.rules.specs.Position.{Source}
use Rattle.rules.specs.Rowan.{Parent, Green, leafed, pushed, closed}
use Rattle.rules.specs.SyntaxKind.{ClauseArgument}
use Rattle.rules.specs.Tree.{Tree, Forest, leaf, node, none, more, forest, leaves_in, leaves_all}

-- ---- leaves and rows of children, one after the other

pub leaves-more : (xs ys : List Tree) → leaves_all (forest (xs ++ ys)) ≡ leaves_all (forest xs) + leaves_all (forest ys)
unfolding leaves_all
leaves-more [] ys = omega arith
leaves-more (x ∷ xs) ys = let rest = leaves-more xs ys in omega arith

pub leaves-one : (x : Tree) → leaves_all (forest (x ∷ [])) ≡ leaves_in x
unfolding leaves_all
leaves-one x = omega arith

module _ (source : Source) where
  pub all_more : (xs ys : List Tree) (n : ℕ)
      → dropped_all source n (forest (xs ++ ys)) ≡ dropped_all source n (forest xs) ++ dropped_all source (n + leaves_all (forest xs)) (forest ys)
  unfolding dropped_all leaves_all
  all_more [] ys n = ap (λ (i : ℕ). dropped_all source i (forest ys)) (omega arith)
  all_more (x ∷ xs) ys n =
      let same : n + leaves_in x + leaves_all (forest xs) ≡ n + (leaves_in x + leaves_all (forest xs)) = omega arith in
      let own = dropped_in source n x in
      let front = dropped_all source (n + leaves_in x) (forest xs) in
      let back = dropped_all source (n + (leaves_in x + leaves_all (forest xs))) (forest ys) in
      ap (λ (l : List ℕ). own ++ l) (all_more xs ys (n + leaves_in x) ∙ rw same refl) ∙ sym (append_assoc own front back)

  pub all_one : (x : Tree) (n : ℕ) → dropped_all source n (forest (x ∷ [])) ≡ dropped_in source n x
  unfolding dropped_all
  all_one x n = append-nil (dropped_in source n x)

  -- where the last child ends
  abbrev pub last_end : ℕ → List Tree → ℕ
  last_end behind [] = behind
  last_end behind (t ∷ ts) = last_end (end_of source t) ts

  pub last_end_more : (xs : List Tree) (y : Tree) (behind : ℕ) → last_end behind (xs ++ (y ∷ [])) ≡ end_of source y
  last_end_more [] y behind = refl
  last_end_more (x ∷ xs) y behind = last_end_more xs y (end_of source x)

  -- the rows of a child, where so many leaves stand before it, of a node that passes trivia and has read up to `behind`
  abbrev pub own_rows : ℕ → Tree → ℕ → List ℕ
  own_rows behind y n = passed_before source behind y n ++ dropped_in source n y

  pub passing_more : (xs : List Tree) (y : Tree) (behind n : ℕ)
      → dropped_passing source behind n (forest (xs ++ (y ∷ [])))
      ≡ dropped_passing source behind n (forest xs) ++ own_rows (last_end behind xs) y (n + leaves_all (forest xs))
  unfolding dropped_passing leaves_all
  passing_more [] y behind n =
      let same : n + 0 ≡ n = omega arith in
      rw (same, append-nil (dropped_in source n y))
  passing_more (x ∷ xs) y behind n =
      let same : n + leaves_in x + leaves_all (forest xs) ≡ n + (leaves_in x + leaves_all (forest xs)) = omega arith in
      let k = n + (leaves_in x + leaves_all (forest xs)) in
      let front = passed_before source behind x n in
      let own = dropped_in source n x in
      let rest = dropped_passing source (end_of source x) (n + leaves_in x) (forest xs) in
      let last = own_rows (last_end (end_of source x) xs) y k in
      ap (λ (l : List ℕ). front ++ (own ++ l)) (passing_more xs y (end_of source x) (n + leaves_in x) ∙ rw same refl)
      ∙ ap (λ (l : List ℕ). front ++ l) (sym (append_assoc own rest last))
      ∙ sym (append_assoc front (own ++ rest) last)

-- ---- an open node

-- its kind, the place at which it was begun, and what stood then
pub record Ground : Type 0 where
  pub kind : ℕ
  pub from : ℕ
  pub parents : List Parent
  pub base : List Tree
  pub leaves : ℕ
  pub dropped : List ℕ

-- a node that is begun where this was built
abbrev pub below : ℕ → ℕ → Green → Ground
below kind from b = record { kind = kind; from = from; parents = b.parents; base = b.children; leaves = b.leaves; dropped = b.dropped }

-- it is the innermost: its children so far, and of these the rows
pub record Level (rows : Forest → List ℕ) (g : Ground) (b : Green) : Type 0 where
  pub inside : List Tree
  pub parents : b.parents ≡ record { kind = g.kind; first = length g.base; from = g.from } ∷ g.parents
  pub children : b.children ≡ g.base ++ inside
  pub leaves : b.leaves ≡ g.leaves + leaves_all (forest inside)
  pub dropped : b.dropped ≡ g.dropped ++ rows (forest inside)

-- it has no child yet
unfoldable pub level_opens : (rows : Forest → List ℕ)
    → rows none ≡ []
    → (kind from : ℕ) (b : Green)
    → Level rows (below kind from b) (pushed from kind (length b.children) b)
unfolding pushed leaves_all
level_opens rows e kind from b =
    record {
      inside = [];
      parents = refl;
      children = sym (append-nil b.children);
      leaves = omega arith;
      dropped = sym (rw e (append-nil b.dropped));
    }

-- one child more, with its rows
pub record Grown (t : Tree) (rows : List ℕ) (b after : Green) : Type 0 where
  pub parents : after.parents ≡ b.parents
  pub children : after.children ≡ b.children ++ (t ∷ [])
  pub leaves : after.leaves ≡ b.leaves + leaves_in t
  pub dropped : after.dropped ≡ b.dropped ++ rows

unfoldable pub level_grows : {rows : Forest → List ℕ} {g : Ground} {b after : Green} {t : Tree} {new : List ℕ} (h : Level rows g b)
    → Grown t new b after
    → rows (forest (h.inside ++ (t ∷ []))) ≡ rows (forest h.inside) ++ new
    → Level rows g after
level_grows {rows} {g} {t} {new} h grown e =
    let us = h.inside in
    let more = leaves-more us (t ∷ []) in
    let one = leaves-one t in
    let before = h.leaves in
    let by = grown.leaves in
    let all = append_assoc g.dropped (rows (forest us)) new ∙ ap (λ (l : List ℕ). g.dropped ++ l) (sym e) in
    record {
      inside = us ++ (t ∷ []);
      parents = grown.parents ∙ h.parents;
      children = grown.children ∙ ap (λ (l : List Tree). l ++ (t ∷ [])) h.children ∙ append_assoc g.base us (t ∷ []);
      leaves = omega arith;
      dropped = grown.dropped ∙ ap (λ (l : List ℕ). l ++ new) h.dropped ∙ all;
    }

pub leaf-grows : (l : Leaf) (b : Green) → Grown (leaf l) [] b (leafed l b)
unfolding leafed leaves_in
leaf-grows l b = record { parents = refl; children = refl; leaves = refl; dropped = sym (append-nil b.dropped) }

-- the innermost node ends, and is a child of the one around it
pub close_grows : {rows : Forest → List ℕ} {kind from : ℕ} {around b : Green} (place : ℕ) (h : Level rows (below kind from around) b)
    → Grown (node kind from place (forest h.inside)) (rows (forest h.inside)) around (closed place b)
unfolding closed leaves_in
close_grows {kind} {from} {around} place h =
    let us = h.inside in
    record {
      parents = rw h.parents;
      children = rw (h.parents, h.children, take-append_seam around.children us, drop-append_seam around.children us);
      leaves = h.leaves;
      dropped = h.dropped;
    }

module _ (source : Source) where
  -- ---- a node that passes nothing itself: its rows are those of its children

  abbrev pub In : Ground → Green → Type 0
  In g b = Level (dropped_all source g.leaves) g b

  pub in_opens : (kind from : ℕ) (b : Green) → In (below kind from b) (pushed from kind (length b.children) b)
  unfolding dropped_all
  in_opens kind from b = level_opens (dropped_all source b.leaves) refl kind from b

  pub in_grows : {g : Ground} {b after : Green} {t : Tree} {new : List ℕ}
      → In g b
      → Grown t new b after
      → new ≡ dropped_in source b.leaves t
      → In g after
  in_grows {g} {t} {new} h grown e =
      let us = forest h.inside in
      let last = all_one source t (g.leaves + leaves_all us) ∙ ap (λ (n : ℕ). dropped_in source n t) (sym h.leaves) ∙ sym e in
      level_grows h grown (all_more source h.inside (t ∷ []) g.leaves ∙ ap (λ (l : List ℕ). dropped_all source g.leaves us ++ l) last)

  pub in_leaf : {g : Ground} {b : Green} (l : Leaf) → In g b → In g (leafed l b)
  unfolding dropped_in
  in_leaf {b} l h = in_grows h (leaf-grows l b) refl

  -- ---- a mark: what stood when it was made, and what came since

  pub record Cut (g : Ground) (b : Green) (mark : ℕ) : Type 0 where
    pub before : Green
    pub level : In g before
    pub since : List Tree
    pub parents : b.parents ≡ before.parents
    pub children : b.children ≡ before.children ++ since
    pub counts : length before.children ≡ mark
    pub leaves : b.leaves ≡ before.leaves + leaves_all (forest since)
    pub dropped : b.dropped ≡ before.dropped ++ dropped_all source before.leaves (forest since)

  pub in_cut : {g : Ground} {b : Green} (mark : ℕ) → In g b → length g.base ≤ mark → mark ≤ length b.children → Cut g b mark
  in_cut {g} {b} mark h low high =
      let us = h.inside in
      let k = mark - length g.base in
      let sum : mark ≡ length g.base + k = omega arith in
      let split = take-append-drop k us in
      let long = ap (λ (l : List Tree). length l) h.children ∙ length-append g.base us in
      let count : k ≤ length us = omega arith in
      let leaves = h.leaves in
      let parts = leaves-more (take k us) (drop k us) in
      let same = ap (λ (l : List Tree). leaves_all (forest l)) split in
      let stood = g.leaves + leaves_all (forest (take k us)) in
      let front = dropped_all source g.leaves (forest (take k us)) in
      let back = dropped_all source stood (forest (drop k us)) in
      let rows : dropped_all source g.leaves (forest us) ≡ front ++ back =
      ap (λ (l : List Tree). dropped_all source g.leaves (forest l)) (sym split) ∙ all_more source (take k us) (drop k us) g.leaves in
      record {
        before = record { parents = b.parents; children = g.base ++ take k us; rows = b.rows; leaves = stood; dropped = g.dropped ++ front };
        level = record { inside = take k us; parents = h.parents; children = refl; leaves = refl; dropped = refl };
        since = drop k us;
        parents = refl;
        children = h.children ∙ ap (λ (l : List Tree). g.base ++ l) (sym split) ∙ sym (append_assoc g.base (take k us) (drop k us));
        counts = length-append g.base (take k us) ∙ ap (λ (n : ℕ). length g.base + n) (length-take-le k us count) ∙ sym sum;
        leaves = omega arith;
        dropped = h.dropped ∙ ap (λ (l : List ℕ). g.dropped ++ l) rows ∙ sym (append_assoc g.dropped front back);
      }

  -- a wrap: a node was begun at the mark, and in it one is closed around what came since
  pub wrapped : {g : Ground} {b : Green} (rows : ℕ → Forest → List ℕ) (place kind mark : ℕ) (cut : Cut g b mark)
      → let arg = node ClauseArgument place place (forest cut.since) in
      rows cut.before.leaves none ≡ []
      → rows cut.before.leaves (forest (arg ∷ [])) ≡ dropped_all source cut.before.leaves (forest cut.since)
      → Level (rows cut.before.leaves) (below kind place cut.before)
      (closed place (pushed place ClauseArgument mark (pushed place kind mark b)))
  unfolding pushed leaves_all
  wrapped {b} rows place kind mark cut none_rows arg-rows =
      let before = cut.before in
      let since = cut.since in
      let within = pushed place ClauseArgument mark (pushed place kind mark b) in
      let outer : Level (rows before.leaves) (below kind place before) (pushed place kind mark before) =
      record {
        inside = [];
        parents = rw cut.counts;
        children = sym (append-nil before.children);
        leaves = omega arith;
        dropped = sym (rw none_rows (append-nil before.dropped));
      } in
      let inner : Level (dropped_all source before.leaves) (below ClauseArgument place (pushed place kind mark before)) within =
      record {
        inside = since;
        parents = rw (cut.parents, cut.counts);
        children = cut.children;
        leaves = cut.leaves;
        dropped = cut.dropped;
      } in
      level_grows outer (close_grows place inner) (arg-rows ∙ rw none_rows)
