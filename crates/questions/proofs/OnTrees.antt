-- In rows that a tree is laid out in, the questions of a formula's row have the answers that the source has of its node, and the strict one has 02's.
-- By induction over the tree the walk to the finish passes each child's rows as one; the first and the last row that it does not pass are the leaves
-- that rowan descends to, and the first and the last row of all are those of the first and the last child. Assumes nothing.
use Prim.Native.Nat.{ℕ, ◌+◌, ◌*◌, ◌-◌, ◌≤◌, ◌<◌}
use mathlib.Core.Bool.{and-false}
use mathlib.Core.List.{List, [], ◌∷◌, ◌++◌, append_assoc}
use Rattle.std.specs.Prelude.{Option, None as none, Some as some}
use mathlib.Core.Path.{◌≡◌, refl, sym, ap, ap₂, ◌∙◌}
use borrow.Author.Tests.{lt-ltb, le-ltb, ne_eqb}
use native.Mathlib.Nat.{add-zero, add_assoc}
use native.Mathlib.Omega.{arith}
use lib.ListN.{length, get_or, drop, length-append, length-drop}
use lib.Seq.{drop-drop, drop-append_seam, get_or-drop}
use Rattle.rules.specs.Flat.{tag_leaf, tag_finish, start_row, finish_row, with_token, row_of}
use Rattle.rules.specs.Builder as builder
use Rattle.rules.specs.Limits
use Rattle.rules.specs.Questions.{row_count, tag_at, tagged, range_at, open_after, balance, formula, first_token, last_token, first_from, last_before, first_leaf, first_of, last_leaf, last_of, of_leaf, Leaf, leaf_at, display, inline, matched, is_display, is_inline, is_valid, is_whole, whole_in, child_leaf, last_child, whole}
use Rattle.rules.proofs.Questions.{balance-on, balance-here, first_next, first-end, last_step}
use Rattle.rules.proofs.Whole.{no_first, no_last}
use Rattle.rules.specs.SyntaxKind.{ItemFormula}
use Rattle.rules.specs.Tables.{cell}
use Rattle.rules.specs.Tree.{Tree, Forest, leaf, node, more, layout, layouts}

-- ---- from a row on stand these numbers
pub record Stands (tree : List ℕ) (row : ℕ) (numbers : List ℕ) : Type 0 where
  pub rest : List ℕ
  pub is : drop (row * Limits.tree_width) tree ≡ numbers ++ rest

module _ {tree : List ℕ} {row : ℕ} (a b : List ℕ) (s : Stands tree row (a ++ b)) where
  stands_first : Stands tree row a
  stands_first = record { rest = b ++ s.rest; is = s.is ∙ append_assoc a b s.rest }

  stands_then : (count : ℕ) → length a ≡ count * Limits.tree_width → Stands tree (row + count) b
  stands_then count long =
      let from = row * Limits.tree_width in
      let on : (row + count) * Limits.tree_width ≡ from + length a = omega arith in
      let here = s.is ∙ append_assoc a b s.rest in
      record {
        rest = s.rest;
        is = rw on (sym (drop-drop (length a) from tree) ∙ ap (drop (length a)) here ∙ drop-append_seam a (b ++ s.rest));
      }

-- one row
module _ {tree : List ℕ} {row tag kind from size token : ℕ} (s : Stands tree row (tag ∷ kind ∷ from ∷ size ∷ token ∷ [])) where
  there : row < row_count tree
  there = omega (arith, ap length s.is, length-drop (row * Limits.tree_width) tree)

  pub number : (column : ℕ) → cell Limits.tree_width tree row column ≡ get_or (tag ∷ kind ∷ from ∷ size ∷ token ∷ s.rest) column 0
  number column = sym (get_or-drop (row * Limits.tree_width) tree column 0) ∙ ap (λ (l : List ℕ). get_or l column 0) s.is

  pub tag_there : tag ≡ tag_at tree row
  tag_there = sym (number 0)

-- ---- how many rows a tree takes
unfoldable mutual
  pub size : Tree → ℕ
  size (leaf l) = 1
  size (node kind from to children) = 1 + sizes children + 1

  pub sizes : Forest → ℕ
  sizes Forest.none = 0
  sizes (more child rest) = size child + sizes rest

-- a tree takes one at least
some_rows : (t : Tree) → 0 < size t
unfolding size
some_rows (leaf l) = omega arith
some_rows (node kind from to children) = omega arith

mutual
  unfolding layout layouts size sizes

  pub length_layout : (t : Tree) → length (layout t) ≡ size t * Limits.tree_width
  length_layout (leaf l) = refl
  length_layout (node kind from to children) =
      let inside = length_layouts children in
      simp length-append (omega arith)

  length_layouts : (f : Forest) → length (layouts f) ≡ sizes f * Limits.tree_width
  length_layouts Forest.none = refl
  length_layouts (more child rest) =
      let first = length_layout child in
      let others = length_layouts rest in
      simp length-append (omega arith)

-- ---- the rows of a node: its start, its children, its finish
pub record Node (tree : List ℕ) (at kind from to : ℕ) (children : Forest) : Type 0 where
  pub start : Stands tree at (with_token from (start_row kind))
  pub inside : Stands tree (at + 1) (layouts children)
  pub finish : Stands tree (at + 1 + sizes children) (with_token to (finish_row kind))

pub node_rows : {tree : List ℕ} {at : ℕ} (kind from to : ℕ) (children : Forest)
    → Stands tree at (layout (node kind from to children))
    → Node tree at kind from to children
unfolding layout
node_rows kind from to children s =
    let first = with_token from (start_row kind) in
    let last = with_token to (finish_row kind) in
    let behind = stands_then first (layouts children ++ last) s 1 refl in
    record {
      start = stands_first first (layouts children ++ last) s;
      inside = stands_first (layouts children) last behind;
      finish = stands_then (layouts children) last behind (sizes children) (length_layouts children);
    }

-- the rows of a first child and of those behind it
pub record Split (tree : List ℕ) (at : ℕ) (child : Tree) (rest : Forest) : Type 0 where
  pub first : Stands tree at (layout child)
  pub others : Stands tree (at + size child) (layouts rest)

pub split : {tree : List ℕ} {at : ℕ} (child : Tree) (rest : Forest) → Stands tree at (layouts (more child rest)) → Split tree at child rest
unfolding layouts
split child rest s =
    record {
      first = stands_first (layout child) (layouts rest) s;
      others = stands_then (layout child) (layouts rest) s (size child) (length_layout child);
    }

-- ---- the matching finish: the rows of whole trees are passed, and what is open stays open
module _ (tree : List ℕ) where
  pass_row : {at tag kind from long token : ℕ} (deep : ℕ)
      → Stands tree at (tag ∷ kind ∷ from ∷ long ∷ token ∷ [])
      → tag ≤ tag_finish
      → (open_after tag deep ≡ 0 → ⊥)
      → balance tree (row_count tree - at) at deep ≡ balance tree (row_count tree - (at + 1)) (at + 1) (open_after tag deep)
  pass_row {at} deep s = balance-on tree (row_count tree) at deep (tag_there s) (there s)

  mutual
    unfolding layout layouts size sizes open_after

    pass_tree : (t : Tree) (at deep : ℕ) → Stands tree at (layout t) → 0 < deep
        → balance tree (row_count tree - at) at deep ≡ balance tree (row_count tree - (at + size t)) (at + size t) deep
    pass_tree (leaf l) at deep s deeper = pass_row deep s (omega arith) (omega arith)
    pass_tree (node kind from to children) at deep s deeper =
        let rows = node_rows kind from to children s in
        let back : deep + 1 - 1 ≡ deep = omega arith in
        let here : at + 1 + sizes children + 1 ≡ at + (1 + sizes children + 1) = omega arith in
        pass_row deep rows.start (omega arith) (omega arith)
        ∙ pass_forest children (at + 1) (deep + 1) rows.inside (omega arith)
        ∙ pass_row (deep + 1) rows.finish (omega arith) (omega arith)
        ∙ rw (back, here)

    pass_forest : (f : Forest) (at deep : ℕ) → Stands tree at (layouts f) → 0 < deep
        → balance tree (row_count tree - at) at deep ≡ balance tree (row_count tree - (at + sizes f)) (at + sizes f) deep
    pass_forest Forest.none at deep s deeper = rw add-zero
    pass_forest (more child rest) at deep s deeper =
        let parts = split child rest s in
        pass_tree child at deep parts.first deeper ∙ pass_forest rest (at + size child) deep parts.others deeper ∙ rw add_assoc

  -- what a leaf's row says
  leaf-found : {at : ℕ} (l : builder.Leaf) → Stands tree at (row_of l) → leaf_at tree (some at) ≡ of_leaf l
  unfolding tagged range_at
  leaf-found {at} l s = rw (lt-ltb at (row_count tree) (there s), number s 0, number s 1, number s 2, number s 3)

  -- ---- the first token: up to a row that is not before the end of the first child
  module _ (to : ℕ) where
    mutual
      unfolding layout layouts size sizes first_leaf first_of

      first-tree : (t : Tree) (at : ℕ) → Stands tree at (layout t) → at + size t ≤ to → leaf_at tree (first_from tree (to - at) at) ≡ first_leaf t
      first-tree (leaf l) at s fits =
          ap (leaf_at tree) (first_next tree to at (tag_there s) (omega arith)) ∙ leaf-found l s
      first-tree (node kind from place children) at s fits =
          let rows = node_rows kind from place children s in
          ap (leaf_at tree) (first_next tree to at (tag_there rows.start) (omega arith))
          ∙ first-inside children (at + 1) rows.inside rows.finish (omega arith)

      first-inside : (f : Forest) (at : ℕ) {kind place : ℕ}
          → Stands tree at (layouts f)
          → Stands tree (at + sizes f) (with_token place (finish_row kind))
          → at + sizes f < to
          → leaf_at tree (first_from tree (to - at) at) ≡ first_of f
      first-inside Forest.none at s end fits = ap (leaf_at tree) (first_next tree to at (tag_there (rw add-zero at end)) (omega arith))
      first-inside (more child rest) at s end fits = first-tree child at (split child rest s).first (omega arith)

  -- ---- the last token: what comes before these rows counts where they hold none
  mutual
    unfolding layout layouts size sizes last_leaf last_of

    last_tree : (t : Tree) (at : ℕ) → Stands tree at (layout t) → leaf_at tree (last_before tree (at + size t)) ≡ last_leaf t
    last_tree (leaf l) at s = ap (leaf_at tree) (last_step tree at (tag_there s)) ∙ leaf-found l s
    last_tree (node kind from to children) at s =
        let rows = node_rows kind from to children s in
        let here : at + (1 + sizes children + 1) ≡ at + 1 + sizes children + 1 = omega arith in
        ap (λ (end : ℕ). leaf_at tree (last_before tree end)) here
        ∙ ap (leaf_at tree) (last_step tree (at + 1 + sizes children) (tag_there rows.finish))
        ∙ last_forest children (at + 1) rows.inside
        ∙ ap (λ (o : Option ℕ). last_of children (leaf_at tree o)) (last_step tree at (tag_there rows.start))

    last_forest : (f : Forest) (at : ℕ) → Stands tree at (layouts f)
        → leaf_at tree (last_before tree (at + sizes f)) ≡ last_of f (leaf_at tree (last_before tree at))
    last_forest Forest.none at s = rw add-zero
    last_forest (more child rest) at s =
        let parts = split child rest s in
        let here : at + (size child + sizes rest) ≡ at + size child + sizes rest = omega arith in
        ap (λ (end : ℕ). leaf_at tree (last_before tree end)) here
        ∙ last_forest rest (at + size child) parts.others
        ∙ ap (last_of rest) (last_tree child at parts.first)

  -- ---- a child's own leaf: its first row and its last are the leaf where it is one, and where it is a node they are none
  no_leaf : {at tag kind from long token : ℕ}
      → Stands tree at (tag ∷ kind ∷ from ∷ long ∷ token ∷ [])
      → (tag ≡ tag_leaf → ⊥)
      → leaf_at tree (some at) ≡ none
  unfolding tagged
  no_leaf {at} {tag} s other = rw (number s 0, ne_eqb tag tag_leaf other, and-false)

  child_first : (t : Tree) (at : ℕ) → Stands tree at (layout t) → leaf_at tree (some at) ≡ child_leaf t
  unfolding layout
  child_first (leaf l) at s = leaf-found l s
  child_first (node kind from to children) at s = no_leaf (node_rows kind from to children s).start (omega arith)

  child_last : (t : Tree) (at : ℕ) → Stands tree at (layout t) → leaf_at tree (some (at + size t - 1)) ≡ child_leaf t
  unfolding layout size
  child_last (leaf l) at s =
      let here : at + 1 - 1 ≡ at = omega arith in
      rw here (leaf-found l s)
  child_last (node kind from to children) at s =
      let here : at + (1 + sizes children + 1) - 1 ≡ at + 1 + sizes children = omega arith in
      rw here (no_leaf (node_rows kind from to children s).finish (omega arith))

  -- the last row of children is the last child's
  children_last : (child : Tree) (rest : Forest) (at : ℕ) (before : Option Leaf) → Stands tree at (layouts (more child rest))
      → leaf_at tree (some (at + sizes (more child rest) - 1)) ≡ last_child (more child rest) before
  unfolding sizes last_child
  children_last child Forest.none at before s = rw add-zero (child_last child at (split child Forest.none s).first)
  children_last child (more next rest) at before s =
      let others = (split child (more next rest) s).others in
      let here : at + (size child + sizes (more next rest)) ≡ at + size child + sizes (more next rest) = omega arith in
      rw here (children_last next rest (at + size child) (child_leaf child) others)

  -- the first row inside is the first child's, and the last row the last's. Two children have two rows at least; a child alone has one row, or is a
  -- node, whose first row is no leaf
  whole-inside : (text : List ℕ) (row from to : ℕ) (f : Forest)
      → Stands tree (row + 1) (layouts f)
      → whole_in text tree row (some (row + 1 + sizes f)) ≡ whole text (node ItemFormula from to f)
  unfolding whole_in size sizes last_child
  whole-inside text row from to Forest.none s = rw (le-ltb (row + 1) (row + 1 + 0 - 1) (omega arith))
  whole-inside text row from to (more (leaf l) Forest.none) s =
      rw (le-ltb (row + 1) (row + 1 + (1 + 0) - 1) (omega arith), no_last text (of_leaf l))
  whole-inside text row from to (more (node kind begun ended children) Forest.none) s =
      let child = node kind begun ended children in
      rw (child_first child (row + 1) (split child Forest.none s).first, no_first text, and-false) (sym (no_first text none))
  whole-inside text row from to (more child (more next rest)) s =
      let last = row + 1 + sizes (more child (more next rest)) - 1 in
      let two : row + 1 < last = omega (arith, some_rows child, some_rows next) in
      let first-is = child_first child (row + 1) (split child (more next rest) s).first in
      let last_is = children_last child (more next rest) (row + 1) none s in
      rw (lt-ltb (row + 1) last two) (ap₂ (matched text) first-is last_is)

-- ---- a formula's tokens, by the rows, are those that rowan has of its node
pub record Tokens (tree : List ℕ) (row : ℕ) (t : Tree) : Type 0 where
  pub first : leaf_at tree (first_token tree row) ≡ first_leaf t
  pub last : leaf_at tree (last_token tree row) ≡ last_leaf t

module _ (tree : List ℕ) (row from to : ℕ) (children : Forest) (s : Stands tree row (layout (node ItemFormula from to children))) where
  rows : Node tree row ItemFormula from to children
  rows = node_rows ItemFormula from to children s

  formula-is : formula tree row ≡ some (row + 1 + sizes children)
  unfolding formula tagged open_after
  formula-is =
      rw (lt-ltb row (row_count tree) (there rows.start), number rows.start 0, number rows.start 1)
      (pass_forest tree children (row + 1) 1 rows.inside (omega arith)
      ∙ balance-here tree (row_count tree) (row + 1 + sizes children) 1 (tag_there rows.finish) (there rows.finish) (omega arith) refl)

  first-all : (f : Forest) (at : ℕ) → Stands tree at (layouts f) → leaf_at tree (first_from tree (at + sizes f - at) at) ≡ first_of f
  unfolding sizes first_of
  first-all Forest.none at inside = ap (leaf_at tree) (first-end tree (at + 0) at (omega arith))
  first-all (more child rest) at inside = first-tree tree (at + sizes (more child rest)) child at (split child rest inside).first (omega arith)

  tokens : Tokens tree row (node ItemFormula from to children)
  unfolding first_token last_token first_leaf last_leaf
  tokens =
      record {
        first = rw formula-is (first-all children (row + 1) rows.inside);
        last =
            rw formula-is
            (last_forest tree children (row + 1) rows.inside
            ∙ ap (λ (o : Option ℕ). last_of children (leaf_at tree o)) (last_step tree row (tag_there rows.start)));
      }

  whole_is : (text : List ℕ) → is_whole text tree row ≡ whole text (node ItemFormula from to children)
  whole_is text = ap (whole_in text tree row) formula-is ∙ whole-inside tree text row from to children rows.inside

-- the answers, by the row, are those that the source and 02 have of the node
pub record Answers (text tree : List ℕ) (row : ℕ) (t : Tree) : Type 0 where
  pub display : is_display text tree row ≡ display text (first_leaf t)
  pub inline : is_inline text tree row ≡ inline text (first_leaf t)
  pub valid : is_valid text tree row ≡ matched text (first_leaf t) (last_leaf t)
  pub whole : is_whole text tree row ≡ whole text t

-- where the node's rows stand
pub answers : (text tree : List ℕ) (row from to : ℕ) (children : Forest)
    → Stands tree row (layout (node ItemFormula from to children))
    → Answers text tree row (node ItemFormula from to children)
answers text tree row from to children stands =
    let found = tokens tree row from to children stands in
    record {
      display = ap (display text) found.first;
      inline = ap (inline text) found.first;
      valid = ap₂ (matched text) found.first found.last;
      whole = whole_is tree row from to children stands text;
    }

-- in rows that hold the node's, whatever stands before and behind
pub on_trees : (text before after : List ℕ) (row from to : ℕ) (children : Forest)
    → length before ≡ row * Limits.tree_width
    → Answers text (before ++ (layout (node ItemFormula from to children) ++ after)) row (node ItemFormula from to children)
on_trees text before after row from to children long =
    let rows = layout (node ItemFormula from to children) in
    let tree = before ++ (rows ++ after) in
    let is = ap (λ (k : ℕ). drop k tree) (sym long) ∙ drop-append_seam before (rows ++ after) in
    answers text tree row from to children (record { rest = after; is = is })
