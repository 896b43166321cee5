-- What the rows of a tree tell: without their fifth numbers they are the base's rows of the tree, and with them the tree. Assumes nothing.
use Prim.Native.Nat.{ℕ, ◌+◌, ◌*◌}
use mathlib.Core.Path.{◌≡◌, refl, sym, ap, ap₂, ◌∙◌}
use mathlib.Core.List.{List, [], ◌∷◌, ◌++◌, map, append_assoc, append-nil, map-append}
use native.Mathlib.Omega.{arith}
use lib.ListN.{length, take, drop, length-append, take-append-drop}
use Rattle.rules.specs.Flat.{tag_start, tag_leaf, tag_finish, finish_row, with_token, four}
use Rattle.rules.specs.Limits.{tree_width}
use Rattle.rules.specs.PutBack.{rows_of, tree_rows}
use Rattle.rules.specs.Tree.{Tree, Forest, leaf, node, none, more, layout, layouts, base_rows, base_rows_all}
use Rattle.rules.proofs.HandedRows.{rows_append, rows_front}

-- ---- the first four numbers

-- so many whole rows, of which the first four numbers are these
record Fours (rows : List ℕ) (base : List (List ℕ)) : Type 0 where
  count : ℕ
  long : length rows ≡ count * tree_width
  are : map four (rows_of tree_width count rows) ≡ base

one : (a b c d token : ℕ) → Fours (a ∷ b ∷ c ∷ d ∷ token ∷ []) ((a ∷ b ∷ c ∷ d ∷ []) ∷ [])
one a b c d token = record { count = 1; long = refl; are = refl }

-- rows and then others
both : {r s : List ℕ} {b c : List (List ℕ)} → Fours r b → Fours s c → Fours (r ++ s) (b ++ c)
both {r} {s} h k =
    let first = h.long in
    let second = k.long in
    let long = length-append r s in
    let parts = ap (map four) (rows_append tree_width h.count k.count r s first) in
    let apart = map-append four (rows_of tree_width h.count r) (rows_of tree_width k.count s) in
    record {
      count = h.count + k.count;
      long = omega arith;
      are = parts ∙ apart ∙ ap₂ (λ (x y : List (List ℕ)). x ++ y) h.are k.are;
    }

mutual
  unfolding layout base_rows

  tree_fours : (t : Tree) → Fours (layout t) (base_rows t)
  tree_fours (leaf l) = one tag_leaf l.kind l.start l.size l.token
  tree_fours (node kind from to children) = both (one tag_start kind 0 0 from) (both (forest-fours children) (one tag_finish kind 0 0 to))

  forest-fours : (ts : Forest) → Fours (layouts ts) (base_rows_all ts)
  forest-fours none = record { count = 0; long = refl; are = refl }
  forest-fours (more t rest) = both (tree_fours t) (forest-fours rest)

-- a buffer that begins with a tree's rows
pub fours : (t : Tree) (rows : ℕ) (buffer : List ℕ)
    → rows * tree_width ≡ length (layout t)
    → take (rows * tree_width) buffer ≡ layout t
    → map four (tree_rows rows buffer) ≡ base_rows t
fours t rows buffer size begins =
    let of = tree_fours t in
    let long = of.long in
    let count : of.count ≡ rows = omega arith in
    let rest = drop (rows * tree_width) buffer in
    let whole : buffer ≡ layout t ++ rest = sym (take-append-drop (rows * tree_width) buffer) ∙ ap (λ (l : List ℕ). l ++ rest) begins in
    ap (λ (l : List ℕ). map four (rows_of tree_width rows l)) whole
    ∙ ap (map four) (rows_front tree_width rows (layout t) rest (sym size))
    ∙ ap (λ (n : ℕ). map four (rows_of tree_width n (layout t))) (sym count)
    ∙ of.are

-- ---- all five

-- two rows and what stands behind them
record SameRow (a b c d e a' b' c' d' e' : ℕ) (r s : List ℕ) : Type 0 where
  tag : a ≡ a'
  kind : b ≡ b'
  start : c ≡ c'
  size : d ≡ d'
  token : e ≡ e'
  behind : r ≡ s

same_row : {a b c d e a' b' c' d' e' : ℕ} {r s : List ℕ}
    → a ∷ b ∷ c ∷ d ∷ e ∷ r ≡ a' ∷ b' ∷ c' ∷ d' ∷ e' ∷ s
    → SameRow a b c d e a' b' c' d' e' r s
same_row e = record { tag = cc; kind = cc; start = cc; size = cc; token = cc; behind = cc }

mutual
  unfolding layout

  -- rows that begin with those of a tree, each its own
  tells : (t u : Tree) (r s : List ℕ) → layout t ++ r ≡ layout u ++ s → (t ≡ u) × (r ≡ s)
  tells (leaf l) (leaf m) r s e =
      let row = same_row e in
      (rw (row.kind, row.start, row.size, row.token), row.behind)
  tells (leaf l) (node kind from to children) r s e = let row = same_row e in absurd (omega arith)
  tells (node kind from to children) (leaf l) r s e = let row = same_row e in absurd (omega arith)
  tells (node kind from to ts) (node kind' from' to' us) r s e =
      let row = same_row e in
      let apart = sym (append_assoc (layouts ts) _ r) ∙ row.behind ∙ append_assoc (layouts us) _ s in
      let inside = all_tell ts us kind to kind' to' r s apart in
      (rw (row.kind, row.token, inside.0, inside.1), inside.2)

  -- those of a node's children, up to its finish row
  all_tell : (ts us : Forest) (kind to kind' to' : ℕ) (r s : List ℕ)
      → layouts ts ++ (with_token to (finish_row kind) ++ r) ≡ layouts us ++ (with_token to' (finish_row kind') ++ s)
      → (ts ≡ us) × (to ≡ to') × (r ≡ s)
  all_tell none none kind to kind' to' r s e = let row = same_row e in (refl, row.token, row.behind)
  all_tell none (more (leaf l) us) kind to kind' to' r s e = let row = same_row e in absurd (omega arith)
  all_tell none (more (node k f t vs) us) kind to kind' to' r s e = let row = same_row e in absurd (omega arith)
  all_tell (more (leaf l) ts) none kind to kind' to' r s e = let row = same_row e in absurd (omega arith)
  all_tell (more (node k f t vs) ts) none kind to kind' to' r s e = let row = same_row e in absurd (omega arith)
  all_tell (more t ts) (more u us) kind to kind' to' r s e =
      let first = tells t u _ _ (sym (append_assoc (layout t) (layouts ts) _) ∙ e ∙ append_assoc (layout u) (layouts us) _) in
      let rest = all_tell ts us kind to kind' to' r s first.1 in
      (rw (first.0, rest.0), rest.1, rest.2)

pub layout_tells : (t u : Tree) → layout t ≡ layout u → t ≡ u
layout_tells t u e = (tells t u [] [] (append-nil (layout t) ∙ e ∙ sym (append-nil (layout u)))).0
