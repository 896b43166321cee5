-- What the fifth number says. A leaf's is its token: where each token is a leaf, the parts of a split Word or one dropped row, every leaf lies inside
-- the range of the token that it names. Any other row's is the place that the same step is refused at where there is no room. Assumes nothing.
use Prim.Native.Nat.{ℕ, zero, suc, ◌+◌, ◌*◌, ◌/◌, ◌≤◌, ◌<◌}
use mathlib.Core.Path.{◌≡◌, refl, sym, ap, ◌∙◌}
use mathlib.Core.Bool.{true}
use mathlib.Core.List.{List, [], ◌∷◌, ◌++◌, append-nil}
use native.Mathlib.Omega.{arith}
use native.Mathlib.Nat.{le_refl, zero-add}
use lib.Dec.{eqb}
use lib.ListN.{get_or, take, drop, take-append-drop}
use lib.Seq.{get_or-take, get_or-drop}
use borrow.Author.Tests.{eq-eqb}
use Rattle.rules.specs.Flat.{Rows, Mark, Frame, tag_leaf, with_token, start_row, finish_row, start_at_row, started, start, finished, finish, started_at, start_at, Built, on_tree, flat, empty}
use Rattle.rules.specs.Limits.{tree_width}
use Rattle.rules.specs.Outcome.{Out, went, refused, bind, no_room}
use Rattle.rules.specs.Position as position
use Rattle.rules.specs.Position.{Pos, with_built}
use Rattle.rules.specs.PutBack.{rows_of, Stretch, leaves, Parts, last, more, EachToken, end, leaf, split, drops, stretch_at, InToken}
use Rattle.rules.specs.Questions.{tag_at}
use Rattle.rules.specs.Tables.{cell, token_count, start_at as token_start, length_at}
use Rattle.rules.proofs.Characters.{either}
use Rattle.rules.proofs.Flat.{start-full, start-went, finish-full, finish-went, at-full, at-went}

-- ---- leaves

data Every (P : Stretch → Type 0) : List Stretch → Type 0 where
  none : Every P []
  ◌also◌ : {l : Stretch} {ls : List Stretch} → P l → Every P ls → Every P (l ∷ ls)

infixr 20 ◌also◌
module _ {P : Stretch → Type 0} where
  head_of : {l : Stretch} {ls : List Stretch} → Every P (l ∷ ls) → P l
  head_of (p also rest) = p

  tail_of : {l : Stretch} {ls : List Stretch} → Every P (l ∷ ls) → Every P ls
  tail_of (p also rest) = rest

  every_append : {xs ys : List Stretch} → Every P xs → Every P ys → Every P (xs ++ ys)
  every_append none those = those
  every_append (p also these) those = p also every_append these those

module _ (tokens : List ℕ) where
  -- the parts of a token's range, or of its end, lie inside it
  parts_inside : {token start size : ℕ} {parts : List Stretch}
      → token < token_count tokens
      → token_start tokens token ≤ start
      → start + size ≤ token_start tokens token + length_at tokens token
      → Parts token start size parts
      → Every (InToken tokens) parts
  parts_inside there low high (last some) = record { there = there; low = low; high = high } also none
  parts_inside {token} there low high (more {start} {size} some rest) =
      let ends : start + size ≤ token_start tokens token + length_at tokens token = omega arith in
      record { there = there; low = low; high = ends } also parts_inside there (omega arith) (omega arith) rest

  all_inside : {i k : ℕ} {ls : List Stretch} {dropped : List (List ℕ)} → EachToken tokens i k ls dropped → Every (InToken tokens) ls
  all_inside (end e) = none
  all_inside (leaf there rest) = record { there = there; low = le_refl _; high = le_refl _ } also all_inside rest
  all_inside (split there word parts rest) = every_append (parts_inside there (le_refl _) (le_refl _) parts) (all_inside rest)
  all_inside (drops there rest) = all_inside rest

-- a row's numbers are those of the list of rows
first_cell : (tree : List ℕ) (column : ℕ) → column < tree_width → get_or (take tree_width tree) column 0 ≡ cell tree_width tree 0 column
first_cell tree column low = rw (zero-add column) (get_or-take tree_width tree column 0 low)

later_cell : (tree : List ℕ) (row column : ℕ) → cell tree_width (drop tree_width tree) row column ≡ cell tree_width tree (suc row) column
later_cell tree row column =
    let on : tree_width + (row * tree_width + column) ≡ suc row * tree_width + column = omega arith in
    get_or-drop tree_width tree (row * tree_width + column) 0 ∙ ap (λ (i : ℕ). get_or tree i 0) on

-- what holds of all leaves of so many rows holds of each row that is one
every_row : {P : Stretch → Type 0} (rows : ℕ) (tree : List ℕ) (row : ℕ)
    → Every P (leaves (rows_of tree_width rows tree))
    → row < rows
    → tag_at tree row ≡ tag_leaf
    → P (stretch_at tree row)
every_row zero tree row all low is = absurd (omega arith)
every_row (suc rows) tree zero all low is =
    let leafs : eqb (get_or (take tree_width tree) 0 0) tag_leaf ≡ true = eq-eqb _ _ (first_cell tree 0 (omega arith) ∙ is) in
    rw (first_cell tree 2 (omega arith), first_cell tree 3 (omega arith), first_cell tree 4 (omega arith)) at (head_of (rw leafs at all))
every_row {P} (suc rows) tree (suc row) all low is =
    let others : Every P (leaves (rows_of tree_width rows (drop tree_width tree))) =
    either (eqb (get_or (take tree_width tree) 0 0) tag_leaf) (λ e. tail_of (rw e at all)) (λ e. rw e at all) in
    rw (later_cell tree row 2, later_cell tree row 3, later_cell tree row 4)
    at (every_row rows (drop tree_width tree) row others (omega arith) (later_cell tree row 0 ∙ is))

-- each leaf of so many rows lies inside its token's range
pub leaf-inside : {tokens : List ℕ} {i k : ℕ} {dropped : List (List ℕ)} (rows : ℕ) (tree : List ℕ)
    → EachToken tokens i k (leaves (rows_of tree_width rows tree)) dropped
    → (row : ℕ)
    → row < rows
    → tag_at tree row ≡ tag_leaf
    → InToken tokens (stretch_at tree row)
leaf-inside {tokens} rows tree each row low is = every_row rows tree row (all_inside tokens each) low is

-- ---- other rows

-- an operation put a row with this fifth number into the rows; where they fill the buffer, it is refused 8 at that place
record Stepped (place : ℕ) (step : ℕ → Out Rows) (row : List ℕ) (b x : Rows) : Type 0 where
  front : List ℕ
  back : List ℕ
  was : b.tree ≡ front ++ back
  made : x.tree ≡ front ++ (with_token place row ++ back)
  full : (room : ℕ) → room / tree_width ≤ b.rows → step room ≡ refused no_room place

-- of an operation that went with some room
module _ (room place kind : ℕ) (b x : Rows) where
  start-place : start room place kind b ≡ went x → Stepped place (λ n. start n place kind b) (start_row kind) b x
  unfolding started
  start-place e =
      let told = start-went room place b x kind e in
      record {
        front = b.tree;
        back = [];
        was = sym (append-nil b.tree);
        made = ap (λ (y : Rows). y.tree) (sym told.2);
        full = λ n full. start-full n place b full kind told.0;
      }

  finish-place : (f : Frame) → finish room place kind f b ≡ went x → Stepped place (λ n. finish n place kind f b) (finish_row kind) b x
  unfolding finished
  finish-place f e =
      let told = finish-went room place b x kind f e in
      record {
        front = b.tree;
        back = [];
        was = sym (append-nil b.tree);
        made = ap (λ (y : Rows). y.tree) (sym told.1);
        full = λ n full. finish-full n place b full kind f;
      }

  start_at_place : (m : Mark) → start_at room place kind m b ≡ went x → Stepped place (λ n. start_at n place kind m b) (start_row kind) b x
  unfolding started_at
  start_at_place m e =
      let told = at-went room place b x kind m e in
      let at = start_at_row m b * tree_width in
      record {
        front = take at b.tree;
        back = drop at b.tree;
        was = sym (take-append-drop at b.tree);
        made = ap (λ (y : Rows). y.tree) (sym told.3);
        full = λ n full. at-full n place kind m b told.0 told.1 full;
      }

-- ---- the steps of the reading rules

-- a position of the flat builder, whatever the room
abbrev Here : Type 0
Here = Pos Built Mark

-- the rows where a run stands, and none where it was refused
abbrev tree_of : Out Here → Rows
tree_of (went q) = q.built.tree
tree_of (refused number at) = empty.tree

-- an operation of the rows, at a position
abbrev at_rows : Here → Out Rows → Out Here
at_rows p o = bind (on_tree p.built o) (λ b. went (with_built (flat 0) p b))

rows_went : (p q : Here) (o : Out Rows) → at_rows p o ≡ went q → o ≡ went q.built.tree
rows_went p q (went x) e = ap (λ (y : Rows). went y) (ap tree_of e)
rows_went p q (refused number at) e = let z : ◌≡◌ {A = ℕ} 0 1 = cc in absurd (omega arith)

-- a step of the rules made a row, whose fifth number is the position's place; where the rows fill the buffer, the same step is refused 8 at that
-- place
pub record Made (step : ℕ → Out Here) (row : List ℕ) (p q : Here) : Type 0 where
  pub front : List ℕ
  pub back : List ℕ
  pub was : p.built.tree.tree ≡ front ++ back
  pub made : q.built.tree.tree ≡ front ++ (with_token p.lexer.token row ++ back)
  pub full : (room : ℕ) → room / tree_width ≤ p.built.tree.rows → step room ≡ refused no_room p.lexer.token

made_by : (p q : Here) (step : ℕ → Out Rows) {row : List ℕ} → Stepped p.lexer.token step row p.built.tree q.built.tree
    → Made (λ n. at_rows p (step n)) row p q
made_by p q step s = record { front = s.front; back = s.back; was = s.was; made = s.made; full = λ n h. rw (s.full n h) }

module _ (room kind : ℕ) (p q : Here) where
  abbrev place : ℕ
  place = p.lexer.token

  abbrev rows : Rows
  rows = p.built.tree

  pub start-made : position.start (flat room) kind p ≡ went q → Made (λ n. position.start (flat n) kind p) (start_row kind) p q
  start-made e =
      let rule : ℕ → Out Rows = λ n. start n place kind rows in
      made_by p q rule (start-place room place kind rows q.built.tree (rows_went p q (rule room) e))

  pub start_at_made : (m : Mark) → position.start_at (flat room) kind m p ≡ went q
      → Made (λ n. position.start_at (flat n) kind m p) (start_row kind) p q
  start_at_made m e =
      let rule : ℕ → Out Rows = λ n. start_at n place kind m rows in
      made_by p q rule (start_at_place room place kind rows q.built.tree m (rows_went p q (rule room) e))

  pub finish-made : (f : Frame) → position.finish (flat room) kind f p ≡ went q → Made (λ n. position.finish (flat n) kind f p) (finish_row kind) p q
  finish-made f e =
      let rule : ℕ → Out Rows = λ n. finish n place kind f rows in
      made_by p q rule (finish-place room place kind rows q.built.tree f (rows_went p q (rule room) e))
