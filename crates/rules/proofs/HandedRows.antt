-- The flat builder's leaf rows and dropped rows are what it was handed, in order: rows are only added behind others, or, at a wrap, start rows put in
-- between. Assumes nothing.
use Prim.Native.Nat.{ℕ, zero, suc, ◌+◌, ◌*◌, ◌-◌, ◌/◌, ◌≤◌}
use mathlib.Core.Path.{◌≡◌, refl, sym, ap, ap₂, ◌∙◌}
use mathlib.Core.List.{List, [], ◌∷◌, ◌++◌, append-nil}
use native.Mathlib.Omega.{arith}
use native.Mathlib.Nat.{add-zero, zero-add, suc-add, zero-mul, suc-mul}
use lib.Dec.{eqb, leb, ltb}
use lib.ListN.{length, get_or, take, drop, length-append, length-drop, take-append-drop, drop_of_length-le}
use lib.Seq.{take-append-le, drop-append-le, length-take-le, take_all}
use borrow.Author.Tests.{leb-true, leb-false}
use Rattle.rules.specs.Builder.{Leaf}
use Rattle.rules.specs.Cursor.{Cursor, at_start, eaten}
use Rattle.rules.specs.Flat
use Rattle.rules.specs.Flat.{Rows, Mark, Frame, Built, with_token, start_row, finish_row, row_of, dropped_row, insert, on_tree, flat, empty}
use Rattle.rules.specs.Limits.{tree_width, dropped_width, nodes}
use Rattle.rules.specs.Outcome.{Out, went, mark_before_node, too_many_open, no_room}
use Rattle.rules.specs.Position.{Source}
use Rattle.rules.specs.PutBack.{rows_of, Stretch, leaves}
use Rattle.rules.specs.Reading.{parse}
use Rattle.rules.specs.Tables.{token_count}
use Rattle.rules.proofs.Characters.{either}
use Rattle.rules.proofs.Goes.{Goes, goes, stopped, Takes, cond_goes}
use Rattle.rules.proofs.Handed.{leaf_at, Handed}
use Rattle.rules.proofs.HandedItems.{parse-reads}
use Rattle.rules.proofs.Reached.{Leaves, Dropped, before, Sound, There, Reached, nothing, takes_rest, takes_part, drops_it}

-- ---- rows of a list of numbers

module _ (width : ℕ) where
  -- rows and then others
  pub rows_append : (n m : ℕ) (xs ys : List ℕ) → length xs ≡ n * width → rows_of width (n + m) (xs ++ ys) ≡ rows_of width n xs ++ rows_of width m ys
  rows_append zero m [] ys long = rw (zero-add m)
  rows_append zero m (x ∷ xs) ys long = let none = zero-mul width in absurd (omega arith)
  rows_append (suc n) m xs ys long =
      let one = suc-mul n width in
      let enough : width ≤ length xs = omega arith in
      let less = length-drop width xs in
      rw (suc-add n m, take-append-le width xs ys enough, drop-append-le width xs ys enough)
      (ap (λ (l : List (List ℕ)). take width xs ∷ l) (rows_append n m (drop width xs) ys (omega arith)))

  -- what stands behind the rows is no part of them
  pub rows_front : (n : ℕ) (xs ys : List ℕ) → length xs ≡ n * width → rows_of width n (xs ++ ys) ≡ rows_of width n xs
  rows_front n xs ys long = rw (add-zero n, append-nil (rows_of width n xs)) at (rows_append n 0 xs ys long)

leaves-append : (xs ys : List (List ℕ)) → leaves (xs ++ ys) ≡ leaves xs ++ leaves ys
leaves-append [] ys = refl
leaves-append (row ∷ xs) ys =
    either (eqb (get_or row 0 0) Flat.tag_leaf) (λ e. rw (e, leaves-append xs ys)) (λ e. rw (e, leaves-append xs ys))

-- the leaves of a tree's rows
abbrev pub leaves_in : ℕ → List ℕ → Leaves
leaves_in rows tree = leaves (rows_of tree_width rows tree)

leaves-then : (n m : ℕ) (xs ys : List ℕ) → length xs ≡ n * tree_width → leaves_in (n + m) (xs ++ ys) ≡ leaves_in n xs ++ leaves_in m ys
leaves-then n m xs ys long = ap leaves (rows_append tree_width n m xs ys long) ∙ leaves-append (rows_of tree_width n xs) (rows_of tree_width m ys)

-- a start row between others is no leaf
started-between : (place kind a b : ℕ) (xs ys : List ℕ)
    → length xs ≡ a * tree_width
    → length ys ≡ b * tree_width
    → leaves_in (a + b + 1) (xs ++ (with_token place (start_row kind) ++ ys)) ≡ leaves_in (a + b) (xs ++ ys)
started-between place kind a b xs ys long long' =
    let up : a + b + 1 ≡ a + suc b = omega arith in
    rw (up, leaves-then a (suc b) xs (with_token place (start_row kind) ++ ys) long, leaves-then a b xs ys long)

-- so a wrap's start row changes no leaf, wherever it is put in
inserted : (place kind row rows : ℕ) (tree : List ℕ)
    → length tree ≡ rows * tree_width
    → leaves_in (rows + 1) (insert row (with_token place (start_row kind)) tree) ≡ leaves_in rows tree
inserted place kind row rows tree long =
    let x = take (row * tree_width) tree in
    let y = drop (row * tree_width) tree in
    either (leb row rows)
    (λ e.
    let low = leb-true row rows e in
    let left = length-drop (row * tree_width) tree in
    let parts : row + (rows - row) ≡ rows = omega arith in
    let between = started-between place kind row (rows - row) x y (length-take-le (row * tree_width) tree (omega arith)) (omega arith) in
    rw (parts, take-append-drop (row * tree_width) tree) at between)
    (λ e.
    let high = leb-false row rows e in
    let all : x ≡ tree = take_all (row * tree_width) tree (omega arith) in
    let none : y ≡ [] = drop_of_length-le tree {i = row * tree_width} (omega arith) in
    rw (all, none) (rw (add-zero rows, append-nil tree) at (started-between place kind rows 0 tree [] long refl)))

-- ---- the operations

-- what was built has these leaves and these dropped rows
pub record Tied (b : Built) (ls : Leaves) (ds : Dropped) : Type 0 where
  pub size : length b.tree.tree ≡ b.tree.rows * tree_width
  pub leaves : leaves_in b.tree.rows b.tree.tree ≡ ls
  pub count : b.tree.leaves ≡ length ls
  pub long : length b.dropped ≡ length ds * dropped_width
  pub dropped : rows_of dropped_width (length ds) b.dropped ≡ ds

pub record HasRead (source : Source) (c : Cursor) (b : Built) : Type 0 where
  pub ls : Leaves
  pub ds : Dropped
  pub tied : Tied b ls ds
  pub reached : Reached source ls ds c

-- a row stands behind those that there were, with the leaf that it is, if it is one
record Behind (b t : Rows) (row : List ℕ) (leaf : Leaves) : Type 0 where
  rows : t.rows ≡ b.rows + 1
  tree : t.tree ≡ b.tree ++ row
  leaves : t.leaves ≡ b.leaves + length leaf
  long : length row ≡ tree_width
  is : leaves_in 1 row ≡ leaf

behind : (b : Built) (t : Rows) {row : List ℕ} {leaf ls ls' : Leaves} {ds : Dropped}
    → Tied b ls ds
    → Behind b.tree t row leaf
    → ls ++ leaf ≡ ls'
    → Tied (record { tree = t; dropped = b.dropped }) ls' ds
behind b t {row} {leaf} {ls} tied more all =
    let size = tied.size in
    let long = more.long in
    let leaves = more.leaves in
    let longer = length-append b.tree.tree row in
    let counted = length-append ls leaf in
    let count = tied.count in
    record {
      size = rw (more.tree, more.rows) (omega arith);
      leaves =
          rw (more.rows, more.tree) (leaves-then b.tree.rows 1 b.tree.tree row size)
          ∙ ap₂ (λ (x y : Leaves). x ++ y) tied.leaves more.is
          ∙ all;
      count = rw (sym all) (omega arith);
      long = tied.long;
      dropped = tied.dropped;
    }

insert-size : (row : ℕ) (numbers tree : List ℕ) → length (insert row numbers tree) ≡ length numbers + length tree
insert-size row numbers tree =
    let front = take (row * tree_width) tree in
    let back = drop (row * tree_width) tree in
    let parts : length front + length back ≡ length tree =
    sym (length-append front back) ∙ ap (λ (l : List ℕ). length l) (take-append-drop (row * tree_width) tree) in
    let whole = length-append front (numbers ++ back) in
    let rest = length-append numbers back in
    omega arith

-- a leaf as its row tells it
abbrev stretch_from : Leaf → Stretch
stretch_from l = record { start = l.start; size = l.size; token = l.token }

-- ---- tests that let an operation through

on_tree-if : (b : Built) {Q : Built → Type 0} {o : Out Rows} → Goes (λ t. Q (record { tree = t; dropped = b.dropped })) o → Goes Q (on_tree b o)
on_tree-if b (goes q) = goes q
on_tree-if b (stopped number place) = stopped number place

module _ (room : ℕ) (source : Source) where
  -- where there is room, and not too many nodes are open
  roomy : (place : ℕ) (b x : Rows) {Q : Rows → Type 0} → Q x → Goes Q (Flat.or_no_room room place b (went x))
  roomy place b x q = cond_goes (ltb b.rows (room / tree_width)) (λ _. goes {x = x} q) (λ _. stopped no_room place)

  shallow : (place : ℕ) (b : Rows) {Q : Rows → Type 0} {o : Out Rows} → Goes Q o → Goes Q (Flat.or_too_many_open place b o)
  shallow place b h = cond_goes (leb nodes b.depth) (λ _. stopped too_many_open place) (λ _. h)

  -- nothing more is read
  same_read : {b b' : Built} {c : Cursor} (h : HasRead source c b) → Tied b' h.ls h.ds → HasRead source c b'
  same_read h tied = record { ls = h.ls; ds = h.ds; tied = tied; reached = h.reached }

  -- ---- the operations

  -- a row that is no leaf
  no_leaf : (b : Built) (t : Rows) {row : List ℕ} {c : Cursor}
      → HasRead source c b
      → Behind b.tree t row []
      → HasRead source c (record { tree = t; dropped = b.dropped })
  no_leaf b t h more = same_read h (behind b t h.tied more (append-nil h.ls))

  starts : (place kind : ℕ) (c : Cursor) → Takes (HasRead source c) (HasRead source c) ((flat room).start place kind)
  unfolding Flat.start Flat.started
  starts place kind c b h =
      let t = Flat.started place kind b.tree in
      let row = with_token place (start_row kind) in
      let more : Behind b.tree t row [] = record { rows = refl; tree = refl; leaves = sym (add-zero _); long = refl; is = refl } in
      on_tree-if b (shallow place b.tree (roomy place b.tree t (no_leaf b t h more)))

  finishes : (place kind : ℕ) (f : Frame) (c : Cursor) → Takes (HasRead source c) (HasRead source c) ((flat room).finish place kind f)
  unfolding Flat.finish Flat.finished
  finishes place kind f c b h =
      let t = Flat.finished place kind f b.tree in
      let row = with_token place (finish_row kind) in
      let more : Behind b.tree t row [] = record { rows = refl; tree = refl; leaves = sym (add-zero _); long = refl; is = refl } in
      on_tree-if b (roomy place b.tree t (no_leaf b t h more))

  start_ats : (place kind : ℕ) (m : Mark) (c : Cursor) → Takes (HasRead source c) (HasRead source c) ((flat room).start_at place kind m)
  unfolding Flat.start_at Flat.started_at
  start_ats place kind m c b h =
      let row = Flat.start_at_row m b.tree in
      let longer = insert-size row (with_token place (start_row kind)) b.tree.tree in
      let size = h.tied.size in
      on_tree-if b
      (cond_goes (ltb m.children b.tree.first) (λ _. stopped mark_before_node place)
      (λ _. shallow place b.tree (roomy place b.tree (Flat.started_at place kind m b.tree) (same_read h (record {
        size = omega arith;
        leaves = inserted place kind row b.tree.rows b.tree.tree size ∙ h.tied.leaves;
        count = h.tied.count;
        long = h.tied.long;
        dropped = h.tied.dropped;
      })))))

  -- a leaf is the next of the leaves
  leafed : (place : ℕ) (l : Leaf) {b : Built} {c c' : Cursor} (h : HasRead source c b)
      → Reached source (h.ls ++ (stretch_from l ∷ [])) h.ds c'
      → Goes (HasRead source c') ((flat room).leaf place l b)
  unfolding Flat.leaf Flat.leafed
  leafed place l {b} h reached =
      let t = Flat.leafed l b.tree in
      let more : Behind b.tree t (row_of l) (stretch_from l ∷ []) = record { rows = refl; tree = refl; leaves = refl; long = refl; is = refl } in
      on_tree-if b (roomy place b.tree t (record {
        ls = h.ls ++ (stretch_from l ∷ []);
        ds = h.ds;
        tied = behind b t h.tied more refl;
        reached = reached;
      }))

  dropped : (reason : ℕ) (c : Cursor) → There source c → c.taken ≡ 0
      → (b : Built) → HasRead source c b → HasRead source (eaten c) ((flat room).drop c.token reason b)
  dropped reason c there whole b h =
      let row = dropped_row c.token reason (length h.ls) in
      let same : dropped_row c.token reason b.tree.leaves ≡ row = ap (λ (n : ℕ). dropped_row c.token reason n) h.tied.count in
      let count : length (h.ds ++ (row ∷ [])) ≡ length h.ds + 1 = length-append h.ds (row ∷ []) in
      let longer = length-append b.dropped row in
      let long = h.tied.long in
      let rows = rows_append dropped_width (length h.ds) 1 b.dropped row long ∙ ap (λ (x : Dropped). x ++ (row ∷ [])) h.tied.dropped in
      record {
        ls = h.ls;
        ds = h.ds ++ (row ∷ []);
        tied = record {
          size = h.tied.size;
          leaves = h.tied.leaves;
          count = h.tied.count;
          long = rw same (omega arith);
          dropped = rw (same, count) rows;
        };
        reached = drops_it reason h.reached there whole;
      }

  flat-handed : Handed (flat room) source
  flat-handed =
      record {
        Read = HasRead source;
        starts = starts;
        start_ats = start_ats;
        finishes = finishes;
        rests = λ place kind c there stands b h. leafed place (leaf_at source kind _ c) h (takes_rest h.reached there stands);
        parts = λ place kind size c there word some less b h. leafed place (leaf_at source kind _ c) h (takes_part h.reached there word some less);
        drops = dropped;
      }

  empty-read : HasRead source at_start empty
  empty-read = record { ls = []; ds = []; tied = record { size = refl; leaves = refl; count = refl; long = refl; dropped = refl }; reached = nothing }

  -- whatever is read, with whatever room: if the run is accepted, its rows are all tokens
  pub rows_read : Sound source → Goes (λ q. HasRead source (before (token_count source.tokens)) q.built) (parse (flat room) source empty)
  unfolding flat-handed
  rows_read sound = parse-reads flat-handed sound empty empty-read
