-- The flat builder and rowan's stand for each other: the rows are those of the two stacks, counts are equal, and so is which mark stands before which
-- child. So runs are alike: an accepted one's rows are the layout of rowan's one tree, and a refused one is refused alike. Assumes nothing.
use Prim.Native.Nat.{ℕ, suc, ◌+◌, ◌*◌, ◌/◌, ◌≤◌, ◌<◌}
use mathlib.Core.Path.{◌≡◌, refl, sym, ap, ap₂, subst, ◌∙◌}
use mathlib.Core.Bool.{Bool, true, false, cond}
use mathlib.Core.List.{List, [], ◌∷◌, ◌++◌}
use native.Mathlib.Omega.{arith}
use native.Mathlib.Nat.{le_refl, le_trans}
use native.Mathlib.Numerals.{add-one}
use lib.ListN.{length, take, drop, length-append}
use lib.Seq.{take-append-le, take-take, take-length, length-take-le, take-append_seam, drop-append_seam}
use lib.Dec.{ltb, leb, eqb}
use borrow.Author.Tests.{ltb-false, le-ltb, eqb-true, eqb-false}
use Rattle.rules.specs.Flat
use Rattle.rules.specs.Flat.{Rows, Mark, Frame, Built, with_token, start_row, insert, on_tree, frame_of, flat}
use Rattle.rules.specs.Limits.{tree_width, nodes}
use Rattle.rules.specs.Outcome.{Out, went, refused, mark_before_node, too_many_open, no_room}
use Rattle.rules.specs.Position.{Pos, Source}
use Rattle.rules.specs.Reading.{parse}
use Rattle.rules.specs.Rowan
use Rattle.rules.specs.Rowan.{Parent, Green, first_of, rowan}
use Rattle.rules.specs.SyntaxKind.{ScopeRoot}
use Rattle.rules.specs.Tree.{Tree, Forest, leaf, layout, layouts, forest, node_of}
use Rattle.rules.proofs.Related.{Relation, OutRel, went~, refused~, skipped~, cond~, gate~}
use Rattle.rules.proofs.Render.{laid, render, render_split, render_more, render_open, render_close, render_first}
use Rattle.rules.proofs.Sim.{Sub, nil, keep, omit, Level, World, node, ◌◂◌, innermost, MarkKeeps, ForgetKeeps, LeafKeeps, StartKeeps, StartAtKeeps, FinishKeeps, EndGives, DropKeeps, Sim}
use Rattle.rules.proofs.Simulation.{Ended, ended, simulation}

-- the numbers of refusal that come while reading
pub record Known (number : ℕ) : Type 0 where
  pub low : 5 ≤ number
  pub high : number ≤ 8

-- no refusal is the flat builder's alone
abbrev pub NoSkip : ℕ → Type 0
NoSkip number = ⊥

-- marks that may still be used: the flat builder's, and rowan's
abbrev Live : Type 0
Live = List (Mark × ℕ)

abbrev parent : ℕ → ℕ → ℕ → Parent
parent kind first from = record { kind = kind; first = first; from = from }

-- ---- marks

-- of each the count is the same on both sides, none is past the one that is newer, and one past the innermost parent's first child has its row there

data Falling (ps : List Parent) (cs : List Tree) : ℕ → Live → Type 0 where
  lowest : {bound : ℕ} → Falling ps cs bound []
  falls : {bound : ℕ} {m : Mark} {n : ℕ} {older : Live}
      → m.children ≡ n
      → n ≤ bound
      → (first_of ps < n → m.row * tree_width ≡ length (render ps (take n cs)))
      → Falling ps cs n older
      → Falling ps cs bound ((m, n) ∷ older)

module _ {ps : List Parent} {cs : List Tree} where
  -- with children that are the same up to the bound
  falling_as : {bound : ℕ} {live : Live} (cs' : List Tree) (bound' : ℕ)
      → ((n : ℕ) → n ≤ bound → take n cs' ≡ take n cs)
      → bound ≤ bound'
      → Falling ps cs bound live
      → Falling ps cs' bound' live
  falling_as cs' bound' same wide lowest = lowest
  falling_as cs' bound' same wide (falls {m} {n} count high row older) =
      falls {m = m} count (le_trans high wide) (λ past. rw (same n high) (row past))
      (falling_as cs' n (λ i low. same i (le_trans low high)) (le_refl n) older)

  -- in a node that begins at the bound or behind it nothing is asked of rows
  falling_below : {bound : ℕ} {live : Live} (p : Parent) (qs : List Parent)
      → bound ≤ p.first
      → Falling ps cs bound live
      → Falling (p ∷ qs) cs bound live
  falling_below p qs low lowest = lowest
  falling_below p qs low (falls count high row older) =
      falls count high (λ past. absurd (omega arith)) (falling_below p qs (le_trans high low) older)

  falling_sub : {bound : ℕ} {less live : Live} → Sub less live → Falling ps cs bound live → Falling ps cs bound less
  falling_sub nil lowest = lowest
  falling_sub (keep sub) (falls count high row older) = falls count high row (falling_sub sub older)
  falling_sub {bound} (omit sub) (falls count high row older) = falling_as cs bound (λ i low. refl) high (falling_sub sub older)

-- ---- what both sides have built

record Tied (t : Rows) (ps : List Parent) (cs : List Tree) : Type 0 where
  depth : t.depth ≡ length ps
  children : t.children ≡ length cs
  tree : t.tree ≡ render ps cs
  size : t.rows * tree_width ≡ length t.tree

-- the next row comes behind all children
next_row : {t : Rows} {ps : List Parent} {cs : List Tree} → Tied t ps cs → t.rows * tree_width ≡ length (render ps (take (length cs) cs))
next_row {cs} tied = rw (take-length cs) (tied.size ∙ ap (λ (l : List ℕ). length l) tied.tree)

-- the frame of a node before whose first child so many stand
record Begun (f : Frame) (first : ℕ) (ps : List Parent) (cs : List Tree) : Type 0 where
  is : f.first ≡ first
  high : first ≤ length cs
  row : f.node * tree_width ≡ length (render ps (take first cs))

-- a mark before which so many children stand, in the innermost parent
record Marked (m : Mark) (n : ℕ) (p : Parent) (ps : List Parent) (cs : List Tree) : Type 0 where
  count : m.children ≡ n
  low : p.first ≤ n
  high : n ≤ length cs
  row : p.first < n → m.row * tree_width ≡ length (render (p ∷ ps) (take n cs))

-- a tree with the root's kind
pub record Rooted (t : Tree) : Type 0 where
  pub from : ℕ
  pub to : ℕ
  pub inside : Forest
  pub is : t ≡ Tree.node ScopeRoot from to inside

-- at the end: one tree, whose layout the rows are
pub record Whole (a : Built) (b : Green) : Type 0 where
  pub tree : Tree
  pub rows : a.tree.tree ≡ layout tree
  pub is : b.children ≡ tree ∷ []
  pub root : Rooted tree
  pub closed : b.parents ≡ []
  pub count : a.tree.rows ≡ b.rows
  pub size : a.tree.rows * tree_width ≡ length a.tree.tree
  pub leaves : a.tree.leaves ≡ b.leaves
  pub dropped : a.dropped ≡ b.dropped

-- ---- where the start row of a node goes that begins at a mark

-- before the child that begins there
place_is : (t : Rows) {m : Mark} {n : ℕ} (p : Parent) (ps : List Parent) (cs : List Tree) (same : Bool)
    → eqb m.children t.first ≡ same
    → Begun (frame_of t) p.first ps cs
    → Marked m n p ps cs
    → cond same (t.node + 1) m.row * tree_width ≡ length (render (p ∷ ps) (take n cs))
place_is t {m} {n} p ps cs true e begun marked =
    let at : m.children ≡ t.first = eqb-true m.children t.first e in
    let here : n ≡ p.first = omega arith in
    rw (here, render_first p ps cs) (simp length-append (omega arith))
place_is t {m} p ps cs false e begun marked =
    let apart = eqb-false m.children t.first e in
    marked.row (omega arith)

insert-is : (x y numbers : List ℕ) (row : ℕ) → row * tree_width ≡ length x → insert row numbers (x ++ y) ≡ x ++ (numbers ++ y)
insert-is x y numbers row e = rw (e, take-append_seam x y, drop-append_seam x y)

insert-size : (x y numbers : List ℕ) (rows : ℕ)
    → length numbers ≡ tree_width
    → rows * tree_width ≡ length (x ++ y)
    → (rows + 1) * tree_width ≡ length (x ++ (numbers ++ y))
insert-size x y numbers rows e long =
    let parts = length-append x y in
    simp length-append (omega arith)

-- ---- the relation

module _ (room : ℕ) where
  abbrev Over : Type 0
  Over = World (flat room) (rowan room)

  -- the open nodes, innermost first, with the children that stood before the next one; `f` is the frame of the innermost. Nothing stands outside the
  -- root
  data Levels : Over → List Parent → List Tree → Frame → Type 0 where
    outside : {cs : List Tree} {f : Frame} → cs ≡ [] → Levels [] [] cs f
    inside : {k first from : ℕ} {live : Live} {left : Frame} {w : Over} {ps : List Parent} {cs : List Tree} {f : Frame}
        → Begun f first ps cs
        → Falling (parent k first from ∷ ps) cs (length cs) live
        → Levels w ps (take first cs) left
        → Levels (node k left tt ◂ live ∷ w) (parent k first from ∷ ps) cs f

  data Alike : Over → Built → Green → Type 0 where
    alike : {w : Over} {t : Rows} {ps : List Parent} {cs : List Tree} {dropped : List ℕ}
        → Tied t ps cs
        → Levels w ps cs (frame_of t)
        → Alike w
        (record { tree = t; dropped = dropped })
        (record { parents = ps; children = cs; rows = t.rows; leaves = t.leaves; dropped = dropped })

  abbrev O : {X Y : Type 0} → Relation X Y → Out X → Out Y → Type 0
  O Q = OutRel NoSkip Known Q

  -- ---- tests that go alike

  room~ : {X Y : Type 0} {Q : Relation X Y} {x : Out X} {y : Out Y} (place rows : ℕ)
      → O Q x y
      → O Q (cond (ltb rows (room / tree_width)) x (refused no_room place)) (cond (ltb rows (room / tree_width)) y (refused no_room place))
  room~ place rows h = cond~ (ltb rows (room / tree_width)) (λ _. h) (λ _. refused~ no_room place (omega arith))

  deep~ : {Q : Relation Rows Green} {x : Out Rows} {y : Out Green} (place : ℕ) (t : Rows) (ps : List Parent)
      → t.depth ≡ length ps
      → O Q x y
      → O Q (cond (leb nodes t.depth) (refused too_many_open place) x) (cond (leb nodes (length ps)) (refused too_many_open place) y)
  deep~ place t ps e h = gate~ too_many_open place (leb nodes t.depth) (leb nodes (length ps)) (omega arith) (ap (λ (n : ℕ). leb nodes n) e) (λ _. h)

  on_tree~ : (b : Built) {Q : Relation Built Green} {x : Out Rows} {y : Out Green}
      → O (λ t g. Q (record { tree = t; dropped = b.dropped }) g) x y
      → O Q (on_tree b x) y
  on_tree~ b (went~ h) = went~ h
  on_tree~ b (refused~ number place known) = refused~ number place known
  on_tree~ b (skipped~ number place _ none) = elim none [ ]

  -- ---- a child more

  low : {w : Over} {ps : List Parent} {cs : List Tree} {f : Frame} → Levels w ps cs f → first_of ps ≤ length cs
  low (outside e) = omega arith
  low (inside begun falling levels) = begun.high

  levels_more : {top : Level (flat room) (rowan room)} {w : Over} {ps : List Parent} {cs : List Tree} {f : Frame} (x : Tree)
      → Levels (top ∷ w) ps cs f
      → Levels (top ∷ w) ps (cs ++ (x ∷ [])) f
  levels_more {cs} x (inside {first} begun falling levels) =
      let more = cs ++ (x ∷ []) in
      let same : take first cs ≡ take first more = sym (take-append-le first cs (x ∷ []) begun.high) in
      let wider : length cs ≤ length more = simp length-append (omega arith) in
      inside
      (record { is = begun.is; high = le_trans begun.high wider; row = rw same at begun.row })
      (falling_as more (length more) (λ n h. take-append-le n cs (x ∷ []) h) wider falling)
      (rw same at levels)

  -- ---- the operations

  leafs : LeafKeeps (flat room) (rowan room) NoSkip Known Alike
  unfolding Flat.leaf Flat.leafed Rowan.leafed Rowan.token layout
  leafs place l top w _ _ (alike {t} {ps} {cs} {dropped} tied levels) =
      let x = leaf l in
      on_tree~ (record { tree = t; dropped = dropped }) (room~ place t.rows (went~ (alike
      (record {
        depth = tied.depth;
        children = simp length-append (omega arith);
        tree = rw tied.tree (sym (render_more ps cs x (low levels)));
        size = simp length-append (omega arith);
      })
      (levels_more x levels))))

  -- marks made before a node is opened count at most its first child
  carried : {w : Over} {ps : List Parent} {cs : List Tree} {f : Frame} (p : Parent)
      → p.first ≡ length cs
      → Levels w ps cs f
      → Falling (p ∷ ps) cs (length cs) (innermost w)
  carried p e (outside none) = lowest
  carried p e (inside begun falling levels) = falling_below p _ (omega arith) falling

  starts : StartKeeps (flat room) (rowan room) NoSkip Known Alike
  unfolding Flat.start Flat.started Rowan.start_node Rowan.pushed
  starts place kind w _ _ (alike {t} {ps} {cs} {dropped} tied levels) =
      let p = parent kind (length cs) place in
      on_tree~ (record { tree = t; dropped = dropped }) (deep~ place t ps tied.depth (room~ place t.rows (went~ (alike
      (record {
        depth = ap (λ (n : ℕ). n + 1) tied.depth ∙ add-one (length ps);
        children = tied.children;
        tree = rw tied.tree (sym (render_open p ps cs refl));
        size = simp length-append (omega arith);
      })
      (inside
      (record { is = tied.children; high = le_refl (length cs); row = next_row tied })
      (carried p refl levels)
      (rw (take-length cs) levels))))))

  finishes : FinishKeeps (flat room) (rowan room) NoSkip Known Alike
  unfolding Flat.finish Flat.finished Rowan.closed Rowan.finish_node
  finishes place n live top w _ _ (alike {t} {cs} {dropped} tied (inside {k} {first} {from} {ps} begun falling levels)) =
      let p = parent k first from in
      let long : length (take first cs) ≡ first = length-take-le first cs begun.high in
      let depth = tied.depth in
      on_tree~ (record { tree = t; dropped = dropped }) (room~ place t.rows (went~ (alike
      (record {
        depth = omega arith;
        children = simp length-append (omega arith);
        tree = rw tied.tree (sym (render_close place p ps cs (low levels)));
        size = simp length-append (omega arith);
      })
      (levels_more (node_of k from place (drop first cs)) levels))))

  ends : EndGives (flat room) (rowan room) NoSkip Known Alike Whole
  unfolding Flat.finish Flat.finished Rowan.closed Rowan.finish_node layout
  ends place f g live _ _ (alike {t} {cs} {dropped} tied (inside {first} {from} begun falling (outside none))) =
      on_tree~ (record { tree = t; dropped = dropped }) (room~ place t.rows (went~ (record {
        tree = node_of ScopeRoot from place (drop first cs);
        rows = rw (tied.tree, none);
        is = rw none;
        root = record { from = from; to = place; inside = forest (drop first cs); is = refl };
        closed = refl;
        count = refl;
        size = simp length-append (let size = tied.size in omega arith);
        leaves = refl;
        dropped = refl;
      })))

  marks : MarkKeeps (flat room) (rowan room) NoSkip Known Alike
  marks n live w _ _ (alike {cs} tied (inside begun falling levels)) =
      alike tied (inside begun (falls tied.children (le_refl (length cs)) (λ past. next_row tied) falling) levels)

  forgets : ForgetKeeps (flat room) (rowan room) NoSkip Known Alike
  forgets n less live w _ _ sub (alike tied (inside begun falling levels)) = alike tied (inside begun (falling_sub sub falling) levels)

  drops : DropKeeps (flat room) (rowan room) NoSkip Known Alike
  drops token reason w _ _ (alike tied levels) = alike tied levels

  -- ---- a node begins at a mark

  module _ {k first from n : ℕ} {m : Mark} {older : Live} {left : Frame} {w : Over} {ps : List Parent} {cs : List Tree} where
    -- the node around it keeps the children before the mark
    around : {f : Frame}
        → Begun f first ps cs
        → Marked m n (parent k first from) ps cs
        → Falling (parent k first from ∷ ps) cs n ((m, n) ∷ older)
        → Levels w ps (take first cs) left
        → Levels (node k left tt ◂ ((m, n) ∷ older) ∷ w) (parent k first from ∷ ps) (take n cs) f
    around begun marked falling levels =
        let long : length (take n cs) ≡ n = length-take-le n cs marked.high in
        let same : take first cs ≡ take first (take n cs) = sym (take-take first n cs marked.low) in
        let fits : first ≤ length (take n cs) = omega arith in
        let wide : n ≤ length (take n cs) = omega arith in
        inside
        (record { is = begun.is; high = fits; row = rw same at begun.row })
        (falling_as (take n cs) (length (take n cs)) (λ i below. take-take i n cs below) wide falling)
        (rw same at levels)

    opened : (place kind : ℕ) {t : Rows} {dropped : List ℕ}
        → Tied t (parent k first from ∷ ps) cs
        → Begun (frame_of t) first ps cs
        → Marked m n (parent k first from) ps cs
        → Falling (parent k first from ∷ ps) cs n older
        → Levels w ps (take first cs) left
        → Alike (node kind (frame_of t) tt ◂ ((m, n) ∷ older) ∷ node k left tt ◂ ((m, n) ∷ older) ∷ w)
        (record { tree = Flat.started_at place kind m t; dropped = dropped })
        (record {
          parents = parent kind n place ∷ parent k first from ∷ ps;
          children = cs;
          rows = t.rows + 1;
          leaves = t.leaves;
          dropped = dropped;
        })
    unfolding Flat.started_at Flat.start_at_row
    opened place kind {t} tied begun marked falling levels =
        let p = parent k first from in
        let row = with_token place (start_row kind) in
        let x = render (p ∷ ps) (take n cs) in
        let y = laid (drop n cs) in
        let at = place_is t p ps cs (eqb m.children t.first) refl begun marked in
        let split : t.tree ≡ x ++ y = tied.tree ∙ render_split (p ∷ ps) cs n marked.low marked.high in
        let put = ap (λ (l : List ℕ). insert (Flat.start_at_row m t) row l) split ∙ insert-is x y row (Flat.start_at_row m t) at in
        let longer = insert-size x y row t.rows refl (tied.size ∙ ap (λ (l : List ℕ). length l) split) in
        let own : Falling (p ∷ ps) cs n ((m, n) ∷ older) = falls marked.count (le_refl n) marked.row falling in
        alike {t = Flat.started_at place kind m t}
        (record {
          depth = ap (λ (n : ℕ). n + 1) tied.depth ∙ add-one (suc (length ps));
          children = tied.children;
          tree = put;
          size = longer ∙ ap (λ (l : List ℕ). length l) (sym put);
        })
        (inside
        (record { is = marked.count; high = marked.high; row = at })
        (falling_as cs (length cs) (λ i below. refl) marked.high (falling_below (parent kind n place) (p ∷ ps) (le_refl n) own))
        (around begun marked own levels))

  start_ats : StartAtKeeps (flat room) (rowan room) NoSkip Known Alike
  unfolding Flat.start_at Rowan.start_node_at Rowan.pushed Flat.started_at
  start_ats place kind _ _ older w _ _ (alike {t} {cs} {dropped} tied (inside {k} {first} {from} {ps} begun
      (falls {m} {n} count below row falling) levels)) =
      rw (le-ltb (length cs) n below)
      (on_tree~ (record { tree = t; dropped = dropped }) (gate~ mark_before_node place (ltb m.children t.first) (ltb n first) (omega arith) (ap₂ ltb count begun.is)
      (λ e.
      let inside = ltb-false m.children t.first e in
      deep~ place t (parent k first from ∷ ps) tied.depth (room~ place t.rows (went~
      (opened place kind tied begun (record { count = count; low = omega arith; high = below; row = row }) falling levels))))))

  pub alike_sim : Sim (flat room) (rowan room) NoSkip Known
  alike_sim =
      record {
        R = Alike;
        marks = marks;
        forgets = forgets;
        leafs = leafs;
        starts = starts;
        start_ats = start_ats;
        finishes = finishes;
        Whole = Whole;
        ends = ends;
        drops = drops;
        frame_left = λ token reason a. refl;
        frame_right = λ token reason b. refl;
        greedy = omega arith;
        deep = omega arith;
      }

-- ---- runs

abbrev pub FlatRun : Type 0
FlatRun = Out (Pos Built Mark)

abbrev pub RowanRun : Type 0
RowanRun = Out (Pos Green ℕ)

-- both went on, to the same token and the same tree; or both were refused, with the same number, which is one of 5 to 8, at the same place
pub data SameRun : FlatRun → RowanRun → Type 0 where
  both_went : {p : Pos Built Mark} {q : Pos Green ℕ} → p.lexer ≡ q.lexer → Whole p.built q.built → SameRun (went p) (went q)
  both_refused : (number place : ℕ) → Known number → SameRun (refused number place) (refused number place)

as_same : (room : ℕ) {o : FlatRun} {u : RowanRun} → OutRel NoSkip Known (Ended (alike_sim room)) o u → SameRun o u
unfolding alike_sim
as_same room (went~ (ended c h whole)) = both_went refl whole
as_same room (refused~ number place known) = both_refused number place known
as_same room (skipped~ number place _ none) = elim none [ ]

-- whatever is read, with whatever room
pub same-run : (room : ℕ) (source : Source) → SameRun (parse (flat room) source Flat.empty) (parse (rowan room) source Rowan.nothing)
unfolding alike_sim layouts
same-run room source =
    as_same room (simulation (alike_sim room) source (alike (record { depth = refl; children = refl; tree = refl; size = refl }) (outside refl)))

-- what an accepted run has beside it
pub accepted : {o : FlatRun} {u : RowanRun} {p : Pos Built Mark}
    → SameRun o u
    → o ≡ went p
    → (q : Pos Green ℕ) × (u ≡ went q) × (p.lexer ≡ q.lexer) × Whole p.built q.built
accepted {p} (both_went {p = p'} {q} at whole) e =
    let same : p' ≡ p = cc in
    (q, refl, ap (λ (r : Pos Built Mark). r.lexer) (sym same) ∙ at, subst (λ (r : Pos Built Mark). Whole r.built q.built) same whole)
accepted (both_refused number place known) e = let z : ◌≡◌ {A = ℕ} 0 1 = cc in absurd (omega arith)

-- a refusal is one of 5 to 8
abbrev pub AnyKnown : {X : Type 0} → Out X → Type 0
AnyKnown (went x) = Unit {0}
AnyKnown (refused number place) = Known number

known-numbers : {o : FlatRun} {u : RowanRun} → SameRun o u → AnyKnown o × AnyKnown u
known-numbers (both_went at whole) = (tt, tt)
known-numbers (both_refused number place known) = (known, known)

module _ (room : ℕ) (source : Source) where
  pub known-refusals : AnyKnown (parse (flat room) source Flat.empty)
  known-refusals = (known-numbers (same-run room source)).0

  -- the rows of an accepted run are those of one tree with the root's kind: they balance, and each finish names its start's kind
  pub rows_of_a_tree : (p : Pos Built Mark)
      → parse (flat room) source Flat.empty ≡ went p
      → (tree : Tree) × Rooted tree × (p.built.tree.tree ≡ layout tree)
  rows_of_a_tree p e = let whole = (accepted (same-run room source) e).3 in (whole.tree, whole.root, whole.rows)

  -- rowan's other assertion, a mark past the last child, is never met
  pub never_past_last : (place : ℕ) → parse (rowan room) source Rowan.nothing ≡ refused Rowan.mark_past_last place → ⊥
  never_past_last place e = let known = rw e at (known-numbers (same-run room source)).1 in omega arith
