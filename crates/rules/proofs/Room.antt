-- More room changes nothing: a run that is accepted with some room is accepted with any larger room, to the same rows and dropped rows; and a refusal
-- other than for want of room is the same. The simulation gives it, of the flat builder with two rooms and two levels: all is equal on both sides,
-- and the world has as many nodes as are open, which the builder limits. Assumes nothing.
use Prim.Native.Nat.{ℕ, ◌/◌, ◌≤◌, ◌<◌}
use mathlib.Core.Path.{◌≡◌, refl, ap}
use mathlib.Core.Bool.{Bool, true, false, cond, false≢true}
use mathlib.Core.List.{List, [], ◌∷◌}
use Rattle.std.specs.Prelude.{None as none}
use native.Mathlib.Omega.{arith}
use lib.Dec.{ltb, leb}
use lib.ListN.{length}
use borrow.Author.Tests.{ltb-true, ltb-false, lt-ltb, leb-false}
use Rattle.rules.specs.Flat
use Rattle.rules.specs.Flat.{Rows, Mark, Frame, Built, on_tree, mark_of, flat}
use Rattle.rules.specs.Limits
use Rattle.rules.specs.Limits.{tree_width}
use Rattle.rules.specs.Outcome.{Out, went, refused, mark_before_node, too_many_open, no_room}
use Rattle.rules.specs.Position.{Pos, Source}
use Rattle.rules.specs.Reading.{parse_at, parse}
use Rattle.rules.specs.Scope.{Root}
use Rattle.rules.proofs.Related.{Relation, OutRel, went~, refused~, skipped~, gate~, weaker~}
use Rattle.rules.proofs.Sim.{Pairs, no_marks, both, pairs_sub, World, node, ◌◂◌, innermost, MarkKeeps, ForgetKeeps, LeafKeeps, StartKeeps, StartAtKeeps, FinishKeeps, EndGives, DropKeeps, Sim}
use Rattle.rules.proofs.Simulation.{Ended, ended, simulation, simulation_at}

-- where a run of the flat builder ends
abbrev pub Place : Type 0
Place = Pos Built Mark

-- the smaller room may be too small
pub record Full (room room' number : ℕ) : Type 0 where
  pub is : number ≡ no_room
  pub smaller : room < room'

abbrev pub Any : ℕ → Type 0
Any number = Unit {0}

-- so many nodes are open as the world has, and no more than may be
record Counted (nodes depth : ℕ) : Type 0 where
  is : depth ≡ nodes
  few : nodes ≤ Limits.nodes

module _ (room room' : ℕ) (larger : room ≤ room') where
  abbrev Over : Type 0
  Over = World (flat room) (flat room')

  -- frames and marks are the same
  data Even : Over → Type 0 where
    outside : Even []
    inside : {k : ℕ} {live : List (Mark × Mark)} {f : Frame} {w : Over} → Pairs live → Even w → Even (node k f f ◂ live ∷ w)

  data Same : Over → Built → Built → Type 0 where
    same : {w : Over} {b : Built} → Even w → Counted (length w) b.tree.depth → Same w b b

  abbrev O : {X Y : Type 0} → Relation X Y → Out X → Out Y → Type 0
  O Q = OutRel (Full room room') Any Q

  -- ---- tests: only that for room can go two ways

  module _ {X : Type 0} {Q : Relation X X} {x y : Out X} (place : ℕ) where
    enough~ : (s t : Bool) → (s ≡ true → t ≡ true) → (s ≡ false → t ≡ true → room < room') → O Q x y
        → O Q (cond s x (refused no_room place)) (cond t y (refused no_room place))
    enough~ true true more less h = h
    enough~ true false more less h = absurd (false≢true (more refl))
    enough~ false true more less h = skipped~ no_room place _ (record { is = refl; smaller = less refl refl })
    enough~ false false more less h = refused~ no_room place tt

    room~ : (rows : ℕ) → O Q x y
        → O Q (cond (ltb rows (room / tree_width)) x (refused no_room place)) (cond (ltb rows (room' / tree_width)) y (refused no_room place))
    room~ rows h =
        enough~ (ltb rows (room / tree_width)) (ltb rows (room' / tree_width))
        (λ e. let few = ltb-true rows (room / tree_width) e in lt-ltb rows (room' / tree_width) (omega arith))
        (λ e d. let many = ltb-false rows (room / tree_width) e in let few = ltb-true rows (room' / tree_width) d in omega arith)
        h

  on_tree~ : (b : Built) {Q : Relation Built Built} {x y : Out Rows}
      → O (λ s t. Q (record { tree = s; dropped = b.dropped }) (record { tree = t; dropped = b.dropped })) x y
      → O Q (on_tree b x) (on_tree b y)
  on_tree~ b (went~ h) = went~ h
  on_tree~ b (refused~ number place any) = refused~ number place any
  on_tree~ b (skipped~ number place o full) = skipped~ number place (on_tree b o) full

  -- ---- the operations

  leafs : LeafKeeps (flat room) (flat room') (Full room room') Any Same
  unfolding Flat.leaf Flat.leafed
  leafs place l top w _ _ (same {b} even counted) =
      on_tree~ b (room~ place b.tree.rows (went~ (same even counted)))

  carried : {w : Over} → Even w → Pairs (innermost w)
  carried outside = no_marks
  carried (inside pairs even) = pairs

  starts : StartKeeps (flat room) (flat room') (Full room room') Any Same
  unfolding Flat.start Flat.started
  starts place kind w _ _ (same {b} even counted) =
      on_tree~ b
      (gate~ too_many_open place (leb Limits.nodes b.tree.depth) _ tt refl (λ e.
      let fewer = leb-false Limits.nodes b.tree.depth e in
      room~ place b.tree.rows (went~ (same (inside (carried even) even) (omega arith)))))

  start_ats : StartAtKeeps (flat room) (flat room') (Full room room') Any Same
  unfolding Flat.start_at Flat.started_at
  start_ats place kind n x older w _ _ (same {b} (inside (both m pairs) even) counted) =
      on_tree~ b
      (gate~ mark_before_node place (ltb m.children b.tree.first) _ tt refl (λ _.
      gate~ too_many_open place (leb Limits.nodes b.tree.depth) _ tt refl (λ e.
      let fewer = leb-false Limits.nodes b.tree.depth e in
      room~ place b.tree.rows (went~ (same (inside (both m pairs) (inside (both m pairs) even)) (omega arith))))))

  finishes : FinishKeeps (flat room) (flat room') (Full room room') Any Same
  unfolding Flat.finish Flat.finished
  finishes place n live top w _ _ (same {b} (inside pairs even) counted) =
      on_tree~ b (room~ place b.tree.rows (went~ (same even (omega arith))))

  ends : EndGives (flat room) (flat room') (Full room room') Any Same (λ a b. a ≡ b)
  unfolding Flat.finish
  ends place f g live _ _ (same {b} (inside pairs even) counted) = on_tree~ b (room~ place b.tree.rows (went~ refl))

  marks : MarkKeeps (flat room) (flat room') (Full room room') Any Same
  marks n live w _ _ (same {b} (inside pairs even) counted) = same (inside (both (mark_of b.tree) pairs) even) counted

  forgets : ForgetKeeps (flat room) (flat room') (Full room room') Any Same
  forgets n less live w _ _ sub (same (inside pairs even) counted) = same (inside (pairs_sub sub pairs) even) counted

  drops : DropKeeps (flat room) (flat room') (Full room room') Any Same
  drops token reason w _ _ (same even counted) = same even counted

  pub room-sim : Sim (flat room) (flat room') (Full room room') Any
  room-sim =
      record {
        R = Same;
        marks = marks;
        forgets = forgets;
        leafs = leafs;
        starts = starts;
        start_ats = start_ats;
        finishes = finishes;
        Whole = λ a b. a ≡ b;
        ends = ends;
        drops = drops;
        frame_left = λ token reason a. refl;
        frame_right = λ token reason b. refl;
        greedy = tt;
        deep = tt;
      }

  as_equal : (p q : Place) → Ended room-sim p q → p ≡ q
  unfolding room-sim
  as_equal _ _ (ended c h e) =
      ap (λ (b : Built). record { lexer = c; held = h; list = record { scope = Root; start = none; last = none }; built = b }) e

  nothing-built : Same [] Flat.empty Flat.empty
  nothing-built = same {b = Flat.empty} outside (omega arith)

  -- whatever is read
  pub more_room : (source : Source) → O (λ (p q : Place). p ≡ q) (parse (flat room) source Flat.empty) (parse (flat room') source Flat.empty)
  unfolding room-sim
  more_room source = weaker~ as_equal (simulation room-sim source nothing-built)

  bounded : (w : Over) (a b : Built) → Same w a b → length w ≤ Limits.nodes
  bounded w _ _ (same even counted) = counted.few

  -- and at any levels that are enough
  pub more-room_at : (source : Source) (d e : ℕ)
      → Limits.nodes ≤ d
      → Limits.nodes ≤ e
      → O (λ (p q : Place). p ≡ q) (parse_at (flat room) source d Flat.empty) (parse_at (flat room') source e Flat.empty)
  unfolding room-sim
  more-room_at source d e left right =
      weaker~ as_equal (simulation_at room-sim source nothing-built d e Limits.nodes bounded left right)

-- ---- what it says of runs

went_alike : {room room' : ℕ} {o u : Out Place} {p : Place} → OutRel (Full room room') Any (λ (p q : Place). p ≡ q) o u → o ≡ went p → u ≡ went p
went_alike (went~ e) h = cc
went_alike (refused~ number place any) h = cc
went_alike (skipped~ number place o full) h = let z : ◌≡◌ {A = ℕ} 0 1 = cc in absurd (omega arith)

refused-alike : {room room' : ℕ} {o u : Out Place} {number place : ℕ}
    → OutRel (Full room room') Any (λ (p q : Place). p ≡ q) o u
    → o ≡ refused number place
    → (number ≡ no_room → ⊥)
    → u ≡ refused number place
refused-alike (went~ e) h other = cc
refused-alike (refused~ number' place any) h other = h
refused-alike {number} (skipped~ number' place o full) h other = absurd (other (let same : number' ≡ number = cc in let eight = full.is in cc))

module _ (room room' : ℕ) (larger : room ≤ room') (source : Source) where
  -- an accepted run, with its rows and its dropped rows
  pub accepted_with_more : (p : Place) → parse (flat room) source Flat.empty ≡ went p → parse (flat room') source Flat.empty ≡ went p
  accepted_with_more p e = went_alike (more_room room room' larger source) e

  -- a refusal that is not for want of room
  pub refused-with_more : (number place : ℕ)
      → (number ≡ no_room → ⊥)
      → parse (flat room) source Flat.empty ≡ refused number place
      → parse (flat room') source Flat.empty ≡ refused number place
  refused-with_more number place other e = refused-alike (more_room room room' larger source) e other
