-- Laws of the flat builder: what an operation comes to, once it is known how its tests go. Assumes nothing.
use Prim.Native.Nat.{ℕ, ◌+◌, ◌/◌, ◌≤◌, ◌<◌}
use native.Mathlib.Nat.{le_refl, eq-or-lt_of_le}
use mathlib.Core.Logic.{⊎_elim}
use mathlib.Core.Bool.{Bool, true, false, cond}
use mathlib.Core.Path.{◌≡◌, refl, ap}
use native.Mathlib.Omega.{arith}
use lib.Dec.{ltb, leb}
use borrow.Author.Tests.{lt-ltb, le-ltb, le-leb, lt-leb, ltb-true, ltb-false, leb-false}
use Rattle.rules.specs.Builder.{Leaf}
use Rattle.rules.specs.Limits.{tree_width, nodes}
use Rattle.rules.specs.SyntaxKind.{ClauseArgument}
use Rattle.rules.specs.Outcome.{Out, went, refused, bind, mark_before_node, too_many_open, no_room}
use Rattle.rules.specs.Flat.{Rows, Mark, Frame, or_no_room, or_too_many_open, leafed, leaf, started, start, finished, finish, started_at, start_at, frame_of, wrap}

-- ---- a row behind the others

module _ (n place : ℕ) (b : Rows) where
  module _ (full : n / tree_width ≤ b.rows) where
    pub leaf-full : (l : Leaf) → leaf n place l b ≡ refused no_room place
    unfolding leaf
    leaf-full l = rw (le-ltb b.rows (n / tree_width) full)

    pub start-full : (kind : ℕ) → b.depth < nodes → start n place kind b ≡ refused no_room place
    unfolding start
    start-full kind few = rw (lt-leb nodes b.depth few, le-ltb b.rows (n / tree_width) full)

    pub finish-full : (kind : ℕ) (f : Frame) → finish n place kind f b ≡ refused no_room place
    unfolding finish
    finish-full kind f = rw (le-ltb b.rows (n / tree_width) full)

  pub start-deep : (kind : ℕ) → nodes ≤ b.depth → start n place kind b ≡ refused too_many_open place
  unfolding start
  start-deep kind many = rw (le-leb nodes b.depth many)

  module _ (free : b.rows < n / tree_width) where
    pub leaf-goes : (l : Leaf) → leaf n place l b ≡ went (leafed l b)
    unfolding leaf
    leaf-goes l = rw (lt-ltb b.rows (n / tree_width) free)

    pub start-goes : (kind : ℕ) → b.depth < nodes → start n place kind b ≡ went (started place kind b)
    unfolding start
    start-goes kind few = rw (lt-leb nodes b.depth few, lt-ltb b.rows (n / tree_width) free)

    pub finish-goes : (kind : ℕ) (f : Frame) → finish n place kind f b ≡ went (finished place kind f b)
    unfolding finish
    finish-goes kind f = rw (lt-ltb b.rows (n / tree_width) free)

-- ---- an opening at a mark

module _ (n place kind : ℕ) (m : Mark) (b : Rows) where
  pub at_before : m.children < b.first → start_at n place kind m b ≡ refused mark_before_node place
  unfolding start_at
  at_before before = rw (lt-ltb m.children b.first before)

  module _ (inside : b.first ≤ m.children) where
    pub at-deep : nodes ≤ b.depth → start_at n place kind m b ≡ refused too_many_open place
    unfolding start_at
    at-deep many = rw (le-ltb m.children b.first inside, le-leb nodes b.depth many)

    module _ (few : b.depth < nodes) where
      pub at-full : n / tree_width ≤ b.rows → start_at n place kind m b ≡ refused no_room place
      unfolding start_at
      at-full full = rw (le-ltb m.children b.first inside, lt-leb nodes b.depth few, le-ltb b.rows (n / tree_width) full)

      pub at_goes : b.rows < n / tree_width → start_at n place kind m b ≡ went (started_at place kind m b)
      unfolding start_at
      at_goes free = rw (le-ltb m.children b.first inside, lt-leb nodes b.depth few, lt-ltb b.rows (n / tree_width) free)

-- ---- a wrap: two openings at a mark, and the end of the inner one

-- the rows behind the second opening, and behind the end
abbrev pub wrap_opened : ℕ → ℕ → Mark → Rows → Rows
wrap_opened place kind m b = started_at place ClauseArgument m (started_at place kind m b)

abbrev pub wrap_ended : ℕ → ℕ → Mark → Rows → Rows
wrap_ended place kind m b = finished place ClauseArgument (frame_of (started_at place kind m b)) (wrap_opened place kind m b)

module _ (n place kind : ℕ) (m : Mark) (b : Rows) where
  pub wrap-before : m.children < b.first → wrap n place kind m b ≡ refused mark_before_node place
  unfolding wrap
  wrap-before before = rw (at_before n place kind m b before)

  module _ (inside : b.first ≤ m.children) where
    pub wrap-deep : nodes ≤ b.depth → wrap n place kind m b ≡ refused too_many_open place
    unfolding wrap
    wrap-deep many = rw (at-deep n place kind m b inside many)

    module _ (few : b.depth < nodes) where
      pub wrap-full : n / tree_width ≤ b.rows → wrap n place kind m b ≡ refused no_room place
      unfolding wrap
      wrap-full full = rw (at-full n place kind m b inside few full)

      -- the second opening is judged by itself
      pub wrap-deeper : b.rows < n / tree_width → nodes ≤ b.depth + 1 → wrap n place kind m b ≡ refused too_many_open place
      unfolding wrap started_at
      wrap-deeper free many =
          rw (at_goes n place kind m b inside few free, at-deep n place ClauseArgument m (started_at place kind m b) (le_refl m.children) many)

    module _ (few : b.depth + 1 < nodes) where
      after_first : b.rows < n / tree_width → n / tree_width ≤ b.rows + 1 → wrap n place kind m b ≡ refused no_room place
      unfolding wrap started_at
      after_first free full =
          let second = at-full n place ClauseArgument m (started_at place kind m b) (le_refl m.children) few full in
          rw (at_goes n place kind m b inside (omega arith) free, second)

      -- both openings have room
      pub wrap-finish : b.rows + 1 < n / tree_width
          → wrap n place kind m b ≡ finish n place ClauseArgument (frame_of (started_at place kind m b)) (wrap_opened place kind m b)
      unfolding wrap started_at
      wrap-finish free =
          let second = at_goes n place ClauseArgument m (started_at place kind m b) (le_refl m.children) few free in
          rw (at_goes n place kind m b inside (omega arith) (omega arith), second)

      after_second : b.rows + 1 < n / tree_width → n / tree_width ≤ b.rows + 2 → wrap n place kind m b ≡ refused no_room place
      unfolding started_at
      after_second free full =
          rw (wrap-finish free) (finish-full n place (wrap_opened place kind m b) (omega arith) ClauseArgument (frame_of (started_at place kind m b)))

      -- there is no room for the three rows, whichever it is that lacks it
      pub wrap-fuller : b.rows < n / tree_width → n / tree_width ≤ b.rows + 2 → wrap n place kind m b ≡ refused no_room place
      wrap-fuller free full =
          let enough : b.rows + 1 ≤ n / tree_width = omega arith in
          ⊎_elim (λ same. after_first free (omega arith)) (λ less. after_second less full) (eq-or-lt_of_le enough)

-- ---- an operation that went had room, and is what it was to be

-- a test that lets an outcome through
let_through : (test : Bool) (go : Out Rows) (number place : ℕ) (x : Rows)
    → cond test go (refused number place) ≡ went x
    → (test ≡ true) × (go ≡ went x)
let_through true go number place x e = (refl, e)
let_through false go number place x e = let z : ◌≡◌ {A = ℕ} 0 1 = cc in absurd (omega arith)

-- a test that stops an outcome
not_stopped : (test : Bool) (go : Out Rows) (number place : ℕ) (x : Rows)
    → cond test (refused number place) go ≡ went x
    → (test ≡ false) × (go ≡ went x)
not_stopped false go number place x e = (refl, e)
not_stopped true go number place x e = let z : ◌≡◌ {A = ℕ} 0 1 = cc in absurd (omega arith)

same_rows : (x y : Rows) → went x ≡ went y → x ≡ y
same_rows x y e = cc

module _ (n place : ℕ) (b x : Rows) where
  had_room : (y : Rows) → or_no_room n place b (went y) ≡ went x → (b.rows < n / tree_width) × (y ≡ x)
  had_room y e =
      let through = let_through (ltb b.rows (n / tree_width)) (went y) no_room place x e in
      (ltb-true b.rows (n / tree_width) through.0, same_rows y x through.1)

  pub leaf-went : (l : Leaf) → leaf n place l b ≡ went x → (b.rows < n / tree_width) × (leafed l b ≡ x)
  unfolding leaf
  leaf-went l e = had_room (leafed l b) e

  pub finish-went : (kind : ℕ) (f : Frame) → finish n place kind f b ≡ went x → (b.rows < n / tree_width) × (finished place kind f b ≡ x)
  unfolding finish
  finish-went kind f e = had_room (finished place kind f b) e

  had_few : (y : Rows) → or_too_many_open place b (or_no_room n place b (went y)) ≡ went x → (b.depth < nodes) × (b.rows < n / tree_width) × (y ≡ x)
  had_few y e =
      let not-many = not_stopped (leb nodes b.depth) (or_no_room n place b (went y)) too_many_open place x e in
      let room = had_room y not-many.1 in
      (leb-false nodes b.depth not-many.0, room.0, room.1)

  pub start-went : (kind : ℕ) → start n place kind b ≡ went x → (b.depth < nodes) × (b.rows < n / tree_width) × (started place kind b ≡ x)
  unfolding start
  start-went kind e = had_few (started place kind b) e

  pub at-went : (kind : ℕ) (m : Mark)
      → start_at n place kind m b ≡ went x
      → (b.first ≤ m.children) × (b.depth < nodes) × (b.rows < n / tree_width) × (started_at place kind m b ≡ x)
  unfolding start_at
  at-went kind m e =
      let opened = or_too_many_open place b (or_no_room n place b (went (started_at place kind m b))) in
      let inside = not_stopped (ltb m.children b.first) opened mark_before_node place x e in
      let few = had_few (started_at place kind m b) inside.1 in
      (ltb-false m.children b.first inside.0, few.0, few.1, few.2)

-- a routine and then another that went: both did
both_went : (o : Out Rows) (f : Rows → Out Rows) (x : Rows) → bind o f ≡ went x → (y : Rows) × (o ≡ went y) × (f y ≡ went x)
both_went (went y) f x e = (y, refl, e)
both_went (refused number place) f x e = let z : ◌≡◌ {A = ℕ} 0 1 = cc in absurd (omega arith)

-- the rows of a wrap, from those of its steps
wrap-rows : (place kind : ℕ) (m : Mark) (b o i x : Rows)
    → started_at place kind m b ≡ o
    → started_at place ClauseArgument m o ≡ i
    → finished place ClauseArgument (frame_of o) i ≡ x
    → wrap_ended place kind m b ≡ x
wrap-rows place kind m b o i x first second last = rw (first, second) last

pub wrap-went : (n place : ℕ) (b x : Rows) (kind : ℕ) (m : Mark)
    → wrap n place kind m b ≡ went x
    → (b.first ≤ m.children) × (b.depth + 1 < nodes) × (b.rows + 2 < n / tree_width) × (wrap_ended place kind m b ≡ x)
unfolding wrap started_at
wrap-went n place b x kind m e =
    let ends : Rows → Rows → Out Rows = λ o i. finish n place ClauseArgument (frame_of o) i in
    let outer = both_went (start_at n place kind m b) (λ o. bind (start_at n place ClauseArgument m o) (ends o)) x e in
    let inner = both_went (start_at n place ClauseArgument m outer.0) (ends outer.0) x outer.2 in
    let first = at-went n place b outer.0 kind m outer.1 in
    let second = at-went n place outer.0 inner.0 ClauseArgument m inner.1 in
    let last = finish-went n place inner.0 x ClauseArgument (frame_of outer.0) inner.2 in
    let depth : b.depth + 1 ≡ outer.0.depth = ap (λ (y : Rows). y.depth) first.3 in
    let rows : outer.0.rows + 1 ≡ inner.0.rows = ap (λ (y : Rows). y.rows) second.3 in
    let rows' : b.rows + 1 ≡ outer.0.rows = ap (λ (y : Rows). y.rows) first.3 in
    (first.0, omega arith, omega arith, wrap-rows place kind m b outer.0 inner.0 x first.3 second.3 last.1)
