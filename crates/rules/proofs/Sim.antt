-- One simulation theorem over the control part of the rules: two builders that are related, operation by operation, have related runs.
-- What may still be asked of a builder changes with the nodes that are open and the marks that are kept, so the relation is over a world that says
-- it. Assumes nothing.
use Prim.Native.Nat.{ℕ}
use mathlib.Core.Path.{◌≡◌}
use mathlib.Core.List.{List, [], ◌∷◌, ◌++◌}
use Rattle.std.specs.Prelude.{Option, None as none, Some as some}
use Rattle.rules.specs.Builder.{Builder, Leaf}
use Rattle.rules.specs.Outcome.{greedy_environment, too_many_open}
use Rattle.rules.specs.Cursor.{Cursor}
use Rattle.rules.specs.Position.{ListState, Pos}
use Rattle.rules.specs.Scope.{Scope, Root}
use Rattle.rules.specs.SyntaxKind.{ScopeRoot}
use Rattle.rules.proofs.Related.{OutRel, Keeps}

-- a list with some of its elements left out
pub data Sub {T : Type 0} : List T → List T → Type 0 where
  nil : Sub [] []
  keep : {x : T} {l k : List T} → Sub l k → Sub (x ∷ l) (x ∷ k)
  omit : {x : T} {l k : List T} → Sub l k → Sub l (x ∷ k)

module _ {T : Type 0} where
  pub sub_nil : (l : List T) → Sub [] l
  sub_nil [] = nil
  sub_nil (x ∷ l) = omit (sub_nil l)

  pub sub_refl : (l : List T) → Sub l l
  sub_refl [] = nil
  sub_refl (x ∷ l) = keep (sub_refl l)

  pub sub_behind : (front l : List T) → Sub l (front ++ l)
  sub_behind [] l = sub_refl l
  sub_behind (x ∷ front) l = omit (sub_behind front l)

  pub sub_trans : {l k j : List T} → Sub l k → Sub k j → Sub l j
  sub_trans h nil = h
  sub_trans {l = x ∷ l} (keep h) (keep k) = keep (sub_trans {l = l} h k)
  sub_trans (omit h) (keep k) = omit (sub_trans h k)
  sub_trans h (omit k) = omit (sub_trans h k)

-- marks that are the same on both sides
pub data Pairs {T : Type 0} : List (T × T) → Type 0 where
  no_marks : Pairs []
  both : (m : T) {l : List (T × T)} → Pairs l → Pairs ((m, m) ∷ l)

pub pairs_sub : {T : Type 0} {less live : List (T × T)} → Sub less live → Pairs live → Pairs less
pairs_sub nil no_marks = no_marks
pairs_sub (keep sub) (both m pairs) = both m (pairs_sub sub pairs)
pairs_sub (omit sub) (both m pairs) = pairs_sub sub pairs

-- ---- marks of both builders

module _ {M N : Type 0} where
  abbrev pub lefts : Option (M × N) → Option M
  lefts none = none
  lefts (some x) = some x.0

  abbrev pub rights : Option (M × N) → Option N
  rights none = none
  rights (some x) = some x.1

  abbrev pub listed : Option (M × N) → List (M × N)
  listed none = []
  listed (some x) = x ∷ []

-- the list states of both sides: the same scope, and marks at the same places
pub record Marks (M N : Type 0) : Type 0 where
  pub scope : Scope
  pub start : Option (M × N)
  pub last : Option (M × N)

module _ {M N : Type 0} where
  abbrev pub left_list : Marks M N → ListState M
  left_list m = record { scope = m.scope; start = lefts m.start; last = lefts m.last }

  abbrev pub right_list : Marks M N → ListState N
  right_list m = record { scope = m.scope; start = rights m.start; last = rights m.last }

  -- the marks that are there, newest first: last was made after start
  abbrev pub marks_of : Marks M N → List (M × N)
  marks_of m = listed m.last ++ listed m.start

  pub start_of : (m : Marks M N) → Sub (listed m.start) (marks_of m)
  start_of m = sub_behind (listed m.last) (listed m.start)

  -- the start as it was, and no last
  abbrev pub start_only : Marks M N → Scope → Marks M N
  start_only m s = record { scope = s; start = m.start; last = none }

  -- the marks are among these, in this order
  abbrev pub Among : List (M × N) → Marks M N → Type 0
  Among l m = Sub (marks_of m) l

  -- outside all lists
  abbrev pub at_root : Marks M N
  at_root = record { scope = Root; start = none; last = none }

-- where both sides stand: at the same token, holding the same tokens
module _ {M N : Type 0} where
  abbrev pub left_at : {S : Type 0} → Cursor → ℕ → Marks M N → S → Pos S M
  left_at c h m a = record { lexer = c; held = h; list = left_list m; built = a }

  abbrev pub right_at : {S : Type 0} → Cursor → ℕ → Marks M N → S → Pos S N
  right_at c h m b = record { lexer = c; held = h; list = right_list m; built = b }

-- ---- the world

-- an open node: its kind, and the frames that its end takes
pub record Node (A B : Builder) : Type 0 where
  pub kind : ℕ
  pub left : A.Frame
  pub right : B.Frame

-- a mark on both sides, and several
abbrev pub BothMark : Builder → Builder → Type 0
BothMark A B = A.Mark × B.Mark

abbrev pub Marked : Builder → Builder → Type 0
Marked A B = List (BothMark A B)

-- an open node with the marks that may still be used in it, newest first
pub record Level (A B : Builder) : Type 0 where
  pub node : Node A B
  pub live : Marked A B

-- the open nodes, innermost first
abbrev pub World : Builder → Builder → Type 0
World A B = List (Level A B)

module _ {A B : Builder} where
  abbrev pub node : ℕ → A.Frame → B.Frame → Node A B
  node kind f g = record { kind = kind; left = f; right = g }

  abbrev pub ◌◂◌ : Node A B → Marked A B → Level A B
  ◌◂◌ n live = record { node = n; live = live }

  abbrev pub innermost : World A B → Marked A B
  innermost [] = []
  innermost (top ∷ w) = top.live

infixl 75 ◌◂◌
-- a node that is opened where both sides stand
abbrev pub opening : (A B : Builder) → ℕ → A.State → B.State → Node A B
opening A B kind a b = node kind (A.frame a) (B.frame b)

-- ---- what makes B stand for A: a relation over a world, and what each operation keeps of it

module _ (A B : Builder) (Skip May : ℕ → Type 0) (R : World A B → A.State → B.State → Type 0) where
  -- a mark made now may be used from now on
  abbrev pub MarkKeeps : Type 0
  MarkKeeps = (n : Node A B) (live : Marked A B) (w : World A B) (a : A.State) (b : B.State)
      → R (n ◂ live ∷ w) a b
      → R (n ◂ ((A.mark a, B.mark b) ∷ live) ∷ w) a b

  -- to forget marks is always right
  abbrev pub ForgetKeeps : Type 0
  ForgetKeeps = (n : Node A B) (less live : Marked A B) (w : World A B) (a : A.State) (b : B.State)
      → Sub less live
      → R (n ◂ live ∷ w) a b
      → R (n ◂ less ∷ w) a b

  abbrev pub LeafKeeps : Type 0
  LeafKeeps = (place : ℕ) (l : Leaf) (top : Level A B) (w : World A B)
      → Keeps Skip May (R (top ∷ w)) (R (top ∷ w)) (A.leaf place l) (B.leaf place l)

  -- marks that were made before a node was opened may be used in it
  abbrev pub StartKeeps : Type 0
  StartKeeps = (place kind : ℕ) (w : World A B) (a : A.State) (b : B.State)
      → R w a b
      → OutRel Skip May (R (opening A B kind a b ◂ innermost w ∷ w)) (A.start place kind a) (B.start place kind b)

  -- a node is opened at the newest mark: that one and those before it may still be used, inside and outside
  abbrev pub StartAtKeeps : Type 0
  StartAtKeeps = (place kind : ℕ) (n : Node A B) (x : BothMark A B) (older : Marked A B) (w : World A B) (a : A.State) (b : B.State)
      → R (n ◂ (x ∷ older) ∷ w) a b
      → OutRel Skip May (R (opening A B kind a b ◂ (x ∷ older) ∷ n ◂ (x ∷ older) ∷ w))
      (A.start_at place kind x.0 a)
      (B.start_at place kind x.1 b)

  -- a node's end takes its kind and its frames, and leaves the world as it was before it
  abbrev pub FinishKeeps : Type 0
  FinishKeeps = (place : ℕ) (n : Node A B) (live : Marked A B) (top : Level A B) (w : World A B)
      → Keeps Skip May (R (n ◂ live ∷ top ∷ w)) (R (top ∷ w)) (A.finish place n.kind n.left) (B.finish place n.kind n.right)

  -- and the root's end is the end
  abbrev pub EndGives : (A.State → B.State → Type 0) → Type 0
  EndGives Whole = (place : ℕ) (f : A.Frame) (g : B.Frame) (live : Marked A B)
      → Keeps Skip May (R (node ScopeRoot f g ◂ live ∷ [])) Whole (A.finish place ScopeRoot f) (B.finish place ScopeRoot g)

  abbrev pub DropKeeps : Type 0
  DropKeeps = (token reason : ℕ) (w : World A B) (a : A.State) (b : B.State) → R w a b → R w (A.drop token reason a) (B.drop token reason b)

pub record Sim (A B : Builder) (Skip May : ℕ → Type 0) : Type 1 where
  pub R : World A B → A.State → B.State → Type 0
  pub marks : MarkKeeps A B Skip May R
  pub forgets : ForgetKeeps A B Skip May R
  pub leafs : LeafKeeps A B Skip May R
  pub starts : StartKeeps A B Skip May R
  pub start_ats : StartAtKeeps A B Skip May R
  pub finishes : FinishKeeps A B Skip May R
  pub Whole : A.State → B.State → Type 0
  pub ends : EndGives A B Skip May R Whole
  pub drops : DropKeeps A B Skip May R
  -- what is dropped does not touch a node
  pub frame_left : (token reason : ℕ) (a : A.State) → A.frame (A.drop token reason a) ≡ A.frame a
  pub frame_right : (token reason : ℕ) (b : B.State) → B.frame (B.drop token reason b) ≡ B.frame b
  -- the rules refuse with these themselves
  pub greedy : May greedy_environment
  pub deep : May too_many_open
