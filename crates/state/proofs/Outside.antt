-- A routine outside the cycle: where its code stands is a walk for all tables that agree with those that it sees. Assumes nothing.
use Rattle.std.specs.Prelude.{Ok, Err}
use Rattle.syntax.specs.declared.refusal.Refused.{Refused}
use mathlib.Core.Path.{◌≡◌}
use mathlib.Core.List.{List, [], ◌∷◌, ◌++◌}
use Prim.Native.Nat.{ℕ, ◌+◌, ◌<◌}
use lib.ListN.{length, drop}
use Rattle.rules.specs.Flat.{flat}
use Rattle.rules.specs.Checks.{Tables, source_of}
use Rattle.rules.specs.Outcome.{Out}
use Rattle.rules.specs.Position as position
use Rattle.state.specs.Stands.{Buffers, Here, Step, pos_of}
use Rattle.builder.specs.Contract.{Fits, Within}
use Rattle.state.specs.Contract.{Ready, Begun, Ended, Opens, Begins, Ran, RuleOf, Known, Somehow, buffers}
use Rattle.state.specs.declared.Parser.{Parser}
use Rattle.state.proofs.Turn.{Turn, calls, opening, closing, done}
use Rattle.state.proofs.Walk.{HandsOn, handed, Rule, Call, line, begins, ran, ran-by, somehow_then}

-- a node that p begins and ends around these steps
abbrev pub node_around : ℕ → Parser → List Rule → List Rule
node_around kind p inner =
    (λ n d. position.start (flat n) kind)
    ∷ (inner ++ ((λ n d. position.finish (flat n) kind (record { first = p.builder.first; node = p.builder.node })) ∷ []))

-- what a routine does that sees less
pub ran-seeing : {sees less : Tables → Type 0} {gain : ℕ} {rule : RuleOf} {p : Parser} {m : Buffers} {r : Step} {v : Buffers}
    → ((t : Tables) → sees t → less t) → Ran less gain rule p m r v → Ran sees gain rule p m r v
ran-seeing f k = record { told = λ t seen ready. k.told t (f t seen) ready }

-- where a node begins, no token is passed
pub begins-there : {t : Tables} {rule : ℕ → Here → Out Here} {p q : Parser} {m : Buffers} {r : Step} {v : Buffers} → Ready t p m → Opens rule p m r v
    → r ≡ Ok q → q.lexer ≡ p.lexer
begins-there {t} {p = p} {q} {m} {v = v} ready k e = let b : Begun t p m q v = rw e at (k.told t ready.steady).gone in b.lexer

pub begun_there : {t : Tables} {rule : RuleOf} {p q : Parser} {m : Buffers} {r : Step} {v : Buffers} → Ready t p m → Begins rule p m r v → r ≡ Ok q
    → q.lexer ≡ p.lexer
begun_there {t} {p = p} {q} {m} {v = v} ready k e = let b : Begun t p m q v = rw e at (k.told t ready).gone in b.lexer

-- the dropped buffer is one that there is
pub known-somehow : {sees : Tables → Type 0} {p : Parser} {m : Buffers} → Known sees p m → Somehow sees p m.tree
known-somehow {m = m} k = record { t = k.t; notes = m.dropped; seen = k.seen; ready = k.ready }

-- a token that was next is next in the node that begins
pub still_there : {sees : Tables → Type 0} {rule : ℕ → Here → Out Here} {p q : Parser} {r : Step} {tree after : List ℕ} {n : ℕ} → Somehow sees p tree
    → ((notes : List ℕ) → Opens rule p (buffers tree notes) r (buffers after notes)) → r ≡ Ok q → p.lexer.token < n
    → q.lexer.token < n
still_there s k e next = rw (begins-there s.ready (k s.notes) e) next

-- ---- its calls, one after the other

-- how a call ended, for all tables that agree: `rest` is left if it went
pub record Turned (sees : Tables → Type 0) (rule : RuleOf) (rest : Tables → List Rule) (gain lift : ℕ) (p : Parser) (m : Buffers) (r : Step)
    (x : Buffers) : Type 0 where
  pub turn : (t : Tables) → sees t → Ready t p m → Turn t (λ n d. rule (source_of t) n) (rest t) gain lift p.list.scope p m r x

-- the same where the routine is lent the tree's buffer alone, and so many steps of a plan are done
abbrev pub Alone : (Tables → Type 0) → RuleOf → (Tables → List Rule) → Parser → List ℕ → ℕ → ℕ → ℕ → Step → List ℕ → Type 0
Alone sees rule plan p tree count gain lift r after =
    (notes : List ℕ) → Turned sees rule (λ t. drop count (plan t)) gain lift p (buffers tree notes) r (buffers after notes)

-- and where it is lent both
abbrev pub Both : (Tables → Type 0) → RuleOf → (Tables → List Rule) → Parser → Buffers → ℕ → ℕ → ℕ → Step → List ℕ → List ℕ → Type 0
Both sees rule plan p m count gain lift r tree dropped = Turned sees rule (λ t. drop count (plan t)) gain lift p m r (buffers tree dropped)

module _ {sees : Tables → Type 0} {rule : RuleOf} {rest : Tables → List Rule} {p : Parser} {m : Buffers} where
  -- the first call begins a node
  pub node_begins : {f : Tables → Rule} {r : Step} {x : Buffers}
      → ((t : Tables) (n d : ℕ) → rule (source_of t) n (pos_of p m) ≡ line (f t ∷ rest t) n d (pos_of p m))
      → ((t : Tables) → Call t (f t) 0 (λ q. Begun t p m q x) p m r x) → length x.tree ≡ length m.tree
      → length x.dropped ≡ length m.dropped
      → Turned sees rule rest 0 1 p m r x
  node_begins is k tree notes = record { turn = λ t seen ready. opening (begins ready (is t)) (k t) tree notes }

  module _ {gain : ℕ} {r : Step} {x : Buffers} {z : Parser} {a : Step} {y : Buffers} where
    -- the next call is of a routine outside the cycle too
    pub then_ran : {f : RuleOf} {lift more : ℕ} → Ran sees more f z x a y
        → Turned sees rule (λ t. (λ n d. f (source_of t) n) ∷ rest t) gain lift p m r x → r ≡ Ok z
        → length y.tree ≡ length x.tree → length y.dropped ≡ length x.dropped → Turned sees rule rest (gain + more) lift p m a y
    then_ran k turned e tree notes = record { turn = λ t seen ready. calls ((turned.turn t seen ready).went e) (ran seen k) tree notes }

    -- the next call ends the node
    pub then_ends : {f : Tables → Rule} → ((t : Tables) → Call t (f t) 1 (λ q. Ended t p.builder.first p.builder.node z x q y) z x a y)
        → Turned sees rule (λ t. f t ∷ rest t) gain 1 p m r x → r ≡ Ok z
        → length y.tree ≡ length x.tree → length y.dropped ≡ length x.dropped → Turned sees rule rest gain 0 p m a y
    then_ends k turned e tree notes = record { turn = λ t seen ready. closing ready ((turned.turn t seen ready).went e) (k t) tree notes }

-- ---- what the goals behind a call read

module _ {sees : Tables → Type 0} {rule : RuleOf} {rest : Tables → List Rule} {gain lift : ℕ} {p : Parser} {m : Buffers} {r : Step} {x : Buffers}
    (turned : Turned sees rule rest gain lift p m r x) where
  -- the call was refused, and so is the routine
  pub refuses : {any : ℕ} {e : Refused} {s : Step} → r ≡ Err e → HandsOn s e → Ran sees any rule p m s x
  refuses st hands = rw (handed hands) (ran-by (λ t seen ready. (turned.turn t seen ready).refused st))

  -- it went, and the state is ready for the next
  pub ready_behind : {z : Parser} (k : Known sees p m) → r ≡ Ok z → Ready k.t z x
  ready_behind k e = ((turned.turn k.t k.seen k.ready).went e).ready

  pub open_behind : {z : Parser} → Known sees p m → r ≡ Ok z → Fits z.builder x.tree × Within z.builder
  open_behind k e = let ready = ready_behind k e in (ready.steady.fits, ready.within)

  pub long-behind : Known sees p m → length x.tree ≡ length m.tree
  long-behind k = (turned.turn k.t k.seen k.ready).tree_long

-- it was the last
pub ends_with : {sees : Tables → Type 0} {rule : RuleOf} {gain : ℕ} {p : Parser} {m : Buffers} {r : Step} {x : Buffers}
    → Turned sees rule (λ t. []) gain 0 p m r x → Ran sees gain rule p m r x
ends_with turned = ran-by (λ t seen ready. done (turned.turn t seen ready))

-- what is known of a routine that is lent the tree's buffer alone
abbrev pub known_alone : {sees : Tables → Type 0} {p : Parser} {tree : List ℕ} (s : Somehow sees p tree) → Known sees p (buffers tree s.notes)
known_alone s = record { t = s.t; seen = s.seen; ready = s.ready }

pub alone_behind : {sees : Tables → Type 0} {rule : RuleOf} {rest : Tables → List Rule} {gain lift : ℕ} {p : Parser} {tree after : List ℕ} {r : Step}
    → {z : Parser} (s : Somehow sees p tree)
    → ((notes : List ℕ) → Turned sees rule rest gain lift p (buffers tree notes) r (buffers after notes)) → r ≡ Ok z
    → Somehow sees z after
alone_behind s turned e = somehow_then s (ready_behind (turned s.notes) (known_alone s) e)

-- the same where the call began a node, and a token was next: it still is
pub first-inside : {sees : Tables → Type 0} {rule : RuleOf} {rest : Tables → List Rule} {opening : ℕ → Here → Out Here} {gain lift n : ℕ}
    → {p : Parser} {tree after : List ℕ} {r : Step} {z : Parser} (s : Somehow sees p tree) → p.lexer.token < n
    → ((notes : List ℕ) → Opens opening p (buffers tree notes) r (buffers after notes))
    → ((notes : List ℕ) → Turned sees rule rest gain lift p (buffers tree notes) r (buffers after notes)) → r ≡ Ok z
    → (z.lexer.token < n) × Somehow sees z after
first-inside s next k turned e = (still_there s k e next, alone_behind s turned e)
