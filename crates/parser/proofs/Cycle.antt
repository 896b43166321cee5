-- The walk in the cycle: calls of members at the caller's level and below it, and steps that change the list or what is held alone. Assumes nothing.
use Rattle.std.specs.Prelude.{Ok, Err}
use mathlib.Core.Path.{◌≡◌, refl, ◌∙◌}
use mathlib.Core.List.{List, ◌∷◌}
use Prim.Native.Nat.{ℕ, zero, suc, ◌+◌, ◌≤◌, ◌<◌}
use native.Mathlib.Omega.{arith}
use lib.ListN.{length, drop}
use Rattle.rules.specs.Limits.{nodes}
use Rattle.rules.specs.Tables.{token_count}
use Rattle.builder.specs.Contract.{Fits, Within}
use Rattle.rules.specs.Outcome.{Out, went}
use Rattle.rules.specs.Checks.{Tables, source_of}
use Rattle.state.specs.Stands.{Step, Buffers, Here, pos_of, out_of}
use Rattle.state.specs.Change.{relisted, remarked, unheld}
use Rattle.state.specs.Contract.{MarkOk, Ready, Left, Begun, Somehow, Gone, Runs, Ran, RuleOf, weight, buffers}
use Rattle.state.specs.declared.ListState.{ListState}
use Rattle.state.specs.declared.KeptMark.{KeptMark}
use Rattle.state.specs.declared.Parser.{Parser}
use Rattle.state.proofs.Left.{changed, steady_changed}
use Rattle.state.proofs.Turn.{Turn, still_next}
use Rattle.parser.proofs.Entry.{somehow}
use Rattle.syntax.specs.declared.refusal.Refused.{Refused}
use Rattle.state.proofs.Walk.{HandsOn, handed, Rule, line, Walk, Call, passing, stays_home, weaker}

-- a member came to a rule
abbrev pub Came : Tables → ℕ → Rule → Parser → Buffers → Step → Buffers → Type 0
Came t gain rule p m r v = Runs t gain (λ n d. rule n d (pos_of p m)) p m r v

-- ---- calls

-- a member at the caller's level
pub runs : {t : Tables} {gain lift : ℕ} {f : Rule} {u : Parser} {v : Buffers} {r : Step} {x : Buffers}
    → Runs t gain (λ n d. f n d (pos_of u v)) u v r x → Call t f lift (λ q. Left t gain u v q x) u v r x
runs k = record { is = λ ready d h. k.is d (omega arith); gone = λ ready. k.gone }

-- a member that reads items in a node that the caller opened: a level less
pub below : {t : Tables} {gain lift : ℕ} {f : Rule} {u : Parser} {v : Buffers} {r : Step} {x : Buffers} → u.builder.depth ≤ nodes
    → Runs t gain (λ n d. f n (suc d) (pos_of u v)) u v r x → Call t f (suc lift) (λ q. Left t gain u v q x) u v r x
below {lift = lift} {f} {u} {v} {r} {x} deep k = record { is = λ ready d h. one_less d h; gone = λ ready. k.gone }
  where
    one_less : (d : ℕ) → nodes + suc lift ≤ u.builder.depth + d → f (length v.tree) d (pos_of u v) ≡ out_of r x
    one_less zero h = absurd (omega arith)
    one_less (suc e) h = k.is e (omega arith)

-- how a call ended: so many steps of a member's plan are done if it went
abbrev pub TurnedBy : Tables → Rule → List Rule → Parser → Buffers → ℕ → ℕ → ℕ → Step → List ℕ → List ℕ → Type 0
TurnedBy t rule plan p m count gain lift r tree dropped = Turn t rule (drop count plan) gain lift p.list.scope p m r (buffers tree dropped)

-- it was refused, and the member handed that on by its `?`
pub hands_back : {t : Tables} {rule : Rule} {rest : List Rule} {gain lift scope any : ℕ} {s : Parser} {m : Buffers} {r : Step} {x : Buffers}
    → {e : Refused} {o : Step} → Turn t rule rest gain lift scope s m r x → r ≡ Err e → HandsOn o e → Came t any rule s m o x
hands_back k refused hands = rw (handed hands) (k.refused refused)

-- it went, and its state was put together again
pub settled : {r : Step} {z u : Parser} → r ≡ Ok z → u ≡ z → r ≡ Ok u
settled gone same = rw same gone

-- what a node's end asks, behind a call that went
pub open_behind : {t : Tables} {rule : Rule} {rest : List Rule} {gain lift scope : ℕ} {s : Parser} {m : Buffers} {r : Step} {x : Buffers} {z : Parser}
    → Turn t rule rest gain lift scope s m r x → r ≡ Ok z → Fits z.builder x.tree × Within z.builder
open_behind k e = let ready = (k.went e).ready in (ready.steady.fits, ready.within)

-- what a routine outside the cycle asks that reads the first token in a node: it is there still, and the tables are the member's
pub first_inside : {sees : Tables → Type 0} {t : Tables} {rule f : Rule} {rest : List Rule} {gain lift scope : ℕ} {s : Parser} {m : Buffers}
    → {r : Step} {x : Buffers} {z : Parser} → sees t → Ready t s m → s.lexer.token < token_count t.tokens → Call t f 0 (λ q. Begun t s m q x) s m r x
    → Turn t rule rest gain lift scope s m r x → r ≡ Ok z → (z.lexer.token < token_count t.tokens) × Somehow sees z x.tree
first_inside seen ready next starts k e = (still_next ready starts e next, somehow seen (k.went e).ready)

-- ---- steps that call nothing

module _ {t : Tables} {rule f : Rule} {rest : List Rule} {gain lift : ℕ} {scope : ℕ} {s : Parser} {m : Buffers} {u : Parser} {v : Buffers}
    (w : Walk t rule (f ∷ rest) gain lift scope s m u v) where
  -- the rule's step goes to z
  abbrev Goes : Parser → Type 0
  Goes z = (n d : ℕ) → f n d (pos_of u v) ≡ went (pos_of z v)

  -- what is left once such a step is made
  stepped : (z : Parser) → Goes z → (d : ℕ) → nodes ≤ s.builder.depth + d
      → rule (length m.tree) d (pos_of s m) ≡ line rest (length m.tree) d (pos_of z v)
  unfolding line
  stepped z is d h = w.is d h ∙ rw (is (length m.tree) d)

  -- the code took another list or holds less, and no more is to be written for it
  changes : {to : ℕ} (held : ℕ) (l : ListState) → l.scope ≡ to → weight t (changed u held l) ≤ weight t u
      → MarkOk l.start u.builder → MarkOk l.last u.builder → Goes (changed u held l)
      → Walk t rule rest gain lift to s m (changed u held l) v
  changes held l same weighs first last is =
      let p = w.passed in
      record {
        is = stepped (changed u held l) is;
        passed = passing p.tree p.notes p.tree_long p.notes_long (omega arith);
        ready = record { steady = steady_changed held l w.ready.steady weighs first last; within = w.ready.within };
        depth = w.depth;
        few = w.few;
        home = stays_home lift s u (changed u held l) refl refl w.home;
        scope_is = same;
      }

  -- the code took another list
  pub relists : {z : Parser} (l : ListState) → z ≡ relisted u l → MarkOk l.start u.builder → MarkOk l.last u.builder → Goes (relisted u l)
      → Walk t rule rest gain lift l.scope s m z v
  relists l e first last is = rw e (changes u.held l refl (omega arith) first last is)

  -- the code took other marks, in a list of the same scope
  pub remarks : {z : Parser} (start last : KeptMark) → z ≡ remarked u start last → MarkOk start u.builder → MarkOk last u.builder
      → Goes (remarked u start last) → Walk t rule rest gain lift scope s m z v
  remarks start last e first second is =
      rw w.scope_is at (relists (record { scope = u.list.scope; start = start; last = last }) e first second is)

  -- nothing is held any more
  pub unholds : {z : Parser} → z ≡ unheld u → Goes (unheld u) → Walk t rule rest gain lift scope s m z v
  unholds e is =
      let y = w.ready.steady in
      rw e (changes u.lexer.token u.list w.scope_is (omega arith) y.start y.last is)

-- ---- a member that hands on to one routine alone

-- the same by another rule that comes to the same
pub runs_as : {t : Tables} {gain : ℕ} {want other : ℕ → ℕ → Out Here} {p : Parser} {m : Buffers} {r : Step} {v : Buffers}
    → Runs t gain want p m r v → ((n d : ℕ) → other n d ≡ want n d) → Runs t gain other p m r v
runs_as {m = m} k same = record { is = λ d h. same (length m.tree) d ∙ k.is d h; gone = k.gone }

-- a routine outside the cycle
pub ran-runs : {t : Tables} {sees : Tables → Type 0} {gain : ℕ} {rule : RuleOf} {p : Parser} {m : Buffers} {r : Step} {v : Buffers}
    → sees t → Ready t p m → Ran sees gain rule p m r v → Runs t gain (λ n d. rule (source_of t) n (pos_of p m)) p m r v
ran-runs {t} seen ready k = record { is = λ d h. (k.told t seen ready).is; gone = (k.told t seen ready).gone }

-- a member that opens a node, called where another level is left
pub above : {t : Tables} {gain : ℕ} {want : ℕ → ℕ → Out Here} {p : Parser} {m : Buffers} {r : Step} {v : Buffers}
    → Runs t gain want p m r v → Runs t gain (λ n d. want n (suc d)) p m r v
above k = record { is = λ d h. k.is (suc d) (omega arith); gone = k.gone }

-- a member that promises less of what it reads than its callee
gone_less : (t : Tables) (gain less : ℕ) (p : Parser) (m v : Buffers) → less ≤ gain → (r : Step)
    → Gone (λ q. Left t gain p m q v) r → Gone (λ q. Left t less p m q v) r
gone_less t gain less p m v h (Ok q) k =
    record {
      passed = weaker less h k.passed;
      ready = k.ready;
      depth = k.depth;
      first = k.first;
      node = k.node;
      scope = k.scope;
    }
gone_less t gain less p m v h (Err e) k = tt

pub read-less : {t : Tables} {gain less : ℕ} {want : ℕ → ℕ → Out Here} {p : Parser} {m : Buffers} {r : Step} {v : Buffers}
    → less ≤ gain → Runs t gain want p m r v → Runs t less want p m r v
read-less {t} {gain} {less} {p = p} {m} {r} {v} h k = record { is = k.is; gone = gone_less t gain less p m v h r k.gone }
