-- The walk of a routine's rule beside its code: one record for where the code stands, one law for each kind of call. Assumes nothing.
use Rattle.std.specs.Prelude.{Result, Ok, Err, IsErr, IsErrAnd}
use Rattle.syntax.specs.declared.refusal.Refused.{Refused}
use mathlib.Core.Path.{◌≡◌, refl, sym, ap, ◌∙◌}
use mathlib.Core.List.{List, [], ◌∷◌}
use Prim.Native.Nat.{ℕ, zero, suc, ◌+◌, ◌*◌, ◌-◌, ◌≤◌}
use native.Mathlib.Omega.{arith}
use lib.ListN.{length, drop}
use lib.Seq.{drop-drop}
use Rattle.rules.specs.Limits.{nodes, tree_width, dropped_width}
use Rattle.rules.specs.Outcome.{Out, went, refused, bind}
use Rattle.rules.specs.Checks.{Tables, source_of}
use Rattle.state.specs.Stands.{Buffers, Here, Step, pos_of, out_of}
use Rattle.state.specs.Contract.{Ready, Passed, Left, Begun, Ended, Gone, Told, RuleOf, Ran, Opens, Closes, Runs, Somehow, left_of, weight}
use Rattle.state.specs.declared.Parser.{Parser}

-- ---- answers

-- what the exit of a `?` is told: it is a refusal, the callee's
abbrev pub HandsOn : {T : Type 0} → Result T Refused → Refused → Type 0
HandsOn r x = IsErr r × IsErrAnd r (λ e. e ≡ x)

pub handed : {T : Type 0} {r : Result T Refused} {x : Refused} → HandsOn r x → r ≡ Err x
handed {r = Ok y} k = absurd k.1
handed {r = Err e} k = ap Err k.1

-- a refusal is handed on, whatever the buffers hold
pub stop : (o : Out Here) (f : Here → Out Here) {r : Step} {x : Refused} (m v : Buffers) → o ≡ out_of r m → r ≡ Err x → bind o f ≡ out_of (Err x) v
stop o f {r} {x} m v e st =
    let e' : o ≡ refused x.number x.place = rw st at e in
    rw e'

pub gone_map : {P Q : Parser → Type 0} (r : Step) → ((q : Parser) → P q → Q q) → Gone P r → Gone Q r
gone_map (Ok q) f g = f q g
gone_map (Err x) f g = tt

pub then_went : (o : Out Here) (f : Here → Out Here) (p : Here) (x : Out Here) → o ≡ went p → f p ≡ x → bind o f ≡ x
then_went o f p x e h = rw e h

-- ---- rules

-- a rule, or what is left of one: over the room and the level
abbrev pub Rule : Type 0
Rule = ℕ → ℕ → Here → Out Here

-- what is left of a rule: steps to be made one after the other, as one rule
unfoldable pub line : List Rule → Rule
line [] n d q = went q
line (f ∷ rest) n d q = bind (f n d q) (line rest n d)

bind-went : (o : Out Here) → bind o (λ q. went q) ≡ o
bind-went (went q) = refl
bind-went (refused number place) = refl

-- the last step is what the rule comes to
pub last_step : (f : Rule) (n d : ℕ) (q : Here) → line (f ∷ []) n d q ≡ f n d q
unfolding line
last_step f n d q = bind-went (f n d q)

-- two steps, the second the last
pub two_steps : (f g : Rule) (n d : ℕ) (q : Here) → line (f ∷ g ∷ []) n d q ≡ bind (f n d q) (g n d)
unfolding line
two_steps f g n d q = then_last (f n d q)
  where
    then_last : (o : Out Here) → bind o (λ x. bind (g n d x) (λ y. went y)) ≡ bind o (g n d)
    then_last (went x) = bind-went (g n d x)
    then_last (refused number place) = refl

-- ---- on the way

-- what two lists share behind a place, they share behind a later one
pub drop_more : (n m : ℕ) (x y : List ℕ) → n ≤ m → drop n x ≡ drop n y → drop m x ≡ drop m y
drop_more n m x y le e =
    let up : n + (m - n) ≡ m = omega arith in
    rw (← up) (sym (drop-drop (m - n) n x) ∙ ap (λ (l : List ℕ). drop (m - n) l) e ∙ drop-drop (m - n) n y)

-- how far q is ahead of p, in numbers
pub record Ahead (t : Tables) (gain : ℕ) (p q : Parser) : Type 0 where
  pub rows : p.builder.rows ≤ q.builder.rows
  pub dropped : p.dropped ≤ q.dropped
  pub token : p.lexer.token ≤ q.lexer.token
  pub read : left_of t q + gain ≤ left_of t p
  pub light : weight t q ≤ weight t p

-- what both buffers share behind q's rows, their lengths, and the numbers
pub passing : {t : Tables} {gain : ℕ} {p : Parser} {m : Buffers} {q : Parser} {v : Buffers}
    → drop (q.builder.rows * tree_width) v.tree ≡ drop (q.builder.rows * tree_width) m.tree
    → drop (q.dropped * dropped_width) v.dropped ≡ drop (q.dropped * dropped_width) m.dropped
    → length v.tree ≡ length m.tree → length v.dropped ≡ length m.dropped → Ahead t gain p q
    → Passed t gain p m q v
passing tree notes tree_long notes_long a = record {
  tree = tree;
  notes = notes;
  tree_long = tree_long;
  notes_long = notes_long;
  rows = a.rows;
  dropped = a.dropped;
  token = a.token;
  read = a.read;
  light = a.light;
}

pub passed_then : {t : Tables} {g h : ℕ} {p : Parser} {m : Buffers} {q : Parser} {v : Buffers} {z : Parser} {x : Buffers} → Passed t g p m q v
    → Passed t h q v z x → Passed t (g + h) p m z x
passed_then {m} {q} {v} {z} a b =
    passing
    (b.tree ∙ drop_more (q.builder.rows * tree_width) (z.builder.rows * tree_width) v.tree m.tree (omega arith) a.tree)
    (b.notes ∙ drop_more (q.dropped * dropped_width) (z.dropped * dropped_width) v.dropped m.dropped (omega arith) a.notes)
    (b.tree_long ∙ a.tree_long) (b.notes_long ∙ a.notes_long) (omega arith)

-- nothing was done
pub stays : {t : Tables} {p : Parser} {m : Buffers} → Passed t 0 p m p m
stays = passing refl refl refl refl (omega arith)

-- less is claimed of what was read
pub weaker : {t : Tables} {g : ℕ} {p : Parser} {m : Buffers} {q : Parser} {v : Buffers} (h : ℕ) → h ≤ g → Passed t g p m q v → Passed t h p m q v
weaker h le a = passing a.tree a.notes a.tree_long a.notes_long (omega arith)

-- ---- where the code stands

-- in s's own node the first child and the start row are s's; of a node that was opened since, nothing is said
abbrev pub Home : ℕ → Parser → Parser → Type 0
Home zero s u = (u.builder.first ≡ s.builder.first) × (u.builder.node ≡ s.builder.node)
Home (suc lift) s u = Unit {0}

pub stays_home : (lift : ℕ) (s u z : Parser) → z.builder.first ≡ u.builder.first → z.builder.node ≡ u.builder.node → Home lift s u
    → Home lift s z
stays_home zero s u z a b h = (a ∙ h.0, b ∙ h.1)
stays_home (suc lift) s u z a b h = tt

-- from s and m the code came to u and v: `rest` is left of the rule, at least `gain` was read, `lift` nodes are open that were not,
-- and the list's scope is `scope`
pub record Walk (t : Tables) (rule : Rule) (rest : List Rule) (gain lift scope : ℕ) (s : Parser) (m : Buffers) (u : Parser)
    (v : Buffers) : Type 0 where
  pub is : (d : ℕ) → nodes ≤ s.builder.depth + d → rule (length m.tree) d (pos_of s m) ≡ line rest (length m.tree) d (pos_of u v)
  pub passed : Passed t gain s m u v
  pub ready : Ready t u v
  pub depth : u.builder.depth ≡ s.builder.depth + lift
  pub few : lift ≤ nodes - s.builder.depth
  pub home : Home lift s u
  pub scope_is : u.list.scope ≡ scope

-- any callee's contract in one form
pub record Call (t : Tables) (f : Rule) (lift : ℕ) (Q : Parser → Type 0) (u : Parser) (v : Buffers) (r : Step) (x : Buffers) : Type 0 where
  pub is : Ready t u v → (d : ℕ) → nodes + lift ≤ u.builder.depth + d → f (length v.tree) d (pos_of u v) ≡ out_of r x
  pub gone : Ready t u v → Gone Q r

-- a routine outside the cycle
pub ran : {t : Tables} {sees : Tables → Type 0} {gain : ℕ} {rule : RuleOf} {u : Parser} {v : Buffers} {r : Step} {x : Buffers} {lift : ℕ}
    → sees t → Ran sees gain rule u v r x → Call t (λ n d. rule (source_of t) n) lift (λ q. Left t gain u v q x) u v r x
ran {t} seen k = record { is = λ ready d h. (k.told t seen ready).is; gone = λ ready. (k.told t seen ready).gone }

pub opens : {t : Tables} {rule : ℕ → Here → Out Here} {u : Parser} {v : Buffers} {r : Step} {x : Buffers} {lift : ℕ}
    → Opens rule u v r x → Call t (λ n d. rule n) lift (λ q. Begun t u v q x) u v r x
opens {t} k = record { is = λ ready d h. (k.told t ready.steady).is; gone = λ ready. (k.told t ready.steady).gone }

pub closes : {t : Tables} {rule : ℕ → Here → Out Here} {first node : ℕ} {u : Parser} {v : Buffers} {r : Step} {x : Buffers} {lift : ℕ}
    → Closes rule first node u v r x → Call t (λ n d. rule n) lift (λ q. Ended t first node u v q x) u v r x
closes {t} k = record { is = λ ready d h. (k.told t ready).is; gone = λ ready. (k.told t ready).gone }

-- ---- a walk begins

pub begins : {t : Tables} {rule : Rule} {rest : List Rule} {s : Parser} {m : Buffers} → Ready t s m
    → ((n d : ℕ) → rule n d (pos_of s m) ≡ line rest n d (pos_of s m))
    → Walk t rule rest 0 0 s.list.scope s m s m
begins {m} ready e =
    record {
      is = λ d h. e (length m.tree) d;
      passed = stays;
      ready = ready;
      depth = omega arith;
      few = omega arith;
      home = (refl, refl);
      scope_is = refl;
    }

-- ---- a walk and the next step, f

module _ {t : Tables} {rule f : Rule} {rest : List Rule} {gain lift : ℕ} {scope : ℕ} {s : Parser} {m : Buffers} {u : Parser} {v : Buffers} {r : Step}
    {x : Buffers}
    (w : Walk t rule (f ∷ rest) gain lift scope s m u v) where
  -- what f comes to, at the caller's room and level
  pub call_is : {Q : Parser → Type 0} → Call t f lift Q u v r x → (d : ℕ) → nodes ≤ s.builder.depth + d
      → f (length m.tree) d (pos_of u v) ≡ out_of r x
  call_is k d h =
      let depth = w.depth in
      rw w.passed.tree_long at (k.is w.ready d (omega arith))

  -- what a callee that went leaves
  pub leaves : {Q : Parser → Type 0} {z : Parser} → Call t f lift Q u v r x → r ≡ Ok z → Q z
  leaves k e = rw e at (k.gone w.ready)

  -- what is left of the rule when the callee went
  pub steps_on : {Q : Parser → Type 0} {z : Parser} → Call t f lift Q u v r x → r ≡ Ok z → (d : ℕ) → nodes ≤ s.builder.depth + d
      → rule (length m.tree) d (pos_of s m) ≡ line rest (length m.tree) d (pos_of z x)
  unfolding line
  steps_on {z} k e d h =
      let went_is : out_of r x ≡ went (pos_of z x) = ap (λ (y : Step). out_of y x) e in
      w.is d h ∙ then_went _ _ _ _ (call_is k d h ∙ went_is) refl

  -- the callee went, and left the node as it was
  pub passes : {more : ℕ} {z : Parser} → Call t f lift (λ q. Left t more u v q x) u v r x → r ≡ Ok z
      → Walk t rule rest (gain + more) lift scope s m z x
  passes {z} k e =
      let left = leaves k e in
      record {
        is = steps_on k e;
        passed = passed_then w.passed left.passed;
        ready = left.ready;
        depth = left.depth ∙ w.depth;
        few = w.few;
        home = stays_home lift s u z left.first left.node w.home;
        scope_is = left.scope ∙ w.scope_is;
      }

  -- the callee went, and opened a node
  pub enters : {z : Parser} → Call t f lift (λ q. Begun t u v q x) u v r x → r ≡ Ok z → Walk t rule rest gain (suc lift) scope s m z x
  enters k e =
      let b = leaves k e in
      let depth = w.depth in
      let few = w.few in
      let passed = passed_then w.passed b.passed in
      record {
        is = steps_on k e;
        passed = weaker gain (omega arith) passed;
        ready = b.ready;
        depth = let deeper = b.depth in omega arith;
        few = let fewer = b.few in omega arith;
        home = tt;
        scope_is = ap (λ l. l.scope) b.list ∙ w.scope_is;
      }

  -- the callee was refused: what the rule is
  pub stops-is : {Q : Parser → Type 0} {e : Refused} → Call t f lift Q u v r x → r ≡ Err e → (y : Buffers) (d : ℕ) → nodes ≤ s.builder.depth + d
      → rule (length m.tree) d (pos_of s m) ≡ out_of (Err e) y
  unfolding line
  stops-is k st y d h = w.is d h ∙ stop _ _ _ y (call_is k d h) st

  -- the callee was refused, and so is the routine
  pub stops : {any : ℕ} {Q : Parser → Type 0} {y : Buffers} {e : Refused} → Call t f lift Q u v r x → r ≡ Err e
      → Runs t any (λ n d. rule n d (pos_of s m)) s m (Err e) y
  stops {y} k st = record { is = stops-is k st y; gone = tt }

-- ---- a walk goes on without a call

module _ {t : Tables} {rule : Rule} {rest : List Rule} {gain lift : ℕ} {scope : ℕ} {s : Parser} {m : Buffers} {u : Parser} {v : Buffers}
    (w : Walk t rule rest gain lift scope s m u v) where
  -- a test was met, or a name has its value here: what is left is `next`
  pub turns : {next : List Rule} → ((n d : ℕ) → line rest n d (pos_of u v) ≡ line next n d (pos_of u v)) → Walk t rule next gain lift scope s m u v
  turns e = record {
    is = λ d h. w.is d h ∙ e (length m.tree) d;
    passed = w.passed;
    ready = w.ready;
    depth = w.depth;
    few = w.few;
    home = w.home;
    scope_is = w.scope_is;
  }

  -- less is claimed of what was read, as a loop's invariant wants it
  pub forgets : Walk t rule rest 0 lift scope s m u v
  forgets = record {
    is = w.is;
    passed = weaker 0 (omega arith) w.passed;
    ready = w.ready;
    depth = w.depth;
    few = w.few;
    home = w.home;
    scope_is = w.scope_is;
  }

-- ---- a walk ends

-- nothing is left of the rule, in the routine's own node
pub arrives : {t : Tables} {rule : Rule} {gain : ℕ} {s : Parser} {m : Buffers} {u : Parser} {v : Buffers}
    → Walk t rule [] gain 0 s.list.scope s m u v → Runs t gain (λ n d. rule n d (pos_of s m)) s m (Ok u) v
unfolding line
arrives w =
    let depth = w.depth in
    record {
      is = w.is;
      gone = record { passed = w.passed; ready = w.ready; depth = omega arith; first = w.home.0; node = w.home.1; scope = w.scope_is };
    }

-- the last step is another routine in the same node
pub hands_on : {t : Tables} {rule f : Rule} {gain more : ℕ} {s : Parser} {m : Buffers} {u : Parser} {v : Buffers} {r : Step} {x : Buffers}
    → Walk t rule (f ∷ []) gain 0 s.list.scope s m u v → Call t f 0 (λ q. Left t more u v q x) u v r x
    → Runs t (gain + more) (λ n d. rule n d (pos_of s m)) s m r x
hands_on {t} {f = f} {gain} {more} {s} {m} {u} {v} {r} {x} w k =
    let depth = w.depth in
    record {
      is = λ d h. w.is d h ∙ last_step f (length m.tree) d (pos_of u v) ∙ call_is w k d h;
      gone = gone_map {Q = λ q. Left t (gain + more) s m q x} r (λ q left. record {
        passed = passed_then w.passed left.passed;
        ready = left.ready;
        depth = let same = left.depth in omega arith;
        first = left.first ∙ w.home.0;
        node = left.node ∙ w.home.1;
        scope = left.scope ∙ w.scope_is;
      }) (k.gone w.ready);
    }

-- a rule that does not ask for the level
pub levelless : {t : Tables} {want : ℕ → Here → Out Here} {gain : ℕ} {p : Parser} {m : Buffers} {r : Step} {v : Buffers}
    → Runs t gain (λ n d. want n (pos_of p m)) p m r v → Told want (λ q. Left t gain p m q v) p m r v
levelless k = record { is = k.is nodes (omega arith); gone = k.gone }

-- the same routine by another rule that comes to the same
pub ran-as : {sees : Tables → Type 0} {gain : ℕ} {rule other : RuleOf} {p : Parser} {m : Buffers} {r : Step} {v : Buffers}
    → Ran sees gain rule p m r v → ((t : Tables) → sees t → (n : ℕ) → other (source_of t) n (pos_of p m) ≡ rule (source_of t) n (pos_of p m))
    → Ran sees gain other p m r v
ran-as {m = m} k same = record {
  told = λ t seen ready. record { is = same t seen (length m.tree) ∙ (k.told t seen ready).is; gone = (k.told t seen ready).gone };
}

-- a routine that did nothing
pub nothing-done : {sees : Tables → Type 0} {rule : RuleOf} {p : Parser} {m : Buffers}
    → ((t : Tables) → sees t → (n : ℕ) → rule (source_of t) n (pos_of p m) ≡ went (pos_of p m)) → Ran sees 0 rule p m (Ok p) m
nothing-done {m = m} same = record {
  told = λ t seen ready. record {
    is = same t seen (length m.tree);
    gone = record { passed = stays; ready = ready; depth = refl; first = refl; node = refl; scope = refl };
  };
}

-- less is claimed of what was read
pub ran-less : {sees : Tables → Type 0} {gain : ℕ} {rule : RuleOf} {p : Parser} {m : Buffers} {r : Step} {v : Buffers} → Ran sees gain rule p m r v
    → Ran sees 0 rule p m r v
ran-less {p = p} {m} {r} {v} k = record {
  told = λ t seen ready. record {
    is = (k.told t seen ready).is;
    gone = gone_map {Q = λ q. Left t 0 p m q v} r (λ q l. record {
      passed = weaker 0 (omega arith) l.passed;
      ready = l.ready;
      depth = l.depth;
      first = l.first;
      node = l.node;
      scope = l.scope;
    }) (k.told t seen ready).gone;
  };
}

-- a routine whose walk is known for all tables that agree
pub ran-by : {sees : Tables → Type 0} {gain : ℕ} {rule : RuleOf} {p : Parser} {m : Buffers} {r : Step} {v : Buffers}
    → ((t : Tables) → sees t → Ready t p m → Runs t gain (λ n d. rule (source_of t) n (pos_of p m)) p m r v) → Ran sees gain rule p m r v
ran-by k = record { told = λ t seen ready. levelless (k t seen ready) }

-- ---- what is asked of the next token

-- a state for which its tables are known, whatever they are: a step on
pub somehow_then : {sees : Tables → Type 0} {p : Parser} {tree : List ℕ} {q : Parser} {after : List ℕ} (s : Somehow sees p tree)
    → Ready s.t q (record { tree = after; dropped = s.notes }) → Somehow sees q after
somehow_then s ready = record { t = s.t; notes = s.notes; seen = s.seen; ready = ready }
