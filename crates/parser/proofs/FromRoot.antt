-- The root's walk: it begins where no node is open, so its first step is taken by itself; the others are a routine's. Assumes nothing.
use Rattle.syntax.specs.declared.refusal.Refused.{Refused}
use Rattle.std.specs.Prelude.{Ok, Err}
use mathlib.Core.Path.{◌≡◌, refl, ap, ◌∙◌}
use mathlib.Core.List.{List, [], ◌∷◌}
use Prim.Native.Nat.{ℕ, ◌+◌, ◌≤◌}
use native.Mathlib.Omega.{arith}
use lib.ListN.{length}
use Rattle.rules.specs.Checks.{Tables, source_of}
use Rattle.rules.specs.Cursor.{left}
use Rattle.rules.specs.Flat.{flat, empty}
use Rattle.rules.specs.Limits.{nodes}
use Rattle.rules.specs.Outcome.{Out, went}
use Rattle.rules.specs.Position as position
use Rattle.rules.specs.Position.{steps}
use Rattle.rules.specs.Reading as spec
use Rattle.rules.specs.Scope as scopes
use Rattle.rules.specs.SyntaxKind as kinds
use Rattle.lexer.proofs.Laws.{start_fine}
use Rattle.state.specs.Contract.{Steady, Begun, Ended, Opens}
use Rattle.state.specs.Stands.{Step, Buffers, Here, pos_of, out_of}
use Rattle.state.specs.declared.Parser.{Parser}
use Rattle.state.proofs.Walk.{HandsOn, handed, Rule, line, Walk, Call, stop, gone_map, passed_then, steps_on, stops-is}
use Rattle.parser.specs.Member.{inner_at}
use Rattle.state.proofs.Marks.{no_mark_lem}
use Rattle.parser.specs.Root.{at_root, Readable, Written, Parsed}

-- the rule, as its steps
abbrev pub plan : Tables → List Rule
plan t =
    (λ n d. position.start (flat n) kinds.ScopeRoot)
    ∷ (λ n d. spec.item_list (flat n) (source_of t) (inner_at t n d) scopes.Root)
    ∷ (λ n d. position.finish (flat n) kinds.ScopeRoot (record { first = 0; node = 0 }))
    ∷ []

plan_is : (t : Tables) (m : Buffers) (n : ℕ) → spec.parse (flat n) (source_of t) empty ≡ line (plan t) n nodes (pos_of at_root m)
unfolding spec.parse steps line
plan_is t m n = refl

-- where reading begins
pub root-steady : {t : Tables} {m : Buffers} → Readable t m.dropped → Steady t at_root m
unfolding left
root-steady readable =
    let good = readable.good in
    let few = good.few in
    record {
      good = good;
      fine = start_fine good.sound;
      token = omega arith;
      fits = record { room = omega arith; leaves = omega arith; children = omega arith };
      start = no_mark_lem at_root.builder;
      last = no_mark_lem at_root.builder;
      dropped = omega arith;
      notes = readable.room;
      light = omega arith;
    }

-- the root was opened
pub roots : {t : Tables} {f : ℕ → Here → Out Here} {rest : List Rule} {s : Parser} {m : Buffers} {r : Step} {x : Buffers} {z : Parser}
    → Steady t s m → Opens f s m r x → r ≡ Ok z → Walk t (line ((λ n d. f n) ∷ rest)) rest 0 1 s.list.scope s m z x
unfolding line
roots {t} {f} {rest} {s} {m} {r} {x} {z} steady k e =
    let told = k.told t steady in
    let begun : Begun t s m z x = rw e at told.gone in
    let few = begun.few in
    let is : f (length m.tree) (pos_of s m) ≡ went (pos_of z x) = told.is ∙ ap (λ (y : Step). out_of y x) e in
    record {
      is = λ d h. rw is;
      passed = begun.passed;
      ready = begun.ready;
      depth = begun.depth;
      few = omega arith;
      home = tt;
      scope_is = ap (λ l. l.scope) begun.list;
    }

-- the last step, whatever it comes to
last_is : {t : Tables} {rule f : Rule} {gain : ℕ} {scope : ℕ} {s : Parser} {m : Buffers} {u : Parser} {v : Buffers} {Q : Parser → Type 0}
    {x : Buffers} (r : Step) → Walk t rule (f ∷ []) gain 1 scope s m u v → Call t f 1 Q u v r x
    → (d : ℕ) → nodes ≤ s.builder.depth + d → rule (length m.tree) d (pos_of s m) ≡ out_of r x
unfolding line
last_is (Ok q) w k d h = steps_on w k refl d h
last_is {x = x} (Err e) w k d h = stops-is w k refl x d h

module _ {t : Tables} {m : Buffers} {r : Step} {x : Buffers} where
  -- the root was not opened
  pub root-refused : {v : Buffers} {e : Refused} {s : Step} → Steady t at_root m
      → Opens (λ n. position.start (flat n) kinds.ScopeRoot) at_root m r v → r ≡ Err e → HandsOn s e → Parsed t m s x
  unfolding line
  root-refused {v} steady k st hands =
      rw (handed hands) (record { is = plan_is t m (length m.tree) ∙ stop _ _ v x (k.told t steady).is st; gone = tt })

  -- a step inside it was refused
  pub parsed_refused : {e : Refused} {o : Step} {f : Rule} {rest : List Rule} {gain scope : ℕ} {u : Parser} {v y : Buffers} {Q : Parser → Type 0}
      → Walk t (line (plan t)) (f ∷ rest) gain 1 scope at_root m u v → Call t f 1 Q u v r y → r ≡ Err e → HandsOn o e
      → Parsed t m o x
  parsed_refused w k st hands =
      rw (handed hands) (record { is = plan_is t m (length m.tree) ∙ stops-is w k st x nodes (omega arith); gone = tt })

  -- the root was ended
  pub parsed : {f : Rule} {gain : ℕ} {scope : ℕ} {u : Parser} {v : Buffers} {first node : ℕ}
      → Walk t (line (plan t)) (f ∷ []) gain 1 scope at_root m u v → Call t f 1 (λ q. Ended t first node u v q x) u v r x → Parsed t m r x
  parsed w k =
      record {
        is = plan_is t m (length m.tree) ∙ last_is r w k nodes (omega arith);
        gone = gone_map {Q = Written m x} r (λ q e.
            let passed = passed_then w.passed e.passed in
            let steady = e.steady in
            let dropped = steady.dropped in
            let token = steady.token in
            let notes = steady.notes in
            record { rows = steady.fits.room; dropped = omega arith; tree_rest = passed.tree; dropped-rest = passed.notes }) (k.gone w.ready);
      }
