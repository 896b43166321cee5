-- How a call ended, for the walk of a routine: said once at the call, and read by every goal behind it. Assumes nothing.
use Rattle.std.specs.Prelude.{Option, Ok, Err}
use Rattle.syntax.specs.declared.refusal.Refused.{Refused}
use mathlib.Core.Path.{◌≡◌, refl, ap, ◌∙◌}
use native.Mathlib.Omega.{arith}
use Rattle.rules.specs.Limits.{nodes}
use Rattle.rules.specs.Tables.{token_count}
use mathlib.Core.List.{List, [], ◌∷◌}
use Prim.Native.Nat.{ℕ, suc, ◌+◌, ◌<◌}
use lib.ListN.{length}
use Rattle.rules.specs.Checks.{Tables, source_of}
use Rattle.rules.specs.Flat.{flat}
use Rattle.rules.specs.Position as position
use Rattle.rules.specs.Position.{Source}
use Rattle.rules.specs.Routines.{start_around}
use Rattle.state.specs.Stands.{Buffers, Step, pos_of, option_of}
use Rattle.builder.specs.declared.Checkpoint.{Checkpoint}
use Rattle.builder.specs.Stands as shown
use Rattle.builder.specs.declared.Frame.{Frame}
use Rattle.state.specs.Contract.{Ready, Left, Begun, Ended, Runs, Opens, Begins, Closes, Ran, RuleOf, Told, buffers}
use Rattle.state.specs.declared.Parser.{Parser}
use Rattle.state.proofs.Walk.{Rule, Walk, Call, call_is, last_step, ran, opens, closes, passes, enters, stops, arrives, leaves, steps_on, passed_then, weaker, gone_map}

-- ---- a node's start and its end, where the code computed the kind and the frame

-- a node's end, whatever the dropped buffer holds
abbrev Finishing : ℕ → Frame → Parser → Step → List ℕ → List ℕ → Type 0
Finishing kind frame u r tree after =
    (notes : List ℕ)
    → Closes (λ n. position.finish (flat n) kind (shown.frame_of frame)) frame.first frame.node u (buffers tree notes) r (buffers after notes)

module _ {t : Tables} {kind given : ℕ} {u : Parser} {r : Step} {tree after notes : List ℕ} {lift : ℕ} where
  pub starts : given ≡ kind → ((notes : List ℕ) → Opens (λ n. position.start (flat n) given) u (buffers tree notes) r (buffers after notes))
      → Call t (λ n d. position.start (flat n) kind) lift (λ q. Begun t u (buffers tree notes) q (buffers after notes))
      u (buffers tree notes) r (buffers after notes)
  starts e k = opens (rw e at (k notes))

  pub finishes : {frame : Frame} {first node : ℕ} → given ≡ kind → frame ≡ record { first = first; node = node }
      → Finishing given frame u r tree after
      → Call t (λ n d. position.finish (flat n) kind (record { first = first; node = node })) lift
      (λ q. Ended t first node u (buffers tree notes) q (buffers after notes)) u (buffers tree notes) r (buffers after notes)
  finishes e f k = closes (rw (e, f) at (k notes))

-- a node that begins around what stands from a mark on, where the code computed the mark
pub around : (kind : ℕ) {t : Tables} {at given : Option Checkpoint} {u : Parser} {r : Step} {tree after notes : List ℕ} {lift : ℕ} → given ≡ at
    → ((s : Source) (notes : List ℕ) → Opens (λ n. start_around (flat n) s kind (option_of given)) u (buffers tree notes) r (buffers after notes))
    → Call t (λ n d. start_around (flat n) (source_of t) kind (option_of at)) lift (λ q. Begun t u (buffers tree notes) q (buffers after notes))
    u (buffers tree notes) r (buffers after notes)
around kind {t} {notes = notes} e k = opens (rw e at (k (source_of t) notes))

-- a routine that begins a node
pub begins-in : {t : Tables} {rule : RuleOf} {u : Parser} {v : Buffers} {r : Step} {x : Buffers} {lift : ℕ}
    → Begins rule u v r x → Call t (λ n d. rule (source_of t) n) lift (λ q. Begun t u v q x) u v r x
begins-in {t} k = record { is = λ ready d h. (k.told t ready).is; gone = λ ready. (k.told t ready).gone }

-- a routine that was given what the code computed
pub ran-at : {X : Type 0} (rule : X → RuleOf) {t : Tables} {sees : Tables → Type 0} {gain : ℕ} {x y : X}
    → {u : Parser} {r : Step} {tree after notes : List ℕ} {lift : ℕ}
    → sees t → y ≡ x → ((notes : List ℕ) → Ran sees gain (rule y) u (buffers tree notes) r (buffers after notes))
    → Call t (λ n d. rule x (source_of t) n) lift (λ q. Left t gain u (buffers tree notes) q (buffers after notes))
    u (buffers tree notes) r (buffers after notes)
ran-at rule {notes = notes} seen e k = ran seen (rw e at (k notes))

-- a node's start reads nothing: what was next is next in the node
pub still_next : {t : Tables} {f : Rule} {u : Parser} {v : Buffers} {r : Step} {x : Buffers} {z : Parser}
    → Ready t u v → Call t f 0 (λ q. Begun t u v q x) u v r x → r ≡ Ok z → u.lexer.token < token_count t.tokens
    → z.lexer.token < token_count t.tokens
still_next {t} {u = u} {v} {x = x} {z} ready k e next =
    let begun : Begun t u v z x = rw e at (k.gone ready) in
    rw begun.lexer next

-- ---- a node is ended before the last step

-- the callee went, and ended the node that the routine opened: it is in its own again
pub leaves-node : {t : Tables} {rule f : Rule} {rest : List Rule} {gain scope : ℕ} {s : Parser} {m : Buffers}
    → {u : Parser} {v : Buffers} {r : Step} {x : Buffers} {z : Parser}
    → Ready t s m → Walk t rule (f ∷ rest) gain 1 scope s m u v → Call t f 1 (λ q. Ended t s.builder.first s.builder.node u v q x) u v r x
    → r ≡ Ok z
    → Walk t rule rest gain 0 scope s m z x
leaves-node {gain = gain} ready w k e =
    let ended = leaves w k e in
    let passed = passed_then w.passed ended.passed in
    let depth = w.depth in
    let shallower = ended.depth in
    let first = ended.first-is in
    let node = ended.node_is in
    let within = ready.within in
    let rows = passed.rows in
    record {
      is = steps_on w k e;
      passed = weaker gain (omega arith) passed;
      ready = record { steady = ended.steady; within = omega arith };
      depth = omega arith;
      few = omega arith;
      home = (first, node);
      scope_is = ap (λ l. l.scope) ended.list ∙ w.scope_is;
    }

-- ---- a turn

-- it was refused, and so is the routine; or it went, and `rest` is left. Either way the buffers are as long as at the entry
pub record Turn (t : Tables) (rule : Rule) (rest : List Rule) (gain lift scope : ℕ) (s : Parser) (m : Buffers) (r : Step) (x : Buffers) : Type 0 where
  pub refused : {any : ℕ} {e : Refused} → r ≡ Err e → Runs t any (λ n d. rule n d (pos_of s m)) s m (Err e) x
  pub went : {z : Parser} → r ≡ Ok z → Walk t rule rest gain lift scope s m z x
  pub tree_long : length x.tree ≡ length m.tree
  pub notes_long : length x.dropped ≡ length m.dropped

module _ {t : Tables} {rule f : Rule} {rest : List Rule} {gain : ℕ} {scope : ℕ} {s : Parser} {m : Buffers} {u : Parser} {v : Buffers} {r : Step}
    {x : Buffers} where
  -- a callee that leaves the node as it was
  pub calls : {lift more : ℕ} (w : Walk t rule (f ∷ rest) gain lift scope s m u v) → Call t f lift (λ q. Left t more u v q x) u v r x
      → length x.tree ≡ length v.tree → length x.dropped ≡ length v.dropped → Turn t rule rest (gain + more) lift scope s m r x
  calls w k tree notes = record {
    refused = stops w k;
    went = passes w k;
    tree_long = tree ∙ w.passed.tree_long;
    notes_long = notes ∙ w.passed.notes_long;
  }

  -- a callee that opens a node
  pub opening : {lift : ℕ} (w : Walk t rule (f ∷ rest) gain lift scope s m u v) → Call t f lift (λ q. Begun t u v q x) u v r x
      → length x.tree ≡ length v.tree → length x.dropped ≡ length v.dropped → Turn t rule rest gain (suc lift) scope s m r x
  opening w k tree notes = record {
    refused = stops w k;
    went = enters w k;
    tree_long = tree ∙ w.passed.tree_long;
    notes_long = notes ∙ w.passed.notes_long;
  }

  -- a callee that ends the node that the routine opened
  pub closing : Ready t s m → (w : Walk t rule (f ∷ rest) gain 1 scope s m u v)
      → Call t f 1 (λ q. Ended t s.builder.first s.builder.node u v q x) u v r x
      → length x.tree ≡ length v.tree → length x.dropped ≡ length v.dropped → Turn t rule rest gain 0 scope s m r x
  closing ready w k tree notes = record {
    refused = stops w k;
    went = leaves-node ready w k;
    tree_long = tree ∙ w.passed.tree_long;
    notes_long = notes ∙ w.passed.notes_long;
  }

-- the last call, in the routine's own node: as it ended, so does the routine
pub done : {t : Tables} {rule : Rule} {gain : ℕ} {s : Parser} {m : Buffers} {r : Step} {x : Buffers} → Turn t rule [] gain 0 s.list.scope s m r x
    → Runs t gain (λ n d. rule n d (pos_of s m)) s m r x
done {t} {rule} {gain} {s} {m} {r} {x} k = either r k
  where
    either : (r : Step) → Turn t rule [] gain 0 s.list.scope s m r x → Runs t gain (λ n d. rule n d (pos_of s m)) s m r x
    either (Ok z) k = arrives (k.went refl)
    either (Err e) k = k.refused refl

-- a routine that begins a node by its last step, and reads nothing before it
pub begins-last : {t : Tables} {rule f : Rule} {scope : ℕ} {s : Parser} {m : Buffers} {u : Parser} {v : Buffers} {r : Step} {x : Buffers}
    → Walk t rule (f ∷ []) 0 0 scope s m u v → u.lexer ≡ s.lexer → u.list ≡ s.list → Call t f 0 (λ q. Begun t u v q x) u v r x
    → Told (λ n. rule n nodes) (λ q. Begun t s m q x) s m r x
begins-last {t} {f = f} {s = s} {m} {u} {v} {r} {x} w same-lexer same-list k =
    let depth = w.depth in
    record {
      is = w.is nodes (omega arith) ∙ last_step f (length m.tree) nodes (pos_of u v) ∙ call_is w k nodes (omega arith);
      gone = gone_map {Q = λ q. Begun t s m q x} r (λ q b.
          let deeper = b.depth in
          let few = b.few in
          record {
            passed = weaker 0 (omega arith) (passed_then w.passed b.passed);
            ready = b.ready;
            few = omega arith;
            depth = omega arith;
            list = b.list ∙ same-list;
            lexer = b.lexer ∙ same-lexer;
          }) (k.gone w.ready);
    }
