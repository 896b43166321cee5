-- An argument's node: it begins once what is held is dropped, and behind its end nothing is held. Assumes nothing.
use Rattle.std.specs.Prelude.{Ok, Err}
use Rattle.syntax.specs.declared.refusal.Refused.{Refused}
use mathlib.Core.Path.{◌≡◌, refl, ap, ◌∙◌}
use mathlib.Core.List.{List}
use Prim.Native.Nat.{ℕ}
use native.Mathlib.Omega.{arith}
use Rattle.rules.specs.Flat.{flat, Frame}
use Rattle.rules.specs.Position as position
use Rattle.rules.specs.Position.{Source, steps}
use Rattle.rules.specs.Routines as spec
use Rattle.rules.specs.SyntaxKind.{ClauseArgument}
use Rattle.rules.specs.Checks.{Tables, source_of}
use Rattle.builder.specs.Contract.{Fits}
use Rattle.builder.specs.Stands as shown
use Rattle.builder.specs.declared.Frame.{Frame as CodeFrame}
use Rattle.state.specs.Stands.{Buffers, Step, out_of}
use Rattle.state.specs.Change.{unheld}
use Rattle.state.specs.Contract.{Ended, Opens, Begins, Closes, Holding, Ignored, Slice, LeftOf, buffers}
use Rattle.state.specs.declared.Parser.{Parser}
use Rattle.routines.proofs.HeldLaws.{ignores}
use Rattle.state.proofs.Left.{steady_changed}
use Rattle.state.proofs.Turn.{begins-last}
use Rattle.state.proofs.Walk.{line, begins, passes, opens, passing, HandsOn, handed, stop, then_went}

-- ---- its begin

pub ignored-begins : {p ignored : Parser} {tree before after grown : List ℕ} {r : Step} → Holding p → Ignored p before ignored after
    → ((notes : List ℕ) → Opens (λ n. position.start (flat n) ClauseArgument) ignored (buffers tree notes) r (buffers grown notes))
    → Begins (λ s n. spec.argument_begins (flat n) s) p (buffers tree before) r (buffers grown after)
unfolding spec.argument_begins steps line
ignored-begins {p} {ignored} {after = after} holding dropped starts = record {
  told = λ t ready.
      let w = passes {rule = λ n d. spec.argument_begins (flat n) (source_of t)} (begins ready (λ n d. refl)) (ignores holding dropped) refl in
      begins-last w (ap (λ (q : Parser). q.lexer) dropped.state) (ap (λ (q : Parser). q.list) dropped.state) (opens (starts after));
}

-- a state in which what is held was dropped has the same rows
pub ignored-fits : {p ignored : Parser} {before after tree : List ℕ} → Ignored p before ignored after → Fits p.builder tree
    → Fits ignored.builder tree
ignored-fits dropped fits = rw dropped.state fits

-- what is left of the next token is left of it inside the node too
pub left-still : (tokens word : Slice) (p q : Parser) (t : Tables) → q.lexer ≡ p.lexer → LeftOf tokens word p t → LeftOf tokens word q t
left-still tokens word p q t same is = rw same is

-- ---- its end

module _ (frame : Frame) {p : Parser} {m : Buffers} {r : Step} {v : Buffers} {first node : ℕ}
    (finished : Closes (λ n. position.finish (flat n) ClauseArgument frame) first node p m r v) where
  pub end-stops : {e : Refused} {z : Step} → r ≡ Err e → HandsOn z e → (s : Source)
      → Closes (λ n. spec.argument_ends (flat n) s frame) first node p m z v
  unfolding spec.argument_ends steps
  end-stops st hands s = rw (handed hands) (record {
    told = λ t ready. record { is = stop _ _ _ v (finished.told t ready).is st; gone = tt };
  })

  pub end-unholds : {q z : Parser} → r ≡ Ok q → z ≡ unheld q → (s : Source)
      → Closes (λ n. spec.argument_ends (flat n) s frame) first node p m (Ok z) v
  unfolding spec.argument_ends steps
  end-unholds {q} {z} e is s = rw is (record {
    told = λ t ready.
        let ended : Ended t first node p m q v = rw e at (finished.told t ready).gone in
        let passed = ended.passed in
        let y = ended.steady in
        record {
          is = then_went _ _ _ _ ((finished.told t ready).is ∙ ap (λ (x : Step). out_of x v) e) refl;
          gone = record {
            passed = passing passed.tree passed.notes passed.tree_long passed.notes_long (omega arith);
            steady = steady_changed q.lexer.token q.list y (omega arith) y.start y.last;
            depth = ended.depth;
            first-is = ended.first-is;
            node_is = ended.node_is;
            list = ended.list;
            lexer = ended.lexer;
          };
        };
  })

-- its end, where these are the dropped rows
abbrev Ending : Source → Frame → ℕ → ℕ → Parser → Step → List ℕ → List ℕ → List ℕ → Type 0
Ending s frame first node p r tree after notes =
    Closes (λ n. spec.argument_ends (flat n) s frame) first node p (buffers tree notes) r (buffers after notes)

-- where the code computed the frame
pub framed : {p : Parser} {tree after : List ℕ} {r : Step} {given : CodeFrame} {first node : ℕ} (s : Source)
    → given ≡ record { first = first; node = node }
    → ((notes : List ℕ) → Ending s (shown.frame_of given) given.first given.node p r tree after notes)
    → (notes : List ℕ) → Ending s (record { first = first; node = node }) first node p r tree after notes
framed s e k notes = rw e at (k notes)
