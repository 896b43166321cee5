-- The loop of arguments: its invariant is the walk so far, with turns enough for what is left to read. A turn ends, holds a token, or reads an
-- argument. Assumes nothing.
use Rattle.syntax.specs.declared.refusal.Refused.{Refused}
use mathlib.Core.Path.{◌≡◌, refl, sym, ◌∙◌}
use mathlib.Core.List.{List, [], ◌∷◌}
use Rattle.std.specs.Prelude.{Ok, Err, None as none, Some as some}
use Prim.Native.Nat.{ℕ, zero, suc, ◌+◌, ◌≤◌, ◌<◌}
use native.Mathlib.Omega.{arith}
use Rattle.rules.specs.Checks.{Tables, source_of}
use Rattle.rules.specs.Cursor.{peek}
use Rattle.rules.specs.Flat.{flat}
use Rattle.rules.specs.Items.{Piece, Choice, ends, holds, takes, choose}
use Rattle.rules.specs.Matcher.{Matcher}
use Rattle.rules.specs.Outcome.{went}
use Rattle.rules.specs.Reading as spec
use Rattle.rules.specs.Routines.{hold_trivia}
use Rattle.lexer.specs.Reading.{cursor_of}
use Rattle.lexer.proofs.Laws.{left-some}
use Rattle.syntax.specs.ParseScope.{scope_at}
use Rattle.state.specs.Stands.{Step, Buffers, pos_of}
use Rattle.state.specs.Change.{relexed}
use Rattle.state.specs.Contract.{Ready, Left, Holding, left_of}
use Rattle.state.specs.declared.Parser.{Parser}
use Rattle.routines.proofs.HeldLaws as held
use Rattle.state.proofs.Walk.{HandsOn, handed, Rule, line, last_step, two_steps, Walk, begins, turns, passes, forgets, leaves, stops, arrives}
use Rattle.parser.specs.Member.{Next, inner_at, all_arguments}
use Rattle.parser.proofs.Cycle.{Came, runs}
use Rattle.parser.proofs.AfterArgument.{holding_behind}

module _ (t : Tables) (p : Parser) (first : Matcher) (b : Buffers) where
  -- what is left of the loop, with so many turns and a matcher
  abbrev more : ℕ → Matcher → Rule
  more fuel m n d = spec.arguments (flat n) (source_of t) (inner_at t n d) fuel m

  abbrev argument : Piece → Rule
  argument what n d = spec.argument (flat n) (source_of t) (inner_at t n d) what

  -- the whole loop
  abbrev all : Rule
  all n d = all_arguments t first n (inner_at t n d)

  abbrev Way : List Rule → Parser → Buffers → Type 0
  Way rest q v = Walk t all rest 0 0 p.list.scope p b q v

  -- the walk so far, to q and v with a matcher, and turns enough for what is left
  pub record Far (q : Parser) (m : Matcher) (v : Buffers) : Type 0 where
    pub fuel : ℕ
    pub enough : left_of t q ≤ fuel
    pub walk : Way (more fuel m ∷ []) q v
    pub holding : Holding q

  pub arguments-begin : Ready t p b → Holding p → Far p first b
  arguments-begin ready holding =
      record {
        fuel = left_of t p;
        enough = omega arith;
        walk = begins ready (λ n d. sym (last_step (more (left_of t p) first) n d (pos_of p b)));
        holding = holding;
      }

  module _ {q : Parser} {m : Matcher} {v : Buffers} (far : Far q m v) where
    -- what the rule chooses here
    abbrev pub Chosen : Choice → Type 0
    Chosen c = (n d : ℕ) → spec.choice_at (flat n) (source_of t) (inner_at t n d) m (pos_of q v) ≡ c

    pub at-end : peek t.tokens (cursor_of q.lexer) ≡ none → Chosen ends
    at-end e n d = rw e

    pub by_kind : {kind : ℕ} {c : Choice} → peek t.tokens (cursor_of q.lexer) ≡ some kind
        → choose t.states (scope_at q.list.scope) m kind ≡ c → Chosen c
    by_kind e chosen n d = rw e chosen

    -- ---- they end

    module _ (chosen : Chosen ends) where
      ended : (fuel n d : ℕ) → line (more fuel m ∷ []) n d (pos_of q v) ≡ line [] n d (pos_of q v)
      unfolding spec.arguments line
      ended zero n d = refl
      ended (suc fuel) n d = rw (chosen n d)

      pub arguments-end : Came t 0 all p b (Ok q) v
      arguments-end = arrives (turns far.walk (ended far.fuel))

    -- ---- a turn with a token next

    module _ (there : Next t q) where
      -- the steps of this turn, with turns left for the others
      record Turn (steps : ℕ → List Rule) : Type 0 where
        fuel : ℕ
        enough : left_of t q ≤ suc fuel
        walk : Way (steps fuel) q v

      -- these are the steps of a turn
      abbrev Unrolled : (ℕ → List Rule) → Type 0
      Unrolled steps = (fuel n d : ℕ) → more (suc fuel) m n d (pos_of q v) ≡ line (steps fuel) n d (pos_of q v)

      turn_of : (steps : ℕ → List Rule) → Unrolled steps → (fuel : ℕ) → left_of t q ≤ fuel → Way (more fuel m ∷ []) q v → Turn steps
      turn_of steps is zero enough w = let some = left-some w.ready.steady.fine there in absurd (omega arith)
      turn_of steps is (suc fuel) enough w =
          record { fuel = fuel; enough = enough; walk = turns w (λ n d. last_step (more (suc fuel) m) n d (pos_of q v) ∙ is fuel n d) }

      turn : (steps : ℕ → List Rule) → Unrolled steps → Turn steps
      turn steps is = turn_of steps is far.fuel far.enough far.walk

      -- ---- a token is held

      module _ (chosen : Chosen holds) where
        abbrev holding_one : Rule
        holding_one n d u = went (hold_trivia (flat n) (source_of t) u)

        holding_turn : Turn (λ fuel. holding_one ∷ more fuel m ∷ [])
        unfolding spec.arguments
        holding_turn = turn _ (λ fuel n d. rw (chosen n d) (sym (two_steps holding_one (more fuel m) n d (pos_of q v))))

        module _ {z : Parser} (e : z ≡ relexed q (record { token = q.lexer.token + 1; taken = 0 })) where
          held_one : Left t 1 q v z v
          held_one = leaves holding_turn.walk (held.holds there e) refl

          pub arguments-hold : Far z m v
          arguments-hold =
              record {
                fuel = holding_turn.fuel;
                enough = enough_left;
                walk = forgets (passes holding_turn.walk (held.holds there e) refl);
                holding = rw e (held.holding_more far.holding);
              }
            where
              enough_left : left_of t z ≤ holding_turn.fuel
              enough_left = let read = held_one.passed.read in let enough = holding_turn.enough in omega arith

          pub arguments-hold_less : left_of t z < left_of t q
          arguments-hold_less = let read = held_one.passed.read in omega arith

      -- ---- an argument is read

      module _ {what : Piece} {next : Matcher} (chosen : Chosen (takes what next)) where
        taking_turn : Turn (λ fuel. argument what ∷ more fuel next ∷ [])
        unfolding spec.arguments
        taking_turn = turn _ (λ fuel n d. rw (chosen n d) (sym (two_steps (argument what) (more fuel next) n d (pos_of q v))))

        module _ {r : Step} {x : Buffers} (read : Came t 1 (argument what) q v r x) where
          pub arguments-stop : {any : Buffers} {e : Refused} {s : Step} → r ≡ Err e → HandsOn s e → Came t 0 all p b s any
          arguments-stop st hands = rw (handed hands) (stops taking_turn.walk (runs read) st)

          module _ {z : Parser} (e : r ≡ Ok z) where
            took_one : Left t 1 q v z x
            took_one = leaves taking_turn.walk (runs read) e

            pub arguments-take : Far z next x
            arguments-take =
                record {
                  fuel = taking_turn.fuel;
                  enough = enough_left;
                  walk = forgets (passes taking_turn.walk (runs read) e);
                  holding = holding_behind what read e took_one.ready;
                }
              where
                enough_left : left_of t z ≤ taking_turn.fuel
                enough_left = let less = took_one.passed.read in let enough = taking_turn.enough in omega arith

            pub arguments-take_less : left_of t z < left_of t q
            arguments-take_less = let less = took_one.passed.read in omega arith
