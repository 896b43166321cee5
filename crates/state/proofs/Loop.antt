-- A loop that eats a token in each turn: where it stands is a walk with turns enough for what is left to read, so that where a token
-- is next a turn is left. Assumes nothing.
use Rattle.std.specs.Prelude.{Ok}
use mathlib.Core.Path.{◌≡◌, sym, ◌∙◌}
use mathlib.Core.List.{[], ◌∷◌}
use Prim.Native.Nat.{ℕ, zero, suc, ◌+◌, ◌≤◌, ◌<◌}
use native.Mathlib.Omega.{arith}
use Rattle.rules.specs.Outcome.{bind}
use Rattle.rules.specs.Flat.{flat}
use Rattle.rules.specs.Checks.{Tables, source_of}
use Rattle.rules.specs.Routines.{eat}
use Rattle.rules.specs.Tables.{token_count}
use Rattle.lexer.proofs.Laws.{left-some}
use Rattle.state.specs.Stands.{Buffers, Step, pos_of}
use Rattle.state.specs.Contract.{Ready, Left, left_of}
use Rattle.state.specs.declared.Parser.{Parser}
use Rattle.state.proofs.Walk.{Rule, last_step, two_steps, Walk, Call, begins, turns, passes, forgets, leaves}

-- the step that eats
abbrev pub eats : Tables → Rule
eats t n d = eat (flat n) (source_of t)

-- from p and m the code came to q and v in the same node: what is left is the loop, `more` of so many turns, and they are enough
pub record Far (t : Tables) (rule : Rule) (more : ℕ → Rule) (p : Parser) (m : Buffers) (q : Parser) (v : Buffers) : Type 0 where
  pub fuel : ℕ
  pub enough : left_of t q ≤ fuel
  pub walk : Walk t rule (more fuel ∷ []) 0 0 p.list.scope p m q v

-- the same in a turn: a token is eaten, and then the loop goes on as `next`
pub record OneTurn (t : Tables) (rule : Rule) (next : ℕ → Rule) (p : Parser) (m : Buffers) (q : Parser) (v : Buffers) : Type 0 where
  pub fuel : ℕ
  pub enough : left_of t q ≤ suc fuel
  pub walk : Walk t rule (eats t ∷ next fuel ∷ []) 0 0 p.list.scope p m q v

-- it begins, with as many turns as are left to read
pub far_begins : {t : Tables} {rule : Rule} {more : ℕ → Rule} {p : Parser} {m : Buffers} → Ready t p m
    → ((n d : ℕ) → rule n d (pos_of p m) ≡ more (left_of t p) n d (pos_of p m)) → Far t rule more p m p m
far_begins {t} {more = more} {p} {m} ready is = record {
  fuel = left_of t p;
  enough = omega arith;
  walk = begins ready (λ n d. is n d ∙ sym (last_step (more (left_of t p)) n d (pos_of p m)));
}

-- a token is next
module _ {t : Tables} {rule : Rule} (more next : ℕ → Rule) {p : Parser} {m : Buffers} {q : Parser} {v : Buffers}
    (there : q.lexer.token < token_count t.tokens)
    (is : (fuel n d : ℕ) → more (suc fuel) n d (pos_of q v) ≡ bind (eat (flat n) (source_of t) (pos_of q v)) (next fuel n d)) where
  by_fuel : (fuel : ℕ) → left_of t q ≤ fuel → Walk t rule (more fuel ∷ []) 0 0 p.list.scope p m q v → OneTurn t rule next p m q v
  by_fuel zero enough w = let some = left-some w.ready.steady.fine there in absurd (omega arith)
  by_fuel (suc fuel) enough w = record {
    fuel = fuel;
    enough = enough;
    walk = turns w (λ n d. last_step (more (suc fuel)) n d (pos_of q v) ∙ is fuel n d ∙ sym (two_steps (eats t) (next fuel) n d (pos_of q v)));
  }

  -- so a turn is left
  pub one-turn : Far t rule more p m q v → OneTurn t rule next p m q v
  one-turn f = by_fuel f.fuel f.enough f.walk

-- the token was eaten
module _ {t : Tables} {rule : Rule} {next : ℕ → Rule} {p : Parser} {m : Buffers} {q : Parser} {v : Buffers} {r : Step} {x : Buffers} {z : Parser}
    (turn : OneTurn t rule next p m q v) (ate : Call t (eats t) 0 (λ u. Left t 1 q v u x) q v r x) (went_on : r ≡ Ok z) where
  -- less is left of what is to be read
  pub less_left : left_of t z + 1 ≤ left_of t q
  less_left = (leaves turn.walk ate went_on).passed.read

  pub far_goes_on : Far t rule next p m z x
  far_goes_on =
      let less = less_left in
      let enough = turn.enough in
      record { fuel = turn.fuel; enough = omega arith; walk = forgets (passes turn.walk ate went_on) }
