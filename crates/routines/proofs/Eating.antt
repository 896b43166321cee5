-- A loop that eats tokens while their kind passes a test: its rule asks the kind, and its turns are those of any loop that eats. Assumes nothing.
use Rattle.std.specs.Prelude.{Ok, Err}
use Rattle.syntax.specs.declared.refusal.Refused.{Refused}
use mathlib.Core.Path.{◌≡◌, refl, sym, ap, ◌∙◌}
use mathlib.Core.Bool.{Bool, true, false}
use mathlib.Core.List.{List, [], ◌∷◌}
use mathlib.Core.Logic.{⊎_elim}
use Prim.Native.Nat.{ℕ, zero, suc, ◌<◌}
use native.Mathlib.Omega.{arith}
use lib.ListN.{length}
use Rattle.rules.specs.Flat.{flat}
use Rattle.rules.specs.Checks.{Tables, source_of}
use Rattle.rules.specs.Cursor.{Cursor, peek, left}
use Rattle.rules.specs.Position.{asked}
use Rattle.rules.specs.Routines.{eat, eat_while}
use Rattle.rules.specs.Tables.{token_count}
use Rattle.lexer.specs.Reading.{cursor_of}
use Rattle.lexer.proofs.Laws.{peek-none, le_or_lt}
use Rattle.state.specs.Stands.{Step, pos_of}
use Rattle.state.specs.Contract.{Ready, Ran, RuleOf, Somehow, buffers}
use Rattle.state.specs.declared.Parser.{Parser}
use Rattle.state.proofs.Loop.{Far, OneTurn, far_begins, one-turn, less_left, far_goes_on}
use Rattle.state.proofs.Walk.{Rule, line, turns, stops, arrives, ran, ran-by, somehow_then, HandsOn, handed}

-- where a test of the next token passes, one is there
pub asked-there : (test : ℕ → Bool) (tokens : List ℕ) (c : Cursor) → asked test (peek tokens c) ≡ true → c.token < token_count tokens
asked-there test tokens c e =
    ⊎_elim
    (λ end. let z : ◌≡◌ {A = ℕ} 0 1 = cc (ap (asked test) (peek-none tokens c end)) in absurd (omega arith))
    (λ there. there) (le_or_lt (token_count tokens) c.token)

-- the rule of the whole loop
abbrev pub eating : (ℕ → Bool) → RuleOf
eating test s n q = eat_while (flat n) s test (left s.tokens q.lexer) q

-- what is left of it, with so many turns
abbrev more : (ℕ → Bool) → Tables → ℕ → Rule
more test t fuel n d = eat_while (flat n) (source_of t) test fuel

-- the tables with these rows
abbrev Sees : List ℕ → Tables → Type 0
Sees tokens t = t.tokens ≡ tokens

-- the walk so far, from p and `tree` to q and `after`: for all tables that agree, and all dropped buffers
pub record Eating (test : ℕ → Bool) (tokens : List ℕ) (p : Parser) (tree : List ℕ) (q : Parser) (after : List ℕ) : Type 0 where
  pub far : (t : Tables) (notes : List ℕ) → Sees tokens t → Ready t p (buffers tree notes)
      → Far t (λ n d. eating test (source_of t) n) (more test t) p (buffers tree notes) q (buffers after notes)

pub eating_begins : {test : ℕ → Bool} {tokens : List ℕ} {p : Parser} {tree : List ℕ} → Eating test tokens p tree p tree
eating_begins = record { far = λ t notes seen ready. far_begins ready (λ n d. refl) }

module _ {test : ℕ → Bool} {tokens : List ℕ} {p : Parser} {tree : List ℕ} {q : Parser} {after : List ℕ} (e : Eating test tokens p tree q after) where
  -- the buffer has the length that it had
  pub eating_long : Somehow (Sees tokens) p tree → length after ≡ length tree
  eating_long s = (e.far s.t s.notes s.seen s.ready).walk.passed.tree_long

  -- what the code was told of the test
  module _ {answer : Bool} (told : answer ≡ asked test (peek tokens (cursor_of q.lexer))) where
    module _ (yes : answer ≡ true) where
      there : q.lexer.token < token_count tokens
      there = asked-there test tokens (cursor_of q.lexer) (sym told ∙ yes)

      -- a token is next, and the state is ready where it was so at the start
      pub eating_next : Somehow (Sees tokens) p tree → (q.lexer.token < token_count tokens) × Somehow (Sees tokens) q after
      eating_next s = (there, somehow_then s (e.far s.t s.notes s.seen s.ready).walk.ready)

      -- one turn of it: a token is eaten, and then it goes on
      turn : (t : Tables) (notes : List ℕ) → Sees tokens t → Ready t p (buffers tree notes)
          → OneTurn t (λ n d. eating test (source_of t) n) (more test t) p (buffers tree notes) q (buffers after notes)
      unfolding eat_while
      turn t notes seen ready =
          let asks : asked test (peek t.tokens (cursor_of q.lexer)) ≡ true = rw seen (sym told ∙ yes) in
          one-turn (more test t) (more test t) (rw seen there) (λ fuel n d. rw asks) (e.far t notes seen ready)

      module _ {r : Step} {last : List ℕ}
          (ate : (notes : List ℕ) → Ran (Sees tokens) 1 (λ s n. eat (flat n) s) q (buffers after notes) r (buffers last notes)) where
        pub eating_goes_on : {z : Parser} → r ≡ Ok z → Eating test tokens p tree z last
        eating_goes_on went_on = record { far = λ t notes seen ready. far_goes_on (turn t notes seen ready) (ran seen (ate notes)) went_on }

        -- and less is left
        pub eating_less : {z : Parser} → Somehow (Sees tokens) p tree → r ≡ Ok z
            → left tokens (cursor_of z.lexer) < left tokens (cursor_of q.lexer)
        eating_less s went_on =
            let less = less_left (turn s.t s.notes s.seen s.ready) (ran s.seen (ate s.notes)) went_on in
            rw (← s.seen) (omega arith)

        pub eating_stops : {any : List ℕ} {e : Refused} {s : Step} → r ≡ Err e → HandsOn s e → (notes : List ℕ)
            → Ran (Sees tokens) 0 (eating test) p (buffers tree notes) s (buffers any notes)
        eating_stops st hands notes = rw (handed hands) (ran-by (λ t seen ready. stops (turn t notes seen ready).walk (ran seen (ate notes)) st))

    module _ (no : answer ≡ false) where
      ended : (t : Tables) (notes : List ℕ) → Sees tokens t → (fuel : ℕ) → (n d : ℕ)
          → line (more test t fuel ∷ []) n d (pos_of q (buffers after notes)) ≡ line [] n d (pos_of q (buffers after notes))
      unfolding eat_while line
      ended t notes seen zero n d = refl
      ended t notes seen (suc fuel) n d =
          let asks : asked test (peek t.tokens (cursor_of q.lexer)) ≡ false = rw seen (sym told ∙ no) in
          rw asks

      pub eating_ends : (notes : List ℕ) → Ran (Sees tokens) 0 (eating test) p (buffers tree notes) (Ok q) (buffers after notes)
      eating_ends notes = ran-by (λ t seen ready. let f = e.far t notes seen ready in arrives (turns f.walk (ended t notes seen f.fuel)))
