-- The loop over a skipped body: its turns are those of any loop that eats, and it is no deeper nested than was read. Assumes nothing.
use Rattle.std.specs.Prelude.{Ok, Err}
use Rattle.syntax.specs.declared.refusal.Refused.{Refused}
use mathlib.Core.Path.{◌≡◌, refl, sym, ◌∙◌}
use mathlib.Core.Bool.{Bool, true, false, not, cond, ◌&&◌}
use mathlib.Core.List.{List, [], ◌∷◌}
use Rattle.std.specs.Prelude.{None as none, Some as some}
use Prim.Native.Nat.{ℕ, zero, suc, ◌+◌, ◌-◌, ◌^◌, ◌≤◌, ◌<◌}
use native.Mathlib.Omega.{arith}
use lib.Dec.{eqb}
use lib.ListN.{length}
use Rattle.rules.specs.Outcome.{bind}
use Rattle.rules.specs.Flat.{flat, reason_closer}
use Rattle.rules.specs.Checks.{Tables, source_of}
use Rattle.rules.specs.Cursor.{peek, left}
use Rattle.rules.specs.Items.{is_if}
use Rattle.rules.specs.Position.{asked}
use Rattle.rules.specs.Routines.{eat, drop_next, eat_body_of_ifs}
use Rattle.rules.specs.Tables.{token_count, kind_at}
use Rattle.rules.specs.Token.{EndIf}
use Rattle.lexer.specs.Reading.{cursor_of}
use Rattle.lexer.proofs.Laws.{peek-some, peek-none, left-some}
use Rattle.state.specs.Stands.{Step, pos_of}
use Rattle.state.specs.Contract.{Ready, Ran, RuleOf, Known, left_of, buffers}
use Rattle.skipped.specs.Body.{Dropped, in_body, nested_behind}
use Rattle.state.specs.declared.Parser.{Parser}
use Rattle.skipped.proofs.Dropping.{drops}
use Rattle.routines.proofs.Eating.{asked-there}
use Rattle.state.proofs.Loop.{Far, OneTurn, far_begins, one-turn, less_left, far_goes_on}
use Rattle.state.proofs.Walk.{Rule, line, turns, stops, arrives, hands_on, ran, ran-by, ran-less, HandsOn, handed}

-- a token of the body is eaten, whatever it is, and the nesting is what it leaves
of_body : {A : Type 0} (end-if outer an-if : Bool) (nested : ℕ) (ends : A) (goes : ℕ → A) → not (end-if && outer) ≡ true
    → cond end-if (cond outer ends (goes (nested - 1))) (cond an-if (goes (nested + 1)) (goes nested))
    ≡ goes (cond end-if (nested - 1) (cond an-if (nested + 1) nested))
of_body true true an-if nested ends goes e = cc
of_body true false an-if nested ends goes e = refl
of_body false outer true nested ends goes e = refl
of_body false outer false nested ends goes e = refl

-- any other is the \fi that ends it
the_end : {A : Type 0} (end-if outer : Bool) (ends goes on : A) → not (end-if && outer) ≡ false → cond end-if (cond outer ends goes) on ≡ ends
the_end true true ends goes on e = refl
the_end true false ends goes on e = cc
the_end false outer ends goes on e = cc

-- the rule of the whole loop
abbrev pub skipping : RuleOf
skipping s n q = eat_body_of_ifs (flat n) s (left s.tokens q.lexer) 0 q

-- the tables with these rows
abbrev Sees : List ℕ → Tables → Type 0
Sees tokens t = t.tokens ≡ tokens

-- what is left of the loop at a nesting, with so many turns
abbrev more : Tables → ℕ → ℕ → Rule
more t nested fuel n d = eat_body_of_ifs (flat n) (source_of t) fuel nested

-- the walk so far, from p and `tree` to q and `after`, no deeper nested than was read: for all tables that agree
pub record Skipping (tokens : List ℕ) (p : Parser) (tree notes : List ℕ) (nested : ℕ) (q : Parser) (after : List ℕ) : Type 0 where
  pub far : (t : Tables) → Sees tokens t → Ready t p (buffers tree notes)
      → Far t (λ n d. skipping (source_of t) n) (more t nested) p (buffers tree notes) q (buffers after notes)
  pub shallow : (t : Tables) → Sees tokens t → Ready t p (buffers tree notes) → nested + left_of t q ≤ left_of t p

pub skipping_begins : {tokens : List ℕ} {p : Parser} {tree notes : List ℕ} → Skipping tokens p tree notes 0 p tree
skipping_begins = record { far = λ t seen ready. far_begins ready (λ n d. refl); shallow = λ t seen ready. omega arith }

module _ {tokens : List ℕ} {p : Parser} {tree notes : List ℕ} {nested : ℕ} {q : Parser} {after : List ℕ}
    (e : Skipping tokens p tree notes nested q after) where
  -- where the routine began ready, it is so
  pub skipping_ready : Known (Sees tokens) p (buffers tree notes) → Known (Sees tokens) q (buffers after notes)
  skipping_ready k = record { t = k.t; seen = k.seen; ready = (e.far k.t k.seen k.ready).walk.ready }

  pub skipping_long : Known (Sees tokens) p (buffers tree notes) → length after ≡ length tree
  skipping_long k = (e.far k.t k.seen k.ready).walk.passed.tree_long

  -- what the code was told of the test
  module _ {answer : Bool} (told : answer ≡ asked (in_body nested) (peek tokens (cursor_of q.lexer))) where
    module _ (yes : answer ≡ true) where
      -- the kind of the next token
      abbrev kind : ℕ
      kind = kind_at tokens q.lexer.token

      pub skipping_there : q.lexer.token < token_count tokens
      skipping_there = asked-there (in_body nested) tokens (cursor_of q.lexer) (sym told ∙ yes)

      is_in : in_body nested kind ≡ true
      is_in = rw (peek-some tokens (cursor_of q.lexer) skipping_there) at (sym told ∙ yes)

      -- it is not nested too deep to be counted, and the cell that was read is of the body
      pub skipping_in : {cell : ℕ} → cell ≡ kind → Known (Sees tokens) p (buffers tree notes) → (nested < 2 ^ 63) × (in_body nested cell ≡ true)
      skipping_in is k =
          let shallow = e.shallow k.t k.seen k.ready in
          let light = k.ready.steady.light in
          (omega arith, rw is is_in)

      -- one turn of it: a token is eaten, and then it goes on
      turn_is : (t : Tables) → Sees tokens t → (fuel n d : ℕ)
          → more t nested (suc fuel) n d (pos_of q (buffers after notes))
          ≡ bind (eat (flat n) (source_of t) (pos_of q (buffers after notes))) (more t (nested_behind nested kind) fuel n d)
      unfolding eat_body_of_ifs
      turn_is t seen fuel n d =
          let next : peek t.tokens (cursor_of q.lexer) ≡ some kind = rw seen (peek-some tokens (cursor_of q.lexer) skipping_there) in
          rw next (of_body (eqb EndIf kind) (eqb nested 0) (is_if kind) nested _
          (λ deep. bind (eat (flat n) (source_of t) (pos_of q (buffers after notes))) (more t deep fuel n d)) is_in)

      turn : (t : Tables) → Sees tokens t → Ready t p (buffers tree notes)
          → OneTurn t (λ n d. skipping (source_of t) n) (more t (nested_behind nested kind)) p (buffers tree notes) q (buffers after notes)
      turn t seen ready = one-turn (more t nested) (more t (nested_behind nested kind)) (rw seen skipping_there) (turn_is t seen) (e.far t seen ready)

      module _ {r : Step} {last : List ℕ} (ate : Ran (Sees tokens) 1 (λ s n. eat (flat n) s) q (buffers after notes) r (buffers last notes)) where
        -- the code computed the nesting from the cell that it read
        pub skipping_goes_on : {z : Parser} {deep cell : ℕ} → deep ≡ nested_behind nested cell → cell ≡ kind → r ≡ Ok z
            → Skipping tokens p tree notes deep z last
        skipping_goes_on deep_is cell-is went_on = rw (deep_is, cell-is) (record {
          far = λ t seen ready. far_goes_on (turn t seen ready) (ran seen ate) went_on;
          shallow = λ t seen ready.
              let less = less_left (turn t seen ready) (ran seen ate) went_on in
              let shallow = e.shallow t seen ready in
              let most = one_deeper (eqb EndIf kind) (is_if kind) in
              omega arith;
        })
          where
            one_deeper : (end-if an-if : Bool) → cond end-if (nested - 1) (cond an-if (nested + 1) nested) ≤ nested + 1
            one_deeper true an-if = omega arith
            one_deeper false true = omega arith
            one_deeper false false = omega arith

        pub skipping_less : {z : Parser} → Known (Sees tokens) p (buffers tree notes) → r ≡ Ok z
            → left tokens (cursor_of z.lexer) < left tokens (cursor_of q.lexer)
        skipping_less k went_on =
            let less = less_left (turn k.t k.seen k.ready) (ran k.seen ate) went_on in
            rw (← k.seen) (omega arith)

        pub skipping_stops : {any : List ℕ} {e : Refused} {s : Step} → r ≡ Err e → HandsOn s e
            → Ran (Sees tokens) 0 skipping p (buffers tree notes) s (buffers any notes)
        skipping_stops st hands = rw (handed hands) (ran-by (λ t seen ready. stops (turn t seen ready).walk (ran seen ate) st))

    -- the next token is the \fi
    module _ (no : answer ≡ false) (there : q.lexer.token < token_count tokens) where
      not_in : in_body nested (kind_at tokens q.lexer.token) ≡ false
      not_in = rw (peek-some tokens (cursor_of q.lexer) there) at (sym told ∙ no)

      closed : (t : Tables) → Sees tokens t → (fuel : ℕ) → left_of t q ≤ fuel → Ready t q (buffers after notes) → (n d : ℕ)
          → line (more t nested fuel ∷ []) n d (pos_of q (buffers after notes))
          ≡ line ((λ n d. drop_next (flat n) (source_of t) reason_closer) ∷ []) n d (pos_of q (buffers after notes))
      unfolding eat_body_of_ifs line
      closed t seen zero enough ready n d =
          let here : q.lexer.token < token_count t.tokens = rw seen there in
          let more = left-some ready.steady.fine here in
          absurd (omega arith)
      closed t seen (suc fuel) enough ready n d =
          let seen-there = peek-some tokens (cursor_of q.lexer) there in
          let next : peek t.tokens (cursor_of q.lexer) ≡ some (kind_at tokens q.lexer.token) = rw seen seen-there in
          rw (next, the_end (eqb EndIf (kind_at tokens q.lexer.token)) (eqb nested 0) _ _ _ not_in)

      pub skipping_closes : {z : Parser} {last : List ℕ} → Dropped reason_closer q notes z last
          → Ran (Sees tokens) 0 skipping p (buffers tree notes) (Ok z) (buffers after last)
      skipping_closes done = ran-less (ran-by (λ t seen ready.
          let f = e.far t seen ready in
          let here : q.lexer.token < token_count t.tokens = rw seen there in
          hands_on (turns f.walk (closed t seen f.fuel f.enough f.walk.ready)) (drops done here)))

  -- no token is left
  module _ (none_left : token_count tokens ≤ q.lexer.token) where
    ended : (t : Tables) → Sees tokens t → (fuel n d : ℕ)
        → line (more t nested fuel ∷ []) n d (pos_of q (buffers after notes)) ≡ line [] n d (pos_of q (buffers after notes))
    unfolding eat_body_of_ifs line
    ended t seen zero n d = refl
    ended t seen (suc fuel) n d =
        let next : peek t.tokens (cursor_of q.lexer) ≡ none = rw seen (peek-none tokens (cursor_of q.lexer) none_left) in
        rw next

    pub skipping_ends : Ran (Sees tokens) 0 skipping p (buffers tree notes) (Ok q) (buffers after notes)
    skipping_ends = ran-by (λ t seen ready. let f = e.far t seen ready in arrives (turns f.walk (ended t seen f.fuel)))
