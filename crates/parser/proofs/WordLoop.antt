-- The loop over a Word's characters, inside the loop of arguments: while bytes of the Word are left they are what the cursor stands before, and each
-- turn is a turn of the rule's one loop. Assumes nothing.
use Rattle.syntax.specs.declared.refusal.Refused.{Refused}
use mathlib.Core.Path.{◌≡◌, refl, sym, ap, ◌∙◌}
use mathlib.Core.List.{List}
use Rattle.std.specs.Prelude.{Ok, Err, Some as some}
use Prim.Native.Nat.{ℕ, ◌+◌, ◌≤◌, ◌<◌}
use native.Mathlib.Omega.{arith}
use lib.ListN.{length, drop, length-drop}
use Rattle.rules.specs.Characters.{char_length}
use Rattle.rules.specs.Checks.{Tables, source_of}
use Rattle.rules.specs.Cursor.{Cursor, peek_text, rest_length}
use Rattle.rules.specs.Flat.{flat}
use Rattle.rules.specs.Items.{character, if_matched}
use Rattle.rules.specs.Matcher.{Matcher, Matched, not_accepted, whole, term, match_next}
use Rattle.rules.specs.Reading as spec
use Rattle.rules.specs.Routines.{argument_node, single_char}
use Rattle.rules.specs.Tables.{kind_at}
use Rattle.rules.specs.Token.{Word}
use Rattle.lexer.specs.Reading.{cursor_of}
use Rattle.lexer.proofs.Laws.{peek-some, rest_length_lem, consumed-part, further}
use Rattle.syntax.specs.ParseScope.{scope_at}
use Rattle.state.specs.Stands.{Step, Buffers, pos_of}
use Rattle.state.specs.Contract.{Ready, Known, Ran, Runs, left_of}
use Rattle.state.specs.declared.Parser.{Parser}
use Rattle.state.proofs.Walk.{HandsOn}
use Rattle.parser.specs.Member.{Next, inner_at, all_arguments}
use Rattle.parser.proofs.Choices.{choose_word}
use Rattle.parser.proofs.Cycle.{runs_as, ran-runs}
use Rattle.parser.proofs.AfterArgument.{character_behind}
use Rattle.parser.proofs.ArgumentLoop.{Far, by_kind, arguments-end, arguments-stop, arguments-take, arguments-take_less}

-- the routine outside the cycle that reads one character as an argument
abbrev Routine : (Tables → Type 0) → Parser → Buffers → Step → Buffers → Type 0
Routine sees q v r x = Ran sees 1 (λ s n. argument_node (flat n) s (single_char (flat n) s)) q v r x

-- what it reads is an argument of that piece
as_argument : {t : Tables} {sees : Tables → Type 0} {q : Parser} {v : Buffers} {r : Step} {x : Buffers} → sees t → Ready t q v → Routine sees q v r x
    → Runs t 1 (λ n d. spec.argument (flat n) (source_of t) (inner_at t n d) character (pos_of q v)) q v r x
unfolding spec.argument spec.piece
as_argument seen ready k = runs_as (ran-runs seen ready k) (λ n d. refl)

module _ (t : Tables) where
  -- these bytes are what is left of the next token, which is a Word
  pub record Before (word : List ℕ) (q : Parser) : Type 0 where
    pub there : Next t q
    pub kind : kind_at t.tokens q.lexer.token ≡ Word
    pub is : word ≡ peek_text t.text t.tokens (cursor_of q.lexer)

  abbrev Sees : List ℕ → Parser → Tables → Type 0
  Sees word q u = (u.tokens ≡ t.tokens) × (word ≡ peek_text u.text t.tokens (cursor_of q.lexer))

  module _ (p : Parser) (first : Matcher) (b : Buffers) where
    -- the loop began at `from`
    pub record Taking (from q : Parser) (m : Matcher) (word : List ℕ) (v : Buffers) : Type 0 where
      pub far : Far t p first b q m v
      pub before : 0 < length word → Before word q
      pub no_more : left_of t q ≤ left_of t from
      pub moved : length word ≡ 0 → left_of t q < left_of t from

    pub taking_begins : {q : Parser} {m : Matcher} {word : List ℕ} {v : Buffers} → Far t p first b q m v → Before word q → Taking q q m word v
    taking_begins {word = word} far here =
        record {
          far = far;
          before = λ some. here;
          no_more = omega arith;
          moved = λ none. absurd (let some = long in omega arith);
        }
      where
        long : 1 ≤ length word
        long = rw here.is (far.walk.ready.steady.fine.word here.there here.kind).some

    module _ {from q : Parser} {m : Matcher} {word : List ℕ} {v : Buffers} (k : Taking from q m word v) (some_left : 0 < length word) where
      chosen : {matched : Matched} → matched ≡ match_next t.states m term
          → (n d : ℕ) → spec.choice_at (flat n) (source_of t) (inner_at t n d) m (pos_of q v) ≡ if_matched character matched
      chosen e =
          let here = k.before some_left in
          let peeked = peek-some t.tokens (cursor_of q.lexer) here.there ∙ ap some here.kind in
          by_kind t p first b k.far peeked (choose_word t.states (scope_at q.list.scope) m ∙ ap (if_matched character) (sym e))

      -- a refused character ends both loops
      pub taking_ends : not_accepted ≡ match_next t.states m term
          → Runs t 0 (λ n d. all_arguments t first n (inner_at t n d) (pos_of p b)) p b (Ok q) v
      taking_ends e = arguments-end t p first b k.far (chosen e)

      -- what the routine for a character asks
      pub taking_known : Known (Sees word q) q v
      taking_known = record { t = t; seen = (refl, (k.before some_left).is); ready = k.far.walk.ready }

      module _ {next : Matcher} (e : whole next ≡ match_next t.states m term) {r : Step} {x : Buffers} (ran : Routine (Sees word q) q v r x) where
        read : Runs t 1 (λ n d. spec.argument (flat n) (source_of t) (inner_at t n d) character (pos_of q v)) q v r x
        read = as_argument (refl, (k.before some_left).is) k.far.walk.ready ran

        pub taking_stops : {any : Buffers} {e : Refused} {s : Step} → r ≡ Err e → HandsOn s e
            → Runs t 0 (λ n d. all_arguments t first n (inner_at t n d) (pos_of p b)) p b s any
        taking_stops st hands = arguments-stop t p first b k.far (k.before some_left).there (chosen e) read st hands

        module _ {z : Parser} (went_on : r ≡ Ok z) where
          -- less is left
          pub taking_less : left_of t z < left_of t q
          taking_less = arguments-take_less t p first b k.far (k.before some_left).there (chosen e) read went_on

          module _ {rest : List ℕ} (e-rest : rest ≡ drop (char_length word) word) where
            -- where bytes of the Word are left, the cursor stands in its middle
            still_before : 0 < length rest → Before rest z
            still_before some_more =
                let here = k.before some_left in
                let c = cursor_of q.lexer in
                let bytes = peek_text t.text t.tokens c in
                let size = char_length bytes in
                let long : length bytes ≡ rest_length t.tokens c = rest_length_lem k.far.walk.ready.steady.fine here.there in
                let left : 0 < length (drop size bytes) = rw (e-rest, here.is) at some_more in
                let shorter : size < rest_length t.tokens c = omega (arith, length-drop size bytes) in
                let further-on : Cursor = record { token = c.token; taken = c.taken + size } in
                let behind : cursor_of z.lexer ≡ further-on = character_behind read went_on ∙ consumed-part t.tokens size c shorter in
                let text-there = ap (peek_text t.text t.tokens) behind ∙ further t.text t.tokens c size in
                let token : z.lexer.token ≡ q.lexer.token = ap (λ (y : Cursor). y.token) behind in
                record {
                  there = rw token here.there;
                  kind = rw token here.kind;
                  is = e-rest ∙ ap (λ w. drop (char_length w) w) here.is ∙ sym text-there;
                }

            pub taking_goes_on : Taking from z next rest x
            taking_goes_on =
                let less = taking_less in
                let no_more = k.no_more in
                record {
                  far = arguments-take t p first b k.far (k.before some_left).there (chosen e) read went_on;
                  before = still_before;
                  no_more = omega arith;
                  moved = λ none. omega arith;
                }
