-- No loop ends for want of turns: with as many turns as is left to read, or with more, each loop of the rules comes to the same. Each turn leaves
-- less to read, and where nothing is left no turn is taken. For any builder, at any position whose cursor stands before a token or in the middle of a
-- Word. Assumes nothing.
use Prim.Native.Nat.{ℕ, zero, suc, ◌+◌, ◌-◌, ◌≤◌}
use mathlib.Core.Path.{◌≡◌, refl}
use mathlib.Core.Bool.{Bool, true, false, cond}
use Rattle.std.specs.Prelude.{None as none, Some as some}
use native.Mathlib.Omega.{arith}
use native.Mathlib.Nat.{le_refl}
use lib.Dec.{eqb, ltb}
use borrow.Author.Tests.{le-ltb}
use Rattle.rules.specs.Builder.{Builder}
use Rattle.rules.specs.Cursor.{Cursor, peek, left}
use Rattle.rules.specs.Items.{is_if, Choice, ends, holds, takes}
use Rattle.rules.specs.Matcher.{Matcher}
use Rattle.rules.specs.Outcome.{Out, went, refused, bind}
use Rattle.rules.specs.Position.{Source, At, Rule, place}
use Rattle.rules.specs.Reading.{last_after, items, chosen, arguments, content_at}
use Rattle.rules.specs.Routines.{next, turns, eat, eat_while, eat_body_of_ifs, hold_trivia}
use Rattle.rules.specs.Tables.{token_count}
use Rattle.rules.specs.Token
use Rattle.rules.proofs.Goes.{Goes, goes, stopped}
use Rattle.rules.proofs.Handed.{Handed, Anything, knowing, next-on, Free, Held, nothing-held, eat-if, hold_held}
use Rattle.rules.proofs.HandedItems.{unless, Fits, an_end, trivia, an_argument, Reads, argument-if, choice_fits, content_at-reads}
use Rattle.rules.proofs.Progress.{at-end}
use Rattle.rules.proofs.Reached.{Sound, Standing}

-- what follows an outcome matters only where it went on
bind-same : {X Y : Type 0} {Q : X → Type 0} {o : Out X} (f g : X → Out Y) → Goes Q o → ((x : X) → Q x → f x ≡ g x) → bind o f ≡ bind o g
bind-same f g (goes {x} q) same = same x q
bind-same f g (stopped number place) same = refl

cond_same : {X : Type 0} (t : Bool) {x x' y y' : X} → (t ≡ true → x ≡ x') → (t ≡ false → y ≡ y') → cond t x y ≡ cond t x' y'
cond_same true met missed = met refl
cond_same false met missed = missed refl

-- a builder of which nothing is asked
anything : (B : Builder) (source : Source) → Handed B source
anything B source =
    record {
      Read = λ c b. Unit {0};
      starts = λ place kind c b h. any (B.start place kind b);
      start_ats = λ place kind m c b h. any (B.start_at place kind m b);
      finishes = λ place kind f c b h. any (B.finish place kind f b);
      rests = λ place kind c there stands b h. any _;
      parts = λ place kind size c there word some less b h. any _;
      drops = λ reason c there whole b h. tt;
    }
  where
    any : {X : Type 0} (o : Out X) → Goes (λ (x : X). Unit {0}) o
    any (went x) = goes tt
    any (refused number place) = stopped number place

module _ {B : Builder} {source : Source} (K : Handed B source) (sound : Sound source) where
  -- where nothing is left to read there is no next token
  over : (c : Cursor) → Standing source c → left source.tokens c ≤ 0 → peek source.tokens c ≡ none
  unfolding peek
  over c stands all = rw (le-ltb c.token (token_count source.tokens) (at-end sound c stands all))

  no_next : (test : ℕ → Bool) (p : At B) → Free K sound 0 p → next B source test p ≡ false
  no_next test p h = rw (over p.lexer h.stands h.bound)

  -- a token that passes a test is eaten
  eats : {n : ℕ} (test : ℕ → Bool) (p : At B) → Free K sound (suc n) p → next B source test p ≡ true → Goes (Free K sound n) (eat B source p)
  eats test p h e = eat-if K sound p (next-on K sound test p e h)

  eat_while-more : (test : ℕ → Bool) (n m : ℕ) (p : At B) → n ≤ m → Free K sound n p → eat_while B source test n p ≡ eat_while B source test m p
  unfolding eat_while
  eat_while-more test zero zero p more h = refl
  eat_while-more test zero (suc m) p more h = rw (no_next test p h)
  eat_while-more test (suc n) zero p more h = absurd (omega arith)
  eat_while-more test (suc n) (suc m) p more h =
      cond_same (next B source test p) (λ e. bind-same _ _ (eats test p h e) (λ q h. eat_while-more test n m q (omega arith) h)) (λ _. refl)

  eat_body_of_ifs-more : (n m nested : ℕ) (p : At B) → n ≤ m → Free K sound n p
      → eat_body_of_ifs B source n nested p ≡ eat_body_of_ifs B source m nested p
  unfolding eat_body_of_ifs
  eat_body_of_ifs-more zero zero nested p more h = refl
  eat_body_of_ifs-more zero (suc m) nested p more h = rw (no_next (eqb Token.EndIf) p h, no_next is_if p h, no_next (λ kind. true) p h)
  eat_body_of_ifs-more (suc n) zero nested p more h = absurd (omega arith)
  eat_body_of_ifs-more (suc n) (suc m) nested p more h =
      let rest : (nested : ℕ) (q : At B) → Free K sound n q → eat_body_of_ifs B source n nested q ≡ eat_body_of_ifs B source m nested q =
      λ nested q h. eat_body_of_ifs-more n m nested q (omega arith) h in
      cond_same (next B source (eqb Token.EndIf) p)
      (λ e. cond_same (eqb nested 0) (λ _. refl) (λ _. bind-same _ _ (eats (eqb Token.EndIf) p h e) (rest (nested - 1))))
      (λ _. cond_same (next B source is_if p) (λ e. bind-same _ _ (eats is_if p h e) (rest (nested + 1)))
      (λ _. cond_same (next B source (λ kind. true) p) (λ e. bind-same _ _ (eats (λ kind. true) p h e) (rest nested)) (λ _. refl)))

  module _ {i : Bool → Rule B} (inner : Reads K sound i) where
    -- an item is read, where one is next
    reads : {n : ℕ} (test : ℕ → Bool) (p : At B) → Free K sound (suc n) p → next B source test p ≡ true → Goes (Free K sound n) (i false p)
    reads {n} test p h e =
        let here = next-on K sound test p e h in
        inner.some false n p (knowing source h (record { there = here.such.there; is = tt }))

    items_more : (stop : ℕ → Bool) (n m : ℕ) (p : At B) → n ≤ m → Free K sound n p → items B source i stop n p ≡ items B source i stop m p
    unfolding items
    items_more stop zero zero p more h = refl
    items_more stop zero (suc m) p more h = rw (no_next (unless stop) p h)
    items_more stop (suc n) zero p more h = absurd (omega arith)
    items_more stop (suc n) (suc m) p more h =
        cond_same (next B source (unless stop) p)
        (λ e. bind-same _ _ (reads (unless stop) p h e) (λ q h. items_more stop n m (last_after B source p q) (omega arith) h))
        (λ _. refl)

    -- so many turns of the arguments are the same as so many others
    abbrev SameTurns : ℕ → ℕ → Type 0
    SameTurns n m = (matcher : Matcher) (q : At B) → Held K sound Anything n q → arguments B source i n matcher q ≡ arguments B source i m matcher q

    chosen-same : (n m : ℕ) (choice : Choice) (matcher : Matcher) (p : At B)
        → SameTurns n m
        → Held K sound Anything (suc n) p
        → Fits source p.lexer choice
        → chosen B source i (arguments B source i n) choice matcher p ≡ chosen B source i (arguments B source i m) choice matcher p
    chosen-same n m ends matcher p same h an_end = refl
    chosen-same n m holds matcher p same h (trivia follows) = same matcher (hold_trivia B source p) (hold_held K sound p (knowing source h follows))
    chosen-same n m (takes what after) matcher p same h (an_argument follows) =
        bind-same _ _ (argument-if K sound inner what p (knowing source h follows)) (same after)

    arguments-more : (n m : ℕ) → n ≤ m → SameTurns n m
    unfolding arguments peek
    arguments-more zero zero more matcher p h = refl
    arguments-more zero (suc m) more matcher p h =
        rw (le-ltb p.lexer.token (token_count source.tokens) (at-end sound p.lexer h.stands h.bound))
    arguments-more (suc n) zero more matcher p h = absurd (omega arith)
    arguments-more (suc n) (suc m) more matcher p h =
        let fits = choice_fits K sound inner (ltb p.lexer.token (token_count source.tokens)) matcher p refl in
        chosen-same n m _ matcher p (arguments-more n m (omega arith)) h fits

-- ---- the loops, with the turns that the rules give them

module _ (B : Builder) (source : Source) (sound : Sound source) (p : At B) (stands : Standing source p.lexer) (n : ℕ)
    (more : turns B source p ≤ n) where
  free : Free (anything B source) sound (turns B source p) p
  unfolding anything
  free = record { read = tt; stands = stands; bound = le_refl _; such = tt }

  pub eat_while-turns : (test : ℕ → Bool) → eat_while B source test (turns B source p) p ≡ eat_while B source test n p
  eat_while-turns test = eat_while-more (anything B source) sound test (turns B source p) n p more free

  pub eat_body_of_ifs-turns : (nested : ℕ) → eat_body_of_ifs B source (turns B source p) nested p ≡ eat_body_of_ifs B source n nested p
  eat_body_of_ifs-turns nested = eat_body_of_ifs-more (anything B source) sound (turns B source p) n nested p more free

  -- at each level of the knot
  module _ (d : ℕ) where
    pub items-turns : (stop : ℕ → Bool)
        → items B source (content_at B source d) stop (turns B source p) p ≡ items B source (content_at B source d) stop n p
    items-turns stop = items_more (anything B source) sound (content_at-reads (anything B source) sound d) stop (turns B source p) n p more free

    -- where arguments begin nothing is held
    pub arguments-turns : (m : Matcher)
        → p.held ≡ place B p
        → arguments B source (content_at B source d) (turns B source p) m p ≡ arguments B source (content_at B source d) n m p
    unfolding anything
    arguments-turns m none_held =
        arguments-more (anything B source) sound (content_at-reads (anything B source) sound d) (turns B source p) n more m p
        (record { read = nothing-held none_held tt; stands = stands; bound = le_refl _; such = tt })
