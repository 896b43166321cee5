-- What a builder is handed by the routines that read items inside items are the tokens, in order; each item leaves less to read, so the root's list
-- goes to the last token: one induction over the knot. Assumes nothing.
use Prim.Native.Nat.{ℕ, zero, suc, ◌≤◌}
use mathlib.Core.Path.{◌≡◌, refl, sym, ◌∙◌}
use mathlib.Core.Bool.{Bool, true, false, cond, false≢true}
use mathlib.Core.List.{[], ◌∷◌}
use Rattle.std.specs.Prelude.{Option, None as none, Some as some}
use native.Mathlib.Omega.{arith}
use native.Mathlib.Nat.{le_refl}
use lib.Dec.{eqb, ltb}
use borrow.Author.Tests.{ltb-true, ltb-false, lt-ltb, eqb-true}
use Rattle.rules.specs.Builder.{Builder}
use Rattle.rules.specs.Cursor.{Cursor, at_start, peek}
use Rattle.rules.specs.Items.{Item, plain, error, word, comma, group, attachment, command, environment, left_right, skipped, item_of, group_kind, closer, Piece, character, within, brace, item, Choice, ends, holds, takes, if_matched, choose, greedy_stops, name_only, class_command, class_environment}
use Rattle.rules.specs.Kinds.{is_trivia}
use Rattle.rules.specs.Matcher.{Matcher, Matched, term, bracket, paren, match_next, start_match, is_greedy, form_left1, form_infix_greedy}
use Rattle.rules.specs.Matcher
use Rattle.rules.specs.Outcome.{greedy_environment, too_many_open}
use Rattle.rules.specs.Position.{Shape, Source, At, Rule, steps, asked, place, start}
use Rattle.rules.specs.Reading.{shape_here, last_after, items, item_list, item_group, piece, argument, chosen, choice_for, arguments, match_arguments, arguments_of, with_arguments, greedy_items, greedy_argument, greedy_command, command_of, begin_clause, environment_item, item_lr, script, attachment_at, attach_to, attach_component, read_item, content_for, content, content_at, parse}
use Rattle.rules.specs.Routines.{next, turns, argument_begins, argument_ends, argument_node}
use Rattle.rules.specs.Scope
use Rattle.rules.specs.Scope.{Scope, stops, among}
use Rattle.rules.specs.SyntaxKind
use Rattle.rules.specs.Tables.{token_count, kind_at}
use Rattle.rules.specs.Token
use Rattle.rules.proofs.Goes.{Goes, goes, stopped, Takes, done, ◌then◌, ◌first◌, from_goes, bind_goes, cond_goes, steps-go}
use Rattle.rules.proofs.Handed.{Handed, Anything, Follows, NoWord, seen, wider, knowing, Free, Next, start-if, finish-if, start_around-if, eat-if, eat_if-if, trivia-if, single_char-if, one_in-if, Held, ignore_if, finish-held, held_none, hold_held, extract_if, text-if, clause_lr-if, skipped_body-if, left1_command-if, end_clause-if, right_clause-if}
use Rattle.rules.proofs.Progress.{at-end, end_whole}
use Rattle.rules.proofs.Reached.{before, Sound, There, AtWord, Standing}

-- a choice by a test, for what holds of both
by_test : {A : Type 0} (P : A → Type 0) (t : Bool) (x y : A) → (t ≡ true → P x) → (t ≡ false → P y) → P (cond t x y)
by_test P true x y met missed = met refl
by_test P false x y met missed = missed refl

-- the test of a loop that reads up to what stops it
abbrev pub unless : (ℕ → Bool) → ℕ → Bool
unless stop kind = cond (stop kind) false true

-- a Word's kind is no trivia
trivia-no_word : (kind : ℕ) → is_trivia kind ≡ true → kind ≡ Token.Word → ⊥
unfolding is_trivia
trivia-no_word kind e is = false≢true (rw is at e)

module _ (source : Source) where
  -- ---- how the next argument may be read

  pub data Suits : Piece → Cursor → Type 0 where
    a_character : {c : Cursor} → AtWord source c → Suits character c
    a_group : {scope : Scope} {c : Cursor} → Suits (within scope) c
    a_brace : {c : Cursor} → Suits brace c
    an_item : {c : Cursor} → Suits item c

  pub data Fits (c : Cursor) : Choice → Type 0 where
    an_end : Fits c ends
    trivia : Follows source (NoWord source) c → Fits c holds
    an_argument : {what : Piece} {m : Matcher} → Follows source (Suits what) c → Fits c (takes what m)

  matched-fits : {c : Cursor} {what : Piece} (m : Matched) → There source c → Suits what c → Fits c (if_matched what m)
  matched-fits Matcher.not_accepted there suits = an_end
  matched-fits (Matcher.whole m) there suits = an_argument (record { there = there; is = suits })
  matched-fits (Matcher.bare m) there suits = an_argument (record { there = there; is = a_brace })

  choose-fits : (c : Cursor) (scope : Scope) (m : Matcher) (kind : ℕ)
      → There source c
      → kind_at source.tokens c.token ≡ kind
      → Fits c (choose source.states scope m kind)
  unfolding choose
  choose-fits c scope m kind there is =
      let states = source.states in
      by_test (Fits c) (is_trivia kind) _ _ (λ e. trivia (record { there = there; is = λ word. trivia-no_word kind e (sym is ∙ word) }))
      (λ _. by_test (Fits c) (among kind (Token.Ampersand ∷ Token.Caret ∷ Token.Underscore ∷ [])) _ _ (λ _. an_end)
      (λ _. by_test (Fits c) (eqb kind Token.Word) _ _
      (λ e. matched-fits (match_next states m term) there (a_character (is ∙ eqb-true kind Token.Word e)))
      (λ _. by_test (Fits c) (eqb kind Token.LeftCurly) _ _ (λ _. matched-fits (match_next states m term) there a_group)
      (λ _. by_test (Fits c) (eqb kind Token.LeftBracket) _ _ (λ _. matched-fits (match_next states m bracket) there a_group)
      (λ _. by_test (Fits c) (eqb kind Token.LeftParen) _ _ (λ _. matched-fits (match_next states m paren) there a_group)
      (λ _. by_test (Fits c) (stops scope kind) _ _ (λ _. an_end) (λ _. matched-fits (match_next states m term) there an_item)))))))

  -- ---- how an item begins

  abbrev Begins : Item → Cursor → Type 0
  Begins plain c = Unit {0}
  Begins error c = Unit {0}
  Begins word c = AtWord source c
  Begins comma c = Unit {0}
  Begins (group scope) c = Unit {0}
  Begins (attachment has_script) c = Unit {0}
  Begins command c = Unit {0}
  Begins environment c = Unit {0}
  Begins left_right c = Unit {0}
  Begins (skipped node) c = AtWord source c → ⊥

  item_begins : (c : Cursor) (kind : ℕ) → kind_at source.tokens c.token ≡ kind → Begins (item_of kind) c
  item_begins c kind is =
      let Begun : Item → Type 0 = λ what. Begins what c in
      by_test Begun (eqb kind Token.LeftCurly) _ _ (λ _. tt)
      (λ _. by_test Begun (eqb kind Token.Apostrophe) _ _ (λ _. tt)
      (λ _. by_test Begun (among kind (Token.Underscore ∷ Token.Caret ∷ [])) _ _ (λ _. tt)
      (λ _. by_test Begun (among kind (Token.RightCurly ∷ Token.MacroArg ∷ Token.EndEnvironment ∷ Token.EndMath ∷ [])) _ _ (λ _. tt)
      (λ _. by_test Begun (eqb kind Token.Word) _ _ (λ e. is ∙ eqb-true kind Token.Word e)
      (λ _. by_test Begun (eqb kind Token.Comma) _ _ (λ _. tt)
      (λ _. by_test Begun (eqb kind Token.Dollar) _ _ (λ _. tt)
      (λ _. by_test Begun (eqb kind Token.BeginMath) _ _ (λ _. tt)
      (λ _. by_test Begun (among kind (Token.Generic ∷ Token.If ∷ Token.Else ∷ Token.EndIf ∷ Token.Right ∷ [])) _ _ (λ _. tt)
      (λ _. by_test Begun (eqb kind Token.BeginEnvironment) _ _ (λ _. tt)
      (λ _. by_test Begun (eqb kind Token.IfFalse) _ _ (λ e. let other = eqb-true kind Token.IfFalse e in λ word. omega arith)
      (λ _. by_test Begun (eqb kind Token.IfTypst) _ _ (λ e. let other = eqb-true kind Token.IfTypst e in λ word. omega arith)
      (λ _. by_test Begun (eqb kind Token.Left) _ _ (λ _. tt) (λ _. tt)))))))))))))

module _ {B : Builder} {source : Source} (K : Handed B source) (sound : Sound source) where
  -- as Handed.antt has them, for this builder
  abbrev F : ℕ → At B → Type 0
  F n p = Free K sound n p

  abbrev N : (Cursor → Type 0) → ℕ → At B → Type 0
  N also n p = Next K sound also n p

  abbrev H : ℕ → At B → Type 0
  H n p = Held K sound Anything n p

  -- what reads an item: if a token is next, less is left behind it
  pub record Reads (i : Bool → Rule B) : Type 0 where
    pub some : (single : Bool) (n : ℕ) → Takes (N Anything n) (F n) (i single)
    pub any : (single : Bool) (n : ℕ) → Takes (F n) (F n) (i single)

  module _ {i : Bool → Rule B} (inner : Reads i) where
    -- ---- lists and groups

    module _ {n : ℕ} where
      items-if : (stop : ℕ → Bool) (turns : ℕ) → Takes (F n) (F n) (items B source i stop turns)
      unfolding items
      items-if stop zero p h = goes h
      items-if stop (suc turns) p h =
          cond_goes (next B source (unless stop) p)
          (λ e. bind_goes (inner.any false n p h) (λ q h. items-if stop turns (last_after B source p q) h))
          (λ _. goes h)

      item_list-if : (scope : Scope) → Takes (F n) (F n) (item_list B source i scope)
      unfolding item_list steps
      item_list-if scope p h = bind_goes (items-if (stops scope) _ _ h) (λ q h. goes h)

      item_group-if : {also : Cursor → Type 0} (scope : Scope) → Takes (N also n) (F n) (item_group B source i scope)
      unfolding item_group
      item_group-if scope p h =
          let kind = group_kind scope in
          from_goes (start-if K sound kind p h
          first eat-if K sound
          then item_list-if scope
          then eat_if-if K sound (closer scope)
          then finish-if K sound kind _
          then done)

      -- ---- arguments

      piece-if : (what : Piece) (p : At B) → N (Suits source what) n p → Suits source what p.lexer → Goes (F n) (piece B source i what p)
      unfolding piece
      piece-if character p h (a_character is) = single_char-if K sound p (knowing source h (record { there = h.such.there; is = is }))
      piece-if (within scope) p h a_group = item_group-if scope p h
      piece-if brace p h a_brace = eat-if K sound p h
      piece-if item p h an_item = inner.some false n p (knowing source h (record { there = h.such.there; is = tt }))

      pub argument-if : (what : Piece) → Takes (Held K sound (Follows source (Suits source what)) (suc n)) (H n) (argument B source i what)
      unfolding argument argument_node argument_begins argument_ends
      argument-if what p h =
          let begun = from_goes (ignore_if K sound p h first start-if K sound SyntaxKind.ClauseArgument then done) in
          let ends = steps-go (finish-if K sound SyntaxKind.ClauseArgument _ then (λ q h. goes (held_none K sound q h)) then done) in
          from_goes (begun first (λ q h. piece-if what q h h.such.is) then ends then done)

      module _ (more : Matcher → Rule B) (goes_on : (m : Matcher) → Takes (H n) (H n) (more m)) where
        chosen-if : (choice : Choice) (m : Matcher) (p : At B)
            → H n p
            → Fits source p.lexer choice
            → Goes (H n) (chosen B source i more choice m p)
        chosen-if ends m p h an_end = goes h
        chosen-if holds m p h (trivia follows) = goes_on m _ (hold_held K sound p (knowing source (wider source h) follows))
        chosen-if (takes what next) m p h (an_argument follows) =
            bind_goes (argument-if what p (knowing source (wider source h) follows)) (goes_on next)

    pub choice_fits : (t : Bool) (m : Matcher) (p : At B)
        → ltb p.lexer.token (token_count source.tokens) ≡ t
        → Fits source p.lexer (choice_for B source i (cond t (some (kind_at source.tokens p.lexer.token)) none) m p)
    choice_fits true m p e = choose-fits source p.lexer p.list.scope m _ (ltb-true _ _ e) refl
    choice_fits false m p e = an_end

    module _ {n : ℕ} where
      arguments-if : (turns : ℕ) (m : Matcher) → Takes (H n) (H n) (arguments B source i turns m)
      unfolding arguments peek
      arguments-if zero m p h = goes h
      arguments-if (suc turns) m p h =
          let fits = choice_fits (ltb p.lexer.token (token_count source.tokens)) m p refl in
          chosen-if (arguments B source i turns) (arguments-if turns) _ m p h fits

      match_arguments-if : (m : Matcher) → Takes (F n) (H n) (match_arguments B source i m)
      unfolding match_arguments steps
      match_arguments-if m p h = bind_goes (arguments-if _ m _ (held_none K sound p h)) (λ q h. goes h)

      greedy_items-if : Takes (F n) (F n) (greedy_items B source i)
      unfolding greedy_items steps
      greedy_items-if p h = bind_goes (items-if (greedy_stops p.list.scope) _ _ h) (λ q h. goes h)

      greedy_argument-if : Takes (F n) (F n) (greedy_argument B source i)
      unfolding greedy_argument
      greedy_argument-if p h =
          from_goes (start-if K sound SyntaxKind.ClauseArgument p h first greedy_items-if
          then finish-if K sound SyntaxKind.ClauseArgument _ then done)

      arguments_of-if : (s : Shape) → Takes (F n) (H n) (arguments_of B source i s)
      unfolding arguments_of
      arguments_of-if s p h =
          cond_goes (name_only s) (λ _. goes (held_none K sound p h))
          (λ _. cond_goes (is_greedy (start_match s.form s.value)) (λ _. stopped greedy_environment (place B p)) (λ _. match_arguments-if _ p h))

      script-if : (has_script : Bool) → Takes (F n) (F n) (script B source i has_script)
      unfolding script
      script-if true p h = from_goes (trivia-if K sound p h first inner.any true n then done)
      script-if false p h = goes h

    -- ---- commands, environments, left-right bodies, attachments

    module _ {also : Cursor → Type 0} {n : ℕ} where
      greedy_command-if : (m : Option B.Mark) → Takes (N also n) (F n) (greedy_command B source i m)
      unfolding greedy_command
      greedy_command-if m p h =
          from_goes (start_around-if K sound SyntaxKind.ItemCmd m p h
          first eat-if K sound
          then greedy_argument-if
          then finish-if K sound SyntaxKind.ItemCmd _
          then done)

      with_arguments-if : (kind : ℕ) (s : Shape) → Takes (N also n) (F n) (with_arguments B source i kind s)
      unfolding with_arguments
      with_arguments-if kind s p h =
          from_goes (start-if K sound kind p h
          first eat-if K sound
          then arguments_of-if s
          then finish-held K sound kind _
          then extract_if K sound
          then done)

      command_of-if : (s : Shape) → Takes (N also n) (F n) (command_of B source i s)
      unfolding command_of
      command_of-if s p h =
          cond_goes (name_only s) (λ _. one_in-if K sound SyntaxKind.ItemCmd p h)
          (λ _. cond_goes (eqb s.form form_left1) (λ _. left1_command-if K sound p h)
          (λ _. cond_goes (eqb s.form form_infix_greedy) (λ _. greedy_command-if p.list.start _ h)
          (λ _. cond_goes (is_greedy (start_match s.form s.value)) (λ _. greedy_command-if none p h)
          (λ _. with_arguments-if SyntaxKind.ItemCmd s p h))))

      begin_clause-if : Takes (N also n) (F n) (begin_clause B source i)
      unfolding begin_clause
      begin_clause-if p h = with_arguments-if SyntaxKind.ItemBegin (shape_here B source class_environment p) p h

      item_lr-if : Takes (N also n) (F n) (item_lr B source i)
      unfolding item_lr
      item_lr-if p h =
          from_goes (start-if K sound SyntaxKind.ItemLR p h
          first clause_lr-if K sound
          then item_list-if Scope.LR
          then right_clause-if K sound
          then finish-if K sound SyntaxKind.ItemLR _
          then done)

      attachment_at-if : (has_script : Bool) (m : Option B.Mark) → Takes (N also n) (F n) (attachment_at B source i has_script m)
      unfolding attachment_at
      attachment_at-if has_script m p h =
          from_goes (start_around-if K sound SyntaxKind.ItemAttachComponent m p h
          first eat-if K sound
          then script-if has_script
          then finish-if K sound SyntaxKind.ItemAttachComponent _
          then done)

      attach_to-if : (has_script : Bool) (m : Option B.Mark) → Takes (N also n) (F n) (attach_to B source i has_script m)
      unfolding attach_to
      attach_to-if has_script (some m) p h = attachment_at-if has_script (some m) p h
      attach_to-if true none p h = attachment_at-if true none p h
      attach_to-if false none p h = eat-if K sound p h

    module _ {also : Cursor → Type 0} {n : ℕ} where
      environment_item-if : Takes (N also n) (F n) (environment_item B source i)
      unfolding environment_item
      environment_item-if p h =
          from_goes (start-if K sound SyntaxKind.ItemEnv p h
          first begin_clause-if
          then item_list-if Scope.Environment
          then end_clause-if K sound
          then finish-if K sound SyntaxKind.ItemEnv _
          then done)

    -- ---- any item

    module _ {n : ℕ} where
      read_item-if : (single : Bool) (what : Item) → Takes (N (Begins source what) n) (F n) (read_item B source i single what)
      unfolding read_item attach_component
      read_item-if single plain p h = eat-if K sound p h
      read_item-if single error p h = one_in-if K sound SyntaxKind.TokenError p h
      read_item-if single word p h = cond_goes single (λ _. single_char-if K sound p h) (λ _. text-if K sound p h)
      read_item-if single comma p h = text-if K sound p h
      read_item-if single (group scope) p h = item_group-if scope p h
      read_item-if single (attachment has_script) p h = attach_to-if has_script p.list.last p h
      read_item-if single command p h = command_of-if (shape_here B source class_command p) p h
      read_item-if single environment p h = environment_item-if p h
      read_item-if single left_right p h = item_lr-if p h
      read_item-if single (skipped node) p h = skipped_body-if K sound node p h

      -- the token that is there begins its item
      read-there : (single : Bool) (p : At B)
          → Free K sound (suc n) p
          → There source p.lexer
          → Goes (F n) (read_item B source i single (item_of (kind_at source.tokens p.lexer.token)) p)
      read-there single p h there =
          read_item-if single _ p (knowing source h (record { there = there; is = item_begins source p.lexer _ refl }))

      content-some : (single : Bool) → Takes (N Anything n) (F n) (content B source i single)
      unfolding content peek
      content-some single p h =
          let there = h.such.there in
          rw (lt-ltb p.lexer.token (token_count source.tokens) there) (read-there single p (knowing source h tt) there)

      content_for-any : (t single : Bool) (p : At B)
          → ltb p.lexer.token (token_count source.tokens) ≡ t
          → F n p
          → Goes (F n) (content_for B source i (cond t (some (kind_at source.tokens p.lexer.token)) none) single p)
      content_for-any true single p e h = read-there single p (wider source h) (ltb-true _ _ e)
      content_for-any false single p e h = goes h

      content-any : (single : Bool) → Takes (F n) (F n) (content B source i single)
      unfolding content peek
      content-any single p h = content_for-any (ltb p.lexer.token (token_count source.tokens)) single p refl h

    -- ---- the root's list: nothing stops it but the end

    abbrev AllRead : At B → Type 0
    AllRead q = K.Read (before (token_count source.tokens)) q.built

    -- at the end the cursor stands before no token's middle
    last_is : (c : Cursor) (b : B.State)
        → Standing source c
        → token_count source.tokens ≤ c.token
        → K.Read c b
        → K.Read (before (token_count source.tokens)) b
    last_is c b stands over read =
        let inside = stands.inside in
        let last : c.token ≡ token_count source.tokens = omega arith in
        rw (sym last, sym (end_whole sound c stands over)) read

    all_read : {n : ℕ} (p : At B) → F n p → token_count source.tokens ≤ p.lexer.token → AllRead p
    all_read p h over = last_is p.lexer p.built h.stands over h.read

    unseen_if : (stop : ℕ → Bool) (kind : ℕ) (t : Bool)
        → stop kind ≡ false
        → asked (unless stop) (cond t (some kind) none) ≡ false
        → t ≡ false
    unseen_if stop kind true never e = absurd (false≢true (sym e ∙ rw never))
    unseen_if stop kind false never e = refl

    unseen : (stop : ℕ → Bool) (p : At B)
        → ((kind : ℕ) → stop kind ≡ false)
        → next B source (unless stop) p ≡ false
        → token_count source.tokens ≤ p.lexer.token
    unfolding peek
    unseen stop p never e =
        let kind = kind_at source.tokens p.lexer.token in
        ltb-false _ _ (unseen_if stop kind (ltb p.lexer.token (token_count source.tokens)) (never _) e)

    items-all : (stop : ℕ → Bool) → ((kind : ℕ) → stop kind ≡ false) → (turns : ℕ) → Takes (F turns) AllRead (items B source i stop turns)
    unfolding items
    items-all stop never zero p h = goes {x = p} (all_read p h (at-end sound p.lexer h.stands h.bound))
    items-all stop never (suc turns) p h =
        cond_goes (next B source (unless stop) p)
        (λ e.
        let follows = seen source (unless stop) p.lexer e in
        let here = knowing source h (record { there = follows.there; is = tt }) in
        bind_goes (inner.some false turns p here) (λ q h. items-all stop never turns (last_after B source p q) h))
        (λ e. goes {x = p} (all_read p h (unseen stop p never e)))

    root_list_if : {n : ℕ} → Takes (F n) AllRead (item_list B source i Scope.Root)
    unfolding item_list steps stops
    root_list_if p h =
        bind_goes (items-all (stops Scope.Root) (λ kind. refl) _ _ (record { read = h.read; stands = h.stands; bound = le_refl _; such = tt }))
        (λ q all. goes all)

  -- ---- the knot

  pub content_at-reads : (d : ℕ) → Reads (content_at B source d)
  unfolding content_at
  content_at-reads zero = record { some = λ single n p h. stopped too_many_open (place B p); any = λ single n p h. stopped too_many_open (place B p) }
  content_at-reads (suc d) =
      let inner = content_at-reads d in
      record { some = λ single n. content-some inner single; any = λ single n. content-any inner single }

  -- a run that is accepted hands over all tokens
  pub parse-reads : (b : B.State) → K.Read at_start b → Goes (λ q. K.Read (before (token_count source.tokens)) q.built) (parse B source b)
  unfolding parse
  parse-reads b read =
      let stands : Standing source at_start = record { inside = omega arith; midway = λ some. absurd (omega arith) } in
      from_goes (start-if K sound SyntaxKind.ScopeRoot _ (record { read = read; stands = stands; bound = le_refl _; such = tt })
      first root_list_if (content_at-reads _)
      then (λ q all. bind_goes (K.finishes (place B q) SyntaxKind.ScopeRoot _ _ q.built all) (λ b all. goes all))
      then done)
