-- What a builder is handed, in order, are the tokens: a predicate of its state says how far, its operations keep it, and so do the routines that read
-- no item inside another. Outside arguments all is handed over up to the cursor, inside them up to the first token that is held. Assumes nothing.
use Prim.Native.Nat.{ℕ, zero, suc, ◌+◌, ◌-◌, ◌≤◌, ◌<◌}
use mathlib.Core.Path.{◌≡◌, refl, sym, subst, ◌∙◌}
use mathlib.Core.Bool.{Bool, true, false, cond, false≢true}
use Rattle.std.specs.Prelude.{Option, None as none, Some as some}
use native.Mathlib.Omega.{arith}
use native.Mathlib.Nat.{add-zero}
use lib.Dec.{eqb, leb, ltb}
use borrow.Author.Tests.{ltb-true, leb-true, leb-false, eqb-true}
use Rattle.rules.specs.Builder.{Builder, Leaf}
use Rattle.rules.specs.Characters.{char_length}
use Rattle.rules.specs.Cursor.{Cursor, peek, rest_start, rest_length, peek_text, eaten, consumed, left}
use Rattle.rules.specs.Flat.{reason_trivia, reason_opener, reason_closer}
use Rattle.rules.specs.Items.{is_command_name, is_if}
use Rattle.rules.specs.Kinds.{is_trivia, is_text_component, leaf_kind}
use Rattle.rules.specs.Outcome.{Out, bind}
use Rattle.rules.specs.Position.{Source, At, Rule, asked, place, with_built, building, start, start_at, finish, wrap}
use Rattle.rules.specs.Routines.{next, turns, eat_as, eat, if_next, eat_if, eat_while, trivia, single_char, one_in, hold_trivia, drop_from, ignore_holding_trivia, leaves_from, extract_holding_trivia, text, delimiter_of, delimiter, clause_lr, drop_next, eat_body_of_ifs, skipped_body, start_around, left1_command, or_else, end_clause, right_clause}
use Rattle.rules.specs.SyntaxKind
use Rattle.rules.specs.Tables.{token_count, kind_at, length_at}
use Rattle.rules.specs.Tables
use Rattle.rules.specs.Token
use Rattle.rules.proofs.Characters.{either}
use Rattle.rules.proofs.Goes.{Goes, goes, stopped, Takes, done, ◌then◌, ◌first◌, from_goes, bind_goes, weaker_goes, cond_goes}
use Rattle.rules.proofs.Progress.{next-stands, next-less, other_whole, char_some, char_within, part-stands, part-less}
use Rattle.rules.proofs.Reached.{partly, before, Sound, There, AtWord, Standing, whole-start, whole_length}

-- ---- what a builder has to keep

-- a leaf of a kind, with so many bytes of what is left of the next token
abbrev pub leaf_at : Source → ℕ → ℕ → Cursor → Leaf
leaf_at source kind size c = record { token = c.token; kind = kind; start = rest_start source.tokens c; size = size }

pub record Handed (B : Builder) (source : Source) : Type 1 where
  -- it was handed all up to a cursor
  pub Read : Cursor → B.State → Type 0
  -- nodes are no text
  pub starts : (place kind : ℕ) (c : Cursor) → Takes (Read c) (Read c) (B.start place kind)
  pub start_ats : (place kind : ℕ) (m : B.Mark) (c : Cursor) → Takes (Read c) (Read c) (B.start_at place kind m)
  pub finishes : (place kind : ℕ) (f : B.Frame) (c : Cursor) → Takes (Read c) (Read c) (B.finish place kind f)
  -- a leaf is what is left of the next token, or a part of a Word
  pub rests :
      (place kind : ℕ) (c : Cursor)
      → There source c
      → Standing source c
      → Takes (Read c) (Read (eaten c)) (B.leaf place (leaf_at source kind (rest_length source.tokens c) c))
  pub parts :
      (place kind size : ℕ) (c : Cursor)
      → There source c
      → AtWord source c
      → 1 ≤ size
      → size < rest_length source.tokens c
      → Takes (Read c) (Read (partly c size)) (B.leaf place (leaf_at source kind size c))
  -- what is dropped is a token
  pub drops : (reason : ℕ) (c : Cursor) → There source c → c.taken ≡ 0 → (b : B.State) → Read c b → Read (eaten c) (B.drop c.token reason b)

-- ---- where reading stands

abbrev pub Anything : Cursor → Type 0
Anything c = Unit {0}

module _ (source : Source) where
  -- so much is handed over, the cursor stands before a token or in the middle of a Word, at most n is left to read, and more holds of the cursor
  pub record Stands (Read : Type 0) (also : Cursor → Type 0) (n : ℕ) (c : Cursor) : Type 0 where
    pub read : Read
    pub stands : Standing source c
    pub bound : left source.tokens c ≤ n
    pub such : also c

  -- a token is next, of which more holds
  pub record Follows (also : Cursor → Type 0) (c : Cursor) : Type 0 where
    pub there : There source c
    pub is : also c

  -- it is no Word
  abbrev pub NoWord : Cursor → Type 0
  NoWord c = AtWord source c → ⊥

  seen_if : (test : ℕ → Bool) (c : Cursor) (t : Bool)
      → ltb c.token (token_count source.tokens) ≡ t
      → asked test (cond t (some (kind_at source.tokens c.token)) none) ≡ true
      → Follows (λ c. test (kind_at source.tokens c.token) ≡ true) c
  seen_if test c true there e = record { there = ltb-true _ _ there; is = e }
  seen_if test c false there e = absurd (false≢true e)

  -- where a test of the next token holds, there is one, and its kind passes
  pub seen : (test : ℕ → Bool) (c : Cursor)
      → asked test (peek source.tokens c) ≡ true
      → Follows (λ c. test (kind_at source.tokens c.token) ≡ true) c
  unfolding peek
  seen test c e = seen_if test c (ltb c.token (token_count source.tokens)) refl e

  module _ {Read : Type 0} {also : Cursor → Type 0} {n : ℕ} {c : Cursor} where
    pub wider : Stands Read also n c → Stands Read also (suc n) c
    wider h = record { read = h.read; stands = h.stands; bound = let low = h.bound in omega arith; such = h.such }

    -- with what else is known of the cursor
    pub knowing : {more : Cursor → Type 0} → Stands Read also n c → more c → Stands Read more n c
    knowing h such = record { read = h.read; stands = h.stands; bound = h.bound; such = such }

    -- with something else handed over
    pub reading : {Read' : Type 0} → Stands Read also n c → Read' → Stands Read' also n c
    reading h read = record { read = read; stands = h.stands; bound = h.bound; such = h.such }

  -- behind the next token
  pub passed : {Read Read' : Type 0} {also : Cursor → Type 0} {n : ℕ} {c : Cursor}
      → Sound source
      → Stands Read (Follows also) (suc n) c
      → Read'
      → Stands Read' Anything n (eaten c)
  passed {c} sound h read =
      let there = h.such.there in
      let less = next-less sound c there h.stands in
      record { read = read; stands = next-stands sound c there; bound = let bound = h.bound in omega arith; such = tt }

module _ {B : Builder} {source : Source} (K : Handed B source) (sound : Sound source) where
  -- all is handed over up to the cursor
  abbrev pub Here : (Cursor → Type 0) → ℕ → At B → Type 0
  Here also n p = Stands source (K.Read p.lexer p.built) also n p.lexer

  abbrev pub Free : ℕ → At B → Type 0
  Free n p = Here Anything n p

  -- and a token is next: behind it n is left
  abbrev pub Next : (Cursor → Type 0) → ℕ → At B → Type 0
  Next also n p = Here (Follows source also) (suc n) p

  -- the next token, where a test of it holds
  pub next-on : (test : ℕ → Bool) (p : At B) {n : ℕ}
      → next B source test p ≡ true
      → Free (suc n) p
      → Next (λ c. test (kind_at source.tokens c.token) ≡ true) n p
  next-on test p e h = knowing source h (seen source test p.lexer e)

  -- ---- the builder's operations

  module _ {also : Cursor → Type 0} {n : ℕ} where
    builds : (p : At B) {o : Out B.State} → Here also n p → Goes (K.Read p.lexer) o → Goes (Here also n) (building B p o)
    builds p h o = bind_goes o (λ b read. goes (reading source h read))

    pub start-if : (kind : ℕ) → Takes (Here also n) (Here also n) (start B kind)
    start-if kind p h = builds p h (K.starts (place B p) kind p.lexer p.built h.read)

    start_at_if : (kind : ℕ) (m : B.Mark) → Takes (Here also n) (Here also n) (start_at B kind m)
    start_at_if kind m p h = builds p h (K.start_ats (place B p) kind m p.lexer p.built h.read)

    pub finish-if : (kind : ℕ) (f : B.Frame) → Takes (Here also n) (Here also n) (finish B kind f)
    finish-if kind f p h = builds p h (K.finishes (place B p) kind f p.lexer p.built h.read)

    wrap-if : (kind : ℕ) (m : B.Mark) → Takes (Here also n) (Here also n) (wrap B kind m)
    unfolding wrap
    wrap-if kind m p h =
        bind_goes (start_at_if kind m p h) (λ outer h.
        bind_goes (start_at_if SyntaxKind.ClauseArgument m outer h) (λ inner h.
        finish-if SyntaxKind.ClauseArgument (B.frame outer.built) inner h))

    pub start_around-if : (kind : ℕ) (o : Option B.Mark) → Takes (Here also n) (Here also n) (start_around B source kind o)
    unfolding start_around
    start_around-if kind none p h = start-if kind p h
    start_around-if kind (some m) p h = wrap-if kind m p h

  -- ---- tokens

  -- a leaf is built, and then the reader is moved
  built_then : (p : At B) {P : At B → Type 0} {Q : B.State → Type 0} {o : Out B.State} (f : At B → Out (At B))
      → Goes Q o
      → ((b : B.State) → Q b → Goes P (f (with_built B p b)))
      → Goes P (bind (building B p o) f)
  built_then p f (goes {x} q) k = k x q
  built_then p f (stopped number at) k = stopped number at

  module _ {also : Cursor → Type 0} {n : ℕ} where
    pub eat_as-if : (kind : ℕ) → Takes (Next also n) (Free n) (eat_as B source kind)
    unfolding eat_as
    eat_as-if kind p h =
        let leaf = K.rests (place B p) kind p.lexer h.such.there h.stands p.built h.read in
        built_then p _ leaf (λ b read. goes (passed source sound h read))

    pub eat-if : Takes (Next also n) (Free n) (eat B source)
    unfolding eat
    eat-if p h = eat_as-if _ p h

    pub one_in-if : (kind : ℕ) → Takes (Next also n) (Free n) (one_in B source kind)
    unfolding one_in
    one_in-if kind p h = from_goes (start-if kind p h first eat-if then finish-if kind _ then done)

  module _ {n : ℕ} where
    if_next-if : (kind : ℕ) {f : Rule B} → Takes (Next (λ c. eqb kind (kind_at source.tokens c.token) ≡ true) n) (Free n) f
        → Takes (Free n) (Free n) (if_next B source kind f)
    if_next-if kind reads p h = cond_goes (next B source (eqb kind) p) (λ e. reads p (next-on (eqb kind) p e (wider source h))) (λ _. goes h)

    pub eat_if-if : (kind : ℕ) → Takes (Free n) (Free n) (eat_if B source kind)
    unfolding eat_if
    eat_if-if kind p h = if_next-if kind eat-if p h

    pub eat_while-if : (test : ℕ → Bool) (turns : ℕ) → Takes (Free n) (Free n) (eat_while B source test turns)
    unfolding eat_while
    eat_while-if test zero p h = goes h
    eat_while-if test (suc turns) p h =
        cond_goes (next B source test p) (λ e. bind_goes (eat-if p (next-on test p e (wider source h))) (eat_while-if test turns)) (λ _. goes h)

    eat_all_if : (test : ℕ → Bool) → Takes (Free n) (Free n) (λ p. eat_while B source test (turns B source p) p)
    eat_all_if test p h = eat_while-if test (turns B source p) p h

    pub trivia-if : Takes (Free n) (Free n) (trivia B source)
    unfolding trivia
    trivia-if p h = eat_all_if is_trivia p h

  -- ---- a character

  module _ (p : At B) {n : ℕ} (h : Next (AtWord source) n p) where
    abbrev size : ℕ
    size = char_length (peek_text source.text source.tokens p.lexer)

    -- it is the last of the Word, or one of those before
    character_is : (P : Cursor → Type 0)
        → (size ≡ rest_length source.tokens p.lexer → P (eaten p.lexer))
        → (size < rest_length source.tokens p.lexer → P (partly p.lexer size))
        → P (consumed source.tokens size p.lexer)
    unfolding consumed
    character_is P whole part =
        let fits = char_within sound p.lexer h.such.there h.stands h.such.is in
        either (leb (rest_length source.tokens p.lexer) size)
        (λ e. let all = leb-true (rest_length source.tokens p.lexer) size e in rw e (whole (omega arith)))
        (λ e. rw e (part (leb-false _ _ e)))

    -- and a leaf either way
    character_leaf :
        Goes (K.Read (consumed source.tokens size p.lexer))
        (B.leaf (place B p) (leaf_at source SyntaxKind.TokenWord size p.lexer) p.built)
    character_leaf =
        let some = char_some sound p.lexer h.such.there h.stands h.such.is in
        character_is (λ c. Goes (K.Read c) (B.leaf (place B p) (leaf_at source SyntaxKind.TokenWord size p.lexer) p.built))
        (λ e. rw e (K.rests (place B p) SyntaxKind.TokenWord p.lexer h.such.there h.stands p.built h.read))
        (λ less. K.parts (place B p) SyntaxKind.TokenWord size p.lexer h.such.there h.such.is some less p.built h.read)

    -- what is left behind it
    character_passed : Stands source (Unit {0}) Anything n (consumed source.tokens size p.lexer)
    character_passed =
        let bound = h.bound in
        character_is (λ c. Stands source (Unit {0}) Anything n c)
        (λ _. passed source sound h tt)
        (λ less.
        let shorter = part-less sound p.lexer h.such.there h.stands h.such.is less in
        record { read = tt; stands = part-stands sound p.lexer h.such.there h.stands h.such.is less; bound = omega arith; such = tt })

  pub single_char-if : {n : ℕ} → Takes (Next (AtWord source) n) (Free n) (single_char B source)
  unfolding single_char
  single_char-if p h = built_then p _ (character_leaf p h) (λ b read. goes (reading source (character_passed p h) read))

  -- ---- held trivia

  -- the tokens from `h` on are held, up to the cursor
  pub data Upto (c : Cursor) (h : ℕ) (b : B.State) : Type 0 where
    nothing-held : h ≡ c.token → K.Read c b → Upto c h b
    some_held : h < c.token → c.taken ≡ 0 → K.Read (before h) b → Upto c h b

  abbrev pub Held : (Cursor → Type 0) → ℕ → At B → Type 0
  Held also n p = Stands source (Upto p.lexer p.held p.built) also n p.lexer

  -- a held token that is read
  at-token : {b : B.State} (c : Cursor) (i : ℕ) → i ≡ c.token → c.taken ≡ 0 → K.Read (before i) b → K.Read c b
  at-token {b} c i e whole read = rw (sym e, whole) read

  drop_from-read : (k i : ℕ) (b : B.State)
      → K.Read (before i) b
      → i + k ≤ token_count source.tokens
      → K.Read (before (i + k)) (drop_from B source k i b)
  unfolding drop_from
  drop_from-read zero i b read few = rw add-zero read
  drop_from-read (suc k) i b read few =
      let up : i + 1 + k ≡ i + suc k = omega arith in
      rw up at (drop_from-read k (i + 1) (B.drop i reason_trivia b) (K.drops reason_trivia (before i) (omega arith) refl b read) (omega arith))

  dropped-upto : (c : Cursor) (h : ℕ) (b : B.State) → Standing source c → Upto c h b → K.Read c (drop_from B source (c.token - h) h b)
  unfolding drop_from
  dropped-upto c h b stands (nothing-held e read) = let none : c.token - h ≡ 0 = omega arith in rw none read
  dropped-upto c h b stands (some_held less whole read) =
      let up : h + (c.token - h) ≡ c.token = omega arith in
      let inside = stands.inside in
      at-token c _ up whole (drop_from-read (c.token - h) h b read (omega arith))

  module _ {also : Cursor → Type 0} {n : ℕ} where
    -- what is held is dropped
    pub ignore_if : Takes (Held also n) (Here also n) (ignore_holding_trivia B source)
    unfolding ignore_holding_trivia
    ignore_if p h = goes (reading source h (dropped-upto p.lexer p.held p.built h.stands h.read))

    -- a node ends while trivia is held
    pub finish-held : (kind : ℕ) (f : B.Frame) → Takes (Held also n) (Held also n) (finish B kind f)
    finish-held kind f p h = bind_goes (finish-upto p.lexer p.held p.built h.read) (λ b upto. goes (reading source h upto))
      where
        finish-upto : (c : Cursor) (h : ℕ) (b : B.State) → Upto c h b → Goes (Upto c h) (B.finish (place B p) kind f b)
        finish-upto c h b (nothing-held e read) = weaker_goes (λ b read. nothing-held e read) (K.finishes (place B p) kind f c b read)
        finish-upto c h b (some_held less whole read) =
            weaker_goes (λ b read. some_held less whole read) (K.finishes (place B p) kind f (before h) b read)

  -- nothing is held yet
  pub held_none : {n : ℕ} (p : At B) → Free n p → Stands source (Upto p.lexer (place B p) p.built) Anything n p.lexer
  held_none p h = reading source h (nothing-held refl h.read)

  -- one more is held
  hold_upto : (c : Cursor) (h : ℕ) (b : B.State) → c.taken ≡ 0 → Upto c h b → Upto (eaten c) h b
  hold_upto c h b whole (nothing-held e read) = some_held (omega arith) refl (rw (e, sym whole) read)
  hold_upto c h b whole (some_held less whole' read) = some_held (omega arith) refl read

  pub hold_held : {n : ℕ} (p : At B) → Held (Follows source (NoWord source)) (suc n) p → Held Anything n (hold_trivia B source p)
  hold_held p h =
      let whole = other_whole sound p.lexer h.stands h.such.is in
      passed source sound h (hold_upto p.lexer p.held p.built whole h.read)

  -- ---- held trivia that becomes leaves

  -- a whole token as a leaf
  abbrev token_leaf : ℕ → Leaf
  token_leaf i =
      record { token = i; kind = leaf_kind (kind_at source.tokens i); start = Tables.start_at source.tokens i; size = length_at source.tokens i }

  wholes : (at i : ℕ)
      → i < token_count source.tokens
      → Takes (K.Read (before i)) (K.Read (before (i + 1))) (B.leaf at (token_leaf i))
  wholes at i there =
      let stands : Standing source (before i) = record { inside = omega arith; midway = λ some. absurd (omega arith) } in
      let rest = K.rests at (leaf_kind (kind_at source.tokens i)) (before i) there stands in
      rw (whole-start source (before i) refl, whole_length source (before i) refl) at rest

  leaves_from-if : (k i : ℕ) (p : At B)
      → K.Read (before i) p.built
      → i + k ≤ token_count source.tokens
      → Goes (λ q. (q.lexer ≡ p.lexer) × K.Read (before (i + k)) q.built) (leaves_from B source k i p)
  unfolding leaves_from
  leaves_from-if zero i p read few = goes {x = p} (refl, rw add-zero read)
  leaves_from-if (suc k) i p read few =
      let up : i + 1 + k ≡ i + suc k = omega arith in
      built_then p _ (wholes (place B p) i (omega arith) p.built read)
      (λ b read. rw up at (leaves_from-if k (i + 1) (with_built B p b) read (omega arith)))

  extracted : {n : ℕ} (p : At B) → Held Anything n p → Upto p.lexer p.held p.built → Goes (Free n) (extract_holding_trivia B source p)
  unfolding extract_holding_trivia leaves_from
  extracted p h (nothing-held e read) = let none : place B p - p.held ≡ 0 = omega arith in rw none (goes (reading source h read))
  extracted {n} p h (some_held less whole read) =
      let up : p.held + (place B p - p.held) ≡ place B p = omega arith in
      let inside = h.stands.inside in
      bind_goes (leaves_from-if (place B p - p.held) p.held p read (omega arith)) (λ q r.
      let all = reading source h (at-token p.lexer _ up whole r.1) in
      goes (subst (λ (c : Cursor). Stands source (K.Read c q.built) Anything n c) (sym r.0) all))

  pub extract_if : {n : ℕ} → Takes (Held Anything n) (Free n) (extract_holding_trivia B source)
  extract_if p h = extracted p h h.read

  -- ---- delimiters, and what is skipped

  module _ {n : ℕ} where
    delimiter-there : (kind : ℕ) (p : At B)
        → Next Anything n p
        → Free n p
        → kind_at source.tokens p.lexer.token ≡ kind
        → Goes (Free n) (delimiter_of B source (some kind) p)
    delimiter-there kind p h on is =
        cond_goes (eqb kind Token.Generic) (λ _. eat_as-if SyntaxKind.TokenCommandSym p h)
        (λ _. cond_goes (is_command_name kind) (λ _. goes on)
        (λ _. cond_goes (eqb kind Token.Dollar) (λ _. goes on)
        (λ _. cond_goes (eqb kind Token.Word)
        (λ e. single_char-if p (knowing source h (record { there = h.such.there; is = is ∙ eqb-true kind Token.Word e })))
        (λ _. eat-if p h))))

    delimiter_of-if : (t : Bool) (p : At B)
        → ltb p.lexer.token (token_count source.tokens) ≡ t
        → Free n p
        → Goes (Free n) (delimiter_of B source (cond t (some (kind_at source.tokens p.lexer.token)) none) p)
    delimiter_of-if true p e h = delimiter-there _ p (knowing source (wider source h) (record { there = ltb-true _ _ e; is = tt })) h refl
    delimiter_of-if false p e h = goes h

    delimiter-if : Takes (Free n) (Free n) (delimiter B source)
    unfolding delimiter peek
    delimiter-if p h = delimiter_of-if (ltb p.lexer.token (token_count source.tokens)) p refl h

    drop_next-if : (reason : ℕ) → Takes (Next (NoWord source) n) (Free n) (drop_next B source reason)
    unfolding drop_next
    drop_next-if reason p h =
        let whole = other_whole sound p.lexer h.stands h.such.is in
        goes (passed source sound h (K.drops reason p.lexer h.such.there whole p.built h.read))

    -- a \fi is no Word
    closer-on : (p : At B) → next B source (eqb Token.EndIf) p ≡ true → Free n p → Next (NoWord source) n p
    closer-on p e h =
        let closer = seen source (eqb Token.EndIf) p.lexer e in
        let is = eqb-true Token.EndIf (kind_at source.tokens p.lexer.token) closer.is in
        knowing source (wider source h) (record { there = closer.there; is = λ word. omega arith })

    pub eat_body_of_ifs-if : (turns nested : ℕ) → Takes (Free n) (Free n) (eat_body_of_ifs B source turns nested)
    unfolding eat_body_of_ifs
    eat_body_of_ifs-if zero nested p h = goes h
    eat_body_of_ifs-if (suc turns) nested p h =
        let eats : (test : ℕ → Bool) → next B source test p ≡ true → Goes (Free n) (eat B source p) =
        λ test e. eat-if p (next-on test p e (wider source h)) in
        cond_goes (next B source (eqb Token.EndIf) p)
        (λ e. cond_goes (eqb nested 0) (λ _. drop_next-if reason_closer p (closer-on p e h))
        (λ _. bind_goes (eats (eqb Token.EndIf) e) (eat_body_of_ifs-if turns (nested - 1))))
        (λ _. cond_goes (next B source is_if p) (λ e. bind_goes (eats is_if e) (eat_body_of_ifs-if turns (nested + 1)))
        (λ _. cond_goes (next B source (λ kind. true) p) (λ e. bind_goes (eats (λ kind. true) e) (eat_body_of_ifs-if turns nested))
        (λ _. goes h)))

    all_body_if : Takes (Free n) (Free n) (λ p. eat_body_of_ifs B source (turns B source p) 0 p)
    all_body_if p h = eat_body_of_ifs-if (turns B source p) 0 p h

  -- ---- items without an item inside

  module _ {also : Cursor → Type 0} {n : ℕ} where
    pub text-if : Takes (Next also n) (Free n) (text B source)
    unfolding text
    text-if p h =
        from_goes (start-if SyntaxKind.ItemText p h first eat-if then eat_all_if is_text_component then finish-if SyntaxKind.ItemText _ then done)

    pub clause_lr-if : Takes (Next also n) (Free n) (clause_lr B source)
    unfolding clause_lr
    clause_lr-if p h =
        from_goes (start-if SyntaxKind.ClauseLR p h first eat-if then trivia-if then delimiter-if then finish-if SyntaxKind.ClauseLR _ then done)

    pub left1_command-if : Takes (Next also n) (Free n) (left1_command B source)
    unfolding left1_command
    left1_command-if p h =
        let mark = or_else B source p.list.last p.list.start in
        from_goes (start_around-if SyntaxKind.ItemCmd mark p h first eat-if then finish-if SyntaxKind.ItemCmd _ then done)

  module _ {n : ℕ} where
    pub skipped_body-if : (kind : ℕ) → Takes (Next (NoWord source) n) (Free n) (skipped_body B source kind)
    unfolding skipped_body
    skipped_body-if kind p h = from_goes (start-if kind p h first drop_next-if reason_opener then all_body_if then finish-if kind _ then done)

    pub end_clause-if : Takes (Free n) (Free n) (end_clause B source)
    unfolding end_clause
    end_clause-if p h = if_next-if Token.EndEnvironment (one_in-if SyntaxKind.ItemEnd) p h

    pub right_clause-if : Takes (Free n) (Free n) (right_clause B source)
    unfolding right_clause
    right_clause-if p h = if_next-if Token.Right clause_lr-if p h
