-- What every routine keeps, over rowan's builder with whatever room: at each open node the dropped rows are those of its children so far. One law a
-- routine, callees first, for whatever reads an item inside a node; so for every level. Assumes nothing.
use Prim.Native.Nat.{ℕ, zero, suc, ◌+◌, ◌-◌, ◌*◌, ◌/◌, ◌≤◌, ◌<◌}
use mathlib.Core.Path.{◌≡◌, refl, sym, ap, ◌∙◌}
use mathlib.Core.Bool.{Bool, true, false, cond, not, ◌&&◌, ◌||◌, true≢false}
use mathlib.Core.List.{List, [], ◌∷◌, ◌++◌, append_assoc, append-nil}
use Rattle.std.specs.Prelude.{Option, None as none, Some as some}
use native.Mathlib.Omega.{arith}
use lib.Dec.{eqb, ltb, leb}
use lib.ListN.{length}
use borrow.Author.Tests.{ltb-true, ltb-false}
use Rattle.rules.specs.Builder.{Builder, Leaf}
use Rattle.rules.specs.Cursor.{peek, left, rest_length, eaten}
use Rattle.rules.specs.Exactly.{kind_of, is_blank, opens_if, greedy_name, passes, blanks_from, is_body, closing, closer_row, closer_of, dropped_in, dropped_all, dropped_passing}
use Rattle.rules.specs.Flat.{dropped_row, reason_trivia, reason_opener, reason_closer}
use Rattle.rules.specs.Items.{Item, plain, error, word, comma, group, attachment, command, environment, left_right, skipped, item_of, is_command_name, is_if, group_kind, closer, Piece, character, within, brace, item, Choice, ends, holds, takes, choose, greedy_stops, name_only, class_command, class_environment, of_class}
use Rattle.rules.specs.Kinds.{is_trivia, is_text_component}
use Rattle.rules.specs.Limits
use Rattle.rules.specs.Matcher.{Matcher, start_match, is_greedy, form_left1, form_infix_greedy}
use Rattle.rules.specs.Outcome.{Out, went, bind, greedy_environment, mark_before_node, too_many_open, no_room}
use Rattle.rules.specs.Position.{Shape, Source, At, place, asked, steps, holding_none, with_built, with_lexer, building, start, start_at, finish, wrap}
use Rattle.rules.specs.Reading.{items, item_list, item_group, piece, argument, chosen, choice_for, arguments, match_arguments, arguments_of, with_arguments, greedy_items, greedy_argument, greedy_command, command_of, begin_clause, environment_item, item_lr, script, attachment_at, attach_to, attach_component, read_item, content_for, content, content_at, parse}
use Rattle.rules.specs.Routines.{eat_as, eat, if_next, eat_if, eat_while, turns, trivia, single_char, one_in, hold_trivia, drop_from, ignore_holding_trivia, leaves_from, extract_holding_trivia, text, delimiter_of, delimiter, clause_lr, drop_next, eat_body_of_ifs, skipped_body, start_around, or_else, left1_command, argument_begins, argument_ends, argument_node, end_clause, right_clause}
use Rattle.rules.specs.Rowan.{Green, mark_past_last, first_of, or_no_room, or_too_many_open, leafed, token, pushed, start_node, start_node_at, closed, finish_node, noted, rowan, nothing}
use Rattle.rules.specs.Scope
use Rattle.rules.specs.Scope.{Scope, among, stops}
use Rattle.rules.specs.SyntaxKind
use Rattle.rules.specs.Tables.{token_count}
use Rattle.rules.specs.Token
use Rattle.rules.specs.Tree.{Tree, Forest, leaf, node, none, more, forest, leaves_in, leaves_all}
use Rattle.rules.proofs.Choices.{held_is_blank, greedy_forms, greedy-is, name-not_greedy, left1-not_greedy, infix_greedy, Fits, item_fits}
use Rattle.rules.proofs.Goes.{Goes, goes, stopped, Takes, Line, done, ◌then◌, ◌first◌, from_goes, bind_goes, weaker_goes, cond_goes, Makes, makes_goes, makes_then, steps-go}
use Rattle.rules.proofs.Handed.{leaf_at}
use Rattle.rules.proofs.Levels.{last_end, last_end_more, passing_more, Ground, below, Level, level_opens, Grown, level_grows, leaf-grows, close_grows, In, in_opens, in_grows, in_leaf, Cut, in_cut, wrapped}

-- kinds of nodes that pass trivia or are bodies
abbrev special : List ℕ
special = SyntaxKind.ItemBegin ∷ SyntaxKind.ItemCmd ∷ SyntaxKind.ItemBlockComment ∷ SyntaxKind.ItemTypstCode ∷ []

neither : (a b c d x y z : Bool) → a || (b || (c || (d || false))) ≡ false → ((c && x) || (d && y) ≡ false) × (a || (b && z) ≡ false)
neither false false false false x y z e = (refl, refl)
neither true b c d x y z e = absurd (true≢false e)
neither false true c d x y z e = absurd (true≢false e)
neither false false true d x y z e = absurd (true≢false e)
neither false false false true x y z e = absurd (true≢false e)

module _ (room : ℕ) (source : Source) where
  abbrev B : Builder
  B = rowan room

  -- a rule over rowan's builder
  abbrev Rule : Type 0
  Rule = At B → Out (At B)

  abbrev Here : Ground → At B → Type 0
  Here g p = In source g p.built

  -- a rule keeps it, at whatever node is open; or where something holds of the position
  abbrev Keep : Rule → Type 0
  Keep f = (g : Ground) → Takes (Here g) (Here g) f

  abbrev KeepIf : (At B → Type 0) → Rule → Type 0
  KeepIf fits f = (g : Ground) (p : At B) → fits p → Here g p → Goes (Here g) (f p)

  -- ---- rowan's operations: what each makes, where there is room and not too many nodes are open

  roomy : {Q : Green → Type 0} {o : Out Green} (at : ℕ) (b : Green) → Goes Q o → Goes Q (or_no_room room at b o)
  roomy at b h = cond_goes (ltb b.rows (room / Limits.tree_width)) (λ _. h) (λ _. stopped no_room at)

  shallow : {Q : Green → Type 0} {o : Out Green} (at : ℕ) (b : Green) → Goes Q o → Goes Q (or_too_many_open at b o)
  shallow at b h = cond_goes (leb Limits.nodes (length b.parents)) (λ _. stopped too_many_open at) (λ _. h)

  leaf-makes : (l : Leaf) (p : At B) → Makes (with_built B p (leafed l p.built)) (building B p (token room (place B p) l p.built))
  unfolding token
  leaf-makes l p = makes_then (roomy (place B p) p.built (goes refl)) _ (goes refl)

  start-makes : (kind : ℕ) (p : At B) → Makes (with_built B p (pushed (place B p) kind (length p.built.children) p.built)) (start B kind p)
  unfolding start_node
  start-makes kind p = makes_then (shallow (place B p) p.built (roomy (place B p) p.built (goes refl))) _ (goes refl)

  finish-makes : (p : At B) → Makes (with_built B p (closed (place B p) p.built)) (building B p (finish_node room (place B p) p.built))
  unfolding finish_node
  finish-makes p = makes_then (roomy (place B p) p.built (goes refl)) _ (goes refl)

  -- what is left of the next token becomes a leaf of a kind
  abbrev own_leaf : ℕ → At B → Leaf
  own_leaf kind p = leaf_at source kind (rest_length source.tokens p.lexer) p.lexer

  eat_as-makes : (kind : ℕ) (p : At B)
      → Makes (with_lexer B (eaten p.lexer) (with_built B p (leafed (own_leaf kind p) p.built))) (eat_as B source kind p)
  unfolding eat_as
  eat_as-makes kind p = makes_then (leaf-makes (own_leaf kind p) p) _ (goes refl)

  -- ---- inside a node

  -- the dropped rows of a node's children, where so many leaves stand before it
  abbrev Rows : Type 0
  Rows = ℕ → Forest → List ℕ

  -- what else holds of the children so far, and of the position
  abbrev Also : Type 1
  Also = List Tree → At B → Type 0

  -- inside a node that was begun at `g`'s level, with the rows of its children so far; and more of it
  record Within (rows : Rows) (also : Also) (g : Ground) (kind from : ℕ) (p : At B) : Type 0 where
    around : Green
    outside : In source g around
    level : Level (rows around.leaves) (below kind from around) p.built
    holding : also level.inside p

  -- inside the same node, on another level
  inside : {rows rows' : Rows} {also also' : Also} {g : Ground} {kind from : ℕ} {p q : At B} (h : Within rows also g kind from p)
      (level : Level (rows' h.around.leaves) (below kind from h.around) q.built)
      → also' level.inside q
      → Within rows' also' g kind from q
  inside h level holding = record { around = h.around; outside = h.outside; level = level; holding = holding }

  abbrev Any : Also
  Any us p = Unit {0}

  -- inside a node that passes nothing itself
  abbrev Under : Ground → ℕ → ℕ → At B → Type 0
  Under g kind from p = Within (dropped_all source) Any g kind from p

  under : {f : Rule} → Keep f → (g : Ground) (kind from : ℕ) → Takes (Under g kind from) (Under g kind from) f
  under keep g kind from p h = weaker_goes (λ q level. inside h level tt) (keep (below kind from h.around) p h.level)

  pub record Plain (kind from : ℕ) : Type 0 where
    pub body : is_body source kind from ≡ false
    pub passing : passes source kind from ≡ false

  other : (kind from : ℕ) → among kind special ≡ false → Plain kind from
  unfolding is_body passes
  other kind from e =
      let both =
      neither
      (eqb kind SyntaxKind.ItemBegin) (eqb kind SyntaxKind.ItemCmd) (eqb kind SyntaxKind.ItemBlockComment) (eqb kind SyntaxKind.ItemTypstCode)
      (eqb (kind_of source from) Token.IfFalse) (eqb (kind_of source from) Token.IfTypst) (not (greedy_name source from))
      e in
      record { body = both.0; passing = both.1 }

  start_under : (kind : ℕ) (g : Ground) (p : At B) → Here g p → Goes (Under g kind (place B p)) (start B kind p)
  start_under kind g p h =
      let level = in_opens source kind (place B p) p.built in
      makes_goes (start-makes kind p) (record { around = p.built; outside = h; level = level; holding = tt })

  finish-in : {g : Ground} {kind from : ℕ} → Plain kind from → Takes (Under g kind from) (Here g) (finish B kind tt)
  unfolding dropped_in
  finish-in ordinary p h =
      let grown = close_grows (place B p) h.level in
      makes_goes (finish-makes p) (in_grows source h.outside grown (sym (rw (ordinary.body, ordinary.passing))))

  -- rules that keep it, one after the other
  data Kept : List Rule → Type 0 where
    no_more : Kept []
    ◌and◌ : {f : Rule} {fs : List Rule} → Keep f → Kept fs → Kept (f ∷ fs)

  infixr 20 ◌and◌
  -- inside a node, and then its end
  kept_line : {fs : List Rule} {g : Ground} {kind from : ℕ}
      → Kept fs
      → Plain kind from
      → Line (Under g kind from) (Here g) (fs ++ (finish B kind tt ∷ []))
  kept_line no_more ordinary = finish-in ordinary then done
  kept_line {g} {kind} {from} (keep and rest) ordinary = under keep g kind from then kept_line rest ordinary

  -- a node that is begun so, around rules that keep it
  begun_in : (f : Rule) {fs : List Rule} {g : Ground} {kind : ℕ} (p : At B)
      → Goes (Under g kind (place B p)) (f p)
      → Plain kind (place B p)
      → Kept fs
      → Goes (Here g) (steps (f ∷ (fs ++ (finish B kind tt ∷ []))) p)
  begun_in f p begun ordinary kept = from_goes (begun first kept_line kept ordinary)

  -- a node around rules that keep it
  node_in : {fs : List Rule} (kind : ℕ)
      → among kind special ≡ false
      → Kept fs
      → Keep (steps (start B kind ∷ (fs ++ (finish B kind tt ∷ []))))
  node_in kind ordinary kept g p h = begun_in (start B kind) p (start_under kind g p h) (other kind (place B p) ordinary) kept

  -- ---- routines without an item inside

  -- whether a next token is there whose kind passes a test
  abbrev sees : (ℕ → Bool) → At B → Bool
  sees test p = asked test (peek source.tokens p.lexer)

  eat_as-in : (kind : ℕ) → Keep (eat_as B source kind)
  eat_as-in kind g p h = makes_goes (eat_as-makes kind p) (in_leaf source (own_leaf kind p) h)

  eat-in : Keep (eat B source)
  unfolding eat
  eat-in g p h = eat_as-in _ g p h

  if_next-in : (kind : ℕ) {f : Rule} → Keep f → Keep (if_next B source kind f)
  if_next-in kind reads g p h = cond_goes (sees (eqb kind) p) (λ _. reads g p h) (λ _. goes h)

  eat_if-in : (kind : ℕ) → Keep (eat_if B source kind)
  unfolding eat_if
  eat_if-in kind g p h = if_next-in kind eat-in g p h

  eat_while-in : (test : ℕ → Bool) (n : ℕ) → Keep (eat_while B source test n)
  unfolding eat_while
  eat_while-in test zero g p h = goes h
  eat_while-in test (suc n) g p h = cond_goes (sees test p) (λ _. bind_goes (eat-in g p h) (eat_while-in test n g)) (λ _. goes h)

  trivia-in : Keep (trivia B source)
  unfolding trivia
  trivia-in g p h = eat_while-in is_trivia _ g p h

  single_char-in : Keep (single_char B source)
  unfolding single_char
  single_char-in g p h = makes_then (leaf-makes _ p) _ (goes (in_leaf source _ h))

  one_in-in : (kind : ℕ) → among kind special ≡ false → Keep (one_in B source kind)
  unfolding one_in
  one_in-in kind ordinary g p h = node_in kind ordinary (eat-in and no_more) g p h

  leaves_from-in : (n i : ℕ) → Keep (leaves_from B source n i)
  unfolding leaves_from
  leaves_from-in zero i g p h = goes h
  leaves_from-in (suc n) i g p h = makes_then (leaf-makes _ p) _ (leaves_from-in n (i + 1) g _ (in_leaf source _ h))

  extract_in : Keep (extract_holding_trivia B source)
  unfolding extract_holding_trivia
  extract_in g p h = bind_goes (leaves_from-in _ _ g p h) (λ q k. goes k)

  -- ---- items without an item inside

  eat_all_in : (test : ℕ → Bool) → Keep (λ p. eat_while B source test (turns B source p) p)
  eat_all_in test g p h = eat_while-in test _ g p h

  text_in : Keep (text B source)
  unfolding text
  text_in g p h = node_in SyntaxKind.ItemText refl (eat-in and eat_all_in is_text_component and no_more) g p h

  delimiter_of-in : (o : Option ℕ) → Keep (delimiter_of B source o)
  delimiter_of-in none g p h = goes h
  delimiter_of-in (some kind) g p h =
      cond_goes (eqb kind Token.Generic) (λ _. eat_as-in SyntaxKind.TokenCommandSym g p h)
      (λ _. cond_goes (is_command_name kind) (λ _. goes h)
      (λ _. cond_goes (eqb kind Token.Dollar) (λ _. goes h)
      (λ _. cond_goes (eqb kind Token.Word) (λ _. single_char-in g p h) (λ _. eat-in g p h))))

  delimiter-in : Keep (delimiter B source)
  unfolding delimiter
  delimiter-in g p h = delimiter_of-in (peek source.tokens p.lexer) g p h

  clause_lr-in : Keep (clause_lr B source)
  unfolding clause_lr
  clause_lr-in g p h = node_in SyntaxKind.ClauseLR refl (eat-in and trivia-in and delimiter-in and no_more) g p h

  -- ---- skipped bodies

  abbrev body_rows : ℕ → Option ℕ → Rows
  body_rows from closer n us = dropped_row from reason_opener n ++ closer_row source closer (n + leaves_all us)

  -- inside a body whose opener is dropped, and whose closer too if there is one
  record Body (closer : Option ℕ) (g : Ground) (kind from : ℕ) (p : At B) : Type 0 where
    has : Within (body_rows from closer) Any g kind from p

  abbrev count : ℕ
  count = token_count source.tokens

  -- which \fi closes it, from a token on
  abbrev closing_from : ℕ → ℕ → Option ℕ
  closing_from nested token = closing source (count - token) nested token

  module _ (g : Ground) (kind from : ℕ) where
    level_eaten : {n : ℕ} {ground : Ground} {b : Green} (l : Leaf)
        → Level (body_rows from none n) ground b
        → Level (body_rows from none n) ground (leafed l b)
    level_eaten {b} l h = level_grows h (leaf-grows l b) refl

    level_closed : {n : ℕ} {ground : Ground} {b : Green} (token : ℕ)
        → n ≡ ground.leaves
        → Level (body_rows from none n) ground b
        → Level (body_rows from (some token) n) ground (noted token reason_closer b)
    level_closed {n} {ground} token e l =
        let opener = dropped_row from reason_opener n in
        let closer = dropped_row token reason_closer (n + leaves_all (forest l.inside)) in
        record {
          inside = l.inside;
          parents = l.parents;
          children = l.children;
          leaves = l.leaves;
          dropped = rw (l.dropped, l.leaves, ← e) (append_assoc ground.dropped opener closer);
        }

    close_body : (p : At B)
        → Body none g kind from p
        → Goes (Body (some (place B p)) g kind from) (drop_next B source reason_closer p)
    unfolding drop_next
    close_body p h = goes (record { has = inside h.has (level_closed (place B p) refl h.has.level) tt })

    -- a choice of the routine beside the same choice of the definition
    cond_body : (t : Bool) {closer closer' : Option ℕ} {x y : Out (At B)}
        → (t ≡ true → Goes (Body closer g kind from) x)
        → (t ≡ false → Goes (Body closer' g kind from) y)
        → Goes (Body (cond t closer closer') g kind from) (cond t x y)
    cond_body true met missed = met refl
    cond_body false met missed = missed refl

    -- what is shown of so many turns
    abbrev Turns : ℕ → Type 0
    Turns n = (nested : ℕ) (p : At B)
        → count - place B p ≤ n
        → Body none g kind from p
        → Goes (Body (closing_from nested (place B p)) g kind from) (eat_body_of_ifs B source n nested p)

    -- a token is eaten, and then so many turns
    abbrev eat_then : ℕ → ℕ → Rule
    eat_then n nested p = bind (eat B source p) (λ q. eat_body_of_ifs B source n nested q)

    eaten-body : (n nested : ℕ) → Turns n → (p : At B)
        → count - (place B p + 1) ≤ n
        → Body none g kind from p
        → Goes (Body (closing_from nested (place B p + 1)) g kind from) (eat_then n nested p)
    unfolding eat
    eaten-body n nested rest p few h =
        makes_then (eat_as-makes _ p) _ (rest nested _ few (record { has = inside h.has (level_eaten _ h.has.level) tt }))

    -- a turn, where this token is next or none
    abbrev turn_at : Option ℕ → ℕ → ℕ → Rule
    turn_at o n nested p =
        cond (asked (eqb Token.EndIf) o)
        (cond (eqb nested 0) (drop_next B source reason_closer p) (eat_then n (nested - 1) p))
        (cond (asked is_if o) (eat_then n (nested + 1) p) (cond (asked (λ kind. true) o) (eat_then n nested p) (went p)))

    turn_body : (n nested : ℕ) → Turns n → (p : At B) (t : Bool)
        → ltb (place B p) count ≡ t
        → count - place B p ≤ suc n
        → Body none g kind from p
        → Goes (Body (closing_from nested (place B p)) g kind from) (turn_at (cond t (some (kind_of source (place B p))) none) n nested p)
    unfolding closing opens_if
    turn_body n nested rest p true e few h =
        let at = place B p in
        let more = ltb-true at count e in
        let one : count - at ≡ suc (count - (at + 1)) = omega arith in
        let fewer : count - (at + 1) ≤ n = omega arith in
        rw one
        (cond_body (eqb Token.EndIf (kind_of source at))
        (λ _. cond_body (eqb nested 0) (λ _. close_body p h) (λ _. eaten-body n (nested - 1) rest p fewer h))
        (λ _. cond_body (opens_if source at) (λ _. eaten-body n (nested + 1) rest p fewer h) (λ _. eaten-body n nested rest p fewer h)))
    turn_body n nested rest p false e few h =
        let past = ltb-false (place B p) count e in
        let nothing_left : count - place B p ≡ 0 = omega arith in
        rw nothing_left (goes h)

    eat_body_of_ifs-body : (n : ℕ) → Turns n
    unfolding eat_body_of_ifs peek closing
    eat_body_of_ifs-body zero nested p few h = let nothing_left : count - place B p ≡ 0 = omega arith in rw nothing_left (goes h)
    eat_body_of_ifs-body (suc n) nested p few h = turn_body n nested (eat_body_of_ifs-body n) p (ltb (place B p) count) refl few h

  -- the node is begun and its opener dropped
  level_body : (kind from : ℕ) (b : Green)
      → Level (body_rows from none b.leaves) (below kind from b) (noted from reason_opener (pushed from kind (length b.children) b))
  unfolding pushed leaves_all
  level_body kind from b = record { inside = []; parents = refl; children = sym (append-nil b.children); leaves = omega arith; dropped = refl }

  finish-body : {g : Ground} {kind from : ℕ}
      → is_body source kind from ≡ true
      → Takes (Body (closer_of source from) g kind from) (Here g) (finish B kind tt)
  unfolding dropped_in
  finish-body {from} body p h =
      let w = h.has in
      makes_goes (finish-makes p) (in_grows source w.outside (close_grows (place B p) w.level) (sym (rw body)))

  -- there are turns enough for the tokens that are left
  enough : (count token : ℕ) → count - token ≤ (count - token) * (Limits.text + 1) - 0
  enough count token = omega arith

  skipped_body-in : (kind : ℕ) → KeepIf (λ p. is_body source kind (place B p) ≡ true) (skipped_body B source kind)
  unfolding skipped_body steps drop_next left
  skipped_body-in kind g p body h =
      let from = place B p in
      makes_then (start-makes kind p) _
      (bind_goes (eat_body_of_ifs-body g kind from _ 0 _ (enough count (from + 1)) (record {
        has = record { around = p.built; outside = h; level = level_body kind from p.built; holding = tt };
      }))
      (steps-go (finish-body body then done)))

  -- ---- wraps

  -- inside a node that was begun at the place of this position
  abbrev Begun : Rows → Ground → ℕ → ℕ → At B → Type 0
  Begun rows g kind from p = Within rows (λ us q. place B q ≡ from) g kind from p

  -- what is asked of rows, so that they are nothing of no child, and of an argument that a wrap closes the rows of what stood there
  record Wraps (rows : Rows) (from : ℕ) : Type 0 where
    of_none : (n : ℕ) → rows n none ≡ []
    of_argument :
        (n : ℕ) (us : List Tree)
        → rows n (forest (node SyntaxKind.ClauseArgument from from (forest us) ∷ [])) ≡ dropped_all source n (forest us)

  wraps_all : (from : ℕ) → Wraps (dropped_all source) from
  unfolding dropped_in is_body passes
  wraps_all from = record { of_none = λ n. refl; of_argument = λ n us. append-nil (dropped_all source n (forest us)) }

  wraps_passing : (from : ℕ) → Wraps (dropped_passing source from) from
  unfolding dropped_in is_body passes blanks_from
  wraps_passing from =
      let nothing-between : from - from ≡ 0 = omega arith in
      record { of_none = λ n. refl; of_argument = λ n us. rw nothing-between (append-nil (dropped_all source n (forest us))) }

  start-begun : (rows : Rows) (kind : ℕ) (g : Ground) (p : At B)
      → Wraps rows (place B p)
      → Here g p
      → Goes (Begun rows g kind (place B p)) (start B kind p)
  start-begun rows kind g p wraps h =
      let n = p.built.leaves in
      let level = level_opens (rows n) (wraps.of_none n) kind (place B p) p.built in
      makes_goes (start-makes kind p) (record { around = p.built; outside = h; level = level; holding = refl })

  -- a node begins at a mark, if that lies neither past the last child nor before the innermost node's first
  record AtMark (place kind mark : ℕ) (s after : Green) : Type 0 where
    is : after ≡ pushed place kind mark s
    high : mark ≤ length s.children
    low : first_of s.parents ≤ mark

  at_mark : (from kind mark : ℕ) (s : Green) → Goes (AtMark from kind mark s) (start_node_at room from kind mark s)
  unfolding start_node_at
  at_mark from kind mark s =
      cond_goes (ltb (length s.children) mark) (λ _. stopped mark_past_last from)
      (λ e. cond_goes (ltb mark (first_of s.parents)) (λ _. stopped mark_before_node from)
      (λ d.
      let high = ltb-false (length s.children) mark e in
      let low = ltb-false mark (first_of s.parents) d in
      shallow from s (roomy from s (goes (record { is = refl; high = high; low = low })))))

  cut_at : {g : Ground} {b after : Green} {from kind mark : ℕ} → In source g b → AtMark from kind mark b after → Cut source g b mark
  cut_at {g} {b} {mark} h at =
      let low : length g.base ≤ mark = rw h.parents at at.low in
      in_cut source mark h low at.high

  -- the two openings of a wrap: where each stands, and what it opened
  record OpenedAt (kind mark : ℕ) (p q : At B) : Type 0 where
    at : AtMark (place B p) kind mark p.built q.built
    here : place B q ≡ place B p

  opened-at : (kind mark : ℕ) (p : At B) → Goes (OpenedAt kind mark p) (start_at B kind mark p)
  opened-at kind mark p = bind_goes (at_mark (place B p) kind mark p.built) (λ s at. goes (record { at = at; here = refl }))

  -- a wrap: what stood before the mark is around its node
  wrap-begun : (rows : Rows) (kind mark : ℕ) (g : Ground) (p : At B)
      → Wraps rows (place B p)
      → Here g p
      → Goes (Begun rows g kind (place B p)) (wrap B kind mark p)
  unfolding wrap
  wrap-begun rows kind mark g p wraps h =
      let from = place B p in
      bind_goes (opened-at kind mark p) (λ outer o. bind_goes (opened-at SyntaxKind.ClauseArgument mark outer) (λ inner i.
      let cut = cut_at h o.at in
      let n = cut.before.leaves in
      let built : inner.built ≡ pushed from SyntaxKind.ClauseArgument mark (pushed from kind mark p.built) = rw (i.at.is, o.at.is, o.here) in
      let level = wrapped source rows from kind mark cut (wraps.of_none n) (wraps.of_argument n cut.since) in
      makes_goes (finish-makes inner)
      (record { around = cut.before; outside = cut.level; level = rw (built, i.here, o.here) level; holding = i.here ∙ o.here })))

  start_around-begun : (rows : Rows) (kind : ℕ) (o : Option ℕ) (g : Ground) (p : At B)
      → Wraps rows (place B p)
      → Here g p
      → Goes (Begun rows g kind (place B p)) (start_around B source kind o p)
  unfolding start_around
  start_around-begun rows kind none g p wraps h = start-begun rows kind g p wraps h
  start_around-begun rows kind (some mark) g p wraps h = wrap-begun rows kind mark g p wraps h

  -- a node that passes nothing, wherever it was begun
  as_under : {g : Ground} {kind from : ℕ} (p : At B) → Begun (dropped_all source) g kind from p → Under g kind from p
  as_under p h = inside h h.level tt

  -- ---- a command or a \begin that passes trivia before its arguments

  -- it has its name, or an argument, and nothing behind it was read
  abbrev Named : Ground → ℕ → ℕ → At B → Type 0
  Named g kind from p = Within (dropped_passing source from) (λ us q. last_end source from us ≡ place B q) g kind from p

  -- trivia behind that is held
  record Held (from : ℕ) (us : List Tree) (p : At B) : Type 0 where
    behind : last_end source from us ≡ p.held
    blank : (i : ℕ) → p.held ≤ i → i < place B p → is_blank source i ≡ true

  abbrev Holding : Ground → ℕ → ℕ → At B → Type 0
  Holding g kind from p = Within (dropped_passing source from) (Held from) g kind from p

  -- the name is eaten
  name_in : {g : Ground} {kind from : ℕ} → Takes (Begun (dropped_passing source from) g kind from) (Named g kind from) (eat B source)
  unfolding eat level_grows dropped_in
  name_in {from} p h =
      let us = h.level.inside in
      let level = level_grows h.level (leaf-grows _ p.built) (passing_more source us (leaf _) from h.around.leaves) in
      makes_goes (eat_as-makes _ p) (inside h level (last_end_more source us (leaf _) from))

  finish-passing : {also : Also} {g : Ground} {kind from : ℕ}
      → is_body source kind from ≡ false
      → passes source kind from ≡ true
      → Takes (Within (dropped_passing source from) also g kind from) (Here g) (finish B kind tt)
  unfolding dropped_in
  finish-passing body passing p h =
      makes_goes (finish-makes p) (in_grows source h.outside (close_grows (place B p) h.level) (sym (rw (body, passing))))

  -- a command here passes trivia before its arguments
  abbrev Passing : At B → Type 0
  Passing p = passes source SyntaxKind.ItemCmd (place B p) ≡ true

  -- a node with a name alone
  one_cmd_in : KeepIf Passing (one_in B source SyntaxKind.ItemCmd)
  unfolding one_in is_body
  one_cmd_in g p passing h =
      let from = place B p in
      from_goes (start-begun (dropped_passing source from) SyntaxKind.ItemCmd g p (wraps_passing from) h
      first name_in
      then finish-passing refl passing
      then done)

  -- ---- held trivia that is dropped

  record Lost (rows : List ℕ) (b after : Green) : Type 0 where
    parents : after.parents ≡ b.parents
    children : after.children ≡ b.children
    leaves : after.leaves ≡ b.leaves
    dropped : after.dropped ≡ b.dropped ++ rows

  abbrev Blank : ℕ → ℕ → Type 0
  Blank from to = (i : ℕ) → from ≤ i → i < to → is_blank source i ≡ true

  blank-at : (from to i : ℕ) (t : Bool) → ltb i to ≡ t → is_blank source to ≡ true → Blank from to → from ≤ i → i < to + 1 → is_blank source i ≡ true
  blank-at from to i true e is blank low high = blank i low (ltb-true i to e)
  blank-at from to i false e is blank low high =
      let past = ltb-false i to e in
      let same : i ≡ to = omega arith in
      rw same is

  blank-more : (from to : ℕ) → is_blank source to ≡ true → Blank from to → Blank from (to + 1)
  blank-more from to is blank i low high = blank-at from to i (ltb i to) refl is blank low high

  lost : (n i : ℕ) (b : Green) → Blank i (i + n) → Lost (blanks_from source n i b.leaves) b (drop_from B source n i b)
  unfolding drop_from blanks_from
  lost zero i b blank = record { parents = refl; children = refl; leaves = refl; dropped = sym (append-nil b.dropped) }
  lost (suc n) i b blank =
      let rest = lost n (i + 1) (noted i reason_trivia b) (λ j low high. blank j (omega arith) (omega arith)) in
      let row = dropped_row i reason_trivia b.leaves in
      let rows = blanks_from source n (i + 1) b.leaves in
      record {
        parents = rest.parents;
        children = rest.children;
        leaves = rest.leaves;
        dropped = rest.dropped ∙ append_assoc b.dropped row rows ∙ rw (blank i (omega arith) (omega arith)) refl;
      }

  -- and then a child more
  lost_grown : {rows new : List ℕ} {t : Tree} {b between after : Green}
      → Lost rows b between
      → Grown t new between after
      → Grown t (rows ++ new) b after
  lost_grown {rows} {new} {t} {b} l grown =
      record {
        parents = grown.parents ∙ l.parents;
        children = grown.children ∙ ap (λ (cs : List Tree). cs ++ (t ∷ [])) l.children;
        leaves = grown.leaves ∙ ap (λ (n : ℕ). n + leaves_in t) l.leaves;
        dropped = grown.dropped ∙ ap (λ (d : List ℕ). d ++ new) l.dropped ∙ append_assoc b.dropped rows new;
      }

  -- an argument, behind trivia that is dropped, of a node that passes it: the node then ends where the argument does
  argument-grows : {g : Ground} {b between after : Green} (from held place to : ℕ) (h : Level (dropped_passing source from g.leaves) g b)
      → last_end source from h.inside ≡ held
      → Lost (blanks_from source (place - held) held b.leaves) b between
      → Level (dropped_all source between.leaves) (below SyntaxKind.ClauseArgument place between) after
      → (l : Level (dropped_passing source from g.leaves) g (closed to after)) × (last_end source from l.inside ≡ to)
  unfolding dropped_in is_body passes level_grows
  argument-grows {g} {b} {between} from held place to h behind gone read =
      let us = h.inside in
      let is = node SyntaxKind.ClauseArgument place to (forest read.inside) in
      let grown = lost_grown gone (close_grows to read) in
      let level = level_grows h grown (passing_more source us is from g.leaves ∙ rw (behind, ← h.leaves, gone.leaves)) in
      (level, last_end_more source us is from)

  -- which command passes: by its shape
  cmd_passes : (from : ℕ) (s : Shape)
      → greedy_name source from ≡ among s.form greedy_forms
      → among s.form greedy_forms ≡ false
      → passes source SyntaxKind.ItemCmd from ≡ true
  unfolding passes
  cmd_passes from s is e = rw (is, e) refl

  cmd_plain : (from : ℕ) (s : Shape)
      → greedy_name source from ≡ among s.form greedy_forms
      → among s.form greedy_forms ≡ true
      → Plain SyntaxKind.ItemCmd from
  unfolding passes is_body
  cmd_plain from s is e = record { body = refl; passing = rw (is, e) refl }

  -- ---- lists, and items inside

  module _ (inner : Bool → Rule) (keeps : (single : Bool) → Keep (inner single)) where
    items-in : (stop : ℕ → Bool) (n : ℕ) → Keep (items B source inner stop n)
    unfolding items
    items-in stop zero g p h = goes h
    items-in stop (suc n) g p h =
        cond_goes (sees (λ kind. cond (stop kind) false true) p) (λ _. bind_goes (keeps false g p h) (λ q k. items-in stop n g _ k)) (λ _. goes h)

    item_list-in : (scope : Scope) → Keep (item_list B source inner scope)
    unfolding item_list steps
    item_list-in scope g p h = bind_goes (items-in (stops scope) _ g _ h) (λ q k. goes k)

    group_plain : (scope : Scope) → among (group_kind scope) special ≡ false
    group_plain Scope.Root = refl
    group_plain Scope.DollarFormula = refl
    group_plain Scope.CmdFormula = refl
    group_plain Scope.Environment = refl
    group_plain Scope.LR = refl
    group_plain Scope.CurlyItem = refl
    group_plain Scope.BracketItem = refl
    group_plain Scope.ParenItem = refl

    item_group-in : (scope : Scope) → Keep (item_group B source inner scope)
    unfolding item_group
    item_group-in scope g p h =
        node_in (group_kind scope) (group_plain scope) (eat-in and item_list-in scope and eat_if-in (closer scope) and no_more) g p h

    -- ---- arguments

    piece-in : (what : Piece) → Keep (piece B source inner what)
    unfolding piece
    piece-in character g p h = single_char-in g p h
    piece-in (within scope) g p h = item_group-in scope g p h
    piece-in brace g p h = eat-in g p h
    piece-in item g p h = keeps false g p h

    argument-ends : (p : At B) → Makes (holding_none B (with_built B p (closed (place B p) p.built))) (argument_ends B source tt p)
    unfolding argument_ends steps
    argument-ends p = makes_then (finish-makes p) _ (goes refl)

    module _ {g : Ground} {kind from : ℕ} where
      argument-in : (what : Piece) → Takes (Holding g kind from) (Holding g kind from) (argument B source inner what)
      unfolding argument argument_node argument_begins ignore_holding_trivia steps
      argument-in what p h =
          let at = place B p in
          let held = p.held in
          let w = h.holding in
          let blank : Blank held (held + (at - held)) = λ i low high. w.blank i low (omega arith) in
          let gone = lost (at - held) held p.built blank in
          let without = drop_from B source (at - held) held p.built in
          let opened = in_opens source SyntaxKind.ClauseArgument at without in
          makes_then (makes_then (start-makes SyntaxKind.ClauseArgument _) _ (goes refl)) _
          (bind_goes (piece-in what (below SyntaxKind.ClauseArgument at without) _ opened) (λ q read.
          let grown = argument-grows from held at (place B q) h.level w.behind gone read in
          makes_then (argument-ends q) _ (goes (inside h grown.0 (record { behind = grown.1; blank = λ i low high. absurd (omega arith) })))))

      -- trivia is held
      holds_in : (p : At B)
          → is_blank source (place B p) ≡ true
          → Holding g kind from p
          → Holding g kind from (hold_trivia B source p)
      holds_in p is h =
          let w = h.holding in
          inside h h.level (record { behind = w.behind; blank = blank-more p.held (place B p) is w.blank })

      module _ (rest : Matcher → Rule) (goes_on : (m : Matcher) → Takes (Holding g kind from) (Holding g kind from) (rest m)) where
        chosen-in : (choice : Choice) (m : Matcher) (p : At B)
            → (choice ≡ holds → is_blank source (place B p) ≡ true)
            → Holding g kind from p
            → Goes (Holding g kind from) (chosen B source inner rest choice m p)
        chosen-in ends m p is h = goes h
        chosen-in holds m p is h = goes_on m _ (holds_in p (is refl) h)
        chosen-in (takes what next) m p is h = bind_goes (argument-in what p h) (goes_on next)

        -- at a token, or at the end
        choice_if_in : (t : Bool) (m : Matcher) (p : At B)
            → Holding g kind from p
            → let o = cond t (some (kind_of source (place B p))) none in
            Goes (Holding g kind from) (chosen B source inner rest (choice_for B source inner o m p) m p)
        choice_if_in true m p h =
            let choice = choose source.states p.list.scope m (kind_of source (place B p)) in
            chosen-in choice m p (held_is_blank source p.list.scope m (place B p)) h
        choice_if_in false m p h = goes h

      arguments-in : (n : ℕ) (m : Matcher) → Takes (Holding g kind from) (Holding g kind from) (arguments B source inner n m)
      unfolding arguments peek
      arguments-in zero m p h = goes h
      arguments-in (suc n) m p h = choice_if_in (arguments B source inner n) (arguments-in n) (ltb (place B p) count) m p h

      -- nothing is held behind a name
      held_none : (p : At B) → Named g kind from p → Holding g kind from (holding_none B p)
      held_none p h = inside h h.level (record { behind = h.holding; blank = λ i low high. absurd (omega arith) })

      match_arguments-in : (m : Matcher) → Takes (Named g kind from) (Holding g kind from) (match_arguments B source inner m)
      unfolding match_arguments steps
      match_arguments-in m p h =
          let k = held_none p h in
          bind_goes (arguments-in _ m _ (inside k k.level (record { behind = k.holding.behind; blank = k.holding.blank })))
          (λ q r. goes (inside r r.level (record { behind = r.holding.behind; blank = r.holding.blank })))

    greedy_items-in : Keep (greedy_items B source inner)
    unfolding greedy_items steps
    greedy_items-in g p h = bind_goes (items-in (greedy_stops p.list.scope) _ g _ h) (λ q h. goes h)

    greedy_argument-in : Keep (greedy_argument B source inner)
    unfolding greedy_argument
    greedy_argument-in g p h = node_in SyntaxKind.ClauseArgument refl (greedy_items-in and no_more) g p h

    -- ---- commands

    greedy_command-in : (o : Option ℕ) → KeepIf (λ p. Plain SyntaxKind.ItemCmd (place B p)) (greedy_command B source inner o)
    unfolding greedy_command
    greedy_command-in o g p ordinary h =
        let begun = start_around-begun (dropped_all source) SyntaxKind.ItemCmd o g p (wraps_all (place B p)) h in
        begun_in (start_around B source SyntaxKind.ItemCmd o) p (weaker_goes as_under begun) ordinary (eat-in and greedy_argument-in and no_more)

    arguments_of-in : (s : Shape) {g : Ground} {kind from : ℕ}
        → Takes (Named g kind from) (Holding g kind from) (arguments_of B source inner s)
    unfolding arguments_of
    arguments_of-in s p h =
        cond_goes (name_only s) (λ _. goes (held_none p h))
        (λ _. cond_goes (is_greedy (start_match s.form s.value)) (λ _. stopped greedy_environment (place B p))
        (λ _. match_arguments-in (start_match s.form s.value) p h))

    with_arguments-in : (kind : ℕ) (s : Shape) → ((from : ℕ) → is_body source kind from ≡ false)
        → KeepIf (λ p. passes source kind (place B p) ≡ true) (with_arguments B source inner kind s)
    unfolding with_arguments
    with_arguments-in kind s no_body g p passing h =
        let from = place B p in
        from_goes (start-begun (dropped_passing source from) kind g p (wraps_passing from) h
        first name_in
        then arguments_of-in s
        then finish-passing (no_body from) passing
        then extract_in g
        then done)

    left1_command-in : KeepIf Passing (left1_command B source)
    unfolding left1_command is_body
    left1_command-in g p passing h =
        let from = place B p in
        let mark = or_else B source p.list.last p.list.start in
        from_goes (start_around-begun (dropped_passing source from) SyntaxKind.ItemCmd mark g p (wraps_passing from) h
        first name_in
        then finish-passing refl passing
        then done)

    command_of-in : (s : Shape) → KeepIf (λ p. greedy_name source (place B p) ≡ among s.form greedy_forms) (command_of B source inner s)
    unfolding command_of is_body
    command_of-in s g p is h =
        let from = place B p in
        let takes_all = greedy-is s.form s.value in
        cond_goes (name_only s) (λ e. one_cmd_in g p (cmd_passes from s is (name-not_greedy s e)) h)
        (λ _. cond_goes (eqb s.form form_left1)
        (λ e. left1_command-in g p (cmd_passes from s is (left1-not_greedy s.form e)) h)
        (λ _. cond_goes (eqb s.form form_infix_greedy)
        (λ e. greedy_command-in p.list.start g _ (cmd_plain from s is (infix_greedy s.form e)) h)
        (λ _. cond_goes (is_greedy (start_match s.form s.value))
        (λ e. greedy_command-in none g p (cmd_plain from s is (sym takes_all ∙ e)) h)
        (λ e. with_arguments-in SyntaxKind.ItemCmd s (λ _. refl) g p (cmd_passes from s is (sym takes_all ∙ e)) h))))

    -- ---- environments, left-right bodies, attachments

    begin_clause-in : Keep (begin_clause B source inner)
    unfolding begin_clause is_body passes
    begin_clause-in g p h =
        with_arguments-in SyntaxKind.ItemBegin (of_class class_environment (source.shape (place B p))) (λ _. refl) g p refl h

    end_clause-in : Keep (end_clause B source)
    unfolding end_clause
    end_clause-in g p h = if_next-in Token.EndEnvironment (one_in-in SyntaxKind.ItemEnd refl) g p h

    environment_item-in : Keep (environment_item B source inner)
    unfolding environment_item
    environment_item-in g p h =
        node_in SyntaxKind.ItemEnv refl (begin_clause-in and item_list-in Scope.Environment and end_clause-in and no_more) g p h

    right_clause-in : Keep (right_clause B source)
    unfolding right_clause
    right_clause-in g p h = if_next-in Token.Right clause_lr-in g p h

    item_lr-in : Keep (item_lr B source inner)
    unfolding item_lr
    item_lr-in g p h = node_in SyntaxKind.ItemLR refl (clause_lr-in and item_list-in Scope.LR and right_clause-in and no_more) g p h

    script-in : (has_script : Bool) → Keep (script B source inner has_script)
    unfolding script
    script-in true g p h = steps-go (trivia-in g then keeps true g then done) p h
    script-in false g p h = goes h

    attachment_at-in : (has_script : Bool) (o : Option ℕ) → Keep (attachment_at B source inner has_script o)
    unfolding attachment_at
    attachment_at-in has_script o g p h =
        let kind = SyntaxKind.ItemAttachComponent in
        let begun = start_around-begun (dropped_all source) kind o g p (wraps_all (place B p)) h in
        let ordinary = other kind (place B p) refl in
        begun_in (start_around B source kind o) p (weaker_goes as_under begun) ordinary (eat-in and script-in has_script and no_more)

    attach_to-in : (has_script : Bool) (o : Option ℕ) → Keep (attach_to B source inner has_script o)
    unfolding attach_to
    attach_to-in has_script (some mark) g p h = attachment_at-in has_script (some mark) g p h
    attach_to-in true none g p h = attachment_at-in true none g p h
    attach_to-in false none g p h = eat-in g p h

    -- ---- any item

    read_item-in : (single : Bool) (what : Item) → KeepIf (λ p. Fits source what (place B p)) (read_item B source inner single what)
    unfolding read_item attach_component greedy_name
    read_item-in single plain g p fits h = eat-in g p h
    read_item-in single error g p fits h = one_in-in SyntaxKind.TokenError refl g p h
    read_item-in single word g p fits h = cond_goes single (λ _. single_char-in g p h) (λ _. text_in g p h)
    read_item-in single comma g p fits h = text_in g p h
    read_item-in single (group scope) g p fits h = item_group-in scope g p h
    read_item-in single (attachment has_script) g p fits h = attach_to-in has_script p.list.last g p h
    read_item-in single command g p fits h = command_of-in (of_class class_command (source.shape (place B p))) g p refl h
    read_item-in single environment g p fits h = environment_item-in g p h
    read_item-in single left_right g p fits h = item_lr-in g p h
    read_item-in single (skipped kind) g p fits h = skipped_body-in kind g p fits h

    content_if_in : (t single : Bool) → Keep (λ p. content_for B source inner (cond t (some (kind_of source (place B p))) none) single p)
    content_if_in true single g p h = read_item-in single (item_of (kind_of source (place B p))) g p (item_fits source (place B p)) h
    content_if_in false single g p h = goes h

    content-in : (single : Bool) → Keep (content B source inner single)
    unfolding content peek
    content-in single g p h = content_if_in (ltb (place B p) count) single g p h

  content_at-in : (d : ℕ) (single : Bool) → Keep (content_at B source d single)
  unfolding content_at
  content_at-in zero single g p h = stopped too_many_open (place B p)
  content_at-in (suc d) single g p h = content-in (content_at B source d) (content_at-in d) single g p h

  -- at the end: one tree, whose dropped rows are those that were noted
  pub record Exact (b : Green) : Type 0 where
    pub tree : Tree
    pub children : b.children ≡ tree ∷ []
    pub dropped : b.dropped ≡ dropped_in source 0 tree

  root-exact : (p : At B) → Here (below SyntaxKind.ScopeRoot 0 nothing) p → Exact (closed (place B p) p.built)
  unfolding dropped_in is_body passes
  root-exact p h =
      let grown = close_grows {around = nothing} (place B p) h in
      let tree = node SyntaxKind.ScopeRoot 0 (place B p) (forest h.inside) in
      record { tree = tree; children = grown.children; dropped = grown.dropped }

  pub exact_run : Goes (λ p. Exact p.built) (parse B source nothing)
  unfolding parse steps
  exact_run =
      let opened = in_opens source SyntaxKind.ScopeRoot 0 nothing in
      makes_then (start-makes SyntaxKind.ScopeRoot _) _
      (bind_goes (item_list-in _ (content_at-in _) Scope.Root (below SyntaxKind.ScopeRoot 0 nothing) _ opened) (λ p h.
      makes_then (finish-makes p) _ (goes (root-exact p h))))
