-- Runs of related builders are related: one law a routine, and the theorem over `parse`. Positions on both sides stand at the same token, hold the
-- same tokens, and keep marks at the same places. The two sides may read at two levels: where `inner` is asked, so many nodes are open that both are
-- enough. Assumes nothing.
use Prim.Native.Nat.{ℕ, zero, suc, ◌+◌, ◌-◌, ◌≤◌}
use mathlib.Core.Path.{◌≡◌, refl, ◌∙◌}
use mathlib.Core.Bool.{Bool, true, false, cond}
use mathlib.Core.List.{[], ◌∷◌, ◌++◌}
use Rattle.std.specs.Prelude.{Option, None as none, Some as some}
use native.Mathlib.Nat.{le_step}
use native.Mathlib.Omega.{arith}
use lib.Dec.{eqb, ltb}
use lib.ListN.{length}
use Rattle.rules.specs.Builder.{Builder, Leaf}
use Rattle.rules.specs.Cursor.{Cursor, at_start, peek, eaten, consumed, left}
use Rattle.rules.specs.Items.{Item, plain, error, word, comma, group, attachment, command, environment, left_right, skipped, item_of, attachable_item, is_command_name, is_if, attachable, group_kind, closer, Piece, character, within, brace, item, Choice, ends, holds, takes, choose, greedy_stops, name_only, attachable_command, class_command, class_environment, of_class}
use Rattle.rules.specs.Flat.{reason_trivia, reason_opener, reason_closer}
use Rattle.rules.specs.Kinds.{is_trivia, is_text_component}
use Rattle.rules.specs.Matcher.{Matcher, start_match, is_greedy, form_left1, form_infix_greedy}
use Rattle.rules.specs.Outcome.{Out, went, refused, bind, greedy_environment, too_many_open}
use Rattle.rules.specs.Position.{Shape, Source, At, Rule, place, asked, with_lexer, with_list, with_marks, holding_none, leaf, start, start_at, finish, wrap}
use Rattle.rules.specs.Reading.{items, item_list, item_group, piece, argument, chosen, choice_for, arguments, match_arguments, arguments_of, with_arguments, greedy_items, greedy_argument, greedy_command, command_of, begin_clause, environment_item, item_lr, script, attachment_at, attach_to, attach_component, read_item, content_for, content, content_at, parse_at, parse}
use Rattle.rules.specs.Routines.{eat_as, eat, if_next, eat_if, eat_while, turns, trivia, single_char, one_in, drop_from, ignore_holding_trivia, leaves_from, extract_holding_trivia, text, delimiter_of, delimiter, clause_lr, drop_next, eat_body_of_ifs, skipped_body, start_around, left1_command, argument_begins, argument_ends, argument_node, end_clause, right_clause}
use Rattle.rules.specs.Scope
use Rattle.rules.specs.Scope.{Scope, stops}
use Rattle.rules.specs.SyntaxKind
use Rattle.rules.specs.Tables.{kind_at, token_count}
use Rattle.rules.specs.Token
use Rattle.rules.proofs.Related.{Relation, OutRel, went~, refused~, Keeps, done~, ◌⨾◌, goes, ◌▸◌, bind~, weaker~, cond~, steps~, from~}
use Rattle.rules.proofs.Sim.{Sub, nil, keep, sub_nil, sub_refl, sub_behind, sub_trans, lefts, rights, listed, Marks, left_list, right_list, start_of, start_only, at_root, left_at, right_at, Among, Node, BothMark, Marked, Level, World, node, ◌◂◌, innermost, opening, Sim}

-- the marks of a list, on both sides
abbrev pub Lists : Builder → Builder → Type 0
Lists A B = Marks A.Mark B.Mark

-- positions over related states, with marks of which P holds
pub data Near {A B : Builder} {Skip May : ℕ → Type 0} (Z : Sim A B Skip May) (w : World A B) (P : Lists A B → Type 0) : At A → At B → Type 0 where
  near : (c : Cursor) (h : ℕ) (m : Lists A B) {a : A.State} {b : B.State} → P m → Z.R w a b → Near Z w P (left_at c h m a) (right_at c h m b)

-- positions at the end of a run: the same token, outside all lists, and what was built is related as a whole
pub data Ended {A B : Builder} {Skip May : ℕ → Type 0} (Z : Sim A B Skip May) : At A → At B → Type 0 where
  ended : (c : Cursor) (h : ℕ) {a : A.State} {b : B.State}
      → Z.Whole a b
      → Ended Z (left_at {N = B.Mark} c h at_root a) (right_at {M = A.Mark} c h at_root b)

-- held trivia that are dropped do not touch a node
drop_from-frame : (C : Builder) (source : Source)
    → ((token reason : ℕ) (c : C.State) → C.frame (C.drop token reason c) ≡ C.frame c)
    → (n i : ℕ) (c : C.State)
    → C.frame (drop_from C source n i c) ≡ C.frame c
unfolding drop_from
drop_from-frame C source same zero i c = refl
drop_from-frame C source same (suc n) i c = drop_from-frame C source same n (i + 1) (C.drop i reason_trivia c) ∙ same i reason_trivia c

module _ {A B : Builder} {Skip May : ℕ → Type 0} (Z : Sim A B Skip May) where
  abbrev Two : Type 0
  Two = BothMark A B

  -- what may hold of the marks of a list
  abbrev Holds : Type 1
  Holds = Lists A B → Type 0

  -- two outcomes, and two rules
  abbrev O : {X Y : Type 0} → Relation X Y → Out X → Out Y → Type 0
  O Q = OutRel Skip May Q

  abbrev Takes : Relation (At A) (At B) → Relation (At A) (At B) → Rule A → Rule B → Type 0
  Takes Q P f g = Keeps Skip May Q P f g

  -- whatever is open and whatever marks are kept, a routine leaves it so
  abbrev Quiet : World A B → Holds → Rule A → Rule B → Type 0
  Quiet w P f g = Takes (Near Z w P) (Near Z w P) f g

  -- ---- the builder's operations, at positions

  op~ : {v : World A B} {P : Holds} {o : Out A.State} {u : Out B.State} (c : Cursor) (h : ℕ) (m : Lists A B)
      → P m
      → O (Z.R v) o u
      → O (Near Z v P) (bind o (λ a. went (left_at c h m a))) (bind u (λ b. went (right_at c h m b)))
  op~ c h m fits o = bind~ o (λ x y r. went~ (near c h m fits r))

  start~ : (kind : ℕ) {w : World A B} {P : Holds} {p : At A} {q : At B}
      → Near Z w P p q
      → O (Near Z (opening A B kind p.built q.built ◂ innermost w ∷ w) P) (start A kind p) (start B kind q)
  start~ kind (near c h m fits r) = op~ c h m fits (Z.starts c.token kind _ _ _ r)

  start_as~ : (kind : ℕ) {w : World A B} {P : Holds} {p : At A} {q : At B} {f : A.Frame} {g : B.Frame}
      → Near Z w P p q
      → A.frame p.built ≡ f
      → B.frame q.built ≡ g
      → O (Near Z (node kind f g ◂ innermost w ∷ w) P) (start A kind p) (start B kind q)
  start_as~ kind h e d = rw (e, d) at (start~ kind h)

  finish~ : {n : Node A B} {live : Marked A B} {top : Level A B} {w : World A B} {P : Holds}
      → Takes (Near Z (n ◂ live ∷ top ∷ w) P) (Near Z (top ∷ w) P) (finish A n.kind n.left) (finish B n.kind n.right)
  finish~ _ _ (near c h m fits r) = op~ c h m fits (Z.finishes c.token _ _ _ _ _ _ r)

  start_at~ : (kind : ℕ) {n : Node A B} {x : Two} {older : Marked A B} {w : World A B} {P : Holds} {p : At A} {q : At B}
      → Near Z (n ◂ (x ∷ older) ∷ w) P p q
      → O (Near Z (opening A B kind p.built q.built ◂ (x ∷ older) ∷ n ◂ (x ∷ older) ∷ w) P) (start_at A kind x.0 p) (start_at B kind x.1 q)
  start_at~ kind (near c h m fits r) = op~ c h m fits (Z.start_ats c.token kind _ _ _ _ _ _ r)

  -- a wrap, at the newest mark
  wrap~ : (kind : ℕ) {n : Node A B} {x : Two} {older : Marked A B} {w : World A B} {P : Holds} {p : At A} {q : At B}
      → Near Z (n ◂ (x ∷ older) ∷ w) P p q
      → O (Near Z (opening A B kind p.built q.built ◂ (x ∷ older) ∷ n ◂ (x ∷ older) ∷ w) P) (wrap A kind x.0 p) (wrap B kind x.1 q)
  unfolding wrap
  wrap~ kind h = bind~ (start_at~ kind h) (λ p₁ q₁ h₁. bind~ (start_at~ SyntaxKind.ClauseArgument h₁) finish~)

  -- the reader is moved
  moved~ : (to : Cursor → Cursor) {w : World A B} {P : Holds}
      → Quiet w P (λ p. went (with_lexer A (to p.lexer) p)) (λ q. went (with_lexer B (to q.lexer) q))
  moved~ to _ _ (near c h m fits r) = went~ (near (to c) h m fits r)

  -- marks are forgotten
  less : {n : Node A B} {less live : Marked A B} {w : World A B} {a : A.State} {b : B.State}
      → Sub less live
      → Z.R (n ◂ live ∷ w) a b
      → Z.R (n ◂ less ∷ w) a b
  less s r = Z.forgets _ _ _ _ _ _ s r

  forget~ : {n : Node A B} {less live : Marked A B} {w : World A B} {P : Holds} {p : At A} {q : At B}
      → Sub less live
      → Near Z (n ◂ live ∷ w) P p q
      → Near Z (n ◂ less ∷ w) P p q
  forget~ s (near c h m fits r) = near c h m fits (less s r)

  -- ---- routines without an item inside

  module _ (source : Source) where
    -- whether a next token is there whose kind passes a test
    abbrev sees : (ℕ → Bool) → Cursor → Bool
    sees test c = asked test (peek source.tokens c)

    drop_from~ : (n i : ℕ) {w : World A B} {a : A.State} {b : B.State} → Z.R w a b → Z.R w (drop_from A source n i a) (drop_from B source n i b)
    unfolding drop_from
    drop_from~ zero i r = r
    drop_from~ (suc n) i r = drop_from~ n (i + 1) (Z.drops i reason_trivia _ _ _ r)

    -- in the node that is open
    module _ {top : Level A B} {w : World A B} {P : Holds} where
      leaf~ : (l : Leaf) → Quiet (top ∷ w) P (leaf A l) (leaf B l)
      leaf~ l _ _ (near c h m fits r) = op~ c h m fits (Z.leafs c.token l _ _ _ _ r)

      eat_as~ : (kind : ℕ) → Quiet (top ∷ w) P (eat_as A source kind) (eat_as B source kind)
      unfolding eat_as
      eat_as~ kind _ _ (near c h m fits r) = bind~ (leaf~ _ _ _ (near c h m fits r)) (moved~ eaten)

      eat~ : Quiet (top ∷ w) P (eat A source) (eat B source)
      unfolding eat
      eat~ _ _ (near c h m fits r) = eat_as~ _ _ _ (near c h m fits r)

      if_next~ : (kind : ℕ) {f : Rule A} {g : Rule B} → Quiet (top ∷ w) P f g → Quiet (top ∷ w) P (if_next A source kind f) (if_next B source kind g)
      if_next~ kind reads _ _ (near c h m fits r) =
          let here = near c h m fits r in
          cond~ (sees (eqb kind) c) (λ _. reads _ _ here) (λ _. went~ here)

      eat_if~ : (kind : ℕ) → Quiet (top ∷ w) P (eat_if A source kind) (eat_if B source kind)
      unfolding eat_if
      eat_if~ kind p q h = if_next~ kind eat~ p q h

      eat_while~ : (test : ℕ → Bool) (turns : ℕ) → Quiet (top ∷ w) P (eat_while A source test turns) (eat_while B source test turns)
      unfolding eat_while
      eat_while~ test zero _ _ h = went~ h
      eat_while~ test (suc n) _ _ (near c h m fits r) =
          let here = near c h m fits r in
          cond~ (sees test c) (λ _. bind~ (eat~ _ _ here) (eat_while~ test n)) (λ _. went~ here)

      eat_all~ : (test : ℕ → Bool)
          → Quiet (top ∷ w) P (λ p. eat_while A source test (turns A source p) p) (λ q. eat_while B source test (turns B source q) q)
      eat_all~ test _ _ (near c h m fits r) = eat_while~ test _ _ _ (near c h m fits r)

      trivia~ : Quiet (top ∷ w) P (trivia A source) (trivia B source)
      unfolding trivia
      trivia~ = eat_all~ is_trivia

      single_char~ : Quiet (top ∷ w) P (single_char A source) (single_char B source)
      unfolding single_char
      single_char~ _ _ (near c h m fits r) = bind~ (leaf~ _ _ _ (near c h m fits r)) (moved~ (consumed source.tokens _))

      -- ---- held trivia

      leaves_from~ : (n i : ℕ) → Quiet (top ∷ w) P (leaves_from A source n i) (leaves_from B source n i)
      unfolding leaves_from
      leaves_from~ zero i _ _ h = went~ h
      leaves_from~ (suc n) i _ _ h = bind~ (leaf~ _ _ _ h) (leaves_from~ n (i + 1))

      -- nothing is held
      held_none~ : Quiet (top ∷ w) P (λ p. went (holding_none A p)) (λ q. went (holding_none B q))
      held_none~ _ _ (near c h m fits r) = went~ (near c c.token m fits r)

      extract~ : Quiet (top ∷ w) P (extract_holding_trivia A source) (extract_holding_trivia B source)
      unfolding extract_holding_trivia
      extract~ _ _ (near c h m fits r) = bind~ (leaves_from~ (c.token - h) h _ _ (near c h m fits r)) held_none~

      -- ---- delimiters, and what is skipped

      delimiter_of~ : (o : Option ℕ) → Quiet (top ∷ w) P (delimiter_of A source o) (delimiter_of B source o)
      delimiter_of~ none _ _ h = went~ h
      delimiter_of~ (some kind) p q h =
          cond~ (eqb kind Token.Generic) (λ _. eat_as~ SyntaxKind.TokenCommandSym p q h)
          (λ _. cond~ (is_command_name kind) (λ _. went~ h)
          (λ _. cond~ (eqb kind Token.Dollar) (λ _. went~ h)
          (λ _. cond~ (eqb kind Token.Word) (λ _. single_char~ p q h) (λ _. eat~ p q h))))

      delimiter~ : Quiet (top ∷ w) P (delimiter A source) (delimiter B source)
      unfolding delimiter
      delimiter~ _ _ (near c h m fits r) = delimiter_of~ (peek source.tokens c) _ _ (near c h m fits r)

      drop_next~ : (reason : ℕ) → Quiet (top ∷ w) P (drop_next A source reason) (drop_next B source reason)
      unfolding drop_next
      drop_next~ reason _ _ (near c h m fits r) = went~ (near (eaten c) h m fits (Z.drops c.token reason _ _ _ r))

      eat_body_of_ifs~ : (n nested : ℕ) → Quiet (top ∷ w) P (eat_body_of_ifs A source n nested) (eat_body_of_ifs B source n nested)
      unfolding eat_body_of_ifs
      eat_body_of_ifs~ zero nested _ _ h = went~ h
      eat_body_of_ifs~ (suc n) nested _ _ (near c h m fits r) =
          let here = near c h m fits r in
          cond~ (sees (eqb Token.EndIf) c)
          (λ _. cond~ (eqb nested 0) (λ _. drop_next~ reason_closer _ _ here) (λ _. bind~ (eat~ _ _ here) (eat_body_of_ifs~ n (nested - 1))))
          (λ _. cond~ (sees is_if c) (λ _. bind~ (eat~ _ _ here) (eat_body_of_ifs~ n (nested + 1)))
          (λ _. cond~ (sees (λ kind. true) c) (λ _. bind~ (eat~ _ _ here) (eat_body_of_ifs~ n nested)) (λ _. went~ here)))

      body~ : Quiet (top ∷ w) P (λ p. eat_body_of_ifs A source (turns A source p) 0 p) (λ q. eat_body_of_ifs B source (turns B source q) 0 q)
      body~ _ _ (near c h m fits r) = eat_body_of_ifs~ _ 0 _ _ (near c h m fits r)

    -- in a node of their own
    module _ {top : Level A B} {w : World A B} {P : Holds} where
      one_in~ : (kind : ℕ) → Quiet (top ∷ w) P (one_in A source kind) (one_in B source kind)
      unfolding one_in
      one_in~ kind _ _ h = from~ (start~ kind h ▸ eat~ ⨾ finish~ ⨾ done~)

      text~ : Quiet (top ∷ w) P (text A source) (text B source)
      unfolding text
      text~ _ _ h = from~ (start~ SyntaxKind.ItemText h ▸ eat~ ⨾ eat_all~ is_text_component ⨾ finish~ ⨾ done~)

      clause_lr~ : Quiet (top ∷ w) P (clause_lr A source) (clause_lr B source)
      unfolding clause_lr
      clause_lr~ _ _ h = from~ (start~ SyntaxKind.ClauseLR h ▸ eat~ ⨾ trivia~ ⨾ delimiter~ ⨾ finish~ ⨾ done~)

      skipped_body~ : (kind : ℕ) → Quiet (top ∷ w) P (skipped_body A source kind) (skipped_body B source kind)
      unfolding skipped_body
      skipped_body~ kind _ _ h = from~ (start~ kind h ▸ drop_next~ reason_opener ⨾ body~ ⨾ finish~ ⨾ done~)

      end_clause~ : Quiet (top ∷ w) P (end_clause A source) (end_clause B source)
      unfolding end_clause
      end_clause~ p q h = if_next~ Token.EndEnvironment (one_in~ SyntaxKind.ItemEnd) p q h

      right_clause~ : Quiet (top ∷ w) P (right_clause A source) (right_clause B source)
      unfolding right_clause
      right_clause~ p q h = if_next~ Token.Right clause_lr~ p q h

    -- ---- a node around what stands from a mark on

    -- a node is opened at the newest mark, if at one
    data Newest : Option Two → Marked A B → Type 0 where
      at_none : (l : Marked A B) → Newest none l
      at_first : (x : Two) (l : Marked A B) → Newest (some x) (x ∷ l)

    at_listed : (o : Option Two) → Newest o (listed o)
    at_listed none = at_none []
    at_listed (some x) = at_first x []

    start_around~ : (kind : ℕ) {o : Option Two} {n : Node A B} {live : Marked A B} {w : World A B} {P : Holds} {p : At A} {q : At B}
        → Newest o live
        → Near Z (n ◂ live ∷ w) P p q
        → O (Near Z (opening A B kind p.built q.built ◂ live ∷ n ◂ live ∷ w) P)
        (start_around A source kind (lefts o) p)
        (start_around B source kind (rights o) q)
    unfolding start_around
    start_around~ kind (at_none l) h = start~ kind h
    start_around~ kind (at_first x l) h = wrap~ kind h

    -- left1: at last, else at start
    left1_command~ : (s : Scope) (first last : Option Two) (c : Cursor) (h : ℕ) {n : Node A B} {w : World A B} {a : A.State} {b : B.State}
        → Z.R (n ◂ (listed last ++ listed first) ∷ w) a b
        → O (Near Z (n ◂ (listed last ++ listed first) ∷ w) (Among (listed last ++ listed first)))
        (left1_command A source (left_at c h (record { scope = s; start = first; last = last }) a))
        (left1_command B source (right_at c h (record { scope = s; start = first; last = last }) b))
    unfolding left1_command
    left1_command~ s first none c h r =
        let here = near c h (record { scope = s; start = first; last = none }) (sub_refl _) r in
        from~ (start_around~ SyntaxKind.ItemCmd (at_listed first) here ▸ eat~ ⨾ finish~ ⨾ done~)
    left1_command~ s first (some x) c h r =
        let here = near c h (record { scope = s; start = first; last = some x }) (sub_refl _) r in
        from~ (start_around~ SyntaxKind.ItemCmd (at_first x (listed first)) here ▸ eat~ ⨾ finish~ ⨾ done~)

    -- ---- lists, and items inside

    -- whether the item that begins here may carry a script
    abbrev carries : At A → Bool
    carries p = attachable (kind_at source.tokens p.lexer.token) (source.shape p.lexer.token)

    -- marks in front of others, where they are kept
    abbrev kept : Bool → Marked A B → Marked A B → Marked A B
    kept true front l = front ++ l
    kept false front l = l

    -- behind an item: the marks are among some of those before it, which may still be used, and those in front too if the item may carry a script
    data Behind (t : Bool) (front l : Marked A B) (n : Node A B) (w : World A B) (p : At A) (q : At B) : Type 0 where
      behind : (less : Marked A B) → Sub less l → Near Z (n ◂ (kept t front less) ∷ w) (Among less) p q → Behind t front l n w p q

    -- in a list: its marks are among those that may be used
    data Listing (n : Node A B) (w : World A B) (p : At A) (q : At B) : Type 0 where
      listing : (l : Marked A B) → Near Z (n ◂ l ∷ w) (Among l) p q → Listing n w p q

    -- what reads an item inside a node, with at least so many nodes around it: with marks among `l`, all of which may be used, and more in front
    abbrev Inner : ℕ → (Bool → Rule A) → (Bool → Rule B) → Type 0
    Inner low i j = (single : Bool) (front l : Marked A B) (n : Node A B) (w : World A B)
        → low ≤ length w
        → (p : At A) (q : At B)
        → Near Z (n ◂ (front ++ l) ∷ w) (Among l) p q
        → O (Behind (carries p) front l n w) (i single p) (j single q)

    abbrev Anything : Holds
    Anything m = Unit {0}

    module _ {n : Node A B} {w : World A B} where
      settled : {t : Bool} {front l : Marked A B} {p : At A} {q : At B} → Behind t front l n w p q → Near Z (n ◂ [] ∷ w) (Among l) p q
      settled (behind fewer sub (near c h m among r)) = near c h m (sub_trans among sub) (less (sub_nil _) r)

      unmoved : (t : Bool) {front l : Marked A B} {p : At A} {q : At B}
          → Near Z (n ◂ (front ++ l) ∷ w) (Among l) p q
          → Behind t front l n w p q
      unmoved true {l} h = behind l (sub_refl l) h
      unmoved false {front} {l} h = behind l (sub_refl l) (forget~ (sub_behind front l) h)

      closed : {p : At A} {q : At B} → Listing n w p q → Near Z (n ◂ [] ∷ w) Anything p q
      closed (listing l (near c h m among r)) = near c h m tt (less (sub_nil l) r)

      -- last becomes the mark before the item, if it may carry a script
      lasts : (t : Bool) (x : Two) {l : Marked A B} {p : At A} {q : At B}
          → Behind t (x ∷ []) l n w p q
          → Listing n w
          (with_marks A p.list.start (cond t (some x.0) p.list.last) p)
          (with_marks B q.list.start (cond t (some x.1) q.list.last) q)
      lasts true x (behind fewer sub (near c h m among r)) =
          let marks : Lists A B = record { scope = m.scope; start = m.start; last = some x } in
          listing (x ∷ fewer) (near c h marks (keep (sub_trans (start_of m) among)) r)
      lasts false x (behind fewer sub (near c h m among r)) = listing fewer (near c h m among r)

      -- a new list, with a new mark as its start
      fresh : (s : Scope) (c : Cursor) (h : ℕ) {live : Marked A B} {a : A.State} {b : B.State}
          → Z.R (n ◂ live ∷ w) a b
          → Listing n w
          (left_at c h (record { scope = s; start = some (A.mark a, B.mark b); last = none }) a)
          (right_at c h (record { scope = s; start = some (A.mark a, B.mark b); last = none }) b)
      fresh s c h {live} {a} {b} r =
          let new : Two = (A.mark a, B.mark b) in
          let marks : Lists A B = record { scope = s; start = some new; last = none } in
          listing (new ∷ []) (near c h marks (sub_refl _) (less (keep (sub_nil live)) (Z.marks _ _ _ _ _ r)))

    -- other marks are put in
    relist~ : (to : Scope → Lists A B) {w : World A B} {P P' : Holds}
        → ((s : Scope) → P' (to s))
        → Takes (Near Z w P) (Near Z w P')
        (λ p. went (with_list A (left_list (to p.list.scope)) p))
        (λ q. went (with_list B (right_list (to q.list.scope)) q))
    relist~ to fits' _ _ (near c h m fits r) = went~ (near c h (to m.scope) (fits' m.scope) r)

    anew~ : {n : Node A B} {live : Marked A B} {w : World A B} {P : Holds}
        → Takes (Near Z (n ◂ live ∷ w) P) (Listing n w)
        (λ p. went (with_marks A (some (A.mark p.built)) none p))
        (λ q. went (with_marks B (some (B.mark q.built)) none q))
    anew~ _ _ (near c h m fits r) = went~ (fresh m.scope c h r)

    -- behind arguments the start is as it was, and there is no last
    abbrev Around : Holds → Holds → Type 0
    Around P P' = (m : Lists A B) → P m → (s : Scope) → P' (start_only m s)

    -- among marks, the start alone is too
    around_among : (l : Marked A B) → Around (Among l) (Among l)
    around_among l m among s = sub_trans (start_of m) among

    -- there is no start: what last is does not matter any more
    abbrev Startless : Holds
    Startless m = m.start ≡ none

    argument_node~ : {read : Rule A} {read' : Rule B} {top : Level A B} {w : World A B}
        → ((n : Node A B) (live : Marked A B) → Takes (Near Z (n ◂ live ∷ top ∷ w) (Among [])) (Near Z (n ◂ [] ∷ top ∷ w) (Among [])) read read')
        → Quiet (top ∷ w) (Among []) (argument_node A source read) (argument_node B source read')
    unfolding argument_node argument_begins argument_ends ignore_holding_trivia
    argument_node~ reads _ _ (near c h m {a} {b} among r) =
        let opened =
        start_as~ SyntaxKind.ClauseArgument {P = Among []} (near c c.token m among (drop_from~ (c.token - h) h r))
        (drop_from-frame A source Z.frame_left (c.token - h) h a)
        (drop_from-frame B source Z.frame_right (c.token - h) h b) in
        from~ (from~ (goes refl refl (opened ▸ done~)) ▸ reads _ _ ⨾ steps~ (finish~ ⨾ held_none~ ⨾ done~) ⨾ done~)

    module _ {i : Bool → Rule A} {j : Bool → Rule B} (low : ℕ) (inner : Inner low i j) where
      -- ---- lists and groups

      module _ {n : Node A B} {w : World A B} (deep : low ≤ length w) where
        items~ : (stop : ℕ → Bool) (turns : ℕ) → Takes (Listing n w) (Listing n w) (items A source i stop turns) (items B source j stop turns)
        unfolding items
        items~ stop zero _ _ h = went~ h
        items~ stop (suc turns) _ _ (listing l (near c h m among r)) =
            let marked = Z.marks _ _ _ _ _ r in
            cond~ (sees (λ kind. cond (stop kind) false true) c)
            (λ _. bind~ (inner false (_ ∷ []) l n w deep _ _ (near c h m among marked)) (λ p q b. items~ stop turns _ _ (lasts _ _ b)))
            (λ _. went~ (listing l (near c h m among r)))

        -- all items of a list, up to what stops its scope
        all_items~ : (stop : Scope → ℕ → Bool)
            → Takes (Listing n w) (Near Z (n ◂ [] ∷ w) Anything)
            (λ p. items A source i (stop p.list.scope) (turns A source p) p)
            (λ q. items B source j (stop q.list.scope) (turns B source q) q)
        all_items~ stop _ _ (listing l (near c h m among r)) =
            weaker~ (λ p q. closed) (items~ (stop m.scope) _ _ _ (listing l (near c h m among r)))

        item_list~ : (scope : Scope) {live : Marked A B} {P : Holds}
            → Takes (Near Z (n ◂ live ∷ w) P) (Near Z (n ◂ [] ∷ w) P) (item_list A source i scope) (item_list B source j scope)
        unfolding item_list
        item_list~ scope _ _ (near c h m fits r) =
            from~ (went~ (fresh scope c h r) ▸ all_items~ (λ s. stops scope) ⨾ relist~ (λ s. m) (λ s. fits) ⨾ done~)

      module _ {top : Level A B} {w : World A B} (deep : low ≤ length (top ∷ w)) where
        item_group~ : (scope : Scope) {P : Holds} → Quiet (top ∷ w) P (item_group A source i scope) (item_group B source j scope)
        unfolding item_group
        item_group~ scope _ _ h = from~ (start~ (group_kind scope) h ▸ eat~ ⨾ item_list~ deep scope ⨾ eat_if~ (closer scope) ⨾ finish~ ⨾ done~)

      -- ---- arguments

      module _ {n : Node A B} {w : World A B} (deep : low ≤ length w) where
        piece_in~ : (what : Piece) → Quiet (n ◂ [] ∷ w) (Among []) (piece A source i what) (piece B source j what)
        unfolding piece
        piece_in~ character p q h = single_char~ p q h
        piece_in~ (within scope) p q h = item_group~ (le_step deep) scope p q h
        piece_in~ brace p q h = eat~ p q h
        piece_in~ item p q h = weaker~ (λ p q. settled) (inner false [] [] n w deep p q h)

        piece~ : (what : Piece) {live : Marked A B}
            → Takes (Near Z (n ◂ live ∷ w) (Among [])) (Near Z (n ◂ [] ∷ w) (Among [])) (piece A source i what) (piece B source j what)
        piece~ what {live} p q h = piece_in~ what p q (forget~ (sub_nil live) h)

      module _ {top : Level A B} {w : World A B} (deep : low ≤ length (top ∷ w)) where
        argument~ : (what : Piece) → Quiet (top ∷ w) (Among []) (argument A source i what) (argument B source j what)
        unfolding argument
        argument~ what = argument_node~ (λ n live. piece~ deep what)

        module _ (more : Matcher → Rule A) (more' : Matcher → Rule B) (goes_on : (m : Matcher) → Quiet (top ∷ w) (Among []) (more m) (more' m)) where
          chosen~ : (choice : Choice) (m : Matcher) → Quiet (top ∷ w) (Among []) (chosen A source i more choice m) (chosen B source j more' choice m)
          chosen~ ends m _ _ h = went~ h
          chosen~ holds m _ _ (near c h marks among r) = goes_on m _ _ (near (eaten c) h marks among r)
          chosen~ (takes what next) m p q h = bind~ (argument~ what p q h) (goes_on next)

          choice_for~ : (o : Option ℕ) (m : Matcher)
              → Quiet (top ∷ w) (Among [])
              (λ p. chosen A source i more (choice_for A source i o m p) m p)
              (λ q. chosen B source j more' (choice_for B source j o m q) m q)
          choice_for~ none m p q h = went~ h
          choice_for~ (some kind) m _ _ (near c h marks among r) =
              chosen~ (choose source.states marks.scope m kind) m _ _ (near c h marks among r)

        arguments~ : (n : ℕ) (m : Matcher) → Quiet (top ∷ w) (Among []) (arguments A source i n m) (arguments B source j n m)
        unfolding arguments
        arguments~ zero m _ _ h = went~ h
        arguments~ (suc n) m _ _ (near c h marks among r) =
            let here = near c h marks among r in
            choice_for~ (arguments A source i n) (arguments B source j n) (λ m. arguments~ n m) (peek source.tokens c) m _ _ here

        all_arguments~ : (m : Matcher)
            → Quiet (top ∷ w) (Among []) (λ p. arguments A source i (turns A source p) m p) (λ q. arguments B source j (turns B source q) m q)
        all_arguments~ m _ _ (near c h marks among r) = arguments~ _ m _ _ (near c h marks among r)

        match_arguments~ : (m : Matcher) {P P' : Holds}
            → Around P P'
            → Takes (Near Z (top ∷ w) P) (Near Z (top ∷ w) P') (match_arguments A source i m) (match_arguments B source j m)
        unfolding match_arguments
        match_arguments~ m around _ _ (near c h marks fits r) =
            let inside : Lists A B = record { scope = marks.scope; start = none; last = none } in
            from~ (went~ (near c c.token inside nil r) ▸ all_arguments~ m ⨾ relist~ (start_only marks) (around marks fits) ⨾ done~)

        arguments_of~ : (s : Shape) (l : Marked A B)
            → Quiet (top ∷ w) (Among l) (arguments_of A source i s) (arguments_of B source j s)
        unfolding arguments_of
        arguments_of~ s l _ _ (near c h m among r) =
            let here = near c h m among r in
            cond~ (name_only s) (λ _. held_none~ _ _ here)
            (λ _. cond~ (is_greedy (start_match s.form s.value)) (λ _. refused~ greedy_environment c.token Z.greedy)
            (λ _. match_arguments~ _ (around_among l) _ _ here))

      module _ {n : Node A B} {w : World A B} (deep : low ≤ length w) where
        greedy_items~ : {live : Marked A B} {P P' : Holds}
            → Around P P'
            → Takes (Near Z (n ◂ live ∷ w) P) (Near Z (n ◂ [] ∷ w) P') (greedy_items A source i) (greedy_items B source j)
        unfolding greedy_items
        greedy_items~ {live} {P} around _ _ (near c h marks {a} {b} fits r) =
            let here : Near Z (n ◂ live ∷ w) P (left_at c h marks a) (right_at c h marks b) = near c h marks fits r in
            steps~ (anew~ ⨾ all_items~ deep greedy_stops ⨾ relist~ (start_only marks) (around marks fits) ⨾ done~) _ _ here

        -- what follows `_` or `^`
        script~ : (has_script : Bool) (l : Marked A B)
            → Takes (Near Z (n ◂ l ∷ w) (Among l)) (Near Z (n ◂ [] ∷ w) (Among l)) (script A source i has_script) (script B source j has_script)
        unfolding script
        script~ true l p q h = steps~ (trivia~ ⨾ (λ p q h. weaker~ (λ p q. settled) (inner true [] l n w deep p q h)) ⨾ done~) p q h
        script~ false l p q h = went~ (forget~ (sub_nil l) h)

      -- ---- commands, environments, left-right bodies, attachments

      module _ {top : Level A B} {w : World A B} (deep : low ≤ length (top ∷ w)) where
        greedy_argument~ : {P P' : Holds}
            → Around P P'
            → Takes (Near Z (top ∷ w) P) (Near Z (top ∷ w) P') (greedy_argument A source i) (greedy_argument B source j)
        unfolding greedy_argument
        greedy_argument~ around _ _ h = from~ (start~ SyntaxKind.ClauseArgument h ▸ greedy_items~ deep around ⨾ finish~ ⨾ done~)

        with_arguments~ : (kind : ℕ) (s : Shape) (l : Marked A B)
            → Quiet (top ∷ w) (Among l) (with_arguments A source i kind s) (with_arguments B source j kind s)
        unfolding with_arguments
        with_arguments~ kind s l _ _ h = from~ (start~ kind h ▸ eat~ ⨾ arguments_of~ (le_step deep) s l ⨾ finish~ ⨾ extract~ ⨾ done~)

        begin_clause~ : (l : Marked A B) → Quiet (top ∷ w) (Among l) (begin_clause A source i) (begin_clause B source j)
        unfolding begin_clause
        begin_clause~ l _ _ (near c h m among r) =
            with_arguments~ SyntaxKind.ItemBegin (of_class class_environment (source.shape c.token)) l _ _ (near c h m among r)

        item_lr~ : {P : Holds} → Quiet (top ∷ w) P (item_lr A source i) (item_lr B source j)
        unfolding item_lr
        item_lr~ _ _ h = from~ (start~ SyntaxKind.ItemLR h ▸ clause_lr~ ⨾ item_list~ deep Scope.LR ⨾ right_clause~ ⨾ finish~ ⨾ done~)

      module _ {n : Node A B} {w : World A B} (deep : low ≤ suc (length w)) where
        greedy_command~ : {o : Option Two} {live : Marked A B} {P P' : Holds} {p : At A} {q : At B}
            → Around P P'
            → Newest o live
            → Near Z (n ◂ live ∷ w) P p q
            → O (Near Z (n ◂ live ∷ w) P') (greedy_command A source i (lefts o) p) (greedy_command B source j (rights o) q)
        unfolding greedy_command
        greedy_command~ around newest h =
            from~ (start_around~ SyntaxKind.ItemCmd newest h ▸ eat~ ⨾ greedy_argument~ (le_step deep) around ⨾ finish~ ⨾ done~)

        attachment_at~ : (has_script : Bool) (l : Marked A B) {o : Option Two} {p : At A} {q : At B}
            → Newest o l
            → Near Z (n ◂ l ∷ w) (Among l) p q
            → O (Near Z (n ◂ l ∷ w) (Among l)) (attachment_at A source i has_script (lefts o) p) (attachment_at B source j has_script (rights o) q)
        unfolding attachment_at
        attachment_at~ has_script l newest h =
            from~ (start_around~ SyntaxKind.ItemAttachComponent newest h ▸ eat~ ⨾ script~ deep has_script l ⨾ finish~ ⨾ done~)

        environment_item~ : (l live : Marked A B)
            → Quiet (n ◂ live ∷ w) (Among l) (environment_item A source i) (environment_item B source j)
        unfolding environment_item
        environment_item~ l live _ _ h =
            from~ (start~ SyntaxKind.ItemEnv h ▸ begin_clause~ (le_step deep) l ⨾ item_list~ deep Scope.Environment ⨾ end_clause~ ⨾ finish~ ⨾ done~)

      -- ---- any item

      module _ (front l : Marked A B) (n : Node A B) (w : World A B) (deep : low ≤ suc (length w)) where
        -- what was there before an item
        abbrev Before : At A → At B → Type 0
        Before = Near Z (n ◂ (front ++ l) ∷ w) (Among l)

        -- an item at whose marks nothing was wrapped, whether it may carry a script or not
        plain~ : (t : Bool) {o : Out (At A)} {u : Out (At B)} → O Before o u → O (Behind t front l n w) o u
        plain~ t o = weaker~ (λ p q. unmoved t) o

        -- an item that wraps may carry none
        wrapped~ : {t : Bool} {fewer : Marked A B} {o : Out (At A)} {u : Out (At B)}
            → t ≡ false
            → Sub fewer l
            → O (Near Z (n ◂ fewer ∷ w) (Among fewer)) o u
            → O (Behind t front l n w) o u
        wrapped~ {fewer} e sub o = rw e (weaker~ (λ p q h. behind fewer sub h) o)

        -- of the marks that may be used, those of a list
        own : {fewer : Marked A B} {a : A.State} {b : B.State} → Sub fewer l → Z.R (n ◂ (front ++ l) ∷ w) a b → Z.R (n ◂ fewer ∷ w) a b
        own sub r = less (sub_trans sub (sub_behind front l)) r

        infix_command~ : Takes Before (λ p q. Near Z (n ◂ [] ∷ w) (Among []) p q)
            (λ p. greedy_command A source i p.list.start (with_marks A none p.list.last p))
            (λ q. greedy_command B source j q.list.start (with_marks B none q.list.last q))
        infix_command~ _ _ (near c h m {a} {b} among r) =
            let marks : Lists A B = record { scope = m.scope; start = none; last = m.last } in
            let here : Near Z (n ◂ listed m.start ∷ w) Startless (left_at c h marks a) (right_at c h marks b) =
            near c h marks refl (own (sub_trans (start_of m) among) r) in
            weaker~ (λ p q. forget~ (sub_nil _)) (greedy_command~ deep (λ n e s. rw e nil) (at_listed m.start) here)

        command_of~ : (s : Shape) → Takes Before (Behind (attachable_command s) front l n w) (command_of A source i s) (command_of B source j s)
        unfolding command_of
        command_of~ s _ _ (near c h m among r) =
            let here = near c h m among r in
            cond~ (name_only s) (λ _. plain~ _ (one_in~ SyntaxKind.ItemCmd _ _ here))
            (λ _. cond~ (eqb s.form form_left1)
            (λ e. wrapped~ (rw e) among (left1_command~ m.scope m.start m.last c h (own among r)))
            (λ d. cond~ (eqb s.form form_infix_greedy)
            (λ e. wrapped~ (rw (d, e)) (sub_nil l) (infix_command~ _ _ here))
            (λ _. cond~ (is_greedy (start_match s.form s.value))
            (λ _. plain~ _ (greedy_command~ deep (around_among l) (at_none _) here))
            (λ _. plain~ _ (with_arguments~ deep SyntaxKind.ItemCmd s l _ _ here)))))

        attach_to~ : (has_script : Bool) (s : Scope) (first last : Option Two) (c : Cursor) (h : ℕ) {a : A.State} {b : B.State}
            → Sub (listed last ++ listed first) l
            → Z.R (n ◂ (front ++ l) ∷ w) a b
            → O (Behind false front l n w)
            (attach_to A source i has_script (lefts last) (left_at c h (record { scope = s; start = first; last = last }) a))
            (attach_to B source j has_script (rights last) (right_at c h (record { scope = s; start = first; last = last }) b))
        unfolding attach_to
        attach_to~ has_script s first (some x) c h among r =
            let here = near c h (record { scope = s; start = first; last = some x }) (sub_refl _) (own among r) in
            wrapped~ refl among (attachment_at~ deep has_script _ (at_first x (listed first)) here)
        attach_to~ true s first none c h among r =
            let here = near c h (record { scope = s; start = first; last = none }) among (own (sub_refl l) r) in
            wrapped~ refl (sub_refl l) (attachment_at~ deep true l (at_none l) here)
        attach_to~ false s first none c h among r = plain~ false (eat~ _ _ (near c h (record { scope = s; start = first; last = none }) among r))

        module _ (single : Bool) (c : Cursor) (h : ℕ) (m : Lists A B) {a : A.State} {b : B.State} (among : Among l m)
            (r : Z.R (n ◂ (front ++ l) ∷ w) a b) where
          read_item~ : (what : Item) (kind : ℕ)
              → O (Behind (attachable_item what kind (source.shape c.token)) front l n w)
              (read_item A source i single what (left_at c h m a))
              (read_item B source j single what (right_at c h m b))
          unfolding read_item attach_component
          read_item~ plain kind = plain~ _ (eat~ _ _ (near c h m among r))
          read_item~ error kind = plain~ true (one_in~ SyntaxKind.TokenError _ _ (near c h m among r))
          read_item~ word kind = plain~ true (cond~ single (λ _. single_char~ _ _ (near c h m among r)) (λ _. text~ _ _ (near c h m among r)))
          read_item~ comma kind = plain~ true (text~ _ _ (near c h m among r))
          read_item~ (group scope) kind = plain~ _ (item_group~ deep scope _ _ (near c h m among r))
          read_item~ (attachment has_script) kind = attach_to~ has_script m.scope m.start m.last c h among r
          read_item~ command kind = command_of~ (of_class class_command (source.shape c.token)) _ _ (near c h m among r)
          read_item~ environment kind = plain~ true (environment_item~ deep l _ _ _ (near c h m among r))
          read_item~ left_right kind = plain~ true (item_lr~ deep _ _ (near c h m among r))
          read_item~ (skipped kind') kind = plain~ true (skipped_body~ kind' _ _ (near c h m among r))

          content_if~ : (t : Bool)
              → O (Behind (attachable (kind_at source.tokens c.token) (source.shape c.token)) front l n w)
              (content_for A source i (cond t (some (kind_at source.tokens c.token)) none) single (left_at c h m a))
              (content_for B source j (cond t (some (kind_at source.tokens c.token)) none) single (right_at c h m b))
          unfolding attachable
          content_if~ true = read_item~ (item_of (kind_at source.tokens c.token)) (kind_at source.tokens c.token)
          content_if~ false = went~ (unmoved _ (near c h m among r))

    -- an item in a node: those inside it have one node more around them
    content~ : {i : Bool → Rule A} {j : Bool → Rule B} (low : ℕ) → Inner (suc low) i j → Inner low (content A source i) (content B source j)
    unfolding content peek
    content~ low inner single front l n w deep _ _ (near c h m among r) =
        content_if~ (suc low) inner front l n w (omega arith) single c h m among r (ltb c.token (token_count source.tokens))

    -- ---- the knot, at one level

    too_deep~ : {w : World A B} {P : Holds} {p : At A} {q : At B} {Q : Relation (At A) (At B)}
        → Near Z w P p q
        → O Q (refused too_many_open (place A p)) (refused too_many_open (place B q))
    too_deep~ (near c h m fits r) = refused~ too_many_open c.token Z.deep

    content_at~ : (d low : ℕ) → Inner low (content_at A source d) (content_at B source d)
    unfolding content_at
    content_at~ zero low = λ single front l n w deep p q h. too_deep~ h
    content_at~ (suc d) low = content~ low (content_at~ d (suc low))

    -- ---- the knot, at two levels, if no more nodes are ever open than either is made for: then neither comes to nothing

    abbrev Bounded : ℕ → Type 0
    Bounded most = (w : World A B) (a : A.State) (b : B.State) → Z.R w a b → length w ≤ most

    full~ : {most low : ℕ} {n : Node A B} {live : Marked A B} {w : World A B} {P : Holds} {p : At A} {q : At B}
        → Bounded most
        → most ≤ low
        → low ≤ length w
        → Near Z (n ◂ live ∷ w) P p q
        → ⊥
    full~ bounded full deep (near c h m fits r) = let few = bounded _ _ _ r in omega arith

    levels~ : (d e low most : ℕ) → Bounded most → most ≤ low + d → most ≤ low + e → Inner low (content_at A source d) (content_at B source e)
    unfolding content_at
    levels~ zero e low most bounded full enough = λ single front l n w deep p q h. absurd (full~ bounded (omega arith) deep h)
    levels~ (suc d) zero low most bounded enough full = λ single front l n w deep p q h. absurd (full~ bounded (omega arith) deep h)
    levels~ (suc d) (suc e) low most bounded left right = content~ low (levels~ d e (suc low) most bounded (omega arith) (omega arith))

    -- ---- the root

    abbrev AtRoot : Holds
    AtRoot m = m ≡ at_root

    ended~ : {live : Marked A B} {f : A.Frame} {g : B.Frame}
        → Takes (Near Z (node SyntaxKind.ScopeRoot f g ◂ live ∷ []) AtRoot) (Ended Z)
        (finish A SyntaxKind.ScopeRoot f)
        (finish B SyntaxKind.ScopeRoot g)
    ended~ _ _ (near c h m fits r) = rw fits (bind~ (Z.ends c.token _ _ _ _ _ r) (λ a b whole. went~ (ended c h whole)))

    module _ {a : A.State} {b : B.State} (r : Z.R [] a b) where
      parse_at~ : (d e : ℕ) → Inner 0 (content_at A source d) (content_at B source e) → O (Ended Z) (parse_at A source d a) (parse_at B source e b)
      parse_at~ d e inner =
          from~ (start~ SyntaxKind.ScopeRoot (near at_start 0 at_root refl r) ▸ item_list~ 0 inner (omega arith) Scope.Root ⨾ ended~ ⨾ done~)

      -- related builders at the start: related runs
      pub simulation : OutRel Skip May (Ended Z) (parse A source a) (parse B source b)
      unfolding parse
      simulation = parse_at~ _ _ (content_at~ _ 0)

      -- and so at two levels that are enough
      pub simulation_at : (d e most : ℕ)
          → Bounded most
          → most ≤ d
          → most ≤ e
          → OutRel Skip May (Ended Z) (parse_at A source d a) (parse_at B source e b)
      simulation_at d e most bounded left right = parse_at~ d e (levels~ d e 0 most bounded (omega arith) (omega arith))
