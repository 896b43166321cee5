-- The answers of the members of the cycle, member by member: a turn for each call or a law for each arm, and each goal by the nearest.
use Prim.Native.Nat.{ℕ, ◌≤◌, ◌<◌}
use mathlib.Core.List.{List, [], ◌∷◌}
use mathlib.Core.Path.{refl, ◌≡◌, sym, ap, ◌∙◌, ap₂}
use native.Mathlib.Omega.{arith}
use Rattle.rules.specs.Checks.{Tables, source_of}
use Rattle.rules.specs.Flat.{flat}
use Rattle.rules.specs.Position.{steps, asked}
use Rattle.items.specs.Items.{piece_for, choice_for, shape_for, item_for}
use Rattle.state.specs.Stands.{Step, Buffers, Here, kept_of, mark_in, option_of, pos_of, no_mark, mark_of}
use Rattle.clauses.proofs.ArgumentNode.{framed}
use Rattle.routines.proofs.HeldLaws.{holding_none_lem}
use Rattle.state.proofs.Turn.{calls, opening, closing, done, begins-in, still_next, finishes, around, starts, Turn, ran-at}
use Rattle.syntax.specs.declared.refusal.Refused.{Refused}
use Rattle.state.proofs.Walk.{HandsOn, handed, Rule, line, begins, closes, ran, last_step, Walk, hands_on, stops, arrives, Call, turns}
use Rattle.parser.specs.Member.{inner_at, given, lent, Next, buffers, all_arguments}
use Rattle.parser.proofs.Cycle.{settled, Came, below, TurnedBy, hands_back, open_behind, first_inside, runs_as, ran-runs, runs, remarks, unholds, above, read-less}
use lib.ListN.{length, drop}
use Rattle.rules.specs.Matcher.{not_accepted, whole, term, match_next, is_greedy, start_match, form_left1, form_infix_greedy, Matcher}
use Rattle.rules.proofs.Characters.{char_fits}
use Rattle.lexer.specs.Reading.{cursor_of}
use Rattle.lexer.proofs.Laws.{peeked, peek-some, peek-none}
use Rattle.lexer.proofs.Utf8.{to_the_end}
use Rattle.arg_match.specs.Answers.{matcher_of, matched_of}
use Rattle.items.specs.declared.choice.Choice.{Choice}
use Rattle.parser.proofs.ArgumentLoop.{Chosen, at-end, by_kind, arguments-begin, arguments-end, arguments-hold, arguments-hold_less, arguments-stop, arguments-take}
use Rattle.parser.proofs.Choices.{character_refused}
use Rattle.parser.proofs.WordLoop.{Taking, taking_begins, taking_ends, taking_known, taking_stops, taking_less, taking_goes_on}
use mathlib.Core.Bool.{Bool, true, false, not, false≢true, true≢false}
use mathlib.Core.Logic.{◌⊎◌, inl, inr, ⊎_elim}
use Rattle.rules.specs.Outcome.{Out, went, greedy_environment}
use Rattle.rules.specs.SyntaxKind.{ItemAttachComponent, ItemEnv, ItemCmd, ClauseArgument, ItemLR}
use Rattle.state.specs.Contract.{MarkOk, Ready, Runs, Left, is_word}
use Rattle.state.specs.declared.Parser.{Parser}
use Rattle.state.proofs.Marks.{taken_is, taken_ok, no_mark_lem, kept_again}
use Rattle.parser.proofs.Entry.{somehow}
use borrow.Author.Tests.{eq-eqb, ne_eqb, eqb-true}
use lib.Dec.{eqb}
use Rattle.std.specs.Prelude.{Option, is_some, None as none, Some as some, Ok, Err}
use Rattle.builder.specs.declared.Checkpoint.{Checkpoint}
use Rattle.rules.specs.Items.{of_class, class_command, name_only, class_environment, group_kind, closer}
use Rattle.items.specs.declared.shape.Shape.{Shape}
use Rattle.state.specs.Change.{remarked, unheld}
use Rattle.state.specs.declared.KeptMark.{KeptMark}
use Rattle.parser.proofs.Shapes.{shape_in, greedy-is}
use Rattle.rules.specs.Tables.{token_count}
use Rattle.items.specs.declared.item.Item.{Item}
use Rattle.parser.proofs.ListNode.{list_node, node_starts, node_ends, eats}
use Rattle.parser.proofs.Extents.{inside_stops, inside_closes}
use Rattle.syntax.specs.ParseScope.{scope_of}
use Rattle.rules.specs.Scope.{LR}
use Rattle.parser.proofs.ItemLoop.{Turned, asks, loop_begins, loop_turned, loop_there, loop_stops, loop_goes_on, loop_less, loop_ends}
use Rattle.state.proofs.Building.{mark_more}
use Rattle.items.specs.declared.choice.Piece.{Piece}
use Rattle.rules.specs.Cursor.{peek}
use Rattle.parser.proofs.Scripts.{word-there, no_trivia, one-character, whole_item}
use Rattle.rules.specs.Reading as spec
use Rattle.rules.specs.Routines as routine
use Rattle.rules.specs.Position as position
use Rattle.rules.specs.SyntaxKind as kinds
use Rattle.rules.specs.Scope as scopes
use Rattle.parser.proofs.+reading.Goals as goal
use Rattle.parser.proofs.+reading.Goals.{arg-After-begin_argument, arg-After-end_argument, arg-After-piece, arg-Start, arguments-After-char_len-size, arguments-After-choose, arguments-At-loop-word, arguments-In-Some, arguments-In-Whole, arguments-Start, attach_component-After-eat-2, attach_component-After-finish_node, attach_component-After-script, attach_component-After-start_around, attach_component-Start, attach_component-else-not-has_script-via-else-not-has_script, attach_component-else-not-has_script-via-then-not-has_script+else-is_none, command-After-of_class-shape, command-After-with_marks-startless, command-Else-is_greedy, command-Else-name_only, command-Else-shape-eq-INFIX_GREEDY, command-Then-is_greedy, content-After-item_of, environment-After-end_clause, environment-After-finish_node, environment-After-inside, environment-After-of_class-shape, environment-After-start_node, environment-After-with_arguments, environment-In_ok-begun, environment-Start, greedy_command-After-eat, greedy_command-After-finish_node, greedy_command-After-finish_node-2, greedy_command-After-inside, greedy_command-After-start_around, greedy_command-After-start_node, greedy_command-In_ok-named, greedy_command-Start, item_group-After-eat, item_group-After-eat_if, item_group-After-finish_node, item_group-After-inside, item_group-After-start_node, item_group-Start, item_lr-After-clause_lr, item_lr-After-finish_node, item_lr-After-inside, item_lr-After-right_clause, item_lr-After-start_node, item_lr-Start, items-At-loop-extent, items-In-loop-extent, items-Start, match_arguments-After-arguments, match_arguments-After-holding_none-free, match_arguments-After-with_marks-cleared, match_arguments-Else-is_greedy, match_arguments-Else-name_only, match_arguments-Start, match_arguments-Then-name_only, script-After-trivia, script-Else-not-has_script, script-In_ok-after, script-Then-word_next, script-Then-word_next-2, with_arguments-After-eat, with_arguments-After-extract_holding_trivia, with_arguments-After-finish_node, with_arguments-After-match_arguments, with_arguments-After-start_node, with_arguments-Start}

-- ---- Arg
-- `arg`: the walk beside its rule, a turn for each call, and each goal by the nearest turn.

-- the rule, as the steps that are left of it
abbrev arg_plan : {t : ℕ} → goal.arg-Start t → List Rule
arg_plan b =
    let t = given b.args.tables in
    (λ n d. routine.argument_begins (flat n) (source_of t))
    ∷ (λ n d. spec.piece (flat n) (source_of t) (inner_at t n d) (piece_for b.args.what))
    ∷ (λ n d. routine.argument_ends (flat n) (source_of t) (record { first = b.args.p.builder.first; node = b.args.p.builder.node }))
    ∷ []

abbrev arg_rule : {t : ℕ} → goal.arg-Start t → Rule
arg_rule b n d = spec.argument (flat n) (source_of (given b.args.tables)) (inner_at (given b.args.tables) n d) (piece_for b.args.what)

-- how a call ended: so many steps are done if it went
abbrev ArgTurned : {t : ℕ} → goal.arg-Start t → ℕ → ℕ → ℕ → Step → List ℕ → List ℕ → Type 0
ArgTurned b = TurnedBy (given b.args.tables) (arg_rule b) (arg_plan b) b.args.p (lent b.args.tree b.args.dropped)

arg_begun : {t : ℕ} (c : goal.arg-After-begin_argument t)
    → ArgTurned (goal.at.arg-After-begin_argument t c).Start 1 0 1 c.begin_argument.result c.begin_argument.new.tree
    c.begin_argument.new.dropped
unfolding spec.argument routine.argument_node steps line
arg_begun c =
    opening (begins c.requires.0 (λ n d. refl)) (begins-in c.begin_argument.ensures)
    c.begin_argument.auto.tree c.begin_argument.auto.dropped

arg_taken : {t : ℕ} (c : goal.arg-After-piece t)
    → ArgTurned (goal.at.arg-After-piece t c).Start 2 1 1 c.piece.result c.piece.new.tree c.piece.new.dropped
unfolding spec.content_at
arg_taken {t} c =
    let w = (arg_begun (goal.at.arg-After-piece t c).After-begin_argument).went (settled c.in_ok-begin_argument.was c.again-begun.ensures) in
    calls w (below (omega arith) c.piece.ensures) c.piece.auto.tree c.piece.auto.dropped

arg_ended : {t : ℕ} (c : goal.arg-After-end_argument t)
    → ArgTurned (goal.at.arg-After-end_argument t c).Start 3 1 0 c.end_argument.result c.end_argument.new.tree c.piece.new.dropped
arg_ended {t} c =
    closing c.requires.0 ((arg_taken (goal.at.arg-After-end_argument t c).After-piece).went c.in_ok-read.was)
    (closes (framed _ c.frame.ensures (c.end_argument.ensures _) _)) c.end_argument.auto.tree refl

pub arg-returns-in_err-begin_argument : goal.arg-returns-in_err-begin_argument
arg-returns-in_err-begin_argument t c =
    hands_back (arg_begun (goal.at.arg-returns-in_err-begin_argument t c).After-begin_argument) c.in_err-begin_argument.was c.from_residual.ensures

pub arg-piece-requires : goal.arg-piece-requires
arg-piece-requires t c = let measure = c.decreases in
    let w = (arg_begun (goal.at.arg-piece-requires t c).After-begin_argument).went (settled c.in_ok-begin_argument.was c.again-begun.ensures) in
    let begun = settled c.in_ok-begin_argument.was c.again-begun.ensures in
    (omega arith, (w.ready, still_next c.requires.0 (begins-in c.begin_argument.ensures) begun c.requires.1))

pub arg-returns-in_err-read : goal.arg-returns-in_err-read
arg-returns-in_err-read t c =
    hands_back (arg_taken (goal.at.arg-returns-in_err-read t c).After-piece) c.in_err-read.was c.from_residual-in_err-read.ensures

pub arg-end_argument-requires : goal.arg-end_argument-requires
arg-end_argument-requires t c = open_behind (arg_taken (goal.at.arg-end_argument-requires t c).After-piece) c.in_ok-read.was

pub arg-returns : goal.arg-returns
arg-returns t c = done (arg_ended (goal.at.arg-returns t c).After-end_argument)

-- ---- Arguments
-- `arguments`: the outer loop's invariant is the walk so far (ArgumentLoop.antt). The inner loop does not know where the outer one began, so its
-- invariant speaks of every walk that led to where the inner one began.

-- a token is next
arguments_next : {t : ℕ} (c : goal.arguments-In-Some t) → Next (given c.args.tables) c.arguments.now
arguments_next c = (peeked _ _ c.peek.ensures c.in-Some.is).there

-- what is chosen for it, in the list's scope
arguments_chosen_here : {t : ℕ} (c : goal.arguments-After-choose t) {choice : Choice} → c.choose.result ≡ choice
    → Chosen _ _ _ _ c.arguments.invariant (choice_for choice)
arguments_chosen_here c e =
    by_kind _ _ _ _ c.arguments.invariant
    (sym c.peek.ensures ∙ c.in-Some.is)
    (sym (rw c.scope.ensures at c.choose.ensures) ∙ ap choice_for e)

-- the loop over a Word, from where the outer one came to
arguments_taking : {t : ℕ} (c : goal.arguments-At-loop-word t)
    → let b = (goal.at.arguments-At-loop-word t c).Start in let outer = c.arguments in let l = c.loop-word in
    Taking (given b.args.tables) b.args.p (matcher_of b.args.m) (lent b.args.tree b.args.dropped) outer.now l.now (matcher_of l.matcher) l.word.now
    (buffers l.tree l.dropped)
arguments_taking c = c.loop-word.invariant _ _ _ c.arguments.invariant

-- a character is accepted
arguments_matched_here : {t : ℕ} (c : goal.arguments-In-Whole t)
    → whole (matcher_of c.in-Whole.next) ≡ match_next c.args.tables.now.states.now (matcher_of c.loop-word.matcher) term
arguments_matched_here c = ap matched_of (sym c.in-Whole.is) ∙ c.match_next.ensures

-- none is accepted
arguments_refused_here : {t : ℕ} (c : goal.arguments-In_default-match_next t)
    → not_accepted ≡ match_next c.args.tables.now.states.now (matcher_of c.loop-word.matcher) term
arguments_refused_here c = character_refused _ _ c.match_next.result c.in_default-match_next.not-Whole c.match_next.ensures

-- bytes of the Word are left
arguments_some : (word : List ℕ) {empty : Bool} → empty ≡ eqb (length word) 0 → empty ≡ false → 0 < length word
arguments_some [] is e = absurd (true≢false (sym is ∙ e))
arguments_some (byte ∷ rest) is e = omega arith

-- its bytes are there
arguments_size_fits : {t : ℕ} (c : goal.arguments-After-char_len-size t) → c.char_len-size.result ≤ length c.loop-word.word.now
arguments_size_fits c = let size = c.char_len-size.ensures in let fits = char_fits c.loop-word.word.now in omega arith

pub arguments-peek_text-word-requires : goal.arguments-peek_text-word-requires
arguments-peek_text-word-requires t c =
    (arguments_next (goal.at.arguments-peek_text-word-requires t c).In-Some, c.arguments.invariant.walk.ready.steady.fine)

pub arguments-character-requires : goal.arguments-character-requires
arguments-character-requires t c = let far = arguments_taking (goal.at.arguments-character-requires t c).At-loop-word in
    let some = arguments_some _ c.is_empty.ensures c.loop-word-test.true in
    let here = far.before some in
    ((here.there, here.kind), far.far.holding, taking_known _ _ _ _ far some)

pub arguments-arg-requires : goal.arguments-arg-requires
arguments-arg-requires t c = let measure = c.decreases in
    let far = c.arguments.invariant in
    let depth = far.walk.depth in
    (omega arith, (far.walk.ready, arguments_next (goal.at.arguments-arg-requires t c).In-Some, far.holding))

pub arguments-arguments-init : goal.arguments-arguments-init
arguments-arguments-init t c = arguments-begin _ _ _ _ c.requires.0 c.requires.1

pub arguments-loop-word-init : goal.arguments-loop-word-init
arguments-loop-word-init t c = λ p first b far. taking_begins _ _ _ _ far (record {
  there = arguments_next (goal.at.arguments-loop-word-init t c).In-Some;
  kind = (peeked _ _ c.peek.ensures c.in-Some.is).is ∙ c.if-kind-eq-WORD.true;
  is = c.peek_text-word.ensures;
})

pub arguments-arguments-smaller-in-loop-word : goal.arguments-arguments-smaller-in-loop-word
arguments-arguments-smaller-in-loop-word t c =
    (arguments_taking (goal.at.arguments-arguments-smaller-in-loop-word t c).At-loop-word).moved
    (eqb-true _ _ (sym c.is_empty.ensures ∙ c.loop-word-test.false))

pub arguments-returns-in_err-character : goal.arguments-returns-in_err-character
arguments-returns-in_err-character t c =
    taking_stops _ _ _ _ (arguments_taking (goal.at.arguments-returns-in_err-character t c).At-loop-word)
    (arguments_some _ c.is_empty.ensures c.loop-word-test.true)
    (arguments_matched_here (goal.at.arguments-returns-in_err-character t c).In-Whole) c.character.ensures
    c.in_err-character.was c.from_residual.ensures

pub arguments-slice_bounds-word-count : goal.arguments-slice_bounds-word-count
arguments-slice_bounds-word-count t c =
    let fits = arguments_size_fits (goal.at.arguments-slice_bounds-word-count t c).After-char_len-size in omega arith

pub arguments-slice_bounds-word-start : goal.arguments-slice_bounds-word-start
arguments-slice_bounds-word-start t c =
    let fits = arguments_size_fits (goal.at.arguments-slice_bounds-word-start t c).After-char_len-size in omega arith

pub arguments-loop-word-smaller : goal.arguments-loop-word-smaller
arguments-loop-word-smaller t c =
    taking_less _ _ _ _ (arguments_taking (goal.at.arguments-loop-word-smaller t c).At-loop-word)
    (arguments_some _ c.is_empty.ensures c.loop-word-test.true)
    (arguments_matched_here (goal.at.arguments-loop-word-smaller t c).In-Whole)
    c.character.ensures (settled c.in_ok-character.was c.again-now.ensures)

pub arguments-loop-word-preserved : goal.arguments-loop-word-preserved
arguments-loop-word-preserved t c = let word = c.loop-word.word.now in
    let rest = to_the_end word c.char_len-size.result ∙ ap (λ size. drop size word) c.char_len-size.ensures in
    λ p first b far. taking_goes_on _ _ _ _ (c.loop-word.invariant p first b far) (arguments_some _ c.is_empty.ensures c.loop-word-test.true)
    (arguments_matched_here (goal.at.arguments-loop-word-preserved t c).In-Whole) c.character.ensures
    (settled c.in_ok-character.was c.again-now.ensures) rest

pub arguments-arguments-smaller-in-Holds : goal.arguments-arguments-smaller-in-Holds
arguments-arguments-smaller-in-Holds t c =
    arguments-hold_less _ _ _ _ c.arguments.invariant (arguments_next (goal.at.arguments-arguments-smaller-in-Holds t c).In-Some)
    (arguments_chosen_here (goal.at.arguments-arguments-smaller-in-Holds t c).After-choose c.in-Holds.is) c.hold_trivia-now.ensures

pub arguments-arguments-preserved-in-Holds : goal.arguments-arguments-preserved-in-Holds
arguments-arguments-preserved-in-Holds t c =
    arguments-hold _ _ _ _ c.arguments.invariant (arguments_next (goal.at.arguments-arguments-preserved-in-Holds t c).In-Some)
    (arguments_chosen_here (goal.at.arguments-arguments-preserved-in-Holds t c).After-choose c.in-Holds.is) c.hold_trivia-now.ensures

pub arguments-returns-in_err-arg-in-Takes : goal.arguments-returns-in_err-arg-in-Takes
arguments-returns-in_err-arg-in-Takes t c =
    arguments-stop _ _ _ _ c.arguments.invariant (arguments_next (goal.at.arguments-returns-in_err-arg-in-Takes t c).In-Some)
    (arguments_chosen_here (goal.at.arguments-returns-in_err-arg-in-Takes t c).After-choose c.in-Takes.is) c.arg.ensures
    c.in_err-arg-in-Takes.was c.from_residual-in_err-arg-in-Takes.ensures

pub arguments-arguments-preserved : goal.arguments-arguments-preserved
arguments-arguments-preserved t c = arguments-take _ _ _ _ c.arguments.invariant (arguments_next (goal.at.arguments-arguments-preserved t c).In-Some)
    (arguments_chosen_here (goal.at.arguments-arguments-preserved t c).After-choose c.in-Takes.is) c.arg.ensures
    (settled c.in_ok-arg-in-Takes.was c.again-now-in-Takes.ensures)

pub arguments-returns-in_default : goal.arguments-returns-in_default
arguments-returns-in_default t c = arguments-end _ _ _ _ c.arguments.invariant
    (at-end _ _ _ _ c.arguments.invariant (sym c.peek.ensures ∙ c.in_default.is))

pub arguments-returns-in_default-match_next : goal.arguments-returns-in_default-match_next
arguments-returns-in_default-match_next t c =
    taking_ends _ _ _ _ (arguments_taking (goal.at.arguments-returns-in_default-match_next t c).At-loop-word)
    (arguments_some _ c.is_empty.ensures c.loop-word-test.true)
    (arguments_refused_here c)

pub arguments-returns-in-Ends : goal.arguments-returns-in-Ends
arguments-returns-in-Ends t c =
    arguments-end _ _ _ _ c.arguments.invariant (arguments_chosen_here (goal.at.arguments-returns-in-Ends t c).After-choose c.in-Ends.is)

-- ---- AttachComponent
-- `attach_component`: an apostrophe without a last mark is a leaf; else the walk beside its rule, a turn for each call, and each goal by the nearest.

-- ---- what the rule comes to, by the script and the last mark

abbrev attach_component_attach_rule : Tables → Bool → Rule
attach_component_attach_rule t has-script n d = spec.attach_component (flat n) (source_of t) (inner_at t n d) has-script

-- around what stands from a mark on
abbrev attach_component_node_rule : Tables → Bool → Option Checkpoint → Rule
attach_component_node_rule t has-script at n d = spec.attachment_at (flat n) (source_of t) (inner_at t n d) has-script (option_of at)

module _ (t : Tables) (n d : ℕ) (q : Here) where
  -- the rule, from a mark that the code has
  abbrev attach_component_to_mark : Bool → Option Checkpoint → Out Here
  attach_component_to_mark has-script at = spec.attach_to (flat n) (source_of t) (inner_at t n d) has-script (option_of at) q

  attach_component_a_leaf : (has-script : Bool) (at : Option Checkpoint) → has-script ≡ false → is_some at ≡ false
      → attach_component_to_mark has-script at ≡ routine.eat (flat n) (source_of t) q
  unfolding spec.attach_to
  attach_component_a_leaf has-script none no-script unmarked = rw no-script
  attach_component_a_leaf has-script (some checkpoint) no-script unmarked = absurd (true≢false unmarked)

  attach_component_a_node : (has-script : Bool) (at : Option Checkpoint) → (is_some at ≡ true) ⊎ (has-script ≡ true)
      → attach_component_to_mark has-script at ≡ attach_component_node_rule t has-script at n d q
  unfolding spec.attach_to
  attach_component_a_node true none so = refl
  attach_component_a_node true (some checkpoint) so = refl
  attach_component_a_node false (some checkpoint) so = refl
  attach_component_a_node false none so = ⊎_elim (λ e. absurd (false≢true e)) (λ e. absurd (false≢true e)) so

-- the mark that the code has of a state
abbrev attach_component_last_of : Parser → Option Checkpoint
attach_component_last_of p = mark_in p.list.last

module _ (t : Tables) (has-script : Bool) (p : Parser) (m : Buffers) (n d : ℕ) where
  attach_component_from_last : attach_component_attach_rule t has-script n d (pos_of p m) ≡ attach_component_to_mark t n d (pos_of p m) has-script
      (attach_component_last_of p)
  unfolding spec.attach_component
  attach_component_from_last =
      ap (λ at. spec.attach_to (flat n) (source_of t) (inner_at t n d) has-script at (pos_of p m)) (sym (taken_is p.list.last))

  attach_component_leaf : has-script ≡ false → is_some (attach_component_last_of p) ≡ false
      → attach_component_attach_rule t has-script n d (pos_of p m) ≡ routine.eat (flat n) (source_of t) (pos_of p m)
  attach_component_leaf no-script unmarked =
      attach_component_from_last ∙ attach_component_a_leaf t n d (pos_of p m) has-script (attach_component_last_of p) no-script unmarked

  attach_component_node : (is_some (attach_component_last_of p) ≡ true) ⊎ (has-script ≡ true)
      → attach_component_attach_rule t has-script n d (pos_of p m) ≡ attach_component_node_rule t has-script (attach_component_last_of p) n d
      (pos_of p m)
  attach_component_node so = attach_component_from_last ∙ attach_component_a_node t n d (pos_of p m) has-script (attach_component_last_of p) so

-- ---- what is known at the places

-- the rule, as the steps that are left of it
abbrev attach_component_plan : {t : ℕ} → goal.attach_component-Start t → List Rule
attach_component_plan b =
    let t = given b.args.tables in
    (λ n d. routine.start_around (flat n) (source_of t) ItemAttachComponent (option_of (attach_component_last_of b.args.p)))
    ∷ eats t
    ∷ (λ n d. spec.script (flat n) (source_of t) (inner_at t n d) b.args.has_script)
    ∷ node_ends ItemAttachComponent b.args.p
    ∷ []

-- how a call ended: so many steps are done if it went
abbrev AttachComponentTurned : {t : ℕ} → goal.attach_component-Start t → ℕ → ℕ → ℕ → Step → List ℕ → List ℕ → Type 0
AttachComponentTurned b =
    TurnedBy (given b.args.tables) (attach_component_attach_rule (given b.args.tables) b.args.has_script) (attach_component_plan b)
    b.args.p (lent b.args.tree b.args.dropped)

attach_component_started : {t : ℕ} (c : goal.attach_component-After-start_around t)
    → AttachComponentTurned (goal.at.attach_component-After-start_around t c).Start 1 0 1 c.start_around.result
    c.start_around.new.tree c.args.dropped.now
unfolding spec.attachment_at steps line
attach_component_started {t} c =
    let b = (goal.at.attach_component-After-start_around t c).Start in
    let mark-is = ap is_some (sym c.list_last-last.ensures) in
    -- there is a mark, or a script
    let so : (is_some (attach_component_last_of b.args.p) ≡ true) ⊎ (b.args.has_script ≡ true) =
    elim c.else-not-has_script.branch [
      | attach_component-else-not-has_script-via-then-not-has_script+else-is_none w ↦
          inl (mark-is ∙ w.is_none.ensures ∙ ap not w.if-is_none.false)
      | attach_component-else-not-has_script-via-else-not-has_script w ↦ inr w.if-not-has_script.false
    ]
    in
    opening
    (begins b.requires.0 (λ n d. attach_component_node (given b.args.tables) b.args.has_script b.args.p (lent b.args.tree b.args.dropped) n d so))
    (around ItemAttachComponent c.list_last-last.ensures c.start_around.ensures) c.start_around.auto.tree refl

attach_component_eaten : {t : ℕ} (c : goal.attach_component-After-eat-2 t)
    → AttachComponentTurned (goal.at.attach_component-After-eat-2 t c).Start 2 1 1 c.eat-2.result c.eat-2.new.tree c.args.dropped.now
attach_component_eaten {t} c =
    calls ((attach_component_started (goal.at.attach_component-After-eat-2 t c).After-start_around).went c.in_ok-begun.was)
    (ran refl (c.eat-2.ensures _)) c.eat-2.auto.tree refl

attach_component_scripted : {t : ℕ} (c : goal.attach_component-After-script t)
    → AttachComponentTurned (goal.at.attach_component-After-script t c).Start 3 1 1 c.script.result c.script.new.tree
    c.script.new.dropped
unfolding spec.content_at
attach_component_scripted {t} c =
    let w = (attach_component_eaten (goal.at.attach_component-After-script t c).After-eat-2).went c.in_ok-marked.was in
    calls w (below (omega arith) c.script.ensures) c.script.auto.tree c.script.auto.dropped

attach_component_ended : {t : ℕ} (c : goal.attach_component-After-finish_node t)
    → AttachComponentTurned (goal.at.attach_component-After-finish_node t c).Start 4 1 0 c.finish_node.result c.finish_node.new.tree
    c.script.new.dropped
attach_component_ended {t} c =
    closing c.requires.0
    ((attach_component_scripted (goal.at.attach_component-After-finish_node t c).After-script).went c.in_ok-read.was)
    (finishes refl c.frame.ensures c.finish_node.ensures) c.finish_node.auto.tree refl

pub attach_component-returns-then-is_none : goal.attach_component-returns-then-is_none
attach_component-returns-then-is_none t c = let b = (goal.at.attach_component-returns-then-is_none t c).Start in
    let mark-is = ap is_some (sym c.list_last-last.ensures) in
    let unmarked = mark-is ∙ c.is_none.ensures ∙ ap not c.if-is_none.true in
    runs_as (ran-runs refl b.requires.0 (c.eat.ensures b.args.dropped.now))
    (λ n d. attach_component_leaf (given b.args.tables) b.args.has_script b.args.p (lent b.args.tree b.args.dropped) n d
    c.if-not-has_script.true unmarked)

pub attach_component-returns-in_err-begun : goal.attach_component-returns-in_err-begun
attach_component-returns-in_err-begun t c =
    hands_back (attach_component_started (goal.at.attach_component-returns-in_err-begun t c).After-start_around)
    c.in_err-begun.was c.from_residual.ensures

pub attach_component-eat-requires-2 : goal.attach_component-eat-requires-2
attach_component-eat-requires-2 t c =
    first_inside refl c.requires.0 c.requires.1 (around ItemAttachComponent c.list_last-last.ensures c.start_around.ensures)
    (attach_component_started (goal.at.attach_component-eat-requires-2 t c).After-start_around) c.in_ok-begun.was

pub attach_component-returns-in_err-marked : goal.attach_component-returns-in_err-marked
attach_component-returns-in_err-marked t c =
    hands_back (attach_component_eaten (goal.at.attach_component-returns-in_err-marked t c).After-eat-2)
    c.in_err-marked.was c.from_residual-in_err-marked.ensures

pub attach_component-script-requires : goal.attach_component-script-requires
attach_component-script-requires t c = let measure = c.decreases in
    let w = (attach_component_eaten (goal.at.attach_component-script-requires t c).After-eat-2).went c.in_ok-marked.was in
    (omega arith, w.ready)

pub attach_component-returns-in_err-read : goal.attach_component-returns-in_err-read
attach_component-returns-in_err-read t c =
    hands_back (attach_component_scripted (goal.at.attach_component-returns-in_err-read t c).After-script)
    c.in_err-read.was c.from_residual-in_err-read.ensures

pub attach_component-finish_node-requires : goal.attach_component-finish_node-requires
attach_component-finish_node-requires t c =
    open_behind (attach_component_scripted (goal.at.attach_component-finish_node-requires t c).After-script) c.in_ok-read.was

pub attach_component-returns : goal.attach_component-returns
attach_component-returns t c = done (attach_component_ended (goal.at.attach_component-returns t c).After-finish_node)

-- ---- Command
-- `command`: each arm hands on to one routine, whose rule is the arm's.

-- ---- what the rule comes to, by the shape s that the code has

abbrev command_command_rule : Tables → Parser → Rule
command_command_rule t p n d = spec.command_of (flat n) (source_of t) (inner_at t n d) (shape_in t class_command p)

-- a greedy command around what stands from a mark on
abbrev command_greedy_rule : Tables → Option Checkpoint → Rule
command_greedy_rule t at n d = spec.greedy_command (flat n) (source_of t) (inner_at t n d) (option_of at)

-- none of the first three arms is its
record CommandPlain (s : position.Shape) : Type 0 where
  named : name_only s ≡ false
  no-left : eqb s.form form_left1 ≡ false
  no-infix : eqb s.form form_infix_greedy ≡ false

module _ {t : Tables} {p : Parser} {m : Buffers} {s : position.Shape} (is : shape_in t class_command p ≡ s) where
  module _ {r : Step} {v : Buffers} where
    command_name_alone : name_only s ≡ true → Runs t 1 (λ n d. routine.one_in (flat n) (source_of t) kinds.ItemCmd (pos_of p m)) p m r v
        → Came t 1 (command_command_rule t p) p m r v
    unfolding spec.command_of
    command_name_alone e k = runs_as k (λ n d. rw (is, e))

    command_left_one : name_only s ≡ false → eqb s.form form_left1 ≡ true
        → Runs t 1 (λ n d. routine.left1_command (flat n) (source_of t) (pos_of p m)) p m r v
        → Came t 1 (command_command_rule t p) p m r v
    unfolding spec.command_of
    command_left_one command_named e k = runs_as k (λ n d. rw (is, command_named, e))

    command_greedy : CommandPlain s → is_greedy (start_match s.form s.value) ≡ true
        → Came t 1 (command_greedy_rule t none) p m r v
        → Came t 1 (command_command_rule t p) p m r v
    unfolding spec.command_of
    command_greedy command_plain e k = runs_as k (λ n d. rw (is, command_plain.named, command_plain.no-left, command_plain.no-infix, e))

    command_by_matcher : CommandPlain s → is_greedy (start_match s.form s.value) ≡ false
        → Runs t 1 (λ n d. spec.with_arguments (flat n) (source_of t) (inner_at t n d) kinds.ItemCmd s (pos_of p m)) p m r v
        → Came t 1 (command_command_rule t p) p m r v
    unfolding spec.command_of
    command_by_matcher command_plain e k = runs_as k (λ n d. rw (is, command_plain.named, command_plain.no-left, command_plain.no-infix, e))

  -- the infix command takes start away before it hands on
  command_infix_greedy : name_only s ≡ false → eqb s.form form_left1 ≡ false → eqb s.form form_infix_greedy ≡ true → Ready t p m
      → {start last : Option Checkpoint} {q : Parser} → start ≡ mark_in p.list.start → last ≡ mark_in p.list.last
      → q ≡ remarked p no_mark (kept_of last)
      → Walk t (command_command_rule t p) (command_greedy_rule t start ∷ []) 0 0 p.list.scope p m q m
  unfolding spec.command_of line
  command_infix_greedy command_named no-left e ready {start} start_is last_is q-is =
      let last = p.list.last in
      let marked = ap option_of start_is ∙ taken_is p.list.start in
      remarks {f = λ n d q. went (position.with_marks (flat n) none q.list.last q)}
      (begins ready (λ n d. rw (is, command_named, no-left, e, ← marked) (sym (last_step (command_greedy_rule t start) n d _))))
      no_mark (kept_of (mark_in last)) (q-is ∙ ap (λ a. remarked p no_mark (kept_of a)) last_is) (no_mark_lem p.builder)
      (taken_ok last p.builder ready.steady.last)
      (λ n d. ap (λ mark. went (position.with_marks (flat n) none mark (pos_of p m))) (sym (kept_again last)))

-- the mark that it wraps from is good in the state that it hands on
command_start_ok : {t : Tables} {p : Parser} {m : Buffers} {start : Option Checkpoint} {last : KeptMark} {q : Parser} → Ready t p m
    → start ≡ mark_in p.list.start → q ≡ remarked p no_mark last → MarkOk (kept_of start) q.builder
command_start_ok {p = p} ready start_is q-is = rw (start_is, q-is) (taken_ok p.list.start p.builder ready.steady.start)

-- ---- what is known at the places

abbrev command_shape_at : {t : ℕ} → goal.command-After-of_class-shape t → Shape
command_shape_at c = c.of_class-shape.result

command_shaped : {t : ℕ} (c : goal.command-After-of_class-shape t)
    → shape_in (given c.args.tables) class_command c.args.p ≡ shape_for (command_shape_at c)
command_shaped c = sym (c.of_class-shape.ensures ∙ ap (of_class class_command) (c.of_token.ensures _ _))

command_named : {t : ℕ} (c : goal.command-Else-name_only t)
    → name_only (shape_for (command_shape_at (goal.at.command-Else-name_only t c).After-of_class-shape)) ≡ false
command_named c = sym c.name_only.ensures ∙ c.if-name_only.false

command_plain : {t : ℕ} (c : goal.command-Else-shape-eq-INFIX_GREEDY t)
    → CommandPlain (shape_for (command_shape_at (goal.at.command-Else-shape-eq-INFIX_GREEDY t c).After-of_class-shape))
command_plain {t} c =
    record {
      named =
          command_named (goal.at.command-Else-shape-eq-INFIX_GREEDY t c).Else-name_only;
      no-left = ne_eqb _ _ c.if-shape-eq-LEFT1.false;
      no-infix =
          ne_eqb _ _ c.if-shape-eq-INFIX_GREEDY.false;
    }

command_takes_all : {t : ℕ} (c : goal.command-Then-is_greedy t)
    → let s = command_shape_at (goal.at.command-Then-is_greedy t c).After-of_class-shape in is_greedy (start_match s.form s.value) ≡ true
command_takes_all {t} c =
    greedy-is (command_shape_at (goal.at.command-Then-is_greedy t c).After-of_class-shape) c.matcher-matcher.ensures c.is_greedy.ensures
    c.if-is_greedy.true

command_not_all : {t : ℕ} (c : goal.command-Else-is_greedy t)
    → let s = command_shape_at (goal.at.command-Else-is_greedy t c).After-of_class-shape in is_greedy (start_match s.form s.value) ≡ false
command_not_all {t} c =
    greedy-is (command_shape_at (goal.at.command-Else-is_greedy t c).After-of_class-shape) c.matcher-matcher.ensures c.is_greedy.ensures
    c.if-is_greedy.false

command_infixed : {u : ℕ} (c : goal.command-After-with_marks-startless u)
    → let t = given c.args.tables in let p = c.args.p in let m = lent c.args.tree c.args.dropped in
    Walk t (command_command_rule t p) (command_greedy_rule t c.list_start-start.result ∷ []) 0 0 p.list.scope p m c.with_marks-startless.result m
command_infixed {u} c =
    command_infix_greedy (command_shaped (goal.at.command-After-with_marks-startless u c).After-of_class-shape)
    (command_named (goal.at.command-After-with_marks-startless u c).Else-name_only) (ne_eqb _ _ c.if-shape-eq-LEFT1.false)
    (eq-eqb _ _ c.if-shape-eq-INFIX_GREEDY.true) c.requires.0 c.list_start-start.ensures
    c.list_last.ensures c.with_marks-startless.ensures

pub command-returns-then-name_only : goal.command-returns-then-name_only
command-returns-then-name_only t c =
    command_name_alone (command_shaped (goal.at.command-returns-then-name_only t c).After-of_class-shape)
    (sym c.name_only.ensures ∙ c.if-name_only.true)
    (ran-runs refl c.requires.0 (c.one_in.ensures _))

pub command-returns-then-shape-eq-LEFT1 : goal.command-returns-then-shape-eq-LEFT1
command-returns-then-shape-eq-LEFT1 t c =
    command_left_one (command_shaped (goal.at.command-returns-then-shape-eq-LEFT1 t c).After-of_class-shape)
    (command_named (goal.at.command-returns-then-shape-eq-LEFT1 t c).Else-name_only) (eq-eqb _ _ c.if-shape-eq-LEFT1.true)
    (ran-runs refl c.requires.0 (c.left1_command.ensures _))

pub command-returns-then-shape-eq-INFIX_GREEDY : goal.command-returns-then-shape-eq-INFIX_GREEDY
command-returns-then-shape-eq-INFIX_GREEDY t c =
    hands_on (command_infixed (goal.at.command-returns-then-shape-eq-INFIX_GREEDY t c).After-with_marks-startless) (runs c.greedy_command.ensures)

pub command-returns-then-is_greedy : goal.command-returns-then-is_greedy
command-returns-then-is_greedy t c =
    command_greedy (command_shaped (goal.at.command-returns-then-is_greedy t c).After-of_class-shape)
    (command_plain (goal.at.command-returns-then-is_greedy t c).Else-shape-eq-INFIX_GREEDY)
    (command_takes_all (goal.at.command-returns-then-is_greedy t c).Then-is_greedy)
    c.greedy_command-then-is_greedy.ensures

pub command-returns : goal.command-returns
command-returns t c =
    command_by_matcher (command_shaped (goal.at.command-returns t c).After-of_class-shape)
    (command_plain (goal.at.command-returns t c).Else-shape-eq-INFIX_GREEDY) (command_not_all (goal.at.command-returns t c).Else-is_greedy)
    c.with_arguments.ensures

-- ---- Content
-- `content`: each arm hands on to one routine, whose rule is the arm's.

-- ---- what the rule comes to, by the item that the code has

abbrev content_content_rule : Tables → Rule
content_content_rule t n d = spec.content (flat n) (source_of t) (inner_at t n d) false

abbrev content_item_rule : Tables → Item → Rule
content_item_rule t item n d = spec.read_item (flat n) (source_of t) (inner_at t n d) false (item_for item)

-- in an arm the item is known
content_known : {u : ℕ} (c : goal.content-After-item_of u) {item : Item} {r : Step} {v : Buffers} → c.item_of.result ≡ item
    → let t = given c.args.tables in let m = lent c.args.tree c.args.dropped in
    Came t 1 (content_item_rule t item) c.args.p m r v → Came t 1 (content_content_rule t) c.args.p m r v
unfolding spec.content
content_known {u} c e k =
    let t = given c.args.tables in
    let known = sym c.item_of.ensures ∙ ap item_for e in
    runs_as k (λ n d. rw (peek-some t.tokens (cursor_of c.args.p.lexer) c.requires.1, ← c.cell-kind.ensures, known))

pub content-returns-in-Plain : goal.content-returns-in-Plain
unfolding spec.read_item
content-returns-in-Plain t c = content_known (goal.at.content-returns-in-Plain t c).After-item_of c.in-Plain.is
    (ran-runs refl c.requires.0 (c.eat.ensures _))

pub content-returns-in-Error : goal.content-returns-in-Error
unfolding spec.read_item
content-returns-in-Error t c = content_known (goal.at.content-returns-in-Error t c).After-item_of c.in-Error.is
    (ran-runs refl c.requires.0 (c.one_in.ensures _))

pub content-returns-in-Word : goal.content-returns-in-Word
unfolding spec.read_item
content-returns-in-Word t c = let read = ran-runs refl c.requires.0 (c.text.ensures c.args.dropped.now) in
    ⊎_elim (λ e. content_known (goal.at.content-returns-in-Word t c).After-item_of e read)
    (λ e. content_known (goal.at.content-returns-in-Word t c).After-item_of e read)
    c.in-Word.is

pub content-returns-in-Group : goal.content-returns-in-Group
unfolding spec.read_item
content-returns-in-Group t c =
    content_known (goal.at.content-returns-in-Group t c).After-item_of c.in-Group.is c.item_group.ensures

pub content-returns-in-Attachment : goal.content-returns-in-Attachment
unfolding spec.read_item
content-returns-in-Attachment t c =
    content_known (goal.at.content-returns-in-Attachment t c).After-item_of c.in-Attachment.is c.attach_component.ensures

pub content-returns-in-Command : goal.content-returns-in-Command
unfolding spec.read_item
content-returns-in-Command t c = content_known (goal.at.content-returns-in-Command t c).After-item_of c.in-Command.is c.command.ensures

pub content-returns-in-Environment : goal.content-returns-in-Environment
unfolding spec.read_item
content-returns-in-Environment t c =
    content_known (goal.at.content-returns-in-Environment t c).After-item_of c.in-Environment.is c.environment.ensures

pub content-returns-in-LeftRight : goal.content-returns-in-LeftRight
unfolding spec.read_item
content-returns-in-LeftRight t c = content_known (goal.at.content-returns-in-LeftRight t c).After-item_of c.in-LeftRight.is c.item_lr.ensures

pub content-returns-in-Skipped : goal.content-returns-in-Skipped
unfolding spec.read_item
content-returns-in-Skipped t c = content_known (goal.at.content-returns-in-Skipped t c).After-item_of c.in-Skipped.is
    (runs_as (ran-runs refl c.requires.0 c.skipped_body.ensures) (λ n d. rw c.number.ensures))

-- ---- Environment
-- `environment`: the walk beside its rule, a turn for each call, and each goal by the nearest turn.

abbrev environment_rule : {t : ℕ} → goal.environment-Start t → Rule
environment_rule b n d = spec.environment_item (flat n) (source_of (given b.args.tables)) (inner_at (given b.args.tables) n d)

-- the rule, as its steps
abbrev environment_plan : {t : ℕ} → goal.environment-Start t → List Rule
environment_plan b =
    let t = given b.args.tables in
    list_node t b.args.p ItemEnv
    (λ n d. spec.begin_clause (flat n) (source_of t) (inner_at t n d))
    scopes.Environment (λ n d. routine.end_clause (flat n) (source_of t))

-- how a call ended: so many steps are done if it went
abbrev EnvironmentTurned : {t : ℕ} → goal.environment-Start t → ℕ → ℕ → ℕ → Step → List ℕ → List ℕ → Type 0
EnvironmentTurned b = TurnedBy (given b.args.tables) (environment_rule b) (environment_plan b) b.args.p (lent b.args.tree b.args.dropped)

environment_started : {t : ℕ} (c : goal.environment-After-start_node t)
    → EnvironmentTurned (goal.at.environment-After-start_node t c).Start 1 0 1 c.start_node.result c.start_node.new.tree
    c.args.dropped.now
unfolding spec.environment_item steps line
environment_started c =
    opening (begins c.requires.0 (λ n d. refl)) (starts refl c.start_node.ensures) c.start_node.auto.tree refl

-- the shape that the code has is the rule's
environment_shaped : {t : ℕ} (c : goal.environment-After-of_class-shape t)
    → shape_in (given c.args.tables) class_environment c.in_ok-begun.begun ≡ shape_for
    c.of_class-shape.result
environment_shaped c = sym (c.of_class-shape.ensures ∙ ap (of_class class_environment) (c.of_token.ensures _ _))

environment_named : {t : ℕ} (c : goal.environment-After-with_arguments t)
    → EnvironmentTurned (goal.at.environment-After-with_arguments t c).Start 2 1 1 c.with_arguments.result c.with_arguments.new.tree
    c.with_arguments.new.dropped
unfolding spec.begin_clause
environment_named {t} c =
    calls ((environment_started (goal.at.environment-After-with_arguments t c).After-start_node).went c.in_ok-begun.was)
    (runs (runs_as c.with_arguments.ensures
    (λ n d. rw (environment_shaped (goal.at.environment-After-with_arguments t c).After-of_class-shape))))
    c.with_arguments.auto.tree c.with_arguments.auto.dropped

environment_listed : {t : ℕ} (c : goal.environment-After-inside t)
    → EnvironmentTurned (goal.at.environment-After-inside t c).Start 3 1 1 c.inside.result c.inside.new.tree
    c.inside.new.dropped
unfolding spec.content_at
environment_listed {t} c =
    let w = (environment_named (goal.at.environment-After-inside t c).After-with_arguments).went c.in_ok-entered.was in
    calls w (below (omega arith) c.inside.ensures) c.inside.auto.tree c.inside.auto.dropped

environment_shut : {t : ℕ} (c : goal.environment-After-end_clause t)
    → EnvironmentTurned (goal.at.environment-After-end_clause t c).Start 4 1 1 c.end_clause.result c.end_clause.new.tree
    c.inside.new.dropped
environment_shut {t} c =
    calls ((environment_listed (goal.at.environment-After-end_clause t c).After-inside).went c.in_ok-read.was)
    (ran refl (c.end_clause.ensures _))
    c.end_clause.auto.tree refl

environment_ended : {t : ℕ} (c : goal.environment-After-finish_node t)
    → EnvironmentTurned (goal.at.environment-After-finish_node t c).Start 5 1 0 c.finish_node.result c.finish_node.new.tree
    c.inside.new.dropped
environment_ended {t} c =
    closing c.requires.0 ((environment_shut (goal.at.environment-After-finish_node t c).After-end_clause).went c.in_ok-ended.was)
    (finishes refl c.frame.ensures c.finish_node.ensures) c.finish_node.auto.tree refl

-- the token is still next inside the node
environment_next_in : {t : ℕ} (c : goal.environment-In_ok-begun t) → Next (given c.args.tables) c.in_ok-begun.begun
environment_next_in c = still_next c.requires.0 (starts refl c.start_node.ensures) c.in_ok-begun.was c.requires.1

pub environment-returns-in_err-begun : goal.environment-returns-in_err-begun
environment-returns-in_err-begun t c =
    hands_back (environment_started (goal.at.environment-returns-in_err-begun t c).After-start_node) c.in_err-begun.was c.from_residual.ensures

pub environment-of_token-requires : goal.environment-of_token-requires
environment-of_token-requires t c = let good = c.requires.0.steady.good in
    let next = environment_next_in (goal.at.environment-of_token-requires t c).In_ok-begun in
    (next, good.shaped _ next)

pub environment-with_arguments-requires : goal.environment-with_arguments-requires
environment-with_arguments-requires t c = let measure = c.decreases in
    let w = (environment_started (goal.at.environment-with_arguments-requires t c).After-start_node).went c.in_ok-begun.was in
    (omega arith, (w.ready, environment_next_in (goal.at.environment-with_arguments-requires t c).In_ok-begun))

pub environment-returns-in_err-entered : goal.environment-returns-in_err-entered
environment-returns-in_err-entered t c =
    hands_back (environment_named (goal.at.environment-returns-in_err-entered t c).After-with_arguments)
    c.in_err-entered.was c.from_residual-in_err-entered.ensures

pub environment-inside-requires : goal.environment-inside-requires
environment-inside-requires t c = let measure = c.decreases in
    let w = (environment_named (goal.at.environment-inside-requires t c).After-with_arguments).went c.in_ok-entered.was in
    (omega arith, (w.ready, tt))

pub environment-returns-in_err-read : goal.environment-returns-in_err-read
environment-returns-in_err-read t c =
    hands_back (environment_listed (goal.at.environment-returns-in_err-read t c).After-inside) c.in_err-read.was c.from_residual-in_err-read.ensures

pub environment-end_clause-requires : goal.environment-end_clause-requires
environment-end_clause-requires t c =
    somehow refl ((environment_listed (goal.at.environment-end_clause-requires t c).After-inside).went c.in_ok-read.was).ready

pub environment-returns-in_err-ended : goal.environment-returns-in_err-ended
environment-returns-in_err-ended t c =
    hands_back (environment_shut (goal.at.environment-returns-in_err-ended t c).After-end_clause)
    c.in_err-ended.was c.from_residual-in_err-ended.ensures

pub environment-finish_node-requires : goal.environment-finish_node-requires
environment-finish_node-requires t c =
    open_behind (environment_shut (goal.at.environment-finish_node-requires t c).After-end_clause) c.in_ok-ended.was

pub environment-returns : goal.environment-returns
environment-returns t c = done (environment_ended (goal.at.environment-returns t c).After-finish_node)

-- ---- GreedyCommand
-- `greedy_command`: two walks, each beside its rule. What the command takes, from its name on, is one step of the command's own rule and has a rule
-- of its own. A turn for each call, and each goal by the nearest turn.

-- a step that is walked itself was refused, and so is the rule that it is a step of: the member hands that on
greedy_command_stops_within : {t : Tables} {greedy_command_rule f : Rule} {rest more : List Rule} {gain lift gain2 lift2 scope scope2 any : ℕ}
    {s : Parser} {m : Buffers} {u : Parser} {v : Buffers} {r : Step} {x : Buffers} {e : Refused} {o : Step}
    → Walk t greedy_command_rule (f ∷ rest) gain lift scope s m u v → Turn t f more gain2 lift2 scope2 u v r x → r ≡ Err e → HandsOn o e
    → Came t any greedy_command_rule s m o x
greedy_command_stops_within w inner refused hands = rw (handed hands) (stops w (runs (inner.refused {any = 0} refused)) refl)

-- the rule's step that takes all
abbrev greedy_command_takes : {t : ℕ} → goal.greedy_command-Start t → Rule
greedy_command_takes b n d = spec.greedy_argument (flat n) (source_of (given b.args.tables)) (inner_at (given b.args.tables) n d)

-- ---- the command

-- its rule, as its steps
abbrev greedy_command_plan : {t : ℕ} → goal.greedy_command-Start t → List Rule
greedy_command_plan b =
    let t = given b.args.tables in
    (λ n d. routine.start_around (flat n) (source_of t) ItemCmd (option_of b.args.at))
    ∷ eats t
    ∷ greedy_command_takes b
    ∷ node_ends ItemCmd b.args.p
    ∷ []

abbrev greedy_command_rule : {t : ℕ} → goal.greedy_command-Start t → Rule
greedy_command_rule b n d =
    spec.greedy_command (flat n) (source_of (given b.args.tables)) (inner_at (given b.args.tables) n d) (option_of b.args.at)

-- how a call ended: so many steps are done if it went
abbrev GreedyCommandTurned : {t : ℕ} → goal.greedy_command-Start t → ℕ → ℕ → ℕ → Step → List ℕ → List ℕ → Type 0
GreedyCommandTurned b = TurnedBy (given b.args.tables) (greedy_command_rule b) (greedy_command_plan b) b.args.p (lent b.args.tree b.args.dropped)

greedy_command_started : {t : ℕ} (c : goal.greedy_command-After-start_around t)
    → GreedyCommandTurned (goal.at.greedy_command-After-start_around t c).Start 1 0 1 c.start_around.result
    c.start_around.new.tree c.args.dropped.now
unfolding spec.greedy_command steps line
greedy_command_started c =
    let around-is = around ItemCmd {at = c.args.at} refl c.start_around.ensures in
    opening (begins c.requires.0 (λ n d. refl)) around-is c.start_around.auto.tree refl

greedy_command_eaten : {t : ℕ} (c : goal.greedy_command-After-eat t)
    → GreedyCommandTurned (goal.at.greedy_command-After-eat t c).Start 2 1 1 c.eat.result c.eat.new.tree c.args.dropped.now
greedy_command_eaten {t} c =
    calls ((greedy_command_started (goal.at.greedy_command-After-eat t c).After-start_around).went c.in_ok-begun.was)
    (ran refl (c.eat.ensures _)) c.eat.auto.tree refl

-- ---- what it takes, from its name on

-- both buffers there
abbrev greedy_command_buffers : {t : ℕ} → goal.greedy_command-In_ok-named t → Buffers
greedy_command_buffers c = buffers c.eat.new.tree c.args.dropped.now

-- the command has its name
greedy_command_named : {t : ℕ} (c : goal.greedy_command-In_ok-named t)
    → let b = (goal.at.greedy_command-In_ok-named t c).Start in
    let p = b.args.p in
    Walk (given b.args.tables) (greedy_command_rule b) (drop 2 (greedy_command_plan b)) 1 1 p.list.scope p (lent b.args.tree b.args.dropped)
    c.in_ok-named.named (greedy_command_buffers c)
greedy_command_named {t} c = (greedy_command_eaten (goal.at.greedy_command-In_ok-named t c).After-eat).went c.in_ok-named.was

-- its rule, as its steps
abbrev greedy_command_plan_taken : {u : ℕ} → goal.greedy_command-In_ok-named u → List Rule
greedy_command_plan_taken {u} c =
    let t = given c.args.tables in
    let p = c.in_ok-named.named in
    node_starts ClauseArgument
    ∷ (λ n d. spec.greedy_items (flat n) (source_of t) (inner_at t n d))
    ∷ node_ends ClauseArgument p
    ∷ []

-- how a call ended there
abbrev GreedyCommandTaken : {t : ℕ} → goal.greedy_command-In_ok-named t → ℕ → ℕ → Step → List ℕ → List ℕ → Type 0
GreedyCommandTaken {t} c count =
    let b = (goal.at.greedy_command-In_ok-named t c).Start in
    TurnedBy (given b.args.tables) (greedy_command_takes b) (greedy_command_plan_taken c) c.in_ok-named.named (greedy_command_buffers c) count 0

greedy_command_entered : {t : ℕ} (c : goal.greedy_command-After-start_node t)
    → GreedyCommandTaken (goal.at.greedy_command-After-start_node t c).In_ok-named 1 1 c.start_node.result c.start_node.new.tree
    c.args.dropped.now
unfolding spec.greedy_argument steps line
greedy_command_entered {t} c =
    opening (begins (greedy_command_named (goal.at.greedy_command-After-start_node t c).In_ok-named).ready (λ n d. refl))
    (starts refl c.start_node.ensures) c.start_node.auto.tree refl

greedy_command_listed : {t : ℕ} (c : goal.greedy_command-After-inside t)
    → GreedyCommandTaken (goal.at.greedy_command-After-inside t c).In_ok-named 2 1 c.inside.result c.inside.new.tree
    c.inside.new.dropped
unfolding spec.content_at
greedy_command_listed {t} c =
    let w = (greedy_command_entered (goal.at.greedy_command-After-inside t c).After-start_node).went c.in_ok-entered.was in
    calls w (below (omega arith) c.inside.ensures) c.inside.auto.tree c.inside.auto.dropped

greedy_command_taken : {t : ℕ} (c : goal.greedy_command-After-finish_node t)
    → GreedyCommandTaken (goal.at.greedy_command-After-finish_node t c).In_ok-named 3 0 c.finish_node.result
    c.finish_node.new.tree c.inside.new.dropped
greedy_command_taken {t} c =
    closing (greedy_command_named (goal.at.greedy_command-After-finish_node t c).In_ok-named).ready
    ((greedy_command_listed (goal.at.greedy_command-After-finish_node t c).After-inside).went c.in_ok-read.was)
    (finishes refl c.frame.ensures c.finish_node.ensures) c.finish_node.auto.tree refl

-- ---- and its end

-- all that is taken, as one step of the command's rule
greedy_command_filled : {t : ℕ} (c : goal.greedy_command-After-finish_node t)
    → GreedyCommandTurned (goal.at.greedy_command-After-finish_node t c).Start 3 1 1 c.finish_node.result c.finish_node.new.tree
    c.inside.new.dropped
greedy_command_filled {t} c =
    calls (greedy_command_named (goal.at.greedy_command-After-finish_node t c).In_ok-named) (runs (done (greedy_command_taken c)))
    (greedy_command_taken c).tree_long (greedy_command_taken c).notes_long

greedy_command_ended : {t : ℕ} (c : goal.greedy_command-After-finish_node-2 t)
    → GreedyCommandTurned (goal.at.greedy_command-After-finish_node-2 t c).Start 4 1 0 c.finish_node-2.result c.finish_node-2.new.tree
    c.inside.new.dropped
greedy_command_ended {t} c =
    closing c.requires.0 ((greedy_command_filled (goal.at.greedy_command-After-finish_node-2 t c).After-finish_node).went c.in_ok-taken.was)
    (finishes refl c.frame-2.ensures c.finish_node-2.ensures) c.finish_node-2.auto.tree refl

pub greedy_command-returns-in_err-begun : goal.greedy_command-returns-in_err-begun
greedy_command-returns-in_err-begun t c =
    hands_back (greedy_command_started (goal.at.greedy_command-returns-in_err-begun t c).After-start_around)
    c.in_err-begun.was c.from_residual.ensures

pub greedy_command-eat-requires : goal.greedy_command-eat-requires
greedy_command-eat-requires t c =
    first_inside refl c.requires.0 c.requires.1 (around ItemCmd {at = c.args.at} refl c.start_around.ensures)
    (greedy_command_started (goal.at.greedy_command-eat-requires t c).After-start_around) c.in_ok-begun.was

pub greedy_command-returns-in_err-named : goal.greedy_command-returns-in_err-named
greedy_command-returns-in_err-named t c =
    hands_back (greedy_command_eaten (goal.at.greedy_command-returns-in_err-named t c).After-eat)
    c.in_err-named.was c.from_residual-in_err-named.ensures

pub greedy_command-start_node-requires : goal.greedy_command-start_node-requires
greedy_command-start_node-requires t c =
    (greedy_command_named (goal.at.greedy_command-start_node-requires t c).In_ok-named).ready.steady.fits

pub greedy_command-returns-in_err-entered : goal.greedy_command-returns-in_err-entered
greedy_command-returns-in_err-entered t c =
    greedy_command_stops_within (greedy_command_named (goal.at.greedy_command-returns-in_err-entered t c).In_ok-named)
    (greedy_command_entered (goal.at.greedy_command-returns-in_err-entered t c).After-start_node)
    c.in_err-entered.was c.from_residual-in_err-entered.ensures

pub greedy_command-inside-requires : goal.greedy_command-inside-requires
greedy_command-inside-requires t c = let measure = c.decreases in
    let outer = greedy_command_named (goal.at.greedy_command-inside-requires t c).In_ok-named in
    let w = (greedy_command_entered (goal.at.greedy_command-inside-requires t c).After-start_node).went c.in_ok-entered.was in
    (omega arith, (w.ready, tt))

pub greedy_command-returns-in_err-read : goal.greedy_command-returns-in_err-read
greedy_command-returns-in_err-read t c =
    greedy_command_stops_within (greedy_command_named (goal.at.greedy_command-returns-in_err-read t c).In_ok-named)
    (greedy_command_listed (goal.at.greedy_command-returns-in_err-read t c).After-inside) c.in_err-read.was c.from_residual-in_err-read.ensures

pub greedy_command-finish_node-requires : goal.greedy_command-finish_node-requires
greedy_command-finish_node-requires t c =
    open_behind (greedy_command_listed (goal.at.greedy_command-finish_node-requires t c).After-inside) c.in_ok-read.was

pub greedy_command-returns-in_err-taken : goal.greedy_command-returns-in_err-taken
greedy_command-returns-in_err-taken t c =
    hands_back (greedy_command_filled (goal.at.greedy_command-returns-in_err-taken t c).After-finish_node)
    c.in_err-taken.was c.from_residual-in_err-taken.ensures

pub greedy_command-finish_node-requires-2 : goal.greedy_command-finish_node-requires-2
greedy_command-finish_node-requires-2 t c =
    open_behind (greedy_command_filled (goal.at.greedy_command-finish_node-requires-2 t c).After-finish_node) c.in_ok-taken.was

pub greedy_command-returns : goal.greedy_command-returns
greedy_command-returns t c = done (greedy_command_ended (goal.at.greedy_command-returns t c).After-finish_node-2)

-- ---- Inside
-- `inside`: what the loop reads is what the extent reads, by Extents.antt.

pub inside-returns-in_err-read : goal.inside-returns-in_err-read
inside-returns-in_err-read t c = inside_stops c.requires.0 _ _ c.args.extent c.opened-begun.ensures c.items.ensures
    c.in_err-read.was c.from_residual.ensures

pub inside-returns : goal.inside-returns
inside-returns t c = rw c.closed.ensures
    (inside_closes c.requires.0 _ _ _ c.in_ok-read.was c.args.extent
    c.opened-begun.ensures c.items.ensures)

-- ---- ItemGroup
-- `item_group`: the walk beside its rule, a turn for each call, and each goal by the nearest turn.

abbrev item_group_rule : {t : ℕ} → goal.item_group-Start t → Rule
item_group_rule b n d = spec.item_group (flat n) (source_of (given b.args.tables)) (inner_at (given b.args.tables) n d) (scope_of b.args.scope)

-- the rule, as its steps
abbrev item_group_plan : {t : ℕ} → goal.item_group-Start t → List Rule
item_group_plan b =
    let t = given b.args.tables in
    let scope = scope_of b.args.scope in
    list_node t b.args.p (group_kind scope) (eats t)
    scope (λ n d. routine.eat_if (flat n) (source_of t) (closer scope))

-- how a call ended: so many steps are done if it went
abbrev ItemGroupTurned : {t : ℕ} → goal.item_group-Start t → ℕ → ℕ → ℕ → Step → List ℕ → List ℕ → Type 0
ItemGroupTurned b = TurnedBy (given b.args.tables) (item_group_rule b) (item_group_plan b) b.args.p (lent b.args.tree b.args.dropped)

item_group_started : {t : ℕ} (c : goal.item_group-After-start_node t)
    → ItemGroupTurned (goal.at.item_group-After-start_node t c).Start 1 0 1 c.start_node.result c.start_node.new.tree
    c.args.dropped.now
unfolding spec.item_group steps line
item_group_started c =
    opening (begins c.requires.0 (λ n d. refl)) (starts (c.number.ensures ∙ c.group_kind.ensures) c.start_node.ensures)
    c.start_node.auto.tree refl

item_group_eaten : {t : ℕ} (c : goal.item_group-After-eat t)
    → ItemGroupTurned (goal.at.item_group-After-eat t c).Start 2 1 1 c.eat.result c.eat.new.tree c.args.dropped.now
item_group_eaten {t} c =
    calls ((item_group_started (goal.at.item_group-After-eat t c).After-start_node).went c.in_ok-begun.was) (ran refl (c.eat.ensures _))
    c.eat.auto.tree refl

item_group_listed : {t : ℕ} (c : goal.item_group-After-inside t)
    → ItemGroupTurned (goal.at.item_group-After-inside t c).Start 3 1 1 c.inside.result c.inside.new.tree
    c.inside.new.dropped
unfolding spec.content_at
item_group_listed {t} c =
    let w = (item_group_eaten (goal.at.item_group-After-inside t c).After-eat).went (settled c.in_ok-eat.was c.again-entered.ensures) in
    calls w (below (omega arith) c.inside.ensures) c.inside.auto.tree c.inside.auto.dropped

item_group_shut : {t : ℕ} (c : goal.item_group-After-eat_if t)
    → ItemGroupTurned (goal.at.item_group-After-eat_if t c).Start 4 1 1 c.eat_if.result c.eat_if.new.tree c.inside.new.dropped
item_group_shut {t} c =
    calls ((item_group_listed (goal.at.item_group-After-eat_if t c).After-inside).went (settled c.in_ok-inside.was c.again-read.ensures))
    (ran-at (λ kind s n. routine.eat_if (flat n) s kind) refl c.closer.ensures c.eat_if.ensures) c.eat_if.auto.tree refl

item_group_ended : {t : ℕ} (c : goal.item_group-After-finish_node t)
    → ItemGroupTurned (goal.at.item_group-After-finish_node t c).Start 5 1 0 c.finish_node.result c.finish_node.new.tree c.inside.new.dropped
item_group_ended {t} c =
    closing c.requires.0 ((item_group_shut (goal.at.item_group-After-finish_node t c).After-eat_if).went c.in_ok-ended.was)
    (finishes (c.number-2.ensures ∙ c.group_kind-2.ensures) c.frame.ensures c.finish_node.ensures)
    c.finish_node.auto.tree refl

pub item_group-returns-in_err-begun : goal.item_group-returns-in_err-begun
item_group-returns-in_err-begun t c =
    hands_back (item_group_started (goal.at.item_group-returns-in_err-begun t c).After-start_node) c.in_err-begun.was c.from_residual.ensures

pub item_group-eat-requires : goal.item_group-eat-requires
item_group-eat-requires t c =
    first_inside refl c.requires.0 c.requires.1 (starts (c.number.ensures ∙ c.group_kind.ensures) c.start_node.ensures)
    (item_group_started (goal.at.item_group-eat-requires t c).After-start_node) c.in_ok-begun.was

pub item_group-returns-in_err-eat : goal.item_group-returns-in_err-eat
item_group-returns-in_err-eat t c =
    hands_back (item_group_eaten (goal.at.item_group-returns-in_err-eat t c).After-eat)
    c.in_err-eat.was c.from_residual-in_err-eat.ensures

pub item_group-inside-requires : goal.item_group-inside-requires
item_group-inside-requires t c = let measure = c.decreases in
    let w = (item_group_eaten (goal.at.item_group-inside-requires t c).After-eat).went (settled c.in_ok-eat.was c.again-entered.ensures) in
    (omega arith, (w.ready, tt))

pub item_group-returns-in_err-inside : goal.item_group-returns-in_err-inside
item_group-returns-in_err-inside t c =
    hands_back (item_group_listed (goal.at.item_group-returns-in_err-inside t c).After-inside) c.in_err-inside.was
    c.from_residual-in_err-inside.ensures

pub item_group-eat_if-requires : goal.item_group-eat_if-requires
item_group-eat_if-requires t c =
    let read = settled c.in_ok-inside.was c.again-read.ensures in
    somehow refl ((item_group_listed (goal.at.item_group-eat_if-requires t c).After-inside).went read).ready

pub item_group-returns-in_err-ended : goal.item_group-returns-in_err-ended
item_group-returns-in_err-ended t c =
    hands_back (item_group_shut (goal.at.item_group-returns-in_err-ended t c).After-eat_if) c.in_err-ended.was c.from_residual-in_err-ended.ensures

pub item_group-finish_node-requires : goal.item_group-finish_node-requires
item_group-finish_node-requires t c = open_behind (item_group_shut (goal.at.item_group-finish_node-requires t c).After-eat_if) c.in_ok-ended.was

pub item_group-returns : goal.item_group-returns
item_group-returns t c = done (item_group_ended (goal.at.item_group-returns t c).After-finish_node)

-- ---- ItemLr
-- `item_lr`: the walk beside its rule, a turn for each call, and each goal by the nearest turn.

abbrev item_lr_rule : {t : ℕ} → goal.item_lr-Start t → Rule
item_lr_rule b n d = spec.item_lr (flat n) (source_of (given b.args.tables)) (inner_at (given b.args.tables) n d)

-- the rule, as its steps
abbrev item_lr_plan : {t : ℕ} → goal.item_lr-Start t → List Rule
item_lr_plan b =
    let t = given b.args.tables in
    list_node t b.args.p ItemLR (λ n d. routine.clause_lr (flat n) (source_of t))
    LR (λ n d. routine.right_clause (flat n) (source_of t))

-- how a call ended: so many steps are done if it went
abbrev ItemLrTurned : {t : ℕ} → goal.item_lr-Start t → ℕ → ℕ → ℕ → Step → List ℕ → List ℕ → Type 0
ItemLrTurned b = TurnedBy (given b.args.tables) (item_lr_rule b) (item_lr_plan b) b.args.p (lent b.args.tree b.args.dropped)

item_lr_started : {t : ℕ} (c : goal.item_lr-After-start_node t)
    → ItemLrTurned (goal.at.item_lr-After-start_node t c).Start 1 0 1 c.start_node.result c.start_node.new.tree
    c.args.dropped.now
unfolding spec.item_lr steps line
item_lr_started c =
    opening (begins c.requires.0 (λ n d. refl)) (starts refl c.start_node.ensures) c.start_node.auto.tree refl

item_lr_delimited : {t : ℕ} (c : goal.item_lr-After-clause_lr t)
    → ItemLrTurned (goal.at.item_lr-After-clause_lr t c).Start 2 1 1 c.clause_lr.result c.clause_lr.new.tree
    c.args.dropped.now
item_lr_delimited {t} c =
    calls ((item_lr_started (goal.at.item_lr-After-clause_lr t c).After-start_node).went c.in_ok-begun.was)
    (ran (refl, refl) (c.clause_lr.ensures _))
    c.clause_lr.auto.tree refl

item_lr_listed : {t : ℕ} (c : goal.item_lr-After-inside t)
    → ItemLrTurned (goal.at.item_lr-After-inside t c).Start 3 1 1 c.inside.result c.inside.new.tree c.inside.new.dropped
unfolding spec.content_at
item_lr_listed {t} c =
    let w = (item_lr_delimited (goal.at.item_lr-After-inside t c).After-clause_lr).went c.in_ok-entered.was in
    calls w (below (omega arith) c.inside.ensures) c.inside.auto.tree c.inside.auto.dropped

item_lr_shut : {t : ℕ} (c : goal.item_lr-After-right_clause t)
    → ItemLrTurned (goal.at.item_lr-After-right_clause t c).Start 4 1 1 c.right_clause.result c.right_clause.new.tree
    c.inside.new.dropped
item_lr_shut {t} c =
    calls ((item_lr_listed (goal.at.item_lr-After-right_clause t c).After-inside).went c.in_ok-read.was)
    (ran (refl, refl) (c.right_clause.ensures _))
    c.right_clause.auto.tree refl

item_lr_ended : {t : ℕ} (c : goal.item_lr-After-finish_node t)
    → ItemLrTurned (goal.at.item_lr-After-finish_node t c).Start 5 1 0 c.finish_node.result c.finish_node.new.tree c.inside.new.dropped
item_lr_ended {t} c =
    closing c.requires.0 ((item_lr_shut (goal.at.item_lr-After-finish_node t c).After-right_clause).went c.in_ok-ended.was)
    (finishes refl c.frame.ensures c.finish_node.ensures) c.finish_node.auto.tree refl

pub item_lr-returns-in_err-begun : goal.item_lr-returns-in_err-begun
item_lr-returns-in_err-begun t c =
    hands_back (item_lr_started (goal.at.item_lr-returns-in_err-begun t c).After-start_node) c.in_err-begun.was c.from_residual.ensures

pub item_lr-clause_lr-requires : goal.item_lr-clause_lr-requires
item_lr-clause_lr-requires t c =
    first_inside (refl, refl) c.requires.0 c.requires.1 (starts refl c.start_node.ensures)
    (item_lr_started (goal.at.item_lr-clause_lr-requires t c).After-start_node) c.in_ok-begun.was

pub item_lr-returns-in_err-entered : goal.item_lr-returns-in_err-entered
item_lr-returns-in_err-entered t c =
    hands_back (item_lr_delimited (goal.at.item_lr-returns-in_err-entered t c).After-clause_lr)
    c.in_err-entered.was c.from_residual-in_err-entered.ensures

pub item_lr-inside-requires : goal.item_lr-inside-requires
item_lr-inside-requires t c = let measure = c.decreases in
    let w = (item_lr_delimited (goal.at.item_lr-inside-requires t c).After-clause_lr).went c.in_ok-entered.was in
    (omega arith, (w.ready, tt))

pub item_lr-returns-in_err-read : goal.item_lr-returns-in_err-read
item_lr-returns-in_err-read t c =
    hands_back (item_lr_listed (goal.at.item_lr-returns-in_err-read t c).After-inside) c.in_err-read.was c.from_residual-in_err-read.ensures

pub item_lr-right_clause-requires : goal.item_lr-right_clause-requires
item_lr-right_clause-requires t c =
    somehow (refl, refl) ((item_lr_listed (goal.at.item_lr-right_clause-requires t c).After-inside).went c.in_ok-read.was).ready

pub item_lr-returns-in_err-ended : goal.item_lr-returns-in_err-ended
item_lr-returns-in_err-ended t c =
    hands_back (item_lr_shut (goal.at.item_lr-returns-in_err-ended t c).After-right_clause) c.in_err-ended.was c.from_residual-in_err-ended.ensures

pub item_lr-finish_node-requires : goal.item_lr-finish_node-requires
item_lr-finish_node-requires t c = open_behind (item_lr_shut (goal.at.item_lr-finish_node-requires t c).After-right_clause) c.in_ok-ended.was

pub item_lr-returns : goal.item_lr-returns
item_lr-returns t c = done (item_lr_ended (goal.at.item_lr-returns t c).After-finish_node)

-- ---- Items
-- `items`: the loop's invariant is what ItemLoop.antt has for the extent, and each goal a law of it.

-- what holds where a turn begins
items_turned : {t : ℕ} (c : goal.items-At-loop-extent t)
    → let b =
    (goal.at.items-At-loop-extent t c).Start in Turned (given b.args.tables) b.args.p (lent b.args.tree b.args.dropped) c.loop-extent.now
    (buffers c.loop-extent.tree c.loop-extent.dropped)
items_turned c = loop_turned _ _ _ c.args.extent _ c.loop-extent.invariant c.requires.0

-- the turn reads an item
items_goes : {t : ℕ} (c : goal.items-In-loop-extent t)
    → let b = (goal.at.items-In-loop-extent t c).Start in let l = c.loop-extent in asks (given b.args.tables) l.now b.args.extent l.first ≡ true
items_goes c = sym c.more_items.ensures ∙ c.loop-extent-test.true

-- so a token is next
items_there : {t : ℕ} (c : goal.items-In-loop-extent t) → Next (given c.args.tables) c.loop-extent.now
items_there c = loop_there _ _ _ c.args.extent _ c.loop-extent.invariant c.requires.1 (items_goes c)

pub items-loop-extent-init : goal.items-loop-extent-init
items-loop-extent-init t c = loop_begins _ _ _ c.args.extent c.requires.0

pub items-content-requires : goal.items-content-requires
items-content-requires t c = let measure = c.decreases in
    let here = items_turned (goal.at.items-content-requires t c).At-loop-extent in
    let depth = here.depth in
    (omega arith, (here.ready, items_there (goal.at.items-content-requires t c).In-loop-extent))

pub items-returns-in_err-after : goal.items-returns-in_err-after
items-returns-in_err-after t c = loop_stops _ _ _ c.content.ensures c.args.extent _ c.loop-extent.invariant
    (items_goes (goal.at.items-returns-in_err-after t c).In-loop-extent) c.in_err-after.was c.from_residual.ensures

pub items-behind-now-requires : goal.items-behind-now-requires
items-behind-now-requires t c = let next = items_there (goal.at.items-behind-now-requires t c).In-loop-extent in
    let ready = (items_turned (goal.at.items-behind-now-requires t c).At-loop-extent).ready in
    let node = ready.within.node in
    (next, ready.steady.good.shaped _ next, omega arith)

pub items-loop-extent-smaller : goal.items-loop-extent-smaller
items-loop-extent-smaller t c = loop_less _ _ _ c.content.ensures _ c.in_ok-after.was c.args.extent _
    c.loop-extent.invariant (items_goes (goal.at.items-loop-extent-smaller t c).In-loop-extent) c.behind-now.ensures

pub items-loop-extent-preserved : goal.items-loop-extent-preserved
items-loop-extent-preserved t c = loop_goes_on _ _ _ c.content.ensures _ c.in_ok-after.was c.args.extent _
    c.loop-extent.invariant (items_goes (goal.at.items-loop-extent-preserved t c).In-loop-extent) c.behind-now.ensures

pub items-returns : goal.items-returns
items-returns t c = loop_ends _ _ _ c.args.extent _ c.loop-extent.invariant (sym c.more_items.ensures ∙ c.loop-extent-test.false)

-- ---- MatchArguments
-- `match_arguments`: a shape that asks for no arguments, one that is refused, and else the walk beside the rule of a matcher.

-- ---- what the rule comes to, by the shape s that the code has

abbrev match_arguments_arguments_rule : Tables → Shape → Rule
match_arguments_arguments_rule t s n d = spec.arguments_of (flat n) (source_of t) (inner_at t n d) (shape_for s)

-- start is as it was in p, and last is empty
abbrev match_arguments_giving : Parser → Rule
match_arguments_giving p n d q = went (position.with_marks (flat n) (mark_of p.list.start) none q)

-- where a matcher takes the arguments, the steps that are left of the rule
abbrev match_arguments_plan : Tables → Parser → Matcher → List Rule
match_arguments_plan t p x =
    (λ n d q. went (position.with_marks (flat n) none none q))
    ∷ (λ n d q. went (position.holding_none (flat n) q))
    ∷ (λ n d. all_arguments t x n (inner_at t n d))
    ∷ match_arguments_giving p
    ∷ []

module _ {t : Tables} {p : Parser} {m : Buffers} (s : Shape) where
  match_arguments_none_read : name_only (shape_for s) ≡ true → Ready t p m → {q : Parser} → q ≡ unheld p
      → Came t 0 (match_arguments_arguments_rule t s) p m (Ok q) m
  unfolding spec.arguments_of line
  match_arguments_none_read e ready q-is =
      arrives {rule = match_arguments_arguments_rule t s}
      (unholds {f = λ n d q. went (position.holding_none (flat n) q)} (begins ready (λ n d. rw e)) q-is (λ n d. refl))

  match_arguments_greedy : name_only (shape_for s) ≡ false → is_greedy (start_match s.form s.value) ≡ true
      → {e : Refused} → e ≡ record { number = greedy_environment; place = p.lexer.token }
      → Came t 0 (match_arguments_arguments_rule t s) p m (Err e) m
  unfolding spec.arguments_of
  match_arguments_greedy match_arguments_asks all e-is = record { is = λ d h. rw (match_arguments_asks, all, e-is); gone = tt }

  match_arguments_matching : name_only (shape_for s) ≡ false → is_greedy (start_match s.form s.value) ≡ false
      → {x : Matcher} → x ≡ start_match s.form s.value → Ready t p m
      → Walk t (match_arguments_arguments_rule t s) (match_arguments_plan t p x) 0 0 p.list.scope p m p m
  unfolding spec.arguments_of spec.match_arguments steps line
  match_arguments_matching match_arguments_asks part x-is ready = begins ready (λ n d. rw (x-is, match_arguments_asks, part))

  -- start is given back, and last, which was saved from q, where it was cleared
  match_arguments_given_back : {u : Parser} {v : Buffers} {q z : Parser} {start last : Option Checkpoint} → Ready t p m
      → Walk t (match_arguments_arguments_rule t s) (match_arguments_giving p ∷ []) 0 0 p.list.scope p m u v
      → q ≡ remarked p no_mark no_mark → start ≡ mark_in p.list.start → last ≡ mark_in q.list.last → z ≡ remarked u (kept_of start) (kept_of last)
      → Came t 0 (match_arguments_arguments_rule t s) p m (Ok z) v
  match_arguments_given_back {u = u} {v} ready w q-is start_is last_is z-is =
      let rows = w.passed.rows in
      let mark = p.list.start in
      let none_last = last_is ∙ ap (λ (q : Parser). mark_in q.list.last) q-is in
      arrives
      (remarks w (kept_of (mark_in mark)) no_mark (z-is ∙ ap₂ (λ a b. remarked u (kept_of a) (kept_of b)) start_is none_last)
      (mark_more (kept_of (mark_in mark)) p.builder u.builder rows (taken_ok mark p.builder ready.steady.start)) (no_mark_lem u.builder)
      (λ n d. ap (λ start. went (position.with_marks (flat n) start none (pos_of u v))) (sym (kept_again mark))))

-- ---- what is known at the places

match_arguments_asks_none : {t : ℕ} (c : goal.match_arguments-Then-name_only t) → name_only (shape_for c.args.shape) ≡ true
match_arguments_asks_none c = sym c.name_only.ensures ∙ c.if-name_only.true

match_arguments_asks : {t : ℕ} (c : goal.match_arguments-Else-name_only t) → name_only (shape_for c.args.shape) ≡ false
match_arguments_asks c = sym c.name_only.ensures ∙ c.if-name_only.false

-- the code asked its matcher whether it is greedy
match_arguments_takes_some : {t : ℕ} (c : goal.match_arguments-Else-is_greedy t)
    → let s = c.args.shape in is_greedy (start_match s.form s.value) ≡ false
match_arguments_takes_some c = greedy-is c.args.shape c.matcher-matcher.ensures c.is_greedy.ensures c.if-is_greedy.false

-- the walk from the entry by a matcher, after so many steps that call nothing
abbrev MatchArgumentsCame : {t : ℕ} → goal.match_arguments-Start t → Matcher → ℕ → Parser → Type 0
MatchArgumentsCame b x count u =
    Walk (given b.args.tables) (match_arguments_arguments_rule (given b.args.tables) b.args.shape)
    (drop count (match_arguments_plan (given b.args.tables) b.args.p x)) 0 0 b.args.p.list.scope
    b.args.p (lent b.args.tree b.args.dropped) u (lent b.args.tree b.args.dropped)

match_arguments_cleared : {t : ℕ} (c : goal.match_arguments-After-with_marks-cleared t)
    → MatchArgumentsCame (goal.at.match_arguments-After-with_marks-cleared t c).Start (matcher_of c.matcher-matcher.result) 1
    c.with_marks-cleared.result
match_arguments_cleared {t} c =
    let b = (goal.at.match_arguments-After-with_marks-cleared t c).Start in
    let ok = no_mark_lem b.args.p.builder in
    let asked = match_arguments_asks (goal.at.match_arguments-After-with_marks-cleared t c).Else-name_only in
    remarks
    (match_arguments_matching b.args.shape asked (match_arguments_takes_some (goal.at.match_arguments-After-with_marks-cleared t c).Else-is_greedy)
    c.matcher-matcher.ensures b.requires)
    no_mark no_mark c.with_marks-cleared.ensures ok ok (λ n d. refl)

match_arguments_freed : {t : ℕ} (c : goal.match_arguments-After-holding_none-free t)
    → MatchArgumentsCame (goal.at.match_arguments-After-holding_none-free t c).Start (matcher_of c.matcher-matcher.result) 2
    c.holding_none-free.result
match_arguments_freed {t} c =
    unholds (match_arguments_cleared (goal.at.match_arguments-After-holding_none-free t c).After-with_marks-cleared) c.holding_none-free.ensures
    (λ n d. refl)

-- how the call ended: one step is left if it went
abbrev MatchArgumentsTurned : {t : ℕ} → goal.match_arguments-Start t → Step → List ℕ → List ℕ → Type 0
MatchArgumentsTurned b r tree dropped =
    Turn (given b.args.tables) (match_arguments_arguments_rule (given b.args.tables) b.args.shape) (match_arguments_giving b.args.p ∷ []) 0
    0 b.args.p.list.scope b.args.p (lent b.args.tree b.args.dropped)
    r (buffers tree dropped)

match_arguments_read : {t : ℕ} (c : goal.match_arguments-After-arguments t)
    → MatchArgumentsTurned (goal.at.match_arguments-After-arguments t c).Start c.arguments.result c.arguments.new.tree
    c.arguments.new.dropped
match_arguments_read {t} c =
    calls (match_arguments_freed (goal.at.match_arguments-After-arguments t c).After-holding_none-free) (runs c.arguments.ensures)
    c.arguments.auto.tree c.arguments.auto.dropped

pub match_arguments-returns-then-name_only : goal.match_arguments-returns-then-name_only
match_arguments-returns-then-name_only t c = let b = (goal.at.match_arguments-returns-then-name_only t c).Start in
    match_arguments_none_read b.args.shape (match_arguments_asks_none (goal.at.match_arguments-returns-then-name_only t c).Then-name_only) b.requires
    c.holding_none.ensures

pub match_arguments-returns-then-is_greedy : goal.match_arguments-returns-then-is_greedy
match_arguments-returns-then-is_greedy t c =
    match_arguments_greedy c.args.shape (match_arguments_asks (goal.at.match_arguments-returns-then-is_greedy t c).Else-name_only)
    (greedy-is c.args.shape c.matcher-matcher.ensures c.is_greedy.ensures c.if-is_greedy.true) c.at.ensures

pub match_arguments-arguments-requires : goal.match_arguments-arguments-requires
match_arguments-arguments-requires t c = let measure = c.decreases in
    let w = match_arguments_freed (goal.at.match_arguments-arguments-requires t c).After-holding_none-free in
    let holding = holding_none_lem (match_arguments_cleared (goal.at.match_arguments-arguments-requires t c).After-with_marks-cleared).ready in
    (omega arith, (w.ready, rw c.holding_none-free.ensures holding))

pub match_arguments-returns-in_err-after : goal.match_arguments-returns-in_err-after
match_arguments-returns-in_err-after t c =
    hands_back (match_arguments_read (goal.at.match_arguments-returns-in_err-after t c).After-arguments) c.in_err-after.was c.from_residual.ensures

pub match_arguments-returns : goal.match_arguments-returns
match_arguments-returns t c = let b = (goal.at.match_arguments-returns t c).Start in
    match_arguments_given_back b.args.shape b.requires
    ((match_arguments_read (goal.at.match_arguments-returns t c).After-arguments).went c.in_ok-after.was)
    c.with_marks-cleared.ensures c.list_start-start.ensures c.list_last-last.ensures
    c.with_marks.ensures

-- ---- Piece
-- `piece`: each arm hands on to one routine, whose rule is the arm's.

abbrev piece_piece_rule : Tables → Piece → Rule
piece_piece_rule t what n d = spec.piece (flat n) (source_of t) (spec.content (flat n) (source_of t) (inner_at t n d)) (piece_for what)

-- in an arm the piece is known
piece_arm : {t : Tables} {what known : Piece} {p : Parser} {m : Buffers} {r : Step} {v : Buffers} → what ≡ known
    → Came t 1 (piece_piece_rule t known) p m r v → Came t 1 (piece_piece_rule t what) p m r v
piece_arm e k = rw e k

pub piece-returns-in-Within : goal.piece-returns-in-Within
unfolding spec.piece spec.content_at
piece-returns-in-Within t c = piece_arm c.in-Within.is (above c.item_group.ensures)

pub piece-returns-in-Brace : goal.piece-returns-in-Brace
unfolding spec.piece spec.content_at
piece-returns-in-Brace t c = piece_arm c.in-Brace.is (ran-runs refl c.requires.0 (c.eat.ensures _))

pub piece-returns-in-Item : goal.piece-returns-in-Item
unfolding spec.piece spec.content_at
piece-returns-in-Item t c = piece_arm c.in-Item.is c.inside.ensures

-- ---- Script
-- `script`: the walk beside its rule, which each test turns to what is left; where a Word is next, by Scripts.antt.

-- ---- what is left of the rule, test by test

abbrev script_script_rule : Tables → Bool → Rule
script_script_rule t has-script n d = spec.script (flat n) (source_of t) (spec.content (flat n) (source_of t) (inner_at t n d)) has-script

abbrev script_trivia_rule : Tables → Rule
script_trivia_rule t n d = routine.trivia (flat n) (source_of t)

-- an item; the Bool says whether one character of a Word is enough
abbrev script_item_rule : Tables → Bool → Rule
script_item_rule t single n d = spec.content (flat n) (source_of t) (inner_at t n d) single

abbrev script_character_rule : Tables → Rule
script_character_rule t n d = routine.single_char (flat n) (source_of t)

-- the walk of a rule, where it reads in the node that is open
abbrev ScriptCame : Tables → Rule → List Rule → Parser → Buffers → Parser → Buffers → Type 0
ScriptCame t rule rest p m u v = Walk t rule rest 0 0 p.list.scope p m u v

-- a Word is next, or something else
abbrev ScriptWordNext : Tables → Parser → Bool → Type 0
ScriptWordNext t u is = asked is_word (peek t.tokens (cursor_of u.lexer)) ≡ is

module _ {t : Tables} {p : Parser} {m : Buffers} where
  script_no_script : {has-script : Bool} → has-script ≡ false → Ready t p m → ScriptCame t (script_script_rule t has-script) [] p m p m
  unfolding spec.script line
  script_no_script e ready = rw e (begins ready (λ n d. refl))

  script_a_script : {has-script : Bool} → has-script ≡ true → Ready t p m
      → ScriptCame t (script_script_rule t has-script) (script_trivia_rule t ∷ script_item_rule t true ∷ []) p m p m
  unfolding spec.script steps line
  script_a_script e ready = rw e (begins ready (λ n d. refl))

  module _ {rule : Rule} {u : Parser} {v : Buffers} where
    -- a Word is next at once: it is no trivia
    script_word_at_once : ScriptCame t rule (script_trivia_rule t ∷ script_item_rule t true ∷ []) p m u v → ScriptWordNext t u true
        → ScriptCame t rule (script_character_rule t ∷ []) p m u v
    unfolding line
    script_word_at_once w is = turns w (λ n d. rw (no_trivia n t (pos_of u v) is, one-character n t (pos_of u v) (inner_at t n d) is))

    module _ (w : ScriptCame t rule (script_item_rule t true ∷ []) p m u v) where
      -- behind trivia there is nothing
      script_at_end : token_count t.tokens ≤ u.lexer.token → ScriptCame t rule [] p m u v
      unfolding line spec.content
      script_at_end end = turns w (λ n d. rw (peek-none t.tokens (cursor_of u.lexer) end))

      -- a Word
      script_at_word : ScriptWordNext t u true → ScriptCame t rule (script_character_rule t ∷ []) p m u v
      unfolding line
      script_at_word is = turns w (λ n d. rw (one-character n t (pos_of u v) (inner_at t n d) is))

      -- or another item
      script_at_item : ScriptWordNext t u false → ScriptCame t rule (script_item_rule t false ∷ []) p m u v
      unfolding line
      script_at_item is = turns w (λ n d. rw (whole_item n t (pos_of u v) (inner_at t n d) is))

    -- the last step reads something; `script` does not promise that
    script_last : {f : Rule} {r : Step} {x : Buffers} → ScriptCame t rule (f ∷ []) p m u v → Call t f 0 (λ q. Left t 1 u v q x) u v r x
        → Came t 0 rule p m r x
    script_last w k = read-less {less = 0} (omega arith) (hands_on w k)

-- ---- what is known at the places

script_asks : {u : ℕ} (c : goal.script-Else-not-has_script u)
    → let t = given c.args.tables in let m = lent c.args.tree c.args.dropped in
    ScriptCame t (script_script_rule t c.args.has_script) (script_trivia_rule t ∷ script_item_rule t true ∷ []) c.args.p m c.args.p m
script_asks c = script_a_script c.if-not-has_script.false c.requires

script_at_once : {u : ℕ} (c : goal.script-Then-word_next u) → ScriptWordNext (given c.args.tables) c.args.p true
script_at_once c = sym c.word_next.ensures ∙ c.if-word_next.true

-- how trivia ended: an item is left if it went
script_passed : {u : ℕ} (c : goal.script-After-trivia u)
    → let t = given c.args.tables in let p = c.args.p in
    Turn t (script_script_rule t c.args.has_script) (script_item_rule t true ∷ []) 0 0 p.list.scope p (lent c.args.tree c.args.dropped)
    c.trivia.result (buffers c.trivia.new.tree c.args.dropped.now)
script_passed {u} c =
    calls (script_asks (goal.at.script-After-trivia u c).Else-not-has_script) (ran refl (c.trivia.ensures _)) c.trivia.auto.tree refl

script_behind : {u : ℕ} (c : goal.script-In_ok-after u)
    → let t = given c.args.tables in
    ScriptCame t (script_script_rule t c.args.has_script) (script_item_rule t true ∷ []) c.args.p (lent c.args.tree c.args.dropped)
    c.in_ok-after.after (buffers c.trivia.new.tree c.args.dropped.now)
script_behind {u} c = (script_passed (goal.at.script-In_ok-after u c).After-trivia).went c.in_ok-after.was

script_word_behind : {u : ℕ} (c : goal.script-Then-word_next-2 u) → ScriptWordNext (given c.args.tables) c.in_ok-after.after true
script_word_behind c = sym c.word_next-2.ensures ∙ c.if-word_next-2.true

pub script-returns-then-not-has_script : goal.script-returns-then-not-has_script
script-returns-then-not-has_script t c = arrives (script_no_script c.if-not-has_script.true c.requires)

pub script-word_character-requires : goal.script-word_character-requires
script-word_character-requires t c =
    let next = script_at_once (goal.at.script-word_character-requires t c).Then-word_next in
    (word-there _ (cursor_of c.args.p.lexer) next, somehow (refl, refl) c.requires)

pub script-returns-then-word_next : goal.script-returns-then-word_next
script-returns-then-word_next t c =
    script_last
    (script_word_at_once (script_asks (goal.at.script-returns-then-word_next t c).Else-not-has_script)
    (script_at_once (goal.at.script-returns-then-word_next t c).Then-word_next))
    (ran (refl, refl) (c.word_character.ensures _))

pub script-returns-in_err-after : goal.script-returns-in_err-after
script-returns-in_err-after t c =
    hands_back (script_passed (goal.at.script-returns-in_err-after t c).After-trivia) c.in_err-after.was c.from_residual.ensures

pub script-returns-then-tables-after : goal.script-returns-then-tables-after
script-returns-then-tables-after t c =
    arrives (script_at_end (script_behind (goal.at.script-returns-then-tables-after t c).In_ok-after) c.if-tables-after.true)

pub script-word_character-requires-then-word_next-2 : goal.script-word_character-requires-then-word_next-2
script-word_character-requires-then-word_next-2 t c =
    let next = script_word_behind (goal.at.script-word_character-requires-then-word_next-2 t c).Then-word_next-2 in
    let ready = (script_behind (goal.at.script-word_character-requires-then-word_next-2 t c).In_ok-after).ready in
    (word-there _ (cursor_of c.in_ok-after.after.lexer) next, somehow (refl, refl) ready)

pub script-returns-then-word_next-2 : goal.script-returns-then-word_next-2
script-returns-then-word_next-2 t c =
    script_last
    (script_at_word (script_behind (goal.at.script-returns-then-word_next-2 t c).In_ok-after)
    (script_word_behind (goal.at.script-returns-then-word_next-2 t c).Then-word_next-2))
    (ran (refl, refl) (c.word_character-then-word_next-2.ensures _))

pub script-inside-requires : goal.script-inside-requires
script-inside-requires t c = let measure = c.decreases in
    let w = script_behind (goal.at.script-inside-requires t c).In_ok-after in
    (omega arith, (w.ready, c.if-tables-after.false))

pub script-returns : goal.script-returns
script-returns t c = let other = sym c.word_next-2.ensures ∙ c.if-word_next-2.false in
    script_last (script_at_item (script_behind (goal.at.script-returns t c).In_ok-after) other) (runs c.inside.ensures)

-- ---- WithArguments
-- `with_arguments`: the walk beside its rule, a turn for each call, and each goal by the nearest turn.

-- the rule, as the steps that are left of it
abbrev with_arguments_plan : {t : ℕ} → goal.with_arguments-Start t → List Rule
with_arguments_plan b =
    let t = given b.args.tables in
    node_starts b.args.kind
    ∷ eats t
    ∷ (λ n d. spec.arguments_of (flat n) (source_of t) (inner_at t n d) (shape_for b.args.shape))
    ∷ node_ends b.args.kind b.args.p
    ∷ (λ n d. routine.extract_holding_trivia (flat n) (source_of t))
    ∷ []

abbrev with_arguments_rule : {t : ℕ} → goal.with_arguments-Start t → Rule
with_arguments_rule b n d =
    let t = given b.args.tables in
    spec.with_arguments (flat n) (source_of t) (inner_at t n d) b.args.kind (shape_for b.args.shape)

-- how a call ended: so many steps are done if it went
abbrev WithArgumentsTurned : {t : ℕ} → goal.with_arguments-Start t → ℕ → ℕ → ℕ → Step → List ℕ → List ℕ → Type 0
WithArgumentsTurned b = TurnedBy (given b.args.tables) (with_arguments_rule b) (with_arguments_plan b) b.args.p (lent b.args.tree b.args.dropped)

with_arguments_started : {t : ℕ} (c : goal.with_arguments-After-start_node t)
    → WithArgumentsTurned (goal.at.with_arguments-After-start_node t c).Start 1 0 1 c.start_node.result c.start_node.new.tree
    c.args.dropped.now
unfolding spec.with_arguments steps line
with_arguments_started c =
    opening (begins c.requires.0 (λ n d. refl)) (starts refl c.start_node.ensures) c.start_node.auto.tree refl

with_arguments_named : {t : ℕ} (c : goal.with_arguments-After-eat t)
    → WithArgumentsTurned (goal.at.with_arguments-After-eat t c).Start 2 1 1 c.eat.result c.eat.new.tree c.args.dropped.now
with_arguments_named {t} c =
    calls ((with_arguments_started (goal.at.with_arguments-After-eat t c).After-start_node).went c.in_ok-begun.was)
    (ran refl (c.eat.ensures _)) c.eat.auto.tree refl

with_arguments_read : {t : ℕ} (c : goal.with_arguments-After-match_arguments t)
    → WithArgumentsTurned (goal.at.with_arguments-After-match_arguments t c).Start 3 1 1 c.match_arguments.result
    c.match_arguments.new.tree c.match_arguments.new.dropped
with_arguments_read {t} c =
    calls ((with_arguments_named (goal.at.with_arguments-After-match_arguments t c).After-eat).went c.in_ok-named.was)
    (runs c.match_arguments.ensures)
    c.match_arguments.auto.tree c.match_arguments.auto.dropped

with_arguments_closed : {t : ℕ} (c : goal.with_arguments-After-finish_node t)
    → WithArgumentsTurned (goal.at.with_arguments-After-finish_node t c).Start 4 1 0 c.finish_node.result c.finish_node.new.tree
    c.match_arguments.new.dropped
with_arguments_closed {t} c =
    closing c.requires.0
    ((with_arguments_read (goal.at.with_arguments-After-finish_node t c).After-match_arguments).went c.in_ok-read.was)
    (finishes refl c.frame.ensures c.finish_node.ensures) c.finish_node.auto.tree refl

with_arguments_written : {t : ℕ} (c : goal.with_arguments-After-extract_holding_trivia t)
    → WithArgumentsTurned (goal.at.with_arguments-After-extract_holding_trivia t c).Start 5 1 0 c.extract_holding_trivia.result
    c.extract_holding_trivia.new.tree
    c.match_arguments.new.dropped
with_arguments_written {t} c =
    calls ((with_arguments_closed (goal.at.with_arguments-After-extract_holding_trivia t c).After-finish_node).went c.in_ok-closed.was)
    (ran refl (c.extract_holding_trivia.ensures _)) c.extract_holding_trivia.auto.tree refl

pub with_arguments-returns-in_err-begun : goal.with_arguments-returns-in_err-begun
with_arguments-returns-in_err-begun t c =
    hands_back (with_arguments_started (goal.at.with_arguments-returns-in_err-begun t c).After-start_node) c.in_err-begun.was c.from_residual.ensures

pub with_arguments-eat-requires : goal.with_arguments-eat-requires
with_arguments-eat-requires t c =
    first_inside refl c.requires.0 c.requires.1 (starts refl c.start_node.ensures)
    (with_arguments_started (goal.at.with_arguments-eat-requires t c).After-start_node) c.in_ok-begun.was

pub with_arguments-returns-in_err-named : goal.with_arguments-returns-in_err-named
with_arguments-returns-in_err-named t c =
    hands_back (with_arguments_named (goal.at.with_arguments-returns-in_err-named t c).After-eat)
    c.in_err-named.was c.from_residual-in_err-named.ensures

pub with_arguments-match_arguments-requires : goal.with_arguments-match_arguments-requires
with_arguments-match_arguments-requires t c = let measure = c.decreases in
    let w = (with_arguments_named (goal.at.with_arguments-match_arguments-requires t c).After-eat).went c.in_ok-named.was in
    (omega arith, w.ready)

pub with_arguments-returns-in_err-read : goal.with_arguments-returns-in_err-read
with_arguments-returns-in_err-read t c =
    hands_back (with_arguments_read (goal.at.with_arguments-returns-in_err-read t c).After-match_arguments)
    c.in_err-read.was c.from_residual-in_err-read.ensures

pub with_arguments-finish_node-requires : goal.with_arguments-finish_node-requires
with_arguments-finish_node-requires t c =
    open_behind (with_arguments_read (goal.at.with_arguments-finish_node-requires t c).After-match_arguments) c.in_ok-read.was

pub with_arguments-returns-in_err-closed : goal.with_arguments-returns-in_err-closed
with_arguments-returns-in_err-closed t c =
    hands_back (with_arguments_closed (goal.at.with_arguments-returns-in_err-closed t c).After-finish_node)
    c.in_err-closed.was c.from_residual-in_err-closed.ensures

pub with_arguments-extract_holding_trivia-requires : goal.with_arguments-extract_holding_trivia-requires
with_arguments-extract_holding_trivia-requires t c =
    somehow refl
    ((with_arguments_closed (goal.at.with_arguments-extract_holding_trivia-requires t c).After-finish_node).went c.in_ok-closed.was).ready

pub with_arguments-returns : goal.with_arguments-returns
with_arguments-returns t c = done (with_arguments_written (goal.at.with_arguments-returns t c).After-extract_holding_trivia)
