-- The walk beside its rule, from the mark that the rule chooses: for each call a lemma says how it ended.
use Rattle.std.proofs.Common.{ℕ, List, [], ◌∷◌, ◌∙◌}
use mathlib.Core.Path.{refl, ap₂}
use Rattle.rules.specs.Checks.{Tables, source_of}
use Rattle.rules.specs.Flat.{flat}
use Rattle.rules.specs.Position as position
use Rattle.rules.specs.Position.{steps}
use Rattle.rules.specs.Routines as spec
use Rattle.rules.specs.SyntaxKind.{ItemCmd}
use Rattle.state.specs.Contract.{Tokens}
use Rattle.state.specs.Stands.{Step, option_of, mark_in}
use Rattle.builder.specs.declared.Checkpoint.{Checkpoint}
use Rattle.std.specs.Prelude.{Option}
use Rattle.std.specs.Option.{option_or}
use Rattle.state.proofs.Outside.{Alone, node_begins, then_ran, then_ends, first-inside, refuses, known_alone, open_behind, ends_with}
use Rattle.state.proofs.Marks.{left1-is}
use Rattle.state.proofs.Turn.{finishes, around}
use Rattle.state.proofs.Walk.{Rule, line}
use Rattle.clauses.proofs.left1_command.Goals as goal
use Rattle.clauses.proofs.left1_command.Goals.{Start, After-start_around, After-eat, After-finish_node}

-- the mark that the code chooses
abbrev chosen : Start → Option Checkpoint
chosen b = option_or (mark_in b.args.p.list.last) (mark_in b.args.p.list.start)

-- the rule, as the steps that are left of it
abbrev plan : Start → Tables → List Rule
plan b t =
    (λ n d. spec.start_around (flat n) (source_of t) ItemCmd (option_of (chosen b)))
    ∷ (λ n d. spec.eat (flat n) (source_of t))
    ∷ (λ n d. position.finish (flat n) ItemCmd (record { first = b.args.p.builder.first; node = b.args.p.builder.node }))
    ∷ []

-- how a call ended: so many steps are done if it went
abbrev Turned : Start → ℕ → ℕ → ℕ → Step → List ℕ → Type 0
Turned b = Alone (Tokens b.args.tokens) (λ s n. spec.left1_command (flat n) s) (plan b) b.args.p b.args.tree.now

started : (c : After-start_around)
    → Turned (goal.at.After-start_around c).Start 1 0 1 c.start_around.result c.start_around.new.tree
unfolding spec.left1_command steps line
started c notes =
    let list = c.args.p.list in
    let chosen_is = c.or-mark.ensures ∙ ap₂ option_or c.list_last.ensures c.list_start.ensures in
    node_begins (λ t n d. rw (left1-is (source_of t) n list.last list.start)) (λ t. around ItemCmd chosen_is c.start_around.ensures)
    c.start_around.auto.tree refl

eaten : (c : After-eat) → Turned (goal.at.After-eat c).Start 2 1 1 c.eat.result c.eat.new.tree
eaten c notes =
    then_ran (c.eat.ensures notes) (started (goal.at.After-eat c).After-start_around notes) c.in_ok-begun.was c.eat.auto.tree refl

ended : (c : After-finish_node) → Turned (goal.at.After-finish_node c).Start 3 1 0 c.finish_node.result c.finish_node.new.tree
ended c notes =
    then_ends (λ t. finishes refl c.frame.ensures c.finish_node.ensures) (eaten (goal.at.After-finish_node c).After-eat notes)
    c.in_ok-named.was c.finish_node.auto.tree refl

-- start_around
pub returns-in_err-begun : goal.returns-in_err-begun
returns-in_err-begun c notes = refuses (started (goal.at.returns-in_err-begun c).After-start_around notes) c.in_err-begun.was c.from_residual.ensures

-- eat
pub eat-requires : goal.eat-requires
eat-requires c =
    let s = c.requires.1 in
    let start = started (goal.at.eat-requires c).After-start_around in
    first-inside s c.requires.0 (c.start_around.ensures (source_of s.t)) start c.in_ok-begun.was

pub returns-in_err-named : goal.returns-in_err-named
returns-in_err-named c notes =
    refuses (eaten (goal.at.returns-in_err-named c).After-eat notes) c.in_err-named.was c.from_residual-in_err-named.ensures

-- finish_node
pub finish_node-requires : goal.finish_node-requires
finish_node-requires c = open_behind (eaten (goal.at.finish_node-requires c).After-eat _) (known_alone c.requires.1) c.in_ok-named.was

pub returns : goal.returns
returns c notes = ends_with (ended (goal.at.returns c).After-finish_node notes)
