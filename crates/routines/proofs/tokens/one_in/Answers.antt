-- The walk beside its rule: for each call a lemma says how it ended.
use Rattle.std.proofs.Common.{ℕ, List, [], ◌∷◌, refl}
use Rattle.rules.specs.Checks.{Tables, source_of}
use Rattle.rules.specs.Flat.{flat}
use Rattle.rules.specs.Position.{steps}
use Rattle.rules.specs.Routines as spec
use Rattle.state.specs.Contract.{Tokens}
use Rattle.state.specs.Stands.{Step}
use Rattle.state.proofs.Outside.{Alone, node_around, node_begins, then_ran, then_ends, first-inside, refuses, known_alone, open_behind, ends_with}
use Rattle.state.proofs.Turn.{starts, finishes}
use Rattle.state.proofs.Walk.{Rule, line}
use Rattle.routines.proofs.tokens.one_in.Goals as goal
use Rattle.routines.proofs.tokens.one_in.Goals.{Start, After-start_node, After-eat, After-finish_node}

-- the rule, as the steps that are left of it
abbrev plan : Start → Tables → List Rule
plan b t = node_around b.args.kind b.args.p ((λ n d. spec.eat (flat n) (source_of t)) ∷ [])

-- how a call ended: so many steps are done if it went
abbrev Turned : Start → ℕ → ℕ → ℕ → Step → List ℕ → Type 0
Turned b = Alone (Tokens b.args.tokens) (λ s n. spec.one_in (flat n) s b.args.kind) (plan b) b.args.p b.args.tree.now

started : (c : After-start_node)
    → Turned (goal.at.After-start_node c).Start 1 0 1 c.start_node.result c.start_node.new.tree
unfolding spec.one_in steps line
started c notes = node_begins (λ t n d. refl) (λ t. starts refl c.start_node.ensures) c.start_node.auto.tree refl

eaten : (c : After-eat) → Turned (goal.at.After-eat c).Start 2 1 1 c.eat.result c.eat.new.tree
eaten c notes =
    then_ran (c.eat.ensures notes) (started (goal.at.After-eat c).After-start_node notes) c.in_ok-begun.was c.eat.auto.tree refl

ended : (c : After-finish_node) → Turned (goal.at.After-finish_node c).Start 3 1 0 c.finish_node.result c.finish_node.new.tree
ended c notes =
    then_ends (λ t. finishes refl c.frame.ensures c.finish_node.ensures) (eaten (goal.at.After-finish_node c).After-eat notes)
    c.in_ok-read.was c.finish_node.auto.tree refl

pub returns-in_err-begun : goal.returns-in_err-begun
returns-in_err-begun c notes = refuses (started (goal.at.returns-in_err-begun c).After-start_node notes) c.in_err-begun.was c.from_residual.ensures

pub eat-requires : goal.eat-requires
eat-requires c =
    first-inside c.requires.1 c.requires.0 c.start_node.ensures (started (goal.at.eat-requires c).After-start_node) c.in_ok-begun.was

pub returns-in_err-read : goal.returns-in_err-read
returns-in_err-read c notes = refuses (eaten (goal.at.returns-in_err-read c).After-eat notes) c.in_err-read.was c.from_residual-in_err-read.ensures

pub finish_node-requires : goal.finish_node-requires
finish_node-requires c =
    open_behind (eaten (goal.at.finish_node-requires c).After-eat _) (known_alone c.requires.1) c.in_ok-read.was

pub returns : goal.returns
returns c notes = ends_with (ended (goal.at.returns c).After-finish_node notes)
