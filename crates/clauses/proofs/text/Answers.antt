-- The walk beside its rule: for each call a lemma says how it ended.
use Rattle.std.proofs.Common.{ℕ, List, [], ◌∷◌, refl}
use Rattle.rules.specs.Checks.{Tables, source_of}
use Rattle.rules.specs.Flat.{flat}
use Rattle.rules.specs.Kinds.{is_text_component}
use Rattle.rules.specs.Position.{steps}
use Rattle.rules.specs.Routines as spec
use Rattle.rules.specs.SyntaxKind.{ItemText}
use Rattle.state.specs.Contract.{Tokens}
use Rattle.state.specs.Stands.{Step}
use Rattle.state.proofs.Outside.{Alone, node_around, node_begins, then_ran, then_ends, first-inside, refuses, known_alone, alone_behind, open_behind, ends_with}
use Rattle.state.proofs.Turn.{starts, finishes}
use Rattle.state.proofs.Walk.{Rule, line}
use Rattle.clauses.proofs.text.Goals as goal
use Rattle.clauses.proofs.text.Goals.{Start, After-start_node, After-eat, After-eat_while, After-finish_node}

-- the rule, as the steps that are left of it
abbrev plan : Start → Tables → List Rule
plan b t =
    node_around ItemText b.args.p
    ((λ n d. spec.eat (flat n) (source_of t))
    ∷ (λ n d q. spec.eat_while (flat n) (source_of t) is_text_component (spec.turns (flat n) (source_of t) q) q)
    ∷ [])

-- how a call ended: so many steps are done if it went
abbrev Turned : Start → ℕ → ℕ → ℕ → Step → List ℕ → Type 0
Turned b = Alone (Tokens b.args.tokens) (λ s n. spec.text (flat n) s) (plan b) b.args.p b.args.tree.now

started : (c : After-start_node)
    → Turned (goal.at.After-start_node c).Start 1 0 1 c.start_node.result c.start_node.new.tree
unfolding spec.text steps line
started c notes = node_begins (λ t n d. refl) (λ t. starts refl c.start_node.ensures) c.start_node.auto.tree refl

eaten : (c : After-eat) → Turned (goal.at.After-eat c).Start 2 1 1 c.eat.result c.eat.new.tree
eaten c notes =
    then_ran (c.eat.ensures notes) (started (goal.at.After-eat c).After-start_node notes) c.in_ok-begun.was c.eat.auto.tree refl

taken : (c : After-eat_while)
    → Turned (goal.at.After-eat_while c).Start 3 1 1 c.eat_while.result c.eat_while.new.tree
taken c notes =
    then_ran (c.eat_while.ensures notes) (eaten (goal.at.After-eat_while c).After-eat notes) c.in_ok-first.was
    c.eat_while.auto.tree refl

ended : (c : After-finish_node) → Turned (goal.at.After-finish_node c).Start 4 1 0 c.finish_node.result c.finish_node.new.tree
ended c notes =
    then_ends (λ t. finishes refl c.frame.ensures c.finish_node.ensures) (taken (goal.at.After-finish_node c).After-eat_while notes)
    c.in_ok-read.was c.finish_node.auto.tree refl

-- start_node
pub returns-in_err-begun : goal.returns-in_err-begun
returns-in_err-begun c notes = refuses (started (goal.at.returns-in_err-begun c).After-start_node notes) c.in_err-begun.was c.from_residual.ensures

-- eat
pub eat-requires : goal.eat-requires
eat-requires c =
    first-inside c.requires.1 c.requires.0 c.start_node.ensures (started (goal.at.eat-requires c).After-start_node) c.in_ok-begun.was

pub returns-in_err-first : goal.returns-in_err-first
returns-in_err-first c notes =
    refuses (eaten (goal.at.returns-in_err-first c).After-eat notes) c.in_err-first.was c.from_residual-in_err-first.ensures

-- eat_while
pub eat_while-requires : goal.eat_while-requires
eat_while-requires c =
    alone_behind c.requires.1 (eaten (goal.at.eat_while-requires c).After-eat) c.in_ok-first.was

pub returns-in_err-read : goal.returns-in_err-read
returns-in_err-read c notes =
    refuses (taken (goal.at.returns-in_err-read c).After-eat_while notes) c.in_err-read.was c.from_residual-in_err-read.ensures

-- finish_node
pub finish_node-requires : goal.finish_node-requires
finish_node-requires c =
    open_behind (taken (goal.at.finish_node-requires c).After-eat_while _) (known_alone c.requires.1) c.in_ok-read.was

pub returns : goal.returns
returns c notes = ends_with (ended (goal.at.returns c).After-finish_node notes)
