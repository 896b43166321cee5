-- The walk beside its rule: for each call a lemma says how it ended.
use Rattle.std.proofs.Common.{ℕ, List, [], ◌∷◌, refl}
use Rattle.rules.specs.Checks.{Tables, source_of}
use Rattle.rules.specs.Flat.{flat}
use Rattle.rules.specs.Position.{steps}
use Rattle.rules.specs.Routines as spec
use Rattle.rules.specs.SyntaxKind.{ClauseLR}
use Rattle.state.specs.Contract.{Texts}
use Rattle.state.specs.Stands.{Step}
use Rattle.routines.proofs.Leaves.{seen_less}
use Rattle.state.proofs.Outside.{Alone, node_around, node_begins, then_ran, then_ends, ran-seeing, first-inside, refuses, known_alone, alone_behind, open_behind, ends_with}
use Rattle.state.proofs.Turn.{starts, finishes}
use Rattle.state.proofs.Walk.{Rule, line}
use Rattle.clauses.proofs.clause_lr.Goals as goal
use Rattle.clauses.proofs.clause_lr.Goals.{Start, After-start_node, After-eat, After-trivia, After-delimiter, After-finish_node}

-- the rule, as the steps that are left of it
abbrev plan : Start → Tables → List Rule
plan b t =
    node_around ClauseLR b.args.p
    ((λ n d. spec.eat (flat n) (source_of t))
    ∷ (λ n d. spec.trivia (flat n) (source_of t))
    ∷ (λ n d. spec.delimiter (flat n) (source_of t))
    ∷ [])

-- how a call ended: so many steps are done if it went
abbrev Turned : Start → ℕ → ℕ → ℕ → Step → List ℕ → Type 0
Turned b = Alone (Texts b.args.text b.args.tokens) (λ s n. spec.clause_lr (flat n) s) (plan b) b.args.p b.args.tree.now

started : (c : After-start_node)
    → Turned (goal.at.After-start_node c).Start 1 0 1 c.start_node.result c.start_node.new.tree
unfolding spec.clause_lr steps line
started c notes = node_begins (λ t n d. refl) (λ t. starts refl c.start_node.ensures) c.start_node.auto.tree refl

eaten : (c : After-eat) → Turned (goal.at.After-eat c).Start 2 1 1 c.eat.result c.eat.new.tree
eaten c notes =
    then_ran (ran-seeing (λ t seen. seen.1) (c.eat.ensures notes)) (started (goal.at.After-eat c).After-start_node notes)
    c.in_ok-begun.was c.eat.auto.tree refl

passed : (c : After-trivia) → Turned (goal.at.After-trivia c).Start 3 1 1 c.trivia.result c.trivia.new.tree
passed c notes =
    then_ran (ran-seeing (λ t seen. seen.1) (c.trivia.ensures notes)) (eaten (goal.at.After-trivia c).After-eat notes)
    c.in_ok-named.was c.trivia.auto.tree refl

taken : (c : After-delimiter) → Turned (goal.at.After-delimiter c).Start 4 1 1 c.delimiter.result c.delimiter.new.tree
taken c notes =
    then_ran (c.delimiter.ensures notes) (passed (goal.at.After-delimiter c).After-trivia notes) c.in_ok-reached.was
    c.delimiter.auto.tree refl

ended : (c : After-finish_node) → Turned (goal.at.After-finish_node c).Start 5 1 0 c.finish_node.result c.finish_node.new.tree
ended c notes =
    then_ends (λ t. finishes refl c.frame.ensures c.finish_node.ensures) (taken (goal.at.After-finish_node c).After-delimiter notes)
    c.in_ok-read.was c.finish_node.auto.tree refl

-- start_node
pub returns-in_err-begun : goal.returns-in_err-begun
returns-in_err-begun c notes = refuses (started (goal.at.returns-in_err-begun c).After-start_node notes) c.in_err-begun.was c.from_residual.ensures

-- eat
pub eat-requires : goal.eat-requires
eat-requires c =
    let start = started (goal.at.eat-requires c).After-start_node in
    let inside = first-inside c.requires.1 c.requires.0 c.start_node.ensures start c.in_ok-begun.was in
    (inside.0, seen_less (λ t seen. seen.1) inside.1)

pub returns-in_err-named : goal.returns-in_err-named
returns-in_err-named c notes =
    refuses (eaten (goal.at.returns-in_err-named c).After-eat notes) c.in_err-named.was c.from_residual-in_err-named.ensures

-- trivia
pub trivia-requires : goal.trivia-requires
trivia-requires c =
    let behind = alone_behind c.requires.1 (eaten (goal.at.trivia-requires c).After-eat) c.in_ok-named.was in
    seen_less (λ t seen. seen.1) behind

pub returns-in_err-reached : goal.returns-in_err-reached
returns-in_err-reached c notes =
    refuses (passed (goal.at.returns-in_err-reached c).After-trivia notes) c.in_err-reached.was c.from_residual-in_err-reached.ensures

-- delimiter
pub delimiter-requires : goal.delimiter-requires
delimiter-requires c = alone_behind c.requires.1 (passed (goal.at.delimiter-requires c).After-trivia) c.in_ok-reached.was

pub returns-in_err-read : goal.returns-in_err-read
returns-in_err-read c notes =
    refuses (taken (goal.at.returns-in_err-read c).After-delimiter notes) c.in_err-read.was c.from_residual-in_err-read.ensures

-- finish_node
pub finish_node-requires : goal.finish_node-requires
finish_node-requires c =
    open_behind (taken (goal.at.finish_node-requires c).After-delimiter _) (known_alone c.requires.1) c.in_ok-read.was

pub returns : goal.returns
returns c notes = ends_with (ended (goal.at.returns c).After-finish_node notes)
