-- The walk beside its rule, in which the Word is still next inside the node: for each call a lemma says how it ended.
use Rattle.std.proofs.Common.{ℕ, List, [], ◌∷◌, refl}
use Rattle.rules.specs.Checks.{Tables, source_of}
use Rattle.rules.specs.Flat.{flat}
use Rattle.rules.specs.Position.{steps}
use Rattle.rules.specs.Routines as spec
use Rattle.state.specs.Contract.{LeftOf, buffers}
use Rattle.state.specs.Stands.{Step}
use Rattle.clauses.proofs.ArgumentNode.{framed, left-still}
use Rattle.state.proofs.Outside.{Both, node_begins, then_ran, then_ends, ran-seeing, begun_there, refuses, open_behind, ends_with}
use Rattle.state.proofs.Turn.{begins-in}
use Rattle.state.proofs.Walk.{Rule, line, closes}
use Rattle.clauses.proofs.argument.character.Goals as goal
use Rattle.clauses.proofs.argument.character.Goals.{Start, After-begin_argument, After-single_char, After-end_argument}

-- the rule, as the steps that are left of it
abbrev plan : Start → Tables → List Rule
plan b t =
    (λ n d. spec.argument_begins (flat n) (source_of t))
    ∷ (λ n d. spec.single_char (flat n) (source_of t))
    ∷ (λ n d. spec.argument_ends (flat n) (source_of t) (record { first = b.args.p.builder.first; node = b.args.p.builder.node }))
    ∷ []

-- how a call ended: so many steps are done if it went
abbrev Turned : Start → ℕ → ℕ → ℕ → Step → List ℕ → List ℕ → Type 0
Turned b =
    Both (LeftOf b.args.tokens b.args.word b.args.p) (λ s n. spec.argument_node (flat n) s (spec.single_char (flat n) s)) (plan b) b.args.p
    (buffers b.args.tree.now b.args.dropped.now)

begun : (c : After-begin_argument)
    → Turned (goal.at.After-begin_argument c).Start 1 0 1 c.begin_argument.result c.begin_argument.new.tree
    c.begin_argument.new.dropped
unfolding spec.argument_node steps line
begun c =
    node_begins (λ t n d. refl) (λ t. begins-in c.begin_argument.ensures) c.begin_argument.auto.tree
    c.begin_argument.auto.dropped

-- the Word is still next
taken : (c : After-single_char)
    → Turned (goal.at.After-single_char c).Start 2 1 1 c.single_char.result c.single_char.new.tree
    c.begin_argument.new.dropped
taken c =
    let same = begun_there c.requires.2.ready c.begin_argument.ensures c.in_ok-begun.was in
    then_ran (ran-seeing (λ t seen. left-still c.args.tokens c.args.word c.args.p c.in_ok-begun.begun t same seen) (c.single_char.ensures _))
    (begun (goal.at.After-single_char c).After-begin_argument) c.in_ok-begun.was c.single_char.auto.tree refl

ended : (c : After-end_argument)
    → Turned (goal.at.After-end_argument c).Start 3 1 0 c.end_argument.result c.end_argument.new.tree c.begin_argument.new.dropped
ended c =
    then_ends (λ t. closes (framed (source_of t) c.frame.ensures (c.end_argument.ensures (source_of t)) _))
    (taken (goal.at.After-end_argument c).After-single_char) c.in_ok-read.was c.end_argument.auto.tree refl

-- begin_argument
pub returns-in_err-begun : goal.returns-in_err-begun
returns-in_err-begun c = refuses (begun (goal.at.returns-in_err-begun c).After-begin_argument) c.in_err-begun.was c.from_residual.ensures

-- single_char
pub returns-in_err-read : goal.returns-in_err-read
returns-in_err-read c = refuses (taken (goal.at.returns-in_err-read c).After-single_char) c.in_err-read.was c.from_residual-in_err-read.ensures

-- end_argument
pub end_argument-requires : goal.end_argument-requires
end_argument-requires c = open_behind (taken (goal.at.end_argument-requires c).After-single_char) c.requires.2 c.in_ok-read.was

pub returns : goal.returns
returns c = ends_with (ended (goal.at.returns c).After-end_argument)
