-- The walk beside its rule, in which the opener's row is written into the other buffer: for each call a lemma says how it ended.
use Rattle.std.proofs.Common.{Ok, ℕ, ◌<◌, List, [], ◌∷◌, refl}
use Rattle.rules.specs.Checks.{Tables, source_of}
use Rattle.rules.specs.Flat.{flat, reason_opener}
use Rattle.rules.specs.Position.{steps}
use Rattle.rules.specs.Routines as spec
use Rattle.rules.specs.Tables.{token_count}
use Rattle.state.specs.Contract.{Tokens, buffers}
use Rattle.state.specs.Stands.{Step}
use Rattle.skipped.proofs.Dropping.{row_free, drops}
use Rattle.skipped.proofs.Skipping.{skipping}
use Rattle.state.proofs.Outside.{Both, node_around, node_begins, then_ran, then_ends, still_there, known-somehow, refuses, ready_behind, open_behind, ends_with}
use Rattle.state.proofs.Turn.{calls, starts, finishes}
use Rattle.state.proofs.Walk.{Rule, line}
use Rattle.skipped.proofs.skipped_body.Goals as goal
use Rattle.skipped.proofs.skipped_body.Goals.{Start, In_ok-begun, After-start_node, After-drop_next-inside, After-eat_body_of_ifs, After-finish_node}

-- the rule, as the steps that are left of it
abbrev plan : Start → Tables → List Rule
plan b t =
    node_around b.args.kind b.args.p
    ((λ n d. spec.drop_next (flat n) (source_of t) reason_opener) ∷ (λ n d. skipping (source_of t) n) ∷ [])

-- how a call ended: so many steps are done if it went
abbrev Turned : Start → ℕ → ℕ → ℕ → Step → List ℕ → List ℕ → Type 0
Turned b =
    Both (Tokens b.args.tokens) (λ s n. spec.skipped_body (flat n) s b.args.kind) (plan b) b.args.p
    (buffers b.args.tree.now b.args.dropped.now)

started : (c : After-start_node)
    → Turned (goal.at.After-start_node c).Start 1 0 1 c.start_node.result c.start_node.new.tree c.args.dropped.now
unfolding spec.skipped_body steps line
started c = node_begins (λ t n d. refl) (λ t. starts refl c.start_node.ensures) c.start_node.auto.tree refl

-- the node's start reads nothing: the opener is still next
still : (c : In_ok-begun) (t : Tables) → Tokens c.args.tokens t → c.in_ok-begun.begun.lexer.token < token_count t.tokens
still c t seen = rw seen (still_there (known-somehow c.requires.1) c.start_node.ensures c.in_ok-begun.was c.requires.0)

-- the opener is dropped, which can't be refused
opener : (c : After-drop_next-inside)
    → Turned (goal.at.After-drop_next-inside c).Start 2 1 1 (Ok c.drop_next-inside.result) c.start_node.new.tree
    c.drop_next-inside.new.dropped
opener c = record {
  turn = λ t seen ready.
      calls (((started (goal.at.After-drop_next-inside c).After-start_node).turn t seen ready).went c.in_ok-begun.was)
      (drops c.drop_next-inside.ensures (still (goal.at.After-drop_next-inside c).In_ok-begun t seen)) refl c.drop_next-inside.auto.dropped;
}

skipped : (c : After-eat_body_of_ifs)
    → Turned (goal.at.After-eat_body_of_ifs c).Start 3 1 1 c.eat_body_of_ifs.result c.eat_body_of_ifs.new.tree
    c.eat_body_of_ifs.new.dropped
skipped c =
    then_ran c.eat_body_of_ifs.ensures (opener (goal.at.After-eat_body_of_ifs c).After-drop_next-inside) refl
    c.eat_body_of_ifs.auto.tree c.eat_body_of_ifs.auto.dropped

ended : (c : After-finish_node)
    → Turned (goal.at.After-finish_node c).Start 4 1 0 c.finish_node.result c.finish_node.new.tree c.eat_body_of_ifs.new.dropped
ended c =
    then_ends (λ t. finishes refl c.frame.ensures c.finish_node.ensures) (skipped (goal.at.After-finish_node c).After-eat_body_of_ifs)
    c.in_ok-read.was c.finish_node.auto.tree refl

-- start_node
pub returns-in_err-begun : goal.returns-in_err-begun
returns-in_err-begun c = refuses (started (goal.at.returns-in_err-begun c).After-start_node) c.in_err-begun.was c.from_residual.ensures

-- drop_next
pub drop_next-inside-requires : goal.drop_next-inside-requires
drop_next-inside-requires c =
    let k = c.requires.1 in
    let here = goal.at.drop_next-inside-requires c in
    row_free (ready_behind (started here.After-start_node) k c.in_ok-begun.was) (still here.In_ok-begun k.t k.seen)

-- eat_body_of_ifs
pub eat_body_of_ifs-requires : goal.eat_body_of_ifs-requires
eat_body_of_ifs-requires c =
    let k = c.requires.1 in
    let dropped = opener (goal.at.eat_body_of_ifs-requires c).After-drop_next-inside in
    record { t = k.t; seen = k.seen; ready = ready_behind dropped k refl }

pub returns-in_err-read : goal.returns-in_err-read
returns-in_err-read c =
    refuses (skipped (goal.at.returns-in_err-read c).After-eat_body_of_ifs) c.in_err-read.was c.from_residual-in_err-read.ensures

-- finish_node
pub finish_node-requires : goal.finish_node-requires
finish_node-requires c =
    open_behind (skipped (goal.at.finish_node-requires c).After-eat_body_of_ifs) c.requires.1 c.in_ok-read.was

pub returns : goal.returns
returns c = ends_with (ended (goal.at.returns c).After-finish_node)
