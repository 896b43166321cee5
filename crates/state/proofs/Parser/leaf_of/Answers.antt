-- `Parser::leaf_of` meets its contract: the leaf that the builder wrote, with all else as it was.
use Rattle.std.proofs.Common.{Ok, ap, ℕ, refl, arith}
use Rattle.rules.specs.Builder.{Leaf}
use Rattle.rules.specs.Flat as flat
use Rattle.rules.specs.Outcome.{Out}
use Rattle.builder.specs.Stands.{rows_of}
use Rattle.builder.proofs.Facts.{leafs}
use Rattle.state.proofs.Building.{for_token, built_told, leafed}
use Rattle.state.proofs.Parser.leaf_of.Goals as goal

-- what the rule wants at a place, of a leaf of this token
abbrev want : goal.After-with_builder → ℕ → ℕ → ℕ → Out flat.Rows
want c place token n =
    let leaf : Leaf = record { token = token; kind = c.args.kind; start = c.args.start; size = c.args.size } in
    flat.leaf n place leaf (rows_of c.args.self.builder c.args.tree.now)

pub returns : goal.returns
returns c notes own few =
    let long = c.token.auto.tree in
    let at_place = for_token (λ k. want c k c.number.result) few c.number-place.ensures c.token.ensures in
    let did = for_token (want c c.args.self.lexer.token) (omega arith) c.number.ensures at_place in
    let went = c.in_ok-builder.was in
    built_told _ _ _ notes _ _ (ap Ok c.with_builder.ensures) went did.is refl
    (leafed _ _ _ notes _ (leafs c.requires went long _ _ did))
