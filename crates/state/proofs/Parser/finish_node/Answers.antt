-- `Parser::finish_node` meets its contract: the node that the builder closed, with all else as it was.
use Rattle.std.proofs.Common.{Ok, ap, ℕ, refl}
use Rattle.rules.specs.Flat as flat
use Rattle.rules.specs.Outcome.{Out}
use Rattle.builder.specs.Stands.{rows_of, frame_of}
use Rattle.builder.proofs.Facts.{finishes}
use Rattle.state.proofs.Building.{few_tokens, for_token, built_told, ended}
use Rattle.state.proofs.Parser.finish_node.Goals as goal

-- what the rule wants at a place
abbrev want : goal.After-with_builder → ℕ → ℕ → Out flat.Rows
want c place n = flat.finish n place c.args.kind (frame_of c.args.parent) (rows_of c.args.self.builder c.args.tree.now)

pub returns : goal.returns
returns c notes =
    let long = c.finish_node.auto.tree in
    record {
      told = λ t ready.
          let did = for_token (want c) (few_tokens ready.steady) c.number.ensures c.finish_node.ensures in
          let went = c.in_ok-builder.was in
          built_told _ _ _ notes _ _ (ap Ok c.with_builder.ensures) went did.is refl
          (ended _ _ _ notes _ _ long ready.steady (finishes c.requires.0 went long _ c.requires.1 _ _ did));
    }
