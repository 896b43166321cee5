-- `Parser::start_node` meets its contract: the node that the builder opened, with all else as it was.
use Rattle.std.proofs.Common.{Ok, ap, ℕ, refl}
use Rattle.rules.specs.Flat as flat
use Rattle.rules.specs.Outcome.{Out}
use Rattle.builder.specs.Stands.{rows_of}
use Rattle.builder.proofs.Facts.{starts}
use Rattle.state.proofs.Building.{few_tokens, for_token, built_told, begun}
use Rattle.state.proofs.Parser.start_node.Goals as goal

-- what the rule wants at a place
abbrev want : goal.After-with_builder → ℕ → ℕ → Out flat.Rows
want c place n = flat.start n place c.args.kind (rows_of c.args.self.builder c.args.tree.now)

pub returns : goal.returns
returns c notes =
    let long = c.start_node.auto.tree in
    record {
      told = λ t steady.
          let did = for_token (want c) (few_tokens steady) c.number.ensures c.start_node.ensures in
          let went = c.in_ok-builder.was in
          built_told _ _ _ notes _ _ (ap Ok c.with_builder.ensures) went did.is refl
          (begun _ _ _ notes _ long steady (starts c.requires went long _ _ did));
    }
