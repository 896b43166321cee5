-- `Parser::wrap` meets its contract: the two nodes that the builder opened and the one that it closed, with all else as it was.
use Rattle.std.proofs.Common.{Ok, ap, ℕ}
use Rattle.rules.specs.Flat as flat
use Rattle.rules.specs.Outcome.{Out}
use Rattle.rules.proofs.OnTree.{wrap-rows}
use Rattle.builder.specs.Stands.{rows_of, mark_of}
use Rattle.builder.proofs.Facts.{wraps}
use Rattle.state.proofs.Walk.{handed}
use Rattle.state.proofs.Building.{few_tokens, for_token, built_told, built_refused, begun}
use Rattle.state.proofs.Parser.wrap.Goals as goal

-- what the rule wants at a place
abbrev want : goal.After-with_builder → ℕ → ℕ → Out flat.Rows
want c place n = flat.wrap n place c.args.kind (mark_of c.args.at) (rows_of c.args.self.builder c.args.tree.now)

pub returns : goal.returns
returns c notes =
    let long = c.wrap.auto.tree in
    let pre = c.requires in
    record {
      told = λ t steady.
          let did = for_token (want c) (few_tokens steady) c.number.ensures c.wrap.ensures in
          let went = c.in_ok-builder.was in
          built_told _ _ _ notes _ _ (ap Ok c.with_builder.ensures) went did.is (wrap-rows _ _ _ _)
          (begun _ _ _ notes _ long steady (wraps pre.0 went long _ pre.1 _ _ pre.2 did));
    }

pub returns-in_err-builder : goal.returns-in_err-builder
returns-in_err-builder c notes =
    let refusal = handed c.from_residual.ensures in
    record {
      told = λ t steady.
          let want : ℕ → ℕ → Out flat.Rows =
          λ place n. flat.wrap n place c.args.kind (mark_of c.args.at) (rows_of c.args.self.builder c.args.tree.now) in
          let did = for_token want (few_tokens steady) c.number.ensures c.wrap.ensures in
          rw refusal (built_refused _ _ _ notes _ _ c.in_err-builder.was did.is (wrap-rows _ _ _ _));
    }
