-- Each way out is what the rule comes to.
use Rattle.std.proofs.Common.{ℕ, List, ap, ap₂, sym, ◌∙◌}
use Rattle.rules.specs.Tokeniser.{written, refused_at}
use Rattle.syntax.specs.declared.refusal.Refused.{Refused}
use Rattle.tokeniser.proofs.High.{first_is, ascii}
use Rattle.tokeniser.proofs.Judged.{high, refused, fine, short, room-enough}
use Rattle.tokeniser.proofs.rows.tokenise.Goals as goal

pub returns-in-Some : goal.returns-in-Some
returns-in-Some c =
    let place = c.in-Some.ensures ∙ first_is _ in
    ap (λ (r : Refused). (refused_at r.number r.place, c.args.rows.now)) c.at.ensures ∙ high _ _ _ place

pub fits-requires : goal.fits-requires
fits-requires c = ascii _ (c.in_default.ensures ∙ first_is _)

pub cut-requires : goal.cut-requires
cut-requires c = (ascii _ (c.in_default.ensures ∙ first_is _), short _ _ (sym c.fits.ensures ∙ c.if-fits.true))

pub returns-then-fits : goal.returns-then-fits
returns-then-fits c =
    let fit = sym c.fits.ensures ∙ c.if-fits.true in
    ap₂ (λ (tokens : ℕ) (rows : List ℕ). (written tokens, rows)) c.cut.ensures.0 (c.cut.ensures.1 (room-enough _ _ fit))
    ∙ fine _ _ (c.in_default.ensures ∙ first_is _) fit

pub returns : goal.returns
returns c =
    ap (λ (r : Refused). (refused_at r.number r.place, c.args.rows.now)) c.at-2.ensures
    ∙ refused _ _ (c.in_default.ensures ∙ first_is _) (sym c.fits.ensures ∙ c.if-fits.false)
