-- The byte begins a run of one of the three classes, or else it is a mark.
use Rattle.std.proofs.Common.{sym, ◌∙◌}
use Rattle.tokeniser.proofs.Fronts.{word, blank, break}
use Rattle.tokeniser.proofs.lexeme.lexeme_at.Goals as goal

pub returns-then-has : goal.returns-then-has
returns-then-has c = word _ _ c.requires.0 _ (sym c.has.ensures ∙ c.if-has.true) c.run_end.ensures c.plain.ensures

pub returns-then-has-2 : goal.returns-then-has-2
returns-then-has-2 c =
    blank _ _ c.requires.0 _ (sym c.has-2.ensures ∙ c.if-has-2.true) c.run_end-then-has-2.ensures c.plain-then-has-2.ensures

pub returns-then-has-3 : goal.returns-then-has-3
returns-then-has-3 c =
    break _ _ c.requires.0 _ (sym c.has-3.ensures ∙ c.if-has-3.true) c.run_end-then-has-3.ensures c.plain-then-has-3.ensures

pub mark-requires : goal.mark-requires
mark-requires c = (
  c.requires.0,
  c.requires.1,
  record {
    no_word = sym c.has.ensures ∙ c.if-has.false;
    no_blank = sym c.has-2.ensures ∙ c.if-has-2.false;
    no_break = sym c.has-3.ensures ∙ c.if-has-3.false;
  },
)
