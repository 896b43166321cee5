-- A branch on a callee's answer, negated: what it tells of the rule that the callee's contract cites. Assumes nothing.
use borrow.Author.Tests.{not-true, not-false}
use mathlib.Core.Bool.{Bool, true, false, not}
use mathlib.Core.Path.{◌≡◌, sym, ◌∙◌}

module _ {answer rule : Bool} (is : answer ≡ rule) where
  pub missed : not answer ≡ true → rule ≡ false
  missed e = sym is ∙ not-true answer e

  pub met : not answer ≡ false → rule ≡ true
  met e = sym is ∙ not-false answer e
