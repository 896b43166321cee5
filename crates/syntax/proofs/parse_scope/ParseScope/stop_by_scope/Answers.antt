-- The match gives the scope's line, and antt computes that all 320 digits of the code's eight lines are the rule's.
use Rattle.std.proofs.Common.{ℕ, ◌/◌, ◌%◌, ◌^◌, Bool, false, eqb, List, [], ◌∷◌, refl, sym, ap, ◌∙◌, arith}
use Rattle.rules.specs.Limits
use Rattle.rules.specs.Scope.{stops}
use Rattle.syntax.specs.ParseScope.{number_of, scope_at}
use Rattle.syntax.specs.declared.parse_scope.TheConstants.ParseScope.{STOPS_0, STOPS_1, STOPS_2, STOPS_3, STOPS_4, STOPS_5, STOPS_6, STOPS_7}
use Rattle.syntax.proofs.Lines.{Line, here, behind, by_test}
use Rattle.syntax.proofs.Scopes.{no_stop, numbered}
use Rattle.syntax.proofs.parse_scope.ParseScope.stop_by_scope.Goals as goal
use Rattle.syntax.proofs.parse_scope.ParseScope.stop_by_scope.Goals.{in-Root, in-DollarFormula, in-CmdFormula, in-Environment, in-LR, in-CurlyItem, in-BracketItem, in-ParenItem}

-- a digit of a line, from the right
abbrev digit : ℕ → ℕ → Bool
digit line kind = eqb (line / 2 ^ kind % 2) 1

-- the code's eight lines
abbrev lines : List ℕ
lines = STOPS_0 ∷ STOPS_1 ∷ STOPS_2 ∷ STOPS_3 ∷ STOPS_4 ∷ STOPS_5 ∷ STOPS_6 ∷ STOPS_7 ∷ []

-- what it should be
rule : ℕ → ℕ → Bool
rule row kind = stops (scope_at row) kind

-- the branch tells by which arm the match came, for which scope, and that it gave that scope's line; `refl` is the test over all of them
pub returns-after-self : goal.returns-after-self
unfolding rule stops
returns-after-self c =
    let scope = c.args.self in
    let line : Line (number_of scope) c.match-self.line 0 lines =
    elim c.match-self.branch [
      | in-Root w ↦ here (ap number_of w.in-Root.is) w.line-is
      | in-DollarFormula w ↦ behind (here (ap number_of w.in-DollarFormula.is) w.line-is)
      | in-CmdFormula w ↦ behind (behind (here (ap number_of w.in-CmdFormula.is) w.line-is))
      | in-Environment w ↦ behind (behind (behind (here (ap number_of w.in-Environment.is) w.line-is)))
      | in-LR w ↦ behind (behind (behind (behind (here (ap number_of w.in-LR.is) w.line-is))))
      | in-CurlyItem w ↦ behind (behind (behind (behind (behind (here (ap number_of w.in-CurlyItem.is) w.line-is)))))
      | in-BracketItem w ↦ behind (behind (behind (behind (behind (behind (here (ap number_of w.in-BracketItem.is) w.line-is))))))
      | in-ParenItem w ↦ behind (behind (behind (behind (behind (behind (behind (here (ap number_of w.in-ParenItem.is) w.line-is)))))))
    ] in
    let known = numbered scope in
    by_test 320 Limits.kinds digit rule false c.args.kind line c.if-column-lt-KINDS.true (omega arith) refl ∙ rw known.1

pub returns-else-column-lt-KINDS : goal.returns-else-column-lt-KINDS
returns-else-column-lt-KINDS c = sym (no_stop _ _ c.if-column-lt-KINDS.false)
