-- How the code's `ParseScope` stands for the rules' scope, and the number that each scope has.
use Rattle.std.specs.Prelude.{ℕ, cond, eqb}
use Rattle.rules.specs.Scope as rules
use Rattle.syntax.specs.declared.parse_scope.ParseScope.{ParseScope}
use Rattle.syntax.specs.declared.parse_scope.ParseScope.TheVariants.{Root, DollarFormula, CmdFormula, Environment, LR, CurlyItem, BracketItem, ParenItem}

abbrev pub scope_of : ParseScope → rules.Scope
scope_of Root = rules.Root
scope_of DollarFormula = rules.DollarFormula
scope_of CmdFormula = rules.CmdFormula
scope_of Environment = rules.Environment
scope_of LR = rules.LR
scope_of CurlyItem = rules.CurlyItem
scope_of BracketItem = rules.BracketItem
scope_of ParenItem = rules.ParenItem

abbrev pub number_of : ParseScope → ℕ
number_of Root = 0
number_of DollarFormula = 1
number_of CmdFormula = 2
number_of Environment = 3
number_of LR = 4
number_of CurlyItem = 5
number_of BracketItem = 6
number_of ParenItem = 7

-- the scope of a number; one that is none's is the root's
abbrev pub scope_at : ℕ → rules.Scope
scope_at n =
    cond (eqb n 1) rules.DollarFormula
    (cond (eqb n 2) rules.CmdFormula
    (cond (eqb n 3) rules.Environment
    (cond (eqb n 4) rules.LR
    (cond (eqb n 5) rules.CurlyItem
    (cond (eqb n 6) rules.BracketItem
    (cond (eqb n 7) rules.ParenItem rules.Root))))))
