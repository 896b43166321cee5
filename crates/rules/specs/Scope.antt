-- The eight scopes of a list, and which kinds of tokens stop it.
use Rattle.std.specs.Prelude.{ℕ, Bool, false, ◌||◌, List, [], ◌∷◌, eqb}
use Rattle.rules.specs.Token.{RightCurly, RightBracket, RightParen, Dollar, EndEnvironment, EndMath, Right}

-- ParseScope (parser.rs), in its order
pub data Scope : Type 0 where
  Root DollarFormula CmdFormula Environment LR CurlyItem BracketItem ParenItem : Scope

-- whether a kind is one of a list of kinds
abbrev pub among : ℕ → List ℕ → Bool
among kind [] = false
among kind (k ∷ ks) = eqb kind k || among kind ks

-- "Stop kinds by scope: Root none; Dollar `}`, EndEnvironment, Right, Dollar; Cmd the same with EndMath for Dollar; Environment `}`,
-- EndEnvironment; Curly `}`; Bracket and Paren `}`, their own closer, EndEnvironment, Right; LR `}`, EndEnvironment, Right."
abbrev pub stop_kinds : Scope → List ℕ
stop_kinds Root = []
stop_kinds DollarFormula = RightCurly ∷ EndEnvironment ∷ Right ∷ Dollar ∷ []
stop_kinds CmdFormula = RightCurly ∷ EndEnvironment ∷ Right ∷ EndMath ∷ []
stop_kinds Environment = RightCurly ∷ EndEnvironment ∷ []
stop_kinds LR = RightCurly ∷ EndEnvironment ∷ Right ∷ []
stop_kinds CurlyItem = RightCurly ∷ []
stop_kinds BracketItem = RightCurly ∷ RightBracket ∷ EndEnvironment ∷ Right ∷ []
stop_kinds ParenItem = RightCurly ∷ RightParen ∷ EndEnvironment ∷ Right ∷ []

-- whether a token of this kind stops a list of this scope
unfoldable pub stops : Scope → ℕ → Bool
stops scope kind = among kind (stop_kinds scope)
