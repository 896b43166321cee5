-- Where a run of the rules stands: what is read, which tokens are held, the list that is read, and what was built. And the steps that a rule is made
-- of.
use Rattle.std.specs.Prelude.{ℕ, Bool, false, List, [], ◌∷◌}
use Rattle.std.specs.Prelude.{Option, None as none, Some as some}
use Rattle.rules.specs.Builder.{Builder, Leaf}
use Rattle.rules.specs.Cursor.{Cursor}
use Rattle.rules.specs.Outcome.{Out, went, bind}
use Rattle.rules.specs.Scope.{Scope}
use Rattle.rules.specs.SyntaxKind.{ClauseArgument}

-- "Shape row: class (1 command, 2 environment), form, value."
pub record Shape : Type 0 where
  pub class : ℕ
  pub form : ℕ
  pub value : ℕ

-- what is read: the text, the token rows, the states of the matchers, and which shape a token has
pub record Source : Type 0 where
  pub text : List ℕ
  pub tokens : List ℕ
  pub states : List ℕ
  pub shape : ℕ → Shape

-- "A list has a scope, a start mark and a last mark."
pub record ListState (Mark : Type 0) : Type 0 where
  pub scope : Scope
  pub start : Option Mark
  pub last : Option Mark

pub record Pos (State Mark : Type 0) : Type 0 where
  pub lexer : Cursor
  -- "Trivia is held": the tokens from this one up to the next to be read. What it says counts only while the arguments of a command or a \begin are
  -- read
  pub held : ℕ
  pub list : ListState Mark
  pub built : State

-- a position over a builder
abbrev pub At : Builder → Type 0
At B = Pos B.State B.Mark

-- a rule, or a step of one
abbrev pub Rule : Builder → Type 0
Rule B = At B → Out (At B)

-- steps one after the other: a refusal ends them
unfoldable pub steps : {P : Type 0} → List (P → Out P) → P → Out P
steps [] p = went p
steps (f ∷ rest) p = bind (f p) (steps rest)

-- whether a next token is there whose kind passes a test
abbrev pub asked : (ℕ → Bool) → Option ℕ → Bool
asked test none = false
asked test (some kind) = test kind

module _ (B : Builder) where
  -- ---- the builder's operations, at the place

  -- "Place: the first token not wholly read, the token count at the end."
  abbrev pub place : At B → ℕ
  place p = p.lexer.token

  abbrev pub with_built : At B → B.State → At B
  with_built p b = record { lexer = p.lexer; held = p.held; list = p.list; built = b }

  abbrev pub building : At B → Out B.State → Out (At B)
  building p o = bind o (λ b. went (with_built p b))

  abbrev pub leaf : Leaf → Rule B
  leaf l p = building p (B.leaf (place p) l p.built)

  abbrev pub start : ℕ → Rule B
  start kind p = building p (B.start (place p) kind p.built)

  abbrev pub start_at : ℕ → B.Mark → Rule B
  start_at kind m p = building p (B.start_at (place p) kind m p.built)

  abbrev pub finish : ℕ → B.Frame → Rule B
  finish kind f p = building p (B.finish (place p) kind f p.built)

  -- a wrap: a node begins at the mark and stays open, and inside it one is closed around what stood there. Each opening is judged by itself
  unfoldable pub wrap : ℕ → B.Mark → Rule B
  wrap kind m p =
      bind (start_at kind m p) (λ outer.
      bind (start_at ClauseArgument m outer) (λ inner.
      finish ClauseArgument (B.frame outer.built) inner))

  -- ---- the list and what is held
  abbrev pub with_lexer : Cursor → At B → At B
  with_lexer c p = record { lexer = c; held = p.held; list = p.list; built = p.built }

  abbrev pub with_list : ListState B.Mark → At B → At B
  with_list l p = record { lexer = p.lexer; held = p.held; list = l; built = p.built }

  abbrev pub with_marks : Option B.Mark → Option B.Mark → At B → At B
  with_marks first last p = with_list (record { scope = p.list.scope; start = first; last = last }) p

  -- nothing is held
  abbrev pub holding_none : At B → At B
  holding_none p = record { lexer = p.lexer; held = place p; list = p.list; built = p.built }
