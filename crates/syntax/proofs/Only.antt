-- A contract fixes the result: two results that meet it are equal. A contract that equates the result with a rule's value leaves that value alone;
-- where the result only stands for it, no two results stand for the same. `Only` takes a function's contract itself, so that it can speak of no
-- other. Assumes nothing.
use Prim.Native.Nat.{ℕ}
use mathlib.Core.List.{List, [], ◌∷◌}
use lib.ListN.{get_or}
use mathlib.Core.Path.{◌≡◌, refl, sym, ap, ◌∙◌}
use Rattle.rules.specs.Scope as rules
use Rattle.syntax.specs.ParseScope.{scope_of}
use Rattle.syntax.specs.SyntaxKind.{number_of}
use Rattle.syntax.specs.declared.syntax_kind.SyntaxKind.{SyntaxKind}
use Rattle.syntax.specs.declared.syntax_kind.SyntaxKind.TheVariants as kind
use Rattle.syntax.specs.declared.parse_scope.ParseScope.{ParseScope}
use Rattle.syntax.specs.declared.parse_scope.ParseScope.TheVariants.{Root, DollarFormula, CmdFormula, Environment, LR, CurlyItem, BracketItem, ParenItem}
use Rattle.syntax.proofs.limits.Limits.numbers.Reads as limits
use Rattle.syntax.proofs.parse_scope.ParseScope.number.Reads as number
use Rattle.syntax.proofs.parse_scope.ParseScope.numbered.Reads as numbered
use Rattle.syntax.proofs.parse_scope.ParseScope.stop_by_scope.Reads as stop-by-scope
use Rattle.syntax.proofs.refusal.Refusal.at.Reads as refusal-at
use Rattle.syntax.proofs.refusal.Refusal.number.Reads as refusal-number
use Rattle.syntax.proofs.refusal.Refusal.numbers.Reads as refusals
use Rattle.syntax.proofs.rows.Reason.number.Reads as reason-number
use Rattle.syntax.proofs.rows.Tag.number.Reads as tag-number
use Rattle.syntax.proofs.rows.Tag.open_after.Reads as tag-open-after
use Rattle.syntax.proofs.syntax_kind.SyntaxKind.number.Reads as kind-number
use Rattle.syntax.proofs.rows.Reason.numbers.Reads as reasons
use Rattle.syntax.proofs.rows.Tag.numbers.Reads as tags
use Rattle.syntax.proofs.shape.Class.numbers.Reads as classes
use Rattle.syntax.proofs.shape.Form.numbers.Reads as forms
use Rattle.syntax.proofs.syntax_kind.SyntaxKind.from_token.Reads as from-token
use Rattle.syntax.proofs.syntax_kind.SyntaxKind.numbers.Reads as syntax-kinds
use Rattle.syntax.proofs.token.Token.is_text_component.Reads as is-text-component
use Rattle.syntax.proofs.token.Token.is_trivia.Reads as is-trivia
use Rattle.syntax.proofs.token.Token.numbers.Reads as tokens

-- ---- for every crate

-- a contract is a claim about lifetimes, arguments, a result, and the parameters at the exit
pub record Only {L : Type 0} {A R E : L → Type 0} (post : (κs : L) → A κs → R κs → E κs → Type 0) : Type 0 where
  pub same : (κs : L) (a : A κs) (x y : R κs) (e : E κs) → post κs a x e → post κs a y e → x ≡ y

module _ {L : Type 0} {A R E : L → Type 0} where
  -- one that is an equation fixes the result
  pub equal : {value : (κs : L) → A κs → E κs → R κs} → Only (λ κs a x e. x ≡ value κs a e)
  equal = record { same = λ κs a x y e p q. p ∙ sym q }

-- two values that stand for the same are the same, if what they stand for leads back to them
module _ {R B : Type 0} (of : R → B) (back : B → R) (returns : (r : R) → back (of r) ≡ r) where
  pub fixed : (r s : R) → of r ≡ of s → r ≡ s
  fixed r s e = sym (returns r) ∙ ap back e ∙ returns s

  -- one that is an equation between what the result stands for and a rule's value fixes the result too
  pub stands : {L : Type 0} {A E : L → Type 0} {value : (κs : L) → A κs → E κs → B} → Only (λ κs a x e. of x ≡ value κs a e)
  stands = record { same = λ κs a x y e p q. fixed x y (p ∙ sym q) }

-- ---- for this one

-- the contracts that are equations
pub equations :
    Only number.Post
    × Only stop-by-scope.Post
    × Only is-trivia.Post
    × Only is-text-component.Post
    × Only tokens.Post
    × Only syntax-kinds.Post
    × Only limits.Post
    × Only tags.Post
    × Only reasons.Post
    × Only classes.Post
    × Only forms.Post
    × Only refusals.Post
    × Only refusal-number.Post
    × Only refusal-at.Post
    × Only kind-number.Post
    × Only tag-number.Post
    × Only tag-open-after.Post
    × Only reason-number.Post
equations = (equal, equal, equal, equal, equal, equal, equal, equal, equal, equal, equal, equal, equal, equal, equal, equal, equal, equal)

abbrev pub scope : rules.Scope → ParseScope
scope rules.Root = Root
scope rules.DollarFormula = DollarFormula
scope rules.CmdFormula = CmdFormula
scope rules.Environment = Environment
scope rules.LR = LR
scope rules.CurlyItem = CurlyItem
scope rules.BracketItem = BracketItem
scope rules.ParenItem = ParenItem

pub from_scope : (p : ParseScope) → scope (scope_of p) ≡ p
from_scope Root = refl
from_scope DollarFormula = refl
from_scope CmdFormula = refl
from_scope Environment = refl
from_scope LR = refl
from_scope CurlyItem = refl
from_scope BracketItem = refl
from_scope ParenItem = refl

pub only_numbered : Only numbered.Post
only_numbered = stands scope_of scope from_scope

-- the kinds of tree rows, in order
abbrev pub kinds : List SyntaxKind
kinds =
    kind.TokenError
    ∷ kind.TokenLineBreak
    ∷ kind.TokenWhiteSpace
    ∷ kind.TokenComment
    ∷ kind.TokenLBrace
    ∷ kind.TokenRBrace
    ∷ kind.TokenLBracket
    ∷ kind.TokenRBracket
    ∷ kind.TokenLParen
    ∷ kind.TokenRParen
    ∷ kind.TokenComma
    ∷ kind.TokenTilde
    ∷ kind.TokenSlash
    ∷ kind.TokenWord
    ∷ kind.TokenDollar
    ∷ kind.TokenBeginMath
    ∷ kind.TokenEndMath
    ∷ kind.TokenAmpersand
    ∷ kind.TokenHash
    ∷ kind.TokenAsterisk
    ∷ kind.TokenAtSign
    ∷ kind.TokenUnderscore
    ∷ kind.TokenCaret
    ∷ kind.TokenApostrophe
    ∷ kind.TokenDitto
    ∷ kind.TokenSemicolon
    ∷ kind.TokenCommandSym
    ∷ kind.ClauseCommandName
    ∷ kind.ClauseArgument
    ∷ kind.ClauseLR
    ∷ kind.ItemNewLine
    ∷ kind.ItemText
    ∷ kind.ItemCurly
    ∷ kind.ItemBracket
    ∷ kind.ItemParen
    ∷ kind.ItemCmd
    ∷ kind.ItemEnv
    ∷ kind.ItemLR
    ∷ kind.ItemBegin
    ∷ kind.ItemEnd
    ∷ kind.ItemBlockComment
    ∷ kind.ItemTypstCode
    ∷ kind.ItemAttachComponent
    ∷ kind.ItemFormula
    ∷ kind.ScopeRoot
    ∷ []

-- the kind of a tree row by its number; one over 44 is none's and gives the root's
abbrev pub kind_at : ℕ → SyntaxKind
kind_at n = get_or kinds n kind.ScopeRoot

pub from_kind : (k : SyntaxKind) → kind_at (number_of k) ≡ k
from_kind kind.TokenError = refl
from_kind kind.TokenLineBreak = refl
from_kind kind.TokenWhiteSpace = refl
from_kind kind.TokenComment = refl
from_kind kind.TokenLBrace = refl
from_kind kind.TokenRBrace = refl
from_kind kind.TokenLBracket = refl
from_kind kind.TokenRBracket = refl
from_kind kind.TokenLParen = refl
from_kind kind.TokenRParen = refl
from_kind kind.TokenComma = refl
from_kind kind.TokenTilde = refl
from_kind kind.TokenSlash = refl
from_kind kind.TokenWord = refl
from_kind kind.TokenDollar = refl
from_kind kind.TokenBeginMath = refl
from_kind kind.TokenEndMath = refl
from_kind kind.TokenAmpersand = refl
from_kind kind.TokenHash = refl
from_kind kind.TokenAsterisk = refl
from_kind kind.TokenAtSign = refl
from_kind kind.TokenUnderscore = refl
from_kind kind.TokenCaret = refl
from_kind kind.TokenApostrophe = refl
from_kind kind.TokenDitto = refl
from_kind kind.TokenSemicolon = refl
from_kind kind.TokenCommandSym = refl
from_kind kind.ClauseCommandName = refl
from_kind kind.ClauseArgument = refl
from_kind kind.ClauseLR = refl
from_kind kind.ItemNewLine = refl
from_kind kind.ItemText = refl
from_kind kind.ItemCurly = refl
from_kind kind.ItemBracket = refl
from_kind kind.ItemParen = refl
from_kind kind.ItemCmd = refl
from_kind kind.ItemEnv = refl
from_kind kind.ItemLR = refl
from_kind kind.ItemBegin = refl
from_kind kind.ItemEnd = refl
from_kind kind.ItemBlockComment = refl
from_kind kind.ItemTypstCode = refl
from_kind kind.ItemAttachComponent = refl
from_kind kind.ItemFormula = refl
from_kind kind.ScopeRoot = refl

pub only_from_token : Only from-token.Post
only_from_token = stands number_of kind_at from_kind
