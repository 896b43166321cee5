-- Questions about trees and their answers, as two tables, of trees as they are written and of formulas that are read first, and over each table one
-- theorem that antt computes.
use Rattle.std.specs.Prelude.{ℕ, ◌≡◌, refl, Bool, true, false, List, [], ◌∷◌, ◌++◌, map, replicate}
use Prim.Native.String.{String}
use Rattle.rules.specs.Checks.{Tables}
use Rattle.rules.specs.Computed.{the_run, the_questions}
use Rattle.rules.specs.Flat.{leaf_row, start_row, finish_row, with_token}
use Rattle.rules.specs.Notation.{bytes, Part, ◌of◌, text_of, tokens_of, Shown, nothing, node, leaf, ◌&◌, rows_at, Root, Text, BlockComment}
use Rattle.rules.specs.Questions
use Rattle.rules.specs.Run.{run}
use Rattle.rules.specs.SyntaxKind.{ItemFormula, ItemText, ScopeRoot, TokenWord, TokenDollar, TokenBeginMath, TokenEndMath}
use Rattle.rules.specs.Token.{Dollar, Word, Underscore, LeftCurly, BeginMath, EndMath, IfFalse, EndIf}

-- whether a formula is display, inline, valid, whole
abbrev pub Formula : Type 0
Formula = Bool × Bool × Bool × Bool

abbrev pub no_formula : Formula
no_formula = (false, false, false, false)

-- whether a row is a leaf inside the text, and its text's start and size
abbrev pub Leaf : Type 0
Leaf = Bool × ℕ × ℕ

abbrev pub no_leaf : Leaf
no_leaf = (false, 0, 0)

-- a row of a tree over a text, and the answers
pub record Case : Type 0 where
  pub text : List ℕ
  pub tree : List ℕ
  pub row : ℕ
  pub formula : Formula
  pub leaf : Leaf

-- a row that is no leaf inside the text, and one that is no formula
abbrev pub formula_at : ℕ → List ℕ → String → Formula → Case
formula_at row tree text answer = record { text = bytes text; tree = tree; row = row; formula = answer; leaf = no_leaf }

abbrev pub leaf_at : ℕ → List ℕ → String → Leaf → Case
leaf_at row tree text answer = record { text = bytes text; tree = tree; row = row; formula = no_formula; leaf = answer }

-- rows, each with a fifth number that no question reads
abbrev pub joined : List (List ℕ) → List ℕ
joined [] = []
joined (row ∷ rows) = with_token 9 row ++ joined rows

-- a formula in row 1, in the root
abbrev pub in_root : Shown → List ℕ
in_root inside = joined (rows_at 0 (Root (node ItemFormula inside)))

-- rows of a formula that need not balance
abbrev pub bare : List (List ℕ) → List ℕ
bare rows = joined (start_row ItemFormula ∷ rows)

-- a row of a tag that there is not
abbrev pub odd : List ℕ
odd = 3 ∷ 0 ∷ 0 ∷ 0 ∷ []

abbrev pub dollar : String → Shown
dollar text = leaf TokenDollar text

abbrev pub begin : String → Shown
begin text = leaf TokenBeginMath text

abbrev pub end : String → Shown
end text = leaf TokenEndMath text

abbrev pub cases : List Case
cases =
    formula_at 1 (in_root (dollar "$" & Text "a" & dollar "$")) "$a$" (false, true, true, true)
    ∷ formula_at 1 (in_root (dollar "$$" & Text "a" & dollar "$$")) "$$a$$" (true, false, true, true)
    ∷ formula_at 1 (in_root (begin "\\(" & Text "a" & end "\\)")) "\\(a\\)" (false, true, true, true)
    ∷ formula_at 1 (in_root (begin "\\[" & Text "a" & end "\\]")) "\\[a\\]" (true, false, true, true)
    ∷ formula_at 1 (in_root (begin "\\[" & Text "a" & end "\\)")) "\\[a\\)" (true, false, false, false)
    -- "a lone `$` is valid", and not whole; two that stand at the same place of the text are different rows
    ∷ formula_at 1 (in_root (dollar "$")) "$" (false, true, true, false)
    ∷ formula_at 0 (bare (leaf_row TokenDollar 0 1 ∷ leaf_row TokenDollar 0 1 ∷ finish_row ItemFormula ∷ [])) "$" (false, true, true, true)
    ∷ formula_at 1 (in_root (dollar "$" & Text "a" & dollar "$$")) "$a$$" (false, true, false, false)
    -- the last child is an empty node; the first is, though a `$` follows
    ∷ formula_at 1 (in_root (dollar "$" & BlockComment nothing)) "$\\iffalse\\fi" (false, true, false, false)
    ∷ formula_at 1 (in_root (BlockComment nothing & dollar "$")) "$" no_formula
    -- between a `$` and another an empty node is a child as others are
    ∷ formula_at 1 (in_root (dollar "$" & BlockComment nothing & dollar "$")) "$$" (false, true, true, true)
    -- the tokens lie deeper: both, the first, the last. They match, and are no children of the formula
    ∷ formula_at 1 (in_root (node ItemText (node ItemText (dollar "$")) & node ItemText (dollar "$"))) "$$" (false, true, true, false)
    ∷ formula_at 1 (in_root (node ItemText (dollar "$") & dollar "$")) "$$" (false, true, true, false)
    ∷ formula_at 1 (in_root (dollar "$" & node ItemText (dollar "$"))) "$$" (false, true, true, false)
    -- a formula with nothing in it
    ∷ formula_at 1 (in_root nothing) "" no_formula
    -- a start of another kind; a leaf; a finish; no row
    ∷ formula_at 0 (in_root (dollar "$")) "$" no_formula
    ∷ leaf_at 2 (in_root (dollar "$")) "$" (true, 0, 1)
    ∷ formula_at 3 (in_root (dollar "$")) "$" no_formula
    ∷ formula_at 5 (in_root (dollar "$")) "$" no_formula
    -- a finish of another kind matches
    ∷ formula_at 0 (bare (leaf_row TokenDollar 0 1 ∷ leaf_row TokenDollar 1 1 ∷ finish_row ScopeRoot ∷ [])) "$$" (false, true, true, true)
    -- no finish matches; four numbers of one are no row
    ∷ formula_at 0 (bare (leaf_row TokenDollar 0 1 ∷ start_row ItemText ∷ finish_row ItemText ∷ [])) "$" no_formula
    ∷ formula_at 0 (bare (leaf_row TokenDollar 0 1 ∷ []) ++ finish_row ItemFormula) "$" no_formula
    -- a tag over 2 before the finish, and one behind it
    ∷ formula_at 0 (bare (leaf_row TokenDollar 0 1 ∷ odd ∷ finish_row ItemFormula ∷ [])) "$" no_formula
    ∷ formula_at 0 (bare (leaf_row TokenDollar 0 1 ∷ finish_row ItemFormula ∷ odd ∷ [])) "$" (false, true, true, false)
    -- the last token lies outside the text, it begins inside and ends outside, and the first lies outside
    ∷ formula_at 0 (bare (leaf_row TokenDollar 0 1 ∷ leaf_row TokenDollar 1 1 ∷ finish_row ItemFormula ∷ [])) "$" (false, true, false, false)
    ∷ formula_at 0 (bare (leaf_row TokenDollar 0 1 ∷ leaf_row TokenDollar 1 2 ∷ finish_row ItemFormula ∷ [])) "$$" (false, true, false, false)
    ∷ formula_at 0 (bare (leaf_row TokenDollar 1 1 ∷ leaf_row TokenDollar 0 1 ∷ finish_row ItemFormula ∷ [])) "$" no_formula
    -- a leaf that ends with the text, one that ends a byte later, and one of no bytes at the text's end
    ∷ leaf_at 0 (joined (leaf_row TokenWord 1 1 ∷ [])) "ab" (true, 1, 1)
    ∷ leaf_at 0 (joined (leaf_row TokenWord 1 2 ∷ [])) "ab" no_leaf
    ∷ leaf_at 0 (joined (leaf_row TokenWord 2 0 ∷ [])) "ab" (true, 2, 0)
    -- start and length that pass 32 bits together
    ∷ leaf_at 0 (joined (leaf_row TokenWord 1 0xFFFF_FFFF ∷ [])) "ab" no_leaf
    ∷ []

-- what is asked of a row, and what is expected
abbrev pub asked : Case → Formula × Leaf
asked c =
    let display = Questions.is_display c.text c.tree c.row in
    let inline = Questions.is_inline c.text c.tree c.row in
    let valid = Questions.is_valid c.text c.tree c.row in
    let whole = Questions.is_whole c.text c.tree c.row in
    let inside = Questions.is_leaf c.text c.tree c.row in
    let range = Questions.leaf_range c.text c.tree c.row in
    ((display, inline, valid, whole), (inside, range.start, range.size))

abbrev pub wanted : Case → Formula × Leaf
wanted c = (c.formula, c.leaf)

pub examples : map asked cases ≡ map wanted cases
unfolding the_questions
examples = refl

-- ---- formulas that are read first

-- a formula, and whether it is valid and whole
pub record Read : Type 0 where
  pub formula : List Part
  pub valid : Bool
  pub whole : Bool

abbrev pub readings : List Read
readings =
    -- `$a$`: Formula[$ Text[a] $]
    record { formula = Dollar of "$" ∷ Word of "a" ∷ Dollar of "$" ∷ []; valid = true; whole = true }
    -- `$`: Formula[$], one token for both ends
    ∷ record { formula = Dollar of "$" ∷ []; valid = true; whole = false }
    -- `$a_$`: Formula[$ Attach[Arg[Text[a]] _ Formula[$]]], the script reads the closing `$` as a formula of its own
    ∷ record { formula = Dollar of "$" ∷ Word of "a" ∷ Underscore of "_" ∷ Dollar of "$" ∷ []; valid = true; whole = false }
    -- `${a$`: Formula[$ Curly[{ Text[a] Formula[$]]], inside a brace that is left open
    ∷ record { formula = Dollar of "$" ∷ LeftCurly of "{" ∷ Word of "a" ∷ Dollar of "$" ∷ []; valid = true; whole = false }
    -- `\(\iffalse\)\fi`: Formula[\( BlockComment[\)]], the closer is skipped
    ∷ record { formula = BeginMath of "\\(" ∷ IfFalse of "\\iffalse" ∷ EndMath of "\\)" ∷ EndIf of "\\fi" ∷ []; valid = true; whole = false }
    -- `$\iffalse\fi$`: Formula[$ BlockComment[] $]
    ∷ record { formula = Dollar of "$" ∷ IfFalse of "\\iffalse" ∷ EndIf of "\\fi" ∷ Dollar of "$" ∷ []; valid = true; whole = true }
    ∷ []

-- the tree rows of a formula without shapes, in room enough
abbrev pub tree_of : List Part → List ℕ
tree_of formula =
    let tables : Tables = record { text = text_of formula; tokens = tokens_of formula; shapes = []; states = [] } in
    (run tables (replicate 100 0) (replicate 12 0)).tree

-- the formula's node is the root's first child
abbrev pub asked_of : Read → Bool × Bool
asked_of r =
    let text = text_of r.formula in
    let tree = tree_of r.formula in
    (Questions.is_valid text tree 1, Questions.is_whole text tree 1)

abbrev pub wanted_of : Read → Bool × Bool
wanted_of r = (r.valid, r.whole)

pub read-examples : map asked_of readings ≡ map wanted_of readings
unfolding the_run the_questions
read-examples = refl
