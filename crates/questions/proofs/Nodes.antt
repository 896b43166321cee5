-- In rows that a tree is laid out in, a row that starts a node is the first row of one of the tree's nodes. By induction over the tree: the row is
-- the node's own, or it lies in a child's rows; a leaf's row and a finish have other tags. Assumes nothing.
use Prim.Native.Nat.{ℕ, zero, suc, ◌+◌, ◌-◌, ◌<◌}
use mathlib.Core.Bool.{cond}
use mathlib.Core.List.{List}
use Rattle.std.specs.Prelude.{Option, None as none, Some as some}
use mathlib.Core.Path.{◌≡◌, sym, ◌∙◌}
use borrow.Author.Tests.{ltb-true, ltb-false}
use native.Mathlib.Nat.{zero-add}
use native.Mathlib.Omega.{arith}
use lib.Dec.{ltb}
use Rattle.rules.specs.Flat.{tag_start}
use Rattle.rules.specs.Questions.{tag_at, kind_at}
use Rattle.rules.specs.SyntaxKind.{ItemFormula}
use Rattle.rules.specs.Tree.{Tree, Forest, leaf, node, more, layout, layouts}
use Rattle.rules.proofs.Characters.{either}
use Rattle.questions.proofs.OnTrees.{Stands, size, sizes, number, tag_there, node_rows, split, Answers, answers}

unfoldable mutual
  -- the tree that begins in this row of another's, counted from the other's first. In Root[Curly[{ a]] the leaf `{` begins in row 2
  pub begins : Tree → ℕ → Option Tree
  begins (leaf l) zero = some (leaf l)
  begins (leaf l) (suc row) = none
  begins (node kind from to children) zero = some (node kind from to children)
  begins (node kind from to children) (suc row) = begins_in children row

  pub begins_in : Forest → ℕ → Option Tree
  begins_in Forest.none row = none
  begins_in (more child rest) row = cond (ltb row (size child)) (begins child row) (begins_in rest (row - size child))

-- a node of this kind begins there, and its rows stand there
pub record Begun (tree : List ℕ) (at kind : ℕ) (found : Option Tree) : Type 0 where
  pub from : ℕ
  pub to : ℕ
  pub children : Forest
  pub is : found ≡ some (node kind from to children)
  pub stands : Stands tree at (layout (node kind from to children))

-- a row that starts a node of this kind
pub record Starts (tree : List ℕ) (row kind : ℕ) : Type 0 where
  pub tag : tag_at tree row ≡ tag_start
  pub kind_is : kind_at tree row ≡ kind

module _ (tree : List ℕ) where
  mutual
    unfolding begins begins_in layout layouts size sizes

    pub begun_tree : (t : Tree) (at row : ℕ) {kind : ℕ} → Stands tree at (layout t) → row < size t → Starts tree (at + row) kind
        → Begun tree (at + row) kind (begins t row)
    begun_tree (leaf l) at zero s small starts =
        let here : at + 0 ≡ at = omega arith in
        absurd (omega (arith, tag_there s, (rw here at starts).tag))
    begun_tree (leaf l) at (suc row) s small starts = absurd (omega arith)
    begun_tree (node own from to children) at zero {kind} s small starts =
        let here : at + 0 ≡ at = omega arith in
        let own_is : own ≡ kind = sym (number (node_rows own from to children s).start 1) ∙ (rw here at starts).kind_is in
        record { from = from; to = to; children = children; is = rw own_is; stands = rw (here, ← own_is) s }
    begun_tree (node own from to children) at (suc row) s small starts =
        let rows = node_rows own from to children s in
        let here : at + suc row ≡ at + 1 + row = omega arith in
        either (ltb row (sizes children))
        (λ inside. rw here (begun_forest children (at + 1) row rows.inside (ltb-true row (sizes children) inside) (rw here at starts)))
        (λ behind.
        let over = ltb-false row (sizes children) behind in
        let last : at + suc row ≡ at + 1 + sizes children = omega arith in
        absurd (omega (arith, tag_there rows.finish, (rw last at starts).tag)))

    begun_forest : (f : Forest) (at row : ℕ) {kind : ℕ} → Stands tree at (layouts f) → row < sizes f → Starts tree (at + row) kind
        → Begun tree (at + row) kind (begins_in f row)
    begun_forest Forest.none at row s small starts = absurd (omega arith)
    begun_forest (more child rest) at row s small starts =
        let parts = split child rest s in
        either (ltb row (size child))
        (λ first. rw first (begun_tree child at row parts.first (ltb-true row (size child) first) starts))
        (λ later.
        let over = ltb-false row (size child) later in
        let here : at + row ≡ at + size child + (row - size child) = omega arith in
        rw (later, here) (begun_forest rest (at + size child) (row - size child) parts.others (omega arith) (rw here at starts)))

-- a row that starts a formula, of a tree's own rows: the node that begins there, and the questions' answers about it
pub record FormulaOf (text tree : List ℕ) (row : ℕ) (t : Tree) : Type 0 where
  pub from : ℕ
  pub to : ℕ
  pub children : Forest
  pub begins-there : begins t row ≡ some (node ItemFormula from to children)
  pub answers : Answers text tree row (node ItemFormula from to children)

pub formula-of : (text tree : List ℕ) (t : Tree) (row : ℕ) → Stands tree 0 (layout t) → row < size t → Starts tree row ItemFormula
    → FormulaOf text tree row t
formula-of text tree t row s small starts =
    let found = begun_tree tree t 0 row {kind = ItemFormula} s small (rw (zero-add row) starts) in
    record {
      from = found.from;
      to = found.to;
      children = found.children;
      begins-there = found.is;
      answers = answers text tree row found.from found.to found.children (rw (zero-add row) at found.stands);
    }
