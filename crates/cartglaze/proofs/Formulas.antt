-- The questions on the rows of an accepted run, for a client of the run: a row that starts a formula is the first row of a node of the run's tree,
-- and the questions have the answers that the source has of that node, the strict one 02's. The rows are the tree's layout, so they are as many as it
-- takes. Assumes nothing.
use Prim.Native.Nat.{ℕ, ◌*◌, ◌<◌}
use mathlib.Core.List.{List, ◌++◌}
use mathlib.Core.Path.{◌≡◌, sym, ap, ◌∙◌}
use native.Mathlib.Omega.{arith}
use lib.ListN.{drop, take-append-drop}
use Rattle.rules.specs.Checks.{Tables}
use Rattle.rules.specs.Exactly.{RanExactly}
use Rattle.rules.specs.Limits.{tree_width}
use Rattle.rules.specs.Run.{Ran}
use Rattle.rules.specs.SyntaxKind.{ItemFormula}
use Rattle.rules.specs.Tree.{Tree, layout}
use Rattle.questions.proofs.Nodes.{Starts, FormulaOf, formula-of}
use Rattle.questions.proofs.OnTrees.{Stands, size, length_layout}
use Rattle.cartglaze.proofs.NothingLost.{Met, dropped-exactly}

module _ {t : Tables} {room rows count : ℕ} {r : Ran} (ran : RanExactly t room rows count r) where
  as_many : rows ≡ size ran.tree
  as_many = omega (arith, ran.size, length_layout ran.tree)

  stands : Stands r.tree 0 (layout ran.tree)
  stands =
      let rest = drop (rows * tree_width) r.tree in
      record { rest = rest; is = sym (take-append-drop (rows * tree_width) r.tree) ∙ ap (λ (l : List ℕ). l ++ rest) ran.laid }

module _ (t : Tables) (tree dropped : List ℕ) {rows drops : ℕ} {v w : List ℕ} (met : Met t tree dropped rows drops v w) where
  -- the tree of the run: the one whose layout the rows are, and of which demand 3's list is read off
  abbrev pub tree_of : Tree
  tree_of = (dropped-exactly t tree dropped met).tree

  pub formula-of_run : (row : ℕ) → row < rows → Starts v row ItemFormula → FormulaOf t.text v row tree_of
  formula-of_run row small starts =
      let ran = dropped-exactly t tree dropped met in
      formula-of t.text v ran.tree row (stands ran) (rw (as_many ran) at small) starts
