-- A wrap by the reading rules over the flat builder is a wrap of its rows alone. Assumes nothing.
use mathlib.Core.Path.{◌≡◌, refl, ◌∙◌}
use Prim.Native.Nat.{ℕ}
use Rattle.rules.specs.Outcome.{Out, went, refused, bind}
use Rattle.rules.specs.SyntaxKind.{ClauseArgument}
use Rattle.rules.specs.Flat as rows
use Rattle.rules.specs.Flat.{Rows, Mark, on_tree, flat}
use Rattle.rules.specs.Position.{At, place, with_built, building, wrap}

module _ (n : ℕ) where
  -- the same position with other rows
  abbrev with_rows : At (flat n) → Rows → At (flat n)
  with_rows q x = with_built (flat n) q (record { tree = x; dropped = q.built.dropped })

  -- an outcome of the rows, at a position
  abbrev pub at_rows : At (flat n) → Out Rows → Out (At (flat n))
  at_rows q o = building (flat n) q (on_tree q.built o)

  -- it is the same at a position that differs in its rows alone
  same_rest : (q : At (flat n)) (x : Rows) (o : Out Rows) → at_rows (with_rows q x) o ≡ at_rows q o
  same_rest q x (went y) = refl
  same_rest q x (refused number at) = refl

  -- an operation of the rows and then a step that is one too
  then_rows : (q : At (flat n)) (o : Out Rows) (f : Rows → Out Rows) (F : At (flat n) → Out (At (flat n)))
      → ((x : Rows) → F (with_rows q x) ≡ at_rows q (f x))
      → bind (at_rows q o) F ≡ at_rows q (bind o f)
  then_rows q (went x) f F h = h x
  then_rows q (refused number at) f F h = refl

  pub wrap-rows : (kind : ℕ) (m : Mark) (q : At (flat n)) → wrap (flat n) kind m q ≡ at_rows q (rows.wrap n (place (flat n) q) kind m q.built.tree)
  unfolding wrap rows.wrap
  wrap-rows kind m q =
      let at = place (flat n) q in
      let opens : Rows → Out Rows = λ outer. rows.start_at n at ClauseArgument m outer in
      let ends : Rows → Rows → Out Rows = λ outer inner. rows.finish n at ClauseArgument (rows.frame_of outer) inner in
      then_rows q (rows.start_at n at kind m q.built.tree) _ _ (λ outer.
      then_rows (with_rows q outer) (opens outer) _ _ (λ inner. same_rest (with_rows q outer) inner (ends outer inner))
      ∙ same_rest q outer (bind (opens outer) (ends outer)))
