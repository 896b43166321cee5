-- A token is dropped: its row stands behind those that were there, and nothing of the token is left to read. Assumes nothing.
use Rattle.std.specs.Prelude.{Ok}
use mathlib.Core.Path.{◌≡◌, refl}
use mathlib.Core.List.{List}
use Prim.Native.Nat.{ℕ, ◌<◌}
use native.Mathlib.Omega.{arith}
use lib.ListN.{length, length-append, length-take, length-drop}
use Rattle.rules.specs.Limits.{dropped_width}
use Rattle.rules.specs.Outcome.{went}
use Rattle.rules.specs.Flat.{flat, dropped_row}
use Rattle.rules.specs.Checks.{Tables, source_of}
use Rattle.rules.specs.Routines.{drop_next}
use Rattle.rules.specs.Tables.{token_count}
use Rattle.lexer.proofs.Laws.{eaten-fine, left-eaten}
use Rattle.builder.proofs.Numbers.{one_more, the_rest}
use Rattle.state.specs.Stands.{Buffers, pos_of}
use Rattle.state.specs.Contract.{Ready, Left, buffers}
use Rattle.skipped.specs.Body.{RowFree, Dropped, dropping}
use Rattle.state.specs.declared.Parser.{Parser}
use Rattle.state.proofs.Left.{remains}
use Rattle.state.proofs.Walk.{Call, passing}

-- there is room for its row
pub row_free : {t : Tables} {p : Parser} {m : Buffers} → Ready t p m → p.lexer.token < token_count t.tokens → RowFree p m.dropped
row_free ready there =
    let s = ready.steady in
    let few = s.good.few in
    let light = s.light in
    let dropped = s.dropped in
    let notes = s.notes in
    record { room = omega arith; token = omega arith; leaves = omega arith }

module _ {t : Tables} {reason : ℕ} {p q : Parser} {tree notes after : List ℕ} (done : Dropped reason p notes q after)
    (ready : Ready t p (buffers tree notes)) (there : p.lexer.token < token_count t.tokens) where
  dropped-is : (n : ℕ) → drop_next (flat n) (source_of t) reason (pos_of p (buffers tree notes)) ≡ went (pos_of q (buffers tree after))
  unfolding drop_next
  dropped-is n = rw (done.is, one_more dropped_width p.dropped notes after _ refl (row_free ready there).room done.row)

  dropped-left : Left t 1 p (buffers tree notes) (dropping p) (buffers tree after)
  dropped-left =
      let s = ready.steady in
      let less = left-eaten s.fine there in
      let few = s.dropped in
      let room = (row_free ready there).room in
      let long : length after ≡ length notes = rw done.row (simp (length-append, length-take, length-drop) (omega arith)) in
      let row = dropped_row p.lexer.token reason p.builder.leaves in
      let rest = the_rest dropped_width p.dropped notes after row refl room done.row in
      remains ready (passing refl rest refl long (omega arith)) (eaten-fine s.fine) (omega arith) (omega arith) s.fits refl refl refl refl

-- the step of a walk
pub drops : {t : Tables} {reason : ℕ} {p q : Parser} {tree notes after : List ℕ} {lift : ℕ} → Dropped reason p notes q after
    → p.lexer.token < token_count t.tokens
    → Call t (λ n d. drop_next (flat n) (source_of t) reason) lift (λ u. Left t 1 p (buffers tree notes) u (buffers tree after))
    p (buffers tree notes) (Ok q) (buffers tree after)
drops {tree = tree} done there = record {
  is = λ ready d h. dropped-is done ready there (length tree);
  gone = λ ready. rw done.is (dropped-left done ready there);
}
