-- The contracts fix the results and every number of the lent buffers (crates/syntax/proofs/Only.antt). What an operation's answer stands for leads
-- back to its numbers and to the buffer's rows; behind the rows the buffer is as it was, and a refused one changes nothing. Assumes nothing.
use Prim.Native.Nat.{ℕ, ◌*◌}
use mathlib.Core.List.{List, [], ◌++◌}
use Rattle.std.specs.Prelude.{Ok, Err}
use mathlib.Core.Path.{◌≡◌, refl, sym, ap, ap₂, ◌∙◌}
use native.Mathlib.Omega.{arith}
use lib.ListN.{take, drop, take-append-drop}
use Rattle.rules.specs.Flat.{Rows}
use Rattle.rules.specs.Limits.{tree_width}
use Rattle.rules.specs.Outcome.{Out}
use Rattle.syntax.proofs.Only.{Only, equal, stands}
use Rattle.builder.specs.Contract.{Did, Leaves}
use Rattle.syntax.specs.declared.refusal.Refused.{Refused}
use Rattle.builder.specs.Stands.{Built, rows_of, out_of}
use Rattle.builder.specs.declared.GreenNodeBuilder.{GreenNodeBuilder}
use Rattle.builder.proofs.dropped.drop_token.Reads as drop_token
use Rattle.builder.proofs.GreenNodeBuilder.checkpoint.Reads as checkpoint
use Rattle.builder.proofs.GreenNodeBuilder.finish_node.Reads as finish-node
use Rattle.builder.proofs.GreenNodeBuilder.frame.Reads as frame
use Rattle.builder.proofs.GreenNodeBuilder.new.Reads as new
use Rattle.builder.proofs.GreenNodeBuilder.start_node.Reads as start-node
use Rattle.builder.proofs.GreenNodeBuilder.token.Reads as token
use Rattle.builder.proofs.GreenNodeBuilder.wrap.Reads as wrap

pub equations : Only checkpoint.Post × Only frame.Post
equations = (equal, equal)

-- rows of the rules lead back to the code's numbers
abbrev numbers : Rows → GreenNodeBuilder
numbers b =
    record {
      rows = b.rows;
      leaves = b.leaves;
      depth = b.depth;
      children = b.children;
      first = b.first;
      node = b.node;
    }

pub only_new : Only new.Post
only_new = stands (λ b. rows_of b []) numbers (λ b. refl)

-- ---- a result, and what a lent buffer holds at the exit

pub record OnlyLent {L : Type 0} {A R E : L → Type 0} (left : (κs : L) → E κs → List ℕ) (post : (κs : L) → A κs → R κs → E κs → Type 0) : Type 0 where
  pub same : (κs : L) (a : A κs) (x y : R κs) (e f : E κs) → post κs a x e → post κs a y f → (x ≡ y) × (left κs e ≡ left κs f)

-- two answers that stand for the same, with what they leave of the same buffer
same-built : (r s : Built) (t v w : List ℕ) → out_of r v ≡ out_of s w → Leaves r t v → Leaves s t w → (r ≡ s) × (v ≡ w)
same-built (Ok b) (Ok c) t v w e left-v left-w =
    let rows : rows_of b v ≡ rows_of c w = cc in
    let one : b ≡ c = ap numbers rows in
    let front : take (b.rows * tree_width) v ≡ take (c.rows * tree_width) w = ap (λ (x : Rows). x.tree) rows in
    let behind : drop (b.rows * tree_width) v ≡ drop (c.rows * tree_width) w = left-v ∙ rw one (sym left-w) in
    let whole = take-append-drop (b.rows * tree_width) v in
    let whole' = take-append-drop (c.rows * tree_width) w in
    (ap Ok one, sym whole ∙ ap₂ (λ (x y : List ℕ). x ++ y) front behind ∙ whole')
same-built (Ok b) (Err x) t v w e left-v left-w = let z : ◌≡◌ {A = ℕ} 0 1 = cc in absurd (omega arith)
same-built (Err x) (Ok c) t v w e left-v left-w = let z : ◌≡◌ {A = ℕ} 0 1 = cc in absurd (omega arith)
same-built (Err x) (Err y) t v w e left-v left-w =
    let number : x.number ≡ y.number = cc in
    let place : x.place ≡ y.place = cc in
    (ap Err (ap₂ at number place), left-v ∙ sym left-w)
  where
    at : ℕ → ℕ → Refused
    at number place = record { number = number; place = place }

did : {want : ℕ → Out Rows} {t v w : List ℕ} {r s : Built} → Did want t r v → Did want t s w → (r ≡ s) × (v ≡ w)
did {r = r} {s = s} k l = same-built r s _ _ _ (sym k.is ∙ l.is) k.rest l.rest

pub only_token : OnlyLent (λ κs e. e.1.0.now) token.Post
only_token = record { same = λ κs a x y e f. did }

pub only_start_node : OnlyLent (λ κs e. e.1.0.now) start-node.Post
only_start_node = record { same = λ κs a x y e f. did }

pub only_finish_node : OnlyLent (λ κs e. e.1.0.now) finish-node.Post
only_finish_node = record { same = λ κs a x y e f. did }

pub only_wrap : OnlyLent (λ κs e. e.1.0.now) wrap.Post
only_wrap = record { same = λ κs a x y e f. did }

pub only_drop_token : OnlyLent (λ κs e. e.0.now) drop_token.Post
only_drop_token = record { same = λ κs a x y e f p q. (refl, p ∙ sym q) }
