-- What a caller lives on of an operation that went: read off the rule that its contract cites. Assumes nothing.
use Rattle.std.specs.Prelude.{Ok}
use mathlib.Core.Path.{◌≡◌, refl, sym, ap}
use mathlib.Core.List.{List}
use Prim.Native.Nat.{ℕ, ◌+◌, ◌*◌, ◌≤◌, ◌<◌}
use native.Mathlib.Omega.{arith}
use lib.ListN.{length, drop}
use borrow.Author.Tests.{eqb-true}
use lib.Dec.{eqb}
use mathlib.Core.Bool.{Bool, true, false, cond}
use Rattle.rules.specs.Builder.{Leaf}
use Rattle.rules.specs.Limits.{tree_width, nodes}
use Rattle.rules.specs.Outcome.{Out, went}
use Rattle.rules.specs.Flat as flat
use Rattle.rules.proofs.Flat.{leaf-went, start-went, finish-went, wrap-went}
use Rattle.builder.specs.Stands.{Built, rows_of, mark_of}
use Rattle.builder.specs.Contract.{Fits, Within, Inside, Did}
use Rattle.builder.specs.declared.Checkpoint.{Checkpoint}
use Rattle.builder.specs.declared.GreenNodeBuilder.{GreenNodeBuilder}

-- a leaf was written
pub record Leafs (b : GreenNodeBuilder) (t : List ℕ) (u : GreenNodeBuilder) (v : List ℕ) : Type 0 where
  pub rest : drop (u.rows * tree_width) v ≡ drop (u.rows * tree_width) t
  pub fits : Fits u v
  pub rows : b.rows < u.rows
  pub leaves : u.leaves ≡ b.leaves + 1
  pub depth : u.depth ≡ b.depth
  pub first : u.first ≡ b.first
  pub node : u.node ≡ b.node

-- a node was opened, here or at a mark
pub record Opens (b : GreenNodeBuilder) (t : List ℕ) (u : GreenNodeBuilder) (v : List ℕ) : Type 0 where
  pub rest : drop (u.rows * tree_width) v ≡ drop (u.rows * tree_width) t
  pub fits : Fits u v
  pub within : Within u
  pub rows : b.rows < u.rows
  pub leaves : u.leaves ≡ b.leaves
  pub few : b.depth < nodes
  pub depth : u.depth ≡ b.depth + 1

-- the innermost open node was closed
pub record Closes (b : GreenNodeBuilder) (t : List ℕ) (f : flat.Frame) (u : GreenNodeBuilder) (v : List ℕ) : Type 0 where
  pub rest : drop (u.rows * tree_width) v ≡ drop (u.rows * tree_width) t
  pub fits : Fits u v
  pub rows : b.rows < u.rows
  pub leaves : u.leaves ≡ b.leaves
  pub depth : u.depth + 1 ≡ b.depth
  pub first : u.first ≡ f.first
  pub node : u.node ≡ f.node

-- what an answer that went stands for
went_is : {want : ℕ → Out flat.Rows} {t v : List ℕ} {r : Built} {u : GreenNodeBuilder} → Did want t r v → r ≡ Ok u
    → (want (length t) ≡ went (rows_of u v)) × (drop (u.rows * tree_width) v ≡ drop (u.rows * tree_width) t)
went_is k e = (rw e at k.is, rw e at k.rest)

-- its numbers are those of the rows that it stands for
record Numbers (x : flat.Rows) (u : GreenNodeBuilder) : Type 0 where
  rows : x.rows ≡ u.rows
  leaves : x.leaves ≡ u.leaves
  depth : x.depth ≡ u.depth
  children : x.children ≡ u.children
  first : x.first ≡ u.first
  node : x.node ≡ u.node

numbers : {x : flat.Rows} {u : GreenNodeBuilder} (v : List ℕ) → x ≡ rows_of u v → Numbers x u
numbers v e =
    record {
      rows = ap (λ (x : flat.Rows). x.rows) e;
      leaves = ap (λ (x : flat.Rows). x.leaves) e;
      depth = ap (λ (x : flat.Rows). x.depth) e;
      children = ap (λ (x : flat.Rows). x.children) e;
      first = ap (λ (x : flat.Rows). x.first) e;
      node = ap (λ (x : flat.Rows). x.node) e;
    }

-- where a wrap's node starts: not before its mark's count, and not behind the rows
start-row : (m : Checkpoint) (b : GreenNodeBuilder) (t : List ℕ) → Within b → Inside m b → b.first ≤ m.children
    → (m.children ≤ flat.start_at_row (mark_of m) (rows_of b t)) × (flat.start_at_row (mark_of m) (rows_of b t) ≤ b.rows)
unfolding flat.start_at_row
start-row m b t within inside le = by_test (eqb m.children b.first) refl
  where
    row : Bool → ℕ
    row test = cond test (b.node + 1) m.row

    by_test : (test : Bool) → eqb m.children b.first ≡ test → (m.children ≤ row test) × (row test ≤ b.rows)
    by_test true e = let same = eqb-true m.children b.first e in (omega arith, omega arith)
    by_test false e = (inside.children, inside.row)

module _ {b u : GreenNodeBuilder} {t v : List ℕ} {r : Built} (fits : Fits b t) (e : r ≡ Ok u) (long : length v ≡ length t) (place : ℕ) where
  pub leafs : (l : Leaf) → Did (λ n. flat.leaf n place l (rows_of b t)) t r v → Leafs b t u v
  unfolding flat.leafed
  leafs l k =
      let is = went_is k e in
      let went = leaf-went (length t) place (rows_of b t) (rows_of u v) l is.0 in
      let n = numbers v went.1 in
      record {
        rest = is.1;
        fits = record { room = omega arith; leaves = omega arith; children = omega arith };
        rows = omega arith;
        leaves = omega arith;
        depth = sym n.depth;
        first = sym n.first;
        node = sym n.node;
      }

  pub starts : (kind : ℕ) → Did (λ n. flat.start n place kind (rows_of b t)) t r v → Opens b t u v
  unfolding flat.started
  starts kind k =
      let is = went_is k e in
      let went = start-went (length t) place (rows_of b t) (rows_of u v) kind is.0 in
      let n = numbers v went.2 in
      record {
        rest = is.1;
        fits = record { room = omega arith; leaves = omega arith; children = omega arith };
        within = record { depth = omega arith; first = omega arith; node = omega arith };
        rows = omega arith;
        leaves = omega arith;
        few = went.0;
        depth = omega arith;
      }

  module _ (within : Within b) where
    pub finishes : (kind : ℕ) (f : flat.Frame) → Did (λ n. flat.finish n place kind f (rows_of b t)) t r v → Closes b t f u v
    unfolding flat.finished
    finishes kind f k =
        let is = went_is k e in
        let went = finish-went (length t) place (rows_of b t) (rows_of u v) kind f is.0 in
        let n = numbers v went.1 in
        record {
          rest = is.1;
          fits = record { room = omega arith; leaves = omega arith; children = omega arith };
          rows = omega arith;
          leaves = omega arith;
          depth = omega arith;
          first = sym n.first;
          node = sym n.node;
        }

    pub wraps : (kind : ℕ) (m : Checkpoint) → Inside m b → Did (λ n. flat.wrap n place kind (mark_of m) (rows_of b t)) t r v → Opens b t u v
    unfolding flat.started_at flat.finished
    wraps kind m inside k =
        let is = went_is k e in
        let went = wrap-went (length t) place (rows_of b t) (rows_of u v) kind (mark_of m) is.0 in
        let n = numbers v went.3 in
        let row = start-row m b t within inside went.0 in
        record {
          rest = is.1;
          fits = record { room = omega arith; leaves = omega arith; children = omega arith };
          within = record { depth = omega arith; first = omega arith; node = omega arith };
          rows = omega arith;
          leaves = omega arith;
          few = omega arith;
          depth = omega arith;
        }
