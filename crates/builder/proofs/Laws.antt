-- What each operation leaves meets its contract: the rule goes as the code found its tests, and the rows are as they were written. The laws are over
-- plain values: each function's proof cites one of them where it returns. Assumes nothing.
use Rattle.std.specs.Prelude.{Ok}
use mathlib.Core.Path.{◌≡◌, refl, sym, ap, ◌∙◌}
use mathlib.Core.List.{List, [], ◌++◌}
use Prim.Native.Nat.{ℕ, ◌+◌, ◌*◌, ◌-◌, ◌/◌, ◌≤◌, ◌<◌}
use native.Mathlib.Nat.{add-zero}
use native.Mathlib.Omega.{arith}
use lib.ListN.{length, take, drop}
use lib.Seq.{drop-drop}
use borrow.Author.Tests.{eq-eqb, ne_eqb}
use borrow.Rule.Slice.PartMut.{put_mid}
use Rattle.rules.specs.Builder.{Leaf}
use Rattle.rules.specs.Limits.{tree_width, nodes}
use Rattle.rules.specs.Outcome.{went}
use Rattle.rules.specs.SyntaxKind.{ClauseArgument}
use Rattle.rules.specs.Flat as flat
use Rattle.rules.proofs.Flat.{leaf-goes, start-goes, finish-goes, wrap_opened, wrap_ended, wrap-finish}
use Rattle.builder.specs.Stands.{rows_of, mark_of}
use Rattle.builder.specs.Contract.{Allowed, Did, StartRow, in_front, start_rows, written}
use Rattle.builder.specs.declared.Checkpoint.{Checkpoint}
use Rattle.builder.specs.declared.GreenNodeBuilder.{GreenNodeBuilder}
use Rattle.builder.proofs.Numbers.{one_more, the_rest, Wide, all_in, in_front_lem, lent, moved_down}

-- ---- a row behind the others

module _ (b : GreenNodeBuilder) (t v : List ℕ) (free : b.rows < length t / tree_width) where
  -- `row` was written behind b's rows
  abbrev Behind : List ℕ → Type 0
  Behind row = v ≡ written tree_width b.rows row t

  -- so the rule's rows are the buffer's, and behind them all is as it was
  module _ (row : List ℕ) (wide : length row ≡ tree_width) (e : Behind row) where
    rows_are : take (b.rows * tree_width) t ++ row ≡ take ((b.rows + 1) * tree_width) v
    rows_are = one_more tree_width b.rows t v row wide (omega arith) e

    rest_is : drop ((b.rows + 1) * tree_width) v ≡ drop ((b.rows + 1) * tree_width) t
    rest_is = the_rest tree_width b.rows t v row wide (omega arith) e

  abbrev with_leaf : GreenNodeBuilder
  with_leaf =
      record {
        rows = b.rows + 1;
        leaves = b.leaves + 1;
        depth = b.depth;
        children = b.children + 1;
        first = b.first;
        node = b.node;
      }

  pub leafed : (place : ℕ) (l : Leaf) → Behind (flat.row_of l) → Did (λ n. flat.leaf n place l (rows_of b t)) t (Ok with_leaf) v
  unfolding flat.leafed
  leafed place l e =
      let row = flat.row_of l in
      record { is = rw (leaf-goes (length t) place (rows_of b t) free l, rows_are row refl e); rest = rest_is row refl e }

  abbrev with_start : GreenNodeBuilder
  with_start =
      record {
        rows = b.rows + 1;
        leaves = b.leaves;
        depth = b.depth + 1;
        children = b.children;
        first = b.children;
        node = b.rows;
      }

  pub started :
      (place kind : ℕ)
      → b.depth < nodes
      → Behind (flat.with_token place (flat.start_row kind))
      → Did (λ n. flat.start n place kind (rows_of b t)) t (Ok with_start) v
  unfolding flat.started
  started place kind few e =
      let row = flat.with_token place (flat.start_row kind) in
      record { is = rw (start-goes (length t) place (rows_of b t) free kind few, rows_are row refl e); rest = rest_is row refl e }

  abbrev with_finish : flat.Frame → GreenNodeBuilder
  with_finish f =
      record {
        rows = b.rows + 1;
        leaves = b.leaves;
        depth = b.depth - 1;
        children = b.first + 1;
        first = f.first;
        node = f.node;
      }

  pub finished :
      (place kind : ℕ) (f : flat.Frame)
      → Behind (flat.with_token place (flat.finish_row kind))
      → Did (λ n. flat.finish n place kind f (rows_of b t)) t (Ok (with_finish f)) v
  unfolding flat.finished
  finished place kind f e =
      let row = flat.with_token place (flat.finish_row kind) in
      record { is = rw (finish-goes (length t) place (rows_of b t) free kind f, rows_are row refl e); rest = rest_is row refl e }

-- ---- a node that begins at a mark

module _ (b : GreenNodeBuilder) (t : List ℕ) (m : Checkpoint) where
  pub at_first : m.children ≡ b.first → b.node < b.rows → StartRow b t m (b.node + 1)
  unfolding flat.start_at_row
  at_first e high = record { is = rw (eq-eqb m.children b.first e); high = omega arith }

  pub at_mark : (m.children ≡ b.first → ⊥) → m.row ≤ b.rows → StartRow b t m m.row
  unfolding flat.start_at_row
  at_mark e high = record { is = rw (ne_eqb m.children b.first e); high = high }

-- ---- a wrap that nothing refuses

-- what two lists share behind a place, they share behind a later one
drop_more : (n m : ℕ) (x y : List ℕ) → n ≤ m → drop n x ≡ drop n y → drop m x ≡ drop m y
drop_more n m x y le e =
    let up : n + (m - n) ≡ m = omega arith in
    rw (← up) (sym (drop-drop (m - n) n x) ∙ ap (λ (l : List ℕ). drop (m - n) l) e ∙ drop-drop (m - n) n y)

starts_wide : (place outer inner : ℕ) → Wide tree_width (start_rows place outer inner)
starts_wide place outer inner = (refl, (refl, tt))

-- both start rows were written over what stayed where the rows moved down
pub starts_in_front :
    (place outer inner : ℕ) (l p q v : List ℕ)
    → 2 * tree_width ≤ length l
    → p ≡ take (2 * tree_width) l ++ take (length l - 2 * tree_width) l
    → q ≡ written tree_width 0 (flat.with_token place (flat.start_row outer)) p
    → v ≡ written tree_width 1 (flat.with_token place (flat.start_row inner)) q
    → v ≡ in_front tree_width (start_rows place outer inner) l
starts_in_front place outer inner l p q v fit moved first second =
    let inner-row = flat.with_token place (flat.start_row inner) in
    second ∙ ap (λ (t : List ℕ). written tree_width 1 inner-row t) first
    ∙ in_front_lem tree_width (start_rows place outer inner) l p (starts_wide place outer inner) fit moved

-- the rows from row a on were lent and came back with both start rows in front; the inner node's finish row was written behind them, as the last
module _ (b : GreenNodeBuilder) (t part v : List ℕ) (place kind : ℕ) (m : Checkpoint) (a : ℕ) where
  abbrev last : ℕ
  last = b.rows + 2

  abbrev with_wrap : GreenNodeBuilder
  with_wrap =
      record {
        rows = last + 1;
        leaves = b.leaves;
        depth = b.depth + 1;
        children = m.children + 1;
        first = m.children;
        node = a;
      }

  -- where the part that is lent on begins and ends
  abbrev begin : ℕ
  begin = a * tree_width

  abbrev end : ℕ
  end = last * tree_width

  abbrev starts : List (List ℕ)
  starts = start_rows place kind ClauseArgument

  abbrev finish-row : List ℕ
  finish-row = flat.with_token place (flat.finish_row ClauseArgument)

  -- the rule puts the start rows in one after the other
  one_by_one :
      StartRow b [] m a
      → all_in tree_width 0 a starts (take (b.rows * tree_width) t) ++ finish-row ≡ take ((last + 1) * tree_width) v
      → wrap_ended place kind (mark_of m) (rows_of b t) ≡ rows_of with_wrap v
  unfolding flat.started_at flat.start_at_row flat.finished
  one_by_one at e =
      let rows : b.rows + 1 + 1 + 1 ≡ last + 1 = omega arith in
      let depth : b.depth + 1 + 1 - 1 ≡ b.depth + 1 = omega arith in
      rw (at.is, eq-eqb m.children m.children refl, rows, depth, ← e, add-zero (a * tree_width), add-zero ((a + 1) * tree_width))

  -- and none of its steps is refused
  goes : Allowed b t m → flat.wrap (length t) place kind (mark_of m) (rows_of b t) ≡ went (wrap_ended place kind (mark_of m) (rows_of b t))
  unfolding flat.started_at
  goes allowed =
      let free = allowed.free in
      let opened = wrap_opened place kind (mark_of m) (rows_of b t) in
      let outer = flat.frame_of (flat.started_at place kind (mark_of m) (rows_of b t)) in
      wrap-finish (length t) place kind (mark_of m) (rows_of b t) allowed.inside allowed.few (omega arith)
      ∙ finish-goes (length t) place opened (omega arith) ClauseArgument outer

  pub encloses :
      Allowed b t m
      → StartRow b [] m a
      → part ≡ in_front tree_width starts (lent begin end t)
      → v ≡ written tree_width last finish-row (put_mid begin (end - begin) t part)
      → Did (λ n. flat.wrap n place kind (mark_of m) (rows_of b t)) t (Ok with_wrap) v
  encloses allowed at e finish-written =
      let free = allowed.free in
      let moved = moved_down tree_width a b.rows starts t part (starts_wide place kind ClauseArgument) at.high (omega arith) e in
      let long = moved.long in
      let all = put_mid begin (end - begin) t part in
      let room : end + tree_width ≤ length all = omega arith in
      let rows = rw (← moved.is) at (one_more tree_width last all v finish-row refl room finish-written) in
      let rest = the_rest tree_width last all v finish-row refl room finish-written in
      record {
        is = goes allowed ∙ ap went (one_by_one at rows);
        rest = rest ∙ drop_more end ((last + 1) * tree_width) all t (omega arith) moved.rest;
      }
