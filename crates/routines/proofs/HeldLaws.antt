-- Held trivia: each token of a range is dropped, or becomes a leaf, in the order of holding; a held token that becomes a leaf
-- adds nothing to the weight. Assumes nothing.
use Rattle.std.specs.Prelude.{Ok, Err}
use Rattle.syntax.specs.declared.refusal.Refused.{Refused}
use mathlib.Core.Path.{◌≡◌, refl, ap, ◌∙◌}
use mathlib.Core.List.{List, ◌++◌}
use Prim.Native.Nat.{ℕ, suc, ◌+◌, ◌*◌, ◌-◌, ◌≤◌, ◌<◌}
use native.Mathlib.Omega.{arith}
use lib.ListN.{length, take, drop}
use Rattle.rules.specs.Limits
use Rattle.rules.specs.Limits.{tree_width, dropped_width}
use Rattle.rules.specs.Outcome.{Out, went, bind}
use Rattle.rules.specs.Builder.{Leaf}
use Rattle.rules.specs.Flat.{Built, flat, dropped_row, reason_trivia}
use Rattle.rules.specs.Checks.{Tables, source_of}
use Rattle.rules.specs.Kinds.{leaf_kind}
use Rattle.rules.specs.Position as position
use Rattle.rules.specs.Position.{Source}
use Rattle.rules.specs.Routines.{hold_trivia, drop_from, ignore_holding_trivia, leaves_from, extract_holding_trivia}
use Rattle.rules.specs.Tables.{token_count, kind_at, start_at, length_at}
use Rattle.lexer.specs.declared.cursor.Lexer.{Lexer}
use Rattle.lexer.proofs.Laws.{eaten-fine, left-eaten}
use Rattle.builder.specs.Contract.{Fits}
use Rattle.builder.specs.Stands.{rows_of}
use Rattle.builder.proofs.Numbers.{one_more, the_rest}
use Rattle.state.specs.Stands.{Buffers, Here, Step, pos_of, out_of}
use Rattle.state.specs.Change.{relexed, unheld}
use Rattle.state.specs.Contract.{Ready, Left, Leafed, Told, Ran, Holding, Droppable, Ignored, buffers}
use Rattle.state.specs.declared.Parser.{Parser}
use Rattle.state.proofs.Left.{remains}
use Rattle.state.proofs.Walk.{HandsOn, handed, Call, stop, drop_more, passing}

-- ---- a token is held

-- the next one, where there is one
pub holds : {t : Tables} {p : Parser} {m : Buffers} {r : Parser} {lift : ℕ} → p.lexer.token < token_count t.tokens
    → r ≡ relexed p (record { token = p.lexer.token + 1; taken = 0 })
    → Call t (λ n d q. went (hold_trivia (flat n) (source_of t) q)) lift (λ q. Left t 1 p m q m) p m (Ok r) m
holds there e = rw e (record {
  is = λ ready d h. refl;
  gone = λ ready.
      let s = ready.steady in
      let less = left-eaten s.fine there in
      let few = s.dropped in
      remains ready (passing refl refl refl refl (omega arith))
      (eaten-fine s.fine) (omega arith) (omega arith) s.fits refl refl refl refl;
})

pub holding_more : {p : Parser} → Holding p → Holding (relexed p (record { token = p.lexer.token + 1; taken = 0 }))
holding_more h = let held = h.held in record { held = omega arith; dropped = h.dropped }

-- ---- nothing is held

-- the state with nothing held, and so many rows dropped
abbrev let_go : Parser → ℕ → Parser
let_go p count = record { lexer = p.lexer; held = p.lexer.token; list = p.list; builder = p.builder; dropped = count }

-- a routine that comes to it, and writes dropped rows at most
lets_go : {t : Tables} {p : Parser} {tree before after : List ℕ} (count : ℕ) → p.dropped ≤ count → count ≤ p.lexer.token
    → drop (count * dropped_width) after ≡ drop (count * dropped_width) before → length after ≡ length before
    → Ready t p (buffers tree before) → Left t 0 p (buffers tree before) (let_go p count) (buffers tree after)
lets_go count more few rest long ready =
    let s = ready.steady in
    remains ready (passing refl rest refl long (omega arith))
    s.fine s.token few s.fits refl refl refl refl

pub holding_none_lem : {t : Tables} {p : Parser} {m : Buffers} → Ready t p m → Holding (unheld p)
holding_none_lem ready = let few = ready.steady.dropped in record { held = omega arith; dropped = few }

-- ---- what is held is dropped

-- a state that is ready has room for it
pub droppable : {t : Tables} {p : Parser} {m : Buffers} → Ready t p m → Holding p → Droppable p m.dropped
droppable ready h =
    let s = ready.steady in
    let few = s.good.few in
    let token = s.token in
    let room = s.notes in
    let light = s.light in
    record { holding = h; few = omega arith; room = omega arith; leaves = omega arith }

module _ (p : Parser) (before : List ℕ) where
  -- the tree with so many dropped rows of a buffer
  abbrev with_rows : List ℕ → ℕ → List ℕ → Built
  with_rows tree count notes = record { tree = rows_of p.builder tree; dropped = take (count * dropped_width) notes }

  -- so far all before token i are dropped: those from i on are still to be
  pub record Dropping (now : List ℕ) (i count : ℕ) : Type 0 where
    pub low : p.held ≤ i
    pub high : i ≤ p.lexer.token
    pub counted : count ≡ p.dropped + (i - p.held)
    pub is : (s : Source) (n : ℕ) (tree : List ℕ)
        → drop_from (flat n) s (p.lexer.token - p.held) p.held (with_rows tree p.dropped before)
        ≡ drop_from (flat n) s (p.lexer.token - i) i (with_rows tree count now)
    pub rest : drop (count * dropped_width) now ≡ drop (count * dropped_width) before
    pub long : length now ≡ length before

  module _ {now : List ℕ} {i count : ℕ} (d : Droppable p before) (far : Dropping now i count) where
    -- there is room for one more
    pub dropping-room : i < p.lexer.token → count * dropped_width + dropped_width ≤ length now
    dropping-room more =
        let room = d.room in
        let few = d.holding.dropped in
        let low = far.low in
        let counted = far.counted in
        let long = far.long in
        omega arith

    -- one turn of it
    one-row : {v : List ℕ} → i < p.lexer.token
        → v ≡ take (count * dropped_width) now ++ (dropped_row i reason_trivia p.builder.leaves ++ drop (count * dropped_width + dropped_width) now)
        → (s : Source) (n : ℕ) (tree : List ℕ)
        → drop_from (flat n) s (p.lexer.token - i) i (with_rows tree count now)
        ≡ drop_from (flat n) s (p.lexer.token - (i + 1)) (i + 1) (with_rows tree (count + 1) v)
    unfolding drop_from
    one-row {v} more e s n tree =
        let up : p.lexer.token - i ≡ suc (p.lexer.token - (i + 1)) = omega arith in
        rw (up, ← one_more dropped_width count now v (dropped_row i reason_trivia p.builder.leaves) refl (dropping-room more) e)

    pub dropping-goes_on : {v : List ℕ} → i < p.lexer.token → length v ≡ length now
        → v ≡ take (count * dropped_width) now ++ (dropped_row i reason_trivia p.builder.leaves ++ drop (count * dropped_width + dropped_width) now)
        → Dropping v (i + 1) (count + 1)
    dropping-goes_on {v} more kept e =
        let low = far.low in
        let counted = far.counted in
        let row = dropped_row i reason_trivia p.builder.leaves in
        record {
          low = omega arith;
          high = omega arith;
          counted = omega arith;
          is = λ s n tree. far.is s n tree ∙ one-row more e s n tree;
          rest = the_rest dropped_width count now v row refl (dropping-room more) e
              ∙ drop_more (count * dropped_width) ((count + 1) * dropped_width) now before (omega arith) far.rest;
          long = kept ∙ far.long;
        }

    dropped-all : p.lexer.token ≤ i → (s : Source) (n : ℕ) (tree : List ℕ)
        → ignore_holding_trivia (flat n) s (pos_of p (buffers tree before)) ≡ went (pos_of (let_go p count) (buffers tree now))
    unfolding ignore_holding_trivia drop_from
    dropped-all end s n tree =
        let none : p.lexer.token - i ≡ 0 = omega arith in
        let all = rw none at (far.is s n tree) in
        rw all

    pub dropping-ends : {u : Parser} → p.lexer.token ≤ i → u ≡ unheld p
        → Ignored p before (record { lexer = u.lexer; held = u.held; list = u.list; builder = u.builder; dropped = count }) now
    dropping-ends end e =
        let high = far.high in
        let all : i ≡ p.lexer.token = omega arith in
        let count_is : count ≡ p.dropped + (p.lexer.token - p.held) = rw all at far.counted in
        rw e (record { state = ap (λ (n : ℕ). let_go p n) count_is; is = dropped-all end; rest = far.rest; long = far.long })

-- a routine that drops what is held, as a step of a walk
pub ignores : {t : Tables} {p : Parser} {tree before : List ℕ} {r : Parser} {after : List ℕ} {lift : ℕ} → Holding p → Ignored p before r after
    → Call t (λ n d. ignore_holding_trivia (flat n) (source_of t)) lift (λ q. Left t 0 p (buffers tree before) q (buffers tree after))
    p (buffers tree before) (Ok r) (buffers tree after)
ignores {t} {p} {tree} h k = record {
  is = λ ready d enough. k.is (source_of t) (length tree) tree;
  gone = λ ready.
      let held = h.held in
      let few = h.dropped in
      let rest = rw k.state at k.rest in
      rw k.state (lets_go (p.dropped + (p.lexer.token - p.held)) (omega arith) (omega arith) rest k.long ready);
}

-- ---- what is held becomes leaves

module _ (tokens : List ℕ) (p : Parser) (tree : List ℕ) where
  abbrev Sees : Tables → Type 0
  Sees t = t.tokens ≡ tokens

  abbrev with_notes : List ℕ → List ℕ → Buffers
  with_notes numbers notes = record { tree = numbers; dropped = notes }

  -- the leaves of so many tokens, from one on
  abbrev some_leaves : Tables → ℕ → ℕ → Here → Out Here
  some_leaves t count i = leaves_from (flat (length tree)) (source_of t) count i

  -- so far all before token i are leaves: those from i on are still to be
  pub record Extracting (after : List ℕ) (q : Parser) (i : ℕ) : Type 0 where
    pub is : (t : Tables) (notes : List ℕ) → Sees t
        → some_leaves t (p.lexer.token - p.held) p.held (pos_of p (with_notes tree notes))
        ≡ some_leaves t (p.lexer.token - i) i (pos_of q (with_notes after notes))
    pub leaves : q.builder.leaves + (p.lexer.token - i) ≤ p.builder.leaves + (p.lexer.token - p.held)
    pub rest : drop (q.builder.rows * tree_width) after ≡ drop (q.builder.rows * tree_width) tree
    pub long : length after ≡ length tree
    pub fits : Fits q.builder after
    pub rows : p.builder.rows ≤ q.builder.rows
    pub depth : q.builder.depth ≡ p.builder.depth
    pub first : q.builder.first ≡ p.builder.first
    pub node : q.builder.node ≡ p.builder.node
    pub lexer : q.lexer ≡ p.lexer
    pub list : q.list ≡ p.list
    pub dropped : q.dropped ≡ p.dropped

  -- from q a leaf was written, of a token that was passed
  abbrev Wrote : Parser → List ℕ → Leaf → Step → List ℕ → Type 0
  Wrote q after leaf r last =
      (notes : List ℕ)
      → leaf.token ≤ q.lexer.token
      → q.lexer.token ≤ Limits.tokens
      → Told (λ n. position.leaf (flat n) leaf) (λ u. Leafed q after u last) q (with_notes after notes) r (with_notes last notes)

  module _ {after : List ℕ} {q : Parser} {i : ℕ} (far : Extracting after q i) where
    module _ (more : i < p.lexer.token) (few : p.lexer.token ≤ Limits.tokens) {kind start size : ℕ}
        (kind_is : kind ≡ leaf_kind (kind_at tokens i)) (start_is : start ≡ start_at tokens i) (size_is : size ≡ length_at tokens i)
        {r : Step} {last : List ℕ} (wrote : Wrote q after (record { token = i; kind = kind; start = start; size = size }) r last) where
      abbrev this : Leaf
      this = record { token = i; kind = kind; start = start; size = size }

      -- it is written, where these are the dropped rows
      abbrev written : List ℕ → Out Here
      written notes = position.leaf (flat (length tree)) this (pos_of q (with_notes after notes))

      wrote_this : (notes : List ℕ)
          → Told (λ n. position.leaf (flat n) this) (λ u. Leafed q after u last) q (with_notes after notes) r (with_notes last notes)
      wrote_this notes = wrote notes (rw far.lexer (omega arith)) (rw far.lexer few)

      -- one turn of it: a leaf, and then it goes on
      turn : (t : Tables) (notes : List ℕ) → Sees t
          → some_leaves t (p.lexer.token - i) i (pos_of q (with_notes after notes))
          ≡ bind (written notes) (λ u. some_leaves t (p.lexer.token - (i + 1)) (i + 1) u)
      unfolding leaves_from
      turn t notes seen =
          let up : p.lexer.token - i ≡ suc (p.lexer.token - (i + 1)) = omega arith in
          rw (up, kind_is, start_is, size_is, ← seen)

      this_is : (notes : List ℕ) → written notes ≡ out_of r (with_notes last notes)
      this_is notes = rw far.long at (wrote_this notes).is

      pub extracting_goes_on : {z : Parser} → length last ≡ length after → r ≡ Ok z → Extracting last z (i + 1)
      extracting_goes_on {z} kept e =
          let w : Leafed q after z last = rw e at (wrote_this after).gone in
          let leaves = far.leaves in
          let one = w.leaves in
          let rows = far.rows in
          let higher = w.rows in
          record {
            is = λ t notes seen.
                let to-went = ap (λ (y : Step). out_of y (with_notes last notes)) e in
                let went_is : written notes ≡ went (pos_of z (with_notes last notes)) = this_is notes ∙ to-went in
                far.is t notes seen ∙ turn t notes seen ∙ rw went_is;
            leaves = omega arith;
            rest = w.rest ∙ drop_more (q.builder.rows * tree_width) (z.builder.rows * tree_width) after tree (omega arith) far.rest;
            long = kept ∙ far.long;
            fits = w.fits;
            rows = omega arith;
            depth = w.depth ∙ far.depth;
            first = w.first ∙ far.first;
            node = w.node ∙ far.node;
            lexer = w.lexer ∙ far.lexer;
            list = w.list ∙ far.list;
            dropped = w.dropped ∙ far.dropped;
          }

      pub extracting_stops : {any : List ℕ} {e : Refused} {s : Step} → r ≡ Err e → HandsOn s e → (notes : List ℕ)
          → Ran Sees 0 (λ s n. extract_holding_trivia (flat n) s) p (with_notes tree notes) s (with_notes any notes)
      unfolding extract_holding_trivia
      extracting_stops st hands notes = rw (handed hands) (record {
        told = λ t seen ready. record {
          is =
              let here = with_notes last notes in
              stop _ _ here here (far.is t notes seen ∙ turn t notes seen ∙ stop _ _ here here (this_is notes) st) refl;
          gone = tt;
        };
      })

    extracted : p.lexer.token ≤ i → (t : Tables) (notes : List ℕ) → Sees t
        → extract_holding_trivia (flat (length tree)) (source_of t) (pos_of p (with_notes tree notes))
        ≡ went (pos_of (unheld q) (with_notes after notes))
    unfolding extract_holding_trivia leaves_from
    extracted end t notes seen =
        let none : p.lexer.token - i ≡ 0 = omega arith in
        let all = rw none at (far.is t notes seen) in
        rw all

    pub extracting_ends : {u : Parser} → p.lexer.token ≤ i → u ≡ unheld q → (notes : List ℕ)
        → Ran Sees 0 (λ s n. extract_holding_trivia (flat n) s) p (with_notes tree notes) (Ok u) (with_notes after notes)
    extracting_ends end e notes = rw e (record {
      told = λ t seen ready.
          let s = ready.steady in
          let leaves = far.leaves in
          let rows = far.rows in
          let lexer = far.lexer in
          let dropped = far.dropped in
          let token : q.lexer.token ≡ p.lexer.token = ap (λ (l : Lexer). l.token) lexer in
          let few = s.dropped in
          record {
            is = extracted end t notes seen;
            gone = remains ready (passing far.rest refl far.long refl (rw lexer (omega arith)))
                (rw lexer s.fine) (rw lexer s.token) (omega arith) far.fits far.depth far.first far.node far.list;
          };
    })
