-- Demand 3's first half, of every accepted run, on the buffers after it and the answer's counts: each token is a leaf, the parts of a split Word, or
-- one dropped row; putting back gives the token texts; so inputs whose texts differ never share what is put together. What the checks and the reading
-- tell. Assumes nothing.
use Prim.Native.Nat.{ℕ, ◌/◌, ◌<◌}
use mathlib.Core.Path.{◌≡◌, refl, sym, ap, ◌∙◌}
use mathlib.Core.List.{List}
use Rattle.std.specs.Prelude.{Option, None as none, Some as some}
use native.Mathlib.Omega.{arith}
use native.Mathlib.Nat.{le_refl, sub-zero}
use lib.ListN.{length, drop}
use Rattle.rules.specs.Checks.{Tables, Refusal, checks, source_of}
use Rattle.rules.specs.Flat.{Built, Mark, tag_leaf, flat, empty}
use Rattle.rules.specs.Limits.{tree_width, dropped_width}
use Rattle.rules.specs.Outcome.{Out, went, refused}
use Rattle.rules.specs.Position.{Pos}
use Rattle.rules.specs.PutBack.{tree_rows, dropped_rows, leaves, texts_of, Stored, stored, put_back, texts_from, token_texts, EachToken, stretch_at, InToken, Rises}
use Rattle.rules.specs.Questions.{tag_at}
use Rattle.rules.specs.Reading.{parse}
use Rattle.rules.specs.Run.{accepted, over, after_reading, after_checks, run}
use Rattle.rules.specs.Tables.{token_count}
use Rattle.rules.proofs.Checks
use Rattle.rules.proofs.Fifth.{leaf-inside}
use Rattle.rules.proofs.Goes.{Goes, goes}
use Rattle.rules.proofs.HandedRows.{HasRead, rows_front, rows_read}
use Rattle.rules.proofs.PutBack.{four-texts, put_back_lem, rises}
use Rattle.rules.proofs.Reached.{before, Sound, all_told}

-- tables that passed the checks
pub sound : (t : Tables) (dropped : ℕ) → Checks.Accepted t dropped → Sound (source_of t)
sound t dropped passed =
    record {
      text = passed.limits.text;
      inside = λ i there. (passed.token i there).inside;
      some = λ i there. (passed.token i there).some;
      utf8 = λ i there. (passed.token i there).utf8;
    }

-- of rows in both buffers, with what was there before behind them
module _ (t : Tables) (tree dropped : List ℕ) where
  abbrev Told : ℕ → ℕ → List ℕ → List ℕ → Type 0
  Told rows drops tree dropped = EachToken t.tokens 0 0 (leaves (tree_rows rows tree)) (dropped_rows drops dropped)

  -- all tokens were handed over
  abbrev AllRead : Built → Type 0
  AllRead b = HasRead (source_of t) (before (token_count t.tokens)) b

  told : (b : Built)
      → AllRead b
      → Told b.tree.rows (length b.dropped / dropped_width) (over b.tree.tree tree) (over b.dropped dropped)
  told b h =
      let long = h.tied.long in
      let count : length b.dropped / dropped_width ≡ length h.ds = omega arith in
      let tree-front = rows_front tree_width b.tree.rows b.tree.tree (drop (length b.tree.tree) tree) h.tied.size in
      let dropped-front = rows_front dropped_width (length h.ds) b.dropped (drop (length b.dropped) dropped) long in
      rw (count, tree-front, dropped-front, h.tied.leaves, h.tied.dropped) (all_told (source_of t) refl refl h.reached)

  after_reading_lem : {rows drops : ℕ} (o : Out (Pos Built Mark))
      → Goes (λ q. AllRead q.built) o
      → (after_reading tree dropped o).answer ≡ accepted rows drops
      → Told rows drops (after_reading tree dropped o).tree (after_reading tree dropped o).dropped
  after_reading_lem {rows} {drops} (went p) (goes h) e =
      let same_rows : p.built.tree.rows ≡ rows = cc in
      let same-drops : length p.built.dropped / dropped_width ≡ drops = cc in
      rw (same_rows, same-drops) at (told p.built h)
  after_reading_lem (refused number place) h e = let z : ◌≡◌ {A = ℕ} 0 1 = cc in absurd (omega arith)

  after_checks_lem : {rows drops : ℕ} (o : Option Refusal)
      → checks t (length dropped) ≡ o
      → (after_checks o t tree dropped).answer ≡ accepted rows drops
      → Told rows drops (after_checks o t tree dropped).tree (after_checks o t tree dropped).dropped
  after_checks_lem none passed e =
      let tables = sound t (length dropped) (Checks.accepted t (length dropped) passed) in
      after_reading_lem (parse (flat (length tree)) (source_of t) empty) (rows_read (length tree) (source_of t) tables) e
  after_checks_lem (some refusal) passed e = let z : ◌≡◌ {A = ℕ} 0 1 = cc in absurd (omega arith)

-- ---- the theorems

module _ (t : Tables) (tree dropped : List ℕ) {rows drops : ℕ} (e : (run t tree dropped).answer ≡ accepted rows drops) where
  -- each token is a leaf, the parts of a split Word, or one dropped row, exactly once
  pub each-token : EachToken t.tokens 0 0 (leaves (tree_rows rows (run t tree dropped).tree)) (dropped_rows drops (run t tree dropped).dropped)
  unfolding run
  each-token = after_checks_lem t tree dropped (checks t (length dropped)) refl e

  -- "a leaf's own token": each leaf lies inside the range of the token that its row names
  pub leaf-token : (row : ℕ)
      → row < rows
      → tag_at (run t tree dropped).tree row ≡ tag_leaf
      → InToken t.tokens (stretch_at (run t tree dropped).tree row)
  leaf-token = leaf-inside rows (run t tree dropped).tree each-token

  -- dropped rows rise by token
  pub dropped-rise : Rises t.tokens 0 (dropped_rows drops (run t tree dropped).dropped)
  dropped-rise = rises each-token 0 (le_refl 0)

  -- what can be stored of the rows that the run says it wrote
  abbrev pub stored_of : Stored
  stored_of = stored t.text t.tokens (tree_rows rows (run t tree dropped).tree) (dropped_rows drops (run t tree dropped).dropped)

  -- the texts of the leaves are read off the first four numbers
  stored_texts : stored_of.leaf_texts ≡ texts_of t.text (leaves (tree_rows rows (run t tree dropped).tree))
  stored_texts = four-texts t.text (tree_rows rows (run t tree dropped).tree)

  -- "In every accepted run, put the dropped texts back among the leaf texts where the dropped list says: the token texts return, joined in order."
  pub texts_return : put_back stored_of ≡ token_texts t.text t.tokens
  texts_return =
      let all = texts_from t.text t.tokens in
      rw stored_texts (rw sub-zero at (put_back_lem t.text t.tokens (λ i l. l) (λ i word l. refl) all (λ i. refl) (λ i n. refl) each-token))

-- "So two accepted inputs whose joined texts differ never share tree, leaf texts and dropped list with its texts."
pub never_share : (t t' : Tables) (tree dropped tree' dropped' : List ℕ) {rows drops rows' drops' : ℕ}
    (e : (run t tree dropped).answer ≡ accepted rows drops) (e' : (run t' tree' dropped').answer ≡ accepted rows' drops')
    → (token_texts t.text t.tokens ≡ token_texts t'.text t'.tokens → ⊥)
    → stored_of t tree dropped e ≡ stored_of t' tree' dropped' e'
    → ⊥
never_share t t' tree dropped tree' dropped' e e' differ same =
    differ (sym (texts_return t tree dropped e) ∙ ap put_back same ∙ texts_return t' tree' dropped' e')
