-- Demand 3, and what 02's #101 says of leaves, for a client of the run: whoever has an accepted answer and both buffers, and knows of them what the
-- contract says, has the theorems about the rules' run on these buffers, without a look into the parser. Assumes nothing.
use mathlib.Core.Path.{◌≡◌, sym, ap, ◌∙◌}
use mathlib.Core.List.{List}
use Prim.Native.Nat.{ℕ, ◌<◌}
use lib.ListN.{length}
use Rattle.rules.specs.Checks.{Tables}
use Rattle.rules.specs.Flat.{tag_leaf}
use Rattle.rules.specs.PutBack.{tree_rows, dropped_rows, leaves, Stored, stored, put_back, token_texts, EachToken, stretch_at, InToken, Rises}
use Rattle.rules.specs.Questions.{tag_at}
use Rattle.rules.specs.Run.{Ran, accepted, run}
use Rattle.rules.specs.Exactly.{RanExactly}
use Rattle.rules.proofs.Exactly.{run-exactly}
use Rattle.rules.proofs.NothingLost as rules
use Rattle.listings.specs.Stands.{ran_of}
use Rattle.cartglaze.proofs.Answers.{Accepted}

-- what the contract says of a call that was accepted with so many rows and dropped rows
abbrev pub Met : Tables → List ℕ → List ℕ → ℕ → ℕ → List ℕ → List ℕ → Type 0
Met t tree dropped rows drops v w = run t tree dropped ≡ ran_of (Accepted rows drops) v w

-- what can be stored of the rows that the answer counts
abbrev pub stored_in : Tables → ℕ → ℕ → List ℕ → List ℕ → Stored
stored_in t rows drops v w = stored t.text t.tokens (tree_rows rows v) (dropped_rows drops w)

module _ (t : Tables) (tree dropped : List ℕ) {rows drops : ℕ} {v w : List ℕ} (met : Met t tree dropped rows drops v w) where
  answered : (run t tree dropped).answer ≡ accepted rows drops
  answered = ap (λ (r : Ran). r.answer) met

  -- "Each token is a leaf, the parts of a split Word, or one dropped row, exactly once"
  pub each-token : EachToken t.tokens 0 0 (leaves (tree_rows rows v)) (dropped_rows drops w)
  each-token = rw met at (rules.each-token t tree dropped answered)

  -- "a leaf's own token" (02, #101)
  pub leaf-token : (row : ℕ) → row < rows → tag_at v row ≡ tag_leaf → InToken t.tokens (stretch_at v row)
  leaf-token = rw met at (rules.leaf-token t tree dropped answered)

  -- "dropped rows rise by token"
  pub dropped-rise : Rises t.tokens 0 (dropped_rows drops w)
  dropped-rise = rw met at (rules.dropped-rise t tree dropped answered)

  -- "put the dropped texts back among the leaf texts where the dropped list says: the token texts return, joined in order"
  pub texts_return : put_back (stored_in t rows drops v w) ≡ token_texts t.text t.tokens
  texts_return = rw met at (rules.texts_return t tree dropped answered)

  -- "Dropped are exactly .."
  pub dropped-exactly : RanExactly t (length tree) rows drops (ran_of (Accepted rows drops) v w)
  dropped-exactly = rw met at (run-exactly t tree dropped rows drops answered)

-- "So two accepted inputs whose joined texts differ never share tree, leaf texts and dropped list with its texts."
pub never_share : (t t' : Tables) (tree dropped tree' dropped' : List ℕ) {rows drops rows' drops' : ℕ} {v w v' w' : List ℕ}
    → Met t tree dropped rows drops v w → Met t' tree' dropped' rows' drops' v' w'
    → (token_texts t.text t.tokens ≡ token_texts t'.text t'.tokens → ⊥)
    → stored_in t rows drops v w ≡ stored_in t' rows' drops' v' w'
    → ⊥
never_share t t' tree dropped tree' dropped' met met' differ same =
    differ (sym (texts_return t tree dropped met) ∙ ap put_back same ∙ texts_return t' tree' dropped' met')
