-- From the text to the tree, for a client of both calls: whoever has what their contracts say, of a text that was taken and of a run on its rows, has
-- the theorems about the rules on these buffers. Assumes nothing.
use mathlib.Core.Path.{◌≡◌, sym, ap, subst, ◌∙◌}
use mathlib.Core.List.{List}
use Prim.Native.Nat.{ℕ, ◌*◌}
use lib.ListN.{length, take}
use Rattle.rules.specs.Checks.{Tables}
use Rattle.rules.specs.FormulaText.{kept, formula_text}
use Rattle.rules.specs.Limits.{token_width}
use Rattle.rules.specs.PutBack.{tree_rows, dropped_rows}
use Rattle.rules.specs.Run.{Ran, run}
use Rattle.rules.specs.Tokeniser.{written, token_rows, tokenise, Tiles, Longest}
use Rattle.rules.specs.Tokeniser as tokeniser
use Rattle.rules.proofs.Longest.{each-longest}
use Rattle.rules.proofs.TextReturns as rules
use Rattle.rules.proofs.Tiled.{tiled}
use Rattle.rules.proofs.Tokenised.{wrote}
use Rattle.rules.proofs.Tokenised as tokenised
use Rattle.listings.specs.Stands.{ran_of}
use Rattle.cartglaze.proofs.Answers.{RefusedAt}
use Rattle.tokeniser.specs.Answers.{tokenised_of}
use Rattle.std.specs.Prelude.{Ok}
use Rattle.cartglaze.proofs.NothingLost.{Met}

-- so many rows were written of the text, and they are the tokens of the tables
pub record Cut (t : Tables) (before after : List ℕ) (count : ℕ) : Type 0 where
  pub met : (tokenised_of (Ok count), after) ≡ tokenise t.text before
  pub tokens : t.tokens ≡ take (count * token_width) after

module _ (t : Tables) {before after : List ℕ} {count : ℕ} (cut : Cut t before after count) (tree dropped : List ℕ) where
  answered : (tokenise t.text before).0 ≡ written count
  answered = sym (ap (λ (d : tokeniser.Tokenised × List ℕ). d.0) cut.met)

  rows : t.tokens ≡ take (count * token_width) (tokenise t.text before).1
  rows = cut.tokens ∙ ap (λ (d : tokeniser.Tokenised × List ℕ). take (count * token_width) d.1) cut.met

  are : t.tokens ≡ token_rows t.text
  are = rows ∙ (wrote t.text before answered).rows

  -- "Every byte lies in exactly one token's source range"
  pub tiles : Tiles t.tokens (length t.text) 0 0
  tiles = subst (λ l. Tiles l (length t.text) 0 0) (sym are) (tiled t.text).tiles

  -- each token is the longest match at its place
  pub longest : Longest t.text t.tokens 0 0
  longest = subst (λ l. Longest t.text l 0 0) (sym are) (each-longest t.text)

  -- a run on it is never refused 3
  pub never_refused_3 : {place : ℕ} {v w : List ℕ} → run t tree dropped ≡ ran_of (RefusedAt 3 place) v w → ⊥
  never_refused_3 e = tokenised.never_refused_3 t tree dropped before answered rows (ap (λ (r : Ran). r.answer) e)

  -- leaf texts and dropped texts put back, each in its token's source range, are the text, byte for byte
  pub text-returns : {row_count drops : ℕ} {v w : List ℕ} → Met t tree dropped row_count drops v w
      → formula_text (kept t.text t.tokens (tree_rows row_count v) (dropped_rows drops w)) ≡ t.text
  text-returns met =
      rw met at (rules.text-returns t tree dropped (ap (λ (r : Ran). r.answer) met) are)
