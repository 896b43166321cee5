-- Demand 3 for a formula's text: leaf texts and dropped texts, each in its token's source range, put back give the text itself, byte for byte. Each
-- token is put back whole (`put_back_lem`), and the source ranges of the tokens tile the text (`tiled`). Assumes nothing.
use Prim.Native.Nat.{ℕ}
use Prim.Native.String.{String}
use mathlib.Core.Path.{◌≡◌, refl, sym, ap, ap₂, ◌∙◌}
use mathlib.Core.List.{List, [], map-map, append-nil}
use native.Mathlib.Nat.{sub-zero}
use lib.ListN.{replicate}
use Rattle.rules.specs.Checks.{Tables}
use Rattle.rules.specs.Commands
use Rattle.rules.specs.Computed.{the_run}
use Rattle.rules.specs.FormulaText.{in_source, Kept, kept, formula_text}
use Rattle.rules.specs.Notation.{bytes}
use Rattle.rules.specs.Patterns
use Rattle.rules.specs.PutBack.{tree_rows, dropped_rows, leaves, Stored, stored, back_from}
use Rattle.rules.specs.Run.{Answer, accepted, run}
use Rattle.rules.specs.Tables.{token_count, kind_at}
use Rattle.rules.specs.Token
use Rattle.rules.specs.Tokeniser
use Rattle.rules.specs.Tokeniser.{sources_from, token_rows}
use Rattle.rules.proofs.NothingLost.{each-token}
use Rattle.rules.proofs.PutBack.{put_back_lem}
use Rattle.rules.proofs.Tiled.{tiled}

module _ (t : Tables) (tree dropped : List ℕ) {rows drops : ℕ} (e : (run t tree dropped).answer ≡ accepted rows drops) where
  abbrev pub kept_of : Kept
  kept_of = kept t.text t.tokens (tree_rows rows (run t tree dropped).tree) (dropped_rows drops (run t tree dropped).dropped)

  abbrev around : ℕ → List ℕ → List ℕ
  around i text = in_source (kind_at t.tokens i, text)

  -- nothing stands around a Word
  bare : (i : ℕ) → kind_at t.tokens i ≡ Token.Word → (l : List ℕ) → around i l ≡ l
  bare i word l = rw word (append-nil l)

  -- whatever the tokens are, their source texts return
  pub sources_return : formula_text kept_of ≡ sources_from t.text t.tokens 0 (token_count t.tokens)
  sources_return =
      let tree_rows = tree_rows rows (run t tree dropped).tree in
      let dropped-rows = dropped_rows drops (run t tree dropped).dropped in
      let all = sources_from t.text t.tokens in
      ap₂ (back_from 0) (map-map in_source _ (leaves tree_rows)) (map-map _ _ dropped-rows)
      ∙ (rw sub-zero at (put_back_lem t.text t.tokens around bare all (λ i. refl) (λ i n. refl) (each-token t tree dropped e)))

  -- and those of the tokens that the text was cut into are the text
  pub text-returns : t.tokens ≡ token_rows t.text → formula_text kept_of ≡ t.text
  text-returns are = sources_return ∙ rw are (rw sub-zero at (tiled t.text).texts)

-- so two texts that differ never share it
pub never_share_kept : (t t' : Tables) (tree dropped tree' dropped' : List ℕ) {rows drops rows' drops' : ℕ}
    (e : (run t tree dropped).answer ≡ accepted rows drops) (e' : (run t' tree' dropped').answer ≡ accepted rows' drops')
    → t.tokens ≡ token_rows t.text
    → t'.tokens ≡ token_rows t'.text
    → (t.text ≡ t'.text → ⊥)
    → kept_of t tree dropped e ≡ kept_of t' tree' dropped' e'
    → ⊥
never_share_kept t t' tree dropped tree' dropped' e e' are are' differ same =
    differ (sym (text-returns t tree dropped e are) ∙ ap formula_text same ∙ text-returns t' tree' dropped' e' are')

-- ---- the kinds are needed

abbrev tables_of : String → Tables
tables_of text = record { text = bytes text; tokens = token_rows (bytes text); shapes = []; states = [] }

-- the answer, and tree, leaf texts and dropped list with its texts
abbrev told : String → Answer × Stored
told text =
    let t = tables_of text in
    let r = run t (replicate 100 7) (replicate 9 7) in
    (r.answer, stored t.text t.tokens (tree_rows 5 r.tree) (dropped_rows 2 r.dropped))

-- in a skipped body a \begin and an \end become leaves of one kind
kinds-needed : ((told "\\iffalse\\begin{a}\\fi").0 ≡ accepted 5 2) × (told "\\iffalse\\begin{a}\\fi" ≡ told "\\iffalse\\end{a}\\fi")
unfolding the_run Patterns.run Patterns.pattern_of Commands.spelled Commands.kind_of Commands.in_braces Tokeniser.lexeme Tokeniser.lexemes Tokeniser.token_rows
kinds-needed = (refl, refl)
