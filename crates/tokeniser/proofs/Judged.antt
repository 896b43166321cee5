-- What a text comes to: refusal 11 before 1, and 1 wherever it is too long, has too many tokens, or too few rows are lent. Assumes nothing.
use Prim.Native.Nat.{ℕ, ◌*◌, ◌≤◌}
use mathlib.Core.Path.{◌≡◌, sym, ap, ◌∙◌}
use mathlib.Core.Bool.{Bool, true, false, ◌&&◌, and-eq-true_iff}
use mathlib.Core.List.{List}
use Rattle.std.specs.Prelude.{Some, None}
use lib.Dec.{leb}
use lib.ListN.{length}
use borrow.Author.Tests.{leb-true}
use Rattle.rules.specs.Checks.{first_bad}
use Rattle.rules.specs.Limits
use Rattle.rules.specs.Run.{over}
use Rattle.rules.specs.Tokeniser.{written, refused_at, not_ascii, is_ascii, tokens_of, token_rows, fits, judged, tokenise}
use Rattle.rules.proofs.TokensOf.{tokens-few}

module _ (text buffer : List ℕ) where
  pub high : (place : ℕ) → Some place ≡ first_bad (is_ascii text) (length text) 0 → (refused_at not_ascii place, buffer) ≡ tokenise text buffer
  unfolding tokenise
  high place is = sym (ap (judged text buffer) (sym is))

  module _ (is : None ≡ first_bad (is_ascii text) (length text) 0) where
    so : tokenise text buffer ≡ judged text buffer None
    unfolding tokenise
    so = ap (judged text buffer) (sym is)

    pub refused : fits text (length buffer) ≡ false → (refused_at 1 0, buffer) ≡ tokenise text buffer
    refused other = sym (so ∙ rw other)

    pub fine : fits text (length buffer) ≡ true → (written (length (tokens_of text)), over (token_rows text) buffer) ≡ tokenise text buffer
    fine fit = sym (so ∙ rw fit)

-- ---- what fits keeps to the limits
module _ (text : List ℕ) (room : ℕ) (is : fits text room ≡ true) where
  abbrev few : Bool
  few = leb (length (tokens_of text)) Limits.tokens

  abbrev enough : Bool
  enough = leb (length (tokens_of text) * Limits.token_width) room

  pub short : length text ≤ Limits.text
  short = leb-true (length text) Limits.text ((and-eq-true_iff (leb (length text) Limits.text) (few && enough)).0 is).0

  pub room-enough : length (tokens_of text) * Limits.token_width ≤ room
  room-enough =
      let rest = ((and-eq-true_iff (leb (length text) Limits.text) (few && enough)).0 is).1 in
      leb-true (length (tokens_of text) * Limits.token_width) room ((and-eq-true_iff few enough).0 rest).1

-- ---- there are no more tokens than bytes
pub ruleset tokens = (tokens-few)
