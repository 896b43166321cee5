-- Two results of `tokenise` that meet its contract are equal, and so is every number of the lent rows: what an answer stands for leads back to it.
-- Assumes nothing.
use Prim.Native.Nat.{ℕ}
use mathlib.Core.List.{List}
use mathlib.Core.Path.{◌≡◌, refl, sym, ap, ◌∙◌}
use Rattle.std.specs.Prelude.{Result, Ok, Err}
use Rattle.rules.specs.Tokeniser as rules
use Rattle.syntax.proofs.Only.{fixed}
use Rattle.syntax.specs.declared.refusal.Refused.{Refused}
use Rattle.builder.proofs.Only.{OnlyLent}
use Rattle.tokeniser.specs.Answers.{tokenised_of}
use Rattle.tokeniser.proofs.rows.tokenise.Reads as tokenise

abbrev answer : rules.Tokenised → Result ℕ Refused
answer (rules.written tokens) = Ok tokens
answer (rules.refused_at number place) = Err (record { number = number; place = place })

from_answer : (r : Result ℕ Refused) → answer (tokenised_of r) ≡ r
from_answer (Ok tokens) = refl
from_answer (Err refused) = refl

module _ (value : rules.Tokenised × List ℕ) where
  both : {v w : List ℕ} (r s : Result ℕ Refused) → (tokenised_of r, v) ≡ value → (tokenised_of s, w) ≡ value → (r ≡ s) × (v ≡ w)
  both r s e f =
      let same = e ∙ sym f in
      (fixed tokenised_of answer from_answer r s (ap (λ (x : rules.Tokenised × List ℕ). x.0) same), ap (λ (x : rules.Tokenised × List ℕ). x.1) same)

pub only_tokenise : OnlyLent (λ κs e. e.1.0.now) tokenise.Post
only_tokenise = record { same = λ κs a x y e f. both _ x y }
