-- What the answers of the checks tell their callers: each is the only one that meets its contract, and tables that are fine have every token's text
-- inside theirs. Assumes nothing.
use Prim.Native.Nat.{ℕ}
use mathlib.Core.Bool.{Bool}
use mathlib.Core.Path.{◌≡◌, refl, sym, ap, ◌∙◌}
use native.Mathlib.Omega.{arith}
use lib.ListN.{drop, length-drop}
use lib.Seq.{length-take-le}
use Rattle.std.specs.Prelude.{Option, Result, Ok, Err}
use Rattle.rules.specs.Checks.{Refusal, Tables, checks, within_limits}
use Rattle.rules.specs.Tables.{length_at, start_at}
use Rattle.rules.proofs.Checks.{Accepted, accepted}
use Rattle.lexer.specs.Fine.{Sound}
use Rattle.syntax.specs.declared.refusal.Refused.{Refused}
use Rattle.checks.specs.Checked.{checked_of, FirstBad}

-- two answers that stand for the same are the same
pub same_answer : (r s : Result Unit Refused) → checked_of r ≡ checked_of s → r ≡ s
same_answer (Ok fine) (Ok other) e = refl
same_answer (Ok fine) (Err s) e = cc
same_answer (Err r) (Ok fine) e = cc
same_answer (Err r) (Err s) e =
    let pair : ◌≡◌ {A = Refusal} (r.number, r.place) (s.number, s.place) = cc in
    ap (λ (p : Refusal). Err (record { number = p.0; place = p.1 })) pair

-- `within_limits`
pub only_limits : (t : Tables) (r s : Bool) → r ≡ within_limits t → s ≡ within_limits t → r ≡ s
only_limits t r s e f = e ∙ sym f

-- `first_bad_token` and `first_bad_shape_or_state`, for some tables that they do not look at
pub only_bad : {Unseen : Type 0} {right : Unseen → ℕ → Bool} {count : ℕ} (r s : Option ℕ) (unseen : Unseen) → FirstBad right count r
    → FirstBad right count s
    → r ≡ s
only_bad r s unseen e f = sym (e.is unseen) ∙ f.is unseen

-- `check`
module _ (t : Tables) (dropped : ℕ) where
  pub only_answer : (r s : Result Unit Refused) → checks t dropped ≡ checked_of r → checks t dropped ≡ checked_of s → r ≡ s
  only_answer r s e f = same_answer r s (sym e ∙ f)

  pub fine : {r : Result Unit Refused} {done : Unit} → checks t dropped ≡ checked_of r → r ≡ Ok done → Accepted t dropped
  fine e is = accepted t dropped (e ∙ ap checked_of is)

pub sound : {t : Tables} {dropped : ℕ} → Accepted t dropped → Sound t.text t.tokens
sound {t} a =
    record {
      short = a.limits.text;
      inside = λ i h. (a.token i h).inside;
      word = λ i h is.
          let right = a.token i h in
          let inside = right.inside in
          let rest = drop (start_at t.tokens i) t.text in
          let size = length-take-le (length_at t.tokens i) rest (omega (arith, length-drop (start_at t.tokens i) t.text)) in
          record { some = omega (arith, right.some is); utf8 = right.utf8 is };
    }
