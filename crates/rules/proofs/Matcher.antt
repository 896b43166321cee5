-- A term is never accepted as a bare token: by the matcher's cases, a term is answered whole or not at all. Assumes nothing.
use Prim.Native.Nat.{ℕ}
use mathlib.Core.Path.{◌≡◌, refl, sym, ap, ◌∙◌}
use mathlib.Core.Bool.{Bool, true, false, cond, false≢true}
use mathlib.Core.List.{List}
use lib.Dec.{eqb, ltb}
use Rattle.rules.specs.Matcher.{Matcher, nothing, at_most, greedy, glob, Matched, not_accepted, whole, bare, term, next_state, match_next}
use Rattle.rules.proofs.Characters.{either}

abbrev is_bare : Matched → Bool
is_bare not_accepted = false
is_bare (whole next) = false
is_bare (bare next) = true

term_not_bare : (states : List ℕ) (m : Matcher) → is_bare (match_next states m term) ≡ false
unfolding match_next
term_not_bare states nothing = refl
term_not_bare states (at_most n counter) = either (ltb counter n) (λ e. rw e) (λ e. rw e)
term_not_bare states greedy = refl
term_not_bare states (glob state) = either (eqb (next_state states state term) 0) (λ e. rw e) (λ e. rw e)

pub never_bare : (states : List ℕ) (m : Matcher) {next : Matcher} → bare next ≡ match_next states m term → ⊥
never_bare states m e = false≢true (sym (term_not_bare states m) ∙ ap is_bare (sym e))
