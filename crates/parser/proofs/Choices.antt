-- Which argument a Word gives: its character, if the matcher accepts one. A term is never accepted as a bare token, so what is not accepted whole is
-- not accepted. Assumes nothing.
use mathlib.Core.Path.{◌≡◌, refl}
use mathlib.Core.List.{List}
use Prim.Native.Nat.{ℕ}
use Rattle.rules.specs.Items.{character, choose, if_matched}
use Rattle.rules.specs.Kinds.{is_trivia}
use Rattle.rules.specs.Matcher.{Matcher, not_accepted, term, match_next}
use Rattle.rules.specs.Scope.{Scope}
use Rattle.rules.specs.Token
use Rattle.rules.proofs.Matcher.{never_bare}
use Rattle.arg_match.specs.Answers.{matched_of}
use Rattle.arg_match.specs.declared.Matched.{Matched}
use Rattle.arg_match.specs.declared.ArgMatcher.{ArgMatcher}
use Rattle.arg_match.specs.declared.Matched.TheVariants.{NotAccepted, Whole, Bare}

pub choose_word : (states : List ℕ) (scope : Scope) (m : Matcher) → choose states scope m Token.Word ≡ if_matched character (match_next states m term)
unfolding choose is_trivia
choose_word states scope m = refl

-- an answer about a character that is not `Whole` is `NotAccepted`: `Bare` never comes
pub character_refused : (states : List ℕ) (m : Matcher) (answer : Matched) → ((next : ArgMatcher) → answer ≡ Whole next → ⊥)
    → matched_of answer ≡ match_next states m term
    → not_accepted ≡ match_next states m term
character_refused states m NotAccepted other is = is
character_refused states m (Whole next) other is = absurd (other next refl)
character_refused states m (Bare next) other is = absurd (never_bare states m is)
