-- The contracts fix the answers: two answers that stand for the same value of the rules are the same, since that value leads back to them.
-- Assumes nothing.
use mathlib.Core.Path.{◌≡◌, refl, ap}
use Rattle.rules.specs.Matcher as rules
use Rattle.arg_match.specs.Answers.{matched_of, matcher_of}
use Rattle.arg_match.specs.declared.ArgMatcher.{ArgMatcher}
use Rattle.arg_match.specs.declared.ArgMatcher.TheVariants.{None, AtMostTerm, Greedy, Glob}
use Rattle.arg_match.specs.declared.Matched.{Matched}
use Rattle.arg_match.specs.declared.Matched.TheVariants as matched
use Rattle.syntax.proofs.Only.{Only, equal, stands}
use Rattle.arg_match.proofs.ArgMatcher.is_greedy.Reads as is-greedy
use Rattle.arg_match.proofs.ArgMatcher.match_next.Reads as match-next
use Rattle.arg_match.proofs.ArgMatcher.start_match.Reads as start-match

abbrev pub matcher : rules.Matcher → ArgMatcher
matcher rules.nothing = None
matcher (rules.at_most n counter) = AtMostTerm n counter
matcher rules.greedy = Greedy
matcher (rules.glob state) = Glob state

pub from_matcher : (m : ArgMatcher) → matcher (matcher_of m) ≡ m
from_matcher None = refl
from_matcher (AtMostTerm max counter) = refl
from_matcher Greedy = refl
from_matcher (Glob state) = refl

abbrev matched-of : rules.Matched → Matched
matched-of rules.not_accepted = matched.NotAccepted
matched-of (rules.whole m) = matched.Whole (matcher m)
matched-of (rules.bare m) = matched.Bare (matcher m)

from_matched : (t : Matched) → matched-of (matched_of t) ≡ t
from_matched matched.NotAccepted = refl
from_matched (matched.Whole m) = ap matched.Whole (from_matcher m)
from_matched (matched.Bare m) = ap matched.Bare (from_matcher m)

-- ---- the public functions
pub only_start_match : Only start-match.Post
only_start_match = stands matcher_of matcher from_matcher

pub only_is_greedy : Only is-greedy.Post
only_is_greedy = equal

pub only_match_next : Only match-next.Post
only_match_next = stands matched_of matched-of from_matched
