-- How arguments, matchers and answers of the code stand for the rules', case by case.
use Rattle.std.specs.Prelude.{ℕ, Option, None as none, Some as some, cond, eqb}
use Rattle.rules.specs.Matcher as rules
use Rattle.arg_match.specs.declared.Argument.{Argument}
use Rattle.arg_match.specs.declared.Argument.TheVariants as argument
use Rattle.arg_match.specs.declared.ArgMatcher.{ArgMatcher}
use Rattle.arg_match.specs.declared.ArgMatcher.TheVariants as matcher
use Rattle.arg_match.specs.declared.Matched.{Matched}
use Rattle.arg_match.specs.declared.Matched.TheVariants as matched

abbrev pub argument_of : Argument → rules.Argument
argument_of argument.Term = rules.term
argument_of argument.Bracket = rules.bracket
argument_of argument.Paren = rules.paren

abbrev pub matcher_of : ArgMatcher → rules.Matcher
matcher_of matcher.None = rules.nothing
matcher_of (matcher.AtMostTerm max counter) = rules.at_most max counter
matcher_of matcher.Greedy = rules.greedy
matcher_of (matcher.Glob state) = rules.glob state

abbrev pub matched_of : Matched → rules.Matched
matched_of matched.NotAccepted = rules.not_accepted
matched_of (matched.Whole next) = rules.whole (matcher_of next)
matched_of (matched.Bare next) = rules.bare (matcher_of next)

-- a next state, where 0 stands for not accepted
abbrev pub accepted : ℕ → Option ℕ
accepted state = cond (eqb state 0) none (some state)
