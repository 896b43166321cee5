-- The measures of the cycle, and the invariants of its loops. What falls is the number of nodes that may yet be opened; of members that call each
-- other in one node the caller has the higher rank.
use Rattle.std.proofs.Common.{ℕ, ◌+◌, ◌*◌, ◌-◌}
use Rattle.rules.specs.Limits.{nodes}
use Rattle.rules.specs.Matcher.{Matcher}
use Rattle.arg_match.specs.Answers.{matcher_of}
use Rattle.state.specs.Contract.{left_of, buffers}
use Rattle.state.specs.Stands.{Buffers}
use Rattle.state.specs.declared.Parser.{Parser}
use Rattle.syntax.specs.Tables.{tables_of}
use Rattle.parser.proofs.ArgumentLoop.{Far}
use Rattle.parser.proofs.ItemLoop.{Loop}
use Rattle.parser.proofs.WordLoop.{Taking}
use Rattle.parser.proofs.+reading.Given as goal

-- so many ranks there are
abbrev ranks : ℕ
ranks = 6

abbrev ranked : ℕ → Parser → ℕ
ranked rank p = (nodes - p.builder.depth) * ranks + rank

abbrev pub decreases-arg : goal.decreases-arg
decreases-arg l = ranked 0 l.p

abbrev pub decreases-arguments : goal.decreases-arguments
decreases-arguments l = ranked 1 l.p

abbrev pub decreases-attach_component : goal.decreases-attach_component
decreases-attach_component l = ranked 0 l.p

abbrev pub decreases-command : goal.decreases-command
decreases-command l = ranked 1 l.p

abbrev pub decreases-content : goal.decreases-content
decreases-content l = ranked 2 l.p

abbrev pub decreases-environment : goal.decreases-environment
decreases-environment l = ranked 0 l.p

abbrev pub decreases-greedy_command : goal.decreases-greedy_command
decreases-greedy_command l = ranked 0 l.p

abbrev pub decreases-inside : goal.decreases-inside
decreases-inside l = ranked 4 l.p

abbrev pub decreases-item_group : goal.decreases-item_group
decreases-item_group l = ranked 0 l.p

abbrev pub decreases-item_lr : goal.decreases-item_lr
decreases-item_lr l = ranked 0 l.p

abbrev pub decreases-items : goal.decreases-items
decreases-items l = ranked 3 l.p

abbrev pub decreases-match_arguments : goal.decreases-match_arguments
decreases-match_arguments l = ranked 2 l.p

abbrev pub decreases-piece : goal.decreases-piece
decreases-piece l = ranked 5 l.p

abbrev pub decreases-script : goal.decreases-script
decreases-script l = ranked 5 l.p

abbrev pub decreases-with_arguments : goal.decreases-with_arguments
decreases-with_arguments l = ranked 0 l.p

-- ---- the loops of `arguments`

abbrev pub invariant-arguments-loop-word : goal.invariant-arguments-loop-word
invariant-arguments-loop-word l =
    let t = tables_of l.tables in
    (p : Parser) (first : Matcher) (b : Buffers)
    → Far t p first b l.initial.now (matcher_of l.initial.matcher) (buffers l.initial.tree l.initial.dropped)
    → Taking t p first b l.initial.now l.now (matcher_of l.matcher) l.word (buffers l.tree l.dropped)

abbrev pub decreases-arguments-loop-word : goal.decreases-arguments-loop-word
decreases-arguments-loop-word l = left_of (tables_of l.tables) l.now

abbrev pub invariant-arguments-arguments : goal.invariant-arguments-arguments
invariant-arguments-arguments l =
    Far (tables_of l.tables) l.initial.now (matcher_of l.initial.matcher) (buffers l.initial.tree l.initial.dropped) l.now
    (matcher_of l.matcher) (buffers l.tree l.dropped)

abbrev pub decreases-arguments-arguments : goal.decreases-arguments-arguments
decreases-arguments-arguments l = left_of (tables_of l.tables) l.now

-- ---- the loop of `items`

abbrev pub invariant-items-loop-extent : goal.invariant-items-loop-extent
invariant-items-loop-extent l =
    Loop (tables_of l.tables) l.initial.now (buffers l.initial.tree l.initial.dropped) l.extent l.first l.now
    (buffers l.tree l.dropped)

abbrev pub decreases-items-loop-extent : goal.decreases-items-loop-extent
decreases-items-loop-extent l = left_of (tables_of l.tables) l.now
