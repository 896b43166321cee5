-- What is left is as good as all bytes.
use Rattle.std.proofs.Common.{◌≡◌, length}
use Rattle.rules.specs.Characters.{is_utf8}
use Rattle.lexer.proofs.characters.is_utf8.Given as goal

abbrev pub invariant-loop-first : goal.invariant-loop-first
invariant-loop-first l = is_utf8 l.bytes ≡ is_utf8 l.rest

abbrev pub decreases-loop-first : goal.decreases-loop-first
decreases-loop-first l = length l.rest
