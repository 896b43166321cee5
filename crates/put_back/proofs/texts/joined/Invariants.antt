-- The loop's invariant: whatever writes the texts from this token on has written them all.
use Rattle.std.proofs.Common.{◌-◌}
use Rattle.rules.specs.PutBack.{texts_from, token_texts}
use Rattle.rules.specs.Tables.{token_count}
use Rattle.listings.proofs.Writing.{Left}
use Rattle.put_back.proofs.texts.joined.Given as goal

abbrev pub invariant-loop-row : goal.invariant-loop-row
invariant-loop-row l =
    Left (texts_from l.text l.tokens l.row-index (token_count l.tokens - l.row-index)) l.out l.next (token_texts l.text l.tokens) l.fn.out 0
