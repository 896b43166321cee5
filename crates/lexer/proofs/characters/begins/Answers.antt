-- The pairs of ranges and bytes are asked one by one, where there are enough bytes.
use Rattle.std.proofs.Common.{◌∙◌, rules, tests}
use Rattle.std.proofs.lemmas.Iterator.{YieldsList-from_slice, YieldsList-from_zip}
use Rattle.std.proofs.lemmas.Iterator.Search.{all_from_yields_List}
use Rattle.rules.specs.Characters.{within}
use Rattle.lexer.proofs.Begins.{pairs, too_few}
use Rattle.lexer.proofs.characters.begins.Goals as goal

pub returns-then-ranges-bytes : goal.returns-then-ranges-bytes
returns-then-ranges-bytes c =
    all_from_yields_List (λ p. within p.0 p.1) c.all.new.self _ _ c.all.ensures.ran
    (YieldsList-from_zip (YieldsList-from_slice c.args.ranges.now cc) (YieldsList-from_slice c.args.bytes.now cc))
    (λ x b q k. search (rules, tests))
    ∙ pairs c.args.ranges.now c.args.bytes.now (search rules)

pub returns-else-ranges-bytes : goal.returns-else-ranges-bytes
returns-else-ranges-bytes c = search (rules, too_few)
