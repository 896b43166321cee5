-- The numbers that stand there are compared one by one.
use Rattle.std.proofs.Common.{rules, tests, ◌≡◌, ◌+◌, ◌-◌, length, take, drop, arith, length-drop}
use Rattle.std.proofs.lemmas.List.{length-take-le}
use Rattle.std.proofs.lemmas.Iterator.{same_from_all, YieldsList-from_slice, YieldsList-from_zip}
use Rattle.compare.proofs.Telling.{decides}
use Rattle.compare.proofs.stand_at.Goals as goal

pub returns : goal.returns
returns c =
    let size = length c.args.numbers.now in
    let rest = drop c.args.from c.args.buffer.now in
    let count : c.args.from + size - c.args.from ≡ size = omega arith in
    let long : length (take (c.args.from + size - c.args.from) rest) ≡ size =
    rw count (length-take-le size rest (omega (arith, length-drop c.args.from c.args.buffer.now))) in
    decides
    (rw count at
    (same_from_all c.all.new.self _ _ (take (c.args.from + size - c.args.from) rest) c.args.numbers.now c.all.ensures.ran
    (YieldsList-from_zip (YieldsList-from_slice _ cc) (YieldsList-from_slice _ cc)) long
    (λ x q k. search (rules, tests)) (λ x q k. search (rules, tests))))
