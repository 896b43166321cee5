-- The search asks the rule's question of each row, and that looks at neither the text nor the tokens.
use Rattle.std.proofs.Common.{◌≡◌, true, false, rules, tests}
use Rattle.std.proofs.lemmas.Iterator.{first_from_Range}
use Rattle.rules.specs.Checks.{shape_or_state_right}
use Rattle.syntax.specs.Tables.{given}
use Rattle.checks.proofs.Rows.{first}
use Rattle.checks.proofs.shapes.first_bad_shape_or_state.Goals as goal

pub returns : goal.returns
unfolding shape_or_state_right
returns c =
    let right = shape_or_state_right (given c.args.tables) in
    let cases =
    first_from_Range _ _ _ _ (λ row. right row ≡ false) (λ row. right row ≡ true) c.find.ensures.ran (λ x q k. search (rules, tests))
    (λ x q k. search (rules, tests)) in
    record { is = λ text_and_tokens. first right _ _ cases }
