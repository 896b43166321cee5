-- The search asks the rule's question of each row, and that doesn't look at the states.
use Rattle.std.proofs.Common.{◌≡◌, true, false, rules, tests}
use Rattle.std.proofs.lemmas.Iterator.{first_from_Range}
use Rattle.rules.specs.Checks.{token_right, word_right}
use Rattle.syntax.specs.Tables.{given}
use Rattle.checks.proofs.Rows.{first}
use Rattle.checks.proofs.tokens.first_bad_token.Goals as goal

pub returns : goal.returns
unfolding token_right word_right
returns c =
    let right = token_right (given c.args.tables) in
    let cases =
    first_from_Range _ _ _ _ (λ row. right row ≡ false) (λ row. right row ≡ true) c.find.ensures.ran (λ x q k. search (rules, tests))
    (λ x q k. search (rules, tests)) in
    record { is = λ states. first right _ _ cases }
