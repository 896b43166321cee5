-- Each arm is the token that its byte begins.
use Rattle.std.proofs.Common.{◌≡◌, get_or, sym, ◌∙◌, arith}
use borrow.Author.Tests.{ne_eqb}
use Rattle.rules.proofs.Lexemes.{is_alone}
use Rattle.tokeniser.proofs.Fronts.{new_line, backslash, comment, dollars, dollar, alone}
use Rattle.tokeniser.proofs.lexeme.mark.Goals as goal

pub returns-then-stands : goal.returns-then-stands
returns-then-stands c = new_line _ _ c.requires.0 c.in-92.is (sym c.stands.ensures ∙ c.if-stands.true) c.plain.ensures

pub returns-else-stands : goal.returns-else-stands
returns-else-stands c = backslash _ _ c.requires.0 c.in-92.is (sym c.stands.ensures ∙ c.if-stands.false) c.command.ensures

pub returns-in-37 : goal.returns-in-37
returns-in-37 c = comment _ _ c.requires.0 _ c.in-37.is c.run_end.ensures c.plain-in-37.ensures

pub returns-then-stands-2 : goal.returns-then-stands-2
returns-then-stands-2 c =
    dollars _ _ c.requires.0 c.in-36.is (sym c.stands-in-36.ensures ∙ c.if-stands-2.true) c.plain-then-stands-2.ensures

pub returns-else-stands-2 : goal.returns-else-stands-2
returns-else-stands-2 c = dollar _ _ c.requires.0 c.in-36.is (sym c.stands-in-36.ensures ∙ c.if-stands-2.false) c.plain-in-36.ensures

pub returns-in_default : goal.returns-in_default
returns-in_default c =
    let known = c.requires.2 in
    let byte = get_or c.args.text.now c.args.at 0 in
    let backslash : byte ≡ 0x5C → ⊥ = omega arith in
    let percent : byte ≡ 0x25 → ⊥ = omega arith in
    let dollar : byte ≡ 0x24 → ⊥ = omega arith in
    alone _ _ c.requires.0 _ c.kind_alone.ensures
    (is_alone byte known.no_word known.no_break known.no_blank (ne_eqb byte 0x5C backslash) (ne_eqb byte 0x25 percent) (ne_eqb byte 0x24 dollar))
    c.plain-in_default.ensures
