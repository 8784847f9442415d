use Rattle.std.proofs.Common.{◌≡◌, ◌∙◌, sym, true}
use Rattle.line_fields.specs.Numbers.{is_numeral}
use Rattle.line_fields.proofs.NumberLaws.{numeral_from, numeral_utf8}
use Rattle.line_fields.proofs.numbers.numeral.Goals as goal

pub returns-in_default : goal.returns-in_default
returns-in_default c = absurd (c.in_default.ensures.cases.0 (numeral_utf8 c.args.word.now (sym c.is_numeral.ensures ∙ c.if-not-is_numeral.false)))

pub returns : goal.returns
returns c =
    let number : is_numeral c.args.word.now ≡ true = sym c.is_numeral.ensures ∙ c.if-not-is_numeral.false in
    c.ok.ensures.value ∙ numeral_from c.args.word.now c.parse.result (rw c.in-Ok.ensures.cases.0 at c.parse.ensures.value.0) number
