-- The number of the digits, with the sign.
use Rattle.std.proofs.Common.{◌∙◌, true, false, sym, ap, Ok, arith}
use Rattle.std.proofs.lemmas.Int.{ints}
use Rattle.xf_base.proofs.ReadBackNumbers.{number_of-plain}
use Rattle.xf_base.proofs.fixed.plain_number.Goals as goal

pub returns-then-is_negative : goal.returns-then-is_negative
returns-then-is_negative c =
    let digits = c.in_ok-number.ensures in
    let sign = sym c.if-is_negative.true ∙ c.split_sign-is_negative.ensures.sign in
    number_of-plain c.args.text.now _ true c.in_ok-number.field-0 sign c.split_sign-is_negative.ensures.rest digits.some digits.digits digits.value digits.small
    ∙ ap Ok (omega (arith, ints, digits.small))

pub returns-else-is_negative : goal.returns-else-is_negative
returns-else-is_negative c =
    let digits = c.in_ok-number.ensures in
    let sign = sym c.if-is_negative.false ∙ c.split_sign-is_negative.ensures.sign in
    number_of-plain c.args.text.now _ false c.in_ok-number.field-0 sign c.split_sign-is_negative.ensures.rest digits.some digits.digits digits.value digits.small
    ∙ ap Ok (omega (arith, ints, digits.small))
