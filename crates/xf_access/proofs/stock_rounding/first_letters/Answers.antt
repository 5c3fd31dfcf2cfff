use Rattle.xf_access.specs.Round.{first_letters}
use Rattle.xf_access.proofs.Letters.{rest-le, is_boundary, front_is}
use Rattle.xf_access.proofs.stock_rounding.first_letters.Goals as goal

pub overflow_sub-text : goal.overflow_sub-text
overflow_sub-text c = rest-le (first_letters c.args.count c.args.text.now) c.after_letters-rest.result.now c.args.text.now c.after_letters-rest.ensures

pub range-requires-clause-end_boundary : goal.range-requires-clause-end_boundary
range-requires-clause-end_boundary c =
    is_boundary (first_letters c.args.count c.args.text.now) c.after_letters-rest.result.now c.args.text.now c.after_letters-rest.utf8 c.after_letters-rest.ensures

pub returns : goal.returns
returns c = rw c.range.ensures.value (front_is (first_letters c.args.count c.args.text.now) c.after_letters-rest.result.now c.args.text.now c.after_letters-rest.ensures)
