use Rattle.std.proofs.Common.{◌≡◌, pos, ◌<ℤ◌, unsigned_abs, sym, ap, subst, ◌∙◌, arith}
use Rattle.std.specs.Int.{w64}
use Rattle.std.proofs.lemmas.Int.{ints, to_z-of_z}
use Rattle.jiff_core.specs.Date.{epoch_day}
use Rattle.xf_base.specs.Date.{is_day, IsDateOf}
use Rattle.xf_base.proofs.DayParts.{IsDateOf-date, is_day-date, is_day-before}
use Rattle.xf_base.proofs.date.date_of_day.Goals as goal

pub returns-in-Ok-clause-some : goal.returns-in-Ok-clause-some
returns-in-Ok-clause-some c =
    let day : epoch_day c.in-Ok.date ≡ c.args.day = c.in-Ok.ensures.value ∙ to_z-of_z w64 c.args.day c.ranges.day in
    sym (ap is_day (sym day) ∙ is_day-date c.in-Ok.date (unsigned_abs c.in-Ok.date.year) (grind (arith, ints, c.if-date-ge0.true)))

pub returns-in-Ok-clause-date : goal.returns-in-Ok-clause-date
returns-in-Ok-clause-date c =
    let day : epoch_day c.in-Ok.date ≡ c.args.day = c.in-Ok.ensures.value ∙ to_z-of_z w64 c.args.day c.ranges.day in
    subst (λ day. IsDateOf day c.in-Ok.date) day (IsDateOf-date c.in-Ok.date (unsigned_abs c.in-Ok.date.year) (grind (arith, ints, c.if-date-ge0.true)))

pub returns-in_default-clause-some : goal.returns-in_default-clause-some
returns-in_default-clause-some c =
    let day : epoch_day c.in-Ok.date ≡ c.args.day = c.in-Ok.ensures.value ∙ to_z-of_z w64 c.args.day c.ranges.day in
    let early : c.in-Ok.date.year <ℤ pos 0 = grind (arith, ints, c.if-date-ge0.false) in
    sym (ap is_day (sym day) ∙ is_day-before c.in-Ok.date early)
