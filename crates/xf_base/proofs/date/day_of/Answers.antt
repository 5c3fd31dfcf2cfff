use Rattle.std.proofs.Common.{◌≡◌, pos, sym, arith}
use Rattle.std.proofs.lemmas.Int.{ints}
use Rattle.std.specs.Int.{cast_signed, cast_unsigned, w64}
use Rattle.jiff_core.specs.Date.{epoch_day}
use Rattle.xf_base.proofs.ReadDates.{day_of-date, epoch_day-within}
use Rattle.xf_base.proofs.date.day_of.Goals as goal

-- what is returned is the date's day
day_is : (c : goal.After-from) → cast_signed w64 (cast_unsigned w64 c.from.result) ≡ epoch_day c.in-Ok.date
day_is c =
    let value : c.to_unix_epoch_day.result ≡ epoch_day c.in-Ok.date = rw c.to_plain.ensures at c.to_unix_epoch_day.ensures.value in
    rw (← value) (omega (arith, ints))

year_is : (c : goal.After-from) → c.in-Ok.date.year ≡ pos c.args.year
year_is c = omega (arith, ints, c.in-Ok.ensures.value)

pub returns-in-Ok-clause-value : goal.returns-in-Ok-clause-value
returns-in-Ok-clause-value c =
    rw (day_is c) (sym (day_of-date c.in-Ok.date c.args.year c.args.month c.args.day (year_is c) (omega (arith, ints, c.in-Ok.ensures.value)) (omega (arith, ints, c.in-Ok.ensures.value))))

pub returns-in-Ok-clause-within : goal.returns-in-Ok-clause-within
returns-in-Ok-clause-within c = rw (day_is c) (epoch_day-within c.in-Ok.date c.args.year (year_is c))
