use Rattle.std.proofs.Common.{◌≡◌, true, Some, sym, ap, arith}
use Rattle.std.specs.Int.{w64}
use Rattle.std.proofs.lemmas.Int.{ints, to_z-of_z}
use Rattle.xf_base.specs.Date.{is_day, IsDateOf}
use Rattle.xf_base.proofs.DayParts.{is_day-IsDay, year_start-date}
use Rattle.xf_base.proofs.date.year_start.Goals as goal

-- what the date says is of the number
is_true : (c : goal.After-from) → is_day c.args.day ≡ true
is_true c = rw (to_z-of_z w64 c.args.day c.ranges.day) at (sym c.in_ok-date.ensures.some)

date_is : (c : goal.After-from) → IsDateOf c.args.day c.in_ok-date.date
date_is c = rw (to_z-of_z w64 c.args.day c.ranges.day) at c.in_ok-date.ensures.date

pub returns : goal.returns
returns c =
    let is : is_day c.args.day ≡ true = is_true c in
    let within = is_day-IsDay c.args.day is in
    let first = year_start-date c.args.day c.in_ok-date.date (date_is c) in
    rw is (ap Some (omega (arith, ints, within, c.from.ensures, c.day_of_year.ensures, first)))
