use Rattle.brk_ref_orders.proofs.Days.{day_read, no_day}
use Rattle.brk_ref_orders.proofs.one_day.parse_day_with_limit.Goals as goal

pub returns-in_default : goal.returns-in_default
returns-in_default c = no_day c.args.bytes.now c.in_default.ensures.none

pub returns : goal.returns
returns c = day_read c.args.bytes.now c.in-Some.day c.get-limit.ensures.high c.in-Some.ensures.found
