use Rattle.std.proofs.Common.{arith, ◌∙◌, FitsSigned, to_z-of_z, w32, w64}
use Rattle.jiff.proofs.SpanFacts.{signed_arith, can_add-days, date_add-days}
use Rattle.brk_money.proofs.Calendar.{epoch_day-first}
use Rattle.brk_money.proofs.dates.date_of_day.Goals as goal

pub unwrap-requires : goal.unwrap-requires
unwrap-requires c =
    let f4 : FitsSigned w32 c.get.result = omega (arith, signed_arith, c.get.ensures.value, c.get.ensures.high) in
    let days = c.from.ensures ∙ to_z-of_z f4 ∙ c.get.ensures.value in
    let f8 : FitsSigned w64 c.from.result = omega (arith, signed_arith, days, c.get.ensures.high) in
    let first = epoch_day-first c.date.result c.date.ensures in
    let only = simp (to_z-of_z f8) at c.days.ensures in
    let can = can_add-days c.date.result c.from.result c.days.result only in
    c.checked_add.ensures.succeeds.1 (can.1 (omega (arith, signed_arith, first, days, c.get.ensures.high), omega (arith, signed_arith, first, days, c.get.ensures.high)))

pub returns : goal.returns
returns c =
    let f4 : FitsSigned w32 c.get.result = omega (arith, signed_arith, c.get.ensures.value, c.get.ensures.high) in
    let days = c.from.ensures ∙ to_z-of_z f4 ∙ c.get.ensures.value in
    let f8 : FitsSigned w64 c.from.result = omega (arith, signed_arith, days, c.get.ensures.high) in
    let first = epoch_day-first c.date.result c.date.ensures in
    let only = simp (to_z-of_z f8) at c.days.ensures in
    let told = rw c.unwrap.ensures at c.checked_add.ensures.value in
    told ∙ date_add-days c.date.result c.from.result c.days.result only ∙ omega (arith, signed_arith, first, days)
