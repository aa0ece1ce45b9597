use Rattle.std.proofs.Common.{arith, ◌≡◌, ℕ, List, Some, refl, sym, ap, subst, ◌∙◌}
use Rattle.brk_lots.specs.Closing.{IsEffectOfDealOnLots}
use Rattle.brk_lots.specs.Lots.{shares_of_lots}
use Rattle.brk_lots.specs.Sources.{AreLotsOfFaithfulSource}
use Rattle.brk_lots.specs.Values.{closing_values_of_deal}
use Rattle.brk_lots.specs.declared.lot.Lot.{Lot}
use Rattle.brk_model.specs.Tests.{first_refusal}
use Rattle.brk_money.specs.Moments.{stamp_after}
use Rattle.brk_trade.specs.Outcomes.{deal_of_trade_row, checks_before_reading_lots, checks_after_reading_lots, result_checks}
use Rattle.brk_trade.specs.Results.{AreResultChanges, AreLotsBeforeTrade, IsResultPlan, stamp_or_clock_reading}
use Rattle.brk_trade.specs.declared.outcome.ResultFigures.{ResultFigures}
use Rattle.brk_trade_plans.specs.declared.plan.Plan.{Plan}
use Rattle.brk_trade_plans.specs.declared.reply.Reply.TheVariants.{Completed}
use Rattle.brk_trade.proofs.Results.{first_after, first_refuses, refused_by_values}
use Rattle.brk_trade.proofs.result.plan_result.Goals as goal

pub returns-in-Err-check_after_lots-clause-planned : goal.returns-in-Err-check_after_lots-clause-planned
returns-in-Err-check_after_lots-clause-planned g c =
    let found = c.in-Some.found.now in
    let closed = c.in_ok-closed.closed in
    let moved = c.stamp_after-moved.ensures in
    let told = rw moved at c.in-Err-check_after_lots.ensures in
    let refusal = c.in-Err-check_after_lots.refusal in
    let late : (ls : List Lot) (stamp : ℕ)
    → AreLotsBeforeTrade (AreLotsOfFaithfulSource (g.L.LotSource.reads_faithfully c.effect_of_trade_on_lots.new.source)
    (g.L.LotSource.remaining c.args.source.now)) found ls
    → first_refusal (result_checks found c.args.price (closing_values_of_deal (deal_of_trade_row found.trade c.args.price stamp) (shares_of_lots ls))
    (stamp_after c.args.last c.args.now)) ≡ Some refusal = λ ls stamp met.
    let closes : IsEffectOfDealOnLots (deal_of_trade_row found.trade c.args.price c.stamp_or_clock_reading-at.result) ls closed = c.in_ok-closed.ensures.closed ls met in
    refused_by_values found c.args.price ls c.stamp_or_clock_reading-at.result stamp closed (stamp_after c.args.last c.args.now) refusal closes c.in-Ok.ensures.0 told in
    rw c.in-Some.is (record { early = rw c.in-Ok.ensures.0 tt; late = late })

pub returns-clause-planned : goal.returns-clause-planned
returns-clause-planned g c =
    let found = c.in-Some.found.now in
    let price = c.args.price in
    let closed = c.in_ok-closed.closed in
    let outcome = c.in-Ok-check_after_lots.outcome in
    let done = c.in-Ok-check_after_lots.ensures in
    let moved = c.stamp_after-moved.ensures in
    let at = c.stamp_or_clock_reading-at.ensures ∙ ap (λ o. stamp_or_clock_reading o c.args.now) c.stamp_after-moved.ensures in
    let stamped : stamp_after c.args.last c.args.now ≡ Some outcome.completed.stamp = sym moved ∙ done.1 in
    let stamp : c.stamp_or_clock_reading-at.result ≡ outcome.completed.stamp = at ∙ ap (λ o. stamp_or_clock_reading o c.args.now) stamped in
    let tested = rw done.1 at done.0 in
    let changed : ResultFigures → Type 0 = λ o. AreResultChanges found price closed o c.in_ok-changes.changes.items in
    let plan : Plan = record { changes = c.in_ok-changes.changes; reply = Completed outcome.completed } in
    let completed : IsResultPlan found price
    (AreLotsOfFaithfulSource (g.L.LotSource.reads_faithfully c.effect_of_trade_on_lots.new.source) (g.L.LotSource.remaining c.args.source.now)) c.args.last
    c.args.now plan = record {
      stamp = outcome.completed.stamp;
      closed = closed;
      stamped = stamped;
      closes = λ ls met. rw stamp at (c.in_ok-closed.ensures.closed ls met);
      accepted = first_after (checks_before_reading_lots found) (checks_after_reading_lots found price closed.values (Some outcome.completed.stamp)) c.in-Ok.ensures.0 ∙ tested;
      replied = ap (λ (o : ResultFigures). Completed o.completed) done.2;
      changes = subst changed done.2 c.in_ok-changes.ensures.changes;
    } in
    rw c.in-Some.is completed

pub returns-in-Err-clause-planned : goal.returns-in-Err-clause-planned
returns-in-Err-clause-planned g c =
    let found = c.in-Some.found.now in
    let cause = c.in-Err.ensures in
    rw c.in-Some.is (record {
      early = rw cause refl;
      late = λ ls stamp met. first_refuses found c.args.price (closing_values_of_deal (deal_of_trade_row found.trade c.args.price stamp) (shares_of_lots ls))
          (stamp_after c.args.last c.args.now) c.in-Err.refusal cause;
    })

pub returns-in-Err-check_after_lots-clause-asked : goal.returns-in-Err-check_after_lots-clause-asked
returns-in-Err-check_after_lots-clause-asked g c =
    let at = c.stamp_or_clock_reading-at.ensures ∙ ap (λ o. stamp_or_clock_reading o c.args.now) c.stamp_after-moved.ensures in
    rw (c.in-Some.is, ← at) c.effect_of_trade_on_lots.ensures.asked

pub returns-clause-asked : goal.returns-clause-asked
returns-clause-asked g c =
    let at = c.stamp_or_clock_reading-at.ensures ∙ ap (λ o. stamp_or_clock_reading o c.args.now) c.stamp_after-moved.ensures in
    rw (c.in-Some.is, ← at) c.effect_of_trade_on_lots.ensures.asked

pub returns-in_err-closed-clause-asked : goal.returns-in_err-closed-clause-asked
returns-in_err-closed-clause-asked g c =
    let at = c.stamp_or_clock_reading-at.ensures ∙ ap (λ o. stamp_or_clock_reading o c.args.now) c.stamp_after-moved.ensures in
    rw (c.in-Some.is, ← at) c.effect_of_trade_on_lots.ensures.asked

pub returns-in_err-changes-clause-asked : goal.returns-in_err-changes-clause-asked
returns-in_err-changes-clause-asked g c =
    let at = c.stamp_or_clock_reading-at.ensures ∙ ap (λ o. stamp_or_clock_reading o c.args.now) c.stamp_after-moved.ensures in
    rw (c.in-Some.is, ← at) c.effect_of_trade_on_lots.ensures.asked

pub returns-in_err-closed-clause-leads : goal.returns-in_err-closed-clause-leads
returns-in_err-closed-clause-leads g c = c.effect_of_trade_on_lots.ensures.source.leads

pub returns-in_err-closed-clause-reads_no_lot : goal.returns-in_err-closed-clause-reads_no_lot
returns-in_err-closed-clause-reads_no_lot g c = rw c.in-Some.is c.effect_of_trade_on_lots.ensures.reads_no_lot

pub returns-in_err-closed-clause-rest : goal.returns-in_err-closed-clause-rest
returns-in_err-closed-clause-rest g c = c.effect_of_trade_on_lots.ensures.source.remaining

pub returns-in-Err-check_after_lots-clause-leads : goal.returns-in-Err-check_after_lots-clause-leads
returns-in-Err-check_after_lots-clause-leads g c = c.effect_of_trade_on_lots.ensures.source.leads

pub returns-in-Err-check_after_lots-clause-reads_no_lot : goal.returns-in-Err-check_after_lots-clause-reads_no_lot
returns-in-Err-check_after_lots-clause-reads_no_lot g c = rw c.in-Some.is c.effect_of_trade_on_lots.ensures.reads_no_lot

pub returns-in-Err-check_after_lots-clause-rest : goal.returns-in-Err-check_after_lots-clause-rest
returns-in-Err-check_after_lots-clause-rest g c = c.effect_of_trade_on_lots.ensures.source.remaining

pub returns-in_err-changes-clause-leads : goal.returns-in_err-changes-clause-leads
returns-in_err-changes-clause-leads g c = c.effect_of_trade_on_lots.ensures.source.leads

pub returns-in_err-changes-clause-reads_no_lot : goal.returns-in_err-changes-clause-reads_no_lot
returns-in_err-changes-clause-reads_no_lot g c = rw c.in-Some.is c.effect_of_trade_on_lots.ensures.reads_no_lot

pub returns-in_err-changes-clause-rest : goal.returns-in_err-changes-clause-rest
returns-in_err-changes-clause-rest g c = c.effect_of_trade_on_lots.ensures.source.remaining

pub returns-clause-leads : goal.returns-clause-leads
returns-clause-leads g c = c.effect_of_trade_on_lots.ensures.source.leads

pub returns-clause-reads_no_lot : goal.returns-clause-reads_no_lot
returns-clause-reads_no_lot g c = rw c.in-Some.is c.effect_of_trade_on_lots.ensures.reads_no_lot

pub returns-clause-rest : goal.returns-clause-rest
returns-clause-rest g c = c.effect_of_trade_on_lots.ensures.source.remaining

pub returns-in_default-clause-leads : goal.returns-in_default-clause-leads
returns-in_default-clause-leads g c = g.met.L.LotSource.reflexive c.args.source.now

pub returns-in_default-clause-rest : goal.returns-in_default-clause-rest
returns-in_default-clause-rest g c ls given = (0, given.1)

pub returns-in_default-trade_count_after_result-clause-leads : goal.returns-in_default-trade_count_after_result-clause-leads
returns-in_default-trade_count_after_result-clause-leads g c = g.met.L.LotSource.reflexive c.args.source.now

pub returns-in_default-trade_count_after_result-clause-rest : goal.returns-in_default-trade_count_after_result-clause-rest
returns-in_default-trade_count_after_result-clause-rest g c ls given = (0, given.1)

pub returns-in-Err-clause-leads : goal.returns-in-Err-clause-leads
returns-in-Err-clause-leads g c = g.met.L.LotSource.reflexive c.args.source.now

pub returns-in-Err-clause-rest : goal.returns-in-Err-clause-rest
returns-in-Err-clause-rest g c ls given = (0, given.1)

pub returns-in_default-trade_count_after_result-clause-asked : goal.returns-in_default-trade_count_after_result-clause-asked
returns-in_default-trade_count_after_result-clause-asked g c = rw c.in-Some.is (λ ls lots. omega arith)

pub returns-in_default-trade_count_after_result-clause-reads_no_lot : goal.returns-in_default-trade_count_after_result-clause-reads_no_lot
returns-in_default-trade_count_after_result-clause-reads_no_lot g c = rw c.in-Some.is (λ closes. refl)

pub returns-in-Err-clause-asked : goal.returns-in-Err-clause-asked
returns-in-Err-clause-asked g c = rw c.in-Some.is (λ ls lots. omega arith)

pub returns-in-Err-clause-reads_no_lot : goal.returns-in-Err-clause-reads_no_lot
returns-in-Err-clause-reads_no_lot g c = rw c.in-Some.is (λ closes. refl)
