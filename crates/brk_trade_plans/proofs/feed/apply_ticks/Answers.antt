use Rattle.std.proofs.Common.{arith, sym, ap, ◌∙◌}
use Rattle.std.specs.List.{list_any}
use Rattle.brk_trade_plans.specs.Feed.{has_volume_above_limit, states_of_quotes}
use Rattle.brk_trade_plans.proofs.Volumes.{beyond_after}
use Rattle.brk_trade_plans.proofs.feed.apply_ticks.Goals as goal

pub returns-in-Err-clause-refusal : goal.returns-in-Err-clause-refusal
returns-in-Err-clause-refusal c =
    let refused = rw c.in-Err.is at c.in_ok-after.ensures.refusal in (
      refused.0,
      ap (list_any has_volume_above_limit) (sym c.loop-tick.invariant.quotes)
          ∙ beyond_after c.args.stamp c.args.ticks.now c.loop-tick.tick-index c.tick-item.result (states_of_quotes c.loop-tick.current.items) (omega arith) c.tick-item.is refused.1,
    )
