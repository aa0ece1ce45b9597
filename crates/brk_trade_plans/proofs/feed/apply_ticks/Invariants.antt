use Rattle.std.proofs.Common.{◌≡◌, ◌++◌, drop, false}
use Rattle.std.specs.List.{list_any}
use Rattle.brk_trade_plans.specs.Feed.{states_of_quotes, states_after_ticks, row_changes_of_ticks, trades_triggered_by_ticks, has_volume_above_limit}
use Rattle.brk_trade_plans.proofs.feed.apply_ticks.Given as goal

-- the outcome of the ticks that are left, after that of those before
abbrev pub invariant-loop-tick : goal.invariant-loop-tick
invariant-loop-tick l =
    let rest = drop l.tick-index l.ticks in
    let before = states_of_quotes l.fn.quotes.items in
    record {
      quotes : states_after_ticks l.stamp rest (states_of_quotes l.current.items) ≡ states_after_ticks l.stamp l.ticks before;
      within : list_any has_volume_above_limit (states_of_quotes l.current.items) ≡ false;
      changes : l.changes.items ++ row_changes_of_ticks l.stamp rest (states_of_quotes l.current.items) ≡ l.fn.changes.items ++ row_changes_of_ticks l.stamp l.ticks before;
      ids : l.ids.items ++ trades_triggered_by_ticks l.stamp rest (states_of_quotes l.current.items) ≡ l.fn.ids.items ++ trades_triggered_by_ticks l.stamp l.ticks before;
    }
