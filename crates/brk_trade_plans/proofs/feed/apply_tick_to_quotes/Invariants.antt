use Rattle.std.proofs.Common.{◌≡◌, ◌++◌, false}
use Rattle.std.specs.List.{list_any}
use Rattle.brk_trade_plans.specs.Feed.{states_of_quotes, states_after_tick, row_changes_of_tick, trades_triggered_by_tick, has_volume_above_limit}
use Rattle.brk_trade_plans.proofs.feed.apply_tick_to_quotes.Given as goal

abbrev pub invariant-loop-quote : goal.invariant-loop-quote
invariant-loop-quote l = record {
  quotes : states_of_quotes l.after.items ≡ states_after_tick l.stamp (states_of_quotes l.yielded) l.tick;
  changes : l.changes.items ≡ l.fn.changes.items ++ row_changes_of_tick l.stamp l.tick (states_of_quotes l.yielded);
  within : list_any has_volume_above_limit (states_of_quotes l.after.items) ≡ false;
  ids : l.ids.items ≡ l.fn.ids.items ++ trades_triggered_by_tick l.tick (states_of_quotes l.yielded);
}
