use Rattle.std.proofs.Common.{◌≡◌, ◌++◌, take}
use Rattle.brk_trade_plans.specs.Feed.{row_changes_of_submissions, trades_triggered_at_price}
use Rattle.brk_trade_plans.proofs.feed.submit_triggered.Given as goal

abbrev pub invariant-loop-request : goal.invariant-loop-request
invariant-loop-request l =
    let ids = trades_triggered_at_price l.price (take l.request-index l.requests) in
    record {
      changes : l.changes.items ≡ l.fn.changes.items ++ row_changes_of_submissions l.stamp ids;
      ids : l.ids.items ≡ l.fn.ids.items ++ ids;
    }
