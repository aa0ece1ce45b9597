use Rattle.std.proofs.Common.{◌≡◌}
use Rattle.brk_trade_plans.specs.Feed.{requests_not_triggered_at_price}
use Rattle.brk_trade_plans.proofs.feed.untriggered_requests.Given as goal

abbrev pub invariant-loop-request : goal.invariant-loop-request
invariant-loop-request l = l.waiting.items ≡ requests_not_triggered_at_price l.price l.yielded
