use Rattle.std.proofs.Common.{◌≡◌, take, false}
use Rattle.std.specs.List.{list_any}
use Rattle.brk_trade_plans.specs.Feed.{states_of_quotes, has_volume_above_limit}
use Rattle.brk_trade_plans.proofs.feed.prove_volumes.Given as goal

abbrev pub invariant-loop-quote : goal.invariant-loop-quote
invariant-loop-quote l = list_any has_volume_above_limit (states_of_quotes (take l.quote-index l.quotes)) ≡ false
