use Rattle.brk_model.specs.Commands.{FeedTicks}
use Rattle.brk_ref_orders.specs.Records.{abstract_ticks}
use Rattle.brk_trade_plans.specs.Feed.{states_of_quotes}
use Rattle.brk_trade_theorems.specs.Decisions.{DecidesCommand}
use Rattle.brk_store_reads.proofs.ReadResults.{decided}
use Rattle.brk_desk_decisions.proofs.SameValues.{same_value}
use Rattle.brk_desk_decisions.proofs.Feeds.{QuotesAndLastStampMatch, feed_decided}
use Rattle.brk_desk_decisions.proofs.feed.decide_feed.Goals as goal

pub returns : goal.returns
returns g c =
    let ticks = c.args.feed.now in
    let last = c.in_ok-last.last in
    let quotes = c.in_ok-last.quotes in
    decided g.S.Store c.args.store.now c.feed_facts.new.store (last, quotes)
    (λ market. QuotesAndLastStampMatch ticks ticks (states_of_quotes market.1.items) market.0)
    (DecidesCommand c.args.now (FeedTicks (abstract_ticks ticks))) c.map_err.result
    (rw c.ticks.ensures at c.in_ok-last.ensures)
    (same_value c.plan_feed.result c.map_err.result _ _ c.map_err.ensures.cases
    (feed_decided ticks (states_of_quotes quotes.items) last c.args.now c.get-moment.ensures.high c.plan_feed.result c.plan_feed.ensures.planned))
