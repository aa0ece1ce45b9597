use Rattle.std.proofs.Common.{Ok, take}
use Rattle.brk_money.specs.declared.fault.CallFault.{CallFault}
use Rattle.brk_store_transactions.specs.Holds.{ReadPost}
use Rattle.brk_trade_plans.specs.Feed.{states_of_quotes}
use Rattle.brk_desk_decisions.proofs.Feeds.{QuotesAndLastStampMatch}
use Rattle.brk_desk_decisions.proofs.feed.feed_facts.Given as goal

abbrev pub invariant-loop-tick : goal.invariant-loop-tick
invariant-loop-tick g l =
    ReadPost {V = Unit {0}} {E = CallFault} g.S.Store l.fn.store l.store (Ok tt)
    (λ _. QuotesAndLastStampMatch l.ticks (take l.tick-index l.ticks) (states_of_quotes l.quotes.items) l.last)
