use Rattle.std.proofs.Common.{Ok, length}
use Rattle.brk_money.specs.declared.fault.CallFault.{CallFault}
use Rattle.brk_store_transactions.specs.Holds.{ReadPost}
use Rattle.brk_desk_queries.proofs.StatusViews.{AreStatusesReadSoFar}
use Rattle.brk_desk_queries.proofs.statuses.fifty_trades_with_securities.Given as goal

abbrev pub invariant-loop-trade : goal.invariant-loop-trade
invariant-loop-trade g l = ReadPost {V = Unit {0}} {E = CallFault} g.S.Store l.fn.store l.store (Ok tt) (λ _. AreStatusesReadSoFar l.fn.account l.rest.items l.statuses.items)

abbrev pub decreases-loop-trade : goal.decreases-loop-trade
decreases-loop-trade g l = length l.rest.items
