use Rattle.brk_store.proofs.WalkedLists.{completed_walked}
use Rattle.brk_store.proofs.store.Store.visit_completed_trades.Goals as goal

pub returns-clause-walked : goal.returns-clause-walked
returns-clause-walked g c = rw c.self.view_is at (completed_walked _ _ _ _ _ _ _ _ c.walk_completed_trades.ensures.walked)
