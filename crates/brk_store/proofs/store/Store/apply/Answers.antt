use Rattle.std.proofs.Common.{refl}
use Rattle.brk_trade_rows.specs.Changes.{tables_after_changes}
use Rattle.brk_store.proofs.KeptIndex.{applied_as, index_after_changes, not_applied_as}
use Rattle.brk_store.proofs.store.Store.apply.Goals as goal

pub invariant_of-self : goal.invariant_of-self
invariant_of-self g c = (
  c.in-Ok.ensures.mode,
  index_after_changes g.S.Store c.self.inside.conn c.apply_changes.new.conn c.self.inside.index c.index_after_changes.result
      (tables_after_changes c.args.changes.now) c.in-Ok.ensures.applied (rw c.replace-index.ensures.value at c.index_after_changes.ensures) c.self.invariant.1,
)

pub returns-in-Ok : goal.returns-in-Ok
returns-in-Ok g c = record { applied = applied_as g.S.Store c.args.self.now _ tt _ (rw c.self.view_is at c.in-Ok.ensures.applied); fault = tt }

pub returns-in-Err : goal.returns-in-Err
returns-in-Err g c = record { applied = not_applied_as g.S.Store c.args.self.now _ _ _ _ (rw c.self.view_is at c.in-Err.ensures.applied); fault = refl }
