use Rattle.std.proofs.Common.{arith, subst, sym, take}
use Rattle.brk_trade_rows.specs.Changes.{tables_after_changes}
use Rattle.brk_store_index.specs.Index.{IsIndexOf}
use Rattle.brk_store_index.proofs.Changing.{one_more}
use Rattle.brk_store_index.proofs.index.RowIndex.update.Goals as goal

pub loop-change-preserved : goal.loop-change-preserved
loop-change-preserved c t is =
    subst (IsIndexOf c.update_one.new.self) (sym (one_more t c.args.changes.now c.loop-change.change-index c.change-item.result (omega arith) c.change-item.is))
    (c.in_ok-update_one.ensures (tables_after_changes (take c.loop-change.change-index c.args.changes.now) t) (c.loop-change.invariant t is))
