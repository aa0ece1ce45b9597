use Rattle.brk_store.proofs.TradesByIndex.{changes_read}
use Rattle.brk_store.proofs.store.Store.lot_changes_by_trade.Goals as goal

pub returns-in-Made : goal.returns-in-Made
returns-in-Made g c =
    record {
      read = changes_read g.S.Store c.self.inside.conn c.in-Made.index (rw c.in-Made.is at c.self.invariant.1) c.read_all_rows.new.conn c.args.self.now c.self.view_is
          c.args.trade c.read_all_rows.result (rw c.ages-ages.ensures at c.read_all_rows.ensures.read);
    }
