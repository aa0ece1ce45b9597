use Rattle.brk_store.proofs.TradesByIndex.{newest_read}
use Rattle.brk_store.proofs.store.Store.last_ten_trades.Goals as goal

pub returns-in-Made : goal.returns-in-Made
returns-in-Made g c =
    record {
      read = newest_read g.S.Store c.self.inside.conn c.in-Made.index (rw c.in-Made.is at c.self.invariant.1) c.read_chosen_rows.new.conn c.args.self.now c.self.view_is
          c.args.account 10 c.read_chosen_rows.result (rw c.ages-ages.ensures at c.read_chosen_rows.ensures.read);
    }
