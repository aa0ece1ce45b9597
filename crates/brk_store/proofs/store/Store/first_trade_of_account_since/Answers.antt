use Rattle.brk_store.proofs.TradesByIndex.{first_read}
use Rattle.brk_store.proofs.store.Store.first_trade_of_account_since.Goals as goal

pub returns-in-Made : goal.returns-in-Made
returns-in-Made g c =
    record {
      read = first_read g.S.Store c.self.inside.conn c.in-Made.index (rw c.in-Made.is at c.self.invariant.1) c.read_optional_row.new.conn c.args.self.now c.self.view_is
          c.args.account c.args.first c.first_age_since-age.result (rw c.ages.ensures at c.first_age_since-age.ensures) c.read_optional_row.result c.read_optional_row.ensures.read;
    }
