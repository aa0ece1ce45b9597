use Rattle.std.proofs.Common.{refl}
use Rattle.std.specs.Prelude.{bytes_eq}
use Rattle.brk_model.specs.Tables.{TradeRow}
use Rattle.brk_store_index.specs.Index as group
use Rattle.brk_store.proofs.TradesByIndex.{twenty_read}
use Rattle.brk_store.proofs.store.Store.twenty_trades_of_symbol.Goals as goal

pub returns-in-Made : goal.returns-in-Made
returns-in-Made g c =
    record {
      read = twenty_read g.S.Store c.self.inside.conn c.in-Made.index (rw c.in-Made.is at c.self.invariant.1) c.read_twenty_between.new.conn c.args.self.now c.self.view_is
          (λ (r : TradeRow). bytes_eq r.symbol c.args.symbol.now) (group.TradesOfSymbol c.args.symbol.now) (λ t. refl) c.args.span.first c.args.span.last c.read_twenty_between.result
          (rw c.ages-ages.ensures at c.read_twenty_between.ensures.read);
    }
