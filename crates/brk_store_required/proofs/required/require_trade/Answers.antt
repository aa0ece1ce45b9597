use Rattle.std.proofs.Common.{◌≡◌, ◌==◌, Some, find, option_map, sym}
use Rattle.brk_model.specs.Joins.{trade_row_with_id}
use Rattle.brk_model.specs.Tables.{Tables, TradeRow}
use Rattle.brk_ref.specs.Rows.{abstract_trade_row}
use Rattle.brk_store_reads.proofs.Retelling.{retold}
use Rattle.brk_store_required.proofs.required.require_trade.Goals as goal

pub returns-in-Some : goal.returns-in-Some
returns-in-Some g c =
    record {
      read = retold g.S.Store c.args.store.now c.trade.new.self (Some c.in-Some.trade) c.in-Some.trade
          (λ o (t : Tables). option_map abstract_trade_row o ≡ find (λ (r : TradeRow). r.id == c.args.id) t.trades)
          (λ trade (t : Tables). trade_row_with_id t c.args.id ≡ Some (abstract_trade_row trade))
          (λ t e. sym e)
          (rw c.in-Some.is at c.in_ok-trade.ensures.read);
    }
