use Rattle.std.proofs.Common.{◌≡◌, Some, ap, find, option_map}
use Rattle.std.specs.Prelude.{bytes_eq}
use Rattle.std.specs.Option.{option_map_or}
use Rattle.brk_model.specs.Joins.{last_price_in_tables}
use Rattle.brk_model.specs.Tables.{LastTradeRow, Tables}
use Rattle.brk_ref.specs.Records.{abstract_last_trade_row}
use Rattle.brk_store_reads.proofs.Retelling.{retold}
use Rattle.brk_store_required.proofs.valuation.require_last_price.Goals as goal

pub returns-in-Some : goal.returns-in-Some
returns-in-Some g c =
    let symbol = c.args.symbol.now in
    let last = c.in-Some.last in
    record {
      read = retold g.S.Store c.args.store.now c.last_trade.new.self (Some last) last.price
          (λ o (t : Tables). option_map abstract_last_trade_row o ≡ find (λ (r : LastTradeRow). bytes_eq r.symbol symbol) t.last_trades)
          (λ price (t : Tables). price ≡ last_price_in_tables t symbol)
          (λ t e. ap (λ o. option_map_or (λ (r : LastTradeRow). r.price) o 0) e)
          (rw c.in-Some.is at c.in_ok-last.ensures.read);
    }
