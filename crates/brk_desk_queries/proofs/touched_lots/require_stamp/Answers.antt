use Rattle.std.proofs.Common.{◌≡◌, ◌==◌, Some, ap, find, option_map}
use Rattle.std.specs.Option.{option_map_or}
use Rattle.brk_ref.specs.Rows.{abstract_trade_row}
use Rattle.brk_model.specs.Tables.{Tables, TradeRow}
use Rattle.brk_store_reads.proofs.Retelling.{retold}
use Rattle.brk_desk_queries.specs.Touched.{last_status_stamp}
use Rattle.brk_desk_queries.proofs.touched_lots.require_stamp.Goals as goal

pub returns-in-Some : goal.returns-in-Some
returns-in-Some g c =
    retold g.S.Store c.args.store.now c.trade.new.self (Some c.in-Some.row) c.in-Some.row.stamp
    (λ o (t : Tables). option_map abstract_trade_row o ≡ find (λ (r : TradeRow). r.id == c.args.trade) t.trades)
    (λ stamp (t : Tables). stamp ≡ last_status_stamp t c.args.trade)
    (λ t e. ap (λ o. option_map_or (λ (r : TradeRow). r.stamp) o 0) e)
    (rw c.in-Some.is at c.in_ok-row.ensures.read)
