use Rattle.std.proofs.Common.{◌≡◌, ◌==◌, Some, None, Option, ap, find, option_map}
use Rattle.brk_money.specs.declared.status.Status.{Status}
use Rattle.brk_model.specs.Joins.{trade_row_with_id}
use Rattle.brk_model.specs.Tables.{Tables, TradeRow}
use Rattle.brk_ref.specs.Rows.{abstract_trade_row}
use Rattle.brk_ref.specs.declared.trade_row.TradeRow as trade
use Rattle.brk_store_reads.proofs.Retelling.{retold}
use Rattle.brk_desk_decisions.proofs.cancel.read_status.Goals as goal

pub returns-in-Some : goal.returns-in-Some
returns-in-Some g c =
    retold g.S.Store c.args.store.now c.trade.new.self (Some c.in-Some.row) (Some c.in-Some.row.status)
    (λ o (t : Tables). option_map abstract_trade_row o ≡ find (λ (r : TradeRow). r.id == c.args.trade) t.trades)
    (λ status (t : Tables). status ≡ option_map (λ r. r.status) (trade_row_with_id t c.args.trade))
    (λ t e. ap (option_map (λ (r : TradeRow). r.status)) e)
    (rw c.in-Some.is at c.in_ok-row.ensures.read)

pub returns-in-None : goal.returns-in-None
returns-in-None g c =
    retold g.S.Store c.args.store.now c.trade.new.self {V = Option trade.TradeRow} {X = Option Status} None None
    (λ o (t : Tables). option_map abstract_trade_row o ≡ find (λ (r : TradeRow). r.id == c.args.trade) t.trades)
    (λ status (t : Tables). status ≡ option_map (λ r. r.status) (trade_row_with_id t c.args.trade))
    (λ t e. ap (option_map (λ (r : TradeRow). r.status)) e)
    (rw c.in-None.is at c.in_ok-row.ensures.read)
