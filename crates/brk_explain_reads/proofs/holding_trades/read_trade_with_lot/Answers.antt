use Rattle.std.proofs.Common.{◌≡◌, Some, option_map}
use Rattle.brk_money.specs.declared.fault.CallFault.{CallFault}
use Rattle.brk_ref.specs.Rows.{abstract_trade_row}
use Rattle.brk_model.specs.Joins.{trade_row_with_id}
use Rattle.brk_model.specs.Tables.{Tables}
use Rattle.brk_explain_rows.specs.Details.{abstract_lot_details}
use Rattle.brk_explain_reads.specs.HoldingParts.{IsTradeWithLot, lot_opened_by_trade}
use Rattle.brk_explain_reads.specs.declared.holding_trades.TradeAndLot.{TradeAndLot}
use Rattle.brk_store_reads.proofs.Sequences.{read_with, none_read}
use Rattle.brk_explain_reads.proofs.Reading.{both_change_nothing}
use Rattle.std.proofs.lemmas.Result.{err_from_is_err_and}
use Rattle.brk_explain_reads.proofs.holding_trades.read_trade_with_lot.Goals as goal

pub returns : goal.returns
returns g c =
    let trade = c.args.trade in
    let row = c.in_ok-row.row in
    let lot = c.in_ok-lot.lot in
    let one : TradeAndLot = record { trade = row; lot = lot } in
    read_with g.S.Store c.args.store.now c.require_trade.new.store c.read_opened_lot.new.store {H = CallFault} row lot one
    (λ row (t : Tables). trade_row_with_id t trade ≡ Some (abstract_trade_row row)) (λ lot (t : Tables). option_map abstract_lot_details lot ≡ lot_opened_by_trade t trade)
    (λ one (t : Tables). IsTradeWithLot t trade one)
    (λ t e k. (e, k))
    c.in_ok-row.ensures.read c.in_ok-lot.ensures

pub returns-in_err-lot : goal.returns-in_err-lot
returns-in_err-lot g c =
    let old = c.args.store.now in
    let mid = c.require_trade.new.store in
    let end = c.read_opened_lot.new.store in
    let p = err_from_is_err_and c.from_residual-in_err-lot.result c.from_residual-in_err-lot.ensures.1 in
    rw p.1 (none_read g.S.Store old end p.0 _ (both_change_nothing g.S.Store old mid end _ _ _ _ c.in_ok-row.ensures.read c.in_err-lot.ensures))
