use Rattle.std.proofs.Common.{◌≡◌, ◌∙◌, None, Option, Some, ap, map, option_map, sym}
use Rattle.brk_money.specs.declared.fault.CallFault.{CallFault}
use Rattle.brk_ref.specs.Rows as rows
use Rattle.brk_ref.specs.Rows.{abstract_trade_row}
use Rattle.brk_model.specs.Joins.{trade_row_with_id}
use Rattle.brk_model.specs.Tables.{Tables}
use Rattle.brk_store_reads.proofs.Retelling.{retold}
use Rattle.brk_explain_rows.specs.Details.{abstract_priced_lot_change, abstract_lot_details}
use Rattle.brk_explain_rows.specs.declared.holding_details.LotDetails.{LotDetails}
use Rattle.brk_explain_reads.specs.HoldingParts.{AreLotChangesByCompletion, lot_opened_by_trade}
use Rattle.brk_explain_reads.proofs.Changes.{lot_known, no_lot_known}
use Rattle.brk_store_reads.proofs.Sequences.{read_with, none_read}
use Rattle.brk_explain_reads.proofs.Reading.{both_change_nothing}
use Rattle.std.proofs.lemmas.Result.{err_from_is_err_and}
use Rattle.brk_explain_reads.proofs.holding_trades.read_opened_lot.Goals as goal

pub returns-in_default : goal.returns-in_default
returns-in_default g c =
    let trade = c.args.trade in
    let all = c.in_ok-all.all in
    retold g.S.Store c.args.store.now c.read_changes_of_lot.new.store {X = Option LotDetails} all None
    (λ all (t : Tables). AreLotChangesByCompletion t trade all) (λ lot (t : Tables). option_map abstract_lot_details lot ≡ lot_opened_by_trade t trade)
    (λ t k. no_lot_known t trade (ap (option_map rows.abstract_lot_change_row) (sym c.in_default.is) ∙ k.0))
    c.in_ok-all.ensures

pub returns : goal.returns
returns g c =
    let trade = c.args.trade in
    let all = c.in_ok-all.all in
    let first = c.in-Some.first in
    let row = c.in_ok-row.row in
    let made = c.lot_of_opening.ensures in
    read_with g.S.Store c.args.store.now c.read_changes_of_lot.new.store c.require_trade.new.store {H = CallFault} all row (Some c.lot_of_opening.result)
    (λ all (t : Tables). AreLotChangesByCompletion t trade all) (λ row (t : Tables). trade_row_with_id t trade ≡ Some (abstract_trade_row row))
    (λ lot (t : Tables). option_map abstract_lot_details lot ≡ lot_opened_by_trade t trade)
    (λ t k e. lot_known t trade first row c.lot_of_opening.result (ap (option_map rows.abstract_lot_change_row) (sym c.in-Some.is) ∙ k.0) e
    (ap (λ (l : LotDetails). l.trade) made) (ap (λ (l : LotDetails). l.opened) made) (ap (λ (l : LotDetails). map abstract_priced_lot_change l.changes.items) made ∙ k.1))
    c.in_ok-all.ensures c.in_ok-row.ensures.read

pub returns-in_err-row : goal.returns-in_err-row
returns-in_err-row g c =
    let old = c.args.store.now in
    let mid = c.read_changes_of_lot.new.store in
    let end = c.require_trade.new.store in
    let p = err_from_is_err_and c.from_residual-in_err-row.result c.from_residual-in_err-row.ensures.1 in
    rw p.1 (none_read g.S.Store old end p.0 _ (both_change_nothing g.S.Store old mid end _ _ _ _ c.in_ok-all.ensures c.in_err-row.ensures.read))
