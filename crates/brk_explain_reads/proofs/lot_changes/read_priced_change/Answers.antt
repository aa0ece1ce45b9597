use Rattle.std.proofs.Common.{◌≡◌, ◌∙◌, Some, ap}
use Rattle.brk_ref.specs.Rows as rows
use Rattle.brk_ref.specs.Rows.{abstract_trade_row}
use Rattle.brk_model.specs.Joins.{trade_row_with_id}
use Rattle.brk_model.specs.Tables.{Tables}
use Rattle.brk_store_reads.proofs.Retelling.{retold}
use Rattle.brk_model_explain.specs.Holdings.{recorded_lot_change}
use Rattle.brk_explain_rows.specs.Details.{abstract_priced_lot_change}
use Rattle.brk_explain_reads.proofs.Changes.{step_known}
use Rattle.brk_explain_reads.proofs.lot_changes.read_priced_change.Goals as goal

pub returns : goal.returns
returns g c =
    let change = c.args.change.now in
    let trade = c.in_ok-trade.trade in
    let price = c.in-Some.price in
    retold g.S.Store c.args.store.now c.require_trade.new.store trade c.as_priced_change.result
    (λ trade (t : Tables). trade_row_with_id t change.trade ≡ Some (abstract_trade_row trade))
    (λ priced_change (t : Tables). abstract_priced_lot_change priced_change ≡ recorded_lot_change t (rows.abstract_lot_change_row change))
    (λ t e. ap abstract_priced_lot_change c.as_priced_change.ensures ∙ step_known t (rows.abstract_lot_change_row change) (abstract_trade_row trade) price e c.in-Some.is)
    c.in_ok-trade.ensures.read
