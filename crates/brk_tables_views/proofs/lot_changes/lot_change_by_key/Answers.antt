use Rattle.std.proofs.Common.{[], ◌∷◌, ◌==◌, ◌&&◌, find, filter}
use Rattle.sqlite_keyed.proofs.ListLemmas.{slice_get-filter}
use Rattle.sqlite.specs.Held.{state}
use Rattle.brk_model.specs.Tables.{HoldingHistoryRow}
use Rattle.brk_tables_sql.proofs.Answer.{look_first}
use Rattle.brk_tables_schema.specs.Cells.{natural_as_value, holding_history_cells}
use Rattle.brk_tables_schema.specs.Desk.{desk_tables}
use Rattle.brk_ref.specs.Rows.{abstract_lot_change_row}
use Rattle.brk_tables_schema.proofs.TradingBack.{holding_history_back, holding_history_is_back}
use Rattle.brk_tables_views.proofs.ListReads.{tells_change}
use Rattle.brk_tables_views.proofs.ChangeByKey
use Rattle.brk_tables_views.proofs.ChangeByKey.{plain}
use Rattle.brk_tables_views.proofs.lot_changes.lot_change_by_key.Goals as goal

pub select_rows-requires : goal.select_rows-requires
select_rows-requires g c = record { no_returning_clause = plain }

pub returns-clause-step : goal.returns-clause-step
returns-clause-step g c =
    let old = state g.S.Store c.args.tx.now.conn.now in
    let new = state g.S.Store c.select_rows.new.tx.conn.now in
    let is_change = λ (r : HoldingHistoryRow). (r.lot == c.args.lot) && (r.trade == c.args.trade) in
    look_first desk_tables holding_history_cells holding_history_back holding_history_is_back abstract_lot_change_row ChangeByKey.statement
    (natural_as_value c.args.lot ∷ natural_as_value c.args.trade ∷ []) old new c.in_ok-rows.rows (λ rows. rows.items) _ c.deref.ensures.value
    (rw (c.id_param.ensures, c.id_param-2.ensures) at c.in_ok-rows.ensures.step)
    c.decode_first_row.result c.decode_first_row.ensures.value (λ t. filter is_change t.holding_history) (λ t. find is_change t.holding_history)
    (λ t. slice_get-filter is_change t.holding_history) (tells_change old new c.args.lot c.args.trade _)
