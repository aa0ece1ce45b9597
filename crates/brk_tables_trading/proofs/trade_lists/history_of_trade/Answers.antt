use Rattle.std.proofs.Common.{[], ◌∷◌, filter, ◌==◌}
use Rattle.sqlite.specs.Held.{state}
use Rattle.brk_model.specs.Tables.{HistoryRow}
use Rattle.brk_tables_sql.proofs.Answer.{look_all}
use Rattle.brk_tables_schema.specs.Cells.{natural_as_value, history_cells}
use Rattle.brk_tables_schema.specs.Desk.{desk_tables}
use Rattle.brk_ref.specs.Rows.{abstract_history_row}
use Rattle.brk_tables_schema.proofs.TradingBack.{history_back, history_is_back}
use Rattle.brk_tables_trading.proofs.HistoryOf
use Rattle.brk_tables_trading.proofs.HistoryOf.{plain}
use Rattle.brk_tables_trading.proofs.LookingReads.{tells_history}
use Rattle.brk_tables_trading.proofs.trade_lists.history_of_trade.Goals as goal

pub select_rows-requires : goal.select_rows-requires
select_rows-requires g c = record { no_returning_clause = plain }

pub returns-clause-step : goal.returns-clause-step
returns-clause-step g c =
    let old = state g.S.Store c.args.tx.now.conn.now in
    let new = state g.S.Store c.select_rows.new.tx.conn.now in
    look_all desk_tables history_cells history_back history_is_back abstract_history_row HistoryOf.statement (natural_as_value c.args.trade ∷ []) old new
    c.in_ok-rows.rows (λ rows. rows.items) _ c.deref.ensures.value (rw (c.id_param.ensures) at c.in_ok-rows.ensures.step)
    (λ all. all.items) c.decode_rows.result c.decode_rows.ensures.value (λ t. filter (λ (r : HistoryRow). r.trade == c.args.trade) t.history) (tells_history old new c.args.trade _)
