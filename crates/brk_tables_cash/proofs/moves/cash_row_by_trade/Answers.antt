use Rattle.std.proofs.Common.{[], ◌∷◌, find, filter}
use Rattle.sqlite_keyed.proofs.ListLemmas.{slice_get-filter}
use Rattle.sqlite.specs.Held.{state}
use Rattle.brk_ref.specs.Rows.{abstract_cash_row}
use Rattle.brk_model.specs.LookupView.{is_cash_row_of_trade}
use Rattle.brk_model.specs.Tables.{Tables}
use Rattle.brk_tables_sql.proofs.Answer.{look_first}
use Rattle.brk_tables_schema.specs.Cells.{natural_as_value, move_cells}
use Rattle.brk_tables_schema.specs.Desk.{desk_tables}
use Rattle.brk_tables_schema.proofs.Back.{move_back, move_is_back}
use Rattle.brk_tables_cash.proofs.MoveByTrade
use Rattle.brk_tables_cash.proofs.MoveByTrade.{plain}
use Rattle.brk_tables_cash.proofs.CashReads.{tells_move}
use Rattle.brk_tables_cash.proofs.moves.cash_row_by_trade.Goals as goal

pub select_rows-requires : goal.select_rows-requires
select_rows-requires g c = record { no_returning_clause = plain }

pub returns-clause-step : goal.returns-clause-step
returns-clause-step g c =
    let old = state g.S.Store c.args.tx.now.conn.now in
    let new = state g.S.Store c.select_rows.new.tx.conn.now in
    look_first desk_tables move_cells move_back move_is_back abstract_cash_row MoveByTrade.statement (natural_as_value c.args.trade ∷ []) old new
    c.in_ok-rows.rows (λ rows. rows.items) _ c.deref.ensures.value (rw (c.id_param.ensures) at c.in_ok-rows.ensures.step)
    c.decode_first_row.result c.decode_first_row.ensures.value (λ (t : Tables). filter (is_cash_row_of_trade c.args.trade) t.moves)
    (λ (t : Tables). find (is_cash_row_of_trade c.args.trade) t.moves) (λ t. slice_get-filter (is_cash_row_of_trade c.args.trade) t.moves)
    (tells_move old new c.args.trade _)
