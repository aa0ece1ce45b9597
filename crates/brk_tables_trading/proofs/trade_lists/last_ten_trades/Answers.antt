use Rattle.std.proofs.Common.{[], ◌∷◌, take}
use Rattle.sqlite.specs.Held.{state}
use Rattle.brk_model.specs.Joins.{trade_rows_recent_first, trade_rows_of_account}
use Rattle.brk_tables_sql.proofs.Answer.{look_all}
use Rattle.brk_tables_schema.specs.Cells.{natural_as_value, trade_cells}
use Rattle.brk_tables_schema.specs.Desk.{desk_tables}
use Rattle.brk_ref.specs.Rows.{abstract_trade_row}
use Rattle.brk_tables_schema.proofs.TradingBack.{trade_back, trade_is_back}
use Rattle.brk_tables_trading.proofs.LastTenOfAccount
use Rattle.brk_tables_trading.proofs.LastTenOfAccount.{plain}
use Rattle.brk_tables_trading.proofs.LookingReads.{tells_last_ten}
use Rattle.brk_tables_trading.proofs.trade_lists.last_ten_trades.Goals as goal

pub select_rows-requires : goal.select_rows-requires
select_rows-requires g c = record { no_returning_clause = plain }

pub returns-clause-step : goal.returns-clause-step
returns-clause-step g c =
    let old = state g.S.Store c.args.tx.now.conn.now in
    let new = state g.S.Store c.select_rows.new.tx.conn.now in
    look_all desk_tables trade_cells trade_back trade_is_back abstract_trade_row LastTenOfAccount.statement (natural_as_value c.args.account ∷ []) old new
    c.in_ok-rows.rows (λ rows. rows.items) _ c.deref.ensures.value (rw (c.id_param.ensures) at c.in_ok-rows.ensures.step)
    (λ all. all.items) c.decode_rows.result c.decode_rows.ensures.value (λ t. take 10 (trade_rows_recent_first (trade_rows_of_account t c.args.account))) (tells_last_ten old new c.args.account _)
