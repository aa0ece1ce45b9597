use Rattle.std.proofs.Common.{[], ◌∷◌, filter}
use Rattle.sqlite_value.specs.declared.value.Value.TheVariants.{Text}
use Rattle.sqlite.specs.Held.{state}
use Rattle.brk_money.specs.Kinds.{is_same_trade_status, trade_status_code}
use Rattle.brk_money.specs.declared.status.Status.TheVariants.{Submitted}
use Rattle.brk_model.specs.Tables.{TradeRow}
use Rattle.brk_tables_sql.proofs.Answer.{look_all}
use Rattle.brk_tables_schema.specs.Cells.{trade_cells}
use Rattle.brk_tables_schema.specs.Desk.{desk_tables}
use Rattle.brk_ref.specs.Rows.{abstract_trade_row}
use Rattle.brk_tables_schema.proofs.TradingBack.{trade_back, trade_is_back}
use Rattle.brk_tables_trading.proofs.SubmittedTrades
use Rattle.brk_tables_trading.proofs.SubmittedTrades.{plain}
use Rattle.brk_tables_trading.proofs.Tells.{tells_submitted}
use Rattle.brk_tables_trading.proofs.trades.submitted_trades.Goals as goal

pub select_rows-requires : goal.select_rows-requires
select_rows-requires g c = record { no_returning_clause = plain }

pub returns-clause-step : goal.returns-clause-step
returns-clause-step g c =
    let old = state g.S.Store c.args.tx.now.conn.now in
    let new = state g.S.Store c.select_rows.new.tx.conn.now in
    look_all desk_tables trade_cells trade_back trade_is_back abstract_trade_row SubmittedTrades.statement (Text (trade_status_code Submitted) ∷ []) old new
    c.in_ok-rows.rows (λ rows. rows.items) _ c.deref.ensures.value (rw (c.status_param.ensures) at c.in_ok-rows.ensures.step)
    (λ all. all.items) c.decode_rows.result c.decode_rows.ensures.value (λ t. filter (λ (r : TradeRow). is_same_trade_status r.status Submitted) t.trades) (tells_submitted old new _)
