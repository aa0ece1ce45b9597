use Rattle.std.proofs.Common.{[], ◌∷◌}
use Rattle.sqlite_value.specs.declared.value.Value.TheVariants.{Text}
use Rattle.sqlite.specs.Held.{state}
use Rattle.brk_money.specs.Kinds.{trade_status_code}
use Rattle.brk_money.specs.declared.status.Status.TheVariants.{Completed}
use Rattle.brk_tables_sql.proofs.Answer.{look_all}
use Rattle.brk_tables_schema.specs.Cells.{natural_as_value, trade_cells}
use Rattle.brk_tables_schema.specs.Desk.{desk_tables}
use Rattle.brk_trade_rows.specs.Chosen.{first_twenty_completed_trade_rows_of_account}
use Rattle.brk_ref.specs.Rows.{abstract_trade_row}
use Rattle.brk_tables_schema.proofs.TradingBack.{trade_back, trade_is_back}
use Rattle.brk_tables_trading.proofs.CompletedOfAccount
use Rattle.brk_tables_trading.proofs.CompletedOfAccount.{plain}
use Rattle.brk_tables_trading.proofs.UpdateReads.{tells_completed_of_account}
use Rattle.brk_tables_trading.proofs.updates.twenty_completed_trades.Goals as goal

pub select_rows-requires : goal.select_rows-requires
select_rows-requires g c = record { no_returning_clause = plain }

pub returns-clause-step : goal.returns-clause-step
returns-clause-step g c =
    let old = state g.S.Store c.args.tx.now.conn.now in
    let new = state g.S.Store c.select_rows.new.tx.conn.now in
    look_all desk_tables trade_cells trade_back trade_is_back abstract_trade_row CompletedOfAccount.statement
    (Text (trade_status_code Completed) ∷ natural_as_value c.args.account ∷ natural_as_value c.args.first ∷ natural_as_value c.args.last ∷ []) old new
    c.in_ok-rows.rows (λ rows. rows.items) _ c.deref.ensures.value
    (rw (c.status_param.ensures, c.id_param.ensures, c.stamp_param.ensures, c.stamp_param-2.ensures) at c.in_ok-rows.ensures.step)
    (λ all. all.items) c.decode_rows.result c.decode_rows.ensures.value (first_twenty_completed_trade_rows_of_account c.args.account c.args.first c.args.last)
    (tells_completed_of_account old new c.args.account c.args.first c.args.last _)
