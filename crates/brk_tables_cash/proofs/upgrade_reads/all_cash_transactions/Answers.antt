use Rattle.std.proofs.Common.{[]}
use Rattle.sqlite.specs.Held.{state}
use Rattle.brk_tables_sql.proofs.Answer.{look_all}
use Rattle.brk_tables_schema.specs.Cells.{cash_cells}
use Rattle.brk_tables_schema.specs.Desk.{desk_tables}
use Rattle.brk_tables_schema.proofs.TradingBack.{cash_back, cash_is_back}
use Rattle.brk_ref.specs.Rows.{abstract_old_cash_row}
use Rattle.brk_model.specs.Tables.{Tables}
use Rattle.brk_tables_cash.proofs.CashByTrade
use Rattle.brk_tables_cash.proofs.CashByTrade.{plain}
use Rattle.brk_tables_cash.proofs.Telling.{tells_cash}
use Rattle.brk_tables_cash.proofs.upgrade_reads.all_cash_transactions.Goals as goal

pub select_rows-requires : goal.select_rows-requires
select_rows-requires g c = record { no_returning_clause = plain }

pub returns-clause-step : goal.returns-clause-step
returns-clause-step g c =
    let old = state g.S.Store c.args.tx.now.conn.now in
    let new = state g.S.Store c.select_rows.new.tx.conn.now in
    look_all desk_tables cash_cells cash_back cash_is_back abstract_old_cash_row CashByTrade.statement [] old new c.in_ok-rows.rows (λ rows. rows.items) _ c.deref.ensures.value c.in_ok-rows.ensures.step
    (λ all. all.items) c.decode_rows.result c.decode_rows.ensures.value (λ (t : Tables). t.cash) (tells_cash old new _)
