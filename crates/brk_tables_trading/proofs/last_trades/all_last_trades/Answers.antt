use Rattle.std.proofs.Common.{[]}
use Rattle.sqlite.specs.Held.{state}
use Rattle.brk_model.specs.Tables.{Tables}
use Rattle.brk_ref.specs.Records.{abstract_last_trade_row}
use Rattle.brk_tables_sql.proofs.Answer.{look_all}
use Rattle.brk_tables_schema.specs.Cells.{last_trade_cells}
use Rattle.brk_tables_schema.specs.Desk.{desk_tables}
use Rattle.brk_tables_schema.proofs.TradingBack.{last_trade_back, last_trade_is_back}
use Rattle.brk_tables_trading.proofs.LastTradesBySymbol
use Rattle.brk_tables_trading.proofs.LastTradesBySymbol.{plain}
use Rattle.brk_tables_trading.proofs.Tells.{tells_last_trades}
use Rattle.brk_tables_trading.proofs.last_trades.all_last_trades.Goals as goal

pub select_rows-requires : goal.select_rows-requires
select_rows-requires g c = record { no_returning_clause = plain }

pub returns-clause-step : goal.returns-clause-step
returns-clause-step g c =
    let old = state g.S.Store c.args.tx.now.conn.now in
    let new = state g.S.Store c.select_rows.new.tx.conn.now in
    look_all desk_tables last_trade_cells last_trade_back last_trade_is_back abstract_last_trade_row LastTradesBySymbol.statement [] old new c.in_ok-rows.rows
    (λ rows. rows.items) _ c.deref.ensures.value c.in_ok-rows.ensures.step
    (λ all. all.items) c.decode_rows.result c.decode_rows.ensures.value (λ (t : Tables). t.last_trades) (tells_last_trades old new _)
