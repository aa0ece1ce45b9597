use Rattle.std.proofs.Common.{[], ◌∷◌, find, filter}
use Rattle.std.specs.Prelude.{bytes_eq}
use Rattle.sqlite_value.specs.declared.value.Value.TheVariants.{Text}
use Rattle.sqlite_keyed.proofs.ListLemmas.{slice_get-filter}
use Rattle.sqlite.specs.Held.{state}
use Rattle.brk_model.specs.Tables.{LastTradeRow}
use Rattle.brk_ref.specs.Records.{abstract_last_trade_row}
use Rattle.brk_tables_sql.proofs.Answer.{look_first}
use Rattle.brk_tables_schema.specs.Cells.{last_trade_cells}
use Rattle.brk_tables_schema.specs.Desk.{desk_tables}
use Rattle.brk_tables_schema.proofs.TradingBack.{last_trade_back, last_trade_is_back}
use Rattle.brk_tables_trading.proofs.LastTradeBySymbol
use Rattle.brk_tables_trading.proofs.LastTradeBySymbol.{plain}
use Rattle.brk_tables_trading.proofs.Tells.{tells_last_trade}
use Rattle.brk_tables_trading.proofs.last_trades.last_trade_by_symbol.Goals as goal

pub select_rows-requires : goal.select_rows-requires
select_rows-requires g c = record { no_returning_clause = plain }

pub returns-clause-step : goal.returns-clause-step
returns-clause-step g c =
    let old = state g.S.Store c.args.tx.now.conn.now in
    let new = state g.S.Store c.select_rows.new.tx.conn.now in
    look_first desk_tables last_trade_cells last_trade_back last_trade_is_back abstract_last_trade_row LastTradeBySymbol.statement (Text c.args.symbol.now ∷ [])
    old new c.in_ok-rows.rows (λ rows. rows.items) _ c.deref.ensures.value (rw (c.text_param.ensures, c.as_str.ensures) at c.in_ok-rows.ensures.step)
    c.decode_first_row.result c.decode_first_row.ensures.value (λ t. filter (λ (r : LastTradeRow). bytes_eq r.symbol c.args.symbol.now) t.last_trades)
    (λ t. find (λ (r : LastTradeRow). bytes_eq r.symbol c.args.symbol.now) t.last_trades)
    (λ t. slice_get-filter (λ (r : LastTradeRow). bytes_eq r.symbol c.args.symbol.now) t.last_trades) (tells_last_trade old new c.args.symbol.now _)
