use Rattle.std.proofs.Common.{[], ◌∷◌, ◌&&◌, filter, take}
use Rattle.std.specs.Prelude.{bytes_eq}
use Rattle.sqlite_value.specs.declared.value.Value.TheVariants.{Text as Words}
use Rattle.sqlite.specs.Held.{state}
use Rattle.brk_model.specs.Joins.{trade_rows_oldest_first}
use Rattle.brk_model.specs.LookupView.{row_stamp_is_between}
use Rattle.brk_model.specs.Tables.{TradeRow}
use Rattle.brk_tables_sql.proofs.Answer.{look_all}
use Rattle.brk_tables_schema.specs.Cells.{natural_as_value, trade_cells}
use Rattle.brk_tables_schema.specs.Desk.{desk_tables}
use Rattle.brk_ref.specs.Rows.{abstract_trade_row}
use Rattle.brk_tables_views.proofs.MomentReads.{tells_twenty_of_symbol}
use Rattle.brk_tables_schema.proofs.TradingBack.{trade_back, trade_is_back}
use Rattle.brk_tables_views.proofs.TwentyOfSymbol
use Rattle.brk_tables_views.proofs.TwentyOfSymbol.{plain}
use Rattle.brk_tables_views.proofs.trades_by_stamp.twenty_trades_of_symbol.Goals as goal

pub select_rows-requires : goal.select_rows-requires
select_rows-requires g c = record { no_returning_clause = plain }

pub returns-clause-step : goal.returns-clause-step
returns-clause-step g c =
    let old = state g.S.Store c.args.tx.now.conn.now in
    let new = state g.S.Store c.select_rows.new.tx.conn.now in
    look_all desk_tables trade_cells trade_back trade_is_back abstract_trade_row TwentyOfSymbol.statement
    (Words c.args.symbol.now ∷ natural_as_value c.args.first ∷ natural_as_value c.args.last ∷ []) old new c.in_ok-rows.rows (λ rows. rows.items) _
    c.deref.ensures.value
    (rw (c.text_param.ensures, c.as_str.ensures, c.stamp_param.ensures, c.stamp_param-2.ensures) at c.in_ok-rows.ensures.step)
    (λ all. all.items) c.decode_rows.result c.decode_rows.ensures.value
    (λ t. take 20 (trade_rows_oldest_first
    (filter (λ (r : TradeRow). bytes_eq r.symbol c.args.symbol.now && row_stamp_is_between c.args.first c.args.last r) t.trades)))
    (tells_twenty_of_symbol old new c.args.symbol.now c.args.first c.args.last _)
