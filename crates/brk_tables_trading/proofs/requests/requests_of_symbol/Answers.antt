use Rattle.std.proofs.Common.{[], ◌∷◌, filter}
use Rattle.std.specs.Prelude.{bytes_eq}
use Rattle.sqlite_value.specs.declared.value.Value.TheVariants.{Text}
use Rattle.sqlite.specs.Held.{state}
use Rattle.brk_model.specs.Tables.{RequestRow}
use Rattle.brk_tables_sql.proofs.Answer.{look_all}
use Rattle.brk_tables_schema.specs.Cells.{request_cells}
use Rattle.brk_tables_schema.specs.Desk.{desk_tables}
use Rattle.brk_ref.specs.Rows.{abstract_request_row}
use Rattle.brk_tables_schema.proofs.TradingBack.{request_back, request_is_back}
use Rattle.brk_tables_trading.proofs.RequestsOfSymbol
use Rattle.brk_tables_trading.proofs.RequestsOfSymbol.{plain}
use Rattle.brk_tables_trading.proofs.Tells.{tells_requests}
use Rattle.brk_tables_trading.proofs.requests.requests_of_symbol.Goals as goal

pub select_rows-requires : goal.select_rows-requires
select_rows-requires g c = record { no_returning_clause = plain }

pub returns-clause-step : goal.returns-clause-step
returns-clause-step g c =
    let old = state g.S.Store c.args.tx.now.conn.now in
    let new = state g.S.Store c.select_rows.new.tx.conn.now in
    look_all desk_tables request_cells request_back request_is_back abstract_request_row RequestsOfSymbol.statement
    (Text c.args.symbol.now ∷ []) old new c.in_ok-rows.rows (λ rows. rows.items) _ c.deref.ensures.value
    (rw (c.text_param.ensures, c.as_str.ensures) at c.in_ok-rows.ensures.step)
    (λ all. all.items) c.decode_rows.result c.decode_rows.ensures.value
    (λ t. filter (λ (r : RequestRow). bytes_eq r.symbol c.args.symbol.now) t.requests) (tells_requests old new c.args.symbol.now _)
