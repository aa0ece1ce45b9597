use Rattle.std.proofs.Common.{pos, [], ◌∷◌, ◌==◌, find, filter}
use Rattle.std.specs.Prelude.{◌&&◌, bytes_eq}
use Rattle.sqlite_value.specs.declared.value.Value.TheVariants.{Int, Text}
use Rattle.sqlite_keyed.proofs.ListLemmas.{slice_get-filter}
use Rattle.sqlite.specs.Held.{state}
use Rattle.brk_model.specs.Tables.{SummaryRow}
use Rattle.brk_tables_sql.proofs.Answer.{look_first}
use Rattle.brk_tables_schema.specs.Cells.{summary_cells}
use Rattle.brk_tables_schema.specs.Desk.{desk_tables}
use Rattle.brk_ref.specs.Rows.{abstract_summary_row}
use Rattle.brk_tables_schema.proofs.TradingBack.{summary_back, summary_is_back}
use Rattle.brk_tables_trading.proofs.Holding.{tells_summary}
use Rattle.brk_tables_trading.proofs.SummaryOf
use Rattle.brk_tables_trading.proofs.SummaryOf.{plain}
use Rattle.brk_tables_trading.proofs.summaries.position_summary.Goals as goal

pub select_rows-requires : goal.select_rows-requires
select_rows-requires g c = record { no_returning_clause = plain }

pub returns-clause-step : goal.returns-clause-step
returns-clause-step g c =
    let old = state g.S.Store c.args.tx.now.conn.now in
    let new = state g.S.Store c.select_rows.new.tx.conn.now in
    look_first desk_tables summary_cells summary_back summary_is_back abstract_summary_row SummaryOf.statement
    (Int (pos c.args.account) ∷ Text c.args.symbol.now ∷ []) old new c.in_ok-rows.rows (λ rows. rows.items) _ c.deref.ensures.value
    (rw (c.id_param.ensures, c.text_param.ensures, c.as_str.ensures) at c.in_ok-rows.ensures.step)
    c.decode_first_row.result c.decode_first_row.ensures.value
    (λ t. filter (λ (r : SummaryRow). (r.account == c.args.account) && bytes_eq r.symbol c.args.symbol.now) t.summaries)
    (λ t. find (λ (r : SummaryRow). (r.account == c.args.account) && bytes_eq r.symbol c.args.symbol.now) t.summaries)
    (λ t. slice_get-filter (λ (r : SummaryRow). (r.account == c.args.account) && bytes_eq r.symbol c.args.symbol.now) t.summaries)
    (tells_summary old new c.args.account c.args.symbol.now _)
