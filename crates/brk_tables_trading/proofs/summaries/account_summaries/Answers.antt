use Rattle.std.proofs.Common.{pos, [], ◌∷◌, ◌==◌, filter}
use Rattle.sqlite_value.specs.declared.value.Value.TheVariants.{Int}
use Rattle.sqlite.specs.Held.{state}
use Rattle.brk_model.specs.Tables.{SummaryRow}
use Rattle.brk_tables_sql.proofs.Answer.{look_all}
use Rattle.brk_tables_schema.specs.Cells.{summary_cells}
use Rattle.brk_tables_schema.specs.Desk.{desk_tables}
use Rattle.brk_ref.specs.Rows.{abstract_summary_row}
use Rattle.brk_tables_schema.proofs.TradingBack.{summary_back, summary_is_back}
use Rattle.brk_tables_trading.proofs.Holding.{tells_summaries}
use Rattle.brk_tables_trading.proofs.SummariesOf
use Rattle.brk_tables_trading.proofs.SummariesOf.{plain}
use Rattle.brk_tables_trading.proofs.summaries.account_summaries.Goals as goal

pub select_rows-requires : goal.select_rows-requires
select_rows-requires g c = record { no_returning_clause = plain }

pub returns-clause-step : goal.returns-clause-step
returns-clause-step g c =
    let old = state g.S.Store c.args.tx.now.conn.now in
    let new = state g.S.Store c.select_rows.new.tx.conn.now in
    look_all desk_tables summary_cells summary_back summary_is_back abstract_summary_row SummariesOf.statement (Int (pos c.args.account) ∷ []) old new
    c.in_ok-rows.rows (λ rows. rows.items) _ c.deref.ensures.value (rw (c.id_param.ensures) at c.in_ok-rows.ensures.step)
    (λ all. all.items) c.decode_rows.result c.decode_rows.ensures.value (λ t. filter (λ (r : SummaryRow). r.account == c.args.account) t.summaries) (tells_summaries old new c.args.account _)
