use Rattle.std.proofs.Common.{pos, [], ◌∷◌, ◌==◌, find, filter}
use Rattle.sqlite_value.specs.declared.value.Value.TheVariants.{Int}
use Rattle.sqlite_keyed.proofs.ListLemmas.{slice_get-filter}
use Rattle.sqlite.specs.Held.{state}
use Rattle.brk_ref.specs.Records.{abstract_tax_rate}
use Rattle.brk_model.specs.Records.{TaxRate}
use Rattle.brk_tables_sql.proofs.Answer.{look_first}
use Rattle.brk_tables_schema.specs.Cells.{tax_rate_cells}
use Rattle.brk_tables_schema.specs.Desk.{desk_tables}
use Rattle.brk_tables_schema.proofs.Back.{tax_rate_back, tax_rate_is_back}
use Rattle.brk_tables_reference.proofs.TaxRateById
use Rattle.brk_tables_reference.proofs.TaxRateById.{plain}
use Rattle.brk_tables_reference.proofs.ReferenceReads.{tells_tax_rate}
use Rattle.brk_tables_reference.proofs.tax_rates.tax_rate_by_id.Goals as goal

pub select_rows-requires : goal.select_rows-requires
select_rows-requires g c = record { no_returning_clause = plain }

pub returns-clause-step : goal.returns-clause-step
returns-clause-step g c =
    let old = state g.S.Store c.args.tx.now.conn.now in
    let new = state g.S.Store c.select_rows.new.tx.conn.now in
    look_first desk_tables tax_rate_cells tax_rate_back tax_rate_is_back abstract_tax_rate TaxRateById.statement (Int (pos c.args.id) ∷ []) old new
    c.in_ok-rows.rows (λ rows. rows.items) _ c.deref.ensures.value (rw (c.id_param.ensures) at c.in_ok-rows.ensures.step)
    c.decode_first_row.result c.decode_first_row.ensures.value (λ t. filter (λ (r : TaxRate). r.id == c.args.id) t.tax_rates)
    (λ t. find (λ (r : TaxRate). r.id == c.args.id) t.tax_rates) (λ t. slice_get-filter (λ (r : TaxRate). r.id == c.args.id) t.tax_rates)
    (tells_tax_rate old new c.args.id _)
