use Rattle.std.proofs.Common.{pos, [], ◌∷◌, ◌==◌, ◌&&◌, find, filter}
use Rattle.sqlite_value.specs.declared.value.Value.TheVariants.{Int}
use Rattle.sqlite_keyed.proofs.ListLemmas.{slice_get-filter}
use Rattle.sqlite.specs.Held.{state}
use Rattle.brk_ref.specs.Records.{abstract_customer_tax}
use Rattle.brk_model.specs.Records.{CustomerTax}
use Rattle.brk_tables_sql.proofs.Answer.{look_first}
use Rattle.brk_tables_schema.specs.Cells.{customer_tax_cells}
use Rattle.brk_tables_schema.specs.Desk.{desk_tables}
use Rattle.brk_tables_schema.proofs.Back.{customer_tax_back, customer_tax_is_back}
use Rattle.brk_tables_reference.proofs.CustomerTaxByKey
use Rattle.brk_tables_reference.proofs.CustomerTaxByKey.{plain}
use Rattle.brk_tables_reference.proofs.ReferenceReads.{tells_customer_tax}
use Rattle.brk_tables_reference.proofs.tax_rates.customer_tax_by_ids.Goals as goal

pub select_rows-requires : goal.select_rows-requires
select_rows-requires g c = record { no_returning_clause = plain }

pub returns-clause-step : goal.returns-clause-step
returns-clause-step g c =
    let old = state g.S.Store c.args.tx.now.conn.now in
    let new = state g.S.Store c.select_rows.new.tx.conn.now in
    look_first desk_tables customer_tax_cells customer_tax_back customer_tax_is_back abstract_customer_tax CustomerTaxByKey.statement
    (Int (pos c.args.customer) ∷ Int (pos c.args.tax) ∷ []) old new c.in_ok-rows.rows (λ rows. rows.items) _ c.deref.ensures.value
    (rw (c.id_param.ensures, c.id_param-2.ensures) at c.in_ok-rows.ensures.step)
    c.decode_first_row.result c.decode_first_row.ensures.value
    (λ t. filter (λ (r : CustomerTax). (r.customer == c.args.customer) && (r.tax == c.args.tax)) t.customer_taxes)
    (λ t. find (λ (r : CustomerTax). (r.customer == c.args.customer) && (r.tax == c.args.tax)) t.customer_taxes)
    (λ t. slice_get-filter (λ (r : CustomerTax). (r.customer == c.args.customer) && (r.tax == c.args.tax)) t.customer_taxes)
    (tells_customer_tax old new c.args.customer c.args.tax _)
