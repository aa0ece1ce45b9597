use Rattle.std.proofs.Common.{refl}
use Rattle.brk_tables_schema.specs.Formed.{tax_rate_column_cell_checks}
use Rattle.brk_tables_schema.proofs.Unformed.{handed_on, no_form_at, wrong_length}
use Rattle.brk_tables_schema.proofs.reference_records.TaxRecord.from_row.Goals as goal

pub returns-in_err-check_column_count-clause-form : goal.returns-in_err-check_column_count-clause-form
returns-in_err-check_column_count-clause-form c =
    λ h. wrong_length tax_rate_column_cell_checks c.args.row.now
    (c.check_column_count.ensures.form
    (handed_on c.check_column_count.result c.from_residual.result _ c.from_residual.ensures.1 c.in_err-check_column_count.was h))

pub returns-in_err-id_cell-clause-form : goal.returns-in_err-id_cell-clause-form
returns-in_err-id_cell-clause-form c =
    λ h. no_form_at tax_rate_column_cell_checks c.args.row.now 0 _ refl
    (c.id_cell.ensures.form
    (handed_on c.id_cell.result c.from_residual-in_err-id_cell.result _ c.from_residual-in_err-id_cell.ensures.1 c.in_err-id_cell.was h))

pub returns-in_err-formed_text_cell-clause-form : goal.returns-in_err-formed_text_cell-clause-form
returns-in_err-formed_text_cell-clause-form c =
    λ h. no_form_at tax_rate_column_cell_checks c.args.row.now 1 _ refl
    (c.formed_text_cell.ensures.form
    (handed_on c.formed_text_cell.result c.from_residual-in_err-formed_text_cell.result _
    c.from_residual-in_err-formed_text_cell.ensures.1 c.in_err-formed_text_cell.was h))

pub returns-in_err-tax_rate_cell-clause-form : goal.returns-in_err-tax_rate_cell-clause-form
returns-in_err-tax_rate_cell-clause-form c =
    λ h. no_form_at tax_rate_column_cell_checks c.args.row.now 2 _ refl
    (c.tax_rate_cell.ensures.form
    (handed_on c.tax_rate_cell.result c.from_residual-in_err-tax_rate_cell.result _ c.from_residual-in_err-tax_rate_cell.ensures.1
    c.in_err-tax_rate_cell.was h))
