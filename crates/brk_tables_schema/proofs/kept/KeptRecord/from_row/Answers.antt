use Rattle.std.proofs.Common.{refl}
use Rattle.brk_tables_schema.specs.Formed.{kept_column_cell_checks}
use Rattle.brk_tables_schema.proofs.Unformed.{handed_on, no_form_at, wrong_length}
use Rattle.brk_tables_schema.proofs.kept.KeptRecord.from_row.Goals as goal

pub returns-in_err-check_column_count-clause-form : goal.returns-in_err-check_column_count-clause-form
returns-in_err-check_column_count-clause-form c =
    λ h. wrong_length kept_column_cell_checks c.args.row.now
    (c.check_column_count.ensures.form
    (handed_on c.check_column_count.result c.from_residual.result _ c.from_residual.ensures.1 c.in_err-check_column_count.was h))

pub returns-in_err-formed_text_cell-clause-form : goal.returns-in_err-formed_text_cell-clause-form
returns-in_err-formed_text_cell-clause-form c =
    λ h. no_form_at kept_column_cell_checks c.args.row.now 0 _ refl
    (c.formed_text_cell.ensures.form
    (handed_on c.formed_text_cell.result c.from_residual-in_err-formed_text_cell.result _
    c.from_residual-in_err-formed_text_cell.ensures.1 c.in_err-formed_text_cell.was h))

pub returns-in_err-row_number_cell-clause-form : goal.returns-in_err-row_number_cell-clause-form
returns-in_err-row_number_cell-clause-form c =
    λ h. no_form_at kept_column_cell_checks c.args.row.now 1 _ refl
    (c.row_number_cell.ensures.form
    (handed_on c.row_number_cell.result c.from_residual-in_err-row_number_cell.result _ c.from_residual-in_err-row_number_cell.ensures.1
    c.in_err-row_number_cell.was h))

pub returns-in_err-text_cell-clause-form : goal.returns-in_err-text_cell-clause-form
returns-in_err-text_cell-clause-form c =
    λ h. no_form_at kept_column_cell_checks c.args.row.now 2 _ refl
    (c.text_cell.ensures.form
    (handed_on c.text_cell.result c.from_residual-in_err-text_cell.result _ c.from_residual-in_err-text_cell.ensures.1
    c.in_err-text_cell.was h))

pub returns-in_err-text_cell-2-clause-form : goal.returns-in_err-text_cell-2-clause-form
returns-in_err-text_cell-2-clause-form c =
    λ h. no_form_at kept_column_cell_checks c.args.row.now 3 _ refl
    (c.text_cell-2.ensures.form
    (handed_on c.text_cell-2.result c.from_residual-in_err-text_cell-2.result _ c.from_residual-in_err-text_cell-2.ensures.1
    c.in_err-text_cell-2.was h))
