use Rattle.std.proofs.Common.{refl}
use Rattle.brk_tables_schema.specs.Formed.{cash_column_cell_checks}
use Rattle.brk_tables_schema.proofs.Unformed.{handed_on, no_form_at, wrong_length}
use Rattle.brk_tables_schema.proofs.trading_records.OldCashRowRecord.from_row.Goals as goal

pub returns-in_err-check_column_count-clause-form : goal.returns-in_err-check_column_count-clause-form
returns-in_err-check_column_count-clause-form c =
    λ h. wrong_length cash_column_cell_checks c.args.row.now
    (c.check_column_count.ensures.form
    (handed_on c.check_column_count.result c.from_residual.result _ c.from_residual.ensures.1 c.in_err-check_column_count.was h))

pub returns-in_err-id_cell-clause-form : goal.returns-in_err-id_cell-clause-form
returns-in_err-id_cell-clause-form c =
    λ h. no_form_at cash_column_cell_checks c.args.row.now 0 _ refl
    (c.id_cell.ensures.form
    (handed_on c.id_cell.result c.from_residual-in_err-id_cell.result _ c.from_residual-in_err-id_cell.ensures.1 c.in_err-id_cell.was h))

pub returns-in_err-stamp_cell-clause-form : goal.returns-in_err-stamp_cell-clause-form
returns-in_err-stamp_cell-clause-form c =
    λ h. no_form_at cash_column_cell_checks c.args.row.now 1 _ refl
    (c.stamp_cell.ensures.form
    (handed_on c.stamp_cell.result c.from_residual-in_err-stamp_cell.result _ c.from_residual-in_err-stamp_cell.ensures.1
    c.in_err-stamp_cell.was h))

pub returns-in_err-cents_cell-clause-form : goal.returns-in_err-cents_cell-clause-form
returns-in_err-cents_cell-clause-form c =
    λ h. no_form_at cash_column_cell_checks c.args.row.now 2 _ refl
    (c.cents_cell.ensures.form
    (handed_on c.cents_cell.result c.from_residual-in_err-cents_cell.result _ c.from_residual-in_err-cents_cell.ensures.1
    c.in_err-cents_cell.was h))

pub returns-in_err-text_cell-clause-form : goal.returns-in_err-text_cell-clause-form
returns-in_err-text_cell-clause-form c =
    λ h. no_form_at cash_column_cell_checks c.args.row.now 3 _ refl
    (c.text_cell.ensures.form
    (handed_on c.text_cell.result c.from_residual-in_err-text_cell.result _ c.from_residual-in_err-text_cell.ensures.1
    c.in_err-text_cell.was h))
