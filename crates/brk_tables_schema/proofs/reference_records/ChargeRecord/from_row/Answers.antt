use Rattle.std.proofs.Common.{refl}
use Rattle.brk_tables_schema.specs.Formed.{charge_column_cell_checks}
use Rattle.brk_tables_schema.proofs.Unformed.{handed_on, no_form_at, wrong_length}
use Rattle.brk_tables_schema.proofs.reference_records.ChargeRecord.from_row.Goals as goal

pub returns-in_err-check_column_count-clause-form : goal.returns-in_err-check_column_count-clause-form
returns-in_err-check_column_count-clause-form c =
    λ h. wrong_length charge_column_cell_checks c.args.row.now
    (c.check_column_count.ensures.form
    (handed_on c.check_column_count.result c.from_residual.result _ c.from_residual.ensures.1 c.in_err-check_column_count.was h))

pub returns-in_err-trade_type_cell-clause-form : goal.returns-in_err-trade_type_cell-clause-form
returns-in_err-trade_type_cell-clause-form c =
    λ h. no_form_at charge_column_cell_checks c.args.row.now 0 _ refl
    (c.trade_type_cell.ensures.form
    (handed_on c.trade_type_cell.result c.from_residual-in_err-trade_type_cell.result _ c.from_residual-in_err-trade_type_cell.ensures.1
    c.in_err-trade_type_cell.was h))

pub returns-in_err-tier_cell-clause-form : goal.returns-in_err-tier_cell-clause-form
returns-in_err-tier_cell-clause-form c =
    λ h. no_form_at charge_column_cell_checks c.args.row.now 1 _ refl
    (c.tier_cell.ensures.form
    (handed_on c.tier_cell.result c.from_residual-in_err-tier_cell.result _ c.from_residual-in_err-tier_cell.ensures.1
    c.in_err-tier_cell.was h))

pub returns-in_err-charge_cell-clause-form : goal.returns-in_err-charge_cell-clause-form
returns-in_err-charge_cell-clause-form c =
    λ h. no_form_at charge_column_cell_checks c.args.row.now 2 _ refl
    (c.charge_cell.ensures.form
    (handed_on c.charge_cell.result c.from_residual-in_err-charge_cell.result _ c.from_residual-in_err-charge_cell.ensures.1
    c.in_err-charge_cell.was h))
