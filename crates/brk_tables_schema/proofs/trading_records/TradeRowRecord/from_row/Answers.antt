use Rattle.std.proofs.Common.{refl}
use Rattle.brk_tables_schema.specs.Formed.{trade_column_cell_checks}
use Rattle.brk_tables_schema.proofs.Unformed.{handed_on, no_form_at, wrong_length}
use Rattle.brk_tables_schema.proofs.TradeCells.{row_is}
use Rattle.brk_tables_schema.proofs.trading_records.TradeRowRecord.from_row.Goals as goal

pub returns-clause-value : goal.returns-clause-value
returns-clause-value c =
    row_is _ _ _ _ _ _ _ _ _ _ _ _ _ _ _ c.args.row.now c.in_ok-check_column_count.ensures.columns c.in_ok-id_cell.ensures.value
    c.in_ok-stamp_cell.ensures.value c.in_ok-status_cell.ensures.value c.in_ok-trade_type_cell.ensures.value
    c.in_ok-flag_cell.ensures.value c.in_ok-formed_text_cell.ensures.value c.in_ok-qty_cell.ensures.value
    c.in_ok-price_cell.ensures.value c.in_ok-id_cell-2.ensures.value c.in_ok-text_cell.ensures.value
    c.in_ok-optional_price_cell.ensures.value c.in_ok-charge_cell.ensures.value c.in_ok-amount_cell.ensures.value
    c.in_ok-amount_cell-2.ensures.value c.in_ok-flag_cell-2.ensures.value

pub returns-in_err-check_column_count-clause-form : goal.returns-in_err-check_column_count-clause-form
returns-in_err-check_column_count-clause-form c =
    λ h. wrong_length trade_column_cell_checks c.args.row.now
    (c.check_column_count.ensures.form
    (handed_on c.check_column_count.result c.from_residual.result _ c.from_residual.ensures.1 c.in_err-check_column_count.was h))

pub returns-in_err-formed_text_cell-clause-form : goal.returns-in_err-formed_text_cell-clause-form
returns-in_err-formed_text_cell-clause-form c =
    λ h. no_form_at trade_column_cell_checks c.args.row.now 5 _ refl
    (c.formed_text_cell.ensures.form
    (handed_on c.formed_text_cell.result c.from_residual-in_err-formed_text_cell.result _
    c.from_residual-in_err-formed_text_cell.ensures.1 c.in_err-formed_text_cell.was h))

pub returns-in_err-qty_cell-clause-form : goal.returns-in_err-qty_cell-clause-form
returns-in_err-qty_cell-clause-form c =
    λ h. no_form_at trade_column_cell_checks c.args.row.now 6 _ refl
    (c.qty_cell.ensures.form
    (handed_on c.qty_cell.result c.from_residual-in_err-qty_cell.result _ c.from_residual-in_err-qty_cell.ensures.1
    c.in_err-qty_cell.was h))

pub returns-in_err-price_cell-clause-form : goal.returns-in_err-price_cell-clause-form
returns-in_err-price_cell-clause-form c =
    λ h. no_form_at trade_column_cell_checks c.args.row.now 7 _ refl
    (c.price_cell.ensures.form
    (handed_on c.price_cell.result c.from_residual-in_err-price_cell.result _ c.from_residual-in_err-price_cell.ensures.1
    c.in_err-price_cell.was h))

pub returns-in_err-id_cell-2-clause-form : goal.returns-in_err-id_cell-2-clause-form
returns-in_err-id_cell-2-clause-form c =
    λ h. no_form_at trade_column_cell_checks c.args.row.now 8 _ refl
    (c.id_cell-2.ensures.form
    (handed_on c.id_cell-2.result c.from_residual-in_err-id_cell-2.result _ c.from_residual-in_err-id_cell-2.ensures.1
    c.in_err-id_cell-2.was h))

pub returns-in_err-text_cell-clause-form : goal.returns-in_err-text_cell-clause-form
returns-in_err-text_cell-clause-form c =
    λ h. no_form_at trade_column_cell_checks c.args.row.now 9 _ refl
    (c.text_cell.ensures.form
    (handed_on c.text_cell.result c.from_residual-in_err-text_cell.result _ c.from_residual-in_err-text_cell.ensures.1
    c.in_err-text_cell.was h))

pub returns-in_err-optional_price_cell-clause-form : goal.returns-in_err-optional_price_cell-clause-form
returns-in_err-optional_price_cell-clause-form c =
    λ h. no_form_at trade_column_cell_checks c.args.row.now 10 _ refl
    (c.optional_price_cell.ensures.form
    (handed_on c.optional_price_cell.result c.from_residual-in_err-optional_price_cell.result _
    c.from_residual-in_err-optional_price_cell.ensures.1 c.in_err-optional_price_cell.was h))

pub returns-in_err-charge_cell-clause-form : goal.returns-in_err-charge_cell-clause-form
returns-in_err-charge_cell-clause-form c =
    λ h. no_form_at trade_column_cell_checks c.args.row.now 11 _ refl
    (c.charge_cell.ensures.form
    (handed_on c.charge_cell.result c.from_residual-in_err-charge_cell.result _ c.from_residual-in_err-charge_cell.ensures.1
    c.in_err-charge_cell.was h))

pub returns-in_err-amount_cell-clause-form : goal.returns-in_err-amount_cell-clause-form
returns-in_err-amount_cell-clause-form c =
    λ h. no_form_at trade_column_cell_checks c.args.row.now 12 _ refl
    (c.amount_cell.ensures.form
    (handed_on c.amount_cell.result c.from_residual-in_err-amount_cell.result _ c.from_residual-in_err-amount_cell.ensures.1
    c.in_err-amount_cell.was h))

pub returns-in_err-amount_cell-2-clause-form : goal.returns-in_err-amount_cell-2-clause-form
returns-in_err-amount_cell-2-clause-form c =
    λ h. no_form_at trade_column_cell_checks c.args.row.now 13 _ refl
    (c.amount_cell-2.ensures.form
    (handed_on c.amount_cell-2.result c.from_residual-in_err-amount_cell-2.result _ c.from_residual-in_err-amount_cell-2.ensures.1
    c.in_err-amount_cell-2.was h))

pub returns-in_err-flag_cell-2-clause-form : goal.returns-in_err-flag_cell-2-clause-form
returns-in_err-flag_cell-2-clause-form c =
    λ h. no_form_at trade_column_cell_checks c.args.row.now 14 _ refl
    (c.flag_cell-2.ensures.form
    (handed_on c.flag_cell-2.result c.from_residual-in_err-flag_cell-2.result _ c.from_residual-in_err-flag_cell-2.ensures.1
    c.in_err-flag_cell-2.was h))
