use Rattle.std.proofs.Common.{◌≡◌, ◌∷◌, [], length, refl, sym, arith}
use Rattle.sqlite_value.specs.Order.{Row, column}
use Rattle.brk_tables_schema.specs.Formed.{last_trade_column_cell_checks}
use Rattle.brk_tables_schema.proofs.Unformed.{handed_on, no_form_at, wrong_length}
use Rattle.brk_tables_schema.proofs.trading_records.LastTradeRecord.from_row.Goals as goal

four_columns : (row : Row) → length row ≡ 4 → column row 0 ∷ column row 1 ∷ column row 2 ∷ column row 3 ∷ [] ≡ row
four_columns (c0 ∷ c1 ∷ c2 ∷ c3 ∷ []) h = refl
four_columns (c0 ∷ c1 ∷ c2 ∷ c3 ∷ c4 ∷ more) h = absurd (omega (arith, h))
four_columns _ h = absurd (omega (arith, h))

pub returns-clause-value : goal.returns-clause-value
returns-clause-value c =
    rw (sym c.in_ok-formed_text_cell.ensures.value, sym c.in_ok-stamp_cell.ensures.value, sym c.in_ok-price_cell.ensures.value, sym c.in_ok-volume_cell.ensures.value)
    (four_columns c.args.row.now c.in_ok-check_column_count.ensures.columns)

pub returns-in_err-check_column_count-clause-form : goal.returns-in_err-check_column_count-clause-form
returns-in_err-check_column_count-clause-form c =
    λ h. wrong_length last_trade_column_cell_checks c.args.row.now
    (c.check_column_count.ensures.form
    (handed_on c.check_column_count.result c.from_residual.result _ c.from_residual.ensures.1 c.in_err-check_column_count.was h))

pub returns-in_err-formed_text_cell-clause-form : goal.returns-in_err-formed_text_cell-clause-form
returns-in_err-formed_text_cell-clause-form c =
    λ h. no_form_at last_trade_column_cell_checks c.args.row.now 0 _ refl
    (c.formed_text_cell.ensures.form
    (handed_on c.formed_text_cell.result c.from_residual-in_err-formed_text_cell.result _
    c.from_residual-in_err-formed_text_cell.ensures.1 c.in_err-formed_text_cell.was h))

pub returns-in_err-stamp_cell-clause-form : goal.returns-in_err-stamp_cell-clause-form
returns-in_err-stamp_cell-clause-form c =
    λ h. no_form_at last_trade_column_cell_checks c.args.row.now 1 _ refl
    (c.stamp_cell.ensures.form
    (handed_on c.stamp_cell.result c.from_residual-in_err-stamp_cell.result _ c.from_residual-in_err-stamp_cell.ensures.1
    c.in_err-stamp_cell.was h))

pub returns-in_err-price_cell-clause-form : goal.returns-in_err-price_cell-clause-form
returns-in_err-price_cell-clause-form c =
    λ h. no_form_at last_trade_column_cell_checks c.args.row.now 2 _ refl
    (c.price_cell.ensures.form
    (handed_on c.price_cell.result c.from_residual-in_err-price_cell.result _ c.from_residual-in_err-price_cell.ensures.1
    c.in_err-price_cell.was h))

pub returns-in_err-volume_cell-clause-form : goal.returns-in_err-volume_cell-clause-form
returns-in_err-volume_cell-clause-form c =
    λ h. no_form_at last_trade_column_cell_checks c.args.row.now 3 _ refl
    (c.volume_cell.ensures.form
    (handed_on c.volume_cell.result c.from_residual-in_err-volume_cell.result _ c.from_residual-in_err-volume_cell.ensures.1
    c.in_err-volume_cell.was h))
