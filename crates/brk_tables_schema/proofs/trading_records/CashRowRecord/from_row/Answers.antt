use Rattle.std.proofs.Common.{◌≡◌, ◌∷◌, [], length, refl, sym, arith}
use Rattle.sqlite_value.specs.Order.{Row, column}
use Rattle.brk_tables_schema.specs.Formed.{move_column_cell_checks}
use Rattle.brk_tables_schema.proofs.Unformed.{handed_on, no_form_at, wrong_length}
use Rattle.brk_tables_schema.proofs.trading_records.CashRowRecord.from_row.Goals as goal

six_columns : (row : Row) → length row ≡ 6 → column row 0 ∷ column row 1 ∷ column row 2 ∷ column row 3 ∷ column row 4 ∷ column row 5 ∷ [] ≡ row
six_columns (c0 ∷ c1 ∷ c2 ∷ c3 ∷ c4 ∷ c5 ∷ []) h = refl
six_columns (c0 ∷ c1 ∷ c2 ∷ c3 ∷ c4 ∷ c5 ∷ c6 ∷ more) h = absurd (omega (arith, h))
six_columns _ h = absurd (omega (arith, h))

pub returns-clause-value : goal.returns-clause-value
returns-clause-value c =
    rw (
      sym c.in_ok-cash_row_id_cell.ensures.value,
      sym c.in_ok-id_cell.ensures.value,
      sym c.in_ok-optional_id_cell.ensures.value,
      sym
          c.in_ok-stamp_cell.ensures.value,
      sym c.in_ok-cents_cell.ensures.value,
      sym c.in_ok-text_cell.ensures.value,
    )
    (six_columns c.args.row.now c.in_ok-check_column_count.ensures.columns)

pub returns-in_err-check_column_count-clause-form : goal.returns-in_err-check_column_count-clause-form
returns-in_err-check_column_count-clause-form c =
    λ h. wrong_length move_column_cell_checks c.args.row.now
    (c.check_column_count.ensures.form
    (handed_on c.check_column_count.result c.from_residual.result _ c.from_residual.ensures.1 c.in_err-check_column_count.was h))

pub returns-in_err-cash_row_id_cell-clause-form : goal.returns-in_err-cash_row_id_cell-clause-form
returns-in_err-cash_row_id_cell-clause-form c =
    λ h. no_form_at move_column_cell_checks c.args.row.now 0 _ refl
    (c.cash_row_id_cell.ensures.form
    (handed_on c.cash_row_id_cell.result c.from_residual-in_err-cash_row_id_cell.result _ c.from_residual-in_err-cash_row_id_cell.ensures.1
    c.in_err-cash_row_id_cell.was h))

pub returns-in_err-id_cell-clause-form : goal.returns-in_err-id_cell-clause-form
returns-in_err-id_cell-clause-form c =
    λ h. no_form_at move_column_cell_checks c.args.row.now 1 _ refl
    (c.id_cell.ensures.form
    (handed_on c.id_cell.result c.from_residual-in_err-id_cell.result _ c.from_residual-in_err-id_cell.ensures.1 c.in_err-id_cell.was h))

pub returns-in_err-optional_id_cell-clause-form : goal.returns-in_err-optional_id_cell-clause-form
returns-in_err-optional_id_cell-clause-form c =
    λ h. no_form_at move_column_cell_checks c.args.row.now 2 _ refl
    (c.optional_id_cell.ensures.form
    (handed_on c.optional_id_cell.result c.from_residual-in_err-optional_id_cell.result _ c.from_residual-in_err-optional_id_cell.ensures.1
    c.in_err-optional_id_cell.was h))

pub returns-in_err-stamp_cell-clause-form : goal.returns-in_err-stamp_cell-clause-form
returns-in_err-stamp_cell-clause-form c =
    λ h. no_form_at move_column_cell_checks c.args.row.now 3 _ refl
    (c.stamp_cell.ensures.form
    (handed_on c.stamp_cell.result c.from_residual-in_err-stamp_cell.result _ c.from_residual-in_err-stamp_cell.ensures.1
    c.in_err-stamp_cell.was h))

pub returns-in_err-cents_cell-clause-form : goal.returns-in_err-cents_cell-clause-form
returns-in_err-cents_cell-clause-form c =
    λ h. no_form_at move_column_cell_checks c.args.row.now 4 _ refl
    (c.cents_cell.ensures.form
    (handed_on c.cents_cell.result c.from_residual-in_err-cents_cell.result _ c.from_residual-in_err-cents_cell.ensures.1
    c.in_err-cents_cell.was h))

pub returns-in_err-text_cell-clause-form : goal.returns-in_err-text_cell-clause-form
returns-in_err-text_cell-clause-form c =
    λ h. no_form_at move_column_cell_checks c.args.row.now 5 _ refl
    (c.text_cell.ensures.form
    (handed_on c.text_cell.result c.from_residual-in_err-text_cell.result _ c.from_residual-in_err-text_cell.ensures.1
    c.in_err-text_cell.was h))
