use Rattle.std.proofs.Common.{◌≡◌, ◌∷◌, [], length, refl, sym, arith, rules, w64}
use Rattle.std.proofs.lemmas.Int.{to_z-of_z}
use Rattle.sqlite_value.specs.Order.{Row, column}
use Rattle.brk_tables_schema.specs.Formed.{holding_column_cell_checks}
use Rattle.brk_tables_schema.proofs.Unformed.{handed_on, no_form_at, wrong_length}
use Rattle.brk_tables_schema.proofs.trading_records.HoldingRowRecord.from_row.Goals as goal

six_columns : (row : Row) → length row ≡ 6 → column row 0 ∷ column row 1 ∷ column row 2 ∷ column row 3 ∷ column row 4 ∷ column row 5 ∷ [] ≡ row
six_columns (c0 ∷ c1 ∷ c2 ∷ c3 ∷ c4 ∷ c5 ∷ []) h = refl
six_columns (c0 ∷ c1 ∷ c2 ∷ c3 ∷ c4 ∷ c5 ∷ c6 ∷ more) h = absurd (omega (arith, h))
six_columns _ h = absurd (omega (arith, h))

pub returns-clause-value : goal.returns-clause-value
returns-clause-value c =
    rw (
      sym c.in_ok-id_cell.ensures.value,
      sym c.in_ok-id_cell-2.ensures.value,
      sym c.in_ok-formed_text_cell.ensures.value,
      sym
          c.in_ok-stamp_cell.ensures.value,
      sym c.in_ok-price_cell.ensures.value,
      to_z-of_z w64 c.in_ok-integer_cell.field-0 (search rules),
      sym
          c.in_ok-integer_cell.ensures.value,
    )
    (six_columns c.args.row.now c.in_ok-check_column_count.ensures.columns)

pub returns-in_err-check_column_count-clause-form : goal.returns-in_err-check_column_count-clause-form
returns-in_err-check_column_count-clause-form c =
    λ h. wrong_length holding_column_cell_checks c.args.row.now
    (c.check_column_count.ensures.form
    (handed_on c.check_column_count.result c.from_residual.result _ c.from_residual.ensures.1 c.in_err-check_column_count.was h))

pub returns-in_err-id_cell-clause-form : goal.returns-in_err-id_cell-clause-form
returns-in_err-id_cell-clause-form c =
    λ h. no_form_at holding_column_cell_checks c.args.row.now 0 _ refl
    (c.id_cell.ensures.form
    (handed_on c.id_cell.result c.from_residual-in_err-id_cell.result _ c.from_residual-in_err-id_cell.ensures.1 c.in_err-id_cell.was h))

pub returns-in_err-id_cell-2-clause-form : goal.returns-in_err-id_cell-2-clause-form
returns-in_err-id_cell-2-clause-form c =
    λ h. no_form_at holding_column_cell_checks c.args.row.now 1 _ refl
    (c.id_cell-2.ensures.form
    (handed_on c.id_cell-2.result c.from_residual-in_err-id_cell-2.result _ c.from_residual-in_err-id_cell-2.ensures.1
    c.in_err-id_cell-2.was h))

pub returns-in_err-formed_text_cell-clause-form : goal.returns-in_err-formed_text_cell-clause-form
returns-in_err-formed_text_cell-clause-form c =
    λ h. no_form_at holding_column_cell_checks c.args.row.now 2 _ refl
    (c.formed_text_cell.ensures.form
    (handed_on c.formed_text_cell.result c.from_residual-in_err-formed_text_cell.result _
    c.from_residual-in_err-formed_text_cell.ensures.1 c.in_err-formed_text_cell.was h))

pub returns-in_err-stamp_cell-clause-form : goal.returns-in_err-stamp_cell-clause-form
returns-in_err-stamp_cell-clause-form c =
    λ h. no_form_at holding_column_cell_checks c.args.row.now 3 _ refl
    (c.stamp_cell.ensures.form
    (handed_on c.stamp_cell.result c.from_residual-in_err-stamp_cell.result _ c.from_residual-in_err-stamp_cell.ensures.1
    c.in_err-stamp_cell.was h))

pub returns-in_err-price_cell-clause-form : goal.returns-in_err-price_cell-clause-form
returns-in_err-price_cell-clause-form c =
    λ h. no_form_at holding_column_cell_checks c.args.row.now 4 _ refl
    (c.price_cell.ensures.form
    (handed_on c.price_cell.result c.from_residual-in_err-price_cell.result _ c.from_residual-in_err-price_cell.ensures.1
    c.in_err-price_cell.was h))

pub returns-in_err-integer_cell-clause-form : goal.returns-in_err-integer_cell-clause-form
returns-in_err-integer_cell-clause-form c =
    λ h. no_form_at holding_column_cell_checks c.args.row.now 5 _ refl
    (c.integer_cell.ensures.form
    (handed_on c.integer_cell.result c.from_residual-in_err-integer_cell.result _ c.from_residual-in_err-integer_cell.ensures.1
    c.in_err-integer_cell.was h))
