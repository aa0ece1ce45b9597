use Rattle.std.proofs.Common.{◌≡◌, ◌∷◌, [], length, refl, sym, arith}
use Rattle.sqlite_value.specs.Order.{Row, column}
use Rattle.brk_tables_schema.specs.Formed.{band_column_cell_checks}
use Rattle.brk_tables_schema.proofs.Unformed.{handed_on, no_form_at, wrong_length}
use Rattle.brk_tables_schema.proofs.reference_records.BandRecord.from_row.Goals as goal

six_columns : (row : Row) → length row ≡ 6 → column row 0 ∷ column row 1 ∷ column row 2 ∷ column row 3 ∷ column row 4 ∷ column row 5 ∷ [] ≡ row
six_columns (a ∷ b ∷ c ∷ d ∷ e ∷ f ∷ []) h = refl
six_columns (a ∷ b ∷ c ∷ d ∷ e ∷ f ∷ g ∷ more) h = absurd (omega (arith, h))
six_columns _ h = absurd (omega (arith, h))

pub returns-clause-value : goal.returns-clause-value
returns-clause-value c =
    rw (
      sym c.in_ok-tier_cell.ensures.value,
      sym c.in_ok-trade_type_cell.ensures.value,
      sym c.in_ok-formed_text_cell.ensures.value,
      sym
          c.in_ok-qty_cell.ensures.value,
      sym c.in_ok-qty_cell-2.ensures.value,
      sym c.in_ok-rate_cell.ensures.value,
    )
    (six_columns c.args.row.now c.in_ok-check_column_count.ensures.columns)

pub returns-in_err-check_column_count-clause-form : goal.returns-in_err-check_column_count-clause-form
returns-in_err-check_column_count-clause-form c =
    λ h. wrong_length band_column_cell_checks c.args.row.now
    (c.check_column_count.ensures.form
    (handed_on c.check_column_count.result c.from_residual.result _ c.from_residual.ensures.1 c.in_err-check_column_count.was h))

pub returns-in_err-tier_cell-clause-form : goal.returns-in_err-tier_cell-clause-form
returns-in_err-tier_cell-clause-form c =
    λ h. no_form_at band_column_cell_checks c.args.row.now 0 _ refl
    (c.tier_cell.ensures.form
    (handed_on c.tier_cell.result c.from_residual-in_err-tier_cell.result _ c.from_residual-in_err-tier_cell.ensures.1
    c.in_err-tier_cell.was h))

pub returns-in_err-trade_type_cell-clause-form : goal.returns-in_err-trade_type_cell-clause-form
returns-in_err-trade_type_cell-clause-form c =
    λ h. no_form_at band_column_cell_checks c.args.row.now 1 _ refl
    (c.trade_type_cell.ensures.form
    (handed_on c.trade_type_cell.result c.from_residual-in_err-trade_type_cell.result _ c.from_residual-in_err-trade_type_cell.ensures.1
    c.in_err-trade_type_cell.was h))

pub returns-in_err-formed_text_cell-clause-form : goal.returns-in_err-formed_text_cell-clause-form
returns-in_err-formed_text_cell-clause-form c =
    λ h. no_form_at band_column_cell_checks c.args.row.now 2 _ refl
    (c.formed_text_cell.ensures.form
    (handed_on c.formed_text_cell.result c.from_residual-in_err-formed_text_cell.result _
    c.from_residual-in_err-formed_text_cell.ensures.1 c.in_err-formed_text_cell.was h))

pub returns-in_err-qty_cell-clause-form : goal.returns-in_err-qty_cell-clause-form
returns-in_err-qty_cell-clause-form c =
    λ h. no_form_at band_column_cell_checks c.args.row.now 3 _ refl
    (c.qty_cell.ensures.form
    (handed_on c.qty_cell.result c.from_residual-in_err-qty_cell.result _ c.from_residual-in_err-qty_cell.ensures.1
    c.in_err-qty_cell.was h))

pub returns-in_err-qty_cell-2-clause-form : goal.returns-in_err-qty_cell-2-clause-form
returns-in_err-qty_cell-2-clause-form c =
    λ h. no_form_at band_column_cell_checks c.args.row.now 4 _ refl
    (c.qty_cell-2.ensures.form
    (handed_on c.qty_cell-2.result c.from_residual-in_err-qty_cell-2.result _ c.from_residual-in_err-qty_cell-2.ensures.1
    c.in_err-qty_cell-2.was h))

pub returns-in_err-rate_cell-clause-form : goal.returns-in_err-rate_cell-clause-form
returns-in_err-rate_cell-clause-form c =
    λ h. no_form_at band_column_cell_checks c.args.row.now 5 _ refl
    (c.rate_cell.ensures.form
    (handed_on c.rate_cell.result c.from_residual-in_err-rate_cell.result _
    c.from_residual-in_err-rate_cell.ensures.1 c.in_err-rate_cell.was h))
