use Rattle.std.proofs.Common.{◌≡◌, true, take}
use Rattle.std.specs.List.{list_all}
use Rattle.brk_model.specs.Form.{is_well_formed_cash_transaction_row}
use Rattle.brk_ref.specs.Rows.{abstract_old_cash_row}
use Rattle.brk_trade_rows.specs.Sheets.{abstract_sheets}
use Rattle.brk_audit_form.proofs.cash_forms.are_valid_old_cash_rows.Given as goal

abbrev pub invariant-loop-row : goal.invariant-loop-row
invariant-loop-row l = list_all (λ r. is_well_formed_cash_transaction_row (abstract_sheets l.sheets) (abstract_old_cash_row r)) (take l.row-index l.row-items) ≡ true
