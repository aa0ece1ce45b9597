use Rattle.std.proofs.Common.{sym, ◌∙◌, ap}
use Rattle.std.specs.List.{list_all}
use Rattle.std.proofs.lemmas.List.{take_all}
use Rattle.std.proofs.lemmas.List.Folds.{list_all-map}
use Rattle.brk_model.specs.Form.{is_well_formed_cash_move_row}
use Rattle.brk_ref.specs.Rows.{abstract_cash_row}
use Rattle.brk_trade_rows.specs.Sheets.{abstract_sheets}
use Rattle.brk_audit_form.proofs.CashNames.{all_not}
use Rattle.brk_audit_form.proofs.cash_forms.are_valid_cash_rows.Goals as goal

pub returns-then-not-is_formed : goal.returns-then-not-is_formed
returns-then-not-is_formed c =
    let s = c.args.sheets.now in
    let t = abstract_sheets s in
    sym (list_all-map (is_well_formed_cash_move_row t) abstract_cash_row s.moves.items ∙ ap (list_all (λ r. is_well_formed_cash_move_row t (abstract_cash_row r))) (sym c.deref-row-items.ensures.value)
    ∙ all_not (λ r. is_well_formed_cash_move_row t (abstract_cash_row r)) c.deref-row-items.result.now c.loop-row.row-index c.row-item.result c.loop-row-test.true c.row-item.is
    (sym c.in_ok-is_formed.ensures.value ∙ c.if-not-is_formed.true))

pub returns : goal.returns
returns c =
    let s = c.args.sheets.now in
    let t = abstract_sheets s in
    sym (list_all-map (is_well_formed_cash_move_row t) abstract_cash_row s.moves.items
    ∙ ap (list_all (λ r. is_well_formed_cash_move_row t (abstract_cash_row r)))
    (sym c.deref-row-items.ensures.value ∙ sym (take_all c.loop-row.row-index c.deref-row-items.result.now c.loop-row-test.false))
    ∙ c.loop-row.invariant)
