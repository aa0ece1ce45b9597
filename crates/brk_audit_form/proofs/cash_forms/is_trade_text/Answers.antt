use Rattle.std.proofs.Common.{◌∷◌, ◌++◌, sym, ◌∙◌, ap}
use Rattle.std.specs.Prelude.{◌||◌, bytes_eq, codes, decimal}
use Rattle.brk_money.specs.Kinds.{trade_type_name}
use Rattle.brk_model.specs.Adopted.{base_of_tables, trade_of_row}
use Rattle.brk_model.specs.Results.{cash_row_name}
use Rattle.brk_ref.specs.Rows.{abstract_trade_row}
use Rattle.brk_trade_rows.specs.Sheets.{abstract_sheets}
use Rattle.brk_audit_form.proofs.CashNames.{text_same}
use Rattle.brk_audit_form.proofs.cash_forms.is_trade_text.Goals as goal

pub returns-then-eq : goal.returns-then-eq
returns-then-eq c =
    let t = abstract_sheets c.args.sheets.now in
    let row = abstract_trade_row c.args.trade.now in
    let name = c.args.name.now in
    let other = cash_row_name (codes " Shares of ") (base_of_tables t) (trade_of_row t row) in
    let text = c.as_str.ensures.value ∙ c.in_ok-first.ensures.name ∙ ap (λ s. trade_type_name row.kind ++ 32 ∷ decimal row.qty ++ codes " shares of " ++ s) c.security_name-security.ensures
    ∙ text_same t (codes " shares of ") row in
    sym (ap (λ b. b || bytes_eq name other) (sym (c.eq.ensures ∙ ap (bytes_eq name) text) ∙ c.if-eq.true))

pub returns : goal.returns
returns c =
    let t = abstract_sheets c.args.sheets.now in
    let row = abstract_trade_row c.args.trade.now in
    let name = c.args.name.now in
    let other = cash_row_name (codes " Shares of ") (base_of_tables t) (trade_of_row t row) in
    let text = c.as_str.ensures.value ∙ c.in_ok-first.ensures.name ∙ ap (λ s. trade_type_name row.kind ++ 32 ∷ decimal row.qty ++ codes " shares of " ++ s) c.security_name-security.ensures
    ∙ text_same t (codes " shares of ") row in
    let second = c.as_str-2.ensures.value ∙ c.in_ok-second.ensures.name ∙ ap (λ s. trade_type_name row.kind ++ 32 ∷ decimal row.qty ++ codes " Shares of " ++ s) c.security_name-security.ensures
    ∙ text_same t (codes " Shares of ") row in
    c.eq-2.ensures ∙ ap (bytes_eq name) second ∙ sym (ap (λ b. b || bytes_eq name other) (sym (c.eq.ensures ∙ ap (bytes_eq name) text) ∙ c.if-eq.false))
