-- The conditions `Requests`, `Settlement` and `Cash`, from the walks over the rows.
use Rattle.std.proofs.Common.{◌≡◌, ℕ, ◌==◌, true, false, List, [], ◌∷◌, refl, length, arith, sym, ◌∙◌, ap, map, filter}
use Rattle.std.specs.Prelude.{◌↔◌, ◌||◌, is_none}
use Rattle.std.specs.BTreeMap.{BTreeMap}
use Rattle.std.proofs.lemmas.List.{map-id}
use Rattle.brk_money.specs.declared.fault.Condition.TheVariants as condition
use Rattle.brk_model.specs.Derived.{due_day_of_completion_stamp}
use Rattle.brk_model.specs.Audit.{ConditionHolds}
use Rattle.brk_model.specs.Tables.{CashRow, Tables, TradeRow}
use Rattle.brk_model.specs.Form.{has_rows_only_in_tables_of_schema, satisfies_form_condition}
use Rattle.std.proofs.lemmas.Bool.{and_parts, eqb-true}
use Rattle.brk_trade_books.proofs.Same.{All-of, map-same}
use Rattle.brk_audit_theorems.proofs.Parts.{KeyParts, key_parts}
use Rattle.brk_model_theorems.proofs.FormParts.{form_parts}
use Rattle.brk_ref.specs.Rows.{abstract_old_cash_row, abstract_request_row, abstract_settlement_row, abstract_trade_row}
use Rattle.brk_trade_rows.specs.Sheets.{abstract_sheets}
use Rattle.brk_trade_rows.specs.declared.sheets.Sheets.{Sheets}
use Rattle.brk_ref.specs.declared.trade_row.TradeRow as trade
use Rattle.brk_ref.specs.declared.request_row.RequestRow as request
use Rattle.brk_ref.specs.declared.settlement_row.SettlementRow as settlement
use Rattle.brk_ref.specs.declared.old_cash_row.OldCashRow as cash
use Rattle.brk_audit_sums.specs.AccountTerms.{account_broker_in_terms, account_tax_status_in_terms}
use Rattle.brk_audit_sums.specs.Completed.{is_completed_trade_row, is_pending_trade_row}
use Rattle.brk_audit_sums.specs.Conditions.{HasWellFormedRows, HasValidStatuses}
use Rattle.brk_audit_sums.specs.Settling.{settlement_amount_at_tax_status, settlement_figures_of_row, settlement_figures_of_trade, is_completed_cash_trade}
use Rattle.brk_audit_sums.specs.Settling.{cash_transaction_figures_of_trade, cash_transaction_figures_of_row, request_row_of_trade}
use Rattle.brk_audit_sums.proofs.Sums.{account_tax_status_or_untaxed, account_broker_or_zero}
use Rattle.brk_audit_sums.specs.declared.account_terms.AccountTerms.{AccountTerms}
use Rattle.brk_audit_sums.proofs.AccountTerms.{HasTerms, same_brokers, same_tax_statuses}
use Rattle.brk_audit_sums.proofs.Settling.{cash_by_rows, requests_by_rows, settlements_by_rows}
use Rattle.brk_model.specs.Schemas.{Schema}

keys_of : (s : Sheets) → HasWellFormedRows s → KeyParts (abstract_sheets s)
keys_of s f = key_parts (abstract_sheets s) (form_parts f.schema (abstract_sheets s) f.form).keys

pub settlements_hold : (schema : Schema) (s : Sheets) (terms : BTreeMap ℕ AccountTerms) (ss : List settlement.SettlementRow) (ts : List trade.TradeRow) → HasWellFormedRows s → HasValidStatuses s
    → HasTerms terms s.accounts.items → ss ≡ s.settlements.items → ts ≡ s.trades.items
    → (map settlement_figures_of_row (map abstract_settlement_row ss) ≡ map (settlement_figures_of_trade s.rule (account_tax_status_in_terms terms))
    (filter is_completed_trade_row (map abstract_trade_row ts))) ↔ ConditionHolds schema condition.Settlement (abstract_sheets s)
settlements_hold schema s terms ss ts f w h e g =
    let t : Tables = abstract_sheets s in
    let law = settlements_by_rows schema t (keys_of s f).trades (keys_of s f).settlements w in
    let left : map settlement_figures_of_row (map abstract_settlement_row ss) ≡ map settlement_figures_of_row t.settlements =
    ap (λ xs. map settlement_figures_of_row (map abstract_settlement_row xs)) e in
    let rows : List TradeRow = filter is_completed_trade_row (map abstract_trade_row s.trades.items) in
    let right : map (settlement_figures_of_trade s.rule (account_tax_status_in_terms terms)) (filter is_completed_trade_row (map abstract_trade_row ts))
    ≡ map (settlement_figures_of_trade t.rule (account_tax_status_or_untaxed t)) rows =
    ap (λ xs. map (settlement_figures_of_trade s.rule (account_tax_status_in_terms terms)) (filter is_completed_trade_row (map abstract_trade_row xs))) g
    ∙ map-same (settlement_figures_of_trade s.rule (account_tax_status_in_terms terms)) (settlement_figures_of_trade t.rule (account_tax_status_or_untaxed t)) rows
    (All-of rows (λ r i. record { trade = r.id; due_day = due_day_of_completion_stamp s.rule r.stamp; amount = settlement_amount_at_tax_status (same_tax_statuses s terms h r.account i) r })) in
    ((λ k. law.1 (sym left ∙ k ∙ right)), (λ k. left ∙ law.0 k ∙ sym right))

no_moves : (rows : List CashRow) → (length rows == 0) ≡ true → rows ≡ []
no_moves [] e = refl
no_moves (r ∷ rows) e = let l : length (r ∷ rows) ≡ 0 = eqb-true (length (r ∷ rows)) 0 e in absurd (omega (arith, l))

fitting : (schema : Schema) (t : Tables) → has_rows_only_in_tables_of_schema schema t ≡ true → schema.has_cash_move_table ≡ false → t.moves ≡ []
fitting schema t f n =
    no_moves t.moves (ap (λ b. b || (length t.moves == 0)) (sym n) ∙ (and_parts (schema.has_cash_move_table || (length t.moves == 0)) (schema.has_settle_rule_table || is_none t.rule) f).0)

pub cash_holds : (schema : Schema) (s : Sheets) (terms : BTreeMap ℕ AccountTerms) (cs : List cash.OldCashRow) (ts : List trade.TradeRow) → schema.has_cash_move_table ≡ false
    → satisfies_form_condition schema (abstract_sheets s) ≡ true → HasValidStatuses s
    → HasTerms terms s.accounts.items → cs ≡ s.cash.items → ts ≡ s.trades.items
    → (map cash_transaction_figures_of_row (map abstract_old_cash_row cs)
    ≡ map (cash_transaction_figures_of_trade (account_tax_status_in_terms terms)) (filter is_completed_cash_trade (map abstract_trade_row ts))) ↔ ConditionHolds schema
    condition.Cash (abstract_sheets s)
cash_holds schema s terms cs ts n f w h e g =
    let t : Tables = abstract_sheets s in
    let formed : HasWellFormedRows s = record { schema = schema; form = f } in
    let law = cash_by_rows schema t n (fitting schema t (form_parts schema t f).fits n) (keys_of s formed).trades (keys_of s formed).cash w in
    let left : map cash_transaction_figures_of_row (map abstract_old_cash_row cs) ≡ map cash_transaction_figures_of_row t.cash =
    ap (λ xs. map cash_transaction_figures_of_row (map abstract_old_cash_row xs)) e in
    let rows : List TradeRow = filter is_completed_cash_trade (map abstract_trade_row s.trades.items) in
    let right : map (cash_transaction_figures_of_trade (account_tax_status_in_terms terms)) (filter is_completed_cash_trade (map abstract_trade_row ts))
    ≡ map (cash_transaction_figures_of_trade (account_tax_status_or_untaxed t)) rows =
    ap (λ xs. map (cash_transaction_figures_of_trade (account_tax_status_in_terms terms)) (filter is_completed_cash_trade (map abstract_trade_row xs))) g
    ∙ map-same (cash_transaction_figures_of_trade (account_tax_status_in_terms terms)) (cash_transaction_figures_of_trade (account_tax_status_or_untaxed t)) rows
    (All-of rows (λ r i. record { trade = r.id; stamp = r.stamp; amount = settlement_amount_at_tax_status (same_tax_statuses s terms h r.account i) r })) in
    ((λ k. law.1 (sym left ∙ k ∙ right)), (λ k. left ∙ law.0 k ∙ sym right))

pub requests_hold : (schema : Schema) (s : Sheets) (terms : BTreeMap ℕ AccountTerms) (qs : List request.RequestRow) (ts : List trade.TradeRow) → HasWellFormedRows s → HasValidStatuses s
    → HasTerms terms s.accounts.items → qs ≡ s.requests.items → ts ≡ s.trades.items
    → (map (λ q. q) (map abstract_request_row qs)
    ≡ map (request_row_of_trade (account_broker_in_terms terms)) (filter is_pending_trade_row (map abstract_trade_row ts))) ↔ ConditionHolds schema
    condition.Requests (abstract_sheets s)
requests_hold schema s terms qs ts f w h e g =
    let t : Tables = abstract_sheets s in
    let law = requests_by_rows schema t (keys_of s f).trades w in
    let left : map (λ q. q) (map abstract_request_row qs) ≡ t.requests = map-id (map abstract_request_row qs) ∙ ap (map abstract_request_row) e in
    let rows : List TradeRow = filter is_pending_trade_row (map abstract_trade_row s.trades.items) in
    let right : map (request_row_of_trade (account_broker_in_terms terms)) (filter is_pending_trade_row (map abstract_trade_row ts)) ≡ map (request_row_of_trade (account_broker_or_zero t)) rows =
    ap (λ xs. map (request_row_of_trade (account_broker_in_terms terms)) (filter is_pending_trade_row (map abstract_trade_row xs))) g
    ∙ map-same (request_row_of_trade (account_broker_in_terms terms)) (request_row_of_trade (account_broker_or_zero t)) rows
    (All-of rows (λ r i. record { trade = r.id; kind = r.kind; symbol = r.symbol; qty = r.qty; bid = r.bid; broker = same_brokers s terms h r.account i })) in
    ((λ k. law.1 (sym left ∙ k ∙ right)), (λ k. left ∙ law.0 k ∙ sym right))
