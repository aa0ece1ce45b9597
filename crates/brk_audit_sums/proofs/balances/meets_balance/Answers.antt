use Rattle.std.proofs.Common.{◌≡◌, ◌++◌, List, ℕ, ◌==◌, refl, ◌∙◌, sym, ap}
use Rattle.std.specs.Prelude.{◌+ℤ◌, find, option_map}
use Rattle.std.specs.BTreeMap.{BTreeMap}
use Rattle.std.specs.List.{filter_map}
use Rattle.std.specs.Ordering.{nat_cmp}
use Rattle.brk_model.specs.Tables.{Tables}
use Rattle.brk_ref.specs.Records.{abstract_account_row}
use Rattle.brk_ref.specs.Rows.{abstract_cash_row, abstract_trade_row}
use Rattle.brk_trade_rows.specs.Sheets.{abstract_sheets}
use Rattle.brk_trade_rows.specs.declared.sheets.Sheets.{Sheets}
use Rattle.brk_audit_theorems.proofs.Parts.{key_parts}
use Rattle.brk_model_theorems.proofs.FormParts.{form_parts}
use Rattle.brk_audit_sums.specs.declared.account_terms.AccountTerms.{AccountTerms}
use Rattle.brk_audit_sums.specs.AccountTerms.{account_tax_status_in_terms, terms_of_account_row}
use Rattle.brk_audit_sums.specs.Settling.{settlement_amount_at_tax_status, is_completed_cash_trade}
use Rattle.brk_audit_sums.specs.Sums.{cash_posting_of_trade_row, movement_posting_of_row}
use Rattle.brk_audit_sums.specs.declared.tally.KeyedAmount.{KeyedAmount}
use Rattle.brk_audit_sums.specs.Tally.{sum_at_key, total_amount_at_key}
use Rattle.brk_audit_sums.proofs.AccountTerms.{HasTerms, same_tax_statuses}
use Rattle.brk_audit_sums.proofs.Checked.{moved_sum, posted_sum, told_by, total_both}
use Rattle.brk_audit_sums.proofs.SumRows.{balances_by_rows, moved_on}
use Rattle.brk_audit_sums.proofs.balances.meets_balance.Goals as goal
use Rattle.brk_audit_sums.proofs.Sums.{account_tax_status_or_untaxed, sum_over_account_cash_trades}

pub returns : goal.returns
returns c = λ schema.
    let s : Sheets = c.args.sheets.now in
    let t : Tables = abstract_sheets s in
    let terms : BTreeMap ℕ AccountTerms = c.in_ok-terms.terms in
    let has : HasTerms terms s.accounts.items = λ id. c.in_ok-terms.ensures.terms id ∙ ap (λ rows. option_map terms_of_account_row (find (λ a. a.account.id == id) rows)) c.deref.ensures.value in
    let posted : c.in_ok-postings.postings.items ≡ filter_map (λ r. cash_posting_of_trade_row (account_tax_status_in_terms terms) (abstract_trade_row r)) s.trades.items =
    c.in_ok-postings.ensures.all ∙ ap (filter_map (λ r. cash_posting_of_trade_row (account_tax_status_in_terms terms) (abstract_trade_row r))) c.deref-2.ensures.value in
    let moved : c.deref-4.result.now ≡ c.in_ok-postings.postings.items ++ filter_map (λ r. movement_posting_of_row (abstract_cash_row r)) s.moves.items =
    c.deref-4.ensures.value ∙ c.in_ok-append_movement_postings.ensures.all
    ∙ ap (λ rows. c.in_ok-postings.postings.items ++ filter_map (λ r. movement_posting_of_row (abstract_cash_row r)) rows) c.deref-3.ensures.value in
    let trades : List (KeyedAmount ℕ) = filter_map (λ r. cash_posting_of_trade_row (account_tax_status_in_terms terms) (abstract_trade_row r)) s.trades.items in
    let trades_sum : (q : ℕ)
    → total_amount_at_key nat_cmp trades q
    ≡ sum_over_account_cash_trades t (λ r. settlement_amount_at_tax_status (account_tax_status_or_untaxed t r.account) r) q =
    λ q. posted_sum is_completed_cash_trade (λ r. r.account) (λ r. r.account)
    (λ r. settlement_amount_at_tax_status (account_tax_status_in_terms terms r.account) r)
    (λ r. settlement_amount_at_tax_status (account_tax_status_or_untaxed t r.account) r) s.trades.items q (λ r. refl)
    (λ r. ap (λ status. settlement_amount_at_tax_status status r) (same_tax_statuses s terms has r.account)) in
    let sum : (q : ℕ) → sum_at_key nat_cmp c.in_ok-sums.sums q ≡ moved_on t q = λ q.
    c.in_ok-sums.ensures.sums q ∙ ap (λ ps. total_amount_at_key nat_cmp ps q) (moved ∙ ap (λ ps. ps ++ filter_map (λ r. movement_posting_of_row (abstract_cash_row r)) s.moves.items) posted)
    ∙ total_both trades (filter_map (λ r. movement_posting_of_row (abstract_cash_row r)) s.moves.items) q
    ∙ (λ i. trades_sum q i +ℤ moved_sum s.moves.items q i) in
    told_by (λ row. row.balance ≡ row.account.opening +ℤ sum_at_key nat_cmp c.in_ok-sums.sums row.account.id)
    (λ row. row.balance ≡ row.opening +ℤ moved_on t row.id) abstract_account_row s.accounts.items c.deref-5.result.now c.deref-5.ensures.value
    c.all_match_sums.ensures
    (λ row e. e ∙ ap (λ z. row.account.opening +ℤ z) (sum row.account.id))
    (λ row e. e ∙ sym (ap (λ z. row.account.opening +ℤ z) (sum row.account.id)))
    (balances_by_rows schema t (key_parts t (form_parts c.requires.form.schema t c.requires.form.form).keys).accounts c.requires.status)
