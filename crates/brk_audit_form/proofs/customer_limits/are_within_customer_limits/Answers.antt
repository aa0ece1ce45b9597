use Rattle.std.proofs.Common.{◌≡◌, ◌==◌, ℕ, sym, ◌∙◌, ap, filter, length}
use Rattle.std.specs.Prelude.{◌&&◌, nat_le}
use Rattle.std.specs.List.{list_all}
use Rattle.std.proofs.lemmas.List.Folds.{list_all-map}
use Rattle.brk_model.specs.Base.{tax_rate_sum_of_customer}
use Rattle.brk_model.specs.Adopted.{base_of_tables}
use Rattle.brk_model.specs.Form.{is_within_customer_limits}
use Rattle.brk_model.specs.Limits.{most_accounts_per_customer, greatest_tax_rate}
use Rattle.brk_ref.specs.Records.{abstract_account_row, abstract_customer}
use Rattle.brk_trade_rows.specs.Sheets.{abstract_sheets}
use Rattle.brk_audit_form.specs.Customers.{sum_at_customer_id}
use Rattle.brk_audit_form.proofs.CustomerSums.{count-mapped}
use Rattle.brk_audit_form.proofs.customer_limits.are_within_customer_limits.Goals as goal

pub returns : goal.returns
unfolding base_of_tables
returns c =
    let s = c.args.sheets.now in
    let t = abstract_sheets s in
    let counts = c.in_ok-counts.counts in
    let sums = c.in_ok-sums.sums in
    let e : (q : ℕ) → sum_at_customer_id counts q ≡ length (filter (λ a. a.customer == q) t.accounts) = λ q.
    c.in_ok-counts.ensures q ∙ ap (λ l. length (filter (λ a. a.account.customer == q) l)) c.deref.ensures.value ∙ count-mapped (λ a. a.customer == q) abstract_account_row s.accounts.items in
    let f : (q : ℕ) → sum_at_customer_id sums q ≡ tax_rate_sum_of_customer (base_of_tables t) q = c.in_ok-sums.ensures in
    c.all_keep_limits.ensures
    ∙ (λ i. list_all (λ k. nat_le (e k.id i) most_accounts_per_customer && nat_le (f k.id i) greatest_tax_rate) (c.deref-2.ensures.value i))
    ∙ sym (list_all-map (is_within_customer_limits t) abstract_customer s.customers.items)
