use Rattle.std.proofs.Common.{◌≡◌, ◌==◌, ◌≤◌, ◌*◌, ℕ, take, filter}
use Rattle.std.specs.Prelude.{sum_by}
use Rattle.brk_trade_rows.specs.Sheets.{abstract_sheets}
use Rattle.brk_audit_form.specs.Customers.{rate_of_tax_rate_or_zero, sum_at_customer_id}
use Rattle.brk_audit_form.proofs.customer_limits.sum_tax_rates.Given as goal

abbrev pub invariant-loop-row : goal.invariant-loop-row
invariant-loop-row l = record {
  told : (q : ℕ) → sum_at_customer_id l.sums q ≡ sum_by (λ x. rate_of_tax_rate_or_zero (abstract_sheets l.sheets) x.tax) (filter (λ x. x.customer == q) (take l.row-index l.row-items));
  high : (q : ℕ) → sum_at_customer_id l.sums q ≤ 100000 * l.row-index;
}
