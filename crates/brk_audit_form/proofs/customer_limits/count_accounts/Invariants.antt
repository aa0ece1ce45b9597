use Rattle.std.proofs.Common.{◌≡◌, ◌==◌, ℕ, take, filter, length}
use Rattle.brk_audit_form.specs.Customers.{sum_at_customer_id}
use Rattle.brk_audit_form.proofs.customer_limits.count_accounts.Given as goal

abbrev pub invariant-loop-row : goal.invariant-loop-row
invariant-loop-row l = (q : ℕ) → sum_at_customer_id l.counts q ≡ length (filter (λ a. a.account.customer == q) (take l.row-index l.accounts))
