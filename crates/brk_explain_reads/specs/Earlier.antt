-- A visitor that adds up the cash rows before a stamp.
use Rattle.std.specs.Prelude.{◌≡◌, ◌+◌, ◌+ℤ◌, if◌then◌else◌, nat_lt}
use Rattle.brk_ref.specs.declared.cash_row.CashRow.{CashRow}
use Rattle.brk_explain_reads.specs.declared.cash.EarlierCashSum.{EarlierCashSum}

-- The visitor is `p` before `row` and `q` after it: if the stamp of `row` is before `until`, the
-- count is greater by 1 and the total by the row's amount, in cents; otherwise nothing changed.
abbrev pub AddsEarlierCashRow : EarlierCashSum → CashRow → EarlierCashSum → Type 0
AddsEarlierCashRow p row q =
    (q.until ≡ p.until) × (q.sum.rows ≡ (if nat_lt row.stamp p.until then p.sum.rows + 1 else p.sum.rows))
    × (q.sum.total ≡ (if nat_lt row.stamp p.until then p.sum.total +ℤ row.amount else p.sum.total))
