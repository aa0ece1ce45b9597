-- Rows, sums and values that the proofs name.
use Rattle.std.specs.Prelude.{List, filter, ◌≡◌, ℕ, ◌==◌, true, false, ◌&&◌, ℤ, bytes_eq, is_none}
use Rattle.brk_model.specs.Tables.{Tables, TradeRow, SummaryRow}
use Rattle.std.specs.Borrow.{Bor}
use Rattle.std.specs.List.{AllByRecursion}
use Rattle.std.specs.declared.cmp.Ordering.{Ordering}
use Rattle.std.specs.Cmp.Lexicographic.{slice_cmp}
use Rattle.std.specs.Ordering.{nat_cmp, ordering_then}
use Rattle.brk_money.specs.Kinds.{side_of_trade_type}
use Rattle.brk_money.specs.Spelling.{Text}
use Rattle.brk_model.specs.Form.{has_account, has_security}
use Rattle.brk_model.specs.Lists.{is_zero, total_by}
use Rattle.brk_model.specs.Shares.{signed_by_side}
use Rattle.brk_audit_sums.specs.Completed.{is_completed_trade_row, is_pending_trade_row}
use Rattle.std.specs.Option.{option_map_or}
use Rattle.brk_money.specs.declared.tax_status.TaxStatus.{TaxStatus}
use Rattle.brk_money.specs.declared.tax_status.TaxStatus.TheVariants.{Untaxed}
use Rattle.brk_model.specs.Joins.{account_row_with_id}
use Rattle.brk_audit_sums.specs.Settling.{is_completed_cash_trade}

-- The rows of TRADE that are completed, in the order of the table.
abbrev pub completed_trade_rows : Tables → List TradeRow
completed_trade_rows t = filter is_completed_trade_row t.trades

-- The rows of TRADE that are pending, in the order of the table.
abbrev pub pending_trade_rows : Tables → List TradeRow
pending_trade_rows t = filter is_pending_trade_row t.trades

-- The number of shares that remain after the completed trades of the account in the symbol:
-- purchases minus sales, below 0 if they are sold short.
abbrev pub share_sum_of_completed_trades : Tables → ℕ → Text → ℤ
share_sum_of_completed_trades t account symbol =
    total_by (λ r. signed_by_side (side_of_trade_type r.kind) r.qty) (filter (λ r. is_completed_trade_row r
    && ((r.account == account) && bytes_eq r.symbol symbol)) t.trades)

-- The sum of the quantities, in shares, of the holding summaries of the account in the symbol.
abbrev pub share_sum_of_summaries : List SummaryRow → ℕ → Text → ℤ
share_sum_of_summaries rows account symbol = total_by (λ h. h.qty) (filter (λ h. (h.account == account) && bytes_eq h.symbol symbol) rows)

-- The quantity of the holding summary `h` is not 0.
abbrev pub HasNonzeroQuantity : SummaryRow → Type 0
HasNonzeroQuantity h = is_zero h.qty ≡ false

-- For each existing account and security, the quantities of the holding summaries sum to the
-- quantities of the completed trades, purchases minus sales. No summary has the quantity 0.
pub record SummariesMatchTrades (t : Tables) : Type 0 where
  pub sums : (account : ℕ) (symbol : Text) → has_account t account ≡ true → has_security t symbol ≡ true
      → share_sum_of_completed_trades t account symbol ≡ share_sum_of_summaries t.summaries account symbol
  pub nonzero : AllByRecursion HasNonzeroQuantity t.summaries

-- The order of two pairs of an account and a symbol: by account, then by symbol in the
-- lexicographic order of bytes.
abbrev pub position_cmp : ℕ × Bor (List ℕ) → ℕ × Bor (List ℕ) → Ordering
position_cmp x y = ordering_then (nat_cmp x.0 y.0) (slice_cmp nat_cmp x.1.now y.1.now)

-- The broker in the first row of CUSTOMER_ACCOUNT, in the sequence of the table, with the id
-- `account`, or 0 if there is no such row.
abbrev pub account_broker_or_zero : Tables → ℕ → ℕ
account_broker_or_zero t account = option_map_or (λ a. a.broker) (account_row_with_id t account) 0

-- The tax status in the first row of CUSTOMER_ACCOUNT, in the sequence of the table, with the id
-- `account`, or `Untaxed` if there is no such row.
abbrev pub account_tax_status_or_untaxed : Tables → ℕ → TaxStatus
account_tax_status_or_untaxed t account = option_map_or (λ a. a.tax_status) (account_row_with_id t account) Untaxed

-- The sum of `amount` over the completed trades of the accounts of the broker with the id `broker`.
-- An account that does not exist counts as one of broker 0.
abbrev pub sum_over_broker_trades : Tables → (TradeRow → ℤ) → ℕ → ℤ
sum_over_broker_trades t amount broker = total_by amount (filter (λ r. is_completed_trade_row r && (account_broker_or_zero t r.account == broker)) t.trades)

-- The sum of `amount` over the completed cash trades of the account.
abbrev pub sum_over_account_cash_trades : Tables → (TradeRow → ℤ) → ℕ → ℤ
sum_over_account_cash_trades t amount account = total_by amount (filter (λ r. is_completed_cash_trade r && (r.account == account)) t.trades)

-- The sum of the amounts of the account's deposits and withdrawals, in cents; the amount of a
-- withdrawal is below 0.
abbrev pub movement_sum_of_account : Tables → ℕ → ℤ
movement_sum_of_account t account = total_by (λ r. r.amount) (filter (λ r. is_none r.trade && (r.account == account)) t.moves)
