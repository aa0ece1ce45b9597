-- The sums in the tables (broker totals, balances and summaries) and the rows that they count.
use Rattle.std.specs.Prelude.{◌≡◌, ◌≢◌, ℕ, ◌==◌, ◌&&◌, Bool, true, List, filter, is_some, length, sum_by, ℤ, pos, ◌+ℤ◌, bytes_eq}
use Rattle.std.specs.List.{AllByRecursion}
use Rattle.std.specs.Option.{option_map_or}
use Rattle.brk_lots.specs.Position.{IsPosition}
use Rattle.brk_money.specs.Kinds.{is_same_trade_status}
use Rattle.brk_money.specs.declared.status.Status.TheVariants.{Completed}
use Rattle.brk_money.specs.Spelling.{Text}
use Rattle.brk_model.specs.Joins.{account_row_with_id, cash_move_rows_of_account}
use Rattle.brk_model.specs.Lists.{total_by}
use Rattle.brk_model.specs.Tables.{AccountRow, BrokerRow, HoldingRow, SummaryRow, Tables, TradeRow}
use Rattle.brk_trade_books.specs.Lives.{AllLotChangesFormChains}
use Rattle.brk_trade_books.specs.TradeReads.{lots_of_position, summary_row_of_position}

-- True if the trade `r` is completed and `broker` is the broker of its account, 0 for no account.
abbrev pub is_completed_trade_of_broker : Tables → ℕ → TradeRow → Bool
is_completed_trade_of_broker t broker r =
    is_same_trade_status r.status Completed && (option_map_or (λ a. a.broker) (account_row_with_id t r.account) 0 == broker)

-- The completed trades of the accounts of `broker`, in sequence (`is_completed_trade_of_broker`).
abbrev pub completed_trade_rows_of_broker : Tables → ℕ → List TradeRow
completed_trade_rows_of_broker t broker = filter (is_completed_trade_of_broker t broker) t.trades

-- True if the row `h` of HOLDING has the account `account` and the symbol `symbol`.
abbrev pub is_lot_of_position : ℕ → Text → HoldingRow → Bool
is_lot_of_position account symbol h = (h.account == account) && bytes_eq h.symbol symbol

-- The sum of the lot quantities of the account in the symbol, in shares, below 0 if sold short.
abbrev pub lot_row_quantity_sum_of_position : Tables → ℕ → Text → ℤ
lot_row_quantity_sum_of_position t account symbol = total_by (λ h. h.qty) (filter (is_lot_of_position account symbol) t.holdings)

-- ---- all rows of a kind

-- The trade count and the commission total of the broker's row `b` equal the number of completed
-- trades of the broker's accounts and the sum of their commissions, in cents.
pub record BrokerTotalsMatchTrades (t : Tables) (b : BrokerRow) : Type 0 where
  pub trades : b.trades ≡ pos (length (completed_trade_rows_of_broker t b.id))
  pub commissions : b.commissions ≡ sum_by (λ r. r.commission) (completed_trade_rows_of_broker t b.id)

-- The balance of the account's row `a` is its opening balance plus the amounts of its cash rows.
abbrev pub BalanceMatchesCashRows : Tables → AccountRow → Type 0
BalanceMatchesCashRows t a = a.balance ≡ a.opening +ℤ total_by (λ c. c.amount) (cash_move_rows_of_account t a.id)

-- The summary `s` equals the sum of the lot quantities of its account in its symbol, and is not 0.
pub record SummaryMatchesLots (t : Tables) (s : SummaryRow) : Type 0 where
  pub sum : s.qty ≡ lot_row_quantity_sum_of_position t s.account s.symbol
  pub some : s.qty ≢ pos 0

-- The account of the lot `h` has a holding summary in the symbol of the lot.
abbrev pub LotHasSummary : Tables → HoldingRow → Type 0
LotHasSummary t h = is_some (summary_row_of_position t h.account h.symbol) ≡ true

-- The broker totals, the balances and the summaries in the tables equal the sums of the rows that
-- they count; no summary is 0, each lot has a summary, the lots of an account in a symbol form a
-- position, and the changes of each lot form a chain.
pub record TableSumsMatchTheirRows (t : Tables) : Type 0 where
  pub brokers : AllByRecursion (BrokerTotalsMatchTrades t) t.brokers
  pub balances : AllByRecursion (BalanceMatchesCashRows t) t.accounts
  pub summaries : AllByRecursion (SummaryMatchesLots t) t.summaries
  -- Each lot has a summary.
  pub summed : AllByRecursion (LotHasSummary t) t.holdings
  -- The lots of an account in a symbol form a position: no lot has 0 shares, all are bought or all
  -- are sold short, and no two have the same trade or stamp.
  pub positions : (account : ℕ) (symbol : Text) → IsPosition (lots_of_position t account symbol)
  -- The changes of each lot form a chain from 0 to the remaining quantity (`LotChangesFormChain`).
  pub lot_histories : AllLotChangesFormChains t
