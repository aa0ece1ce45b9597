-- The lines of the explanation of a broker.
use Rattle.std.specs.Prelude.{ℕ, ◌&&◌, ◌==◌, List, [], ◌∷◌, ◌++◌, filter, find, length, Option, ℤ, pos, codes, decimal}
use Rattle.std.specs.Fmt.{signed_decimal}
use Rattle.std.specs.Option.{option_map_or}
use Rattle.brk_money.specs.Spelling.{Text}
use Rattle.brk_model.specs.Lists.{sort_by_key}
use Rattle.brk_model.specs.Tables.{Tables, AccountRow, BrokerRow, TradeRow}
use Rattle.brk_model.specs.Joins.{account_row_with_id}
use Rattle.brk_model.specs.Statement.{left_aligned_text, right_aligned_text}
use Rattle.brk_model_explain.specs.Texts.{amount_column, labeled_value, timestamp_text, labeled_amount, labeled_text}
use Rattle.brk_model_explain.specs.Running.{lines_with_running_total}
use Rattle.brk_model_explain.specs.Trades.{has_completed_status}

-- The first row of the table BROKER with the id `broker`, or `None` if there is none.
abbrev pub broker_row_with_id : Tables → ℕ → Option BrokerRow
broker_row_with_id tables broker = find (λ b. b.id == broker) tables.brokers

-- The accounts whose broker is `broker`, in the order of the table CUSTOMER_ACCOUNT.
abbrev pub accounts_with_broker : Tables → ℕ → List AccountRow
accounts_with_broker tables broker = filter (λ a. a.broker == broker) tables.accounts

-- The id of the broker of the account with the id `account`, or 0 if the account does not exist.
abbrev pub broker_of_account_or_zero : Tables → ℕ → ℕ
broker_of_account_or_zero tables account = option_map_or (λ a. a.broker) (account_row_with_id tables account) 0

-- The completed trades of the accounts of `broker`, sorted by the stamp of completion, ascending.
-- If `broker` is 0, they include those whose account does not exist.
abbrev pub completed_trades_of_broker : Tables → ℕ → List TradeRow
completed_trades_of_broker tables broker =
    sort_by_key (λ u. u.stamp) (filter (λ u. has_completed_status u && (broker_of_account_or_zero tables u.account == broker)) tables.trades)

-- The line of the trade `u`: `Trade`, timestamp, id, account, commission, running `total` in cents.
unfoldable pub trade_commission_line : TradeRow → ℤ → Text
trade_commission_line u total =
    left_aligned_text 6 (codes "Trade") ++ 32 ∷ timestamp_text u.stamp ++ 32 ∷ right_aligned_text 13 (decimal u.id) ++ 32
    ∷ right_aligned_text 13 (decimal u.account)
    ++ amount_column (pos u.commission) ++ amount_column total

-- The first lines of the explanation of the broker `b`: title, name, column headings of the trades.
unfoldable pub broker_header_lines : BrokerRow → List Text
broker_header_lines b =
    (codes "Broker " ++ decimal b.id ++ codes ", times in UTC")
    ∷ labeled_text (codes "Name") b.name
    ∷ codes "#      completed                       trade       account             commission                  total"
    ∷ []

-- A line for each of the completed trades `done`, with the running total of their commissions.
abbrev pub trade_commission_lines : List TradeRow → List Text
trade_commission_lines done = lines_with_running_total (λ u. pos u.commission) trade_commission_line (pos 0) done

-- The last line of the explanation of a broker: the numbers of its accounts and of its trades.
abbrev pub broker_counts_line : ℕ → ℕ → Text
broker_counts_line accounts trades = codes "Accounts " ++ decimal accounts ++ codes ", trades " ++ decimal trades

-- The last lines: the totals that the row `b` records, and the numbers of accounts and trades.
unfoldable pub broker_total_lines : BrokerRow → ℕ → ℕ → List Text
broker_total_lines b accounts trades =
    labeled_amount (codes "Commissions") (pos b.commissions) ∷ labeled_value (codes "Trades") (signed_decimal b.trades) ∷ broker_counts_line accounts trades
    ∷ []

-- The explanation of the broker `b`: title, name, column headings, a line for each of its completed
-- trades `done` with the running total of commissions, and last lines, with its `accounts`.
unfoldable pub broker_lines_from_trades : BrokerRow → ℕ → List TradeRow → List Text
broker_lines_from_trades b accounts done = broker_header_lines b ++ trade_commission_lines done ++ broker_total_lines b accounts (length done)

-- The explanation of the broker `b`: title, name, column headings, a line for each of its completed
-- trades, sorted by the stamp of completion, ascending, with the running total of commissions, the
-- totals that the row `b` records, and the numbers of its accounts and of these trades.
unfoldable pub broker_explanation_lines : Tables → BrokerRow → List Text
broker_explanation_lines tables b = broker_lines_from_trades b (length (accounts_with_broker tables b.id)) (completed_trades_of_broker tables b.id)
