-- The parts of the explanations of an account and of a broker.
use Rattle.std.specs.Prelude.{◌≡◌, ℕ, ℤ, List, ◌++◌, Option, Result, Ok, Err, length, map}
use Rattle.std.specs.Io.KnownBytes.{Appends}
use Rattle.brk_money.specs.Spelling.{Text}
use Rattle.brk_model.specs.Statement.{text_of_lines, holding_rows_of_account}
use Rattle.brk_model.specs.Tables.{Tables}
use Rattle.brk_ref.specs.Records.{abstract_account_row, abstract_broker_row}
use Rattle.brk_model_explain.specs.AccountLines.{holding_and_total_lines, account_header_lines, balance_and_lot_header_lines}
use Rattle.brk_model_explain.specs.AccountLines.{open_lot_line, account_cash_rows_by_stamp, cash_posting_lines}
use Rattle.brk_model_explain.specs.BrokerLines.{broker_total_lines, broker_header_lines, trade_commission_lines, completed_trades_of_broker}
use Rattle.brk_explain_rows.specs.Details.{abstract_priced_holding}
use Rattle.brk_explain_rows.specs.declared.account_details.AccountDetails.{AccountDetails}
use Rattle.brk_explain_rows.specs.declared.broker_details.BrokerDetails.{BrokerDetails}
use Rattle.brk_report_lines.specs.Written.{FailsWithinFirstLines}
use Rattle.brk_io.specs.declared.report_fault.LinesFault.{LinesFault}

-- The result of writing `lines`, the first lines of a longer text. `Ok`: exactly these were written
-- (vacuous if the content before is unknown), and the count is `n`. `Err`: `FailsWithinFirstLines`.
abbrev pub WritesCountedLines : List Text → ℕ → Option Text → Option Text → Result ℕ LinesFault → Type 0
WritesCountedLines lines n old new (Ok count) = Appends old new (text_of_lines lines) × (count ≡ n)
WritesCountedLines lines n old new (Err e) = FailsWithinFirstLines lines old new e

-- The lines of the cash rows of `account` with stamps from 1970-01-01 to 9999-12-31, both included,
-- sorted by stamp, each with the balance after it; `opening` is the balance before, in cents.
abbrev pub account_cash_lines : Tables → ℕ → ℤ → List Text
account_cash_lines t account opening = cash_posting_lines opening (account_cash_rows_by_stamp t account)

-- A line for each lot of `account` in the tables `t`, sorted by symbol, then by opening stamp.
abbrev pub account_lot_lines : Tables → ℕ → List Text
account_lot_lines t account = map open_lot_line (holding_rows_of_account t account)

-- All lines of the explanation of `account`, from `details` and from its cash rows and lots in `t`.
abbrev pub all_account_lines : Tables → ℕ → AccountDetails → List Text
all_account_lines t account details =
    account_header_lines (abstract_account_row details.account)
    ++ (account_cash_lines t account details.account.account.opening
    ++ (balance_and_lot_header_lines (abstract_account_row details.account)
    ++ (account_lot_lines t account
    ++ holding_and_total_lines (abstract_account_row details.account) (map abstract_priced_holding details.held.items)
    (length (account_cash_rows_by_stamp t account)) (length (holding_rows_of_account t account)))))

-- The lines of the completed trades of the accounts of `broker` (`completed_trades_of_broker`),
-- sorted by the stamp of completion, ascending, each with the running total of the commissions.
abbrev pub broker_trade_lines : Tables → ℕ → List Text
broker_trade_lines t broker = trade_commission_lines (completed_trades_of_broker t broker)

-- All lines of the explanation of `broker`, from `details` and its accounts' completed trades.
abbrev pub all_broker_lines : Tables → ℕ → BrokerDetails → List Text
all_broker_lines t broker details =
    broker_header_lines (abstract_broker_row details.broker)
    ++ (broker_trade_lines t broker ++ broker_total_lines (abstract_broker_row details.broker) details.accounts (length (completed_trades_of_broker t broker)))
