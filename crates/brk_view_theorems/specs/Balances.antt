-- Postings up to a stamp, and the balances that explanations print.
use Rattle.std.specs.Prelude.{◌≡◌, ℕ, ℤ, nat_le, nat_lt, List, None, Some, filter, unwrap_or, ◌+ℤ◌}
use Rattle.std.specs.List.{last_or}
use Rattle.brk_model.specs.Records.{Trade}
use Rattle.brk_model.specs.Base.{Base, last_status_stamp_of_trade, trade_with_id}
use Rattle.brk_model.specs.Commands.{CompleteTrade}
use Rattle.brk_model.specs.Derived.{Posting, balance_of_account, postings_of_base}
use Rattle.brk_model.specs.Orders.{assets_of_account}
use Rattle.brk_model.specs.Run.{Call, Outcome, Run}
use Rattle.brk_model.specs.Sheets.{sheets}
use Rattle.brk_model.specs.Statement.{sorted_cash_rows_of_account}
use Rattle.brk_model.specs.Tables.{AccountRow, Tables, trade_row}
use Rattle.brk_trade_books.specs.Steps.{base_after_command}
use Rattle.brk_model_explain.specs.AccountLines.{priced_holdings_of_account, account_cash_rows_by_stamp, market_value_of_holdings}
use Rattle.brk_model_explain.specs.Running.{running_totals}
use Rattle.brk_model_explain.specs.Trades.{balance_after_trade, balance_before_trade, order_details_of_trade, result_details_of_trade}

-- The postings among `posted` whose stamp is before `stamp`, in their sequence.
abbrev pub postings_before_stamp : ℕ → List Posting → List Posting
postings_before_stamp stamp posted = filter (λ p. nat_lt p.stamp stamp) posted

-- The postings among `posted` whose stamp is at most `stamp`, in their sequence.
abbrev pub postings_up_to_stamp : ℕ → List Posting → List Posting
postings_up_to_stamp stamp posted = filter (λ p. nat_le p.stamp stamp) posted

-- The balance of the account `account`, in cents: its opening balance (0 if the base has no such
-- account) plus the amounts of its postings in the base whose stamp is at most `stamp`.
abbrev pub balance_at_stamp : Base → ℕ → ℕ → ℤ
balance_at_stamp base stamp account = balance_of_account base.accounts (postings_up_to_stamp stamp (postings_of_base base)) account

-- The last number of the list `zs`, or `from` if the list is empty.
abbrev pub last_number_or_default : ℤ → List ℤ → ℤ
last_number_or_default from zs = unwrap_or (last_or None zs) from

-- The amount, in cents, that the explanation of the completed trade `t` prints as "Balance before".
abbrev pub printed_balance_before_trade : Tables → Trade → ℤ
printed_balance_before_trade tables t = balance_before_trade (order_details_of_trade tables (trade_row t)) (result_details_of_trade tables (trade_row t))

-- The amount, in cents, that the explanation of the completed trade `t` prints as "Balance after".
abbrev pub printed_balance_after_trade : Tables → Trade → ℤ
printed_balance_after_trade tables t = balance_after_trade (order_details_of_trade tables (trade_row t)) (result_details_of_trade tables (trade_row t))

-- The last running balance that the explanation of `a` prints, in cents, or the opening balance.
abbrev pub last_printed_balance : Tables → AccountRow → ℤ
last_printed_balance tables a = last_number_or_default a.opening (running_totals (λ row. row.amount) a.opening (account_cash_rows_by_stamp tables a.id))

-- The printed balance before the completed trade `t` is the balance of its account by the postings
-- before its completion; the printed balance after it also counts the postings at this stamp.
pub record PrintedBalancesMatchBase (base : Base) (t : Trade) : Type 0 where
  pub before : printed_balance_before_trade (sheets base) t
      ≡ balance_of_account base.accounts (postings_before_stamp (last_status_stamp_of_trade t) (postings_of_base base)) t.account
  pub after : printed_balance_after_trade (sheets base) t ≡ balance_at_stamp base (last_status_stamp_of_trade t) t.account

-- After the result of the trade `id` from `base` at `now` and `price` cents, as if `base` accepted
-- it, and after any later run of calls, the printed balance after the trade is the balance of its
-- account right after that result. Vacuous if the base after that run has no trade `id`.
abbrev pub RunsPreservePrintedBalanceAfterTrade : Base → ℕ → ℕ → ℕ → Type 0
RunsPreservePrintedBalanceAfterTrade base now id price =
    (calls : List (ℕ × Call)) (outcomes : List Outcome) (later : Base) (u : Trade)
    → Run (base_after_command base now (CompleteTrade id price)) calls outcomes later → trade_with_id later id ≡ Some u
    → printed_balance_after_trade (sheets later) u
    ≡ balance_of_account (base_after_command base now (CompleteTrade id price)).accounts
    (postings_of_base (base_after_command base now (CompleteTrade id price))) u.account

-- The explanation of the account `a` lists exactly its cash rows, sorted by stamp, ascending. The
-- last running balance that it prints, or the opening balance without cash rows, is the balance in
-- the row `a`, and with the market values of its holdings equals the account's assets in the base.
pub record PrintedAccountMatchesBase (base : Base) (a : AccountRow) : Type 0 where
  pub posted : account_cash_rows_by_stamp (sheets base) a.id ≡ sorted_cash_rows_of_account (sheets base) a.id
  pub last : last_printed_balance (sheets base) a ≡ a.balance
  pub assets : a.balance +ℤ market_value_of_holdings (priced_holdings_of_account (sheets base) a.id) ≡ assets_of_account base a.id
