-- The rows of the trades that a text update selects.
use Rattle.std.specs.Prelude.{ℕ, Bool, ◌&&◌, ◌==◌, List, filter, take, bytes_eq}
use Rattle.brk_money.specs.Kinds.{is_same_trade_status}
use Rattle.brk_money.specs.Spelling.{Text}
use Rattle.brk_money.specs.declared.status.Status.TheVariants.{Completed}
use Rattle.brk_model.specs.Joins.{trade_rows_oldest_first}
use Rattle.brk_model.specs.LookupView.{row_stamp_is_between}
use Rattle.brk_model.specs.Tables.{Tables, TradeRow}

-- The first 20 TRADE rows, or fewer, of completed trades that pass `test`, by stamp, then by id.
abbrev pub first_twenty_completed_trade_rows : (TradeRow → Bool) → Tables → List TradeRow
first_twenty_completed_trade_rows test t = take 20 (trade_rows_oldest_first (filter (λ r. is_same_trade_status r.status Completed && test r) t.trades))

-- The first 20 TRADE rows, or fewer, of trades of `account` completed at the stamps `first` to
-- `last`, both included, by stamp, then by id.
abbrev pub first_twenty_completed_trade_rows_of_account : (account first last : ℕ) → Tables → List TradeRow
first_twenty_completed_trade_rows_of_account account first last =
    first_twenty_completed_trade_rows (λ r. (r.account == account) && row_stamp_is_between first last r)

-- The first 20 TRADE rows, or fewer, of cash trades of `symbol` completed at the stamps `first` to
-- `last`, both included, by stamp, then by id.
abbrev pub first_twenty_completed_cash_trade_rows_of_symbol : Text → (first last : ℕ) → Tables → List TradeRow
first_twenty_completed_cash_trade_rows_of_symbol symbol first last =
    first_twenty_completed_trade_rows (λ r. (r.is_cash && bytes_eq r.symbol symbol) && row_stamp_is_between first last r)
