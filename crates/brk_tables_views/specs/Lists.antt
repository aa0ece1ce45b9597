-- The list of rows that each walk passes, in its order. Each sort key ends with the key of the row,
-- so no two rows of a table have equal sort keys.
use Rattle.std.specs.Prelude.{ℕ, Bool, ◌==◌, ◌&&◌, List, [], ◌∷◌, filter}
use Rattle.brk_model.specs.Limits.{is_in_range}
use Rattle.brk_model.specs.Keys.{KeyPart, number, word, rows_sorted_by_key}
use Rattle.brk_model.specs.Tables.{Tables, HoldingRow, CashRow, TradeRow}
use Rattle.brk_money.specs.Kinds.{is_same_trade_status}
use Rattle.brk_money.specs.declared.status.Status.TheVariants.{Completed}

-- The sort key of a lot: its symbol, the stamp of its opening, the id of the trade that opened it.
abbrev pub lot_sort_key : HoldingRow → List KeyPart
lot_sort_key r = word r.symbol ∷ number r.stamp ∷ number r.trade ∷ []

-- The lots of `account`, sorted by `lot_sort_key`, ascending.
abbrev pub account_lots_by_symbol : ℕ → Tables → List HoldingRow
account_lots_by_symbol account t = rows_sorted_by_key lot_sort_key (filter (λ row. row.account == account) t.holdings)

-- The sort key of a cash row: its stamp, then its number.
abbrev pub cash_sort_key : CashRow → List KeyPart
cash_sort_key r = number r.stamp ∷ number r.id ∷ []

-- True if the cash row belongs to `account` and its stamp is from `from` to `to`, both included.
abbrev pub is_account_cash_row_between : ℕ → ℕ → ℕ → CashRow → Bool
is_account_cash_row_between account from to row = (row.account == account) && is_in_range from to row.stamp

-- The cash rows of `account` with stamps from `from` to `to`, sorted by `cash_sort_key`, ascending.
abbrev pub account_cash_rows_between : ℕ → ℕ → ℕ → Tables → List CashRow
account_cash_rows_between account from to t = rows_sorted_by_key cash_sort_key (filter (is_account_cash_row_between account from to) t.moves)

-- The sort key of a trade: the stamp of its last status change, then its id.
abbrev pub stamp_and_id_key : TradeRow → List KeyPart
stamp_and_id_key r = number r.stamp ∷ number r.id ∷ []

-- The completed trades of all accounts, sorted by `stamp_and_id_key`, ascending.
abbrev pub completed_trades_by_stamp_and_id : Tables → List TradeRow
completed_trades_by_stamp_and_id t = rows_sorted_by_key stamp_and_id_key (filter (λ row. is_same_trade_status row.status Completed) t.trades)
