-- The effect of a result on the tables.
use Rattle.std.specs.Prelude.{ℕ, ◌+◌, Bool, if◌then◌else◌, List, fold, length, unwrap_or, ℤ, pos}
use Rattle.brk_money.specs.declared.status.Status.TheVariants.{Completed}
use Rattle.brk_model.specs.Lists.{is_zero}
use Rattle.brk_model.specs.Shares.{Deal, Lot, Touch, lots_of_shares, opened_shares, touches_of_existing_lots}
use Rattle.brk_model.specs.Records.{Trade}
use Rattle.brk_model.specs.Base.{Base, broker_id_of_account, completed_trades}
use Rattle.brk_model.specs.Derived.{balance_of_account, commission_total_of_broker, posting_of_trade, postings, postings_of_base}
use Rattle.brk_model.specs.Derived.{shares_of_position, holding_summary_quantity, trade_count_of_broker}
use Rattle.brk_model.specs.Results.{trade_after_completion, deal_of_result, base_after_result}
use Rattle.brk_model.specs.Tables.{HoldingHistoryRow, HoldingRow, CashRow, SettlementRow, SummaryRow}
use Rattle.brk_model.specs.Tables.{Tables, TradeRow, cash_move_row, settlement_row, trade_row}
use Rattle.brk_lots.specs.Lots.{list_reversed_if_lifo}
use Rattle.brk_trade_rows.specs.Changes.{tables_with_balance, tables_with_broker_totals, tables_with_cash_row, tables_with_trade_completed}
use Rattle.brk_trade_rows.specs.Changes.{tables_with_history_row, tables_with_lot, tables_with_lot_change, tables_with_lot_quantity, tables_with_settlement}
use Rattle.brk_trade_rows.specs.Changes.{tables_with_summary, tables_with_summary_quantity, tables_without_lot, tables_without_summary}
use Rattle.brk_trade_books.specs.Trading.{history_row_of_status}

-- The rows and the figures that determine how a result changes the tables. Amounts are in cents,
-- and quantities are in shares, below 0 if sold short.
pub record ResultRows : Type 0 where
  -- The row of the trade after its completion.
  pub trade : TradeRow
  -- The changes of the lots that the trade closes or reduces, in the sequence of their first
  -- shares, reversed if it closes the newest first; and the lot that the trade opens, if any.
  pub touched : List Touch
  pub opened : List Lot
  -- The quantity of the position's summary before the result and after it, 0 if it has no row.
  pub before : ℤ
  pub after : ℤ
  -- The settlement of the trade, and the cash row that the result adds if `trade` is a cash trade.
  pub settlement : SettlementRow
  pub cash : CashRow
  -- The balance of the account after the result; a result of a margin trade does not set it.
  pub balance : ℤ
  -- The broker of the account, and its trade count and commission total after the result.
  pub broker : ℕ
  pub trades : ℤ
  pub commissions : ℕ

-- ---- the trade

-- The tables with the trade of the row `r` completed at the values of `r` (a missing price counts
-- as 0), if it exists, and with its completion added to TRADE_HISTORY in any case.
abbrev pub tables_with_trade_completed_and_history : TradeRow → Tables → Tables
tables_with_trade_completed_and_history r t =
    tables_with_history_row (history_row_of_status r.id Completed r.stamp) (tables_with_trade_completed r.id r.stamp (unwrap_or r.price 0) r.commission r.tax t)

-- ---- its lots

-- The row of HOLDING_HISTORY of the lot change `touch`, which the trade `trade` makes.
abbrev pub holding_history_row_of_touch : ℕ → Touch → HoldingHistoryRow
holding_history_row_of_touch trade touch = record { lot = touch.lot; trade = trade; before = touch.before; after = touch.after }

-- The tables with the lot in HOLDING, if it exists, set to `touch.after`, or deleted if this is 0.
abbrev pub tables_with_touched_holding : Touch → Tables → Tables
tables_with_touched_holding touch t = if is_zero touch.after then tables_without_lot touch.lot t else tables_with_lot_quantity touch.lot touch.after t

-- The tables with each lot of `touched`, one after the other, set to its new quantity or deleted
-- (`tables_with_touched_holding`), and a row of HOLDING_HISTORY by the trade `trade` added for it.
abbrev pub tables_with_lots_touched : ℕ → List Touch → Tables → Tables
tables_with_lots_touched trade touched t =
    fold (λ t touch. tables_with_lot_change (holding_history_row_of_touch trade touch) (tables_with_touched_holding touch t)) t touched

-- The row of HOLDING of the lot `lot`, with the account and the symbol of the trade `r`.
abbrev pub holding_row_of_lot : TradeRow → Lot → HoldingRow
holding_row_of_lot r lot = record { trade = lot.trade; account = r.account; symbol = r.symbol; stamp = lot.stamp; price = lot.price; qty = lot.qty }

-- The row of HOLDING_HISTORY of the opening of the lot `lot`: from 0 to its quantity, by its trade.
abbrev pub opening_holding_history_row : Lot → HoldingHistoryRow
opening_holding_history_row lot = record { lot = lot.trade; trade = lot.trade; before = pos 0; after = lot.qty }

-- The tables with the lots `opened` added one after the other, each with the account and the symbol
-- of the trade `r` and with its row of HOLDING_HISTORY.
abbrev pub tables_with_lots_opened : TradeRow → List Lot → Tables → Tables
tables_with_lots_opened r opened t =
    fold (λ t lot. tables_with_lot_change (opening_holding_history_row lot) (tables_with_lot (holding_row_of_lot r lot) t)) t opened

-- ---- its summary, which has no row if it is 0

-- The tables with the holding summary of the account and the symbol of `row` changed from `before`
-- to `after`: its row is deleted if `after` is 0, added if only `before` is 0, and otherwise set to
-- the quantity of `row`. A row that does not exist is neither deleted nor set.
abbrev pub tables_with_summary_changed : (before after : ℤ) → SummaryRow → Tables → Tables
tables_with_summary_changed before after row t =
    if is_zero after then tables_without_summary row.account row.symbol t
    else if is_zero before then tables_with_summary row t else tables_with_summary_quantity row t

-- ---- its cash

-- The tables, with `cash` added and the balance of `account` set to `balance` cents if `is_cash`.
abbrev pub tables_with_cash_row_if_cash_trade : (is_cash : Bool) → CashRow → (account : ℕ) → (balance : ℤ) → Tables → Tables
tables_with_cash_row_if_cash_trade is_cash cash account balance t = if is_cash then tables_with_balance account balance (tables_with_cash_row cash t) else t

-- ---- the whole result

-- The tables after a result with the rows and figures `c`: trade completed, with its history row;
-- lots closed, reduced and opened, with their rows of HOLDING_HISTORY; summary changed; broker
-- totals set; settlement added; and, for a cash trade, cash row added and balance set.
abbrev pub tables_after_result : ResultRows → Tables → Tables
tables_after_result c t =
    tables_with_cash_row_if_cash_trade c.trade.is_cash c.cash c.trade.account c.balance
    (tables_with_settlement c.settlement
    (tables_with_broker_totals c.broker c.trades c.commissions
    (tables_with_summary_changed c.before c.after (record { account = c.trade.account; symbol = c.trade.symbol; qty = c.after })
    (tables_with_lots_opened c.trade c.opened (tables_with_lots_touched c.trade.id c.touched (tables_with_trade_completed_and_history c.trade t))))))

-- The rows and figures of a result, computed from the base before the result, the completed trades
-- `after` the result, the deal `d` of the trade, and the completed trade `t`.
abbrev pub result_rows_of_deal : Base → (after : List Trade) → Deal → Trade → ResultRows
result_rows_of_deal base after d t = record {
  trade = trade_row t;
  touched = list_reversed_if_lifo d.is_lifo (touches_of_existing_lots d (shares_of_position (completed_trades base) t.account t.symbol));
  opened = lots_of_shares (opened_shares d (shares_of_position (completed_trades base) t.account t.symbol));
  before = holding_summary_quantity (completed_trades base) t.account t.symbol;
  after = holding_summary_quantity after t.account t.symbol;
  settlement = settlement_row base.accounts base.rule t;
  cash = cash_move_row (length (postings_of_base base) + 1) (posting_of_trade base.accounts t);
  balance = balance_of_account base.accounts (postings base.accounts after base.movements) t.account;
  broker = broker_id_of_account base t.account;
  trades = pos (trade_count_of_broker base.accounts after (broker_id_of_account base t.account));
  commissions = commission_total_of_broker base.accounts after (broker_id_of_account base t.account);
}

-- The rows and figures of the result of `t` at `stamp` and `price` cents, from the base before it.
abbrev pub result_rows_of_trade : Base → ℕ → ℕ → Trade → ResultRows
result_rows_of_trade base stamp price t =
    result_rows_of_deal base (completed_trades (base_after_result base stamp price t))
    (deal_of_result stamp price t) (trade_after_completion base stamp price t)
