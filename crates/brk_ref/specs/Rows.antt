-- The abstract value of each typed row of trades, holdings, settlements and cash.
use Rattle.std.specs.Prelude.{List, [], ◌∷◌, codes, string_bytes}
use Rattle.brk_money.specs.Spelling.{Text}
use Rattle.brk_model.specs.Keys.{KeyPart, number, rows_sorted_by_key}
use Rattle.brk_model.specs.Tables.{TradeRow, HistoryRow, RequestRow, HoldingRow, SummaryRow, HoldingHistoryRow, SettlementRow, OldCashRow, CashRow}
use Rattle.brk_ref.specs.declared.trade_row.TradeRow as trade
use Rattle.brk_ref.specs.declared.history_row.HistoryRow as history
use Rattle.brk_ref.specs.declared.request_row.RequestRow as request
use Rattle.brk_ref.specs.declared.holding_row.HoldingRow as holding
use Rattle.brk_ref.specs.declared.summary_row.SummaryRow as summary
use Rattle.brk_ref.specs.declared.lot_change.LotChange as lot_change
use Rattle.brk_ref.specs.declared.settlement_row.SettlementRow as settlement
use Rattle.brk_ref.specs.declared.old_cash_row.OldCashRow as cash
use Rattle.brk_ref.specs.declared.cash_row.CashRow as move
use Rattle.brk_ref.specs.declared.cash_type.CashType.{CashType}
use Rattle.brk_ref.specs.declared.cash_type.CashType.TheVariants.{CashAccount, Cash, Margin, MarginAccount}

-- The model's TRADE row with the values of the typed row `r`.
abbrev pub abstract_trade_row : trade.TradeRow → TradeRow
abstract_trade_row r = record {
  id = r.id;
  stamp = r.stamp;
  status = r.status;
  kind = r.kind;
  is_cash = r.is_cash;
  symbol = r.symbol;
  qty = r.qty;
  bid = r.bid;
  account = r.account;
  executor = string_bytes r.executor;
  price = r.price;
  charge = r.charge;
  commission = r.commission;
  tax = r.tax;
  is_lifo = r.is_lifo;
}

-- The model's TRADE_HISTORY row with the values of the typed row `r`.
abbrev pub abstract_history_row : history.HistoryRow → HistoryRow
abstract_history_row r = record { trade = r.trade; status = r.status; stamp = r.stamp }

-- The model's TRADE_REQUEST row with the values of the typed row `r`.
abbrev pub abstract_request_row : request.RequestRow → RequestRow
abstract_request_row r = record { trade = r.trade; kind = r.kind; symbol = r.symbol; qty = r.qty; bid = r.bid; broker = r.broker }

-- The model's HOLDING row with the values of the typed row `r`.
abbrev pub abstract_holding_row : holding.HoldingRow → HoldingRow
abstract_holding_row r = record { trade = r.trade; account = r.account; symbol = r.symbol; stamp = r.stamp; price = r.price; qty = r.qty }

-- The model's HOLDING_SUMMARY row with the values of the typed row `r`.
abbrev pub abstract_summary_row : summary.SummaryRow → SummaryRow
abstract_summary_row r = record { account = r.account; symbol = r.symbol; qty = r.qty }

-- The model's HOLDING_HISTORY row with the values of the typed lot change `r`.
abbrev pub abstract_lot_change_row : lot_change.LotChange → HoldingHistoryRow
abstract_lot_change_row r = record { lot = r.lot; trade = r.trade; before = r.before; after = r.after }

-- The settlement text of a cash type, as the column SE_CASH_TYPE stores it.
abbrev pub cash_type_text : CashType → Text
cash_type_text CashAccount = codes "Cash Account"
cash_type_text Cash = codes "Cash"
cash_type_text Margin = codes "Margin"
cash_type_text MarginAccount = codes "Margin Account"

-- The model's SETTLEMENT row with the values of the typed row `r`, and the text of its cash type.
abbrev pub abstract_settlement_row : settlement.SettlementRow → SettlementRow
abstract_settlement_row r = record { trade = r.trade; cash_type = cash_type_text r.cash_type; due_day = r.due_day; amount = r.amount }

-- The model's CASH_TRANSACTION row (schema 1) with the values of the typed row `r`.
abbrev pub abstract_old_cash_row : cash.OldCashRow → OldCashRow
abstract_old_cash_row r = record { trade = r.trade; stamp = r.stamp; amount = r.amount; name = string_bytes r.name }

-- The model's CASH_MOVE row with the values of the typed row `r`.
abbrev pub abstract_cash_row : move.CashRow → CashRow
abstract_cash_row r = record { id = r.id; account = r.account; trade = r.trade; stamp = r.stamp; amount = r.amount; name = string_bytes r.name }

-- The key that sorts lots by age: the stamp of the opening of the lot `r`, then its trade.
abbrev pub lot_age_key : HoldingRow → List KeyPart
lot_age_key r = number r.stamp ∷ number r.trade ∷ []

-- The HOLDING rows sorted by the stamp of their lots' opening, then by trade: the oldest first.
abbrev pub lots_oldest_first : List HoldingRow → List HoldingRow
lots_oldest_first = rows_sorted_by_key lot_age_key
