-- The abstract value of each typed row of an explanation.
use Rattle.std.specs.Prelude.{◌≡◌, ◌⊎◌, ◌==◌, ℕ, find, length, map, option_map, Option, Some, None, Result, Ok, Err}
use Rattle.brk_ref.specs.Rows.{abstract_history_row, abstract_lot_change_row, abstract_cash_row, abstract_settlement_row}
use Rattle.brk_ref.specs.Rows.{abstract_summary_row, abstract_trade_row}
use Rattle.brk_ref.specs.Records.{abstract_account_row, abstract_band, abstract_broker_row, abstract_security_row, abstract_tax_rate}
use Rattle.brk_money.specs.Spelling.{Text}
use Rattle.brk_money.specs.declared.refusal.Refusal.{Refusal}
use Rattle.brk_money.specs.declared.refusal.Refusal.TheVariants.{NoAccount, NoSecurity}
use Rattle.brk_model.specs.Joins.{account_row_with_id, last_price_in_tables, security_row_with_symbol, trade_row_with_id}
use Rattle.brk_model.specs.Tables.{AccountRow, Tables, TradeRow}
use Rattle.brk_model_explain.specs.AccountLines.{PricedHolding, priced_holdings_of_account}
use Rattle.brk_model_explain.specs.BrokerLines.{accounts_with_broker}
use Rattle.brk_model_explain.specs.Holdings.{LotChange, LotDetails, completed_trades_in_symbol, lots_opened_in_symbol, summary_quantity_in_symbol}
use Rattle.brk_model_explain.specs.Trades.{Closing, OrderDetails, ResultDetails, TradeDetails, details_of_trade}
use Rattle.brk_explain_rows.specs.declared.account_details.AccountDetails as account_details
use Rattle.brk_explain_rows.specs.declared.account_details.PricedHolding as held
use Rattle.brk_explain_rows.specs.declared.broker_details.BrokerDetails as broker_details
use Rattle.brk_explain_rows.specs.declared.closing.Closing as closing
use Rattle.brk_explain_rows.specs.declared.holding_details.HoldingDetails as holding_details
use Rattle.brk_explain_rows.specs.declared.holding_details.PricedLotChange as with_price
use Rattle.brk_explain_rows.specs.declared.holding_details.LotDetails as lot_details
use Rattle.brk_explain_rows.specs.declared.details.OrderDetails as order_details
use Rattle.brk_explain_rows.specs.declared.details.ResultDetails as result_details
use Rattle.brk_explain_rows.specs.declared.details.TradeDetails as trade_details

-- The model's closing of a lot that has the values of the typed closing `c`.
abbrev pub abstract_closing : closing.Closing → Closing
abstract_closing c = record { lot = c.lot; stamp = c.stamp; price = c.price; before = c.before; after = c.after }

-- The model's facts of a trade as ordered, with the values of the typed facts `o`, in their order.
abbrev pub abstract_order_details : order_details.OrderDetails → OrderDetails
abstract_order_details o = record {
  trade = abstract_trade_row o.trade;
  account_name = o.account.account.name;
  customer = o.account.account.customer;
  broker = o.account.account.broker;
  tax_status = o.account.account.tax_status;
  opening = o.account.account.opening;
  security_name = o.security.name;
  statuses = map abstract_history_row o.statuses.items;
}

-- The model's results of a completed trade that have the values of the typed results `r`.
abbrev pub abstract_result_details : result_details.ResultDetails → ResultDetails
abstract_result_details r = record {
  price = r.price;
  closings = map abstract_closing r.closings.items;
  own_lot = option_map abstract_lot_change_row r.own_lot;
  rates = map abstract_tax_rate r.rates.items;
  band = option_map abstract_band r.band;
  settlement = abstract_settlement_row r.settlement;
  cash = option_map abstract_cash_row r.cash;
  cash_before = r.cash_before;
  cash_rows = r.cash_rows;
  rule = r.rule;
}

-- The model's facts of a trade, as ordered and its results if completed, from the typed facts `s`.
abbrev pub abstract_trade_details : trade_details.TradeDetails → TradeDetails
abstract_trade_details s = record { order = abstract_order_details s.order; result = option_map abstract_result_details s.result }

-- The facts `s` are exactly the facts that the explanation of the trade with the id `trade` reads
-- from the tables `t`. They are `None` if and only if the trade does not exist.
abbrev pub AreDetailsOfTrade : ℕ → Option trade_details.TradeDetails → Tables → Type 0
AreDetailsOfTrade trade None t = trade_row_with_id t trade ≡ None
AreDetailsOfTrade trade (Some s) t = (u : TradeRow) × (trade_row_with_id t trade ≡ Some u) × (abstract_trade_details s ≡ details_of_trade t u)

-- The model's holding summary with a last price that has the values of the typed holding `h`.
abbrev pub abstract_priced_holding : held.PricedHolding → PricedHolding
abstract_priced_holding h = record { summary = abstract_summary_row h.summary; price = h.price }

-- The facts `s` are the row of `account` in the tables `t` and its holding summaries, in table
-- order, each with its last price (0 if none). `None` if and only if the account does not exist.
abbrev pub AreDetailsOfAccount : ℕ → Option account_details.AccountDetails → Tables → Type 0
AreDetailsOfAccount account None t = account_row_with_id t account ≡ None
AreDetailsOfAccount account (Some s) t =
    (account_row_with_id t account ≡ Some (abstract_account_row s.account)) × (map abstract_priced_holding s.held.items ≡ priced_holdings_of_account t account)

-- The model's change of a lot that has the values of the typed change `c`.
abbrev pub abstract_priced_lot_change : with_price.PricedLotChange → LotChange
abstract_priced_lot_change c = record { trade = c.trade; stamp = c.stamp; price = c.price; before = c.before; after = c.after }

-- The model's lot, with its changes after the opening, that has the values of the typed lot `l`.
abbrev pub abstract_lot_details : lot_details.LotDetails → LotDetails
abstract_lot_details l = record { trade = abstract_trade_row l.trade; opened = l.opened; changes = map abstract_priced_lot_change l.changes.items }

-- The facts `s` are those that the explanation of the holding of `account` in the security `symbol`
-- reads from the tables `t`: the rows of account and security, the account's completed trades in
-- the security and the lots that they opened, both sorted by completion stamp, the quantity in the
-- holding summary, in shares, and the last price, in cents, both 0 if missing. The refusal is
-- `NoAccount` if the account does not exist, and `NoSecurity` if only the security does not.
abbrev pub AreDetailsOfHolding : ℕ → Text → Result holding_details.HoldingDetails Refusal → Tables → Type 0
AreDetailsOfHolding account symbol (Err refusal) t =
    ((account_row_with_id t account ≡ None) × (refusal ≡ NoAccount))
    ⊎ ((a : AccountRow) × (account_row_with_id t account ≡ Some a) × (security_row_with_symbol t symbol ≡ None) × (refusal ≡ NoSecurity))
AreDetailsOfHolding account symbol (Ok s) t =
    (account_row_with_id t account ≡ Some (abstract_account_row s.account)) × (security_row_with_symbol t symbol ≡ Some (abstract_security_row s.security))
    × (map abstract_trade_row s.done.items ≡ completed_trades_in_symbol t account symbol)
    × (map abstract_lot_details s.lots.items ≡ lots_opened_in_symbol t account symbol)
    × (s.shares ≡ summary_quantity_in_symbol t account symbol) × (s.price ≡ last_price_in_tables t symbol)

-- `s` is the row of `broker` in `t` and the number of its accounts, or `None` if it does not exist.
abbrev pub AreDetailsOfBroker : ℕ → Option broker_details.BrokerDetails → Tables → Type 0
AreDetailsOfBroker broker None t = find (λ b. b.id == broker) t.brokers ≡ None
AreDetailsOfBroker broker (Some s) t =
    (find (λ b. b.id == broker) t.brokers ≡ Some (abstract_broker_row s.broker)) × (s.accounts ≡ length (accounts_with_broker t broker))
