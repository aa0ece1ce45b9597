-- The parts of the facts that the explanation of a trade reads.
use Rattle.std.specs.Prelude.{◌≡◌, ℕ, ◌==◌, List, filter, find, length, map, nat_lt, Some, option_map}
use Rattle.brk_ref.specs.Rows.{abstract_history_row, abstract_lot_change_row, abstract_cash_row, abstract_settlement_row, abstract_trade_row}
use Rattle.brk_ref.specs.declared.trade_row.TradeRow as trade
use Rattle.brk_model_explain.specs.Trades.{band_for_customer_and_security, recorded_closing, closings_of_trade, is_closing_by_trade, opened_lot_row}
use Rattle.brk_model_explain.specs.Trades.{tax_rates_of_customer, result_details_of_trade, settlement_of_trade_or_zeros, sorted_statuses_of_trade}
use Rattle.brk_explain_rows.specs.Details.{abstract_closing, abstract_result_details}
use Rattle.brk_explain_rows.specs.declared.details.OrderDetails.{OrderDetails}
use Rattle.brk_explain_rows.specs.declared.details.ResultDetails.{ResultDetails}
use Rattle.brk_model.specs.Joins.{account_row_with_id, security_row_with_symbol}
use Rattle.brk_model.specs.LookupView.{is_cash_row_of_trade}
use Rattle.brk_model.specs.Statement.{sorted_cash_rows_of_account, cash_row_total}
use Rattle.brk_model.specs.Tables.{CashRow, Tables, TradeRow}
use Rattle.brk_ref.specs.Records.{abstract_account_row, abstract_band, abstract_security_row, abstract_tax_rate}
use Rattle.brk_explain_reads.specs.declared.cash.CashSum.{CashSum}
use Rattle.brk_explain_reads.specs.declared.trade_lots.TradeLots.{TradeLots}
use Rattle.brk_explain_reads.specs.declared.settled.SettlementAndCash.{SettlementAndCash}
use Rattle.brk_explain_reads.specs.declared.terms.TaxRatesAndBand.{TaxRatesAndBand}

-- The cash rows of `account` with stamps before `until`, sorted by stamp, then in table order.
abbrev pub cash_rows_before_stamp : Tables → ℕ → ℕ → List CashRow
cash_rows_before_stamp t account until = filter (λ r. nat_lt r.stamp until) (sorted_cash_rows_of_account t account)

-- `sum` has the number and the sum, in cents, of the cash rows of `account` before `until`.
abbrev pub IsCashSumBeforeStamp : Tables → ℕ → ℕ → CashSum → Type 0
IsCashSumBeforeStamp t account until sum =
    (sum.rows ≡ length (cash_rows_before_stamp t account until)) × (sum.total ≡ cash_row_total (cash_rows_before_stamp t account until))

-- `lots` has the closings by the trade, in the order of HOLDING_HISTORY, and the change with which
-- it opened a lot, or `None`, as the tables `t` record them.
abbrev pub AreTradeLotsByLotId : Tables → ℕ → TradeLots → Type 0
AreTradeLotsByLotId t trade lots =
    (map abstract_closing lots.closings.items ≡ map (recorded_closing t) (filter (is_closing_by_trade trade) t.holding_history))
    × (option_map abstract_lot_change_row lots.own_lot ≡ opened_lot_row t trade)

-- `lots` has, as in `t`, the closings by `u`, sorted by the opening trades' stamps (descending if
-- `u` closes the newest lots first), and the change with which `u` opened a lot, or `None`.
abbrev pub AreTradeLotsInClosingOrder : Tables → TradeRow → TradeLots → Type 0
AreTradeLotsInClosingOrder t u lots =
    (map abstract_closing lots.closings.items ≡ closings_of_trade t u) × (option_map abstract_lot_change_row lots.own_lot ≡ opened_lot_row t u.id)

-- `order` has the trade `row`, the rows of its account and security, which exist in the tables `t`,
-- and exactly its status changes there, sorted by stamp, ascending.
pub record IsOrderOfTrade (row : trade.TradeRow) (order : OrderDetails) (t : Tables) : Type 0 where
  pub trade : order.trade ≡ row
  pub account : account_row_with_id t row.account ≡ Some (abstract_account_row order.account)
  pub security : security_row_with_symbol t row.symbol ≡ Some (abstract_security_row order.security)
  pub statuses : map abstract_history_row order.statuses.items ≡ sorted_statuses_of_trade t row.id

-- `terms` has, as the tables `t` record them, the tax rates of the customer of the account of
-- `order`, in the order of CUSTOMER_TAXRATE and without taxes that have no TAXRATE row, and the
-- commission band of its trade, or `None` if the customer or the band does not exist.
abbrev pub AreTaxRatesAndBand : Tables → OrderDetails → TaxRatesAndBand → Type 0
AreTaxRatesAndBand t order terms =
    (map abstract_tax_rate terms.rates.items ≡ tax_rates_of_customer t order.account.account.customer)
    × (option_map abstract_band terms.band
    ≡ band_for_customer_and_security t (abstract_trade_row order.trade)
    (find (λ c. c.id == order.account.account.customer) t.customers) (Some (abstract_security_row order.security)))

-- `settled` has the first row of SETTLEMENT of the trade in the tables `t`, in table order
-- (`zero_settlement_row` if none), the trade's first cash row, or `None`, and the first day of
-- one-day settlement, or `None` if none is set.
abbrev pub IsSettlementAndCashOfTrade : Tables → ℕ → SettlementAndCash → Type 0
IsSettlementAndCashOfTrade t trade settled =
    (abstract_settlement_row settled.settlement ≡ settlement_of_trade_or_zeros t trade)
    × (option_map abstract_cash_row settled.cash ≡ find (is_cash_row_of_trade trade) t.moves) × (settled.rule ≡ t.rule)

-- `details` has the results of the trade of `order` in the tables `t` (`result_details_of_trade`):
-- completion price in cents (0 if none), closings, opened lot, settlement (`zero_settlement_row` if
-- none) and cash row, number and sum in cents of the account's cash rows with earlier stamps, tax
-- rates, commission band, and first day of one-day settlement. Vacuous if `order` does not have the
-- rows and status changes of its trade in these tables (`IsOrderOfTrade`).
abbrev pub IsResultOfOrder : OrderDetails → ResultDetails → Tables → Type 0
IsResultOfOrder order details t =
    IsOrderOfTrade order.trade order t → abstract_result_details details ≡ result_details_of_trade t (abstract_trade_row order.trade)
