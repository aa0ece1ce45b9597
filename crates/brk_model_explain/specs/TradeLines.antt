-- The lines of the explanation of a trade.
use Rattle.std.specs.Prelude.{ℕ, Bool, if◌then◌else◌, List, [], ◌∷◌, ◌++◌, map, length, Option, Some, None, pos, nat_abs, neg_ℤ, codes, decimal}
use Rattle.std.specs.Option.{option_map_or}
use Rattle.brk_money.specs.Spelling.{Text, day_text}
use Rattle.brk_money.specs.Kinds.{side_of_trade_type, trade_status_code, trade_status_name, tax_status_number, trade_type_code, trade_type_name}
use Rattle.brk_money.specs.Moments.{day_of}
use Rattle.brk_money.specs.declared.side.Side.{Side}
use Rattle.brk_money.specs.declared.status.Status.{Status}
use Rattle.brk_money.specs.declared.status.Status.TheVariants.{Submitted, Pending, Canceled}
use Rattle.brk_money.specs.declared.trade_type.TradeType.{TradeType}
use Rattle.brk_money.specs.declared.trade_type.TradeType.TheVariants.{MarketBuy, MarketSell, StopLoss, LimitSell, LimitBuy}
use Rattle.brk_model.specs.Records.{Band, TaxRate}
use Rattle.brk_model.specs.Rows.{cash_or_margin_word, nonnegative_cents_text}
use Rattle.brk_model.specs.Tables.{HistoryRow, HoldingHistoryRow, CashRow, TradeRow}
use Rattle.brk_model.specs.Statement.{left_aligned_text, right_aligned_text}
use Rattle.brk_model_explain.specs.Texts.{labeled_number, labeled_value, timestamp_text, labeled_amount, leading_row_columns, shares_column, value_column}
use Rattle.brk_model_explain.specs.Texts.{labeled_text}
use Rattle.brk_model_explain.specs.Trades.{Closing, OrderDetails, ResultDetails, TradeDetails, balance_after_trade, balance_before_trade, buy_value_of_closing}
use Rattle.brk_model_explain.specs.Trades.{buy_value_of_closings, balance_change_of_trade, current_commission, days_to_settle_trade}
use Rattle.brk_model_explain.specs.Trades.{gain_of_closings, opened_quantity, sum_of_tax_rates, sell_value_of_closings, sell_value_of_closing}
use Rattle.brk_model_explain.specs.Trades.{shares_of_closing, total_closed_shares, tax_at_current_rates, signed_trade_value, withheld_tax_of_trade}

-- ---- the order

-- The order in which lots are closed: `last in first out` if `is_lifo`, or `first in first out`.
abbrev pub closing_order_text : Bool → Text
closing_order_text is_lifo = if is_lifo then codes "last in first out" else codes "first in first out"

-- The line of the status change `row`: `Status`, timestamp, code and name of the status.
unfoldable pub status_change_line : HistoryRow → Text
status_change_line row =
    left_aligned_text 6 (codes "Status") ++ 32 ∷ timestamp_text row.stamp ++ 32 ∷ trade_status_code row.status ++ 32 ∷ trade_status_name row.status

-- The title of the explanation of a trade, with the id of the trade.
abbrev pub trade_title_line : OrderDetails → Text
trade_title_line o = codes "Trade " ++ decimal o.trade.id ++ codes ", times in UTC"

-- The line of the account of the trade: its id and its name.
abbrev pub trade_account_line : OrderDetails → Text
trade_account_line o = labeled_number (codes "Account") o.trade.account ++ 32 ∷ o.account_name

-- The lines of the title, the account, the customer, the broker and the executor of the trade.
unfoldable pub title_and_party_lines : OrderDetails → List Text
title_and_party_lines o =
    trade_title_line o
    ∷ trade_account_line o
    ∷ labeled_number (codes "Customer") o.customer
    ∷ labeled_number (codes "Broker") o.broker
    ∷ labeled_text (codes "Executor") o.trade.executor
    ∷ []

-- The line of the type of the trade: its code and its name.
abbrev pub trade_type_line : OrderDetails → Text
trade_type_line o = labeled_text (codes "Type") (trade_type_code o.trade.kind) ++ 32 ∷ trade_type_name o.trade.kind

-- The line of the security of the trade: its symbol, left-aligned in 15 places, and its name.
abbrev pub trade_security_line : OrderDetails → Text
trade_security_line o = labeled_text (codes "Security") (left_aligned_text 15 o.trade.symbol) ++ 32 ∷ o.security_name

-- The lines of the terms of the order: its type, security, quantity and requested price, `cash` or
-- `margin`, and the sequence in which it closes lots.
unfoldable pub order_terms_lines : OrderDetails → List Text
order_terms_lines o =
    trade_type_line o
    ∷ trade_security_line o
    ∷ labeled_number (codes "Shares") o.trade.qty
    ∷ labeled_amount (codes "Price asked") (pos o.trade.bid)
    ∷ labeled_text (codes "Settles by") (cash_or_margin_word o.trade.is_cash)
    ∷ labeled_text (codes "Closes") (closing_order_text o.trade.is_lifo)
    ∷ []

-- The lines of the title, the parties, the terms of the order, and each status change of the trade.
unfoldable pub order_and_status_lines : OrderDetails → List Text
order_and_status_lines o = title_and_party_lines o ++ order_terms_lines o ++ map status_change_line o.statuses

-- ---- a trade that is not completed

-- The remark after an uncompleted trade's charge: `never charged` if canceled, or `if completed`.
abbrev pub charge_remark : Status → Text
charge_remark Canceled = codes "never charged"
charge_remark _ = codes "if completed"

-- The remark after an uncompleted trade's commission: `never charged` if canceled, or `estimated`.
abbrev pub commission_remark : Status → Text
commission_remark Canceled = codes "never charged"
commission_remark _ = codes "estimated"

-- The text of what a pending trade waits for, by its type: a tick at or below `price` cents for
-- stop loss and limit buy, at or above it for limit sell, a cancel for a market type.
abbrev pub trigger_condition_text : TradeType → ℕ → Text
trigger_condition_text StopLoss price = codes "a tick at or below " ++ nonnegative_cents_text price
trigger_condition_text LimitBuy price = codes "a tick at or below " ++ nonnegative_cents_text price
trigger_condition_text LimitSell price = codes "a tick at or above " ++ nonnegative_cents_text price
trigger_condition_text MarketBuy price = codes "a cancel"
trigger_condition_text MarketSell price = codes "a cancel"

-- The text of what a trade waits for, by its status: `trigger_condition_text` at `price` cents if
-- pending, `a result` if submitted, otherwise `nothing`.
abbrev pub awaited_event_text : Status → TradeType → ℕ → Text
awaited_event_text Pending kind price = trigger_condition_text kind price
awaited_event_text Submitted kind price = codes "a result"
awaited_event_text _ kind price = codes "nothing"

-- The lines after the status changes of an uncompleted trade: charge and commission with remarks,
-- the event that it waits for, 0 shares and 0.00 of cash moved, and the number of its statuses.
unfoldable pub uncompleted_trade_lines : OrderDetails → List Text
uncompleted_trade_lines o =
    (labeled_amount (codes "Charge") (pos o.trade.charge) ++ 32 ∷ charge_remark o.trade.status)
    ∷ (labeled_amount (codes "Commission") (pos o.trade.commission) ++ 32 ∷ commission_remark o.trade.status)
    ∷ labeled_text (codes "Waits for") (awaited_event_text o.trade.status o.trade.kind o.trade.bid)
    ∷ labeled_number (codes "Shares moved") 0
    ∷ labeled_amount (codes "Cash moved") (pos 0)
    ∷ (codes "Statuses " ++ decimal (length o.statuses))
    ∷ []

-- ---- a completed trade

-- The line of the closing `c` by a trade on `side` at `price` cents: `Closed`, timestamp and id of
-- the opening trade, number of closed shares, the lot's price, buy and sell value of these shares,
-- and the lot's quantity after the closing.
unfoldable pub lot_closing_line : Side → ℕ → Closing → Text
lot_closing_line side price c =
    leading_row_columns (codes "Closed") (timestamp_text c.stamp) c.lot (pos (shares_of_closing c)) c.price
    ++ value_column (pos (buy_value_of_closing side price c))
    ++ value_column (pos (sell_value_of_closing side price c)) ++ shares_column c.after

-- The line of the lot that the trade `u` opened at `price` cents: `Opened`, timestamp and id of the
-- trade, the quantity of the lot that `row` records, below 0 if it was sold short, and the price.
unfoldable pub opened_lot_line : TradeRow → ℕ → HoldingHistoryRow → Text
opened_lot_line u price row = leading_row_columns (codes "Opened") (timestamp_text u.stamp) u.id row.after price

-- The line of the lot that the trade `u` opened at `price` cents, as a list; empty without a lot.
unfoldable pub opened_lot_lines : TradeRow → ℕ → Option HoldingHistoryRow → List Text
opened_lot_lines u price None = []
opened_lot_lines u price (Some row) = opened_lot_line u price row ∷ []

-- The line of the completion price, and the column headings of the closed and opened lots.
unfoldable pub price_and_lot_header_lines : ResultDetails → List Text
price_and_lot_header_lines r =
    labeled_amount (codes "Price") (pos r.price)
    ∷ codes "#      opened                            lot      shares      price       bought for         sold for        left"
    ∷ []

-- A line for each lot of which the trade closed shares, in the order of closing.
unfoldable pub lot_closing_lines : OrderDetails → ResultDetails → List Text
lot_closing_lines o r = map (lot_closing_line (side_of_trade_type o.trade.kind) r.price) r.closings

-- The lines of the number of closed shares and of the number of opened shares.
unfoldable pub share_count_lines : ResultDetails → List Text
share_count_lines r =
    labeled_number (codes "Shares closed") (total_closed_shares r.closings) ∷ labeled_number (codes "Shares opened") (nat_abs (opened_quantity r)) ∷ []

-- The lines of the buy value, the sell value and the realised gain of the closed shares.
unfoldable pub realised_gain_lines : OrderDetails → ResultDetails → List Text
realised_gain_lines o r =
    labeled_amount (codes "BUY") (pos (buy_value_of_closings (side_of_trade_type o.trade.kind) r.price r.closings))
    ∷ labeled_amount (codes "SELL") (pos (sell_value_of_closings (side_of_trade_type o.trade.kind) r.price r.closings))
    ∷ labeled_amount (codes "Realised gain") (gain_of_closings (side_of_trade_type o.trade.kind) r.price r.closings)
    ∷ []

-- The lines of the price, of closed and opened lots, of the share counts, and of the realised gain.
unfoldable pub lot_and_gain_lines : OrderDetails → ResultDetails → List Text
lot_and_gain_lines o r =
    price_and_lot_header_lines r ++ lot_closing_lines o r ++ opened_lot_lines o.trade r.price r.own_lot ++ share_count_lines r ++ realised_gain_lines o r

-- The line of the tax rate `rate`: `Rate`, its id, the rate in hundred-thousandths, and its name.
unfoldable pub tax_rate_line : TaxRate → Text
tax_rate_line rate =
    left_aligned_text 6 (codes "Rate") ++ 32 ∷ right_aligned_text 13 (decimal rate.id) ++ 32 ∷ right_aligned_text 11 (decimal rate.rate) ++ 32 ∷ rate.name

-- The line of the number of the account's tax status, 0 to 2, as a list of one.
unfoldable pub account_tax_status_lines : OrderDetails → List Text
account_tax_status_lines o = labeled_number (codes "Tax status") (tax_status_number o.tax_status) ∷ []

-- The lines of the sum of the customer's current tax rates, of the tax on the realised gain at this
-- sum (0 if the account is not taxable or the gain is negative), and of the recorded tax.
unfoldable pub current_and_recorded_tax_lines : OrderDetails → ResultDetails → List Text
current_and_recorded_tax_lines o r =
    (labeled_number (codes "Rates now") (sum_of_tax_rates r.rates) ++ codes " of 100000")
    ∷ labeled_amount (codes "Tax now") (pos (tax_at_current_rates o r))
    ∷ labeled_amount (codes "Tax recorded") (pos o.trade.tax)
    ∷ []

-- The lines of the tax status, of each current tax rate, and of the current and the recorded tax.
unfoldable pub trade_tax_lines : OrderDetails → ResultDetails → List Text
trade_tax_lines o r = account_tax_status_lines o ++ map tax_rate_line r.rates ++ current_and_recorded_tax_lines o r

-- The text after the rate of the commission band `b`, such as ` of 10000 for 1 to 100`: the unit of
-- the rate, ten-thousandths, and the least and the greatest quantity of the band.
unfoldable pub band_unit_and_bounds_text : Band → Text
band_unit_and_bounds_text b = codes " of 10000 for " ++ decimal b.from_qty ++ codes " to " ++ decimal b.to_qty

-- The text after the quantities of the commission band `b`: its tier and its exchange.
unfoldable pub band_tier_and_exchange_text : Band → Text
band_tier_and_exchange_text b = codes ", tier " ++ decimal b.tier ++ codes ", " ++ b.exchange

-- The line of the current band: rate in ten-thousandths, quantities, tier and exchange, or `none`.
unfoldable pub commission_band_line : Option Band → Text
commission_band_line None = labeled_value (codes "Band now") (codes "none")
commission_band_line (Some b) = labeled_number (codes "Band now") b.rate ++ band_unit_and_bounds_text b ++ band_tier_and_exchange_text b

-- The line of the commission, `amount` cents at the rate of the current band, or `none`.
unfoldable pub current_commission_line : Option ℕ → Text
current_commission_line None = labeled_value (codes "Commission now") (codes "none")
current_commission_line (Some amount) = labeled_amount (codes "Commission now") (pos amount)

-- The line of the current commission band, and the line of the commission at its rate.
unfoldable pub band_and_commission_lines : OrderDetails → ResultDetails → List Text
band_and_commission_lines o r = commission_band_line r.band ∷ current_commission_line (current_commission o r) ∷ []

-- The lines of the settlement: the value of the trade, negated for a purchase, the negated charge,
-- commission and withheld tax, the recorded settlement amount, and the cash type.
unfoldable pub trade_settlement_lines : OrderDetails → ResultDetails → List Text
trade_settlement_lines o r =
    labeled_amount (codes "Value") (signed_trade_value o r)
    ∷ labeled_amount (codes "Charge") (neg_ℤ (pos o.trade.charge))
    ∷ labeled_amount (codes "Commission") (neg_ℤ (pos o.trade.commission))
    ∷ labeled_amount (codes "Tax withheld") (neg_ℤ (pos (withheld_tax_of_trade o)))
    ∷ labeled_amount (codes "Settlement") r.settlement.amount
    ∷ labeled_text (codes "Cash type") r.settlement.cash_type
    ∷ []

-- The lines of the UTC day of completion, of the current first day of one-day settlement (or
-- `none`), of the days to settlement that follow from these two, and of the recorded due day.
unfoldable pub due_day_lines : OrderDetails → ResultDetails → List Text
due_day_lines o r =
    labeled_text (codes "Completed on") (day_text (day_of o.trade.stamp))
    ∷ labeled_text (codes "One day from") (option_map_or day_text r.rule (codes "none"))
    ∷ labeled_number (codes "Days to settle") (days_to_settle_trade o r)
    ∷ labeled_text (codes "Due on") (day_text r.settlement.due_day)
    ∷ []

-- The line of the cash row of the trade: its id and its name, or `none` if it has no cash row.
unfoldable pub trade_cash_row_line : Option CashRow → Text
trade_cash_row_line None = labeled_value (codes "Cash row") (codes "none")
trade_cash_row_line (Some row) = labeled_number (codes "Cash row") row.id ++ 32 ∷ row.name

-- The lines of the trade's cash row, of the account's opening balance, the sum of its earlier cash
-- rows and its balance before, of the trade's cash amount (0 if none), and of the balance after.
unfoldable pub trade_balance_lines : OrderDetails → ResultDetails → List Text
trade_balance_lines o r =
    trade_cash_row_line r.cash
    ∷ labeled_amount (codes "Opening") o.opening
    ∷ labeled_amount (codes "Cash before") r.cash_before
    ∷ labeled_amount (codes "Balance before") (balance_before_trade o r)
    ∷ labeled_amount (codes "Cash moved") (balance_change_of_trade r)
    ∷ labeled_amount (codes "Balance after") (balance_after_trade o r)
    ∷ []

-- The last line for a completed trade: the numbers of its status changes (`statuses`), of lots that
-- it closed (`lots`), and of its account's cash rows before its completion (`cash`).
abbrev pub counts_line_of_trade : ℕ → ℕ → ℕ → Text
counts_line_of_trade statuses lots cash =
    codes "Statuses " ++ decimal statuses ++ codes ", lots closed " ++ decimal lots ++ codes ", cash rows before " ++ decimal cash

-- The `counts_line_of_trade` of a completed trade, as a list of one.
unfoldable pub counts_lines_of_trade : OrderDetails → ResultDetails → List Text
counts_lines_of_trade o r = counts_line_of_trade (length o.statuses) (length r.closings) r.cash_rows ∷ []

-- The lines after the status changes of a completed trade: lots and gain, tax, commission,
-- settlement, due day, balance and counts.
unfoldable pub completed_trade_lines : OrderDetails → ResultDetails → List Text
completed_trade_lines o r =
    lot_and_gain_lines o r ++ trade_tax_lines o r ++ band_and_commission_lines o r ++ trade_settlement_lines o r ++ due_day_lines o r ++ trade_balance_lines o r
    ++ counts_lines_of_trade o r

-- The `completed_trade_lines` if the trade has results, otherwise the `uncompleted_trade_lines`.
unfoldable pub lines_after_statuses : OrderDetails → Option ResultDetails → List Text
lines_after_statuses o None = uncompleted_trade_lines o
lines_after_statuses o (Some r) = completed_trade_lines o r

-- The explanation of a trade: order, status changes, and the lines after the status changes.
unfoldable pub trade_explanation_lines : TradeDetails → List Text
trade_explanation_lines details = order_and_status_lines details.order ++ lines_after_statuses details.order details.result
