-- The facts that the explanation of a trade reads from the tables, and the amounts that follow from
-- them. The rows of each table are supposed to be sorted by key, ascending.
use Rattle.std.specs.Prelude.{ℕ, ◌*◌, Bool, not, ◌&&◌, ◌==◌, nat_le, nat_lt, if◌then◌else◌, List, [], map, filter, find, flat_map, reverse, sum_by, length}
use Rattle.std.specs.Prelude.{Option, Some, None, unwrap_or, option_to_list, ℤ, pos, nat_abs, ◌+ℤ◌, ◌-ℤ◌, bytes_eq}
use Rattle.std.specs.Option.{option_map, option_map_or}
use Rattle.brk_money.specs.Spelling.{Text}
use Rattle.brk_money.specs.Amounts.{commission, tax}
use Rattle.brk_money.specs.Kinds.{is_same_trade_status, is_same_trade_type, side_of_trade_type}
use Rattle.brk_money.specs.Moments.{day_of}
use Rattle.brk_money.specs.declared.side.Side.{Side}
use Rattle.brk_money.specs.declared.side.Side.TheVariants.{Buy, Sell}
use Rattle.brk_money.specs.declared.status.Status.TheVariants.{Completed}
use Rattle.brk_money.specs.declared.tax_status.TaxStatus.{TaxStatus}
use Rattle.brk_money.specs.declared.tax_status.TaxStatus.TheVariants.{Untaxed}
use Rattle.brk_model.specs.Lists.{sort_by, sort_by_key}
use Rattle.brk_model.specs.Records.{Customer, Band, TaxRate, SettleRule}
use Rattle.brk_model.specs.Base.{is_taxable_status, is_withholding_status}
use Rattle.brk_model.specs.Derived.{signed_proceeds, days_to_settlement}
use Rattle.brk_model.specs.Tables.{Tables, SecurityRow, TradeRow, HistoryRow, HoldingHistoryRow, SettlementRow, CashRow}
use Rattle.brk_model.specs.Joins.{account_row_with_id, history_rows_with_trade_id, security_row_with_symbol, trade_row_with_id}
use Rattle.brk_model.specs.LookupView.{is_cash_row_of_trade}
use Rattle.brk_model.specs.Statement.{sorted_cash_rows_of_account, cash_row_total}

-- ---- facts

-- A trade (its TRADE row), with name, customer, broker, tax status and opening balance, in cents,
-- of its account, the name of its security, and its status changes, the oldest first.
pub record OrderDetails : Type 0 where
  pub trade : TradeRow
  pub account_name : Text
  pub customer : ℕ
  pub broker : ℕ
  pub tax_status : TaxStatus
  pub opening : ℤ
  pub security_name : Text
  pub statuses : List HistoryRow

-- A lot of which a trade closed shares: id (`lot`), stamp and price, in cents, of the trade that
-- opened it, and its quantity before and after the closing, below 0 if it was sold short.
pub record Closing : Type 0 where
  pub lot : ℕ
  pub stamp : ℕ
  pub price : ℕ
  pub before : ℤ
  pub after : ℤ

-- The results of a completed trade: price, in cents; closings, in the order of closing;
-- HOLDING_HISTORY row of the lot that it opened, if any; current tax rates of its customer and
-- commission band, if any; settlement; cash row, if any; sum, in cents, and number of the account's
-- earlier cash rows; and the current first day of one-day settlement, if set (`rule`).
pub record ResultDetails : Type 0 where
  pub price : ℕ
  pub closings : List Closing
  pub own_lot : Option HoldingHistoryRow
  pub rates : List TaxRate
  pub band : Option Band
  pub settlement : SettlementRow
  pub cash : Option CashRow
  pub cash_before : ℤ
  pub cash_rows : ℕ
  pub rule : SettleRule

-- The facts that the explanation of a trade reads: its order, and its results if it is completed.
pub record TradeDetails : Type 0 where
  pub order : OrderDetails
  pub result : Option ResultDetails

-- The completion price of the trade `u`, in cents, or 0 if it has none.
abbrev pub completion_price_or_zero : TradeRow → ℕ
completion_price_or_zero u = unwrap_or u.price 0

-- True if the status of the trade `u` is `Completed`.
abbrev pub has_completed_status : TradeRow → Bool
has_completed_status u = is_same_trade_status u.status Completed

-- The TRADE_HISTORY rows of the trade with the id `trade`, sorted by stamp, ascending.
abbrev pub sorted_statuses_of_trade : Tables → ℕ → List HistoryRow
sorted_statuses_of_trade tables trade = sort_by (λ a b. nat_lt a.stamp b.stamp) (history_rows_with_trade_id tables trade)

-- The trade `u` with the facts of its account (empty, 0 and `Untaxed` if it does not exist), the
-- name of its security (empty if it does not exist), and its status changes, the oldest first.
abbrev pub order_details_of_trade : Tables → TradeRow → OrderDetails
order_details_of_trade tables u = record {
  trade = u;
  account_name = option_map_or (λ a. a.name) (account_row_with_id tables u.account) [];
  customer = option_map_or (λ a. a.customer) (account_row_with_id tables u.account) 0;
  broker = option_map_or (λ a. a.broker) (account_row_with_id tables u.account) 0;
  tax_status = option_map_or (λ a. a.tax_status) (account_row_with_id tables u.account) Untaxed;
  opening = option_map_or (λ a. a.opening) (account_row_with_id tables u.account) (pos 0);
  security_name = option_map_or (λ s. s.name) (security_row_with_symbol tables u.symbol) [];
  statuses = sorted_statuses_of_trade tables u.id;
}

-- The completion price, in cents, of the trade with the id `lot`; 0 without the trade or a price.
abbrev pub trade_price_or_zero : Tables → ℕ → ℕ
trade_price_or_zero tables lot = option_map_or completion_price_or_zero (trade_row_with_id tables lot) 0

-- The last stamp (T_DTS) of the trade with the id `lot`; 0 if this trade does not exist.
abbrev pub trade_stamp_or_zero : Tables → ℕ → ℕ
trade_stamp_or_zero tables lot = option_map_or (λ t. t.stamp) (trade_row_with_id tables lot) 0

-- The closing that the HOLDING_HISTORY row `row` records, with the stamp and the price of the trade
-- that opened the lot; both are 0 if this trade does not exist, and the price is 0 if it has none.
abbrev pub recorded_closing : Tables → HoldingHistoryRow → Closing
recorded_closing tables row =
    record { lot = row.lot; stamp = trade_stamp_or_zero tables row.lot; price = trade_price_or_zero tables row.lot; before = row.before; after = row.after }

-- The list `xs`, reversed if `is_lifo`, otherwise unchanged.
abbrev pub reversed_if_lifo : {X : Type 0} → Bool → List X → List X
reversed_if_lifo is_lifo xs = if is_lifo then reverse xs else xs

-- True if `row` records a change, by the trade `trade`, of a lot that another trade opened.
abbrev pub is_closing_by_trade : ℕ → HoldingHistoryRow → Bool
is_closing_by_trade trade row = (row.trade == trade) && not (row.lot == trade)

-- The closings by the trade `u`, sorted by the stamps of the trades that opened the lots:
-- descending if the trade closes the newest lots first (`u.is_lifo`), otherwise ascending.
abbrev pub closings_of_trade : Tables → TradeRow → List Closing
closings_of_trade tables u =
    reversed_if_lifo u.is_lifo (sort_by_key (λ c. c.stamp) (map (recorded_closing tables) (filter (is_closing_by_trade u.id) tables.holding_history)))

-- The first HOLDING_HISTORY row of the opening of a lot by the trade `trade`, or none.
abbrev pub opened_lot_row : Tables → ℕ → Option HoldingHistoryRow
opened_lot_row tables trade = find (λ row. (row.trade == trade) && (row.lot == trade)) tables.holding_history

-- The tax rates of the customer with the id `customer`, in the order of the table CUSTOMER_TAXRATE;
-- a tax whose TAXRATE row does not exist is left out.
abbrev pub tax_rates_of_customer : Tables → ℕ → List TaxRate
tax_rates_of_customer tables customer =
    flat_map (λ x. option_to_list (find (λ r. r.id == x.tax) tables.tax_rates)) (filter (λ x. x.customer == customer) tables.customer_taxes)

-- The first commission band of `tier`, of the type of `u` and of `exchange` whose bounds, both
-- included, contain the quantity of the trade; none if there is no such band.
abbrev pub band_for_tier_and_exchange : Tables → TradeRow → ℕ → Text → Option Band
band_for_tier_and_exchange tables u tier exchange =
    find (λ b. (b.tier == tier) && is_same_trade_type b.kind u.kind && bytes_eq b.exchange exchange && nat_le b.from_qty u.qty
    && nat_le u.qty b.to_qty) tables.bands

-- The band of `u` for a customer's tier and a security's exchange; none if one is missing.
abbrev pub band_for_customer_and_security : Tables → TradeRow → Option Customer → Option SecurityRow → Option Band
band_for_customer_and_security tables u None security = None
band_for_customer_and_security tables u (Some c) None = None
band_for_customer_and_security tables u (Some c) (Some s) = band_for_tier_and_exchange tables u c.tier s.exchange

-- The commission band of the trade `u`; none if its customer, its security or the band is missing.
abbrev pub band_of_trade : Tables → TradeRow → Option Band
band_of_trade tables u =
    band_for_customer_and_security tables u (find (λ c. c.id == (order_details_of_trade tables u).customer) tables.customers)
    (security_row_with_symbol tables u.symbol)

-- A SETTLEMENT row whose numbers are 0 and whose cash type is empty.
abbrev pub zero_settlement_row : SettlementRow
zero_settlement_row = record { trade = 0; cash_type = []; due_day = 0; amount = pos 0 }

-- The first SETTLEMENT row of the trade with the id `trade`, or `zero_settlement_row`.
abbrev pub settlement_of_trade_or_zeros : Tables → ℕ → SettlementRow
settlement_of_trade_or_zeros tables trade = unwrap_or (find (λ s. s.trade == trade) tables.settlements) zero_settlement_row

-- The cash rows of the account of `u` with stamps before its completion (T_DTS), stamps ascending.
abbrev pub cash_rows_before_completion : Tables → TradeRow → List CashRow
cash_rows_before_completion tables u = filter (λ row. nat_lt row.stamp u.stamp) (sorted_cash_rows_of_account tables u.account)

-- The results of the completed trade `u`; price 0 and `zero_settlement_row` if these do not exist.
abbrev pub result_details_of_trade : Tables → TradeRow → ResultDetails
result_details_of_trade tables u = record {
  price = completion_price_or_zero u;
  closings = closings_of_trade tables u;
  own_lot = opened_lot_row tables u.id;
  rates = tax_rates_of_customer tables (order_details_of_trade tables u).customer;
  band = band_of_trade tables u;
  settlement = settlement_of_trade_or_zeros tables u.id;
  cash = find (is_cash_row_of_trade u.id) tables.moves;
  cash_before = cash_row_total (cash_rows_before_completion tables u);
  cash_rows = length (cash_rows_before_completion tables u);
  rule = tables.rule;
}

-- The facts that the explanation of `u` reads: its order, and its results if it is completed.
unfoldable pub details_of_trade : Tables → TradeRow → TradeDetails
details_of_trade tables u =
    record { order = order_details_of_trade tables u; result = if has_completed_status u then Some (result_details_of_trade tables u) else None }

-- ---- amounts

-- The number of shares that the closing `c` closed.
abbrev pub shares_of_closing : Closing → ℕ
shares_of_closing c = nat_abs (c.before -ℤ c.after)

-- The buy value of the closing `c` by a trade at `price`, in cents: the number of closed shares
-- times the lot's price if the trade is a sale, and times `price` if it is a purchase.
abbrev pub buy_value_of_closing : Side → ℕ → Closing → ℕ
buy_value_of_closing Sell price c = shares_of_closing c * c.price
buy_value_of_closing Buy price c = shares_of_closing c * price

-- The sell value of the closing `c` by a trade at `price`, in cents: the number of closed shares
-- times `price` if the trade is a sale, and times the lot's price if it is a purchase.
abbrev pub sell_value_of_closing : Side → ℕ → Closing → ℕ
sell_value_of_closing Sell price c = shares_of_closing c * price
sell_value_of_closing Buy price c = shares_of_closing c * c.price

-- The number of shares that all `closings` closed.
abbrev pub total_closed_shares : List Closing → ℕ
total_closed_shares closings = sum_by shares_of_closing closings

-- The sum of the buy values of `closings` by a trade on `side` at `price`, in cents.
abbrev pub buy_value_of_closings : Side → ℕ → List Closing → ℕ
buy_value_of_closings side price closings = sum_by (buy_value_of_closing side price) closings

-- The sum of the sell values of `closings` by a trade on `side` at `price`, in cents.
abbrev pub sell_value_of_closings : Side → ℕ → List Closing → ℕ
sell_value_of_closings side price closings = sum_by (sell_value_of_closing side price) closings

-- The realised gain of `closings`, in cents: the sum of sell values minus the sum of buy values.
abbrev pub gain_of_closings : Side → ℕ → List Closing → ℤ
gain_of_closings side price closings = pos (sell_value_of_closings side price closings) -ℤ pos (buy_value_of_closings side price closings)

-- The quantity of the lot that the trade opened, below 0 if it sold short; 0 if it opened no lot.
abbrev pub opened_quantity : ResultDetails → ℤ
opened_quantity r = option_map_or (λ row. row.after) r.own_lot (pos 0)

-- The sum of the tax rates `rates`, in hundred-thousandths.
abbrev pub sum_of_tax_rates : List TaxRate → ℕ
sum_of_tax_rates rates = sum_by (λ rate. rate.rate) rates

-- The tax, in whole cents, rounded half up, on the realised gain of the trade at the sum of the
-- current tax rates of its customer; 0 if the account is not taxable or the gain is negative.
abbrev pub tax_at_current_rates : OrderDetails → ResultDetails → ℕ
tax_at_current_rates o r =
    if is_taxable_status o.tax_status
    then tax (gain_of_closings (side_of_trade_type o.trade.kind) r.price r.closings) (sum_of_tax_rates r.rates)
    else 0

-- The commission, in whole cents, rounded half up, at the rate of the current band, or none.
abbrev pub current_commission : OrderDetails → ResultDetails → Option ℕ
current_commission o r = option_map (λ b. commission b.rate o.trade.qty r.price) r.band

-- The proceeds of the trade, in cents: quantity times completion price, negated for a purchase.
abbrev pub signed_trade_value : OrderDetails → ResultDetails → ℤ
signed_trade_value o r = signed_proceeds (side_of_trade_type o.trade.kind) (o.trade.qty * r.price)

-- The recorded tax, in cents, if the tax status of the account is `Withheld`; otherwise 0.
abbrev pub withheld_tax_of_trade : OrderDetails → ℕ
withheld_tax_of_trade o = if is_withholding_status o.tax_status then o.trade.tax else 0

-- The amount of the cash row of the trade, in cents; 0 if it has none.
abbrev pub balance_change_of_trade : ResultDetails → ℤ
balance_change_of_trade r = option_map_or (λ row. row.amount) r.cash (pos 0)

-- The balance before the completion, in cents: the opening balance plus the earlier cash rows.
abbrev pub balance_before_trade : OrderDetails → ResultDetails → ℤ
balance_before_trade o r = o.opening +ℤ r.cash_before

-- The balance after the completion, in cents: the balance before it plus the trade's cash row.
abbrev pub balance_after_trade : OrderDetails → ResultDetails → ℤ
balance_after_trade o r = balance_before_trade o r +ℤ balance_change_of_trade r

-- The number of days from the completion of the trade to its settlement: 1 if the current first day
-- of one-day settlement is set and not later than the day of completion, otherwise 2.
abbrev pub days_to_settle_trade : OrderDetails → ResultDetails → ℕ
days_to_settle_trade o r = days_to_settlement r.rule (day_of o.trade.stamp)
