-- Trade-Order: permission to order, the estimate of an order, and the trade that an order creates.
use Rattle.std.specs.Prelude.{ℕ, ◌+◌, Bool, true, ◌&&◌, ◌||◌, ◌==◌, if◌then◌else◌, List, [], ◌∷◌, ◌++◌, length, filter, Option, None, unwrap_or, option_map, ℤ}
use Rattle.std.specs.Prelude.{◌+ℤ◌, bytes_eq}
use Rattle.std.specs.List.{list_any}
use Rattle.std.specs.Option.{option_map_or}
use Rattle.brk_money.specs.Spelling.{Text}
use Rattle.brk_money.specs.Amounts.{commission, tax}
use Rattle.brk_money.specs.Kinds.{side_of_trade_type, is_market_type}
use Rattle.brk_money.specs.OrderTypes.{trade_type_of_order_type, price_of_order_type}
use Rattle.brk_money.specs.declared.status.Status.{Status}
use Rattle.brk_money.specs.declared.status.Status.TheVariants.{Submitted, Pending}
use Rattle.brk_money.specs.declared.trade_type.TradeType.{TradeType}
use Rattle.brk_model.specs.Records.{Customer, Permission, Executor, Trade}
use Rattle.brk_model.specs.Base.{Base, completed_trades, customer_with_id, charge_for_type_and_tier, commission_band_for_quantity, customer_id_of_account}
use Rattle.brk_model.specs.Base.{tier_of_account, exchange_of_security, last_price, tax_rate_sum_of_customer, is_taxable_account}
use Rattle.brk_model.specs.Shares.{Share, Deal, buy_value, sell_value, realised_gain}
use Rattle.brk_model.specs.Derived.{shares_of_position, postings_of_base, balance_of_account, holdings_market_value}
use Rattle.brk_model.specs.Commands.{Order, Estimate, Reply, Ordered}

-- True if the executor `e` has the names `first` and `last` and the tax id `tax_id`.
abbrev pub executor_has_identity : Executor → Text → Text → Text → Bool
executor_has_identity e first last tax_id = bytes_eq e.first_name first && bytes_eq e.last_name last && bytes_eq e.tax_id tax_id

-- True if `e` has names and tax id of `c` or of one of the `permissions` (Trade-Order, frame 2).
abbrev pub is_customer_or_has_permission : Customer → List Permission → Executor → Bool
is_customer_or_has_permission c permissions e =
    executor_has_identity e c.first_name c.last_name c.tax_id || list_any (λ p. executor_has_identity e p.first_name p.last_name p.tax_id) permissions

-- True if the executor `e` has the names and the tax id of the customer of the account `account`,
-- or of a permission for this account; also true if `base` has no such customer.
abbrev pub may_order_for_account : Base → ℕ → Executor → Bool
may_order_for_account base account e =
    option_map_or (λ c. is_customer_or_has_permission c (filter (λ p. p.account == account) base.permissions) e)
    (customer_with_id base (customer_id_of_account base account)) true

-- The price, in cents, that the order `o` asks for or, if its type has no price, the last price of
-- its security (Trade-Order, frame 3), which is 0 if the security does not exist.
abbrev pub bid_price_of_order : Base → Order → ℕ
bid_price_of_order base o = unwrap_or (price_of_order_type o.order_type) (last_price base o.symbol)

-- The commission, in cents, on `qty` shares of `symbol` at `price` cents each for the type `kind`,
-- by the band of the account's tier and the security's exchange; none if there is no such band.
abbrev pub commission_by_band : Base → ℕ → TradeType → Text → ℕ → ℕ → Option ℕ
commission_by_band base account kind symbol qty price =
    option_map (λ b. commission b.rate qty price) (commission_band_for_quantity base (tier_of_account base account) kind (exchange_of_security base symbol) qty)

-- The tax, in cents, on the gain of the deal `d` against the position `shares`, at the sum of the
-- tax rates of the account's customer; 0 without a gain or if the account is not taxable.
abbrev pub tax_on_deal : Base → ℕ → Deal → List Share → ℕ
tax_on_deal base account d shares =
    if is_taxable_account base account then tax (realised_gain d shares) (tax_rate_sum_of_customer base (customer_id_of_account base account)) else 0

-- The deal of the order `o` at its `bid_price_of_order`, with the number of trades of `base` plus 1
-- as the id of its trade, and with the stamp 0.
abbrev pub deal_of_order : Base → Order → Deal
deal_of_order base o = record {
  trade = length base.trades + 1;
  side = side_of_trade_type (trade_type_of_order_type o.order_type);
  qty = o.qty;
  price = bid_price_of_order base o;
  stamp = 0;
  is_lifo = o.is_lifo;
}

-- The balance of the account plus the market value of its holdings at last prices, in cents.
abbrev pub assets_of_account : Base → ℕ → ℤ
assets_of_account base account =
    balance_of_account base.accounts (postings_of_base base) account +ℤ holdings_market_value base.securities (completed_trades base) account

-- The estimate of the order `o` against the position `shares` of its account in its security. The
-- commission is 0 if no band applies, and the charge is 0 if there is none for the type and tier.
abbrev pub estimate_against_shares : List Share → Base → Order → Estimate
estimate_against_shares shares base o = record {
  price = bid_price_of_order base o;
  buy_value = buy_value (deal_of_order base o) shares;
  sell_value = sell_value (deal_of_order base o) shares;
  tax = tax_on_deal base o.account (deal_of_order base o) shares;
  commission = unwrap_or (commission_by_band base o.account (trade_type_of_order_type o.order_type) o.symbol o.qty (bid_price_of_order base o)) 0;
  charge = option_map_or (λ c. c.amount) (charge_for_type_and_tier base (trade_type_of_order_type o.order_type) (tier_of_account base o.account)) 0;
  assets = assets_of_account base o.account;
}

-- The estimate of the order `o` against the open shares of its account in its security.
unfoldable pub estimate : Base → Order → Estimate
estimate base o = estimate_against_shares (shares_of_position (completed_trades base) o.account o.symbol) base o

-- The first status of a trade of type `kind`: `Submitted` for a market type, otherwise `Pending`.
abbrev pub first_status : TradeType → Status
first_status kind = if is_market_type kind then Submitted else Pending

-- The name of the executor `e`: the first name, a space and the last name.
abbrev pub executor_name : Executor → Text
executor_name e = e.first_name ++ 32 ∷ e.last_name

-- The trade of the order `o` at `stamp`: its id is the number of trades of `base` plus 1, its only
-- status change is to `first_status` at `stamp`; bid, charge and commission are as estimated, the
-- tax is 0, and there is no completion price, cash type or cash row name.
abbrev pub trade_of_order : Base → ℕ → Order → Trade
trade_of_order base stamp o = record {
  id = length base.trades + 1;
  account = o.account;
  kind = trade_type_of_order_type o.order_type;
  symbol = o.symbol;
  qty = o.qty;
  bid = bid_price_of_order base o;
  is_cash = o.is_cash;
  is_lifo = o.is_lifo;
  executor = executor_name o.executor;
  charge = (estimate base o).charge;
  commission = (estimate base o).commission;
  tax = 0;
  price = None;
  marks = record { stamp = stamp; status = first_status (trade_type_of_order_type o.order_type) } ∷ [];
  cash_type = [];
  cash_name = [];
}

-- The base `base` with the trade of the order `o`, accepted at `stamp`, added at the end.
abbrev pub base_after_order : Base → ℕ → Order → Base
base_after_order base stamp o = record base { trades = base.trades ++ trade_of_order base stamp o ∷ [] }

-- The reply to the order `o` accepted at `stamp`: stamp, id of the trade, first status, estimate.
abbrev pub reply_to_order : Base → ℕ → Order → Reply
reply_to_order base stamp o = Ordered stamp (length base.trades + 1) (first_status (trade_type_of_order_type o.order_type)) (estimate base o)
