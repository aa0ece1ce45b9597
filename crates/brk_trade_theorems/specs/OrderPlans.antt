-- The facts that are read from the tables before an order is planned or estimated.
use Rattle.std.specs.Prelude.{◌≡◌, ◌≤◌, ℕ, ◌+ℤ◌, List, take, IfSome, Option, None, option_map}
use Rattle.brk_lots.specs.declared.lot.Lot.{Lot}
use Rattle.brk_model.specs.Base.{Base}
use Rattle.brk_model.specs.Joins.{account_row_with_id, security_row_with_symbol}
use Rattle.brk_model.specs.Orders.{is_customer_or_has_permission}
use Rattle.brk_model.specs.PositionView.{market_value_of_account_row}
use Rattle.brk_model.specs.Sheets.{sheets}
use Rattle.brk_model.specs.Tables.{AccountRow, Tables}
use Rattle.brk_model.specs.Tests.{first_refusal}
use Rattle.brk_money.specs.OrderTypes.{trade_type_of_order_type}
use Rattle.brk_money.specs.Moments.{greatest_stamp}
use Rattle.brk_ref_orders.specs.declared.order.Order.{Order}
use Rattle.brk_ref.specs.Records.{abstract_executor}
use Rattle.brk_trade.specs.Orders.{order_checks}
use Rattle.brk_trade.specs.declared.order.OrderAccount.{OrderAccount}
use Rattle.brk_trade.specs.declared.order.OrderPlanFacts.{OrderPlanFacts}
use Rattle.brk_trade_books.specs.Books.{BooksInvariant}
use Rattle.brk_trade_books.specs.Reads.{customer_tax_rate_sum}
use Rattle.brk_trade_books.specs.TradeReads.{commission_band_of_quantity, permission_list_for_tax_id, summary_row_of_position}
use Rattle.brk_trade_books.specs.OrderReads.{PositionLotsSatisfy, CustomerOfAccountSatisfies, charge_of_type_and_tier}
use Rattle.brk_trade_books.specs.OrderReads.{last_price_of_symbol, trade_id_in_last_row}

-- ---- lookups

-- The broker and the tax status in the row `r` of CUSTOMER_ACCOUNT.
abbrev pub order_account_of_row : AccountRow → OrderAccount
order_account_of_row r = record { broker = r.broker; tax_status = r.tax_status }

-- ---- facts

-- The first `n` checks of the order pass; in order: account, security, executor, charge, band.
abbrev pub PassesFirstOrderChecks : ℕ → OrderPlanFacts → Type 0
PassesFirstOrderChecks n found = first_refusal (take n (order_checks found)) ≡ None

-- The facts `found` about the order are true of the tables: account, last price, whether the
-- executor is permitted, charge, commission rate, sum of the customer's tax rates, assets, summary.
-- A clause is vacuous if a check that it names fails, since its fact is not read then;
-- `is_permitted` to `assets` also if an account, customer or security that they read is missing.
pub record EstimateFactsMatchTables (t : Tables) (order : Order) (found : OrderPlanFacts) : Type 0 where
  pub account : found.account ≡ option_map order_account_of_row (account_row_with_id t order.account)
  pub last_price : PassesFirstOrderChecks 1 found → found.last_price ≡ last_price_of_symbol t order.symbol
  -- The executor is permitted if and only if it has the names and the tax id of the customer or of
  -- the account's permission for the executor's tax id.
  pub is_permitted : PassesFirstOrderChecks 2 found
      → CustomerOfAccountSatisfies t order.account (λ c.
      found.is_permitted
      ≡ is_customer_or_has_permission c (permission_list_for_tax_id t order.account order.executor.tax_id) (abstract_executor order.executor))
  -- The charge for the order's trade type and the customer's tier, or `None` if there is none.
  pub charge : PassesFirstOrderChecks 3 found
      → CustomerOfAccountSatisfies t order.account (λ c.
      found.charge ≡ charge_of_type_and_tier t (trade_type_of_order_type order.order_type) c.tier)
  -- The rate of the band of quantity, customer's tier, type and exchange; `None` if none applies.
  pub rate : PassesFirstOrderChecks 4 found
      → CustomerOfAccountSatisfies t order.account (λ c. IfSome (security_row_with_symbol t order.symbol) (λ s.
      found.rate ≡ option_map (λ b. b.rate) (commission_band_of_quantity t c.tier (trade_type_of_order_type order.order_type) s.exchange order.qty)))
  -- The tax rates are the sum of the rates of the taxes that the customer pays.
  pub rates : PassesFirstOrderChecks 5 found → IfSome (account_row_with_id t order.account) (λ a. found.rates ≡ customer_tax_rate_sum t a.customer)
  -- The assets are the balance plus the market value of the holdings.
  pub assets : PassesFirstOrderChecks 5 found → IfSome (account_row_with_id t order.account) (λ a. found.assets ≡ a.balance +ℤ market_value_of_account_row t a)
  -- The quantity of the account's holding summary in the symbol, or `None` if there is none.
  pub summary : PassesFirstOrderChecks 5 found → found.summary ≡ option_map (λ r. r.qty) (summary_row_of_position t order.account order.symbol)

-- The facts `found` for an estimate of the order are true of the tables; its last trade is the id
-- in the last row of TRADE (`None` without rows), or any value if one of the five checks fails.
pub record OrderFactsMatchTables (t : Tables) (order : Order) (found : OrderPlanFacts) : Type 0 where
  pub estimate : EstimateFactsMatchTables t order found
  pub last_trade : PassesFirstOrderChecks 5 found → found.last_trade ≡ trade_id_in_last_row t

-- ---- lots

-- The lots of the order's account in its symbol satisfy `given`, newest first if LIFO, or oldest.
abbrev pub OrderPositionLotsSatisfy : Tables → Order → (List Lot → Type 0) → Type 0
OrderPositionLotsSatisfy t order given = PositionLotsSatisfy t order.account order.symbol order.is_lifo given

-- ---- an order

-- The precondition of planning the order: the base satisfies the books invariant, the facts `found`
-- and the last stamp are read from its tables, and `now` is within the range of stamps.
pub record PlanOrderPrecondition (base : Base) (order : Order) (found : OrderPlanFacts) (last : Option ℕ) (now : ℕ) : Type 0 where
  pub books : BooksInvariant base
  pub looked_up : OrderFactsMatchTables (sheets base) order found
  pub last_read : last ≡ (sheets base).last
  pub moment : now ≤ greatest_stamp
