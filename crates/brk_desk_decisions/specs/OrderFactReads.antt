-- The facts in the tables that decide on an order.
use Rattle.std.specs.Prelude.{◌≡◌, ◌+ℤ◌, ℤ, pos, false, Option, Some, None, IfSome, option_map}
use Rattle.brk_model.specs.Joins.{account_row_with_id, security_row_with_symbol}
use Rattle.brk_model.specs.Orders.{is_customer_or_has_permission}
use Rattle.brk_model.specs.Tables.{Tables}
use Rattle.brk_money.specs.OrderTypes.{trade_type_of_order_type}
use Rattle.brk_money.specs.Spelling.{Text}
use Rattle.brk_ref_orders.specs.declared.order.Order.{Order}
use Rattle.brk_ref.specs.Records.{abstract_account_row, abstract_customer, abstract_executor}
use Rattle.brk_ref.specs.declared.account.AccountRow.{AccountRow}
use Rattle.brk_ref.specs.declared.customer.Customer.{Customer}
use Rattle.brk_trade.specs.declared.order.OrderPlanFacts.{OrderPlanFacts}
use Rattle.brk_trade_theorems.specs.OrderPlans.{EstimateFactsMatchTables}
use Rattle.brk_trade_books.specs.OrderReads.{charge_of_type_and_tier, last_price_of_symbol}
use Rattle.brk_trade_books.specs.Reads.{customer_tax_rate_sum}
use Rattle.brk_trade_books.specs.TradeReads.{commission_band_of_quantity, permission_list_for_tax_id, summary_row_of_position}
use Rattle.brk_desk_decisions.specs.declared.order_check_reads.OrderCheckFacts.{OrderCheckFacts}
use Rattle.brk_desk_decisions.specs.declared.amounts.Amounts.{Amounts}
use Rattle.brk_store_required.specs.Valuation.{market_value_of_account}

-- The facts `tested` on the order `order` of `customer` agree with the tables `t`: the last price
-- in cents, whether the executor is the customer or has a permission of the account, the charge in
-- cents and the commission rate in hundredths of a percent; `None` if the tables have none. The
-- rate is specified only if the security of the order exists.
pub record CustomerOrderFactsMatchTables (t : Tables) (order : Order) (customer : Customer) (tested : OrderCheckFacts) : Type 0 where
  pub last_price : tested.last_price ≡ last_price_of_symbol t order.symbol
  pub is_permitted : tested.is_permitted
      ≡ is_customer_or_has_permission (abstract_customer customer) (permission_list_for_tax_id t order.account order.executor.tax_id)
      (abstract_executor order.executor)
  pub charge : tested.charge ≡ charge_of_type_and_tier t (trade_type_of_order_type order.order_type) customer.tier
  pub rate : IfSome (security_row_with_symbol t order.symbol) (λ s. tested.rate
      ≡ option_map (λ b. b.rate) (commission_band_of_quantity t customer.tier (trade_type_of_order_type order.order_type) s.exchange order.qty))

-- `assets` is the balance in the row `account` plus the market value of its holdings in the tables
-- `t`, in cents. `shares` is its number of shares of the security `symbol`, below 0 if sold short,
-- or `None` if it has no summary of the security.
pub record AreAssetsAndSharesOfAccount (t : Tables) (account : AccountRow) (symbol : Text) (assets : ℤ) (shares : Option ℤ) : Type 0 where
  pub assets_total : assets ≡ account.balance +ℤ market_value_of_account t account.account.id
  pub shares_held : shares ≡ option_map (λ r. r.qty) (summary_row_of_position t account.account.id symbol)

-- The amounts `amounts` for the estimate of `order` agree with the tables `t`: the sum of the tax
-- rates of the account's customer in hundred-thousandths, and the account's assets in cents and
-- shares of the order's security (`AreAssetsAndSharesOfAccount`).
pub record EstimateAmountsMatchTables (t : Tables) (account : AccountRow) (order : Order) (amounts : Amounts) : Type 0 where
  pub rates : amounts.rates ≡ customer_tax_rate_sum t account.account.customer
  pub held : AreAssetsAndSharesOfAccount t account order.symbol amounts.assets amounts.summary

-- The facts for the decision on an order whose account does not exist: each is `None`, false or 0.
abbrev pub facts_without_account : OrderPlanFacts
facts_without_account =
    record { account = None; last_price = None; is_permitted = false; charge = None; rate = None; rates = 0; assets = pos 0; summary = None; last_trade = None }

-- The facts for the decision on an order of `account`: its broker and tax status, `tested`,
-- `amounts`, and `None` as the greatest trade id, which an estimate does not need.
abbrev pub facts_with_account : AccountRow → OrderCheckFacts → Amounts → OrderPlanFacts
facts_with_account account tested amounts = record {
  account = Some (record { broker = account.account.broker; tax_status = account.account.tax_status });
  last_price = tested.last_price;
  is_permitted = tested.is_permitted;
  charge = tested.charge;
  rate = tested.rate;
  rates = amounts.rates;
  assets = amounts.assets;
  summary = amounts.summary;
  last_trade = None;
}

-- If `account` is the row of the order's account in the tables `t`, the facts `found` for the
-- estimate of the order agree with these tables (`EstimateFactsMatchTables`). Vacuous otherwise.
abbrev pub EstimateFactsMatchIfAccountOfOrder : Tables → Order → AccountRow → OrderPlanFacts → Type 0
EstimateFactsMatchIfAccountOfOrder t order account found =
    Some (abstract_account_row account) ≡ account_row_with_id t order.account → EstimateFactsMatchTables t order found
