-- The terms of an order, from which it is estimated.
use Rattle.std.specs.Prelude.{◌≡◌, ℕ, ◌+◌, ◌≤◌, Bool, List, length, pos, ◌-ℤ◌, Some, option_map, if◌then◌else◌}
use Rattle.brk_money.specs.OrderTypes.{trade_type_of_order_type}
use Rattle.brk_money.specs.Amounts.{commission, tax}
use Rattle.brk_money.specs.Kinds.{side_of_trade_type}
use Rattle.brk_money.specs.declared.tax_status.TaxStatus.{TaxStatus}
use Rattle.brk_model.specs.Base.{Base, is_taxable_status, tax_status_in_accounts, tax_rate_sum_of_customer, customer_id_of_account}
use Rattle.brk_model.specs.Base.{tier_of_account, exchange_of_security, commission_band_for_quantity, charge_for_type_and_tier}
use Rattle.brk_model.specs.Commands.{Order}
use Rattle.brk_model.specs.Orders.{bid_price_of_order, assets_of_account}
use Rattle.brk_trade.specs.declared.estimate.Terms.{Terms}
use Rattle.brk_model.specs.Shares.{Deal, touches_of_existing_lots}
use Rattle.brk_lots.specs.Lots.{shares_of_lots}
use Rattle.brk_lots.specs.Position.{AreOpenedByOtherTrades}
use Rattle.brk_lots.specs.Sources.{YieldsPosition}
use Rattle.brk_lots.specs.declared.lot.Lot.{Lot}
use Rattle.brk_lots.specs.declared.closed_values.Values.{Values}

-- The tax on the realised gain of `values`, in whole cents, rounded half up (`tax`); `rates` is the
-- sum of the tax rates in hundred-thousandths. 0 if gains are not taxable at `status`, or no gain.
abbrev pub tax_on_gain_at_status : TaxStatus → ℕ → Values → ℕ
tax_on_gain_at_status status rates values = if is_taxable_status status then tax (pos values.sell_value -ℤ pos values.buy_value) rates else 0

-- The commission of an order with the terms `terms`, in cents: the quantity times the price times
-- the rate (hundredths of a percent), rounded half up to a whole cent (`commission`).
abbrev pub commission_from_terms : Terms → ℕ
commission_from_terms terms = commission terms.rate terms.qty terms.price

-- `terms` are the terms of the order `o` in `base`: side, quantity and price, tax status and assets
-- of its account, the sum of its customer's tax rates, and the commission rate and charge that
-- apply. If account, customer or security does not exist, the model's defaults apply: untaxed;
-- customer, tier and last price 0; an empty exchange. False if no rate or no charge applies.
-- Nothing is said of `terms.held`.
pub record AreOrderTermsInBase (base : Base) (o : Order) (terms : Terms) : Type 0 where
  pub side : terms.side ≡ side_of_trade_type (trade_type_of_order_type o.order_type)
  pub qty : terms.qty ≡ o.qty
  pub price : terms.price ≡ bid_price_of_order base o
  pub tax_status : terms.tax_status ≡ tax_status_in_accounts base.accounts o.account
  pub rates : terms.rates ≡ tax_rate_sum_of_customer base (customer_id_of_account base o.account)
  -- The rate equals that of the band that the model finds.
  pub rate : option_map (λ b. b.rate)
      (commission_band_for_quantity base (tier_of_account base o.account) (trade_type_of_order_type o.order_type) (exchange_of_security base o.symbol) o.qty)
      ≡ Some terms.rate
  -- The charge is the one that the model finds.
  pub charge : option_map (λ c. c.amount) (charge_for_type_and_tier base (trade_type_of_order_type o.order_type) (tier_of_account base o.account))
      ≡ Some terms.charge
  pub assets : terms.assets ≡ assets_of_account base o.account

-- The deal of an order with the terms `terms`, as the trade `trade`, completed at the price of the
-- terms and at `stamp`; it closes the newest lots first if `lifo`, otherwise the oldest.
abbrev pub deal_from_terms : Terms → (trade stamp : ℕ) → Bool → Deal
deal_from_terms terms trade stamp lifo = record { trade = trade; side = terms.side; qty = terms.qty; price = terms.price; stamp = stamp; is_lifo = lifo }

-- For all lots of a position that the source may return (`given`) from one end, none opened by the
-- order's trade: from `before` to `after`, the number of requested lots grew by at most one more
-- than the order closes or reduces. Vacuous if `given` holds of no list of lots of a position.
abbrev pub OrderReadsAtMostOneLotMore : Terms → (List Lot → Type 0) → (before after : ℕ) → Type 0
OrderReadsAtMostOneLotMore terms given before after =
    (ls : List Lot) (trade stamp : ℕ) (lifo : Bool) → YieldsPosition given lifo ls → AreOpenedByOtherTrades trade ls
    → after ≤ before + length (touches_of_existing_lots (deal_from_terms terms trade stamp lifo) (shares_of_lots ls)) + 1
