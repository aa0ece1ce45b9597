-- An estimate from the terms that an order has in a base is the estimate of the model.
use Rattle.std.proofs.Common.{◌≡◌, ℕ, ◌+◌, List, length, refl, sym, ap, ◌∙◌}
use Rattle.std.specs.Prelude.{Option, Some, None, unwrap_or, option_map}
use Rattle.std.specs.Option.{option_map_or}
use Rattle.brk_money.specs.OrderTypes.{trade_type_of_order_type}
use Rattle.brk_money.specs.Amounts.{commission}
use Rattle.brk_model.specs.Base.{Base, completed_trades, tier_of_account, exchange_of_security, commission_band_for_quantity, charge_for_type_and_tier}
use Rattle.brk_model.specs.Commands.{Order}
use Rattle.brk_model.specs.Derived.{shares_of_position}
use Rattle.brk_model.specs.Orders.{deal_of_order, tax_on_deal, commission_by_band, bid_price_of_order, estimate_against_shares, estimate}
use Rattle.brk_model.specs.Shares.{Share, Deal, buy_value, sell_value}
use Rattle.brk_trade_plans.specs.declared.estimate.Estimate.{Estimate}
use Rattle.brk_trade.specs.declared.estimate.Terms.{Terms}
use Rattle.brk_lots.specs.declared.closed_values.Values.{Values}
use Rattle.brk_trade.specs.Estimates.{AreOrderTermsInBase, commission_from_terms, tax_on_gain_at_status}
use Rattle.brk_lots.specs.Values.{closing_values_of_deal}
use Rattle.brk_trade_plans.specs.Replies.{estimate_from_model}

-- a number of a record that was found
rate_found : {X : Type 0} (f : X → ℕ) (h : ℕ → ℕ) (n : ℕ) (x : Option X) → option_map f x ≡ Some n → h n ≡ unwrap_or (option_map (λ a. h (f a)) x) 0
rate_found f h n None e = cc
rate_found f h n (Some a) e = let same : f a ≡ n = cc in ap h (sym same)

amount_found : {X : Type 0} (f : X → ℕ) (n : ℕ) (x : Option X) → option_map f x ≡ Some n → n ≡ option_map_or f x 0
amount_found f n None e = cc
amount_found f n (Some a) e = cc

-- an order's deal by its terms
abbrev pub deal_by : Base → Order → Terms → Deal
deal_by base o terms = record { trade = length base.trades + 1; side = terms.side; qty = terms.qty; price = terms.price; stamp = 0; is_lifo = o.is_lifo }

-- the estimate that is made of terms and values
abbrev pub made_of : Terms → Values → Estimate
made_of terms values = record {
  price = terms.price;
  buy_value = values.buy_value;
  sell_value = values.sell_value;
  tax = tax_on_gain_at_status terms.tax_status terms.rates values;
  commission = commission_from_terms terms;
  charge = terms.charge;
  assets = terms.assets;
}

made_upon : (base : Base) (o : Order) (us : List Share) (terms : Terms) (values : Values) → AreOrderTermsInBase base o terms
    → values ≡ closing_values_of_deal (deal_by base o terms) us → made_of terms values ≡ estimate_from_model (estimate_against_shares us base o)
made_upon base o us terms values h v =
    let same : deal_by base o terms ≡ deal_of_order base o = rw (h.side, h.qty, h.price) refl in
    let vs : values ≡ closing_values_of_deal (deal_of_order base o) us = v ∙ ap (λ d. closing_values_of_deal d us) same in
    let bought : values.buy_value ≡ buy_value (deal_of_order base o) us = ap (λ (x : Values). x.buy_value) vs in
    let sold : values.sell_value ≡ sell_value (deal_of_order base o) us = ap (λ (x : Values). x.sell_value) vs in
    let taxed : tax_on_gain_at_status terms.tax_status terms.rates values ≡ tax_on_deal base o.account (deal_of_order base o) us = rw (h.tax_status, h.rates, vs) refl in
    let rated : commission_from_terms terms ≡ unwrap_or (commission_by_band base o.account (trade_type_of_order_type o.order_type) o.symbol o.qty (bid_price_of_order base o)) 0 =
    rw (h.qty, h.price) (rate_found (λ b. b.rate) (λ r. commission r o.qty (bid_price_of_order base o)) terms.rate
    (commission_band_for_quantity base (tier_of_account base o.account) (trade_type_of_order_type o.order_type) (exchange_of_security base o.symbol) o.qty)
    h.rate) in
    let charged : terms.charge ≡ option_map_or (λ c. c.amount) (charge_for_type_and_tier base (trade_type_of_order_type o.order_type) (tier_of_account base o.account)) 0 =
    amount_found (λ c. c.amount) terms.charge (charge_for_type_and_tier base (trade_type_of_order_type o.order_type) (tier_of_account base o.account)) h.charge in
    rw (taxed, rated, bought, sold, charged, h.price, h.assets) refl

-- upon the shares that the base has it is the estimate of the order
pub made_is : (base : Base) (o : Order) (us : List Share) (terms : Terms) (values : Values) → AreOrderTermsInBase base o terms → shares_of_position (completed_trades base) o.account o.symbol ≡ us
    → values ≡ closing_values_of_deal (deal_by base o terms) us → made_of terms values ≡ estimate_from_model (estimate base o)
unfolding estimate
made_is base o us terms values h e v = rw e (made_upon base o us terms values h v)
