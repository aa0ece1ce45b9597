-- The results of a trade, from the parts that were read.
use Rattle.std.proofs.Common.{◌≡◌, ◌∙◌, ◌==◌, ℕ, Some, None, ap, cond, false, find, pos, subst, sym, true, []}
use Rattle.std.specs.Prelude.{unwrap_or}
use Rattle.std.specs.Option.{option_map_or}
use Rattle.brk_ref.specs.Rows.{abstract_trade_row}
use Rattle.brk_ref.specs.declared.trade_row.TradeRow as trade
use Rattle.brk_model.specs.Records.{Customer}
use Rattle.brk_model.specs.Tables.{AccountRow, SecurityRow, Tables, TradeRow}
use Rattle.brk_money.specs.declared.tax_status.TaxStatus.TheVariants.{Untaxed}
use Rattle.brk_model_explain.specs.Trades.{band_for_customer_and_security, has_completed_status, order_details_of_trade, tax_rates_of_customer, result_details_of_trade, details_of_trade}
use Rattle.brk_explain_rows.specs.Details.{abstract_order_details, abstract_result_details, abstract_trade_details}
use Rattle.brk_explain_rows.specs.declared.details.OrderDetails.{OrderDetails}
use Rattle.brk_explain_rows.specs.declared.details.ResultDetails.{ResultDetails}
use Rattle.brk_explain_reads.specs.Found.{AreTradeLotsInClosingOrder, AreTaxRatesAndBand, IsCashSumBeforeStamp, IsOrderOfTrade, IsSettlementAndCashOfTrade}
use Rattle.brk_explain_reads.specs.declared.cash.CashSum.{CashSum}
use Rattle.brk_explain_reads.specs.declared.trade_lots.TradeLots.{TradeLots}
use Rattle.brk_explain_reads.specs.declared.settled.SettlementAndCash.{SettlementAndCash}
use Rattle.brk_explain_reads.specs.declared.terms.TaxRatesAndBand.{TaxRatesAndBand}

-- the order
pub order_known : (t : Tables) (row : trade.TradeRow) (order : OrderDetails) → IsOrderOfTrade row order t → abstract_order_details order ≡ order_details_of_trade t (abstract_trade_row row)
order_known t row order k = λ i. record {
  trade = abstract_trade_row (k.trade i);
  account_name = option_map_or (λ (a : AccountRow). a.name) (sym k.account i) [];
  customer = option_map_or (λ (a : AccountRow). a.customer) (sym k.account i) 0;
  broker = option_map_or (λ (a : AccountRow). a.broker) (sym k.account i) 0;
  tax_status = option_map_or (λ (a : AccountRow). a.tax_status) (sym k.account i) Untaxed;
  opening = option_map_or (λ (a : AccountRow). a.opening) (sym k.account i) (pos 0);
  security_name = option_map_or (λ (s : SecurityRow). s.name) (sym k.security i) [];
  statuses = k.statuses i;
}

-- the parts of a result as one
abbrev pub result_with : ℕ → TradeLots → TaxRatesAndBand → SettlementAndCash → CashSum → ResultDetails
result_with price lots terms settled cash = record {
  price = price;
  closings = lots.closings;
  own_lot = lots.own_lot;
  rates = terms.rates;
  band = terms.band;
  settlement = settled.settlement;
  cash = settled.cash;
  cash_before = cash.total;
  cash_rows = cash.rows;
  rule = settled.rule;
}

module _ (t : Tables) (order : OrderDetails) (price : ℕ) (lots : TradeLots) (terms : TaxRatesAndBand) (settled : SettlementAndCash) (cash : CashSum) where
  abbrev u : TradeRow
  u = abstract_trade_row order.trade

  pub result_known : order.trade.price ≡ Some price → AreTradeLotsInClosingOrder t u lots → AreTaxRatesAndBand t order terms
      → IsSettlementAndCashOfTrade t u.id settled → IsCashSumBeforeStamp t u.account u.stamp cash
      → IsOrderOfTrade order.trade order t → abstract_result_details (result_with price lots terms settled cash) ≡ result_details_of_trade t u
  result_known priced l k s c o =
      let customer : order.account.account.customer ≡ (order_details_of_trade t u).customer = ap (λ x. option_map_or (λ (a : AccountRow). a.customer) x 0) (sym o.account) in
      let rates = k.0 ∙ ap (tax_rates_of_customer t) customer in
      let band = k.1 ∙ (λ i. band_for_customer_and_security t u (find (λ (x : Customer). x.id == customer i) t.customers) (sym o.security i)) in
      λ i. record {
        price = unwrap_or (sym priced i) 0;
        closings = l.0 i;
        own_lot = l.1 i;
        rates = rates i;
        band = band i;
        settlement = s.0 i;
        cash = s.1 i;
        cash_before = c.1 i;
        cash_rows = c.0 i;
        rule = s.2 i;
      }

-- the details
pub details_ordered : (t : Tables) (row : trade.TradeRow) (order : OrderDetails) → IsOrderOfTrade row order t → has_completed_status (abstract_trade_row order.trade) ≡ false
    → abstract_trade_details (record { order = order; result = None }) ≡ details_of_trade t (abstract_trade_row row)
unfolding details_of_trade
details_ordered t row order k waits =
    let same : abstract_trade_row order.trade ≡ abstract_trade_row row = ap abstract_trade_row k.trade in
    λ i. record { order = order_known t row order k i; result = cond (sym (ap has_completed_status (sym same) ∙ waits) i) (Some (result_details_of_trade t (abstract_trade_row row))) None }

pub details_completed : (t : Tables) (row : trade.TradeRow) (order : OrderDetails) (details : ResultDetails) → IsOrderOfTrade row order t → has_completed_status (abstract_trade_row order.trade) ≡ true
    → (IsOrderOfTrade order.trade order t → abstract_result_details details ≡ result_details_of_trade t (abstract_trade_row order.trade))
    → abstract_trade_details (record { order = order; result = Some details }) ≡ details_of_trade t (abstract_trade_row row)
unfolding details_of_trade
details_completed t row order details k done come =
    let same : abstract_trade_row order.trade ≡ abstract_trade_row row = ap abstract_trade_row k.trade in
    let own : IsOrderOfTrade order.trade order t = subst (λ r. IsOrderOfTrade r order t) (sym k.trade) k in
    let results : Some (abstract_result_details details) ≡ Some (result_details_of_trade t (abstract_trade_row row)) = ap Some (come own ∙ ap (result_details_of_trade t) same) in
    λ i. record {
      order = order_known t row order k i;
      result =
          (results ∙ ap (λ b. cond b (Some (result_details_of_trade t (abstract_trade_row row))) None) (sym (ap has_completed_status (sym same) ∙ done))) i;
    }
