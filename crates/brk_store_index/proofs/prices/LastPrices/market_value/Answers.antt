use Rattle.std.proofs.Common.{◌≡◌, ◌∙◌, ◌+ℤ◌, ◌*ℤ◌, Some, ap, pos, rules, sym}
use Rattle.brk_ref.specs.Rows.{abstract_summary_row}
use Rattle.brk_store_index.specs.Prices.{market_value_of_summary, price_of_symbol}
use Rattle.brk_store_index.proofs.Pricing.{price_of_tables, total_by-none, worth_more}
use Rattle.brk_store_index.proofs.prices.LastPrices.market_value.Goals as goal

pub loop-row-init : goal.loop-row-init
loop-row-init c t are = c.new-total.ensures ∙ sym (total_by-none (market_value_of_summary t))

pub loop-row-preserved : goal.loop-row-preserved
loop-row-preserved c t are =
    let row = c.row-item.result in
    let total = c.loop-row.total in
    let price = c.in-Some.price in
    let is : price_of_symbol c.args.self.now row.symbol ≡ Some price = search rules in
    c.in-Some-add_market_value.ensures
    ∙ ap (λ p. total +ℤ row.qty *ℤ pos p) (sym (price_of_tables c.args.self.now t are row.symbol price is))
    ∙ ap (λ n. n +ℤ market_value_of_summary t (abstract_summary_row row)) (c.loop-row.invariant t are)
    ∙ worth_more abstract_summary_row (market_value_of_summary t) c.args.rows.now c.loop-row.row-index row c.loop-row-test.true c.row-item.is
