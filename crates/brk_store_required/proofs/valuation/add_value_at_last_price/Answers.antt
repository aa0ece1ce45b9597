use Rattle.std.proofs.Common.{◌≡◌, ◌∙◌, ◌+ℤ◌, ◌*ℤ◌, ap, pos}
use Rattle.brk_model.specs.Joins.{last_price_in_tables}
use Rattle.brk_model.specs.Tables.{Tables}
use Rattle.brk_ref.specs.Rows.{abstract_summary_row}
use Rattle.brk_store_index.specs.Prices.{market_value_of_summary}
use Rattle.brk_store_reads.proofs.Retelling.{retold}
use Rattle.brk_store_required.proofs.valuation.add_value_at_last_price.Goals as goal

pub returns-in-Some : goal.returns-in-Some
returns-in-Some g c =
    let row = c.args.row.now in
    record {
      read = retold g.S.Store c.args.store.now c.require_last_price.new.store c.in_ok-price.price c.in-Some.sum
          (λ price (t : Tables). price ≡ last_price_in_tables t row.symbol) (λ sum (t : Tables). sum ≡ c.args.amount +ℤ market_value_of_summary t (abstract_summary_row row))
          (λ t e. (rw c.in-Some.is at c.add_market_value.ensures) ∙ ap (λ price. c.args.amount +ℤ row.qty *ℤ pos price) e)
          c.in_ok-price.ensures.read;
    }
