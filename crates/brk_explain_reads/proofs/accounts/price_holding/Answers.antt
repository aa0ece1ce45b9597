use Rattle.std.proofs.Common.{◌≡◌}
use Rattle.brk_ref.specs.Rows.{abstract_summary_row}
use Rattle.brk_model.specs.Joins.{last_price_in_tables}
use Rattle.brk_model.specs.Tables.{Tables}
use Rattle.brk_store_reads.proofs.Retelling.{retold}
use Rattle.brk_model_explain.specs.AccountLines.{priced_holding}
use Rattle.brk_explain_rows.specs.Details.{abstract_priced_holding}
use Rattle.brk_explain_rows.specs.declared.account_details.PricedHolding.{PricedHolding}
use Rattle.brk_explain_reads.proofs.accounts.price_holding.Goals as goal

pub returns : goal.returns
returns g c =
    let summary = c.args.summary in
    let price = c.in_ok-price.price in
    let held : PricedHolding = record { summary = summary; price = price } in
    retold g.S.Store c.args.store.now c.require_last_price.new.store price held
    (λ price (t : Tables). price ≡ last_price_in_tables t summary.symbol)
    (λ held (t : Tables). abstract_priced_holding held ≡ priced_holding t (abstract_summary_row summary))
    (λ t e i. record { summary = abstract_summary_row summary; price = e i })
    c.in_ok-price.ensures.read
