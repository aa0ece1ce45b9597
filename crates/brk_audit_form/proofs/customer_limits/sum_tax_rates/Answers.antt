use Rattle.std.proofs.Common.{◌≡◌, ◌==◌, ◌∙◌, ap, take, filter}
use Rattle.std.specs.Prelude.{sum_by}
use Rattle.std.proofs.lemmas.List.{take_all}
use Rattle.brk_ref.specs.Records.{abstract_customer_tax}
use Rattle.brk_trade_rows.specs.Sheets.{abstract_sheets}
use Rattle.brk_audit_form.specs.Customers.{rate_of_tax_rate_or_zero}
use Rattle.brk_audit_form.proofs.CustomerSums.{sum-mapped}
use Rattle.brk_audit_form.proofs.customer_limits.sum_tax_rates.Goals as goal

pub returns : goal.returns
returns c = λ q.
    let t = abstract_sheets c.args.sheets.now in
    let whole : take c.loop-row.row-index c.deref-row-items.result.now ≡ c.args.sheets.now.customer_taxes.items =
    take_all c.loop-row.row-index c.deref-row-items.result.now c.loop-row-test.false ∙ c.deref-row-items.ensures.value in
    c.loop-row.invariant.told q ∙ ap (λ l. sum_by (λ x. rate_of_tax_rate_or_zero t x.tax) (filter (λ x. x.customer == q) l)) whole
    ∙ sum-mapped (λ x. rate_of_tax_rate_or_zero t x.tax) (λ x. x.customer == q) abstract_customer_tax c.args.sheets.now.customer_taxes.items
