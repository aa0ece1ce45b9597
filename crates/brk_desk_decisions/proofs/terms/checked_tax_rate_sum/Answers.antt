use Rattle.std.proofs.Common.{◌≡◌, ◌≤◌, ◌==◌, ◌∙◌, Some, ap, filter, map, subst}
use Rattle.std.specs.Prelude.{SomeIff, sum_by}
use Rattle.brk_model.specs.Limits.{greatest_tax_rate}
use Rattle.brk_model.specs.Tables.{Tables}
use Rattle.brk_ref.specs.Records.{abstract_tax_rate}
use Rattle.brk_trade_books.specs.Reads.{customer_tax_rate_sum, tax_rate_with_id}
use Rattle.brk_trade_books.proofs.TermReading.{taxes_found}
use Rattle.brk_store_reads.proofs.Retelling.{retold}
use Rattle.brk_desk_decisions.proofs.terms.checked_tax_rate_sum.Goals as goal

pub returns : goal.returns
returns g c =
    retold g.S.Store c.args.store.now c.read_taxes.new.store c.in_ok-taxes.taxes c.tax_sum.result
    (λ taxes (t : Tables). map (λ tax. Some (abstract_tax_rate tax)) taxes.items ≡ map (λ r. tax_rate_with_id t r.tax) (filter (λ r. r.customer == c.args.customer) t.customer_taxes))
    (λ rates (t : Tables). SomeIff rates (customer_tax_rate_sum t c.args.customer ≤ greatest_tax_rate) (customer_tax_rate_sum t c.args.customer))
    (λ t e. subst (λ n. SomeIff c.tax_sum.result (n ≤ greatest_tax_rate) n)
    (ap (sum_by (λ tax. tax.rate)) c.deref.ensures.value ∙ taxes_found t c.args.customer c.in_ok-taxes.taxes.items e) c.tax_sum.ensures)
    c.in_ok-taxes.ensures
