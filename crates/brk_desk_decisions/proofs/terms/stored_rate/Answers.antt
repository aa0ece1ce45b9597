use Rattle.std.proofs.Common.{◌≡◌, ◌==◌, Some, None, Option, ap, find, option_map}
use Rattle.brk_model.specs.Records.{TaxRate}
use Rattle.brk_model.specs.Tables.{Tables}
use Rattle.brk_ref.specs.Records.{abstract_tax_rate}
use Rattle.brk_ref.specs.declared.tax.Tax.{Tax}
use Rattle.brk_trade_books.specs.Reads.{rate_of_tax_rate_with_id}
use Rattle.brk_store_reads.proofs.Retelling.{retold}
use Rattle.brk_desk_decisions.proofs.terms.stored_rate.Goals as goal

pub returns-in-Some : goal.returns-in-Some
returns-in-Some g c =
    retold g.S.Store c.args.store.now c.tax_with_id.new.self (Some c.in-Some.tax) (Some c.in-Some.tax.rate)
    (λ o (t : Tables). option_map abstract_tax_rate o ≡ find (λ (r : TaxRate). r.id == c.args.tax) t.tax_rates) (λ rate (t : Tables). rate ≡ rate_of_tax_rate_with_id t c.args.tax)
    (λ t e. ap (option_map (λ (r : TaxRate). r.rate)) e)
    (rw c.in-Some.is at c.in_ok-tax.ensures.read)

pub returns-in-None : goal.returns-in-None
returns-in-None g c =
    retold g.S.Store c.args.store.now c.tax_with_id.new.self {V = Option Tax} {X = Option _} None None
    (λ o (t : Tables). option_map abstract_tax_rate o ≡ find (λ (r : TaxRate). r.id == c.args.tax) t.tax_rates) (λ rate (t : Tables). rate ≡ rate_of_tax_rate_with_id t c.args.tax)
    (λ t e. ap (option_map (λ (r : TaxRate). r.rate)) e)
    (rw c.in-None.is at c.in_ok-tax.ensures.read)
