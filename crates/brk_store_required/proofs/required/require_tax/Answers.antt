use Rattle.std.proofs.Common.{◌≡◌, ◌==◌, Some, find, option_map, sym}
use Rattle.brk_model.specs.Records.{TaxRate}
use Rattle.brk_model.specs.Tables.{Tables}
use Rattle.brk_ref.specs.Records.{abstract_tax_rate}
use Rattle.brk_store_reads.proofs.Retelling.{retold}
use Rattle.brk_store_required.proofs.required.require_tax.Goals as goal

pub returns-in-Some : goal.returns-in-Some
returns-in-Some g c =
    record {
      read = retold g.S.Store c.args.store.now c.tax_with_id.new.self (Some c.in-Some.tax) c.in-Some.tax
          (λ o (t : Tables). option_map abstract_tax_rate o ≡ find (λ (r : TaxRate). r.id == c.args.id) t.tax_rates)
          (λ tax (t : Tables). find (λ (r : TaxRate). r.id == c.args.id) t.tax_rates ≡ Some (abstract_tax_rate tax))
          (λ t e. sym e)
          (rw c.in-Some.is at c.in_ok-tax.ensures.read);
    }
