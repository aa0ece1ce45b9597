use Rattle.std.proofs.Common.{◌∙◌, Ok, Err, ap, map}
use Rattle.brk_money.specs.declared.fault.CallFault.TheVariants.{Memory}
use Rattle.brk_ref.specs.Records.{abstract_customer, abstract_customer_tax, abstract_security_row}
use Rattle.brk_store_index.specs.Terms.{AreTermsOf}
use Rattle.brk_store_reads.proofs.ReadResults.{decided_by_six}
use Rattle.brk_store_reads.proofs.terms.read_terms.Goals as goal

pub returns-in-Ok-clause-read : goal.returns-in-Ok-clause-read
returns-in-Ok-clause-read g c =
    decided_by_six g.S.Store c.args.conn.now c.read_all_customer_taxes.new.conn c.read_all_customers.new.conn c.read_all_securities.new.conn c.read_all_charges.new.conn c.read_all_bands.new.conn c.read_all_tax_rates.new.conn
    c.in_ok-customer_taxes.customer_taxes c.in_ok-customers.customers c.in_ok-securities.securities c.in_ok-charges.charges c.in_ok-bands.bands c.in_ok-taxes.taxes _ _ _ _ _ _ AreTermsOf (Ok c.in-Ok.terms)
    c.in_ok-customer_taxes.ensures.read c.in_ok-customers.ensures.read c.in_ok-securities.ensures.read c.in_ok-charges.ensures.read c.in_ok-bands.ensures.read c.in_ok-taxes.ensures.read
    (λ t customer_taxes customers securities charges bands taxes.
    rw (charges, bands, taxes, ap (map abstract_customer_tax) c.deref.ensures.value ∙ customer_taxes, ap (map abstract_customer) c.deref-2.ensures.value ∙ customers, ap (map abstract_security_row) c.deref-3.ensures.value ∙ securities) at c.in-Ok.ensures)

pub returns-clause-read : goal.returns-clause-read
returns-clause-read g c =
    decided_by_six g.S.Store c.args.conn.now c.read_all_customer_taxes.new.conn c.read_all_customers.new.conn c.read_all_securities.new.conn c.read_all_charges.new.conn c.read_all_bands.new.conn c.read_all_tax_rates.new.conn
    c.in_ok-customer_taxes.customer_taxes c.in_ok-customers.customers c.in_ok-securities.securities c.in_ok-charges.charges c.in_ok-bands.bands c.in_ok-taxes.taxes _ _ _ _ _ _ AreTermsOf (Err Memory)
    c.in_ok-customer_taxes.ensures.read c.in_ok-customers.ensures.read c.in_ok-securities.ensures.read c.in_ok-charges.ensures.read c.in_ok-bands.ensures.read c.in_ok-taxes.ensures.read tt
