use Rattle.brk_ref.specs.Records.{abstract_customer_tax}
use Rattle.brk_store_index.proofs.Termed.{customer_tax_added_if}
use Rattle.brk_store_index.proofs.terms.Terms.add_customer_tax.Goals as goal

pub returns : goal.returns
returns c = customer_tax_added_if c.args.self.now c.insert.result c.insert.new.self (abstract_customer_tax c.args.pays.now) (rw (c.get.ensures.value, c.of_id.ensures) at c.insert.ensures)
