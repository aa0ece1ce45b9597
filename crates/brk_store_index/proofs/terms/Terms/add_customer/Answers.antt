use Rattle.brk_ref.specs.Records.{abstract_customer}
use Rattle.brk_store_index.proofs.Termed.{customer_added_if}
use Rattle.brk_store_index.proofs.terms.Terms.add_customer.Goals as goal

pub returns : goal.returns
returns c = customer_added_if c.args.self.now c.add.result c.add.new.self (abstract_customer c.args.customer.now) c.add.ensures
