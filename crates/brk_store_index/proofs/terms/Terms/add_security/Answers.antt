use Rattle.brk_ref.specs.Records.{abstract_security_row}
use Rattle.brk_store_index.proofs.Termed.{security_added_if}
use Rattle.brk_store_index.proofs.terms.Terms.add_security.Goals as goal

pub returns : goal.returns
returns c = security_added_if c.args.self.now c.add.result c.add.new.self (abstract_security_row c.args.security.now) c.add.ensures
