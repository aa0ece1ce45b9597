use Rattle.std.proofs.Common.{map, take}
use Rattle.brk_ref.specs.Records.{abstract_customer_tax}
use Rattle.brk_store_index.specs.Terms.{AreCustomerTaxesOf}
use Rattle.brk_store_index.proofs.terms.customer_taxes_of_rows.Given as goal

abbrev pub invariant-loop-row : goal.invariant-loop-row
invariant-loop-row l = AreCustomerTaxesOf l.taxes (map abstract_customer_tax (take l.row-index l.rows))
