use Rattle.std.proofs.Common.{arith, map, take}
use Rattle.brk_ref.specs.Records.{abstract_customer_tax}
use Rattle.brk_store_index.specs.Groups.{ages_of_number}
use Rattle.brk_store_index.specs.Terms.{AreCustomerTaxesOf}
use Rattle.brk_store_index.proofs.Aged.{no_ages, row_added}
use Rattle.brk_store_index.proofs.Termed.{customer_taxes_same, customer_taxes_with}
use Rattle.brk_store_index.proofs.terms.customer_taxes_of_rows.Goals as goal

pub loop-row-init : goal.loop-row-init
loop-row-init c = λ number. no_ages (ages_of_number c.new-taxes.result number) (c.new-taxes.ensures number)

pub loop-row-preserved : goal.loop-row-preserved
loop-row-preserved c =
    let rows = map abstract_customer_tax (take c.loop-row.row-index c.args.rows.now) in
    row_added abstract_customer_tax (AreCustomerTaxesOf c.insert.new.self) (customer_taxes_same c.insert.new.self) c.args.rows.now c.loop-row.row-index c.row-item.result (omega arith) c.row-item.is
    (customer_taxes_with c.loop-row.taxes c.insert.new.self (abstract_customer_tax c.row-item.result) rows (rw (c.get.ensures.value, c.of_id.ensures) at c.in_ok-insert.ensures) c.loop-row.invariant)
