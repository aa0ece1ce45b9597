use Rattle.std.proofs.Common.{map, subst, sym, take}
use Rattle.std.proofs.lemmas.List.{take_all}
use Rattle.brk_ref.specs.Records.{abstract_customer}
use Rattle.brk_store_index.specs.ByKey.{AreCustomersOf}
use Rattle.brk_store_index.proofs.ByKeys.{customer_pushed}
use Rattle.brk_store_index.proofs.Elements.{mapped_more}
use Rattle.brk_store_index.proofs.by_key.CustomersById.of_rows.Goals as goal

pub loop-row-preserved : goal.loop-row-preserved
loop-row-preserved c =
    let rows = c.args.rows.now in
    let i = c.loop-row.row-index in
    subst (AreCustomersOf c.add.new.self) (sym (mapped_more abstract_customer rows i c.row-item.result c.loop-row-test.true c.row-item.is))
    (customer_pushed c.loop-row.customers c.add.new.self (abstract_customer c.row-item.result) (map abstract_customer (take i rows)) c.in_ok-add.ensures c.loop-row.invariant)

pub returns : goal.returns
returns c = subst (λ l. AreCustomersOf c.loop-row.customers (map abstract_customer l)) (take_all c.loop-row.row-index c.args.rows.now c.loop-row-test.false) c.loop-row.invariant
