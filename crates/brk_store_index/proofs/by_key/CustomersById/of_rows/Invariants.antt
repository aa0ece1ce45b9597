use Rattle.std.proofs.Common.{map, take}
use Rattle.brk_ref.specs.Records.{abstract_customer}
use Rattle.brk_store_index.specs.ByKey.{AreCustomersOf}
use Rattle.brk_store_index.proofs.by_key.CustomersById.of_rows.Given as goal

abbrev pub invariant-loop-row : goal.invariant-loop-row
invariant-loop-row l = AreCustomersOf l.customers (map abstract_customer (take l.row-index l.rows))
