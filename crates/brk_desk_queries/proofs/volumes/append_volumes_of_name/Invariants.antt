use Rattle.std.proofs.Common.{◌≡◌, ◌++◌, Ok, filter, map, take}
use Rattle.std.specs.Prelude.{bytes_eq}
use Rattle.brk_money.specs.declared.fault.CallFault.{CallFault}
use Rattle.brk_ref.specs.Rows.{abstract_request_row}
use Rattle.brk_ref.specs.Records.{abstract_broker_row}
use Rattle.brk_store_transactions.specs.Holds.{ReadPost}
use Rattle.brk_desk_queries.specs.Volumes.{volumes_of_brokers_in_sector}
use Rattle.brk_desk_queries.proofs.volumes.append_volumes_of_name.Given as goal

abbrev pub invariant-loop-row : goal.invariant-loop-row
invariant-loop-row g l = ReadPost {V = Unit {0}} {E = CallFault} g.S.Store l.fn.store l.store (Ok tt)
    (λ _ t. (map abstract_broker_row l.row-items ≡ filter (λ b. bytes_eq b.name l.fn.name) t.brokers)
    × (map abstract_request_row l.fn.requests ≡ t.requests → l.found.items ≡ l.fn.found.items ++ volumes_of_brokers_in_sector t l.fn.sector (map abstract_broker_row (take l.row-index l.row-items))))
