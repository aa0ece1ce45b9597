use Rattle.std.proofs.Common.{◌≡◌, Ok, map, take}
use Rattle.std.specs.Prelude.{flat_map}
use Rattle.brk_money.specs.declared.fault.CallFault.{CallFault}
use Rattle.brk_ref.specs.Rows.{abstract_request_row}
use Rattle.brk_store_transactions.specs.Holds.{ReadPost}
use Rattle.brk_view_rows.specs.Volume as volume
use Rattle.brk_desk_queries.specs.Volumes.{brokers_of_name_in_sector}
use Rattle.brk_desk_queries.proofs.volumes.named_volumes.Given as goal

abbrev pub invariant-loop-name : goal.invariant-loop-name
invariant-loop-name g l = ReadPost {V = Unit {0}} {E = CallFault} g.S.Store l.fn.store l.store (Ok tt)
    (λ _ t. (map abstract_request_row l.requests.items ≡ t.requests)
    × (l.found.items ≡ map (volume.volume_of_broker_in_sector t l.fn.sector)
    (flat_map (brokers_of_name_in_sector t l.fn.sector) (take l.name-index l.names))))
