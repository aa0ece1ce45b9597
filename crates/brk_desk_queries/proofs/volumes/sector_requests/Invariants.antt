use Rattle.std.proofs.Common.{◌≡◌, Ok, filter, map, take}
use Rattle.brk_money.specs.declared.fault.CallFault.{CallFault}
use Rattle.brk_ref.specs.Rows.{abstract_request_row}
use Rattle.brk_store_reads.specs.ReadSequences.{ReadSequencePost}
use Rattle.brk_desk_queries.specs.Volumes.{is_sector_request_of_broker}
use Rattle.brk_desk_queries.proofs.volumes.sector_requests.Given as goal

abbrev pub invariant-loop-row : goal.invariant-loop-row
invariant-loop-row g l = ReadSequencePost {V = Unit {0}} {E = CallFault} g.S.Store l.fn.store l.store (Ok tt)
    (λ _ t. map abstract_request_row l.found.items ≡ filter (is_sector_request_of_broker t l.fn.sector l.fn.broker) (map abstract_request_row (take l.row-index l.requests)))
