use Rattle.std.proofs.Common.{◌≡◌, ◌*◌, ◌≤◌, map, take}
use Rattle.std.specs.Prelude.{sum_by}
use Rattle.brk_ref.specs.Rows.{abstract_request_row}
use Rattle.brk_view_rows.specs.Volume.{request_value_at_bid}
use Rattle.brk_view_rows.proofs.volumes.total_bid_value.Given as goal

abbrev pub invariant-loop-request : goal.invariant-loop-request
invariant-loop-request l = record {
  worth : l.cents ≡ sum_by request_value_at_bid (map abstract_request_row (take l.request-index l.requests));
  limit : l.cents ≤ 99999980000001 * l.request-index;
}
