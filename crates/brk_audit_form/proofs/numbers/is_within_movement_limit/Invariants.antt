use Rattle.std.proofs.Common.{◌≡◌, take, filter, length}
use Rattle.std.specs.Prelude.{is_none}
use Rattle.brk_audit_form.proofs.numbers.is_within_movement_limit.Given as goal

abbrev pub invariant-loop-row : goal.invariant-loop-row
invariant-loop-row l = l.count ≡ length (filter (λ r. is_none r.trade) (take l.row-index l.moves))
