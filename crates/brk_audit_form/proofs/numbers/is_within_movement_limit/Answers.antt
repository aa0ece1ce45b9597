use Rattle.std.proofs.Common.{take, arith}
use Rattle.std.specs.Prelude.{is_none}
use Rattle.brk_audit_form.proofs.CustomerSums.{filter-le, taken}
use Rattle.brk_audit_form.proofs.numbers.is_within_movement_limit.Goals as goal

pub overflow_add-count : goal.overflow_add-count
overflow_add-count c =
    let i = c.loop-row.invariant in
    let f = filter-le (λ r. is_none r.trade) (take c.loop-row.row-index c.args.moves.now) in
    let t = taken c.loop-row.row-index c.args.moves.now in
    let h = c.loop-row-test.true in
    omega arith
