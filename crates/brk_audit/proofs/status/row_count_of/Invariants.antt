use Rattle.std.proofs.Common.{◌≡◌, ◌+◌, ◌==◌, drop}
use Rattle.std.specs.List.{prefix_len}
use Rattle.brk_audit.proofs.status.row_count_of.Given as goal

abbrev pub invariant-loop-i : goal.invariant-loop-i
invariant-loop-i l = prefix_len (λ h. h.trade == l.trade) l.history ≡ l.i + prefix_len (λ h. h.trade == l.trade) (drop l.i l.history)
