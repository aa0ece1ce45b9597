use Rattle.std.proofs.Common.{ℕ, ◌<◌}
use Rattle.sqlite_wal.specs.Recovery.{Passes}
use Rattle.brk_cli_log.proofs.behind.first_invalid.Given as goal

abbrev pub invariant-loop-i : goal.invariant-loop-i
invariant-loop-i l = (j : ℕ) → j < l.i → Passes l.page_size l.log j
