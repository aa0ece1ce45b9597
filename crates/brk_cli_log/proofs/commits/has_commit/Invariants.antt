use Rattle.std.proofs.Common.{ℕ, ◌<◌}
use Rattle.brk_cli_log.specs.Commits.{HasCommitMarkAt, frame_start}
use Rattle.brk_cli_log.proofs.commits.has_commit.Given as goal

abbrev pub invariant-loop-i : goal.invariant-loop-i
invariant-loop-i l = (j : ℕ) → j < l.i → ¬ HasCommitMarkAt l.log (frame_start l.log j)
