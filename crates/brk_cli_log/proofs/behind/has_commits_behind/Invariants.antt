use Rattle.brk_cli_log.specs.Chains.{HasNoneBefore, IsLastMark}
use Rattle.brk_cli_log.proofs.behind.has_commits_behind.Given as goal

abbrev pub invariant-loop-n : goal.invariant-loop-n
invariant-loop-n l = IsLastMark l.page_size l.log l.k l.n l.mark × HasNoneBefore l.page_size l.log l.k l.n
