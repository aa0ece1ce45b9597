use Rattle.std.proofs.Common.{◌≤◌, ◌-◌}
use Rattle.brk_cli_jobs.proofs.Sequence.{ServedSoFar}
use Rattle.brk_cli_jobs.specs.Serving.{RunsSinceOpening}
use Rattle.brk_cli_jobs.proofs.serve.serve_file_by.Given as goal

abbrev pub invariant-streams : goal.invariant-streams
invariant-streams g l = record {
  within : l.served ≤ l.streams;
  so_far : ServedSoFar g.S.Store g.F.DeskFiles.opens g.F.DeskFiles.closes l.path g.C.Clock.gives l.served l.fn.clock l.clock l.fn.store l.desk;
  run : RunsSinceOpening g.S.Store g.F.DeskFiles.opens l.path l.fn.store l.desk;
}

abbrev pub decreases-streams : goal.decreases-streams
decreases-streams g l = l.streams - l.served
