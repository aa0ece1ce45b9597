use Rattle.brk_desk.proofs.Made.{run_of, runs_joined}
use Rattle.brk_desk.proofs.runs.call_sequences_are_runs.Goals as goal

pub returns-clause-one_run : goal.returns-clause-one_run
returns-clause-one_run g c = λ old new calls outcomes made. run_of g.S.Store old new calls outcomes made

pub returns-clause-joined_runs : goal.returns-clause-joined_runs
returns-clause-joined_runs g c = λ old mid new calls others outcomes more one two. runs_joined g.S.Store old mid new calls others outcomes more one two
