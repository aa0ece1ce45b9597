use Rattle.std.proofs.Common.{inr}
use Rattle.std.proofs.lemmas.Result.{err_from_is_err_and}
use Rattle.brk_cli_jobs.proofs.Sequence.{opened_again}
use Rattle.brk_cli_jobs.proofs.reopening.open_file_again.Goals as goal

pub returns-in_err-close : goal.returns-in_err-close
returns-in_err-close g c =
    let fault = err_from_is_err_and c.from_residual-in_err-close.result c.from_residual-in_err-close.ensures.1 in
    rw (fault.1, fault.2) (inr (c.in_ok-found.found, c.in_ok-found.ensures, c.in_err-close.ensures))

pub returns : goal.returns
returns g c =
    opened_again g.S.Store g.F.DeskFiles.opens g.F.DeskFiles.closes _ c.open-2.result c.in_ok-found.found c.in_ok-found.ensures c.in_ok-close.ensures c.open-2.ensures
