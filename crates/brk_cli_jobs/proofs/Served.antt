-- A job that serves with the program's clock.
use Rattle.std.specs.Prelude.{◌≡◌, ℕ, Option, Result}
use Rattle.std.proofs.Common.{inr, subst}
use Rattle.std.specs.Borrow.{Bor}
use Rattle.sqlite_trees.specs.declared.store.Store.{Ghosts}
use Rattle.sqlite.specs.Held.{Held}
use Rattle.brk_cli_exit.specs.declared.ending.Ending.{Ending}
use Rattle.brk_io.specs.Readings.{ReturnsReading, program_clock}
use Rattle.brk_io.specs.declared.program_clock.ProgramClock.{ProgramClock}
use Rattle.brk_cli_jobs.specs.Endings.{ending_of_serving}
use Rattle.brk_cli_jobs.specs.Jobs.{ServesListener, ServesStreams}

-- what serving promises with a clock, it promises with the program's, if it is that one
pub serves : {S R : Type 0} (g : Ghosts S) (machine : Bor R) (at : Option ℕ) (streams : ℕ) (clock later : ProgramClock R) (old new : Held S)
    (result : Result (Unit {0}) Ending) (end : Ending) → clock ≡ program_clock machine at → end ≡ ending_of_serving result
    → ServesListener g ReturnsReading streams clock later old new result → ServesStreams g machine at streams old new end
serves {R = R} g machine at streams clock later old new result end is ended served =
    inr (result, later, ended, subst (λ (k : ProgramClock R). ServesListener g ReturnsReading streams k later old new result) is served)
