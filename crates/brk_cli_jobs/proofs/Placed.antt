-- A job on a desk that was opened or created.
use Rattle.std.proofs.Common.{◌≡◌, ℕ, List, Ok, Result, subst, sym}
use Rattle.std.specs.Borrow.{Bor}
use Rattle.sqlite_trees.specs.declared.store.Store.{Ghosts}
use Rattle.sqlite.specs.Held.{Held}
use Rattle.brk_cli_args.specs.declared.job.Job.{Job}
use Rattle.brk_cli_exit.specs.declared.ending.Ending.{Ending}
use Rattle.brk_money.specs.declared.fault.Fault.{Fault}
use Rattle.brk_cli_jobs.specs.Files.{CloseRelation, OpenRelation}
use Rattle.brk_cli_jobs.specs.Jobs.{InputAndOutput}
use Rattle.brk_cli_jobs.specs.Places.{DeskPlace, ExecutesJobAt, ExecutesJobOnOpened, ExecutesJobOnStore}

module _ {S R : Type 0} (g : Ghosts S) (closes : CloseRelation S) (machine : Bor R) (job : Job) where
  pub on_opened : (opens : OpenRelation S) (path : List ℕ) (opened : Result (Held S) Fault) (store : Held S) (io : InputAndOutput) (end : Ending) → opened ≡ Ok store
      → ExecutesJobOnStore g opens closes machine job path store io end → ExecutesJobOnOpened g opens closes machine job path opened io end
  on_opened opens path opened store io end is done =
      subst (λ (o : Result (Held S) Fault). ExecutesJobOnOpened g opens closes machine job path o io end) (sym is) done

  pub at_place : (creates opens : OpenRelation S) (place other : DeskPlace) (io : InputAndOutput) (end : Ending) → other ≡ place
      → ExecutesJobAt g creates opens closes machine job other io end → ExecutesJobAt g creates opens closes machine job place io end
  at_place creates opens place other io end is done = subst (λ (p : DeskPlace). ExecutesJobAt g creates opens closes machine job p io end) is done
