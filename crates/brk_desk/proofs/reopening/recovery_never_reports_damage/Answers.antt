use Rattle.brk_desk.proofs.UpgradeRecovery.{upgrade_taken_over, takes_over}
use Rattle.brk_desk.proofs.Reopened.{call_taken_over, made_stands, making_taken_over, run_taken_over}
use Rattle.brk_desk.proofs.reopening.recovery_never_reports_damage.Goals as goal

pub returns-clause-created : goal.returns-clause-created
returns-clause-created g c = made_stands g.S.Store

pub returns-clause-adopted : goal.returns-clause-adopted
returns-clause-adopted g c = λ trees conn store opened defined adopted clean. takes_over g.S.Store g.met.S.Store.settled trees conn store opened adopted clean defined

pub returns-clause-crash_after_adoption : goal.returns-clause-crash_after_adoption
returns-clause-crash_after_adoption g c = λ trees first left conn store stopped result schema rows opened answered adopted clean again adopts after.
    upgrade_taken_over g.S.Store g.met.S.Store.settled trees first left conn store stopped result opened schema rows answered adopted clean again adopts after

pub returns-clause-crash_after_creation : goal.returns-clause-crash_after_creation
returns-clause-crash_after_creation g c = making_taken_over g.S.Store g.met.S.Store.settled

pub returns-clause-crash_after_call : goal.returns-clause-crash_after_call
returns-clause-crash_after_call g c = λ first left conn store base result now command key answer at called clean again adopted after.
    call_taken_over g.S.Store g.met.S.Store.settled first left conn store base result at clean again adopted after now command key answer called

pub returns-clause-crash_after_run : goal.returns-clause-crash_after_run
returns-clause-crash_after_run g c = λ first left conn store base result calls outcomes at run clean again adopted after.
    run_taken_over g.S.Store g.met.S.Store.settled first left conn store base result at clean again adopted after calls outcomes run
