-- What is done by a desk that keeps the stamp of its replies, from `old` to `new`: what a desk does
-- (`old.desk`, `new.desk`), and the stamp (`old.stamp`, `new.stamp`).
use Rattle.std.specs.Prelude.{◌≡◌, ℕ, List, Result, map}
use Rattle.sqlite_trees.specs.declared.store.Store.{Ghosts}
use Rattle.sqlite.specs.Held.{state}
use Rattle.sqlite.specs.State.{HasCleanDisk}
use Rattle.brk_store_transactions.specs.Audited.{Represents}
use Rattle.brk_desk.specs.Answers.{model_outcome}
use Rattle.brk_desk.specs.Commands.{model_call}
use Rattle.brk_desk.specs.Runs.{IsRunWithOutcomes}
use Rattle.brk_desk.specs.declared.call.Call as made
use Rattle.brk_desk.specs.declared.call.Outcome as came
use Rattle.brk_model.specs.Base.{Base}
use Rattle.brk_model.specs.Run.{Call, Outcome, Run}
use Rattle.brk_http.specs.CallOutcomes.{DeskCallHasOutcome}
use Rattle.brk_http.specs.Served.{DeskServesStream}
use Rattle.brk_http_engine.specs.Peers.{StreamBytes}
use Rattle.brk_io.specs.declared.stream_fault.ServeFault.{ServeFault}
use Rattle.brk_http_stamps.specs.Stamps.{stamp_after_outcome, stamp_after_outcomes}
use Rattle.brk_http_stamps.specs.declared.stamped_desk.StampedDesk.{StampedDesk}

-- A call had an outcome as of any desk (`DeskCallHasOutcome`). The stamp after it equals the stamp of
-- the reply if a command was accepted, otherwise the stamp before.
pub record StampedCallHasOutcome {S : Type 0} (g : Ghosts S) (old : StampedDesk S) (now : ℕ) (call : Call) (outcome : Outcome) (new : StampedDesk S) : Type 0 where
  pub called : DeskCallHasOutcome g old.desk now call outcome new.desk
  pub stamp : new.stamp ≡ stamp_after_outcome old.stamp outcome

-- For every base that the desk represented, with the stamp kept before as its last stamp, the desk
-- represents the base after these calls, with the stamp kept after as its last stamp. Vacuous if the
-- disk assumption fails.
abbrev pub KeepsLastStamp : {S : Type 0} → Ghosts S → StampedDesk S → StampedDesk S → List (ℕ × Call) → List Outcome → Type 0
KeepsLastStamp g old new calls outcomes =
    HasCleanDisk (state g new.desk) → (base : Base) → Represents g old.desk base → base.last ≡ old.stamp
    → (after : Base) × Represents g new.desk after × Run base calls outcomes after × (after.last ≡ new.stamp)

-- Some calls of the desk, executed in order, changed it, and nothing else did. The stamp after them
-- equals the stamp of the last reply to a command that was accepted among them, if there is one,
-- otherwise the stamp before.
pub record IsSomeStampedRun {S : Type 0} (g : Ghosts S) (old new : StampedDesk S) : Type 0 where
  pub calls : List (ℕ × made.Call)
  pub outcomes : List came.Outcome
  pub run : IsRunWithOutcomes g old.desk new.desk calls outcomes
  pub stamp : new.stamp ≡ stamp_after_outcomes old.stamp (map model_outcome outcomes)
  -- The stamp kept is the last stamp of the base, if it was so before.
  pub last : KeepsLastStamp g old new (map model_call calls) (map model_outcome outcomes)

-- A stream with these bytes was served as by any desk (`DeskServesStream`), and the stamp was kept.
pub record StampedDeskServesStream {S C : Type 0} (g : Ghosts S) (gives : C → ℕ → C → Type 0) (bytes : StreamBytes) (clock : C) (old : StampedDesk S)
    (ended : Result ℕ ServeFault) (later : C) (new : StampedDesk S) : Type 0 where
  pub served : DeskServesStream g gives bytes clock old.desk ended later new.desk
  pub stamped : IsSomeStampedRun g old new
