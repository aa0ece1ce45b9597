-- What the job that serves does with a desk in a file: each stream is served by the desk of the
-- stream before or, if the fault `Store` was found in between, by that of the file opened again,
-- whose last stamp is not before that of the last reply. `opens` and `closes` are relations of the
-- files (`DeskFiles`), `gives` that of a clock reading.
use Rattle.std.specs.Prelude.{◌≡◌, ◌⊎◌, ◌<◌, ℕ, zero, suc, Bool, true, false, List, [], ◌∷◌, Option, None, Result, Ok, Err}
use Rattle.std.specs.Borrow.{Bor}
use Rattle.sqlite_trees.specs.declared.store.Store.{Ghosts}
use Rattle.sqlite.specs.Held.{Held, state}
use Rattle.sqlite.specs.State.{HasCleanDisk}
use Rattle.brk_cli_exit.specs.Ending.{ending_after_close}
use Rattle.brk_cli_exit.specs.declared.ending.Ending.{Ending}
use Rattle.brk_cli_exit.specs.declared.ending.Ending.TheVariants as ending
use Rattle.brk_desk.specs.Runs.{IsRunWithOutcomes, IsSomeDeskRun}
use Rattle.brk_desk.specs.declared.call.Call as made
use Rattle.brk_desk.specs.declared.call.Call.TheVariants as call
use Rattle.brk_desk.specs.declared.call.Outcome as came
use Rattle.brk_desk.specs.declared.call.Outcome.TheVariants as outcome
use Rattle.brk_http_stamps.specs.Stamped.{IsSomeStampedRun}
use Rattle.brk_http_stamps.specs.Stamps.{IsNotBefore}
use Rattle.brk_http_stamps.specs.declared.stamped_desk.StampedDesk.{StampedDesk}
use Rattle.brk_io.specs.Readings.{ReturnsReading, program_clock}
use Rattle.brk_model.specs.Base.{Base}
use Rattle.brk_money.specs.declared.fault.Fault.{Fault}
use Rattle.brk_money.specs.declared.fault.Fault.TheVariants as fault
use Rattle.brk_money.specs.declared.fault.StoreFailed.{StoreFailed}
use Rattle.brk_store_transactions.specs.Audited.{Represents}
use Rattle.brk_store_transactions.specs.Holds.{ReadPost}
use Rattle.brk_cli_jobs.specs.Files.{CloseRelation, OpenRelation}
use Rattle.brk_cli_jobs.specs.Jobs.{ServesListener}

-- The fault is `Store`.
abbrev pub is_store : Fault → Bool
is_store fault.Store = true
is_store fault.Memory = false
is_store (fault.Damaged c) = false

-- The result is the fault `Store`.
abbrev pub has_store_fault : {A : Type 0} → Result A Fault → Bool
has_store_fault (Ok answer) = false
has_store_fault (Err fault) = is_store fault

-- The outcome is the fault `Store`.
abbrev pub is_store_fault : came.Outcome → Bool
is_store_fault (outcome.Failed fault) = is_store fault
is_store_fault other = false

-- The call is a query.
abbrev pub IsQuery : made.Call → Type 0
IsQuery (call.Ask query) = Unit {0}
IsQuery (call.Do command key) = ⊥

-- One query turned the desk from `old` to `new`. `failed`: its outcome is the fault `Store`.
pub record AsksDesk {S : Type 0} (g : Ghosts S) (old new : Held S) (failed : Bool) : Type 0 where
  pub time : ℕ
  pub query : made.Call
  pub is_query : IsQuery query
  pub outcome : came.Outcome
  pub run : IsRunWithOutcomes g old new ((time, query) ∷ []) (outcome ∷ [])
  pub fault : failed ≡ is_store_fault outcome

-- The last stamp of the store `old`, which is `new` after it, was read with this result.
abbrev pub ReadsLastStamp : {S : Type 0} → Ghosts S → Held S → Held S → Result (Option ℕ) StoreFailed → Type 0
ReadsLastStamp g old new result = ReadPost g old new result (λ last t. last ≡ t.last)

-- The last stamp of the store `old`, which is `new` after it, was read. `Ok`: it is `last`, and not
-- before `kept`. `Err`: it could not be read, or is before `kept`.
abbrev pub ReadsStampFrom : {S : Type 0} → Ghosts S → Option ℕ → Held S → Held S → Result (Option ℕ) StoreFailed → Type 0
ReadsStampFrom g kept old new (Ok last) = ReadsLastStamp g old new (Ok last) × IsNotBefore last kept
ReadsStampFrom g kept old new (Err failed) =
    ReadsLastStamp g old new (Err failed) ⊎ ((last : Option ℕ) × ReadsLastStamp g old new (Ok last) × ¬ IsNotBefore last kept)

-- The desk `desk` is that of the store `store`, with the last stamp that was read of it, which is
-- not before `kept`, the stamp of the last reply.
pub record ResumesFrom {S : Type 0} (g : Ghosts S) (kept : Option ℕ) (store : Held S) (desk : StampedDesk S) : Type 0 where
  pub read : ReadsLastStamp g store desk.desk (Ok desk.stamp)
  pub not_before : IsNotBefore desk.stamp kept
  -- The base that the desk answers from has this last stamp: each base that the store represented,
  -- which the desk represents too. Vacuous if the disk assumption fails.
  pub base : HasCleanDisk (state g desk.desk) → (base : Base) → Represents g store base
      → Represents g desk.desk base × (base.last ≡ desk.stamp) × IsNotBefore base.last kept

-- The desk `desk` is that of the store `store` before the first stream: with its last stamp, or
-- without one if it could not be read.
abbrev pub BeginsServing : {S : Type 0} → Ghosts S → Held S → StampedDesk S → Type 0
BeginsServing g store desk =
    ResumesFrom g None store desk ⊎ ((desk.stamp ≡ None) × ((failed : StoreFailed) × ReadsLastStamp g store desk.desk (Err failed)))

-- The store `store` was found, after a reply with the stamp `kept`. `Ok`: its desk (`ResumesFrom`).
-- `Err`: the fault is `Store`, since its last stamp could not be read, or is before `kept`, and the
-- store was closed, with any result.
abbrev pub ResumesOrCloses : {S : Type 0} → Ghosts S → CloseRelation S → Option ℕ → Held S → Result (StampedDesk S) Fault → Type 0
ResumesOrCloses g closes kept store (Ok desk) = ResumesFrom g kept store desk
ResumesOrCloses {S} g closes kept store (Err cause) =
    (cause ≡ fault.Store)
    × ((left : Held S) × ((failed : StoreFailed) × ReadsStampFrom g kept store left (Err failed)) × ((closed : Result (Unit {0}) Fault) × closes left closed))

-- The file at the path was opened, closed and opened again. `Ok`: with this store. `Err`: an open
-- or the close failed with this fault.
abbrev pub OpensFileAgain : {S : Type 0} → OpenRelation S → CloseRelation S → List ℕ → Result (Held S) Fault → Type 0
OpensFileAgain {S} opens closes path (Ok store) = (found : Held S) × opens path (Ok found) × closes found (Ok tt) × opens path (Ok store)
OpensFileAgain {S} opens closes path (Err fault) = opens path (Err fault) ⊎ ((found : Held S) × opens path (Ok found) × closes found (Err fault))

-- The file at the path was opened again after a reply with the stamp `kept`. `Ok`: with this desk, of
-- the store that was found. `Err`: it could not be opened, or what was found could not be resumed.
abbrev pub ResumesFile : {S : Type 0} → Ghosts S → OpenRelation S → CloseRelation S → List ℕ → Option ℕ → Result (StampedDesk S) Fault → Type 0
ResumesFile {S} g opens closes path kept (Ok desk) =
    (store : Held S) × OpensFileAgain opens closes path (Ok store) × ResumesFrom g kept store desk
ResumesFile {S} g opens closes path kept (Err fault) =
    OpensFileAgain opens closes path (Err fault)
    ⊎ ((store : Held S) × OpensFileAgain opens closes path (Ok store) × ResumesOrCloses g closes kept store (Err fault))

-- The desk `old` failed with the fault `Store` at a query, was closed, with any result, and its file
-- was opened again (`ResumesFile`).
pub record ReopensDesk {S : Type 0} (g : Ghosts S) (opens : OpenRelation S) (closes : CloseRelation S) (path : List ℕ) (old : StampedDesk S)
    (result : Result (StampedDesk S) Fault) : Type 0 where
  pub last : Held S
  pub asked : AsksDesk g old.desk last true
  pub closed : Result (Unit {0}) Fault
  pub shut : closes last closed
  pub resumed : ResumesFile g opens closes path old.stamp result

-- The desk `old` executed a query without the fault `Store`, and is kept, as the desk `new`.
abbrev pub KeepsDesk : {S : Type 0} → Ghosts S → StampedDesk S → Result (StampedDesk S) Fault → Type 0
KeepsDesk g old (Ok new) = AsksDesk g old.desk new.desk false × (new.stamp ≡ old.stamp)
KeepsDesk g old (Err fault) = ⊥

-- The desk for the next stream: `old` itself, or its file opened again, which may have failed.
abbrev pub ReadiesDesk : {S : Type 0} → Ghosts S → OpenRelation S → CloseRelation S → List ℕ → StampedDesk S → Result (StampedDesk S) Fault → Type 0
ReadiesDesk g opens closes path old result = KeepsDesk g old result ⊎ ReopensDesk g opens closes path old result

-- One stream was served by the desk `old`, with this result, and it became `new`, with the stamp of
-- its last reply.
pub record ServesStamped {S C : Type 0} (g : Ghosts S) (gives : C → ℕ → C → Type 0) (clock later : C) (old new : StampedDesk S)
    (result : Result (Unit {0}) Ending) : Type 0 where
  pub served : ServesListener g gives 1 clock later old.desk new.desk result
  pub stamped : IsSomeStampedRun g old new

-- The desk `desk` served one stream after `old`, with the result `result`, and became `new`.
pub record ServesStream {S C : Type 0} (g : Ghosts S) (opens : OpenRelation S) (closes : CloseRelation S) (gives : C → ℕ → C → Type 0) (path : List ℕ)
    (clock later : C) (old new : StampedDesk S) (result : Result (Unit {0}) Ending) : Type 0 where
  pub desk : StampedDesk S
  pub ready : ReadiesDesk g opens closes path old (Ok desk)
  pub served : ServesStamped g gives clock later desk new result

-- Exactly `count` streams were served in sequence, each by the desk of the stream before or by the
-- desk of the file that was opened again (`ServesStream`). Without streams `new` equals `old`.
abbrev pub ServesInSequence : {S C : Type 0} → Ghosts S → OpenRelation S → CloseRelation S → (C → ℕ → C → Type 0) → List ℕ → ℕ → C → C → StampedDesk S → StampedDesk S
    → Type 0
ServesInSequence g opens closes gives path zero clock later old new = (later ≡ clock) × (new ≡ old)
ServesInSequence {S} {C} g opens closes gives path (suc count) clock later old new =
    (mid : C) × (last : StampedDesk S) × ServesInSequence g opens closes gives path count clock mid old last
    × ServesStream g opens closes gives path mid later last new (Ok tt)

-- The desk `new` was closed with the result `closed`, and the ending is `reached`, or `Open` with
-- the fault of the close if the job was done.
abbrev pub ClosesWithEnding : {S : Type 0} → CloseRelation S → Held S → Ending → Ending → Type 0
ClosesWithEnding closes new reached end = (closed : Result (Unit {0}) Fault) × closes new closed × (end ≡ ending_after_close reached closed)

-- One stream was served by the desk `old`. `Ok`: to its end, and `new` is the desk after it. `Err`:
-- serving failed, and the desk was closed (`ClosesWithEnding`).
abbrev pub ServesStreamOrCloses : {S C : Type 0} → Ghosts S → CloseRelation S → (C → ℕ → C → Type 0) → C → C → StampedDesk S → Result (StampedDesk S) Ending → Type 0
ServesStreamOrCloses g closes gives clock later old (Ok new) = ServesStamped g gives clock later old new (Ok tt)
ServesStreamOrCloses {S} g closes gives clock later old (Err end) =
    (new : StampedDesk S) × (reached : Ending) × ServesStamped g gives clock later old new (Err reached) × ClosesWithEnding closes new.desk reached end

-- After the desk `old` no stream could be served to its end: the file could not be opened again,
-- and the ending is `Open` with the fault; or serving failed, and the desk was closed.
abbrev pub FailsAtStream : {S C : Type 0} → Ghosts S → OpenRelation S → CloseRelation S → (C → ℕ → C → Type 0) → List ℕ → C → StampedDesk S → Ending → Type 0
FailsAtStream {S} {C} g opens closes gives path clock old end =
    ((fault : Fault) × ReadiesDesk g opens closes path old (Err fault) × (end ≡ ending.Open fault))
    ⊎ ((later : C) × (new : StampedDesk S) × (reached : Ending) × ServesStream g opens closes gives path clock later old new (Err reached)
    × ClosesWithEnding closes new.desk reached end)

-- The result of serving the next stream after `old`: the desk `new`, or an end by `FailsAtStream`.
abbrev pub ServesNextStream : {S C : Type 0} → Ghosts S → OpenRelation S → CloseRelation S → (C → ℕ → C → Type 0) → List ℕ → C → C → StampedDesk S
    → Result (StampedDesk S) Ending → Type 0
ServesNextStream g opens closes gives path clock later old (Ok new) = ServesStream g opens closes gives path clock later old new (Ok tt)
ServesNextStream g opens closes gives path clock later old (Err end) = FailsAtStream g opens closes gives path clock old end

-- `count` of `streams` streams were served, `desk` is the desk and `clock` the clock after them. They
-- are all, and the desk was closed; or they are fewer, and `FailsAtStream` holds.
abbrev pub EndsServing : {S C : Type 0} → Ghosts S → OpenRelation S → CloseRelation S → (C → ℕ → C → Type 0) → List ℕ → ℕ → ℕ → C → StampedDesk S → Ending → Type 0
EndsServing g opens closes gives path streams count clock desk end =
    ((count ≡ streams) × ClosesWithEnding closes desk.desk ending.Done end) ⊎ ((count < streams) × FailsAtStream g opens closes gives path clock desk end)

-- The desk is the one before the first stream (`BeginsServing`), or one of the file that was opened
-- again after a reply with some stamp (`ResumesFrom`).
abbrev pub IsNewlyOpened : {S : Type 0} → Ghosts S → OpenRelation S → List ℕ → Held S → StampedDesk S → Type 0
IsNewlyOpened {S} g opens path old desk =
    BeginsServing g old desk ⊎ ((store : Held S) × (kept : Option ℕ) × opens path (Ok store) × ResumesFrom g kept store desk)

-- Only calls of the desk led to the desk `new`, from a newly opened one.
abbrev pub RunsSinceOpening : {S : Type 0} → Ghosts S → OpenRelation S → List ℕ → Held S → StampedDesk S → Type 0
RunsSinceOpening {S} g opens path old new = (first : StampedDesk S) × IsNewlyOpened g opens path old first × IsSomeDeskRun g first.desk new.desk

-- `streams` streams were served in sequence on the store `old`, or serving them failed.
pub record ServesStreamsAndCloses {S C : Type 0} (g : Ghosts S) (opens : OpenRelation S) (closes : CloseRelation S) (gives : C → ℕ → C → Type 0) (path : List ℕ)
    (streams : ℕ) (clock : C) (old : Held S) (end : Ending) : Type 0 where
  -- The desk before the first stream.
  pub first : StampedDesk S
  pub began : BeginsServing g old first
  -- The number of streams that were served to their ends, and the clock and the desk after them.
  pub count : ℕ
  pub later : C
  pub last : StampedDesk S
  pub served : ServesInSequence g opens closes gives path count clock later first last
  -- Since the last opening the desk changed only by calls of the desk.
  pub run : RunsSinceOpening g opens path old last
  pub ended : EndsServing g opens closes gives path streams count later last end

-- The job served its streams from the desk in the file at the path, with the program's clock
-- (`ServesStreamsAndCloses`); or its port could not be opened, and the unchanged desk was closed.
abbrev pub ServesStreamsInFile : {S R : Type 0} → Ghosts S → OpenRelation S → CloseRelation S → Bor R → List ℕ → Option ℕ → ℕ → Held S → Ending → Type 0
ServesStreamsInFile g opens closes machine path at streams old end =
    ClosesWithEnding closes old ending.Net end ⊎ ServesStreamsAndCloses g opens closes ReturnsReading path streams (program_clock machine at) old end
