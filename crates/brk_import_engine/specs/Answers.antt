-- The answers to the rows of a batch, and their effect on the desk.
--
-- Parameters of the traits `Rows` and `Clock`: `meets_disk_assumption desk`; `represents desk
-- base`; `crash_exposes_only desk base other`, a crash exposes one of these two bases; `acts old
-- now call outcome new`, a call turns `old` into `new`; `form`, the parser of a row; `step`, the
-- model's step for a row; `gives clock moment later`, a reading of the clock.
use Rattle.std.specs.Prelude.{◌≡◌, ◌⊎◌, ℕ, Bool, true, false, Ok, Err}
use Rattle.brk_money.specs.Spelling.{Text}
use Rattle.brk_money.specs.declared.fault.Fault.{Fault}
use Rattle.brk_money.specs.declared.fault.Fault.TheVariants.{Memory}
use Rattle.brk_model.specs.Answers.{RowStep}
use Rattle.brk_model.specs.Commands.{Answer, Refused}
use Rattle.brk_model.specs.Forms.{ReadResult}
use Rattle.brk_model.specs.Records.{Key}
use Rattle.brk_model.specs.Run.{Did, Failed}
use Rattle.brk_import_engine.specs.Script.{RowCallRelation}

-- The call with `command` under `key` at `now` refines `step`: for every base that the desk
-- represented, `step` has this answer, and the desk represents the base after it. Vacuous if the
-- disk assumption (`meets_disk_assumption`) fails after the call.
abbrev pub CallRefinesStep : {D S X : Type 0} → (D → Type 0) → (D → S → Type 0) → RowStep S X → D → D → ℕ → X → Key → Answer → Type 0
CallRefinesStep {S = S} meets_disk_assumption represents step old new now command key answer =
    meets_disk_assumption new → (base : S) → represents old base → (after : S) × represents new after × (step base now command key ≡ (answer, after))

-- The desk represents after the call (`new`) every base that it represented before (`old`). Vacuous
-- if the disk assumption (`meets_disk_assumption`) fails after the call.
abbrev pub PreservesRepresentedBases : {D S : Type 0} → (D → Type 0) → (D → S → Type 0) → D → D → Type 0
PreservesRepresentedBases {S = S} meets_disk_assumption represents old new = meets_disk_assumption new → (base : S) → represents old base → represents new base

-- The desk represents `base`, and if the Boolean argument is true, a crash exposes only this base.
abbrev pub RepresentsDurably : {D S : Type 0} → (D → S → Type 0) → (D → S → S → Type 0) → Bool → D → S → Type 0
RepresentsDurably represents crash_exposes_only false desk base = represents desk base
RepresentsDurably represents crash_exposes_only true desk base = represents desk base × crash_exposes_only desk base base

-- Crash safety of a failed call: if a crash before exposed only a represented base, one after it
-- exposes only this or the base after `command`. Vacuous if the disk assumption fails after it.
abbrev pub IsFailedCallCrashSafe : {D S X : Type 0} → (D → Type 0) → (D → S → Type 0) → (D → S → S → Type 0) → RowStep S X → D → D → ℕ → X → Key → Type 0
IsFailedCallCrashSafe {S = S} meets_disk_assumption represents crash_exposes_only step old new now command key =
    meets_disk_assumption new → (base : S) → represents old base → crash_exposes_only old base base → crash_exposes_only new base (step base now command key).1

-- Row `n` of `batch` has the answer `answer`; the desk changed from `old` to `new`, the clock from
-- `clock` to `later`. A malformed row is refused, and both are unchanged. A well-formed row reads
-- the clock once and is one call of the desk, under its key, which refines `step` for both values
-- of the Boolean argument of `represents` (`RepresentsDurably`).
abbrev pub RowHasAnswer : {D S X C : Type 0} → (D → Type 0) → (Bool → D → S → Type 0) → RowCallRelation D X → RowStep S X → (C → ℕ → C → Type 0) → ReadResult X
    → Text → ℕ → Answer → D → D → C → C → Type 0
RowHasAnswer meets_disk_assumption represents acts step gives (Err refusal) batch n answer old new clock later =
    (answer ≡ Refused refusal) × (new ≡ old) × (later ≡ clock)
RowHasAnswer meets_disk_assumption represents acts step gives (Ok command) batch n answer old new clock later =
    (moment : ℕ) × gives clock moment later × acts old moment (command, record { batch = batch; n = n }) (Did answer) new
    × ((sure : Bool) → CallRefinesStep meets_disk_assumption (represents sure) step old new moment command (record { batch = batch; n = n }) answer)

-- Row `n` of `batch` failed with `fault`: it is `Memory`, desk and clock unchanged; or the row read
-- the clock once and was one failed call of the desk, under its key (`IsFailedCallCrashSafe`).
abbrev pub RowFailsWith : {D S X C : Type 0} → (D → Type 0) → (D → S → Type 0) → (D → S → S → Type 0) → RowCallRelation D X → RowStep S X → (C → ℕ → C → Type 0)
    → ReadResult X → Text → ℕ → Fault → D → D → C → C → Type 0
RowFailsWith {X = X} meets_disk_assumption represents crash_exposes_only acts step gives read batch n fault old new clock later =
    ((new ≡ old) × (later ≡ clock) × (fault ≡ Memory))
    ⊎ ((moment : ℕ) × (command : X) × (read ≡ Ok command) × gives clock moment later
    × acts old moment (command, record { batch = batch; n = n }) (Failed fault) new
    × IsFailedCallCrashSafe meets_disk_assumption represents crash_exposes_only step old new moment command (record { batch = batch; n = n }))
