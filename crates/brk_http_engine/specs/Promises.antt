-- The guarantees of a stream: for any desk, and for the bases that the desk represents.
use Rattle.std.specs.Prelude.{◌≡◌, ◌≤◌, ℕ, List, [], ◌∷◌, Result, length}
use Rattle.brk_money.specs.Spelling.{Text}
use Rattle.brk_model.specs.Run.{Ask, Call, Do, Outcome}
use Rattle.brk_io.specs.Calls.{IsCallSequence}
use Rattle.brk_io.specs.Span.{ClockAndWriterChange, environment_change_with_bases}
use Rattle.brk_http_engine.specs.Turns.{IsStreamResult}
use Rattle.brk_io.specs.declared.stream_fault.ServeFault.{ServeFault}
use Rattle.brk_model_http.specs.Asked.{RequestParsers}
use Rattle.brk_model_http.specs.Stream.{CallRelation}

-- The desk changed from `old` to `new` only by a sequence of calls, at most `most` of them.
abbrev pub ChangesOnlyByCalls : {D : Type 0} → CallRelation D → ℕ → D → D → Type 0
ChangesOnlyByCalls acts most old new =
    (calls : List (ℕ × Call)) × (outcomes : List Outcome) × IsCallSequence acts old calls outcomes new × (length calls ≤ most)

-- A command reads the clock once, and `now` is this reading; a query does not read it.
abbrev pub ReadsClockForCall : {C : Type 0} → (C → ℕ → C → Type 0) → C → ℕ → Call → C → Type 0
ReadsClockForCall gives clock now (Do command key) later = gives clock now later
ReadsClockForCall gives clock now (Ask query) later = later ≡ clock

-- The clock changed from `clock` to `later` only by the readings of the calls, in order.
abbrev pub ReadsClockForCalls : {C : Type 0} → (C → ℕ → C → Type 0) → C → List (ℕ × Call) → C → Type 0
ReadsClockForCalls gives clock [] later = later ≡ clock
ReadsClockForCalls {C} gives clock (call ∷ calls) later =
    (mid : C) × ReadsClockForCall gives clock call.0 call.1 mid × ReadsClockForCalls gives mid calls later

-- The relation of a call of a desk, with what it reads of the clock: a state is a desk and a clock.
abbrev pub CallWithClock : {D C : Type 0} → CallRelation D → (C → ℕ → C → Type 0) → CallRelation (D × C)
CallWithClock acts gives old now call outcome new = acts old.0 now call outcome new.0 × ReadsClockForCall gives old.1 now call new.1

-- The type of a pair: a list of calls with their timestamps, and the list of their outcomes.
abbrev pub CallScript : Type 0
CallScript = List (ℕ × Call) × List Outcome

-- The relation of a call of a desk that is a script: `call` at `now` and `outcome` are the first of
-- `script`, and `rest` is the script without both. False if no call or no outcome is left.
abbrev pub IsNextScriptedCall : CallRelation CallScript
IsNextScriptedCall script now call outcome rest = (script.0 ≡ (now, call) ∷ rest.0) × (script.1 ≡ outcome ∷ rest.1)

-- The stream `input` makes exactly the calls of `script`, in order; the script has one outcome for
-- each, and the replies and the result follow from these.
abbrev pub StreamMatchesScript : {C : Type 0} → RequestParsers → (C → ℕ → C → Type 0) → Text → CallScript → ClockAndWriterChange C → Result ℕ ServeFault
    → Type 0
StreamMatchesScript forms gives input script outside result =
    IsStreamResult forms IsNextScriptedCall gives input (environment_change_with_bases script ([], []) outside) result

-- The stream `input` refines the model: for every base that the desk represented, the replies and
-- the result are possible in the model from this base by calls that satisfy `does`, and the desk
-- represents the base after them. Vacuous if the disk assumption fails (`meets_disk_assumption`).
abbrev pub StreamRefinesModel : {D B C : Type 0} → (D → Type 0) → (D → B → Type 0) → RequestParsers → CallRelation B → (C → ℕ → C → Type 0) → Text → D → D
    → ClockAndWriterChange C → Result ℕ ServeFault → Type 0
StreamRefinesModel {B = B} meets_disk_assumption represents forms does gives input first last outside result =
    meets_disk_assumption last → (base : B) → represents first base
    → (after : B) × represents last after × IsStreamResult forms does gives input (environment_change_with_bases base after outside) result
