-- The effect of serving a stream, and a peer, on a desk, on a clock, and on what the peer receives.
use Rattle.std.specs.Prelude.{◌<◌, ◌≤◌, ℕ, IfErr, IfOk, IfSome, List, Option, Result, length, map}
use Rattle.sqlite_trees.specs.declared.store.Store.{Ghosts}
use Rattle.sqlite.specs.Held.{Held, state}
use Rattle.sqlite.specs.State.{HasCleanDisk}
use Rattle.brk_money.specs.Spelling.{Text}
use Rattle.brk_store_transactions.specs.Audited.{Represents}
use Rattle.brk_desk.specs.Answers.{model_outcome}
use Rattle.brk_desk.specs.Commands.{model_call}
use Rattle.brk_desk.specs.Runs.{IsRunWithOutcomes}
use Rattle.brk_desk.specs.declared.call.Call.{Call}
use Rattle.brk_desk.specs.declared.call.Outcome.{Outcome}
use Rattle.brk_model.specs.Run.{IsOutcomeOfCall}
use Rattle.brk_model_http.specs.Asked.{model_parsers}
use Rattle.brk_model_http.specs.Stream.{most_requests_per_stream}
use Rattle.brk_http_engine.specs.Promises.{ReadsClockForCalls, StreamMatchesScript, StreamRefinesModel}
use Rattle.brk_http_engine.specs.Limits.{call_limit_of_stream}
use Rattle.brk_http_engine.specs.Peers.{PeerRelation, ServesPeer, StreamBytes}
use Rattle.brk_io.specs.Span.{ClockAndWriterChange}
use Rattle.brk_io.specs.declared.stream_fault.ServeFault.{ServeFault}

-- A stream that ended with `ended` turned the desk from `old` to `new` only by a sequence of its
-- calls, with their outcomes, and the clock from `clock` to `later` only by one reading for each
-- command among them. There are at most 1,000 replies, fewer before a fault, and at most one call
-- for each, and one more after a fault of memory or of the writer.
pub record ServesStreamByCalls {S C : Type 0} (g : Ghosts S) (gives : C → ℕ → C → Type 0) (clock : C) (old : Held S) (later : C) (new : Held S)
    (ended : Result ℕ ServeFault) : Type 0 where
  pub calls : List (ℕ × Call)
  pub outcomes : List Outcome
  pub run : IsRunWithOutcomes g old new calls outcomes
  -- Each command is called at the next reading of the clock, which is not read otherwise.
  pub reads_clock : ReadsClockForCalls gives clock (map model_call calls) later
  -- At most one call for each reply, and one more after a fault of memory or of the writer.
  pub few : length calls ≤ call_limit_of_stream ended
  -- At most 1,000 replies, and fewer before a fault.
  pub within : IfOk ended (λ count. count ≤ most_requests_per_stream)
  pub early : IfErr ended (λ fault. fault.done < most_requests_per_stream)

-- The change of the clock from `clock` to `later`, and of what the peer received of the stream.
abbrev pub change_of_stream : {C : Type 0} → StreamBytes → C → C → ClockAndWriterChange C
change_of_stream bytes clock later = record { clock = clock; later = later; old = bytes.before; new = bytes.after }

-- A stream with these bytes was served, with the result `ended`. Whatever they are, the desk and the
-- clock changed only by a sequence of calls (`ServesStreamByCalls`). If those that the peer sends are
-- specified, its requests determine the calls, the number of replies and the bytes that it received.
pub record DeskServesStream {S C : Type 0} (g : Ghosts S) (gives : C → ℕ → C → Type 0) (bytes : StreamBytes) (clock : C) (old : Held S)
    (ended : Result ℕ ServeFault) (later : C) (new : Held S) : Type 0 where
  pub by_calls : ServesStreamByCalls g gives clock old later new ended
  -- The requests make exactly these calls, and the replies follow from their outcomes.
  pub matched : IfSome bytes.sent (λ input. (calls : List (ℕ × Call)) × (outcomes : List Outcome) × IsRunWithOutcomes g old new calls outcomes
      × StreamMatchesScript model_parsers gives input (map model_call calls, map model_outcome outcomes) (change_of_stream bytes clock later) ended)
  -- For every base that the desk represented, the outcomes equal those of the model from this base.
  -- Vacuous if the disk assumption fails.
  pub refines_model : IfSome bytes.sent (λ input. StreamRefinesModel (λ desk. HasCleanDisk (state g desk)) (λ desk. Represents g desk) model_parsers
      IsOutcomeOfCall gives input old new (change_of_stream bytes clock later) ended)

-- The peer was served by the desk, with the result `ended`, as `DeskServesStream` says of the bytes
-- that it sends and has received; or its stream could not be prepared (`ServesPeer`).
abbrev pub DeskServesPeer : {S C P : Type 0} → Ghosts S → (C → ℕ → C → Type 0) → (P → Option Text) → (P → Option Text) → PeerRelation C (Held S) P
DeskServesPeer {S} {C} g gives sends received =
    ServesPeer {C = C} {D = Held S} (λ bytes clock old ended later new. DeskServesStream g gives bytes clock old ended later new) sends received
