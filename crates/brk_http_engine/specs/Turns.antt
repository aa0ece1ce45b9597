-- The effects of an exchange of a stream, in which one request is read, executed and answered, and
-- of a whole stream, for each way in which they end.
--
-- Parameters: `forms`, the parsers of rows and queries; `does base now call outcome after`, a call
-- leads from `base` to `after`; `gives clock moment later`, a clock reading; `n`, the number of
-- earlier replies; `input`, the bytes not yet answered; `span`, base, clock and writer's content
-- before and after. Output conditions (`Appends`) are vacuous if the content before is unknown.
use Rattle.std.specs.Prelude.{◌≡◌, ◌⊎◌, ◌==◌, ◌||◌, Bool, ℕ, ◌+◌, List, [], Option, Some, Result, Ok, Err, length, take}
use Rattle.std.specs.Io.KnownBytes.{Appends}
use Rattle.std.specs.List.{concat}
use Rattle.brk_money.specs.Spelling.{Text}
use Rattle.brk_model_http.specs.Asked.{RequestParsers, demand_of_request}
use Rattle.brk_model_http.specs.Found.{Request, ReadsFirstRequest, NoBytesLeft}
use Rattle.brk_model_http.specs.Replies.{Response, is_fault_response, reply_text}
use Rattle.brk_model_http.specs.Stream.{CallRelation, IsResponseToDemand, most_requests_per_stream, StreamState}
use Rattle.brk_model_http.specs.Stream.{Finished, Continues, IsEffectOfFirstRequest, AreRepliesOfStream, AreFirstReplies}
use Rattle.brk_io.specs.Span.{IsUnchangedEnvironment, EnvironmentChange}
use Rattle.brk_io.specs.Moments.{ClockReturnsMomentsInSequence}
use Rattle.brk_http_engine.specs.declared.exchanges.ExchangeResult.{ExchangeResult}
use Rattle.brk_http_engine.specs.declared.exchanges.ExchangeResult.TheVariants as turn
use Rattle.brk_io.specs.declared.stream_fault.FaultKind.{FaultKind}
use Rattle.brk_io.specs.declared.stream_fault.FaultKind.TheVariants as kinds
use Rattle.brk_io.specs.declared.stream_fault.ServeFault.{ServeFault}

-- After `n` replies the request at the front of `input` has the reply `reply`: it was executed, or
-- answered without a call because a check failed, or it could not be read. After it the stream has
-- the state `next`: finished, or continuing with the rest of the input. The clock was read once for
-- each of `taken`. It is not stated that the reply was written.
pub record ExchangeHasReply {B C : Type 0} (forms : RequestParsers) (does : CallRelation B) (gives : C → ℕ → C → Type 0) (n : ℕ) (input : Text)
    (span : EnvironmentChange B C) (reply : Text) (next : StreamState) : Type 0 where
  pub taken : List ℕ
  -- The clock returned these timestamps, in order.
  pub moments : ClockReturnsMomentsInSequence gives span.clock taken span.later
  -- In the model it is the effect of the first request of the input.
  pub one : IsEffectOfFirstRequest forms does n input (record { base = span.base; moments = taken; reply = reply; next = next; after = span.after })

-- After `n` replies the request was executed, or answered without a call of the desk because a
-- check failed, and `reply` is its reply: the last (`closes`) if it reaches the limit of replies,
-- if the request asks to close the stream, or if the desk failed. The clock was read once for each
-- of `taken`. It is not stated that the reply was written.
pub record ExecutesRequest {B C : Type 0} (forms : RequestParsers) (does : CallRelation B) (gives : C → ℕ → C → Type 0) (n : ℕ) (request : Request)
    (span : EnvironmentChange B C) (closes : Bool) (reply : Text) : Type 0 where
  pub taken : List ℕ
  pub response : Response
  -- The clock returned these timestamps, in order.
  pub moments : ClockReturnsMomentsInSequence gives span.clock taken span.later
  -- The model's response to the call of the request, or its response without a call.
  pub responds : IsResponseToDemand does (demand_of_request forms request) span.base taken response span.after
  pub last : closes ≡ ((n + 1 == most_requests_per_stream) || request.closes || is_fault_response response)
  pub bytes : reply ≡ reply_text response closes

-- After `n` replies the exchange completed. `Ended`: no input was left, nothing changed. `Closed`:
-- the last reply of the stream was written. `Open`: the reply was written, `left` is the rest.
abbrev pub ExchangeCompletesWith : {B C : Type 0} → RequestParsers → CallRelation B → (C → ℕ → C → Type 0) → ℕ → Text → EnvironmentChange B C → Option Text
    → ExchangeResult → Type 0
ExchangeCompletesWith forms does gives n input span left turn.Ended = ReadsFirstRequest input NoBytesLeft × IsUnchangedEnvironment span
ExchangeCompletesWith forms does gives n input span left turn.Closed =
    (reply : Text) × ExchangeHasReply forms does gives n input span reply Finished × Appends span.old span.new reply
ExchangeCompletesWith forms does gives n input span left turn.Open =
    (reply : Text) × (rest : Text) × ExchangeHasReply forms does gives n input span reply (Continues rest) × Appends span.old span.new reply
    × (left ≡ Some rest)

-- The exchange after `n` replies failed. `Read`: desk, clock and output are unchanged. `Memory`:
-- nothing was written, and nothing changed or the request at the front has a reply
-- (`ExchangeHasReply`). `Write`: it has a reply, and a prefix of this was written, perhaps empty or
-- all of it. Conditions on the output are vacuous if the writer's content before is unknown.
abbrev pub ExchangeFailsWith : {B C : Type 0} → RequestParsers → CallRelation B → (C → ℕ → C → Type 0) → ℕ → Text → EnvironmentChange B C → FaultKind → Type 0
ExchangeFailsWith forms does gives n input span kinds.Read = IsUnchangedEnvironment span
ExchangeFailsWith forms does gives n input span kinds.Memory =
    IsUnchangedEnvironment span
    ⊎ ((reply : Text) × (next : StreamState) × ExchangeHasReply forms does gives n input span reply next × Appends span.old span.new [])
ExchangeFailsWith forms does gives n input span kinds.Write =
    (reply : Text) × (next : StreamState) × (k : ℕ) × ExchangeHasReply forms does gives n input span reply next × Appends span.old span.new (take k reply)

-- The stream `input` completed: exactly its `count` replies were written, which in the model are
-- the replies by calls from the base before to the base after, and the clock was read once for each
-- of `moments`. Vacuous on the output if the writer's content before is unknown.
pub record StreamCompletesWith {B C : Type 0} (forms : RequestParsers) (does : CallRelation B) (gives : C → ℕ → C → Type 0) (input : Text)
    (span : EnvironmentChange B C) (count : ℕ) : Type 0 where
  pub moments : List ℕ
  pub replies : List Text
  pub taken : ClockReturnsMomentsInSequence gives span.clock moments span.later
  pub replied : AreRepliesOfStream forms does 0 (Continues input) span.base moments replies span.after
  pub written : Appends span.old span.new (concat replies)
  pub counted : count ≡ length replies

-- A fault ended the stream `input`: its first `count` replies, as in the model, were written, and
-- the next exchange failed with `kind` (`ExchangeFailsWith`). The clock was read once for each of
-- the timestamps `moments` of these replies.
pub record StreamFailsWith {B C : Type 0} (forms : RequestParsers) (does : CallRelation B) (gives : C → ℕ → C → Type 0) (input : Text)
    (span : EnvironmentChange B C) (kind : FaultKind) (count : ℕ) : Type 0 where
  -- The timestamps and the bytes of the first replies.
  pub moments : List ℕ
  pub replies : List Text
  -- The input, the desk's base, the clock and the writer's content after the first replies.
  pub rest : Text
  pub mid : B
  pub later : C
  pub between : Option Text
  pub taken : ClockReturnsMomentsInSequence gives span.clock moments later
  -- In the model these are the first replies of the stream.
  pub begun : AreFirstReplies forms does 0 input span.base moments replies rest mid
  pub written : Appends span.old between (concat replies)
  -- The next exchange failed with this fault.
  pub failed : ExchangeFailsWith forms does gives (length replies) rest
      (record { base = mid; after = span.after; clock = later; later = span.later; old = between; new = span.new }) kind
  pub counted : count ≡ length replies

-- The result of the stream `input`: the number of its replies, which were all written
-- (`StreamCompletesWith`), or a fault with the effect of `StreamFailsWith`.
abbrev pub IsStreamResult : {B C : Type 0} → RequestParsers → CallRelation B → (C → ℕ → C → Type 0) → Text → EnvironmentChange B C → Result ℕ ServeFault
    → Type 0
IsStreamResult forms does gives input span (Ok count) = StreamCompletesWith forms does gives input span count
IsStreamResult forms does gives input span (Err fault) = StreamFailsWith forms does gives input span fault.kind fault.done
