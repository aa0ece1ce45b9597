-- The replies to the requests of a stream, in order, for any type `B` of bases and calls over it.
use Rattle.std.specs.Prelude.{◌≡◌, ℕ, ◌+◌, List, [], ◌∷◌, ◌++◌, Bool, true, false, ◌||◌, ◌==◌}
use Rattle.brk_money.specs.Spelling.{Text}
use Rattle.brk_model.specs.Run.{Call, Do, Ask, Outcome}
use Rattle.brk_model_http.specs.Asked.{RequestParsers, RequestDemand, ResponseOnly, DeskCall, demand_of_request}
use Rattle.brk_model_http.specs.Found.{Request, RequestReading, NoBytesLeft, Unreadable, CompleteRequest, ReadsFirstRequest}
use Rattle.brk_model_http.specs.Replies.{Response, FromProblem, FromOutcome, is_fault_response, reply_text}

-- The greatest number of requests that are answered on one stream.
abbrev pub most_requests_per_stream : ℕ
most_requests_per_stream = 1000

-- A relation: on the first base and at the clock reading, the call may have the outcome and lead to
-- the second base.
abbrev pub CallRelation : Type 0 → Type 1
CallRelation B = B → ℕ → Call → Outcome → B → Type 0

-- The call takes the clock readings `taken`: exactly `now` for a command, none for a query.
abbrev pub TakesClockReadings : Call → ℕ → List ℕ → Type 0
TakesClockReadings (Do command key) now taken = taken ≡ now ∷ []
TakesClockReadings (Ask query) now taken = taken ≡ []

-- The demand on `base` has the response `response`, takes the clock readings `taken`, and results
-- in the base `after`. The response to a call is an outcome that `does` allows with `after`, for a
-- command at the clock reading that it takes, for a query, which takes none, at some clock reading.
-- A response without a call is as stated; no clock reading is taken and the base is unchanged.
abbrev pub IsResponseToDemand : {B : Type 0} → CallRelation B → RequestDemand → B → List ℕ → Response → B → Type 0
IsResponseToDemand does (ResponseOnly said) base taken response after = (response ≡ said) × (taken ≡ []) × (after ≡ base)
IsResponseToDemand does (DeskCall call) base taken response after =
    (now : ℕ) × (outcome : Outcome) × (response ≡ FromOutcome outcome) × TakesClockReadings call now taken × does base now call outcome after

-- The state of a stream after a reply: finished, or continued with the bytes that remain.
pub data StreamState : Type 0 where
  Finished : StreamState
  Continues : Text → StreamState

-- The state of a stream after a reply: finished after the last (`true`), otherwise `rest` is left.
abbrev pub stream_after_reply : Bool → Text → StreamState
stream_after_reply true rest = Finished
stream_after_reply false rest = Continues rest

-- The effect of a request: base before it, clock readings taken, reply, state and base after it.
pub record RequestEffect (B : Type 0) : Type 0 where
  pub base : B
  pub moments : List ℕ
  pub reply : Text
  pub next : StreamState
  pub after : B

-- With the parsers `forms` and the calls `does`, `request` has the effect `effect`, after `n`
-- earlier requests. The stream ends if the request is number `most_requests_per_stream` or asks for
-- it, or if the response is a fault; otherwise it continues with the bytes `rest`.
pub record IsEffectOfRequest {B : Type 0} (forms : RequestParsers) (does : CallRelation B) (n : ℕ) (request : Request) (rest : Text)
    (effect : RequestEffect B) : Type 0 where
  pub response : Response
  pub closes : Bool
  pub responds : IsResponseToDemand does (demand_of_request forms request) effect.base effect.moments response effect.after
  pub last : closes ≡ ((n + 1 == most_requests_per_stream) || request.closes || is_fault_response response)
  pub bytes : effect.reply ≡ reply_text response closes
  pub follows : effect.next ≡ stream_after_reply closes rest

-- The reading of a request has the effect `effect`, after `n` earlier requests. A problem is
-- answered, ends the stream, takes no clock reading and changes no base. False if no byte is left.
abbrev pub IsEffectOfReading : {B : Type 0} → RequestParsers → CallRelation B → ℕ → RequestReading → RequestEffect B → Type 0
IsEffectOfReading forms does n NoBytesLeft effect = ⊥
IsEffectOfReading forms does n (Unreadable problem) effect =
    (effect.reply ≡ reply_text (FromProblem problem) true) × (effect.next ≡ Finished) × (effect.moments ≡ []) × (effect.after ≡ effect.base)
IsEffectOfReading forms does n (CompleteRequest request rest) effect = IsEffectOfRequest forms does n request rest effect

-- The request at the front of `input`, or the problem for which it cannot be read, has the effect
-- `effect`, after `n` earlier requests of the stream. False if `input` is empty.
pub record IsEffectOfFirstRequest {B : Type 0} (forms : RequestParsers) (does : CallRelation B) (n : ℕ) (input : Text)
    (effect : RequestEffect B) : Type 0 where
  pub found : RequestReading
  pub finds : ReadsFirstRequest input found
  pub replied : IsEffectOfReading forms does n found effect

-- The texts are exactly the replies to the rest of a stream in the given state, after `n` earlier
-- requests, in sequence; none if it is finished or no byte is left. The requests take the clock
-- readings `moments`, in sequence, and lead from `base` to `after`.
abbrev pub AreRepliesOfStream : {B : Type 0} → RequestParsers → CallRelation B → ℕ → StreamState → B → List ℕ → List Text → B → Type 0
AreRepliesOfStream forms does n Finished base moments replies after = (replies ≡ []) × (moments ≡ []) × (after ≡ base)
AreRepliesOfStream forms does n (Continues input) base moments [] after = ReadsFirstRequest input NoBytesLeft × (moments ≡ []) × (after ≡ base)
AreRepliesOfStream {B} forms does n (Continues input) base moments (reply ∷ replies) after =
    (taken : List ℕ) × (more : List ℕ) × (next : StreamState) × (mid : B)
    × (moments ≡ taken ++ more)
    × IsEffectOfFirstRequest forms does n input (record { base = base; moments = taken; reply = reply; next = next; after = mid })
    × AreRepliesOfStream forms does (n + 1) next mid more replies after

-- The texts are the replies to the first requests of `input`, after `n` earlier requests, in
-- sequence; none of them ends the stream, on which the bytes `rest` are left. The requests take the
-- clock readings `moments`, in sequence, and lead from `base` to `after`.
abbrev pub AreFirstReplies : {B : Type 0} → RequestParsers → CallRelation B → ℕ → Text → B → List ℕ → List Text → Text → B → Type 0
AreFirstReplies forms does n input base moments [] rest after = (rest ≡ input) × (moments ≡ []) × (after ≡ base)
AreFirstReplies {B} forms does n input base moments (reply ∷ replies) rest after =
    (taken : List ℕ) × (more : List ℕ) × (left : Text) × (mid : B)
    × (moments ≡ taken ++ more)
    × IsEffectOfFirstRequest forms does n input (record { base = base; moments = taken; reply = reply; next = Continues left; after = mid })
    × AreFirstReplies forms does (n + 1) left mid more replies rest after
