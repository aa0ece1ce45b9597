-- The request at the front of the bytes that are left on a stream.
use Rattle.std.specs.Prelude.{◌≡◌, ℕ, ◌≤◌, ◌⊎◌, [], Bool, ◌||◌, ◌==◌, map, length, take, drop, nat_lt, if◌then◌else◌, Result, Ok, Err}
use Rattle.httparse.specs.Grammar.{RequestHead, ReadsRequest}
use Rattle.httparse.specs.Spans.{name_and_value}
use Rattle.brk_money.specs.Spelling.{Text}
use Rattle.brk_model_http.specs.Heads.{head_end}
use Rattle.brk_model_http.specs.Fields.{body_length_of_fields, has_connection_close}
use Rattle.brk_model_http.specs.declared.problem.RequestProblem.{RequestProblem}
use Rattle.brk_model_http.specs.declared.problem.RequestProblem.TheVariants.{TooLarge, BadRequest}
use Rattle.brk_model_http.specs.declared.head_end.HeadEnd.{HeadEnd}
use Rattle.brk_model_http.specs.declared.head_end.HeadEnd.TheVariants.{Nothing, TooLong, Cut, At}

-- A request: method, target, body, and `closes`: it asks to close the stream after its reply.
pub record Request : Type 0 where
  pub method : Text
  pub target : Text
  pub closes : Bool
  pub body : Text

-- The result of reading a request at the front of a stream.
pub data RequestReading : Type 0 where
  -- No byte is left.
  NoBytesLeft : RequestReading
  -- No request can be read because of this problem, and the stream ends.
  Unreadable : RequestProblem → RequestReading
  -- A request, and the bytes that are left after it.
  CompleteRequest : Request → Text → RequestReading

-- The greatest number of fields of a request's head; a head with more fields is malformed.
abbrev pub most_head_fields : ℕ
most_head_fields = 100

-- The result of reading a request with the head `h` and the given body length, in bytes, or
-- problem, from the bytes `rest` after the head: unreadable by that problem, or by `BadRequest` if
-- `rest` is shorter than the body; otherwise the body is the front of `rest`, and the bytes after
-- it are left. It asks to close the stream exactly if its HTTP version is 1.0 or
-- `has_connection_close` is true of its fields.
abbrev pub reading_with_body_length : RequestHead → Text → Result ℕ RequestProblem → RequestReading
reading_with_body_length h rest (Err problem) = Unreadable problem
reading_with_body_length h rest (Ok n) =
    if nat_lt (length rest) n then Unreadable BadRequest
    else CompleteRequest (record {
      method = h.method;
      target = h.target;
      closes = (h.minor == 0)
          || has_connection_close (map name_and_value h.fields);
      body = take n rest;
    }) (drop n rest)

-- The result of reading a request with the head `h` from the bytes `rest` after the head: the
-- request and the bytes after its body, or the problem for which it cannot be read.
abbrev pub reading_after_head : RequestHead → Text → RequestReading
reading_after_head h rest = reading_with_body_length h rest (body_length_of_fields (map name_and_value h.fields))

-- The bytes `front` are exactly those of the request head `h`, which is valid in the grammar of
-- `httparse` and has at most `most_head_fields` fields.
abbrev pub IsRequestHead : Text → RequestHead → Type 0
IsRequestHead front h = ReadsRequest front h [] × (length h.fields ≤ most_head_fields)

-- Either `front` is a request head and `found` the result of reading the request with its body from
-- `rest`, or it is none, for instance with too many fields, and `found` is `BadRequest`.
abbrev pub ReadsHeadAndBody : Text → Text → RequestReading → Type 0
ReadsHeadAndBody front rest found =
    ((h : RequestHead) × IsRequestHead front h × (found ≡ reading_after_head h rest))
    ⊎ (((h : RequestHead) → ¬ (IsRequestHead front h)) × (found ≡ Unreadable BadRequest))

-- Reading a request at the front of `input`, whose head ends as the first parameter states, results
-- in `found`: no bytes left for `Nothing`, the problem `TooLarge` for `TooLong`, `BadRequest` for
-- `Cut`, and for `At n` the result of reading a head of `n` bytes and its body.
abbrev pub ReadsByHeadEnd : HeadEnd → Text → RequestReading → Type 0
ReadsByHeadEnd Nothing input found = found ≡ NoBytesLeft
ReadsByHeadEnd TooLong input found = found ≡ Unreadable TooLarge
ReadsByHeadEnd Cut input found = found ≡ Unreadable BadRequest
ReadsByHeadEnd (At n) input found = ReadsHeadAndBody (take n input) (drop n input) found

-- Reading a request at the front of `input`, all that remains on the stream, results in `found`.
abbrev pub ReadsFirstRequest : Text → RequestReading → Type 0
ReadsFirstRequest input found = ReadsByHeadEnd (head_end input) input found
