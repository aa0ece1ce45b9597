-- The relation between the positions in the buffer and the first request in it.
use Rattle.std.specs.Prelude.{◌≡◌, ℕ, List, drop, Option, Some, ⊤}
use Rattle.std.specs.Io.KnownBytes.{prepend_known}
use Rattle.httparse.specs.Spans.{span_bytes, IsWithin}
use Rattle.brk_model_http.specs.Found.{Request, RequestReading, NoBytesLeft, Unreadable, CompleteRequest}
use Rattle.brk_http_reader.specs.declared.next.RequestPositions.{RequestPositions}
use Rattle.brk_http_reader.specs.declared.next.NextRequest.{NextRequest}
use Rattle.brk_http_reader.specs.declared.next.NextRequest.TheVariants.{Ended, Broken, Whole}

-- The method, target and body of a whole request, if there is one, are in the first `len` bytes.
abbrev pub IsRequestWithin : NextRequest → ℕ → Type 0
IsRequestWithin Ended len = ⊤
IsRequestWithin (Broken b) len = ⊤
IsRequestWithin (Whole r) len = IsWithin len r.method × IsWithin len r.target × IsWithin len r.body

-- The request with the bytes of `buffer` at the positions `r`, and the close flag of `r`.
abbrev pub request_at_positions : List ℕ → RequestPositions → Request
request_at_positions buffer r = record {
  method = span_bytes buffer r.method;
  target = span_bytes buffer r.target;
  closes = r.closes;
  body = span_bytes buffer r.body;
}

-- The result of `read_request`, the first argument, represents the model's `found`: no byte left, a
-- problem, or a complete request. After a complete request, the bytes of `buffer` after its body
-- and the bytes `left` in the reader are the rest of the input; false if `left` is unknown.
abbrev pub MatchesNextRequest : NextRequest → List ℕ → Option (List ℕ) → RequestReading → Type 0
MatchesNextRequest Ended buffer left found = found ≡ NoBytesLeft
MatchesNextRequest (Broken b) buffer left found = found ≡ Unreadable b
MatchesNextRequest (Whole r) buffer left found =
    (rest : List ℕ) × (prepend_known (drop r.body.end buffer) left ≡ Some rest) × (found ≡ CompleteRequest (request_at_positions buffer r) rest)
