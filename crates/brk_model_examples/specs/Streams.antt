-- The functions that run the examples: requests in, replies out.
use Rattle.std.specs.Prelude.{◌≡◌, ℕ, List, [], ◌∷◌, ◌++◌, replicate, false, true, codes}
use Rattle.brk_money.specs.Spelling.{Text}
use Rattle.brk_model_examples.specs.Setting.{setting_base}
use Rattle.brk_model_http.specs.Computed.{replies_to_requests}
use Rattle.brk_model_http.specs.Found.{Request}

-- Twenty clock readings, all of them the start of 2024-03-01, in milliseconds since 1970-01-01 UTC.
abbrev pub twenty_http_clock_readings : List ℕ
twenty_http_clock_readings = replicate 20 1709251200000

-- A request with the method POST, the target `target` and the body `body`, which does not ask to
-- close the stream.
abbrev pub post_request : Text → Text → Request
post_request target body = record { method = codes "POST"; target = target; closes = false; body = body }

-- A request with the method GET and the target `target`, without a body, which does not ask to
-- close the stream.
abbrev pub get_request : Text → Request
get_request target = record { method = codes "GET"; target = target; closes = false; body = [] }

-- The request `request` with `closes` set to true: it asks to close the stream after its reply.
abbrev pub request_asking_to_close : Request → Request
request_asking_to_close request = record request { closes = true }

-- The bytes of a reply with the JSON body `body`: a status line with `status`, the content type of
-- JSON, `len` as the length of the body, the further lines `fields` of the head, an empty line, and
-- the body.
abbrev pub expected_reply_bytes : Text → List Text → Text → Text → Text
expected_reply_bytes status fields len body =
    codes "HTTP/1.1 " ++ status ++ codes "\r\nContent-Type: application/json\r\nContent-Length: " ++ len ++ codes "\r\n" ++ lines fields ++ codes "\r\n" ++ body
  where
    -- The texts, each ended by CR LF.
    lines : List Text → Text
    lines [] = []
    lines (f ∷ fs) = f ++ codes "\r\n" ++ lines fs

-- The requests `requests` of one stream, executed in sequence from `setting_base` on with
-- `twenty_http_clock_readings`, have exactly the replies `replies`.
abbrev pub HasRepliesInSetting : List Request → List Text → Type 0
HasRepliesInSetting requests replies = replies_to_requests 0 setting_base twenty_http_clock_readings requests ≡ replies
