-- The bytes of a reply.
use Rattle.std.specs.Prelude.{◌++◌, ◌∷◌, [], Bool, true, false, if◌then◌else◌, length, codes, decimal}
use Rattle.brk_money.specs.Kinds.{refusal_fields}
use Rattle.brk_money.specs.Spelling.{Text}
use Rattle.brk_money.specs.declared.fault.Fault.{Fault}
use Rattle.brk_money.specs.declared.fault.Fault.TheVariants as fault
use Rattle.brk_model.specs.Commands.{Answer, Done, Again, Refused}
use Rattle.brk_model.specs.Rows.{reply_fields}
use Rattle.brk_model.specs.Run.{Outcome, Did, Saw, NoView, Failed}
use Rattle.brk_model_http.specs.Bodies.{json_texts_object, json_records_object, json_error_object}
use Rattle.brk_model_http.specs.Routes.{split_at_byte}
use Rattle.brk_model_http.specs.declared.problem.RequestProblem.{RequestProblem}
use Rattle.brk_model_http.specs.declared.problem.RequestProblem.TheVariants.{TooLarge, BadRequest, NotImplemented, NotFound, NotAllowed}

-- The response to a request: a problem, or an outcome, of a call of the desk or, without a call,
-- the refusal of a malformed row or query.
pub data Response : Type 0 where
  FromProblem : RequestProblem → Response
  FromOutcome : Outcome → Response

-- The HTTP status of a problem: its number and its phrase.
abbrev pub http_status_of_problem : RequestProblem → Text
http_status_of_problem TooLarge = codes "413 Payload Too Large"
http_status_of_problem BadRequest = codes "400 Bad Request"
http_status_of_problem NotImplemented = codes "501 Not Implemented"
http_status_of_problem NotFound = codes "404 Not Found"
http_status_of_problem NotAllowed = codes "405 Method Not Allowed"

-- The text of a problem, as the body of a reply states it.
abbrev pub text_of_problem : RequestProblem → Text
text_of_problem TooLarge = codes "too large"
text_of_problem BadRequest = codes "bad request"
text_of_problem NotImplemented = codes "not implemented"
text_of_problem NotFound = codes "not found"
text_of_problem NotAllowed = codes "method not allowed"

-- The word of a fault in the body of a reply: `memory` or `store`. `Damaged`, with which no command
-- or query of a desk fails, has the word `store`.
abbrev pub fault_word : Fault → Text
fault_word fault.Memory = codes "memory"
fault_word fault.Store = codes "store"
fault_word (fault.Damaged condition) = codes "store"

-- The HTTP status of an answer, number and phrase: 409 if it is a refusal, otherwise 200.
abbrev pub http_status_of_answer : Answer → Text
http_status_of_answer (Done reply) = codes "200 OK"
http_status_of_answer (Again line) = codes "200 OK"
http_status_of_answer (Refused refusal) = codes "409 Conflict"

-- The HTTP status of an outcome, number and phrase: 409 (refusal), 503 (fault), otherwise 200.
abbrev pub http_status_of_outcome : Outcome → Text
http_status_of_outcome (Did answer) = http_status_of_answer answer
http_status_of_outcome (Saw view) = codes "200 OK"
http_status_of_outcome (NoView refusal) = codes "409 Conflict"
http_status_of_outcome (Failed fault) = codes "503 Service Unavailable"

-- The HTTP status of a response, number and phrase, by its problem or by its outcome.
abbrev pub http_status_of_response : Response → Text
http_status_of_response (FromProblem problem) = http_status_of_problem problem
http_status_of_response (FromOutcome outcome) = http_status_of_outcome outcome

-- The body of the reply for an answer, {"WORD":["FIELD",..]}: its word (`ok`, `again` or `no`) and
-- its fields; a stored reply is split into its fields at each comma.
abbrev pub answer_body : Answer → Text
answer_body (Done reply) = json_texts_object (codes "ok") (reply_fields reply)
answer_body (Again line) = json_texts_object (codes "again") (split_at_byte 44 line)
answer_body (Refused refusal) = json_texts_object (codes "no") (refusal_fields refusal)

-- The body of the reply for an outcome: of an answer, a view, the refusal of a query, or a fault.
abbrev pub outcome_body : Outcome → Text
outcome_body (Did answer) = answer_body answer
outcome_body (Saw view) = json_records_object (codes "view") view
outcome_body (NoView refusal) = json_texts_object (codes "no") (refusal_fields refusal)
outcome_body (Failed fault) = json_error_object (fault_word fault)

-- The body of the reply for a response: an error with the text of its problem, or `outcome_body`.
abbrev pub response_body : Response → Text
response_body (FromProblem problem) = json_error_object (text_of_problem problem)
response_body (FromOutcome outcome) = outcome_body outcome

-- True if the response is the problem `NotAllowed`: only its reply has the field `Allow: POST`.
abbrev pub is_method_not_allowed : Response → Bool
is_method_not_allowed (FromProblem NotAllowed) = true
is_method_not_allowed (FromProblem TooLarge) = false
is_method_not_allowed (FromProblem BadRequest) = false
is_method_not_allowed (FromProblem NotImplemented) = false
is_method_not_allowed (FromProblem NotFound) = false
is_method_not_allowed (FromOutcome outcome) = false

-- True if the response is a fault of the desk; its reply ends the stream.
abbrev pub is_fault_response : Response → Bool
is_fault_response (FromOutcome (Failed fault)) = true
is_fault_response (FromOutcome (Did answer)) = false
is_fault_response (FromOutcome (Saw view)) = false
is_fault_response (FromOutcome (NoView refusal)) = false
is_fault_response (FromProblem problem) = false

-- The line of a head with the text `text`, ended by CR LF.
abbrev pub http_head_line : Text → Text
http_head_line text = text ++ 13 ∷ 10 ∷ []

-- The line of a head with the text `text`, ended by CR LF, if `is_there`; otherwise no bytes.
abbrev pub head_line_if : Bool → Text → Text
head_line_if is_there text = if is_there then http_head_line text else []

-- The bytes of a reply: the status line with `status`, the head fields (type and length of the
-- body, `Allow: POST` if `asks_post`, `Connection: close` if `closes`), an empty line and `body`.
unfoldable pub reply_bytes : Text → Bool → Bool → Text → Text
reply_bytes status asks_post closes body =
    http_head_line (codes "HTTP/1.1 " ++ status)
    ++ http_head_line (codes "Content-Type: application/json")
    ++ http_head_line (codes "Content-Length: " ++ decimal (length body))
    ++ head_line_if asks_post (codes "Allow: POST")
    ++ head_line_if closes (codes "Connection: close")
    ++ http_head_line [] ++ body

-- The bytes of the reply for the response; `closes` is true if it is the last reply of the stream.
abbrev pub reply_text : Response → Bool → Text
reply_text response closes = reply_bytes (http_status_of_response response) (is_method_not_allowed response) closes (response_body response)
