-- The replies to requests as a function of the base and the clock readings, for examples.
use Rattle.std.specs.Prelude.{ℕ, ◌+◌, ◌==◌, Bool, ◌||◌, if◌then◌else◌, List, [], ◌∷◌, Result, Ok, Err}
use Rattle.brk_money.specs.Spelling.{Text}
use Rattle.brk_money.specs.declared.fault.Fault.TheVariants.{Store}
use Rattle.brk_money.specs.declared.refusal.Refusal.{Refusal}
use Rattle.brk_model.specs.Ask.{ask}
use Rattle.brk_model.specs.Base.{Base}
use Rattle.brk_model.specs.Commands.{Answer}
use Rattle.brk_model.specs.Keyed.{keyed_step}
use Rattle.brk_model.specs.Queries.{View}
use Rattle.brk_model.specs.Run.{Do, Ask, Outcome, Did, Saw, NoView, Failed}
use Rattle.brk_model_http.specs.Asked.{RequestDemand, ResponseOnly, DeskCall, model_parsers, demand_of_request}
use Rattle.brk_model_http.specs.Found.{Request}
use Rattle.brk_model_http.specs.Replies.{Response, FromOutcome, is_fault_response, reply_text}
use Rattle.brk_model_http.specs.Stream.{most_requests_per_stream}

-- The response to a request, the clock readings that remain after it, and the base after it.
pub record ResponseAndBase : Type 0 where
  pub response : Response
  pub moments : List ℕ
  pub base : Base

-- The response with the answer to a command, the remaining clock readings, and the base after it.
abbrev pub response_with_command_answer : List ℕ → Answer × Base → ResponseAndBase
response_with_command_answer moments (answer, base) = record { response = FromOutcome (Did answer); moments = moments; base = base }

-- The outcome of a query: its view or its refusal.
abbrev pub outcome_of_query_result : Result View Refusal → Outcome
outcome_of_query_result (Ok view) = Saw view
outcome_of_query_result (Err refusal) = NoView refusal

-- The response to a demand on `base`, the remaining clock readings, and the base after it. The call
-- of a command takes the first clock reading, any other demand none. No call fails, except that a
-- command without a clock reading fails with `Store` and leaves the base unchanged.
abbrev pub response_to_demand : Base → List ℕ → RequestDemand → ResponseAndBase
response_to_demand base moments (ResponseOnly said) = record { response = said; moments = moments; base = base }
response_to_demand base moments (DeskCall (Ask query)) =
    record { response = FromOutcome (outcome_of_query_result (ask base query)); moments = moments; base = base }
response_to_demand base (now ∷ moments) (DeskCall (Do command key)) = response_with_command_answer moments (keyed_step base now command key)
response_to_demand base [] (DeskCall (Do command key)) = record { response = FromOutcome (Failed Store); moments = []; base = base }

-- True if the response is the last of its stream, after `n` earlier requests: the request is number
-- `most_requests_per_stream` or asks to close the stream, or the response is a fault.
abbrev pub is_last_response : ℕ → Request → Response → Bool
is_last_response n request response = (n + 1 == most_requests_per_stream) || request.closes || is_fault_response response

-- The reply to a request after `n` earlier requests, followed by the replies of `more` for the base
-- and the clock readings after it, unless the reply is the last of the stream.
abbrev pub reply_followed_by_more : ℕ → Request → ResponseAndBase → (Base → List ℕ → List Text) → List Text
reply_followed_by_more n request r more =
    reply_text r.response (is_last_response n request r.response) ∷ (if is_last_response n request r.response then [] else more r.base r.moments)

-- The replies to the requests, executed in sequence from `base` on with the clock readings
-- `moments`, after `n` earlier requests; none to requests after the last reply of the stream.
abbrev pub replies_to_requests : ℕ → Base → List ℕ → List Request → List Text
replies_to_requests n base moments [] = []
replies_to_requests n base moments (request ∷ requests) =
    reply_followed_by_more n request (response_to_demand base moments (demand_of_request model_parsers request)) (λ after left. replies_to_requests (n
    + 1) after left requests)
