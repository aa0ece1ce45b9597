-- The values of the model that the values of the program represent.
use Rattle.std.specs.Prelude.{List, map, Option, option_map, Result, Ok, Err, String, string_bytes}
use Rattle.std.specs.Global.{Global, Vec}
use Rattle.brk_money.specs.Spelling.{Text}
use Rattle.brk_money.specs.declared.fault.Fault.{Fault}
use Rattle.brk_money.specs.declared.refusal.Refusal.{Refusal}
use Rattle.brk_model.specs.Commands as model
use Rattle.brk_model.specs.Queries as queries
use Rattle.brk_model.specs.Records as records
use Rattle.brk_model.specs.Run as run
use Rattle.brk_ref.specs.Records.{abstract_key}
use Rattle.brk_ref.specs.declared.key.Key as ref
use Rattle.brk_model_http.specs.Asked as asked
use Rattle.brk_model_http.specs.Replies.{Response, FromProblem, FromOutcome}
use Rattle.brk_model_http.specs.Routes as routes
use Rattle.brk_http_engine.specs.declared.routes.Route.{Route}
use Rattle.brk_http_engine.specs.declared.routes.Route.TheVariants as route
use Rattle.brk_http_engine.specs.declared.asking.RequestedCall.{RequestedCall}
use Rattle.brk_http_engine.specs.declared.asking.RequestedCall.TheVariants as asking
use Rattle.brk_http_engine.specs.declared.acting.ServiceResponse.{ServiceResponse}
use Rattle.brk_http_engine.specs.declared.acting.ServiceResponse.TheVariants as told

-- The model's key that the key of a row represents, or `None` if the row has no key.
abbrev pub key_in_model : Option ref.Key → Option records.Key
key_in_model key = option_map abstract_key key

-- The model's outcome for the result of a query; `shown` maps a view to the model's view.
abbrev pub query_outcome_in_model : {V : Type 0} → (V → queries.View) → Result (Result V Refusal) Fault → run.Outcome
query_outcome_in_model shown (Ok (Ok view)) = run.Saw (shown view)
query_outcome_in_model shown (Ok (Err refusal)) = run.NoView refusal
query_outcome_in_model shown (Err fault) = run.Failed fault

-- The list of the bytes of each of the strings `texts`, in order.
abbrev pub bytes_of_texts : Vec (String Global) → List Text
bytes_of_texts texts = map string_bytes texts.items

-- A view of the model: the records, in order, each as the list of the bytes of its strings.
abbrev pub bytes_of_records : Vec (Vec (String Global)) → queries.View
bytes_of_records records = map bytes_of_texts records.items

-- The model's route that a route represents; `text` maps the name of a view to its text.
abbrev pub route_in_model : {V : Type 0} → (V → Text) → Route V → routes.Route
route_in_model text (route.ToRow key) = routes.ToRow (key_in_model key)
route_in_model text (route.ToView view) = routes.ToView (text view)

-- The model's call that a request makes, or its response if none; `command` and `query` map both.
abbrev pub demand_in_model : {X Q : Type 0} → (X → model.Command) → (Q → queries.Query) → RequestedCall X Q → asked.RequestDemand
demand_in_model command query (asking.Wrong problem) = asked.ResponseOnly (FromProblem problem)
demand_in_model command query (asking.BadRow refusal) = asked.ResponseOnly (FromOutcome (run.Did (model.Refused refusal)))
demand_in_model command query (asking.BadQuery refusal) = asked.ResponseOnly (FromOutcome (run.NoView refusal))
demand_in_model command query (asking.Row x key) = asked.DeskCall (run.Do (command x) (key_in_model key))
demand_in_model command query (asking.View q) = asked.DeskCall (run.Ask (query q))

-- The model's response that a response represents; `reply` and `shown` map replies and views.
abbrev pub response_in_model : {R V : Type 0} → (R → model.Reply) → (V → queries.View) → ServiceResponse R V → Response
response_in_model reply shown (told.Wrong problem) = FromProblem problem
response_in_model reply shown (told.NoRow refusal) = FromOutcome (run.Did (model.Refused refusal))
response_in_model reply shown (told.NoView refusal) = FromOutcome (run.NoView refusal)
response_in_model reply shown (told.Done r) = FromOutcome (run.Did (model.Done (reply r)))
response_in_model reply shown (told.Again line) = FromOutcome (run.Did (model.Again (string_bytes line)))
response_in_model reply shown (told.Saw view) = FromOutcome (run.Saw (shown view))
response_in_model reply shown (told.Failed fault) = FromOutcome (run.Failed fault)
