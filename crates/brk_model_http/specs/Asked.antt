-- The call of the desk that a request makes, or the response without a call if a check fails.
use Rattle.std.specs.Prelude.{List, map, Some, None, Ok, Err, not, if◌then◌else◌, codes, bytes_eq}
use Rattle.brk_money.specs.Spelling.{Text}
use Rattle.brk_model.specs.Answers.{Fields}
use Rattle.brk_model.specs.Commands.{Command, Refused}
use Rattle.brk_model.specs.Forms.{ReadResult}
use Rattle.brk_model.specs.Parse.{parse_by_first_field, row_parsers}
use Rattle.brk_model.specs.Ask.{parse_query, view_parsers}
use Rattle.brk_model.specs.Run.{Call, Do, Ask, Did, NoView}
use Rattle.brk_model.specs.Queries.{Query}
use Rattle.brk_model_http.specs.Bodies.{texts_of_body}
use Rattle.brk_model_http.specs.Found.{Request}
use Rattle.brk_model_http.specs.Replies.{Response, FromProblem, FromOutcome}
use Rattle.brk_model_http.specs.Routes.{Route, ToRow, ToView, route_of_target}
use Rattle.brk_model_http.specs.declared.problem.RequestProblem.TheVariants.{NotFound, NotAllowed, BadRequest}

-- The parsers of rows and of queries (from a view's name and its arguments), and the known views.
pub record RequestParsers : Type 0 where
  pub row : Fields → ReadResult Command
  pub views : List Text
  pub query : Text → Fields → ReadResult Query

-- The parsers of all rows and all queries of the model, and the names of its views.
abbrev pub model_parsers : RequestParsers
model_parsers = record { row = parse_by_first_field row_parsers; views = map (λ reader. reader.0) view_parsers; query = parse_query }

-- The demand of a request: a response without a call of the desk, or a call of the desk.
pub data RequestDemand : Type 0 where
  ResponseOnly : Response → RequestDemand
  DeskCall : Call → RequestDemand

-- The demand of a request with the given route, from the texts of its body: for a row, the call of
-- the command that they parse as by `forms`, with the key of the route, if any; for a view, the
-- call of the query; or, if the parser refuses the texts, the response with its refusal.
abbrev pub demand_of_texts : RequestParsers → Route → Fields → RequestDemand
demand_of_texts forms (ToRow key) texts =
    elim (forms.row texts) [
      | Err refusal ↦ ResponseOnly (FromOutcome (Did (Refused refusal)))
      | Ok command ↦ DeskCall (Do command key)
    ]
demand_of_texts forms (ToView view) texts =
    elim (forms.query view texts) [
      | Err refusal ↦ ResponseOnly (FromOutcome (NoView refusal))
      | Ok query ↦ DeskCall (Ask query)
    ]

-- The demand of the request: the response with the problem of the first check that fails, otherwise
-- the demand of the texts of its body. The checks: the target has a route (`NotFound`), the method
-- is POST (`NotAllowed`), the body is a JSON array of strings in UTF-8 (`BadRequest`).
unfoldable pub demand_of_request : RequestParsers → Request → RequestDemand
demand_of_request forms request =
    elim (route_of_target forms.views request.target) [
      | None ↦ ResponseOnly (FromProblem NotFound)
      | Some route ↦
          if not (bytes_eq request.method (codes "POST")) then ResponseOnly (FromProblem NotAllowed)
          else elim (texts_of_body request.body) [
            | None ↦ ResponseOnly (FromProblem BadRequest)
            | Some texts ↦ demand_of_texts forms route texts
          ]
    ]
