-- The result of a query, compared with the result of the model.
use Rattle.std.specs.Prelude.{◌≡◌, IfOk, Result, Ok, Err}
use Rattle.brk_money.specs.declared.refusal.Refusal.{Refusal}
use Rattle.brk_model.specs.Ask.{ask}
use Rattle.brk_model.specs.Base.{Base}
use Rattle.brk_model.specs.Queries as model
use Rattle.brk_model.specs.Queries.{Query}
use Rattle.brk_model.specs.Sheets.{sheets}
use Rattle.brk_model.specs.Tables.{Tables}
use Rattle.brk_audit_theorems.specs.Sound.{AuditInvariant}
use Rattle.brk_trade_books.specs.Books.{BooksInvariant}
use Rattle.brk_view_rows.specs.Carried.{HasRowsOfQuery}
use Rattle.brk_view_rows.specs.Views.{records_of_view}
use Rattle.brk_view_rows.specs.declared.view.View.{View}

-- The model's result for that of a query: the list of a view's records of texts, or the refusal.
abbrev pub model_query_result : Result View Refusal → Result model.View Refusal
model_query_result (Ok view) = Ok (records_of_view view)
model_query_result (Err refusal) = Err refusal

-- The result `seen`, records of texts or a refusal, equals the model's for `query` on the base with
-- the tables `t`. Vacuous if no base with the books and audit invariants has these tables.
abbrev pub EqualsModelQueryResult : Query → Result View Refusal → Tables → Type 0
EqualsModelQueryResult query seen t = (base : Base) → BooksInvariant base → AuditInvariant base → t ≡ sheets base → ask base query ≡ model_query_result seen

-- A view in `seen` satisfies `HasRowsOfQuery`: it is of the kind of `query` and, for recent trades,
-- an account's status, trades with their settlements, cash rows and histories, and touched lots,
-- has the trades or lot changes that the query selects from the tables `t`. Status changes of
-- recent trades, and the rows of any other query, are not specified. Vacuous if `seen` is a
-- refusal, or if no base with the books and audit invariants has the tables `t`.
abbrev pub ViewHasRowsOfQuery : Query → Result View Refusal → Tables → Type 0
ViewHasRowsOfQuery query seen t = IfOk seen (λ view. (base : Base) → BooksInvariant base → AuditInvariant base → t ≡ sheets base → HasRowsOfQuery query view t)

-- The result `seen` of `query` equals the model's, as records of texts or a refusal
-- (`EqualsModelQueryResult`), and a view has the rows of the query (`ViewHasRowsOfQuery`). Vacuous
-- if no base with the books and audit invariants has the tables `t`.
abbrev pub AnswersQueryAsModel : Query → Result View Refusal → Tables → Type 0
AnswersQueryAsModel query seen t = EqualsModelQueryResult query seen t × ViewHasRowsOfQuery query seen t
