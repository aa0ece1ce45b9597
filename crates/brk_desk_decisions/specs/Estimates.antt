-- The specification of an estimate.
use Rattle.std.specs.Prelude.{◌≡◌, [], ◌∷◌, Result, Ok, Err, MatchResult}
use Rattle.brk_money.specs.declared.refusal.Refusal.{Refusal}
use Rattle.brk_model.specs.Base.{Base}
use Rattle.brk_model.specs.Commands.{Order}
use Rattle.brk_model.specs.Ask.{ask}
use Rattle.brk_model.specs.Orders.{estimate}
use Rattle.brk_model.specs.Queries.{EstimateOf}
use Rattle.brk_model.specs.Rows.{estimate_fields}
use Rattle.brk_model.specs.Sheets.{sheets}
use Rattle.brk_model.specs.Tables.{Tables}
use Rattle.brk_trade_plans.specs.Replies.{estimate_from_model}
use Rattle.brk_trade_plans.specs.declared.estimate.Estimate.{Estimate}
use Rattle.brk_trade_plans.specs.Replies.{abstract_estimate}
use Rattle.brk_trade_books.specs.Books.{BooksInvariant}

-- `planned` is the model's result for the estimate of `order`, for every base that satisfies the
-- books invariant and has the tables `t`: the estimate, where the view of the query `EstimateOf` is
-- one record with its fields; or the refusal of this query. Vacuous without such a base.
abbrev pub IsEstimateOfModel : Order → Result Estimate Refusal → Tables → Type 0
IsEstimateOfModel order planned t =
    (base : Base) → BooksInvariant base → t ≡ sheets base
    → MatchResult planned
    (λ e. (e ≡ estimate_from_model (estimate base order)) × (ask base (EstimateOf order) ≡ Ok (estimate_fields (abstract_estimate e) ∷ [])))
    (λ refusal. ask base (EstimateOf order) ≡ Err refusal)
