-- The view of an order's estimate.
use Rattle.std.proofs.Common.{◌≡◌, ◌∙◌, [], ◌∷◌, Ok, Err, ap, refl}
use Rattle.brk_money.specs.declared.refusal.Refusal.{Refusal}
use Rattle.brk_model.specs.Commands as model
use Rattle.brk_model.specs.Orders.{estimate}
use Rattle.brk_model.specs.Queries.{EstimateOf}
use Rattle.brk_model.specs.Rows.{estimate_fields}
use Rattle.brk_model.specs.Tables.{Tables}
use Rattle.brk_trade_plans.specs.Replies.{abstract_estimate, estimate_from_model}
use Rattle.brk_trade_plans.specs.declared.estimate.Estimate.{Estimate}
use Rattle.brk_view_rows.specs.Views.{estimate_record}
use Rattle.brk_view_rows.specs.declared.view.View.TheVariants as views
use Rattle.brk_desk_decisions.specs.Estimates.{IsEstimateOfModel}
use Rattle.brk_desk_queries.specs.QueryResults.{AnswersQueryAsModel}

-- an estimate of the definitions is shown as they show it
shown_as_told : (e : Estimate) (m : model.Estimate) → e ≡ estimate_from_model m → estimate_fields (abstract_estimate e) ≡ estimate_record e
shown_as_told e m is = rw is refl

-- an estimate that was answered is the view of its order, and so is its refusal
pub estimate_shown : (order : model.Order) (e : Estimate) (t : Tables) → IsEstimateOfModel order (Ok e) t → AnswersQueryAsModel (EstimateOf order) (Ok (views.Estimate e)) t
estimate_shown order e t tells = (
  λ base books sound s.
      let it = tells base books s in
      it.1 ∙ ap (λ fields. Ok (fields ∷ [])) (shown_as_told e (estimate base order) it.0),
  λ base books sound s. tt,
)

pub estimate_refused : (order : model.Order) (refusal : Refusal) (t : Tables) → IsEstimateOfModel order (Err refusal) t → AnswersQueryAsModel (EstimateOf order) (Err refusal) t
estimate_refused order refusal t tells = (λ base books sound s. tells base books s, tt)
