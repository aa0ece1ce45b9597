-- A cancel planned from facts of the tables is refused as in the model, and its plan implements the
-- command.
use Rattle.std.proofs.Common.{◌≡◌, ℕ, [], ◌∷◌, ◌++◌, refl, sym, ◌∙◌, ap, Option, Some, None}
use Rattle.std.specs.Prelude.{option_map, Ok, Err}
use Rattle.brk_money.specs.Moments.{stamp_after}
use Rattle.brk_money.specs.declared.refusal.Refusal.{Refusal}
use Rattle.brk_money.specs.declared.status.Status.{Status}
use Rattle.brk_model.specs.Base.{Base}
use Rattle.brk_model.specs.Commands.{CancelTrade}
use Rattle.brk_model.specs.Joins.{trade_row_with_id}
use Rattle.brk_model.specs.Sheets.{sheets}
use Rattle.brk_model.specs.Step.{step}
use Rattle.brk_model.specs.Tables.{TradeRow}
use Rattle.brk_model.specs.Tests.{first_refusal, refusal_of_command}
use Rattle.brk_trade_plans.specs.Cancel as planner
use Rattle.brk_trade_plans.specs.Cancel.{IsCancelPlan}
use Rattle.brk_trade_rows.specs.Changes.{tables_after_changes}
use Rattle.brk_trade_plans.specs.Reference.{later_stamp_check}
use Rattle.brk_trade_plans.specs.Replies.{abstract_reply}
use Rattle.brk_trade_plans.specs.declared.plan.Plan.{Plan}
use Rattle.brk_trade_books.specs.Steps.{base_after_command}
use Rattle.brk_trade_theorems.specs.Plans.{PlanImplementsCommand}
use Rattle.brk_trade_theorems.specs.TradePlans.{PlanCancelPrecondition}
use Rattle.brk_trade_theorems.specs.TradeTests.{cancel_checks_on_trade_row}
use Rattle.brk_trade_theorems.proofs.TradePlanning.{cancel_refusal, cancel_done, refused_step}

-- a cancel is tested by its trade's status as by the whole row
same_tests : (row : Option TradeRow) (last : Option ℕ) (now : ℕ)
    → planner.cancel_checks (option_map (λ r. r.status) row) ++ later_stamp_check last now ∷ [] ≡ cancel_checks_on_trade_row row last now
same_tests None last now = refl
same_tests (Some r) last now = refl

read_tests : (base : Base) (id : ℕ) (found : Option Status) (last : Option ℕ) (now : ℕ) → PlanCancelPrecondition base id found last now
    → first_refusal (planner.cancel_checks found ++ later_stamp_check last now ∷ []) ≡ first_refusal (cancel_checks_on_trade_row (trade_row_with_id (sheets base) id) (sheets base).last now)
read_tests base id found last now k =
    (λ i. first_refusal (planner.cancel_checks (k.status_read i) ++ later_stamp_check (k.last_read i) now ∷ []))
    ∙ ap first_refusal (same_tests (trade_row_with_id (sheets base) id) (sheets base).last now)

pub cancel_read : (base : Base) (id : ℕ) (found : Option Status) (last : Option ℕ) (now : ℕ) → PlanCancelPrecondition base id found last now
    → first_refusal (planner.cancel_checks found ++ later_stamp_check last now ∷ []) ≡ refusal_of_command base now (CancelTrade id)
cancel_read base id found last now k = read_tests base id found last now k ∙ cancel_refusal base now id k.books k.moment

pub cancel_refused : (base : Base) (id : ℕ) (found : Option Status) (last : Option ℕ) (now : ℕ) (refusal : Refusal) → PlanCancelPrecondition base id found last now
    → first_refusal (planner.cancel_checks found ++ later_stamp_check last now ∷ []) ≡ Some refusal → step base now (CancelTrade id) ≡ Err refusal
cancel_refused base id found last now refusal k e =
    refused_step base now (CancelTrade id) refusal (sym (cancel_read base id found last now k) ∙ e)

pub cancel_plan_does : (base : Base) (id : ℕ) (found : Option Status) (last : Option ℕ) (now : ℕ) (plan : Plan) → PlanCancelPrecondition base id found last now
    → IsCancelPlan id found last now plan → PlanImplementsCommand base now (CancelTrade id) plan
cancel_plan_does base id found last now plan k p =
    let stamped : stamp_after (sheets base).last now ≡ Some p.stamp = sym (ap (λ o. stamp_after o now) k.last_read) ∙ p.stamped in
    let done = cancel_done base now id p.stamp k.books k.moment (sym (read_tests base id found last now k) ∙ p.accepted) stamped in
    record {
      steps = done.steps ∙ ap (λ reply. Ok (reply, base_after_command base now (CancelTrade id))) (sym (ap abstract_reply p.replied));
      rows = done.rows ∙ ap (λ changes. tables_after_changes changes (sheets base)) (sym p.changes);
      books_after = done.books_after;
    }
