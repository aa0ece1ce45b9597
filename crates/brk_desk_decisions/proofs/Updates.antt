-- The decision on a text update, from the facts read, is the model's.
use Rattle.std.proofs.Common.{◌≡◌, ◌≤◌, ◌∙◌, ℕ, Option, Some, None, Result, Ok, Err, IfOk, ap, subst}
use Rattle.std.specs.Prelude.{MatchOption, MatchResult, ◌∷◌, ◌++◌, []}
use Rattle.brk_money.specs.Moments.{greatest_stamp}
use Rattle.brk_money.specs.declared.fault.Fault.{Fault}
use Rattle.brk_money.specs.declared.refusal.Refusal.{Refusal}
use Rattle.brk_model.specs.Base.{Base}
use Rattle.brk_model.specs.Sheets.{sheets}
use Rattle.brk_model.specs.Tables.{Tables}
use Rattle.brk_model.specs.Tests.{first_refusal}
use Rattle.brk_ref_orders.specs.Records.{text_update_command}
use Rattle.brk_ref_orders.specs.declared.update.Update.{Update}
use Rattle.brk_trade_plans.specs.Reference.{later_stamp_check}
use Rattle.brk_trade_plans.specs.Update.{IsUpdatePlan, update_checks}
use Rattle.brk_trade_plans.specs.declared.corrected.TextUpdate.{TextUpdate}
use Rattle.brk_trade_plans.specs.declared.plan.Plan.{Plan}
use Rattle.brk_trade_books.specs.Books.{BooksInvariant}
use Rattle.brk_trade_theorems.specs.Decisions.{DecidesCommand}
use Rattle.brk_trade_theorems.specs.Plans.{PlanImplementsCommand}
use Rattle.brk_trade_theorems.specs.Corrections.{UpdateFactsMatchTables, PlanUpdatePrecondition}
use Rattle.brk_trade_theorems.proofs.Correcting.{update_does, update_refused}

-- `last` is the last stamp of the tables, and the facts for the text update equal those of the
-- tables.
abbrev pub UpdateFactsAndLastStampMatch : Update → Option TextUpdate → Option ℕ → Tables → Type 0
UpdateFactsAndLastStampMatch u found last t = (last ≡ t.last) × UpdateFactsMatchTables t u found

-- its plan does it, and its refusal is that of the command
module _ (u : Update) (found : Option TextUpdate) (last : Option ℕ) (now : ℕ) (moment : now ≤ greatest_stamp) where
  looked_up : (t : Tables) → UpdateFactsAndLastStampMatch u found last t → (base : Base) → BooksInvariant base → t ≡ sheets base → PlanUpdatePrecondition base u found last now
  looked_up t known base books e = record {
    books = books;
    found_read = subst (λ x. UpdateFactsMatchTables x u found) e known.1;
    last_read = known.0 ∙ ap (λ x. x.last) e;
    moment = moment;
  }

does : (u : Update) (found : Option TextUpdate) (last : Option ℕ) (now : ℕ) (plan : Plan) (base : Base) → PlanUpdatePrecondition base u found last now
    → MatchOption found ⊥ (λ found. IsUpdatePlan found last now plan) → PlanImplementsCommand base now (text_update_command u) plan
does u None last now plan base read p = absurd p
does u (Some found) last now plan base read p = update_does base u found last now plan read p

pub update_decided : (u : Update) (found : Option TextUpdate) (last : Option ℕ) (now : ℕ) → now ≤ greatest_stamp → (result : Result (Result Plan Refusal) Fault)
    → IfOk result (λ planned. MatchResult planned (λ plan. MatchOption found ⊥ (λ found. IsUpdatePlan found last now plan))
    (λ refusal. first_refusal (update_checks u found ++ later_stamp_check last now ∷ []) ≡ Some refusal))
    → IfOk result (λ planned. (t : Tables) → UpdateFactsAndLastStampMatch u found last t → DecidesCommand now (text_update_command u) planned t)
update_decided u found last now moment (Ok (Ok plan)) p = λ t known base books e. does u found last now plan base (looked_up u found last now moment t known base books e) p
update_decided u found last now moment (Ok (Err refusal)) p = λ t known base books e. update_refused base u found last now refusal (looked_up u found last now moment t known base books e) p
update_decided u found last now moment (Err fault) p = tt
