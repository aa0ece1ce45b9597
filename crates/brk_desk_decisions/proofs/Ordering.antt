-- The decision on an order, and its estimate, from the facts and the lots read, are the model's.
use Rattle.std.proofs.Common.{◌≡◌, ◌≤◌, ◌∙◌, ℕ, List, Option, Result, Ok, Err, IfOk, ap, subst}
use Rattle.std.specs.Prelude.{MatchResult, ◌∷◌, ◌++◌, [], Some}
use Rattle.sqlite_trees.specs.declared.store.Store.{Ghosts}
use Rattle.sqlite.specs.Held.{Held}
use Rattle.brk_trade_plans.specs.declared.estimate.Estimate.{Estimate}
use Rattle.brk_lots.specs.declared.lot.Lot.{Lot}
use Rattle.brk_model.specs.Base.{Base}
use Rattle.brk_model.specs.Commands.{PlaceOrder}
use Rattle.brk_model.specs.Sheets.{sheets}
use Rattle.brk_model.specs.Tables.{Tables}
use Rattle.brk_model.specs.Tests.{first_refusal}
use Rattle.brk_money.specs.Moments.{greatest_stamp}
use Rattle.brk_money.specs.declared.fault.CallFault.{CallFault}
use Rattle.brk_money.specs.declared.refusal.Refusal.{Refusal}
use Rattle.brk_ref_orders.specs.Records.{abstract_order}
use Rattle.brk_ref_orders.specs.declared.order.Order.{Order}
use Rattle.brk_trade.specs.Orders.{EstimatesCheckedOrder, IsOrderPlan, order_checks, free_trade_id_check}
use Rattle.brk_trade_plans.specs.Reference.{later_stamp_check}
use Rattle.brk_trade.specs.declared.order.OrderPlanFacts.{OrderPlanFacts}
use Rattle.brk_trade_plans.specs.declared.plan.Plan.{Plan}
use Rattle.brk_trade_books.specs.Books.{BooksInvariant}
use Rattle.brk_trade_theorems.specs.OrderPlans.{OrderPositionLotsSatisfy, EstimateFactsMatchTables, OrderFactsMatchTables, PlanOrderPrecondition}
use Rattle.brk_trade_theorems.proofs.OrderDoing.{estimate_answered, estimate_refused, estimate_told, order_refused, plan_order_does}
use Rattle.brk_store_transactions.specs.Holds.{ReadPost}
use Rattle.brk_desk_decisions.specs.Estimates.{IsEstimateOfModel}
use Rattle.brk_trade_theorems.specs.Decisions.{DecidesCommand}
use Rattle.brk_store_reads.proofs.Sequences.{read_with}

-- ---- what is known after the reads

-- `last` is the last stamp of the tables, and the facts for the order equal those of the tables.
abbrev pub OrderFactsAndLastStampMatch : Order → Option ℕ → OrderPlanFacts → Tables → Type 0
OrderFactsAndLastStampMatch order last found t = (last ≡ t.last) × OrderFactsMatchTables t order found

pub order_read : {S D E : Type 0} (g : Ghosts S) (old first mid : Held S) (order : Order) (last : Option ℕ) (found : OrderPlanFacts)
    → ReadPost {E = D} g old first (Ok last) (λ last t. last ≡ t.last) → ReadPost {E = E} g first mid (Ok found) (λ f t. OrderFactsMatchTables t order f)
    → ReadPost {E = CallFault} g old mid (Ok found) (OrderFactsAndLastStampMatch order last)
order_read g old first mid order last found one two =
    read_with g old first mid {H = CallFault} last found found (λ last t. last ≡ t.last) (λ f t. OrderFactsMatchTables t order f) (OrderFactsAndLastStampMatch order last) (λ t e f. (e, f)) one two

-- ---- an order

module _ (order : Order) (found : OrderPlanFacts) (last : Option ℕ) (now : ℕ) (given : List Lot → Type 0) (moment : now ≤ greatest_stamp) where
  looked_up : (t : Tables) → OrderFactsAndLastStampMatch order last found t → (base : Base) → BooksInvariant base → t ≡ sheets base → PlanOrderPrecondition base order found last now
  looked_up t known base books s = record {
    books = books;
    looked_up = subst (λ x. OrderFactsMatchTables x order found) s known.1;
    last_read = known.0 ∙ ap (λ x. x.last) s;
    moment = moment;
  }

  planned : (result : Result Plan Refusal)
      → MatchResult result (IsOrderPlan order found given last now)
      (λ refusal. first_refusal (order_checks found ++ free_trade_id_check found.last_trade ∷ later_stamp_check last now ∷ []) ≡ Some refusal)
      → (t : Tables) → OrderPositionLotsSatisfy t order given → OrderFactsAndLastStampMatch order last found t → DecidesCommand now (PlaceOrder (abstract_order order)) result t
  planned (Ok plan) p t lots known base books s =
      plan_order_does base order found given last now plan (looked_up t known base books s) (subst (λ x. OrderPositionLotsSatisfy x order given) s lots) p
  planned (Err refusal) p t lots known base books s = order_refused base order found last now refusal (looked_up t known base books s) p

  pub order_decided : (Held : Tables → Type 0) → ((t : Tables) → Held t → OrderPositionLotsSatisfy t order given) → (result : Result (Result Plan Refusal) CallFault)
      → IfOk result (λ planned. MatchResult planned (IsOrderPlan order found given last now)
      (λ refusal. first_refusal (order_checks found ++ free_trade_id_check found.last_trade ∷ later_stamp_check last now ∷ []) ≡ Some refusal))
      → IfOk result (λ planned. (t : Tables) → Held t → OrderFactsAndLastStampMatch order last found t → DecidesCommand now (PlaceOrder (abstract_order order)) planned t)
  order_decided Held lots (Ok result) p = λ t held. planned result p t (lots t held)
  order_decided Held lots (Err fault) p = tt

-- ---- an estimate

module _ (order : Order) (found : OrderPlanFacts) (given : List Lot → Type 0) where
  estimated : (result : Result Estimate Refusal) → MatchResult result (EstimatesCheckedOrder order found given) (λ refusal. first_refusal (order_checks found) ≡ Some refusal)
      → (t : Tables) → OrderPositionLotsSatisfy t order given → EstimateFactsMatchTables t order found → IsEstimateOfModel (abstract_order order) result t
  estimated (Ok estimate) p t lots known base books s =
      let f = subst (λ x. EstimateFactsMatchTables x order found) s known in
      let l = subst (λ x. OrderPositionLotsSatisfy x order given) s lots in
      (estimate_told base order found given estimate books f l p, estimate_answered base order found given estimate books f l p)
  estimated (Err refusal) p t lots known base books s = estimate_refused base order found refusal books (subst (λ x. EstimateFactsMatchTables x order found) s known) p

  pub estimate_decided : (Held : Tables → Type 0) → ((t : Tables) → Held t → OrderPositionLotsSatisfy t order given) → (result : Result (Result Estimate Refusal) CallFault)
      → IfOk result (λ planned. MatchResult planned (EstimatesCheckedOrder order found given) (λ refusal. first_refusal (order_checks found) ≡ Some refusal))
      → IfOk result (λ planned. (t : Tables) → Held t → EstimateFactsMatchTables t order found → IsEstimateOfModel (abstract_order order) planned t)
  estimate_decided Held lots (Ok result) p = λ t held. estimated result p t (lots t held)
  estimate_decided Held lots (Err fault) p = tt
