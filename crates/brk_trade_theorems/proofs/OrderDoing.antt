-- The plan of an order implements its command, and its estimate is the result of the query for it.
use Rattle.std.proofs.Common.{◌≡◌, ℕ, ◌+◌, Bool, true, false, not, cond, List, [], ◌∷◌, ◌++◌, refl, sym, ◌∙◌, ap, length, Option, Some, None}
use Rattle.std.specs.Prelude.{nat_le, nat_lt, option_map, unwrap_or, Ok, Err}
use Rattle.std.specs.Option.{option_map_or}
use Rattle.brk_trade_plans.specs.Replies.{estimate_from_model}
use Rattle.brk_trade_plans.specs.declared.estimate.Estimate.{Estimate}
use Rattle.brk_trade.specs.declared.estimate.Terms.{Terms}
use Rattle.brk_lots.specs.declared.lot.Lot.{Lot}
use Rattle.brk_model.specs.Ask.{view_of_base, ask, checks_of_query}
use Rattle.brk_model.specs.Base.{Base}
use Rattle.brk_model.specs.Commands as model
use Rattle.brk_model.specs.Commands.{PlaceOrder}
use Rattle.brk_model.specs.Limits.{greatest_id}
use Rattle.brk_model.specs.Orders.{commission_by_band, estimate, first_status, trade_of_order, bid_price_of_order}
use Rattle.brk_model.specs.Queries.{EstimateOf}
use Rattle.brk_model.specs.Records.{Band, Charge}
use Rattle.brk_model.specs.Rows.{estimate_fields}
use Rattle.brk_model.specs.Sheets.{sheets}
use Rattle.brk_model.specs.Step.{reply_to_command, step, value_unless_refused}
use Rattle.brk_model.specs.Tables as tables
use Rattle.brk_model.specs.Tables.{Tables}
use Rattle.brk_model.specs.Tests.{first_refusal, stamp_of_next_command, refusal_of_command, checks_of_command}
use Rattle.brk_money.specs.OrderTypes.{trade_type_of_order_type}
use Rattle.brk_money.specs.Amounts.{commission}
use Rattle.brk_money.specs.Kinds.{is_market_type}
use Rattle.brk_money.specs.Moments.{greatest_stamp, stamp_after}
use Rattle.brk_money.specs.declared.refusal.Limit.TheVariants as limit
use Rattle.brk_money.specs.declared.refusal.Refusal.{Refusal}
use Rattle.brk_money.specs.declared.refusal.Refusal.TheVariants.{Range, ClockEnd}
use Rattle.brk_ref_orders.specs.Records.{abstract_order}
use Rattle.brk_ref_orders.specs.declared.order.Order.{Order}
use Rattle.brk_trade_rows.specs.Changes.{tables_after_changes, tables_with_history_row, tables_with_last_stamp, tables_with_request, tables_with_trade}
use Rattle.brk_trade.specs.Orders.{EstimatesCheckedOrder, IsOrderPlan, row_changes_of_order, next_trade_id, order_checks, request_row_of_order, terms_of_order, trade_row_of_order, free_trade_id_check}
use Rattle.brk_trade_plans.specs.Reference.{later_stamp_check}
use Rattle.brk_trade_plans.specs.Replies.{abstract_estimate, abstract_reply}
use Rattle.brk_ref.specs.Rows.{abstract_request_row, abstract_trade_row}
use Rattle.brk_trade.specs.declared.order.OrderPlanFacts.{OrderPlanFacts}
use Rattle.brk_trade_plans.specs.declared.plan.Plan.{Plan}
use Rattle.brk_ref.specs.declared.request_row.RequestRow.{RequestRow}
use Rattle.brk_ref.specs.declared.trade_row.TradeRow.{TradeRow}
use Rattle.brk_trade_books.specs.Books.{BooksInvariant}
use Rattle.brk_trade_theorems.specs.OrderPlans.{OrderPositionLotsSatisfy, EstimateFactsMatchTables, OrderFactsMatchTables, PlanOrderPrecondition}
use Rattle.brk_trade_theorems.specs.Plans.{PlanImplementsCommand}
use Rattle.brk_trade_books.specs.Steps.{IsAcceptedWithEffect, base_after_command}
use Rattle.brk_trade_books.specs.TradeReads.{lots_of_position}
use Rattle.brk_trade_books.specs.Trading.{tables_after_order, request_row_of_pending_trade, tables_with_request_if_pending, history_row_of_status}
use Rattle.brk_trade_books.proofs.Holding.{lots_given}
use Rattle.brk_trade_books.proofs.LotOrder.{shares_read}
use Rattle.brk_trade_theorems.proofs.OrderFinding.{AllFound, all_found, all_passed, terms_read, tests_read}
use Rattle.brk_trade_theorems.proofs.Planning.{clock_read}
use Rattle.brk_trade_books.proofs.Tested.{none_refuse}
use Rattle.brk_trade_books.proofs.TradeKeepers.{books_order}
use Rattle.brk_trade_theorems.proofs.TradePlanning.{is_done, refused_step, stamp_read}
use Rattle.brk_trade_books.proofs.TradeReading.{reads_number}
use Rattle.brk_trade_books.proofs.Trades.{step_order}

-- ---- the refusal

number_read : (base : Base) (order : Order) (found : OrderPlanFacts) → BooksInvariant base → OrderFactsMatchTables (sheets base) order found → first_refusal (order_checks found) ≡ None
    → unwrap_or found.last_trade 0 ≡ length base.trades
number_read base order found books k e = ap (λ o. unwrap_or o 0) (k.last_trade e) ∙ reads_number base books

pub order_refusal_read : (base : Base) (order : Order) (found : OrderPlanFacts) (last : Option ℕ) (now : ℕ) → PlanOrderPrecondition base order found last now
    → first_refusal (order_checks found ++ free_trade_id_check found.last_trade ∷ later_stamp_check last now ∷ []) ≡ refusal_of_command base now (PlaceOrder (abstract_order order))
unfolding refusal_of_command checks_of_command
order_refusal_read base order found last now k =
    let clock = clock_read base last now k.books k.last_read k.moment in
    tests_read base order found (free_trade_id_check found.last_trade ∷ later_stamp_check last now ∷ [])
    ((nat_le greatest_id (length base.trades), Range limit.Trades) ∷ (nat_lt greatest_stamp (stamp_of_next_command base now), ClockEnd) ∷ []) k.books k.looked_up.estimate
    (λ e. let number = number_read base order found k.books k.looked_up e in
    λ i. first_refusal ((nat_le greatest_id (number i), Range limit.Trades) ∷ (clock i, ClockEnd) ∷ []))

pub order_refused : (base : Base) (order : Order) (found : OrderPlanFacts) (last : Option ℕ) (now : ℕ) (refusal : Refusal) → PlanOrderPrecondition base order found last now
    → first_refusal (order_checks found ++ free_trade_id_check found.last_trade ∷ later_stamp_check last now ∷ []) ≡ Some refusal → step base now (PlaceOrder (abstract_order order)) ≡ Err refusal
order_refused base order found last now refusal k e = refused_step base now (PlaceOrder (abstract_order order)) refusal (sym (order_refusal_read base order found last now k) ∙ e)

-- what was found refuses no order that is accepted
found_refuses_none : (found : OrderPlanFacts) (last : Option ℕ) (now : ℕ) → first_refusal (order_checks found ++ free_trade_id_check found.last_trade ∷ later_stamp_check last now ∷ []) ≡ None
    → first_refusal (order_checks found) ≡ None
found_refuses_none found last now e =
    let p = none_refuse (order_checks found ++ free_trade_id_check found.last_trade ∷ later_stamp_check last now ∷ []) e in
    all_passed found p.0 p.1.0 p.1.1.0 p.1.1.1.0 p.1.1.1.1.0

-- ---- the estimate

pub estimate_told : (base : Base) (order : Order) (found : OrderPlanFacts) (given : List Lot → Type 0) (e : Estimate) → BooksInvariant base → EstimateFactsMatchTables (sheets base) order found
    → OrderPositionLotsSatisfy (sheets base) order given → EstimatesCheckedOrder order found given e → e ≡ estimate_from_model (estimate base (abstract_order order))
estimate_told base order found given e books k l h =
    h.estimated base (abstract_order order) (lots_of_position (sheets base) order.account order.symbol) (terms_read base order found books k h.accepted)
    (sym (shares_read base order.account order.symbol books)) (lots_given base order.account order.symbol order.is_lifo given books l) (all_found base order found books k h.accepted).held

told_back : (e : model.Estimate) → abstract_estimate (estimate_from_model e) ≡ e
told_back e = refl

pub estimate_refused : (base : Base) (order : Order) (found : OrderPlanFacts) (refusal : Refusal) → BooksInvariant base → EstimateFactsMatchTables (sheets base) order found
    → first_refusal (order_checks found) ≡ Some refusal → ask base (EstimateOf (abstract_order order)) ≡ Err refusal
unfolding ask checks_of_query
estimate_refused base order found refusal books k e =
    ap (λ o. value_unless_refused o (view_of_base base (EstimateOf (abstract_order order)))) (sym (tests_read base order found [] [] books k (λ n. refl)) ∙ e)

pub estimate_answered : (base : Base) (order : Order) (found : OrderPlanFacts) (given : List Lot → Type 0) (e : Estimate) → BooksInvariant base → EstimateFactsMatchTables (sheets base) order found
    → OrderPositionLotsSatisfy (sheets base) order given → EstimatesCheckedOrder order found given e → ask base (EstimateOf (abstract_order order)) ≡ Ok (estimate_fields (abstract_estimate e) ∷ [])
unfolding ask checks_of_query view_of_base
estimate_answered base order found given e books k l h =
    ap (λ o. value_unless_refused o (estimate_fields (estimate base (abstract_order order)) ∷ [])) (sym (tests_read base order found [] [] books k (λ n. refl)) ∙ h.accepted)
    ∙ ap (λ e. Ok (estimate_fields e ∷ [])) (sym (ap abstract_estimate (estimate_told base order found given e books k l h) ∙ told_back (estimate base (abstract_order order))))

-- ---- the rows

amount_or : (c : Option Charge) (n : ℕ) → option_map (λ c. c.amount) c ≡ Some n → option_map_or (λ c. c.amount) c 0 ≡ n
amount_or None n e = absurd (cc)
amount_or (Some c) n e = cc

commission_or : (b : Option Band) (rate qty price : ℕ) → option_map (λ b. b.rate) b ≡ Some rate → unwrap_or (option_map (λ b. commission b.rate qty price) b) 0 ≡ commission rate qty price
commission_or None rate qty price e = absurd (cc)
commission_or (Some b) rate qty price e = let h : b.rate ≡ rate = cc in ap (λ r. commission r qty price) h

row_made : (base : Base) (order : Order) (found : OrderPlanFacts) (stamp : ℕ) → AllFound base order found → unwrap_or found.last_trade 0 ≡ length base.trades
    → tables.trade_row (trade_of_order base stamp (abstract_order order)) ≡ trade_row_of_order order (terms_of_order order found) (next_trade_id found.last_trade) stamp
unfolding estimate
row_made base order found stamp f number =
    let o : model.Order = abstract_order order in
    let price : bid_price_of_order base o ≡ (terms_of_order order found).price = sym f.terms.price in
    let charge = amount_or _ (terms_of_order order found).charge f.terms.charge in
    let rate : unwrap_or (commission_by_band base o.account (trade_type_of_order_type o.order_type) o.symbol o.qty (bid_price_of_order base o)) 0
    ≡ commission (terms_of_order order found).rate order.qty (terms_of_order order found).price =
    commission_or _ (terms_of_order order found).rate order.qty (bid_price_of_order base o) f.terms.rate ∙ ap (commission (terms_of_order order found).rate order.qty) price in
    λ i. record (tables.trade_row (trade_of_order base stamp o)) { id = sym number i + 1; bid = price i; charge = charge i; commission = rate i }

-- the changes of an order are the rows that it makes
changes_made : (order : Order) (terms : Terms) (broker trade stamp : ℕ) (row : TradeRow) (t : Tables) → abstract_trade_row row ≡ trade_row_of_order order terms trade stamp
    → tables_after_changes (row_changes_of_order row (request_row_of_order order terms broker trade)) t
    ≡ tables_with_last_stamp stamp
    (tables_after_order (trade_row_of_order order terms trade stamp) (not (is_market_type (trade_type_of_order_type order.order_type))) broker t)
changes_made order terms broker trade stamp row t e = by_market (is_market_type (trade_type_of_order_type order.order_type))
  where
    r : tables.TradeRow
    r = trade_row_of_order order terms trade stamp

    request : RequestRow
    request = record { trade = trade; kind = (trade_type_of_order_type order.order_type); symbol = order.symbol; qty = order.qty; bid = terms.price; broker = broker }

    by_market : (b : Bool) → tables_after_changes (row_changes_of_order row (cond b None (Some request))) t
        ≡ tables_with_last_stamp stamp
        (tables_with_request_if_pending (not b) (request_row_of_pending_trade r broker)
        (tables_with_history_row (history_row_of_status r.id r.status r.stamp) (tables_with_trade r t)))
    by_market true = ap (λ r. tables_with_last_stamp r.stamp (tables_with_history_row (history_row_of_status r.id r.status r.stamp) (tables_with_trade r t))) e
    by_market false = ap (λ r. tables_with_last_stamp r.stamp
        (tables_with_request (abstract_request_row request) (tables_with_history_row (history_row_of_status r.id r.status r.stamp) (tables_with_trade r t)))) e

-- ---- the plan

-- the rows of an order by what was found
abbrev planned_rows : Order → OrderPlanFacts → ℕ → Tables → Tables
planned_rows order found stamp =
    tables_after_order (trade_row_of_order order (terms_of_order order found) (next_trade_id found.last_trade) stamp) (not (is_market_type (trade_type_of_order_type order.order_type)))
    (option_map_or (λ a. a.broker) found.account 0)

order_made : (base : Base) (order : Order) (found : OrderPlanFacts) (last : Option ℕ) (now stamp : ℕ) → PlanOrderPrecondition base order found last now
    → first_refusal (order_checks found ++ free_trade_id_check found.last_trade ∷ later_stamp_check last now ∷ []) ≡ None → stamp_after last now ≡ Some stamp
    → IsAcceptedWithEffect base now (PlaceOrder (abstract_order order)) stamp
    (model.Ordered stamp (next_trade_id found.last_trade) (first_status (trade_type_of_order_type order.order_type)) (estimate base (abstract_order order)))
    (planned_rows order found stamp)
unfolding reply_to_command
order_made base order found last now stamp k t s =
    let o : model.Order = abstract_order order in
    let e : refusal_of_command base now (PlaceOrder o) ≡ None = sym (order_refusal_read base order found last now k) ∙ t in
    let tested = found_refuses_none found last now t in
    let next = stamp_read base last now stamp k.last_read s in
    let number = number_read base order found k.books k.looked_up tested in
    let f : AllFound base order found = all_found base order found k.books k.looked_up.estimate tested in
    let row = row_made base order found (stamp_of_next_command base now) f number in
    is_done base now (PlaceOrder o) stamp
    (model.Ordered stamp (next_trade_id found.last_trade) (first_status (trade_type_of_order_type order.order_type)) (estimate base o))
    (planned_rows order found) k.books e next
    (λ i. model.Ordered (sym next i) (sym number i + 1) (first_status (trade_type_of_order_type order.order_type)) (estimate base o))
    (λ books e. step_order base now o books e
    ∙ (λ i. tables_with_last_stamp (stamp_of_next_command base now)
    (tables_after_order (row i) (not (is_market_type (trade_type_of_order_type order.order_type))) (sym f.broker i) (sheets base))))
    (books_order base now o)

pub plan_order_does : (base : Base) (order : Order) (found : OrderPlanFacts) (given : List Lot → Type 0) (last : Option ℕ) (now : ℕ) (plan : Plan) → PlanOrderPrecondition base order found last now
    → OrderPositionLotsSatisfy (sheets base) order given → IsOrderPlan order found given last now plan → PlanImplementsCommand base now (PlaceOrder (abstract_order order)) plan
plan_order_does base order found given last now plan k l p =
    let o : model.Order = abstract_order order in
    let tested = found_refuses_none found last now p.accepted in
    let d = order_made base order found last now p.stamp k p.accepted p.stamped in
    let est : abstract_estimate p.estimate ≡ estimate base o =
    ap abstract_estimate (estimate_told base order found given p.estimate k.books k.looked_up.estimate l (record { accepted = tested; estimated = p.estimated })) ∙ told_back (estimate base o) in
    record {
      steps = d.steps ∙ ap (λ reply. Ok (reply, base_after_command base now (PlaceOrder o)))
          ((λ i. model.Ordered p.stamp (next_trade_id found.last_trade) (first_status (trade_type_of_order_type order.order_type)) (sym est i)) ∙ sym (ap abstract_reply p.replied));
      rows = d.rows
          ∙ sym (changes_made order (terms_of_order order found) (option_map_or (λ a. a.broker) found.account 0) (next_trade_id found.last_trade) p.stamp p.changes.row
          (sheets base) p.changes.added)
          ∙ sym (ap (λ changes. tables_after_changes changes (sheets base)) p.changes.changed);
      books_after = d.books_after;
    }
