-- The lots that are read for a result, and its refusal by the facts and these lots.
use Rattle.std.proofs.Common.{◌≡◌, ℕ, ◌==◌, Bool, true, false, not, List, refl, sym, subst, ◌∙◌, ap, Option, Some, None}
use Rattle.std.specs.Prelude.{option_map, Err}
use Rattle.std.proofs.lemmas.Bool.{eqb-true}
use Rattle.brk_lots.specs.Values.{closing_values_of_deal}
use Rattle.brk_lots.specs.Lots.{shares_of_lots}
use Rattle.brk_lots.specs.declared.lot.Lot.{Lot}
use Rattle.brk_lots.specs.Position.{AreOpenedByOtherTrades}
use Rattle.brk_model.specs.Base.{Base, completed_trades, has_last_status, last_status_change, trade_with_id}
use Rattle.brk_model.specs.Commands.{CompleteTrade}
use Rattle.brk_model.specs.Derived.{shares_of_position, holding_summary_quantity}
use Rattle.brk_model.specs.Joins.{trade_row_with_id}
use Rattle.brk_model.specs.Records.{Trade}
use Rattle.brk_model.specs.Results.{deal_of_result}
use Rattle.brk_model.specs.Sheets.{sheets}
use Rattle.brk_model.specs.Step.{step}
use Rattle.brk_model.specs.Tables.{TradeRow, trade_row}
use Rattle.brk_model.specs.Tests.{first_refusal, stamp_of_next_command, refusal_of_command}
use Rattle.brk_money.specs.Kinds.{is_same_trade_status, side_of_trade_type}
use Rattle.brk_money.specs.Moments.{stamp_after}
use Rattle.brk_money.specs.declared.refusal.Refusal.{Refusal}
use Rattle.brk_money.specs.declared.status.Status.TheVariants.{Submitted}
use Rattle.brk_trade.specs.Outcomes.{deal_of_trade_row, checks_before_reading_lots, result_checks, shares_held_before_trade}
use Rattle.brk_trade.specs.Results.{AreLotsBeforeTrade, IsResultRefusal}
use Rattle.brk_trade.proofs.Results.{first_refuses}
use Rattle.brk_ref.specs.Rows.{abstract_trade_row}
use Rattle.brk_trade.specs.declared.result_found.ResultPlanFacts.{ResultPlanFacts}
use Rattle.brk_trade_books.specs.Books.{BooksInvariant}
use Rattle.brk_trade_theorems.specs.ResultPlans.{TradePositionLotsSatisfy, PlanResultPrecondition, PassesFirstResultChecks}
use Rattle.brk_trade_books.specs.TradeReads.{lots_of_position}
use Rattle.brk_trade_books.proofs.Holding.{lots_given, total_is}
use Rattle.brk_trade_books.proofs.LotOrder.{shares_read}
use Rattle.brk_trade_books.proofs.Places.{FoundAt, find-at}
use Rattle.brk_trade_theorems.proofs.ResultFinding.{TradeFound, held_found, mark_status, nothing_refused, passes_rate, passes_status, result_refusal, result_values, trade_found}
use Rattle.brk_trade_books.proofs.ResultKeeping.{new_of_waiting}
use Rattle.brk_trade_books.proofs.ResultRows.{submitted_not_completed}
use Rattle.brk_trade_books.proofs.Tested.{none_refuse}
use Rattle.brk_trade_theorems.proofs.TradePlanning.{refused_step}
use Rattle.brk_trade_books.proofs.TradeReading.{reads_trade}

-- ---- the trade and its lots

-- the trade of a row that was found
pub trade_of : (base : Base) (id : ℕ) (row : TradeRow) → trade_row_with_id (sheets base) id ≡ Some row → (t : Trade) × (trade_with_id base id ≡ Some t) × (row ≡ trade_row t)
trade_of base id row e = by_trade (trade_with_id base id) refl
  where
    by_trade : (o : Option Trade) → trade_with_id base id ≡ o → (t : Trade) × (trade_with_id base id ≡ Some t) × (row ≡ trade_row t)
    by_trade None f = let k : Some row ≡ None = sym e ∙ reads_trade base id ∙ ap (option_map trade_row) f in absurd (cc)
    by_trade (Some t) f = let k : Some row ≡ Some (trade_row t) = sym e ∙ reads_trade base id ∙ ap (option_map trade_row) f in let j : row ≡ trade_row t = cc in (t, f, j)

-- the shares of its lots
pub lots_shares : (base : Base) (t : Trade) (found : ResultPlanFacts) → TradeFound base t found
    → shares_of_lots (lots_of_position (sheets base) found.trade.account found.trade.symbol) ≡ shares_of_position (completed_trades base) t.account t.symbol
lots_shares base t found f =
    shares_read base found.trade.account found.trade.symbol f.books ∙ ap (λ (r : TradeRow). shares_of_position (completed_trades base) r.account r.symbol) f.row

-- a trade at the market meets those of a position, from one of its ends, none of which it opened
pub lots_met : (base : Base) (id : ℕ) (found : ResultPlanFacts) (given : List Lot → Type 0) → BooksInvariant base → trade_row_with_id (sheets base) id ≡ Some (abstract_trade_row found.trade)
    → is_same_trade_status found.trade.status Submitted ≡ true → TradePositionLotsSatisfy (sheets base) found.trade given
    → shares_held_before_trade found ≡ holding_summary_quantity (completed_trades base) found.trade.account found.trade.symbol
    → AreLotsBeforeTrade given found (lots_of_position (sheets base) found.trade.account found.trade.symbol)
lots_met base id found given books e s k h =
    let trade = found.trade in
    let t = trade_of base id (abstract_trade_row trade) e in
    let at_market : has_last_status Submitted t.0 ≡ true = sym (ap (λ (r : TradeRow). is_same_trade_status r.status Submitted) t.2 ∙ mark_status (last_status_change t.0)) ∙ s in
    let g : FoundAt Trade (λ u. u.id == id) t.0 base.trades = find-at (λ u. u.id == id) base.trades t.0 t.1 in
    let same : trade.id ≡ id = ap (λ (r : TradeRow). r.id) t.2 ∙ eqb-true t.0.id id g.passes in
    let fresh : AreOpenedByOtherTrades id (lots_of_position (sheets base) trade.account trade.symbol) =
    new_of_waiting base id trade.account trade.symbol t.0 books t.1 (submitted_not_completed t.0 at_market) in (
      lots_given base trade.account trade.symbol trade.is_lifo given books k,
      subst (λ (m : ℕ). AreOpenedByOtherTrades m (lots_of_position (sheets base) trade.account trade.symbol)) (sym same) fresh,
      h ∙ sym (total_is base trade.account trade.symbol books),
    )

-- what it holds in all, by its row
pub held_by_row : (base : Base) (t : Trade) (found : ResultPlanFacts) → TradeFound base t found → PassesFirstResultChecks 2 found
    → shares_held_before_trade found ≡ holding_summary_quantity (completed_trades base) found.trade.account found.trade.symbol
held_by_row base t found f p = held_found base t found f p ∙ sym (ap (λ (r : TradeRow). holding_summary_quantity (completed_trades base) r.account r.symbol) f.row)

-- it meets them as the definitions say
pub deal_read : (t : Trade) (found : ResultPlanFacts) (price stamp : ℕ) → abstract_trade_row found.trade ≡ trade_row t → deal_of_trade_row found.trade price stamp ≡ deal_of_result stamp price t
deal_read t found price stamp row = ap (λ (r : TradeRow). record { trade = r.id; side = side_of_trade_type r.kind; qty = r.qty; price = price; stamp = stamp; is_lifo = r.is_lifo }) row

-- ---- the refusal

-- a trade that its status does not refuse is at the market
pub at_market : (found : ResultPlanFacts) → not (is_same_trade_status found.trade.status Submitted) ≡ false → is_same_trade_status found.trade.status Submitted ≡ true
at_market found e = by_status (is_same_trade_status found.trade.status Submitted) e
  where
    by_status : (b : Bool) → not b ≡ false → b ≡ true
    by_status true e = refl
    by_status false e = absurd (cc)

pub result_refused : (base : Base) (id price : ℕ) (found : Option ResultPlanFacts) (given : List Lot → Type 0) (last : Option ℕ) (now : ℕ) (refusal : Refusal)
    → PlanResultPrecondition base id found given last now
    → IsResultRefusal found price given last now refusal → step base now (CompleteTrade id price) ≡ Err refusal
result_refused base id price None given last now refusal k r =
    refused_step base now (CompleteTrade id price) refusal (nothing_refused base now id price (no_trade (trade_with_id base id) refl) ∙ ap Some (sym r))
  where
    no_trade : (o : Option Trade) → trade_with_id base id ≡ o → trade_with_id base id ≡ None
    no_trade None e = e
    no_trade (Some t) e =
        let h : None ≡ Some (trade_row t) = sym k.trade_read ∙ reads_trade base id ∙ ap (option_map trade_row) e in absurd (cc)
result_refused base id price (Some found) given last now refusal k r = by_first (first_refusal (checks_before_reading_lots found)) refl
  where
    t : (t : Trade) × (trade_with_id base id ≡ Some t) × (abstract_trade_row found.trade ≡ trade_row t)
    t = trade_of base id (abstract_trade_row found.trade) k.trade_read

    f : TradeFound base t.0 found
    f = trade_found base id t.0 found k.books t.1 t.2 k.looked_up

    stamp : ℕ
    stamp = stamp_of_next_command base now

    of_base : first_refusal (result_checks found price (result_values base stamp price t.0) (stamp_after last now)) ≡ refusal_of_command base now (CompleteTrade id price)
    of_base = result_refusal base now id price t.0 found last f t.1 k.last_read k.moment

    by_first : (o : Option Refusal) → first_refusal (checks_before_reading_lots found) ≡ o → step base now (CompleteTrade id price) ≡ Err refusal
    by_first (Some cause) e =
        let early : refusal ≡ cause = rw e at r.early in
        refused_step base now (CompleteTrade id price) refusal
        (sym of_base ∙ first_refuses found price (result_values base stamp price t.0) (stamp_after last now) cause e ∙ ap Some (sym early))
    by_first None e =
        let p = none_refuse (checks_before_reading_lots found) e in
        let held = held_by_row base t.0 found f (passes_rate found p.0 p.1.0) in
        let met = lots_met base id found given k.books k.trade_read (at_market found p.0) (k.lots_read (passes_status found p.0)) held in
        let values : closing_values_of_deal (deal_of_trade_row found.trade price stamp)
        (shares_of_lots (lots_of_position (sheets base) found.trade.account found.trade.symbol)) ≡ result_values base stamp price t.0 =
        λ i. closing_values_of_deal (deal_read t.0 found price stamp t.2 i) (lots_shares base t.0 found f i) in
        refused_step base now (CompleteTrade id price) refusal
        (sym of_base ∙ sym (ap (λ v. first_refusal (result_checks found price v (stamp_after last now))) values)
        ∙ r.late (lots_of_position (sheets base) found.trade.account found.trade.symbol) stamp met)
