-- The plan of a result implements its command.
use Rattle.std.proofs.Common.{◌≡◌, ◌<◌, ℕ, ◌+◌, Bool, true, false, cond, zero, suc, List, [], ◌∷◌, ◌++◌, refl, sym, subst, ◌∙◌, ap, length, map, arith, ℤ, pos, ◌+ℤ◌, Option, Some, None}
use Rattle.std.specs.Prelude.{decimal, codes, is_none, is_some, option_map, option_to_list, unwrap_or, flat_map, Ok}
use Rattle.std.specs.Option.{option_map_or}
use Rattle.std.proofs.lemmas.Int.{ints}
use Rattle.brk_lots.specs.Closing.{IsEffectOfDealOnLots}
use Rattle.brk_lots.specs.Values.{closing_values_of_deal}
use Rattle.brk_lots.specs.Lots.{list_reversed_if_lifo, abstract_lot, abstract_touch, shares_of_lots}
use Rattle.brk_lots.specs.declared.closing.ClosedLots.{ClosedLots}
use Rattle.brk_lots.specs.declared.lot.Lot.{Lot}
use Rattle.brk_lots.specs.declared.lot.Touch.{Touch}
use Rattle.brk_model.specs.Base.{Base, broker_id_of_account, completed_trades, last_status_stamp_of_trade, trade_with_id}
use Rattle.brk_model.specs.Commands as model
use Rattle.brk_model.specs.Commands.{CompleteTrade, CompletedTrade}
use Rattle.brk_model.specs.Derived as derived
use Rattle.brk_model.specs.Derived.{balance_of_account, commission_total_of_broker, due_day_of_completion_stamp, due_day, postings_of_base, shares_of_position}
use Rattle.brk_model.specs.Derived.{holding_summary_quantity, trade_count_of_broker}
use Rattle.brk_model.specs.Lists.{is_zero}
use Rattle.brk_model.specs.Records.{Trade}
use Rattle.brk_model.specs.Results as results
use Rattle.brk_model.specs.Results.{trade_after_completion, completion_of_trade, deal_of_result, base_after_result}
use Rattle.brk_model.specs.Shares.{lots_of_shares, opened_shares, signed_by_side, touches_of_existing_lots}
use Rattle.brk_model.specs.Sheets.{sheets}
use Rattle.brk_model.specs.Step.{reply_to_command}
use Rattle.brk_model.specs.Tables as tables
use Rattle.brk_model.specs.Tables.{SummaryRow, Tables, TradeRow, trade_row}
use Rattle.brk_model.specs.Tests.{first_refusal, stamp_of_next_command, refusal_of_command}
use Rattle.brk_money.specs.Kinds.{side_of_trade_type, trade_type_name}
use Rattle.brk_money.specs.Spelling.{Text}
use Rattle.brk_money.specs.declared.side.Side.{Side}
use Rattle.brk_money.specs.declared.side.Side.TheVariants.{Buy, Sell}
use Rattle.brk_money.specs.declared.status.Status.TheVariants.{Completed}
use Rattle.brk_trade_rows.specs.Changes.{tables_after_change, tables_after_changes, tables_with_balance, tables_with_broker_totals, tables_with_trade_completed}
use Rattle.brk_trade_rows.specs.Changes.{tables_with_history_row, tables_with_last_stamp, tables_with_lot_change, tables_with_cash_row, tables_with_settlement}
use Rattle.brk_trade.specs.Outcomes.{deal_of_trade_row, figures_of_result, quantity_in_summary, result_checks, shares_held_after_trade}
use Rattle.brk_trade_plans.specs.Replies.{abstract_reply}
use Rattle.brk_trade.specs.Results as planner
use Rattle.brk_trade.specs.Results.{CompletesExistingTrade, row_changes_of_cash_row, row_changes_of_result, first_cash_type_of_trade, row_changes_of_opened_lot}
use Rattle.brk_trade.specs.Results.{summary_broker_settlement_changes, row_change_of_summary, row_changes_of_touched_lot, row_changes_of_completed_trade}
use Rattle.brk_ref.specs.Rows.{cash_type_text, abstract_cash_row, abstract_trade_row}
use Rattle.brk_ref.specs.declared.cash_row.CashRow.{CashRow}
use Rattle.brk_trade_rows.specs.declared.change.Change.{Change}
use Rattle.brk_trade_rows.specs.declared.change.Change.TheVariants as change
use Rattle.brk_trade.specs.declared.outcome.ResultFigures.{ResultFigures}
use Rattle.brk_trade.specs.declared.result_found.ResultPlanFacts.{ResultPlanFacts}
use Rattle.brk_trade_plans.specs.declared.plan.Plan.{Plan}
use Rattle.brk_trade_plans.specs.declared.reply.Reply.TheVariants as reply
use Rattle.brk_ref.specs.declared.summary_row.SummaryRow as summary
use Rattle.brk_ref.specs.declared.trade_row.TradeRow as planned
use Rattle.brk_trade_books.specs.Books.{BooksInvariant}
use Rattle.brk_trade_theorems.specs.Plans.{PlanImplementsCommand}
use Rattle.brk_trade_books.specs.Steps.{IsAcceptedWithEffect, base_after_command}
use Rattle.brk_trade_theorems.specs.ResultPlans.{PlanResultPrecondition, PassesFirstResultChecks}
use Rattle.brk_trade_books.specs.Results.{tables_with_cash_row_if_cash_trade, tables_with_trade_completed_and_history, tables_with_lots_opened}
use Rattle.brk_trade_books.specs.Results.{tables_after_result, result_rows_of_trade, tables_with_summary_changed, tables_with_lots_touched}
use Rattle.brk_trade_books.specs.TradeReads.{lots_of_position, summary_row_if_nonzero, summary_row_of_position}
use Rattle.brk_trade_books.specs.Trading.{history_row_of_status}
use Rattle.brk_trade_theorems.proofs.QuotedTicks.{after_more}
use Rattle.brk_trade_theorems.proofs.ResultFinding.{TradeFound, amount_read, balance_read, broker_found, commission_read, commissions_read}
use Rattle.brk_trade_theorems.proofs.ResultFinding.{AccountTerms, account_found, next_found, passes_rate, passes_status, passes_summary, result_refusal, result_values}
use Rattle.brk_trade_theorems.proofs.ResultFinding.{rule_found, security_found, summary_found, summary_read, tax_read, trade_found}
use Rattle.brk_trade_books.proofs.ResultKeeping.{Found, books_result, found_at, step_result, submitted}
use Rattle.brk_trade_books.proofs.ResultRows.{IsResult, moment_then}
use Rattle.brk_trade_books.proofs.ResultSums.{count_grows}
use Rattle.brk_trade_books.proofs.Summaries.{reads_summary_row}
use Rattle.brk_trade_books.proofs.Tested.{none_refuse}
use Rattle.brk_trade_theorems.proofs.TradePlanning.{is_done, stamp_read}
use Rattle.brk_trade_theorems.proofs.ResultRefusing.{at_market, deal_read, held_by_row, lots_met, lots_shares, trade_of}

-- ---- the rows

touched_made : (trade : ℕ) (touched : List Touch) (t : Tables)
    → tables_after_changes (flat_map (row_changes_of_touched_lot trade) touched) t ≡ tables_with_lots_touched trade (map abstract_touch touched) t
touched_made trade [] t = refl
touched_made trade (touch ∷ touched) t =
    after_more (row_changes_of_touched_lot trade touch) (flat_map (row_changes_of_touched_lot trade) touched) t
    ∙ ap (λ u. tables_after_changes (flat_map (row_changes_of_touched_lot trade) touched)
    (tables_with_lot_change (record { lot = touch.lot; trade = trade; before = touch.before; after = touch.after }) u)) (left touch (is_zero touch.after))
    ∙ touched_made trade touched _
  where
    left : (touch : Touch) (b : Bool) → tables_after_change (cond b (change.RemoveLot touch.lot) (change.SetLot touch.lot touch.after)) t
        ≡ cond b (tables_after_change (change.RemoveLot touch.lot) t) (tables_after_change (change.SetLot touch.lot touch.after) t)
    left touch true = refl
    left touch false = refl

opened_made : (trade : planned.TradeRow) (ls : List Lot) (t : Tables)
    → tables_after_changes (flat_map (row_changes_of_opened_lot trade) ls) t ≡ tables_with_lots_opened (abstract_trade_row trade) (map abstract_lot ls) t
opened_made trade [] t = refl
opened_made trade (lot ∷ ls) t = after_more (row_changes_of_opened_lot trade lot) (flat_map (row_changes_of_opened_lot trade) ls) t ∙ opened_made trade ls _

-- shares of some trade, either way, are not none
moved_some : (side : Side) (n : ℕ) → 0 < n → is_zero (pos 0 +ℤ signed_by_side side n) ≡ false
moved_some side zero h = absurd (omega (arith, h))
moved_some Buy (suc n) h = ap is_zero (plain (pos (suc n)))
  where
    plain : (z : ℤ) → pos 0 +ℤ z ≡ z
    plain z = omega (arith, ints)
moved_some Sell (suc n) h = ap is_zero (plain (signed_by_side Sell (suc n)))
  where
    plain : (z : ℤ) → pos 0 +ℤ z ≡ z
    plain z = omega (arith, ints)

summary_made : (found : ResultPlanFacts) (row : Option SummaryRow) (before after : ℤ) (t : Tables) → quantity_in_summary found ≡ option_map (λ r. r.qty) row
    → (row ≡ None → is_zero before ≡ true) → ((r : SummaryRow) → row ≡ Some r → is_zero before ≡ false) → (row ≡ None → is_zero after ≡ false)
    → tables_after_change (row_change_of_summary (quantity_in_summary found) found.trade after) t
    ≡ tables_with_summary_changed before after (record { account = found.trade.account; symbol = found.trade.symbol; qty = after }) t
summary_made found row before after t e none some new = by_row row refl e
  where
    S : summary.SummaryRow
    S = record { account = found.trade.account; symbol = found.trade.symbol; qty = after }

    F : Option ℤ → Tables
    F o = tables_after_change (row_change_of_summary o found.trade after) t

    M : Bool → Bool → Tables
    M a b = cond a (tables_after_change (change.RemoveSummary found.trade.account found.trade.symbol) t)
        (cond b (tables_after_change (change.AddSummary S) t) (tables_after_change (change.SetSummary S) t))

    set : (q : ℤ) (b : Bool) → tables_after_change (cond b (change.RemoveSummary found.trade.account found.trade.symbol) (change.SetSummary S)) t ≡ M b false
    set q true = refl
    set q false = refl

    by_row : (o : Option SummaryRow) → row ≡ o → quantity_in_summary found ≡ option_map (λ r. r.qty) row → F (quantity_in_summary found) ≡ M (is_zero after) (is_zero before)
    by_row None f e = ap F (e ∙ ap (option_map (λ r. r.qty)) f) ∙ sym (λ i. M (new f i) (none f i))
    by_row (Some r) f e = ap F (e ∙ ap (option_map (λ r. r.qty)) f) ∙ set r.qty (is_zero after) ∙ sym (ap (M (is_zero after)) (some r f))

-- ---- a completion

-- a result that was planned, of the trade that it completes
record Planned (base : Base) (price : ℕ) (last : Option ℕ) (now : ℕ) (t : Trade) (found : ResultPlanFacts) (closed : ClosedLots) (stamp : ℕ) : Type 0 where
  pub found_it : TradeFound base t found
  pub front : List Trade
  pub back : List Trade
  pub result : IsResult base stamp price t front back
  pub some_shares : 0 < found.trade.qty
  pub values : closed.values ≡ result_values base stamp price t
  pub touched : map abstract_touch closed.touched.items
      ≡ list_reversed_if_lifo t.is_lifo
      (touches_of_existing_lots (deal_of_result stamp price t) (shares_of_position (completed_trades base) t.account t.symbol))
  pub opened : map abstract_lot (option_to_list closed.opened) ≡ lots_of_shares (opened_shares (deal_of_result stamp price t) (shares_of_position (completed_trades base) t.account t.symbol))
  pub one : PassesFirstResultChecks 1 found
  pub rated : is_none found.listed.rate ≡ false
  pub two : PassesFirstResultChecks 2 found
  pub three : PassesFirstResultChecks 3 found

abbrev outcome_planned : ResultPlanFacts → ℕ → ClosedLots → ℕ → ResultFigures
outcome_planned found price closed stamp = figures_of_result found price closed.values stamp

-- its outcome is what the definitions say
record Agrees (base : Base) (price : ℕ) (t : Trade) (found : ResultPlanFacts) (closed : ClosedLots) (stamp : ℕ) : Type 0 where
  pub commission : (outcome_planned found price closed stamp).completed.commission ≡ (trade_after_completion base stamp price t).commission
  pub tax : (outcome_planned found price closed stamp).completed.tax ≡ (trade_after_completion base stamp price t).tax
  pub amount : (outcome_planned found price closed stamp).completed.amount ≡ derived.settlement_amount base.accounts (trade_after_completion base stamp price t)
  pub due : (outcome_planned found price closed stamp).completed.due_day ≡ due_day base.rule (trade_after_completion base stamp price t)
  pub summary : (outcome_planned found price closed stamp).summary ≡ holding_summary_quantity (completed_trades (base_after_result base stamp price t)) t.account t.symbol
  pub balance : (outcome_planned found price closed stamp).completed.balance ≡ balance_of_account base.accounts (postings_of_base (base_after_result base stamp price t)) t.account
  pub commissions : (outcome_planned found price closed stamp).commissions
      ≡ commission_total_of_broker base.accounts (completed_trades (base_after_result base stamp price t)) (broker_id_of_account base t.account)
  pub trades : found.parties.broker.trades +ℤ pos 1 ≡ pos (trade_count_of_broker base.accounts (completed_trades (base_after_result base stamp price t)) (broker_id_of_account base t.account))
  pub broker : found.parties.account.account.broker ≡ broker_id_of_account base t.account

agrees : (base : Base) (price : ℕ) (last : Option ℕ) (now : ℕ) (t : Trade) (found : ResultPlanFacts) (closed : ClosedLots) (stamp : ℕ) → Planned base price last now t found closed stamp
    → Agrees base price t found closed stamp
agrees base price last now t found closed stamp k =
    let f = k.found_it in
    record {
      commission = commission_read base stamp price t found f k.one k.rated;
      tax = ap (λ v. (figures_of_result found price v stamp).completed.tax) k.values ∙ tax_read base stamp price t found f k.three;
      amount = ap (λ v. (figures_of_result found price v stamp).completed.amount) k.values ∙ amount_read base stamp price t found f k.three k.rated k.one;
      due = λ i. due_day_of_completion_stamp (rule_found base t found f k.three i) (sym (moment_then base stamp price t) i);
      summary = summary_read base stamp price t k.front k.back found f k.result k.two;
      balance = ap (λ v. (figures_of_result found price v stamp).completed.balance) k.values ∙ balance_read base stamp price t k.front k.back found f k.result k.three k.rated k.one;
      commissions = commissions_read base stamp price t k.front k.back found f k.result k.three k.rated k.one;
      trades = one_more found.parties.broker.trades (trade_count_of_broker base.accounts (completed_trades base) (broker_id_of_account base t.account)) (broker_found base t found f k.three).0
          ∙ ap pos (sym (count_grows base stamp price t k.front k.back k.result));
      broker = ap (λ (a : AccountTerms). a.broker) (account_found base t found f k.three);
    }
  where
    one_more : (m : ℤ) (n : ℕ) → m ≡ pos n → m +ℤ pos 1 ≡ pos (n + 1)
    one_more m n e = ap (λ z. z +ℤ pos 1) e

-- ---- the reply

told_read : (base : Base) (price : ℕ) (last : Option ℕ) (now : ℕ) (t : Trade) (found : ResultPlanFacts) (closed : ClosedLots) (stamp : ℕ) → Planned base price last now t found closed stamp
    → CompletedTrade stamp (completion_of_trade base stamp price t) ≡ abstract_reply (reply.Completed (outcome_planned found price closed stamp).completed)
unfolding completion_of_trade trade_after_completion
told_read base price last now t found closed stamp k =
    let a = agrees base price last now t found closed stamp k in
    sym (λ i. CompletedTrade stamp (record {
      commission = a.commission i;
      tax = a.tax i;
      amount = a.amount i;
      due_day = a.due i;
      buy_value = (k.values i).buy_value;
      sell_value = (k.values i).sell_value;
      balance = a.balance i;
    }))

-- ---- the changes, one after another

trade_made : (base : Base) (price : ℕ) (last : Option ℕ) (now : ℕ) (t : Trade) (found : ResultPlanFacts) (closed : ClosedLots) (stamp : ℕ) → Planned base price last now t found closed stamp
    → (x : Tables) → tables_after_changes (row_changes_of_completed_trade found.trade.id price (outcome_planned found price closed stamp).completed) x
    ≡ tables_with_trade_completed_and_history (trade_row (trade_after_completion base stamp price t)) x
unfolding trade_after_completion
trade_made base price last now t found closed stamp k x =
    let a = agrees base price last now t found closed stamp k in
    let m : stamp ≡ last_status_stamp_of_trade (trade_after_completion base stamp price t) = sym (moment_then base stamp price t) in
    λ i. tables_with_history_row (history_row_of_status (k.found_it.row i).id Completed (m i)) (tables_with_trade_completed (k.found_it.row i).id (m i) price (a.commission i) (a.tax i) x)

lots_made : (base : Base) (price : ℕ) (last : Option ℕ) (now : ℕ) (t : Trade) (found : ResultPlanFacts) (closed : ClosedLots) (stamp : ℕ) → Planned base price last now t found closed stamp
    → (x : Tables) → tables_after_changes (flat_map (row_changes_of_opened_lot found.trade) (option_to_list closed.opened))
    (tables_after_changes (flat_map (row_changes_of_touched_lot found.trade.id) closed.touched.items) x)
    ≡ tables_with_lots_opened (trade_row (trade_after_completion base stamp price t)) (result_rows_of_trade base stamp price t).opened
    (tables_with_lots_touched t.id (result_rows_of_trade base stamp price t).touched x)
unfolding trade_after_completion
lots_made base price last now t found closed stamp k x =
    ap (tables_after_changes (flat_map (row_changes_of_opened_lot found.trade) (option_to_list closed.opened))) (touched_made found.trade.id closed.touched.items x)
    ∙ opened_made found.trade (option_to_list closed.opened) (tables_with_lots_touched found.trade.id (map abstract_touch closed.touched.items) x)
    ∙ (λ i. tables_with_lots_opened (k.found_it.row i) (k.opened i) (tables_with_lots_touched (k.found_it.row i).id (k.touched i) x))

cash_type_read : (b : Bool) → cash_type_text (first_cash_type_of_trade b) ≡ cond b (codes "Cash Account") (codes "Margin")
cash_type_read true = refl
cash_type_read false = refl

-- the summary is a row where it is not 0
summary_row_is : (base : Base) (price : ℕ) (last : Option ℕ) (now : ℕ) (t : Trade) (found : ResultPlanFacts) (closed : ClosedLots) (stamp : ℕ) → Planned base price last now t found closed stamp
    → (x : Tables) → tables_after_change (row_change_of_summary (quantity_in_summary found) found.trade (outcome_planned found price closed stamp).summary) x
    ≡ tables_with_summary_changed (holding_summary_quantity (completed_trades base) t.account t.symbol)
    (holding_summary_quantity (completed_trades (base_after_result base stamp price t)) t.account t.symbol)
    (record { account = t.account; symbol = t.symbol; qty = holding_summary_quantity (completed_trades (base_after_result base stamp price t)) t.account t.symbol }) x
summary_row_is base price last now t found closed stamp k x =
    let a = agrees base price last now t found closed stamp k in
    let f = k.found_it in
    let row : summary_row_of_position (sheets base) t.account t.symbol ≡ summary_row_if_nonzero t.account t.symbol (holding_summary_quantity (completed_trades base) t.account t.symbol) =
    reads_summary_row base t.account t.symbol f.books (ap is_some f.owner.there) (ap is_some f.listed_is) in
    summary_made found (summary_row_of_position (sheets base) t.account t.symbol) (holding_summary_quantity (completed_trades base) t.account t.symbol)
    (shares_held_after_trade found) x (summary_found base t found f k.two)
    (λ e. none_zero t.account t.symbol (holding_summary_quantity (completed_trades base) t.account t.symbol)
    (is_zero (holding_summary_quantity (completed_trades base) t.account t.symbol)) refl (sym row ∙ e))
    (λ r e. some_left t.account t.symbol (holding_summary_quantity (completed_trades base) t.account t.symbol)
    (is_zero (holding_summary_quantity (completed_trades base) t.account t.symbol)) refl r (sym row ∙ e))
    (λ e. ap (λ o. is_zero (unwrap_or o (pos 0) +ℤ signed_by_side (side_of_trade_type found.trade.kind) found.trade.qty)) (summary_found base t found f k.two ∙ ap (option_map (λ r. r.qty)) e)
    ∙ moved_some (side_of_trade_type found.trade.kind) found.trade.qty k.some_shares)
    ∙ (λ i. tables_with_summary_changed (holding_summary_quantity (completed_trades base) t.account t.symbol) (a.summary i)
    (record { account = (f.row i).account; symbol = (f.row i).symbol; qty = a.summary i }) x)
  where
    none_zero : (account : ℕ) (symbol : Text) (q : ℤ) (b : Bool) → is_zero q ≡ b → summary_row_if_nonzero account symbol q ≡ None → is_zero q ≡ true
    none_zero account symbol q true e h = e
    none_zero account symbol q false e h =
        let row : SummaryRow = record { account = account; symbol = symbol; qty = q } in
        let k : Some row ≡ None = sym (ap (λ b. cond b None (Some row)) e) ∙ h in absurd (cc)

    some_left : (account : ℕ) (symbol : Text) (q : ℤ) (b : Bool) → is_zero q ≡ b → (r : SummaryRow) → summary_row_if_nonzero account symbol q ≡ Some r → is_zero q ≡ false
    some_left account symbol q false e r h = e
    some_left account symbol q true e r h =
        let row : SummaryRow = record { account = account; symbol = symbol; qty = q } in
        let k : None ≡ Some r = sym (ap (λ b. cond b None (Some row)) e) ∙ h in absurd (cc)

sums_made : (base : Base) (price : ℕ) (last : Option ℕ) (now : ℕ) (t : Trade) (found : ResultPlanFacts) (closed : ClosedLots) (stamp : ℕ) → Planned base price last now t found closed stamp
    → (x : Tables) → tables_after_changes (summary_broker_settlement_changes found (outcome_planned found price closed stamp)) x
    ≡ tables_with_settlement (result_rows_of_trade base stamp price t).settlement
    (tables_with_broker_totals (result_rows_of_trade base stamp price t).broker (result_rows_of_trade base stamp price t).trades (result_rows_of_trade base stamp price t).commissions
    (tables_with_summary_changed (holding_summary_quantity (completed_trades base) t.account t.symbol)
    (holding_summary_quantity (completed_trades (base_after_result base stamp price t)) t.account t.symbol)
    (record { account = t.account; symbol = t.symbol; qty = holding_summary_quantity (completed_trades (base_after_result base stamp price t)) t.account t.symbol }) x))
unfolding trade_after_completion
sums_made base price last now t found closed stamp k x =
    let a = agrees base price last now t found closed stamp k in
    let f = k.found_it in
    λ i. tables_with_settlement (record {
      trade = (f.row i).id;
      cash_type = (ap (λ (r : TradeRow). cash_type_text (first_cash_type_of_trade r.is_cash)) f.row ∙ cash_type_read t.is_cash) i;
      due_day = a.due i;
      amount = a.amount i;
    })
    (tables_with_broker_totals (a.broker i) (a.trades i) (a.commissions i) (summary_row_is base price last now t found closed stamp k x i))

cash_made : (base : Base) (price : ℕ) (last : Option ℕ) (now : ℕ) (t : Trade) (found : ResultPlanFacts) (closed : ClosedLots) (stamp : ℕ) → Planned base price last now t found closed stamp
    → (cash : Option CashRow) → option_map abstract_cash_row cash ≡ planner.cash_row_of_result found (outcome_planned found price closed stamp).completed → (x : Tables)
    → tables_after_changes (flat_map (row_changes_of_cash_row found.trade.account (outcome_planned found price closed stamp).completed.balance) (option_to_list cash)) x
    ≡ tables_with_cash_row_if_cash_trade t.is_cash (result_rows_of_trade base stamp price t).cash t.account (result_rows_of_trade base stamp price t).balance x
unfolding trade_after_completion
cash_made base price last now t found closed stamp k cash moved x = by_cash t.is_cash refl cash (moved ∙ told)
  where
    a : Agrees base price t found closed stamp
    a = agrees base price last now t found closed stamp k

    f : TradeFound base t found
    f = k.found_it

    row : tables.CashRow
    row = (result_rows_of_trade base stamp price t).cash

    moves : tables.CashRow
    moves = record {
      id = length (postings_of_base base) + 1;
      account = t.account;
      trade = Some t.id;
      stamp = last_status_stamp_of_trade (trade_after_completion base stamp price t);
      amount = row.amount;
      name = results.cash_row_name (codes " shares of ") base t;
    }

    name : t.is_cash ≡ true → row.name ≡ results.cash_row_name (codes " shares of ") base t
    name e = ap (λ b. cond b (results.cash_row_name (codes " shares of ") base t) []) e

    told : planner.cash_row_of_result found (outcome_planned found price closed stamp).completed
        ≡ cond t.is_cash (Some moves) None
    told = λ i. cond (f.row i).is_cash (Some (record {
      id = next_found base t found f k.three i;
      account = (f.row i).account;
      trade = Some (f.row i).id;
      stamp = sym (moment_then base stamp price t) i;
      amount = a.amount i;
      name = trade_type_name (f.row i).kind ++ 32 ∷ decimal (f.row i).qty ++ codes " shares of " ++ security_found base t found f k.three i;
    })) None

    Made : Bool → Option CashRow → Type 0
    Made b cash = tables_after_changes (flat_map (row_changes_of_cash_row found.trade.account (outcome_planned found price closed stamp).completed.balance) (option_to_list cash)) x
        ≡ tables_with_cash_row_if_cash_trade b row t.account (result_rows_of_trade base stamp price t).balance x

    unsome : (c d : tables.CashRow) → Some c ≡ Some d → c ≡ d
    unsome c d e = cc

    by_cash : (b : Bool) → t.is_cash ≡ b → (cash : Option CashRow)
        → option_map abstract_cash_row cash ≡ cond t.is_cash (Some moves) None
        → Made t.is_cash cash
    by_cash true e None h =
        let j : None ≡ Some moves =
        h ∙ ap (λ b. cond b (Some moves) None) e in
        absurd (cc)
    by_cash true e (Some c) h =
        let j : Some (abstract_cash_row c) ≡ Some moves =
        h ∙ ap (λ b. cond b (Some moves) None) e in
        let same : abstract_cash_row c ≡ row = unsome (abstract_cash_row c) moves j ∙ (λ i. record row { name = sym (name e) i }) in
        (λ i. tables_with_balance (f.row i).account (a.balance i) (tables_with_cash_row (same i) x))
        ∙ sym (ap (λ b. tables_with_cash_row_if_cash_trade b row t.account (result_rows_of_trade base stamp price t).balance x) e)
    by_cash false e None h = sym (ap (λ b. tables_with_cash_row_if_cash_trade b row t.account (result_rows_of_trade base stamp price t).balance x) e)
    by_cash false e (Some c) h =
        let j : Some (abstract_cash_row c) ≡ None =
        h ∙ ap (λ b. cond b (Some moves) None) e in
        absurd (cc)

-- all of them
changes_made : (base : Base) (price : ℕ) (last : Option ℕ) (now : ℕ) (t : Trade) (found : ResultPlanFacts) (closed : ClosedLots) (stamp : ℕ) → Planned base price last now t found closed stamp
    → (cash : Option CashRow) → option_map abstract_cash_row cash ≡ planner.cash_row_of_result found (outcome_planned found price closed stamp).completed → (x : Tables)
    → tables_after_changes (row_changes_of_result found price closed (outcome_planned found price closed stamp) cash) x
    ≡ tables_with_last_stamp stamp (tables_after_result (result_rows_of_trade base stamp price t) x)
unfolding trade_after_completion
changes_made base price last now t found closed stamp k cash moved x =
    let o : ResultFigures = outcome_planned found price closed stamp in
    let T : List Change = row_changes_of_completed_trade found.trade.id price o.completed in
    let L : List Change = flat_map (row_changes_of_touched_lot found.trade.id) closed.touched.items in
    let O : List Change = flat_map (row_changes_of_opened_lot found.trade) (option_to_list closed.opened) in
    let S : List Change = summary_broker_settlement_changes found o in
    let C : List Change = flat_map (row_changes_of_cash_row found.trade.account o.completed.balance) (option_to_list cash) in
    after_more ((((T ++ L) ++ O) ++ S) ++ C) (change.SetLastStamp stamp ∷ []) x
    ∙ ap (tables_with_last_stamp stamp) (after_more (((T ++ L) ++ O) ++ S) C x
    ∙ ap (tables_after_changes C) (after_more ((T ++ L) ++ O) S x
    ∙ ap (tables_after_changes S) (after_more (T ++ L) O x ∙ ap (tables_after_changes O) (after_more T L x)
    ∙ ap (λ y. tables_after_changes O (tables_after_changes L y)) (trade_made base price last now t found closed stamp k x)
    ∙ lots_made base price last now t found closed stamp k (tables_with_trade_completed_and_history (trade_row (trade_after_completion base stamp price t)) x))
    ∙ sums_made base price last now t found closed stamp k _)
    ∙ cash_made base price last now t found closed stamp k cash moved _)

-- ---- the plan

-- an accepted result is done by its rows
pub result_done : (base : Base) (id price now stamp : ℕ) (t : Trade) → BooksInvariant base → trade_with_id base id ≡ Some t → refusal_of_command base now (CompleteTrade id price) ≡ None
    → stamp ≡ stamp_of_next_command base now
    → IsAcceptedWithEffect base now (CompleteTrade id price) stamp (CompletedTrade stamp (completion_of_trade base stamp price t))
    (tables_after_result (result_rows_of_trade base stamp price t))
unfolding reply_to_command
result_done base id price now stamp t books e accepted next =
    is_done base now (CompleteTrade id price) stamp (CompletedTrade stamp (completion_of_trade base stamp price t))
    (λ stamp. tables_after_result (result_rows_of_trade base stamp price t)) books accepted next
    (ap (λ o. option_map_or (λ t. CompletedTrade (stamp_of_next_command base now) (completion_of_trade base (stamp_of_next_command base now) price t)) o
    (model.Booked (stamp_of_next_command base now))) e
    ∙ (λ i. CompletedTrade (sym next i) (completion_of_trade base (sym next i) price t)))
    (step_result base now id price t e) (books_result base now id price)

pub result_plan_does : (base : Base) (id price : ℕ) (found : Option ResultPlanFacts) (given : List Lot → Type 0) (last : Option ℕ) (now : ℕ) (plan : Plan)
    → PlanResultPrecondition base id found given last now
    → CompletesExistingTrade found price given last now plan → PlanImplementsCommand base now (CompleteTrade id price) plan
result_plan_does base id price None given last now plan k p = absurd p
result_plan_does base id price (Some found) given last now plan k p =
    let t = trade_of base id (abstract_trade_row found.trade) k.trade_read in
    let f : TradeFound base t.0 found = trade_found base id t.0 found k.books t.1 t.2 k.looked_up in
    let next : p.stamp ≡ stamp_of_next_command base now = stamp_read base last now p.stamp k.last_read p.stamped in
    let tests = none_refuse (result_checks found price p.closed.values (Some p.stamp)) p.accepted in
    let held = lots_of_position (sheets base) found.trade.account found.trade.symbol in
    let met = lots_met base id found given k.books k.trade_read (at_market found tests.0) (k.lots_read (passes_status found tests.0))
    (held_by_row base t.0 found f (passes_rate found tests.0 tests.1.0)) in
    let closes : IsEffectOfDealOnLots (deal_of_trade_row found.trade price p.stamp) held p.closed = p.closes held met in
    let deal : deal_of_trade_row found.trade price p.stamp ≡ deal_of_result p.stamp price t.0 = deal_read t.0 found price p.stamp t.2 in
    let same : shares_of_lots held ≡ shares_of_position (completed_trades base) t.0.account t.0.symbol = lots_shares base t.0 found f in
    let values : p.closed.values ≡ result_values base p.stamp price t.0 = closes.values ∙ (λ i. closing_values_of_deal (deal i) (same i)) in
    let accepted : refusal_of_command base now (CompleteTrade id price) ≡ None =
    sym (result_refusal base now id price t.0 found last f t.1 k.last_read k.moment)
    ∙ (λ i. first_refusal (result_checks found price (result_values base (sym next i) price t.0) (p.stamped i)))
    ∙ sym (ap (λ v. first_refusal (result_checks found price v (Some p.stamp))) values) ∙ p.accepted in
    let stands : Found base now price t.0 = found_at base now id price t.0 k.books t.1 (submitted base now id price t.0 t.1 accepted) in
    let made : Planned base price last now t.0 found p.closed p.stamp = record {
      found_it = f;
      front = stands.front;
      back = stands.back;
      result = subst (λ (s : ℕ). IsResult base s price t.0 stands.front stands.back) (sym next) stands.result;
      some_shares = k.some_shares;
      values = values;
      touched = closes.lots.touched ∙ (λ i. list_reversed_if_lifo (deal i).is_lifo (touches_of_existing_lots (deal i) (same i)));
      opened = closes.lots.opened ∙ (λ i. lots_of_shares (opened_shares (deal i) (same i)));
      one = passes_status found tests.0;
      rated = tests.1.0;
      two = passes_rate found tests.0 tests.1.0;
      three = passes_summary found tests.0 tests.1.0 tests.1.1.0;
    } in
    let done = result_done base id price now p.stamp t.0 k.books t.1 accepted next in
    record {
      steps = done.steps ∙ ap (λ reply. Ok (reply, base_after_command base now (CompleteTrade id price)))
          (told_read base price last now t.0 found p.closed p.stamp made ∙ sym (ap abstract_reply p.replied));
      rows = done.rows ∙ sym (changes_made base price last now t.0 found p.closed p.stamp made p.changes.cash p.changes.moved (sheets base))
          ∙ sym (ap (λ changes. tables_after_changes changes (sheets base)) p.changes.changed);
      books_after = done.books_after;
    }
