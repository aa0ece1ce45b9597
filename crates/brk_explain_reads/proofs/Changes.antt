-- The changes of a lot, and the lot that they make.
use Rattle.std.proofs.Common.{◌≡◌, ◌∙◌, ◌==◌, ◌&&◌, ℕ, Bool, true, false, not, arith, List, None, Some, ap, filter, find, map, option_map, pos, refl, sym}
use Rattle.std.specs.Prelude.{unwrap_or}
use Rattle.std.specs.Option.{option_map_or}
use Rattle.std.proofs.lemmas.Bool.Decides.{nat_tests}
use Rattle.brk_ref.specs.Rows.{abstract_trade_row}
use Rattle.brk_ref.specs.Rows as rows
use Rattle.brk_ref.specs.declared.lot_change.LotChange.{LotChange}
use Rattle.brk_ref.specs.declared.trade_row.TradeRow as code
use Rattle.brk_model.specs.Joins.{trade_row_with_id}
use Rattle.brk_model.specs.Lists.{sort_by_key}
use Rattle.brk_model.specs.Tables.{HoldingHistoryRow, Tables, TradeRow}
use Rattle.brk_model_explain.specs.Holdings as model
use Rattle.brk_model_explain.specs.Holdings.{recorded_lot_change, changes_of_lot_by_other_trades, lot_with_changes_by_others, quantity_opened_by_trade}
use Rattle.brk_model_explain.specs.Trades.{opened_lot_row, completion_price_or_zero}
use Rattle.brk_explain_rows.specs.Details.{abstract_priced_lot_change, abstract_lot_details}
use Rattle.brk_explain_rows.specs.declared.holding_details.LotDetails.{LotDetails}
use Rattle.brk_explain_reads.specs.HoldingParts.{AreLotChangesByTradeId, lot_if_opened, lot_opened_by_trade}
use Rattle.brk_explain_reads.specs.declared.lot_changes.OpeningAndLaterChanges.{OpeningAndLaterChanges}
use Rattle.brk_explain_reads.proofs.Each.{filter_both, find_both, find_same, found_passes, map_map}

-- a change whose trade was found with its price
pub step_known : (t : Tables) (h : HoldingHistoryRow) (u : TradeRow) (price : ℕ) → trade_row_with_id t h.trade ≡ Some u → u.price ≡ Some price
    → record { trade = h.trade; stamp = u.stamp; price = price; before = h.before; after = h.after } ≡ recorded_lot_change t h
step_known t h u price e p = λ i. record {
  trade = h.trade;
  stamp = option_map_or (λ (r : TradeRow). r.stamp) (sym e i) 0;
  price = (sym (ap (λ o. option_map_or completion_price_or_zero o 0) e ∙ ap (λ o. unwrap_or o 0) p)) i;
  before = h.before;
  after = h.after;
}

and_turn : (a b : Bool) → (a && b) ≡ (b && a)
and_turn true true = refl
and_turn true false = refl
and_turn false true = refl
and_turn false false = refl

-- the changes that were found, from all those of the lot
pub steps_known : (t : Tables) (lot : ℕ) (changes later : List LotChange) (all : OpeningAndLaterChanges) → map rows.abstract_lot_change_row changes ≡ filter (λ r. r.lot == lot) t.holding_history
    → map rows.abstract_lot_change_row later ≡ filter (λ r. not (r.trade == lot)) (map rows.abstract_lot_change_row changes)
    → option_map rows.abstract_lot_change_row all.opening ≡ find (λ r. r.trade == lot) (map rows.abstract_lot_change_row changes)
    → map abstract_priced_lot_change all.changes_by_others.items ≡ map (λ c. recorded_lot_change t (rows.abstract_lot_change_row c)) later → AreLotChangesByTradeId t lot all
steps_known t lot changes later all whole apart own made = (
  own ∙ ap (find (λ (r : HoldingHistoryRow). r.trade == lot)) whole
      ∙ sym (find_both (λ (r : HoldingHistoryRow). r.lot == lot) (λ (r : HoldingHistoryRow). r.trade == lot) t.holding_history)
      ∙ find_same (λ (r : HoldingHistoryRow). (r.lot == lot) && (r.trade == lot)) (λ (r : HoldingHistoryRow). (r.trade == lot) && (r.lot == lot))
      (λ r. and_turn (r.lot == lot) (r.trade == lot)) t.holding_history,
  made ∙ sym (map_map (recorded_lot_change t) rows.abstract_lot_change_row later)
      ∙ ap (map (recorded_lot_change t)) (apart ∙ ap (filter (λ (r : HoldingHistoryRow). not (r.trade == lot))) whole),
)

-- those of the lot that are not by its own trade
pub turn_known : (t : Tables) (lot : ℕ)
    → sort_by_key (λ c. c.stamp) (map (recorded_lot_change t) (filter (λ h. not (h.trade == lot)) (filter (λ h. h.lot == lot) t.holding_history))) ≡ changes_of_lot_by_other_trades t lot
turn_known t lot =
    ap (λ hs. sort_by_key (λ (c : model.LotChange). c.stamp) (map (recorded_lot_change t) hs))
    (sym (filter_both (λ (h : HoldingHistoryRow). h.lot == lot) (λ (h : HoldingHistoryRow). not (h.trade == lot)) t.holding_history))

number_is : (m n : ℕ) → (m == n) ≡ true → m ≡ n
number_is m n e = grind (arith, nat_tests)

-- the lot of a trade that was found
pub lot_known : (t : Tables) (trade : ℕ) (opening : LotChange) (row : code.TradeRow) (lot : LotDetails) → Some (rows.abstract_lot_change_row opening) ≡ opened_lot_row t trade
    → trade_row_with_id t trade ≡ Some (abstract_trade_row row) → lot.trade ≡ row → lot.opened ≡ opening.after
    → map abstract_priced_lot_change lot.changes.items ≡ changes_of_lot_by_other_trades t trade
    → Some (abstract_lot_details lot) ≡ lot_opened_by_trade t trade
lot_known t trade opening row lot own found same opened changes =
    let u = abstract_trade_row row in
    let is : u.id ≡ trade = number_is u.id trade (found_passes (λ (r : TradeRow). r.id == trade) t.trades u found) in
    let amount : opening.after ≡ quantity_opened_by_trade t u.id = ap (λ o. option_map_or (λ (r : HoldingHistoryRow). r.after) o (pos 0)) own ∙ ap (quantity_opened_by_trade t) (sym is) in
    let changes_by_others : map abstract_priced_lot_change lot.changes.items ≡ changes_of_lot_by_other_trades t u.id = changes ∙ ap (changes_of_lot_by_other_trades t) (sym is) in
    let details : abstract_lot_details lot ≡ lot_with_changes_by_others t u = λ i. record { trade = abstract_trade_row (same i); opened = (opened ∙ amount) i; changes = changes_by_others i } in
    ap Some details
    ∙ (λ i. lot_if_opened (own i) (option_map (lot_with_changes_by_others t) (sym found i)))

-- a trade that opened none
pub no_lot_known : (t : Tables) (trade : ℕ) → None ≡ opened_lot_row t trade → None ≡ lot_opened_by_trade t trade
no_lot_known t trade none = ap (λ o. lot_if_opened o (option_map (lot_with_changes_by_others t) (trade_row_with_id t trade))) none
