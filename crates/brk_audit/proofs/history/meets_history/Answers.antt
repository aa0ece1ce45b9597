use Rattle.std.proofs.Common.{◌≡◌, map, sym, ap, ◌∙◌, subst}
use Rattle.std.specs.Prelude.{◌↔◌, IsSome}
use Rattle.std.specs.List.Sorted.{IsPermutation}
use Rattle.std.proofs.lemmas.List.Sorted.{IsPermutation-map}
use Rattle.brk_ref.specs.Rows.{abstract_lot_change_row}
use Rattle.brk_trade_rows.specs.Sheets.{abstract_sheets}
use Rattle.brk_lots.specs.Chains.{abstract_deal_touch}
use Rattle.brk_model.specs.Audit.{ConditionHolds, expected_tables}
use Rattle.brk_model.specs.Keys.{holding_history_key, is_row_key_less}
use Rattle.brk_model.specs.Tables.{Tables}
use Rattle.brk_audit_theorems.proofs.FormBack.{All-unmapped}
use Rattle.brk_trade_books.proofs.Order.{Sorted}
use Rattle.brk_audit_sums.proofs.Sums.{completed_trade_rows}
use Rattle.brk_audit.specs.Positions.{is_before_by_position}
use Rattle.brk_audit.proofs.LotRows.{all_moved, clash_apart, clash_moved, priced_rows, rows_moved}
use Rattle.brk_audit.proofs.MoveRows.{moves_told}
use Rattle.brk_trade_books.proofs.Orders.{sorted_by, sorted_map}
use Rattle.brk_audit.proofs.Places.{key_order, place_order}
use Rattle.brk_audit.proofs.Stretches.{seen}
use Rattle.brk_audit.proofs.history.meets_history.Goals as goal

pub all_lot_changes-requires-clause-apart : goal.all_lot_changes-requires-clause-apart
all_lot_changes-requires-clause-apart c =
    let t : Tables = abstract_sheets c.args.sheets.now in
    let p : IsPermutation (completed_trade_rows t) (map seen c.deref-2.result.now) =
    rows_moved c.args.sheets.now.trades.items c.deref.result.now t c.in_ok-done.done.items c.deref-2.result.now c.deref.ensures.value
    c.deref-2.ensures.value (λ i. t.trades) c.in_ok-done.ensures.done in
    clash_moved (completed_trade_rows t) (map seen c.deref-2.result.now) p (clash_apart t c.requires.form c.requires.status)

pub all_lot_changes-requires-clause-priced : goal.all_lot_changes-requires-clause-priced
all_lot_changes-requires-clause-priced c =
    let t : Tables = abstract_sheets c.args.sheets.now in
    let p : IsPermutation (completed_trade_rows t) (map seen c.deref-2.result.now) =
    rows_moved c.args.sheets.now.trades.items c.deref.result.now t c.in_ok-done.done.items c.deref-2.result.now c.deref.ensures.value
    c.deref-2.ensures.value (λ i. t.trades) c.in_ok-done.ensures.done in
    All-unmapped (λ r. IsSome r.price) seen c.deref-2.result.now
    (all_moved (λ r. IsSome r.price) (completed_trade_rows t) (map seen c.deref-2.result.now) p (priced_rows t c.requires.form c.requires.status))

pub returns : goal.returns
unfolding ConditionHolds
returns c = λ schema.
    let t : Tables = abstract_sheets c.args.sheets.now in
    let done = c.deref-2.result.now in
    let rows = c.in_ok-rows.rows.items in
    let sorted = c.sort_lot_changes.new.rows.items in
    let p : IsPermutation (completed_trade_rows t) (map seen done) =
    rows_moved c.args.sheets.now.trades.items c.deref.result.now t c.in_ok-done.done.items done c.deref.ensures.value c.deref-2.ensures.value
    (λ i. t.trades) c.in_ok-done.ensures.done in
    let o : Sorted is_before_by_position (map seen done) =
    sorted_map is_before_by_position seen done
    (subst (Sorted (λ r s. is_before_by_position (seen r) (seen s))) (sym c.deref-2.ensures.value)
    (sorted_by (λ r s. is_before_by_position (seen r) (seen s)) (place_order seen) c.in_ok-done.done.items c.in_ok-done.ensures.order)) in
    let q : IsPermutation (map abstract_deal_touch rows) (map abstract_deal_touch sorted) = IsPermutation-map abstract_deal_touch rows sorted c.sort_lot_changes.ensures.permutation in
    let a : Sorted (is_row_key_less holding_history_key) (map abstract_deal_touch sorted) =
    sorted_map (is_row_key_less holding_history_key) abstract_deal_touch sorted
    (sorted_by (λ x y. is_row_key_less holding_history_key (abstract_deal_touch x) (abstract_deal_touch y))
    (key_order (λ x. holding_history_key (abstract_deal_touch x))) sorted c.sort_lot_changes.ensures.order) in
    let k : (map abstract_deal_touch sorted ≡ t.holding_history) ↔ (t.holding_history ≡ (expected_tables schema t).holding_history) =
    moves_told schema t c.requires.form c.requires.status (map seen done) (map abstract_deal_touch rows) (map abstract_deal_touch sorted) p o
    c.in_ok-rows.ensures q a in
    let left : map abstract_deal_touch c.deref-3.result.now ≡ map abstract_deal_touch sorted = ap (map abstract_deal_touch) c.deref-3.ensures.value in
    let there : map abstract_lot_change_row c.deref-4.result.now ≡ t.holding_history = ap (map abstract_lot_change_row) c.deref-4.ensures.value in (
      (λ e. k.0 (sym left ∙ c.touches_equal.ensures.0 e ∙ there)),
      (λ e. c.touches_equal.ensures.1 (left ∙ k.1 e ∙ sym there)),
    )
