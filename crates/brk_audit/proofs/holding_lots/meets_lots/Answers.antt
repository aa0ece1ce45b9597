use Rattle.std.proofs.Common.{rules, ◌≡◌, map, sym, ap, ◌∙◌, subst}
use Rattle.std.specs.Prelude.{IsSome}
use Rattle.std.specs.List.Sorted.{IsNonDecreasingBy, IsPermutation}
use Rattle.std.proofs.lemmas.List.Sorted.{IsNonDecreasingBy-from_sort_by_key, IsPermutation-map}
use Rattle.brk_ref.specs.Rows.{abstract_holding_row, abstract_trade_row}
use Rattle.brk_trade_rows.specs.Sheets.{abstract_sheets}
use Rattle.brk_ref.specs.declared.holding_row.HoldingRow as code
use Rattle.brk_model.specs.Audit.{ConditionHolds, expected_tables}
use Rattle.brk_model.specs.Tables.{HoldingRow, Tables}
use Rattle.brk_audit_theorems.proofs.FormBack.{All-unmapped}
use Rattle.brk_trade_books.proofs.Order.{Sorted}
use Rattle.brk_audit_sums.proofs.Sums.{completed_trade_rows}
use Rattle.brk_audit.specs.Positions.{is_before_by_position}
use Rattle.brk_audit.proofs.LotRows.{all_moved, clash_apart, clash_moved, lots_told, priced_rows, rows_moved}
use Rattle.brk_trade_books.proofs.Orders.{Ascends, ascends, ascends_map, sorted_by, sorted_map}
use Rattle.brk_audit.proofs.Places.{place_order}
use Rattle.brk_audit.proofs.Stretches.{seen}
use Rattle.brk_audit.proofs.holding_lots.meets_lots.Goals as goal

pub final_lots-requires-clause-apart : goal.final_lots-requires-clause-apart
final_lots-requires-clause-apart c =
    let t : Tables = abstract_sheets c.args.sheets.now in
    let p : IsPermutation (completed_trade_rows t) (map seen c.deref-2.result.now) =
    rows_moved c.args.sheets.now.trades.items c.deref.result.now t c.in_ok-done.done.items c.deref-2.result.now c.deref.ensures.value
    c.deref-2.ensures.value (λ i. map abstract_trade_row c.args.sheets.now.trades.items) c.in_ok-done.ensures.done in
    clash_moved (completed_trade_rows t) (map seen c.deref-2.result.now) p (clash_apart t c.requires.form c.requires.status)

pub final_lots-requires-clause-priced : goal.final_lots-requires-clause-priced
final_lots-requires-clause-priced c =
    let t : Tables = abstract_sheets c.args.sheets.now in
    let p : IsPermutation (completed_trade_rows t) (map seen c.deref-2.result.now) =
    rows_moved c.args.sheets.now.trades.items c.deref.result.now t c.in_ok-done.done.items c.deref-2.result.now c.deref.ensures.value
    c.deref-2.ensures.value (λ i. map abstract_trade_row c.args.sheets.now.trades.items) c.in_ok-done.ensures.done in
    All-unmapped (λ r. IsSome r.price) seen c.deref-2.result.now
    (all_moved (λ r. IsSome r.price) (completed_trade_rows t) (map seen c.deref-2.result.now) p (priced_rows t c.requires.form c.requires.status))

pub returns : goal.returns
unfolding ConditionHolds
returns c = λ schema.
    let t : Tables = abstract_sheets c.args.sheets.now in
    let done = c.deref-2.result.now in
    let held = c.in_ok-held.held.items in
    let sorted = c.sort_unstable_by_key.new.self.items in
    let p : IsPermutation (completed_trade_rows t) (map seen done) =
    rows_moved c.args.sheets.now.trades.items c.deref.result.now t c.in_ok-done.done.items done c.deref.ensures.value c.deref-2.ensures.value
    (λ i. map abstract_trade_row c.args.sheets.now.trades.items) c.in_ok-done.ensures.done in
    let o : Sorted is_before_by_position (map seen done) =
    sorted_map is_before_by_position seen done
    (subst (Sorted (λ r s. is_before_by_position (seen r) (seen s))) (sym c.deref-2.ensures.value)
    (sorted_by (λ r s. is_before_by_position (seen r) (seen s)) (place_order seen) c.in_ok-done.done.items c.in_ok-done.ensures.order)) in
    let q : IsPermutation (map abstract_holding_row held) (map abstract_holding_row sorted) = IsPermutation-map abstract_holding_row held sorted c.sort_unstable_by_key.ensures.permutation in
    let n : IsNonDecreasingBy (λ (h : code.HoldingRow). h.trade) sorted =
    IsNonDecreasingBy-from_sort_by_key (λ (h : code.HoldingRow). h.trade) _ c.sort_unstable_by_key.ensures.sorted (λ a r b k. search rules) in
    let a : Ascends (λ h. h.trade) (map abstract_holding_row sorted) = ascends_map (λ (h : HoldingRow). h.trade) abstract_holding_row sorted (ascends (λ (h : code.HoldingRow). h.trade) sorted n) in
    let k : map abstract_holding_row sorted ≡ (expected_tables schema t).holdings =
    lots_told schema t c.requires.form c.requires.status (map seen done) (map abstract_holding_row held) (map abstract_holding_row sorted) p o
    c.in_ok-held.ensures q a in
    let left : map abstract_holding_row c.deref-3.result.now ≡ map abstract_holding_row sorted = ap (map abstract_holding_row) c.deref-3.ensures.value in
    let there : map abstract_holding_row c.deref-4.result.now ≡ t.holdings = ap (map abstract_holding_row) c.deref-4.ensures.value in (
      (λ e. sym there ∙ sym (c.holdings_equal.ensures.0 e) ∙ left ∙ k),
      (λ e. c.holdings_equal.ensures.1 (left ∙ k ∙ sym e ∙ sym there)),
    )
