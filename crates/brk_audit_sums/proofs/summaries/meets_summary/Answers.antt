use Rattle.std.proofs.Common.{◌≡◌, false, List, ℤ, ◌∙◌, ap, map, sym, subst}
use Rattle.std.specs.BTreeMap.{BTreeMap}
use Rattle.std.specs.List.{AllByRecursion, filter_map}
use Rattle.brk_model.specs.Lists.{is_zero}
use Rattle.brk_ref.specs.Rows.{abstract_summary_row, abstract_trade_row}
use Rattle.brk_trade_rows.specs.Sheets.{abstract_sheets}
use Rattle.brk_trade_rows.specs.declared.sheets.Sheets.{Sheets}
use Rattle.brk_model.specs.Tables.{Tables}
use Rattle.brk_audit_sums.specs.PositionSums.{share_posting_of_trade, share_posting_of_summary}
use Rattle.brk_ref.specs.declared.summary_row.SummaryRow.{SummaryRow}
use Rattle.brk_audit_sums.specs.declared.tally.KeyedAmount.{KeyedAmount}
use Rattle.brk_audit_sums.specs.Tally.{total_amount_at_key}
use Rattle.brk_audit_sums.proofs.SummaryChecked.{Agree, Place, Tallied, they_agree, they_hold}
use Rattle.brk_audit_sums.proofs.SummaryRows.{summaries_by_rows}
use Rattle.brk_audit_sums.proofs.summaries.meets_summary.Goals as goal
use Rattle.brk_audit_sums.proofs.Sums.{position_cmp}

abbrev Tells : SummaryRow → Type 0
Tells r = is_zero r.qty ≡ false

pub returns : goal.returns
returns c = λ schema.
    let s : Sheets = c.args.sheets.now in
    let t : Tables = abstract_sheets s in
    let ps : List (KeyedAmount Place) = c.in_ok-postings.postings.items in
    let cs : List (KeyedAmount Place) = c.in_ok-claims.claims.items in
    let sums : BTreeMap Place ℤ = c.in_ok-sums.sums in
    let told : BTreeMap Place ℤ = c.in_ok-told.told in
    let w : Tallied s sums told ps cs = record {
      posted = c.in_ok-postings.ensures.all ∙ ap (filter_map (λ r. share_posting_of_trade (abstract_trade_row r))) c.deref.ensures.value;
      claimed = c.in_ok-claims.ensures ∙ ap (map (λ r. share_posting_of_summary (abstract_summary_row r))) c.deref-2.ensures.value;
      of_trades = λ q. c.in_ok-sums.ensures.sums q ∙ ap (λ xs. total_amount_at_key position_cmp xs q) c.deref-3.ensures.value;
      of_rows = λ q. c.in_ok-told.ensures.sums q ∙ ap (λ xs. total_amount_at_key position_cmp xs q) c.deref-4.ensures.value;
    } in
    let each_trade : c.deref-5.result.now ≡ ps = c.deref-5.ensures.value in
    let each_row : c.deref-6.result.now ≡ cs = c.deref-6.ensures.value in
    let rows : c.deref-7.result.now ≡ s.summaries.items = c.deref-7.ensures.value in
    let law = summaries_by_rows schema t c.requires.form c.requires.status in (
      (λ b. let h = c.all_three.ensures.0 b in
          law.1 (they_hold s sums told ps cs w (subst (AllByRecursion (Agree sums told)) each_trade (c.sums_agree-each_trade.ensures.0 h.0))
          (subst (AllByRecursion (Agree sums told)) each_row (c.sums_agree-each_row.ensures.0 h.1)) (subst (AllByRecursion Tells) rows (c.has_no_zero-shares.ensures.0 h.2)))),
      (λ h. let k = they_agree s sums told ps cs w c.requires.form (law.0 h) in
          c.all_three.ensures.1 (
            c.sums_agree-each_trade.ensures.1 (subst (AllByRecursion (Agree sums told)) (sym each_trade) k.0),
            c.sums_agree-each_row.ensures.1 (subst (AllByRecursion (Agree sums told)) (sym each_row) k.1),
            c.has_no_zero-shares.ensures.1 (subst (AllByRecursion Tells) (sym rows) k.2),
          )),
    )
