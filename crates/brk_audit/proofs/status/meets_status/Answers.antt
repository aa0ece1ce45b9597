use Rattle.std.proofs.Common.{◌≡◌, ◌++◌, sym, ◌∙◌, map, refl}
use Rattle.std.proofs.lemmas.Bool.{and_from, and_left, and_parts}
use Rattle.brk_model.specs.Lists.{all_distinct}
use Rattle.brk_model.specs.Ways.{movement_stamps}
use Rattle.brk_model.specs.Tables.{Tables}
use Rattle.brk_ref.specs.Rows.{abstract_history_row, abstract_cash_row, abstract_trade_row}
use Rattle.brk_trade_rows.specs.Sheets.{abstract_sheets}
use Rattle.brk_audit.specs.Statuses.{all_histories_are_valid, movement_stamps_of_cash_rows, completion_stamps_of_history}
use Rattle.brk_audit.proofs.StatusLaw.{status_holds}
use Rattle.brk_audit.proofs.status.meets_status.Goals as goal

pub returns-then-not-all_histories_are_valid : goal.returns-then-not-all_histories_are_valid
returns-then-not-all_histories_are_valid c = λ schema.
    let t : Tables = abstract_sheets c.args.sheets.now in
    let go : c.all_histories_are_valid.result ≡ all_histories_are_valid t.trades t.history =
    c.all_histories_are_valid.ensures ∙ (λ i. all_histories_are_valid (map abstract_trade_row (c.deref.ensures.value i)) (map abstract_history_row (c.deref-2.ensures.value i))) in
    let law = status_holds schema t c.all_histories_are_valid.result (all_distinct (completion_stamps_of_history t.history ++ movement_stamps t)) c.requires.form go refl in (
      (λ e. absurd (cc)),
      (λ h. sym (and_left c.all_histories_are_valid.result (all_distinct (completion_stamps_of_history t.history ++ movement_stamps t)) c.if-not-all_histories_are_valid.true) ∙ law.1 h),
    )

pub returns : goal.returns
returns c = λ schema.
    let t : Tables = abstract_sheets c.args.sheets.now in
    let go : c.all_histories_are_valid.result ≡ all_histories_are_valid t.trades t.history =
    c.all_histories_are_valid.ensures ∙ (λ i. all_histories_are_valid (map abstract_trade_row (c.deref.ensures.value i)) (map abstract_history_row (c.deref-2.ensures.value i))) in
    let apart : c.in_ok-apart.apart ≡ all_distinct (completion_stamps_of_history t.history ++ movement_stamps t) =
    c.in_ok-apart.ensures
    ∙ (λ i. all_distinct (completion_stamps_of_history (map abstract_history_row (c.deref-3.ensures.value i))
    ++ movement_stamps_of_cash_rows (map abstract_cash_row (c.deref-4.ensures.value i)))) in
    let law = status_holds schema t c.all_histories_are_valid.result c.in_ok-apart.apart c.requires.form go apart in (
      (λ e. law.0 (and_from c.all_histories_are_valid.result c.in_ok-apart.apart c.if-not-all_histories_are_valid.false e)),
      (λ h. (and_parts c.all_histories_are_valid.result c.in_ok-apart.apart (law.1 h)).1),
    )
