use Rattle.std.proofs.Common.{◌∙◌, ap, map, refl}
use Rattle.std.proofs.lemmas.List.{take_all}
use Rattle.brk_ref.specs.Rows.{abstract_trade_row}
use Rattle.brk_view_rows.specs.Views.{record_of_submitted_row}
use Rattle.brk_view_rows.proofs.ById.{shown_of_sheets}
use Rattle.brk_view_rows.proofs.submitted_rows.submitted.Goals as goal

pub returns-clause-view : goal.returns-clause-view
returns-clause-view c = λ t are_submitted.
    c.loop-row.invariant
    ∙ ap (λ rows. map record_of_submitted_row (map abstract_trade_row rows)) (take_all c.loop-row.row-index c.args.rows.now c.loop-row-test.false)
    ∙ ap (map record_of_submitted_row) are_submitted ∙ shown_of_sheets t

pub returns-clause-value : goal.returns-clause-value
returns-clause-value c = (
  c.loop-row.trades,
  refl,
  c.loop-row.invariant ∙ ap (λ rows. map record_of_submitted_row (map abstract_trade_row rows)) (take_all c.loop-row.row-index c.args.rows.now c.loop-row-test.false),
)
