use Rattle.std.proofs.Common.{◌∙◌, ◌==◌, ap, map, not, sym}
use Rattle.brk_ref.specs.Rows.{abstract_lot_change_row}
use Rattle.brk_model.specs.Tables.{HoldingHistoryRow}
use Rattle.brk_explain_reads.proofs.Each.{added_none, added_one}
use Rattle.brk_explain_reads.proofs.lot_changes.push_later.Goals as goal

pub returns-then-is_opening : goal.returns-then-is_opening
returns-then-is_opening c =
    added_none abstract_lot_change_row (λ (h : HoldingHistoryRow). not (h.trade == c.args.lot)) c.args.change.now c.args.later.now.items
    (ap not (sym c.is_opening.ensures ∙ c.if-is_opening.true))

pub returns : goal.returns
returns c =
    ap (map abstract_lot_change_row) c.in_ok-push.ensures.items
    ∙ added_one abstract_lot_change_row (λ (h : HoldingHistoryRow). not (h.trade == c.args.lot)) c.args.change.now c.args.later.now.items
    (ap not (sym c.is_opening.ensures ∙ c.if-is_opening.false))
