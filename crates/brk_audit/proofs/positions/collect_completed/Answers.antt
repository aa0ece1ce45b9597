use Rattle.std.proofs.Common.{◌≡◌, rules, refl, ◌∙◌, ap, filter, map}
use Rattle.std.proofs.lemmas.List.{take_all}
use Rattle.brk_audit_sums.specs.Completed.{is_completed_trade_row}
use Rattle.brk_ref.specs.Rows.{abstract_trade_row}
use Rattle.brk_audit.proofs.Pushed.{kept_more, passed_more}
use Rattle.brk_audit.proofs.positions.collect_completed.Goals as goal
use Rattle.brk_audit.proofs.positions.collect_completed.Goals.{then-eq+in_ok-push, else-eq}

pub loop-row-preserved : goal.loop-row-preserved
loop-row-preserved c =
    let test : is_completed_trade_row (abstract_trade_row c.row-item.result) ≡ c.eq.result = search rules in
    elim c.if-eq.branch [
      | then-eq+in_ok-push w ↦
          kept_more is_completed_trade_row (λ row. abstract_trade_row row.now) abstract_trade_row c.args.trades.now c.loop-row.row-index c.row-item.result
          c.loop-row.done.items _ _ c.loop-row-test.true c.row-item.is c.loop-row.invariant (test ∙ w.if-eq.true) refl (ap (λ v. v.items) w.done-is ∙ w.in_ok-push.ensures.items)
      | else-eq w ↦
          ap (λ v. map (λ row. abstract_trade_row row.now) v.items) w.done-is
          ∙ passed_more is_completed_trade_row (λ row. abstract_trade_row row.now) abstract_trade_row c.args.trades.now c.loop-row.row-index c.row-item.result
          c.loop-row.done.items c.loop-row-test.true c.row-item.is c.loop-row.invariant (test ∙ w.if-eq.false)
    ]

pub returns : goal.returns
returns c =
    c.loop-row.invariant ∙ ap (λ rows. filter is_completed_trade_row (map abstract_trade_row rows)) (take_all c.loop-row.row-index c.args.trades.now c.loop-row-test.false)
