use Rattle.std.proofs.Common.{◌≡◌, ◌∙◌, ◌++◌, ◌∷◌, [], ℕ, true, false, List, ap, append-nil, sym, take}
use Rattle.std.proofs.lemmas.List.{append_assoc}
use Rattle.brk_money.specs.declared.status.Status.TheVariants.{Submitted}
use Rattle.brk_ref.specs.declared.request_row.RequestRow.{RequestRow}
use Rattle.brk_trade_plans.specs.Feed.{is_request_triggered, row_changes_of_submissions, trades_triggered_at_price}
use Rattle.brk_trade_plans.specs.Waiting.{row_changes_of_status_after_pending}
use Rattle.brk_trade_rows.specs.declared.change.Change.{Change}
use Rattle.brk_trade_plans.proofs.Triggered.{submitted_more, triggered_more}
use Rattle.brk_trade_plans.proofs.feed.submit_triggered.Goals as goal
use Rattle.brk_trade_plans.proofs.feed.submit_triggered.Goals.{then-is_triggered_at_price+in_ok-append_status_after_pending+in_ok-push, else-is_triggered_at_price}

pub loop-request-preserved : goal.loop-request-preserved
loop-request-preserved c =
    let price = c.args.price in
    let stamp = c.args.stamp in
    let requests : List RequestRow = c.args.requests.now in
    let i = c.loop-request.request-index in
    let r : RequestRow = c.request-item.result in
    let trades = trades_triggered_at_price price (take i requests) in
    let changes = c.args.changes.now.items in
    let ids = c.args.ids.now.items in
    let was = c.loop-request.invariant in
    elim c.if-is_triggered_at_price.branch [
      | then-is_triggered_at_price+in_ok-append_status_after_pending+in_ok-push w ↦
          let more = triggered_more price requests i r true c.loop-request-test.true c.request-item.is (sym c.is_triggered_at_price.ensures ∙ w.if-is_triggered_at_price.true) in
          record {
            changes = ap (λ v. v.items) w.changes-is ∙ w.in_ok-append_status_after_pending.ensures.changes
                ∙ ap (λ (all : List Change). all ++ row_changes_of_status_after_pending r.trade Submitted stamp) was.changes
                ∙ append_assoc changes (row_changes_of_submissions stamp trades) (row_changes_of_status_after_pending r.trade Submitted stamp)
                ∙ ap (λ (all : List Change). changes ++ all) (sym (submitted_more stamp trades r.trade))
                ∙ ap (λ (all : List ℕ). changes ++ row_changes_of_submissions stamp all) (sym more);
            ids = ap (λ v. v.items) w.ids-is ∙ w.in_ok-push.ensures.items ∙ ap (λ (all : List ℕ). all ++ r.trade ∷ []) was.ids
                ∙ append_assoc ids trades (r.trade ∷ []) ∙ ap (λ (all : List ℕ). ids ++ all) (sym more);
          }
      | else-is_triggered_at_price w ↦
          let same = triggered_more price requests i r false c.loop-request-test.true c.request-item.is (sym c.is_triggered_at_price.ensures ∙ w.if-is_triggered_at_price.false)
          ∙ append-nil trades in
          record {
            changes = ap (λ v. v.items) w.changes-is ∙ was.changes ∙ ap (λ (all : List ℕ). changes ++ row_changes_of_submissions stamp all) (sym same);
            ids = ap (λ v. v.items) w.ids-is ∙ was.ids ∙ ap (λ (all : List ℕ). ids ++ all) (sym same);
          }
    ]
