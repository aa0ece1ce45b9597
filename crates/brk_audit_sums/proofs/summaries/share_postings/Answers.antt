use Rattle.std.proofs.Common.{◌∙◌, ap, map}
use Rattle.brk_ref.specs.Rows.{abstract_trade_row}
use Rattle.brk_audit_sums.specs.PositionSums.{posting_with_owned_symbol, share_posting_of_trade}
use Rattle.brk_audit_sums.proofs.Postings.{none_more, some_more}
use Rattle.brk_audit_sums.proofs.summaries.share_postings.Goals as goal
use Rattle.brk_audit_sums.proofs.summaries.share_postings.Goals.{in-Some+in_ok-push, in_default}

pub loop-trade-preserved : goal.loop-trade-preserved
loop-trade-preserved c = elim c.match-share_posting.branch [
  | in-Some+in_ok-push w ↦
      some_more posting_with_owned_symbol (λ r. share_posting_of_trade (abstract_trade_row r)) c.args.trades.now c.loop-trade.trade-index c.trade-item.result
      c.loop-trade.all.items c.match-share_posting.all.items w.in-Some.posting
      c.loop-trade-test.true c.trade-item.is c.loop-trade.invariant w.in-Some.ensures (ap (λ v. v.items) w.all-is ∙ w.in_ok-push.ensures.items)
  | in_default w ↦
      ap (λ v. map posting_with_owned_symbol v.items) w.all-is
      ∙ none_more posting_with_owned_symbol (λ r. share_posting_of_trade (abstract_trade_row r)) c.args.trades.now c.loop-trade.trade-index c.trade-item.result
      c.loop-trade.all.items c.loop-trade-test.true c.trade-item.is
      c.loop-trade.invariant w.in_default.ensures
]
