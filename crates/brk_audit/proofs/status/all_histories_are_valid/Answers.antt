use Rattle.std.proofs.Common.{◌≡◌, ◌+◌, ◌==◌, sym, ◌∙◌, ap, drop, map, arith}
use Rattle.std.specs.Prelude.{◌&&◌}
use Rattle.std.specs.List.{prefix_len}
use Rattle.std.proofs.lemmas.List.Sums.{prefix_len-le-length}
use Rattle.brk_ref.specs.Rows.{abstract_history_row, abstract_trade_row}
use Rattle.brk_audit.specs.Statuses.{all_histories_are_valid}
use Rattle.brk_audit.proofs.Walks.{go_more}
use Rattle.brk_audit.proofs.status.all_histories_are_valid.Goals as goal

pub split_at-requires : goal.split_at-requires
split_at-requires c =
    let e : c.row_count_of.result ≡ prefix_len (λ h. h.trade == c.trade-item.result.id) c.loop-trade.rest.now = c.row_count_of.ensures in
    let l = prefix_len-le-length (λ h. h.trade == c.trade-item.result.id) c.loop-trade.rest.now in
    omega arith

pub returns-then-not-is_valid_trade_history : goal.returns-then-not-is_valid_trade_history
returns-then-not-is_valid_trade_history c =
    let e : c.row_count_of.result ≡ prefix_len (λ h. h.trade == c.trade-item.result.id) c.loop-trade.rest.now = c.row_count_of.ensures in
    let s = go_more c.args.trades.now c.loop-trade.trade-index c.trade-item.result c.loop-trade.rest.now c.split_at.result.0.now c.split_at.result.1.now c.row_count_of.result
    c.loop-trade-test.true c.trade-item.is e c.split_at.ensures.front c.split_at.ensures.back in
    let no = sym c.is_valid_trade_history.ensures ∙ c.if-not-is_valid_trade_history.true in
    sym (ap (λ b. b && all_histories_are_valid (map abstract_trade_row (drop (c.loop-trade.trade-index + 1) c.args.trades.now)) (map abstract_history_row c.split_at.result.1.now)) no)
    ∙ sym s ∙ c.loop-trade.invariant

pub loop-trade-preserved : goal.loop-trade-preserved
loop-trade-preserved c =
    let e : c.row_count_of.result ≡ prefix_len (λ h. h.trade == c.trade-item.result.id) c.loop-trade.rest.now = c.row_count_of.ensures in
    let s = go_more c.args.trades.now c.loop-trade.trade-index c.trade-item.result c.loop-trade.rest.now c.split_at.result.0.now c.split_at.result.1.now c.row_count_of.result
    c.loop-trade-test.true c.trade-item.is e c.split_at.ensures.front c.split_at.ensures.back in
    let yes = sym c.is_valid_trade_history.ensures ∙ c.if-not-is_valid_trade_history.false in
    sym (ap (λ b. b && all_histories_are_valid (map abstract_trade_row (drop (c.loop-trade.trade-index + 1) c.args.trades.now)) (map abstract_history_row c.split_at.result.1.now)) yes)
    ∙ sym s ∙ c.loop-trade.invariant
