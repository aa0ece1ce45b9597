use Rattle.std.proofs.Common.{◌++◌}
use Rattle.brk_model_explain.specs.TradeLines as lines
use Rattle.brk_model_explain.specs.TradeLines.{completed_trade_lines}
use Rattle.brk_explain_rows.specs.Details.{abstract_order_details, abstract_result_details}
use Rattle.brk_explain_columns.proofs.Chains.{more_lines}
use Rattle.brk_explain_lines.proofs.trade.put_completed.Goals as goal

pub returns : goal.returns
unfolding completed_trade_lines
returns c =
    let order = abstract_order_details c.args.order.now in
    let details = abstract_result_details c.args.details.now in
    let o = c.args.out.now.items in
    let x1 = c.put_lots_with_gain.new.out.items in
    let l1 = lines.lot_and_gain_lines order details in
    let x2 = c.put_tax_lines.new.out.items in
    let l2 = lines.trade_tax_lines order details in
    let x3 = c.put_commission.new.out.items in
    let l3 = lines.band_and_commission_lines order details in
    let x4 = c.put_settlement.new.out.items in
    let l4 = lines.trade_settlement_lines order details in
    let x5 = c.put_due_days.new.out.items in
    let l5 = lines.due_day_lines order details in
    let x6 = c.put_balance.new.out.items in
    let l6 = lines.trade_balance_lines order details in
    let x7 = c.put_trade_end.new.out.items in
    let h2 = more_lines o x1 x2 l1 l2 c.in_ok-put_lots_with_gain.ensures c.in_ok-put_tax_lines.ensures in
    let h3 = more_lines o x2 x3 (l1 ++ l2) l3 h2 c.in_ok-put_commission.ensures in
    let h4 = more_lines o x3 x4 (l1 ++ l2 ++ l3) l4 h3 c.in_ok-put_settlement.ensures in
    let h5 = more_lines o x4 x5 (l1 ++ l2 ++ l3 ++ l4) l5 h4 c.in_ok-put_due_days.ensures in
    let h6 = more_lines o x5 x6 (l1 ++ l2 ++ l3 ++ l4 ++ l5) l6 h5 c.in_ok-put_balance.ensures in
    let h = c.in_ok-put_trade_end.ensures in
    more_lines o x6 x7 (l1 ++ l2 ++ l3 ++ l4 ++ l5 ++ l6) (lines.counts_lines_of_trade order details) h6 h
