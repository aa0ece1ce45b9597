use Rattle.std.proofs.Common.{◌∙◌, ap}
use Rattle.brk_trade.specs.Orders.{row_changes_of_order}
use Rattle.brk_trade.proofs.order.order_changes.Goals as goal

pub returns : goal.returns
returns c = record {
  row = c.in_ok-row.row;
  added = c.in_ok-row.ensures;
  changed = c.in_ok-changes.ensures ∙ ap (row_changes_of_order c.in_ok-row.row) c.in_ok-request.ensures;
}
