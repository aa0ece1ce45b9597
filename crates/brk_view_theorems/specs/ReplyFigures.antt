-- The figures in the reply to a result that the explanation of its trade also prints.
use Rattle.std.specs.Prelude.{◌≡◌}
use Rattle.brk_money.specs.Kinds.{side_of_trade_type}
use Rattle.brk_model.specs.Records.{Trade}
use Rattle.brk_model.specs.Base.{Base, completion_price}
use Rattle.brk_model.specs.Commands.{Completion}
use Rattle.brk_model.specs.Sheets.{sheets}
use Rattle.brk_model_explain.specs.Trades.{buy_value_of_closings, sell_value_of_closings}
use Rattle.brk_view_theorems.specs.Balances.{printed_balance_after_trade}
use Rattle.brk_view_theorems.specs.Closings.{result_details_in_base}
use Rattle.brk_view_theorems.specs.Equations.{order_details_in_base}

-- The explanation of the trade `t`, computed from the tables of the base, prints the figures of the
-- completion `c` in the reply to the result.
pub record PrintsReplyFigures (base : Base) (t : Trade) (c : Completion) : Type 0 where
  pub commission : (order_details_in_base base t).trade.commission ≡ c.commission
  pub tax : (order_details_in_base base t).trade.tax ≡ c.tax
  pub settlement : (result_details_in_base base t).settlement.amount ≡ c.amount
  pub due : (result_details_in_base base t).settlement.due_day ≡ c.due_day
  pub bought : buy_value_of_closings (side_of_trade_type t.kind) (completion_price t) (result_details_in_base base t).closings ≡ c.buy_value
  pub sold : sell_value_of_closings (side_of_trade_type t.kind) (completion_price t) (result_details_in_base base t).closings ≡ c.sell_value
  pub balance : printed_balance_after_trade (sheets base) t ≡ c.balance
