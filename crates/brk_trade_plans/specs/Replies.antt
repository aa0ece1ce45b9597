-- The replies of the model for the program's replies.
use Rattle.brk_model.specs.Commands as model
use Rattle.brk_model.specs.Commands.{Reply, Booked, Ordered, Ticked, CanceledTrade, CompletedTrade, Changed, MovedCash, Estimated}
use Rattle.brk_trade_plans.specs.declared.estimate.Estimate.{Estimate}
use Rattle.brk_trade_plans.specs.declared.reply.Completed.{Completed}
use Rattle.brk_trade_plans.specs.declared.reply.Reply as trade
use Rattle.brk_trade_plans.specs.declared.reply.Reply.TheVariants as reply

-- The model's estimate with the values of the typed estimate `e`.
abbrev pub abstract_estimate : Estimate → model.Estimate
abstract_estimate e = record {
  price = e.price;
  buy_value = e.buy_value;
  sell_value = e.sell_value;
  tax = e.tax;
  commission = e.commission;
  charge = e.charge;
  assets = e.assets;
}

-- The model's completion with the values of the typed completion `c`.
abbrev pub abstract_completion : Completed → model.Completion
abstract_completion c = record {
  commission = c.commission;
  tax = c.tax;
  amount = c.amount;
  due_day = c.due_day;
  buy_value = c.buy_value;
  sell_value = c.sell_value;
  balance = c.balance;
}

-- The model's reply of the kind of the typed reply, with the values of that reply.
abbrev pub abstract_reply : trade.Reply → Reply
abstract_reply (reply.Booked stamp) = Booked stamp
abstract_reply (reply.Ordered ordered) = Ordered ordered.stamp ordered.trade ordered.status (abstract_estimate ordered.estimate)
abstract_reply (reply.Ticked stamp triggered) = Ticked stamp triggered.items
abstract_reply (reply.Canceled stamp) = CanceledTrade stamp
abstract_reply (reply.Completed completed) = CompletedTrade completed.stamp (abstract_completion completed)
abstract_reply (reply.Changed stamp count) = Changed stamp count
abstract_reply (reply.Moved stamp number balance) = MovedCash stamp number balance
abstract_reply (reply.Estimated e) = Estimated (abstract_estimate e)

-- The typed estimate with the values of the model's estimate `e`.
abbrev pub estimate_from_model : model.Estimate → Estimate
estimate_from_model e = record {
  price = e.price;
  buy_value = e.buy_value;
  sell_value = e.sell_value;
  tax = e.tax;
  commission = e.commission;
  charge = e.charge;
  assets = e.assets;
}
