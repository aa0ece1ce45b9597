-- The settlement, the tax and the commission that the explanation of a completed trade prints.
use Rattle.std.specs.Prelude.{◌≡◌, ◌+◌, if◌then◌else◌, pos, neg_ℤ, ◌+ℤ◌}
use Rattle.brk_money.specs.Moments.{day_of}
use Rattle.brk_model.specs.Records.{Trade}
use Rattle.brk_model.specs.Base.{Base, last_status_stamp_of_trade, completion_price}
use Rattle.brk_model.specs.Derived.{settlement_amount, deal_of_trade, due_day}
use Rattle.brk_model.specs.Orders.{commission_by_band, tax_on_deal}
use Rattle.brk_model.specs.Sheets.{sheets}
use Rattle.brk_model.specs.Tables.{trade_row}
use Rattle.brk_model_explain.specs.Trades.{OrderDetails, balance_change_of_trade, current_commission, days_to_settle_trade, order_details_of_trade}
use Rattle.brk_model_explain.specs.Trades.{tax_at_current_rates, signed_trade_value, withheld_tax_of_trade}
use Rattle.brk_view_theorems.specs.Before.{shares_before_trade}
use Rattle.brk_view_theorems.specs.Closings.{result_details_in_base}

-- The facts about the order of `t` that its explanation reads from the tables of the base.
abbrev pub order_details_in_base : Base → Trade → OrderDetails
order_details_in_base base t = order_details_of_trade (sheets base) (trade_row t)

-- The printed settlement of the trade `t` is its printed value less charge, commission and withheld
-- tax, and equals its settlement amount. The cash moved is the settlement of a cash trade, and 0 on
-- margin. The due day is the day of completion plus the printed days to settle; it and the tax and
-- the commission at current rates equal the values that the model computes from the base.
pub record PrintedSettlementMatchesBase (base : Base) (t : Trade) : Type 0 where
  -- Settlement is Value plus Charge, Commission and Tax withheld, which are printed below 0.
  pub sum : (result_details_in_base base t).settlement.amount
      ≡ ((signed_trade_value (order_details_in_base base t) (result_details_in_base base t) +ℤ neg_ℤ (pos t.charge)) +ℤ neg_ℤ (pos t.commission))
      +ℤ neg_ℤ (pos (withheld_tax_of_trade (order_details_in_base base t)))
  -- Settlement is the settlement amount of the trade.
  pub amount : (result_details_in_base base t).settlement.amount ≡ settlement_amount base.accounts t
  -- Cash moved is the settlement amount of a cash trade, and 0 on margin.
  pub moved : balance_change_of_trade (result_details_in_base base t) ≡ if t.is_cash then (result_details_in_base base t).settlement.amount else pos 0
  -- Due on is Completed on plus Days to settle, and the day on which the trade settles.
  pub due : (result_details_in_base base t).settlement.due_day
      ≡ day_of (last_status_stamp_of_trade t) + days_to_settle_trade (order_details_in_base base t) (result_details_in_base base t)
  pub day : (result_details_in_base base t).settlement.due_day ≡ due_day base.rule t
  -- Tax now is the tax on the gain of the deal at the rates of the base.
  pub tax : tax_at_current_rates (order_details_in_base base t) (result_details_in_base base t)
      ≡ tax_on_deal base t.account (deal_of_trade t) (shares_before_trade base t)
  -- Commission now is the commission in the bands of the base.
  pub commission : current_commission (order_details_in_base base t) (result_details_in_base base t)
      ≡ commission_by_band base t.account t.kind t.symbol t.qty (completion_price t)
