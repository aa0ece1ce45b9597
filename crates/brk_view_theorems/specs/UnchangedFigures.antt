-- The figures in the explanation of a completed trade that no run of calls changes.
use Rattle.std.specs.Prelude.{◌≡◌, [], option_map}
use Rattle.brk_model.specs.Records.{Trade}
use Rattle.brk_model.specs.Base.{Base}
use Rattle.brk_model.specs.Sheets.{sheets}
use Rattle.brk_model.specs.Tables.{trade_row}
use Rattle.brk_model_explain.specs.Trades.{balance_change_of_trade}
use Rattle.brk_view_theorems.specs.Balances.{printed_balance_after_trade, printed_balance_before_trade}
use Rattle.brk_view_theorems.specs.Closings.{result_details_in_base}
use Rattle.brk_view_theorems.specs.Equations.{order_details_in_base}

-- The explanation of the trade `u` of the base `later` prints the figures of the trade `t` of
-- `base`: all columns of TRADE but the executor's name; customer, broker, tax status and opening
-- balance of the account; status changes, price, closings, opened lot, settlement amount, due day,
-- cash moved, id of the cash row, number of cash rows before it, and balances.
pub record PrintsSameFigures (base later : Base) (t u : Trade) : Type 0 where
  -- All columns of the row of TRADE but the executor's name.
  pub row : record (trade_row u) { executor = [] } ≡ record (trade_row t) { executor = [] }
  pub customer : (order_details_in_base later u).customer ≡ (order_details_in_base base t).customer
  pub broker : (order_details_in_base later u).broker ≡ (order_details_in_base base t).broker
  pub tax_status : (order_details_in_base later u).tax_status ≡ (order_details_in_base base t).tax_status
  pub opening : (order_details_in_base later u).opening ≡ (order_details_in_base base t).opening
  -- The status changes.
  pub statuses : (order_details_in_base later u).statuses ≡ (order_details_in_base base t).statuses
  -- The price, the lots that the trade closed and the lot that it opened; they determine BUY, SELL,
  -- Realised gain and the numbers of shares.
  pub price : (result_details_in_base later u).price ≡ (result_details_in_base base t).price
  pub closings : (result_details_in_base later u).closings ≡ (result_details_in_base base t).closings
  pub own_lot : (result_details_in_base later u).own_lot ≡ (result_details_in_base base t).own_lot
  -- The settlement amount, the due day, and the cash that the trade moved.
  pub settlement : (result_details_in_base later u).settlement.amount ≡ (result_details_in_base base t).settlement.amount
  pub due : (result_details_in_base later u).settlement.due_day ≡ (result_details_in_base base t).settlement.due_day
  pub moved : balance_change_of_trade (result_details_in_base later u) ≡ balance_change_of_trade (result_details_in_base base t)
  -- The id of the trade's cash row, and how many cash rows of the account are before that row.
  pub number : option_map (λ row. row.id) (result_details_in_base later u).cash ≡ option_map (λ row. row.id) (result_details_in_base base t).cash
  pub rows : (result_details_in_base later u).cash_rows ≡ (result_details_in_base base t).cash_rows
  -- The balances before and after the trade.
  pub before : printed_balance_before_trade (sheets later) u ≡ printed_balance_before_trade (sheets base) t
  pub after : printed_balance_after_trade (sheets later) u ≡ printed_balance_after_trade (sheets base) t
