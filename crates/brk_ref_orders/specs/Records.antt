-- The abstract value of each requested order, tick, completion, text update and movement of cash.
use Rattle.std.specs.Prelude.{ℕ, List, [], ◌∷◌, map}
use Rattle.std.specs.Global.{Vec}
use Rattle.brk_money.specs.Spelling.{Text}
use Rattle.brk_model.specs.Commands.{Command, Order, Tick, CompleteTrade, ChangeExecutors, ChangeCashTypes, ChangeCashNames, DepositCash, WithdrawCash}
use Rattle.brk_ref.specs.Records.{abstract_executor}
use Rattle.brk_ref_orders.specs.declared.completion.Completion as completion
use Rattle.brk_ref_orders.specs.declared.movement.Direction.{Direction}
use Rattle.brk_ref_orders.specs.declared.movement.Direction.TheVariants.{Deposit, Withdrawal}
use Rattle.brk_ref_orders.specs.declared.movement.Movement.{Movement}
use Rattle.brk_ref_orders.specs.declared.order.Order as order
use Rattle.brk_ref_orders.specs.declared.order.UnparsedOrder as told
use Rattle.brk_ref_orders.specs.declared.tick.Tick as tick
use Rattle.brk_ref_orders.specs.declared.update.Update as told_update
use Rattle.brk_ref_orders.specs.declared.update.Update.TheVariants as update

-- The model's order with the values of the typed order `o`.
abbrev pub abstract_order : order.Order → Order
abstract_order o = record {
  account = o.account;
  order_type = o.order_type;
  symbol = o.symbol;
  qty = o.qty;
  is_cash = o.is_cash;
  is_lifo = o.is_lifo;
  executor = abstract_executor o.executor;
}

-- The bytes of the ten fields `t` of an order, in the sequence of the row.
abbrev pub texts_of_order_fields : told.UnparsedOrder → List Text
texts_of_order_fields t =
    t.account.now ∷ t.kind.now ∷ t.symbol.now ∷ t.qty.now ∷ t.price.now ∷ t.cash.now ∷ t.end.now ∷ t.first_name.now ∷ t.last_name.now ∷ t.tax_id.now ∷ []

-- The model's tick with the values of the typed tick `t`.
abbrev pub abstract_tick : tick.Tick → Tick
abstract_tick t = record { symbol = t.symbol; price = t.price; qty = t.qty }

-- A list of one element: the model's tick with the values of the typed tick `t`.
abbrev pub abstract_tick_as_list : tick.Tick → List Tick
abstract_tick_as_list t = abstract_tick t ∷ []

-- The model's ticks with the values of the typed `ticks`, in the sequence of `ticks`.
abbrev pub abstract_ticks : List tick.Tick → List Tick
abstract_ticks ticks = map abstract_tick ticks

-- The model's ticks with the values of the typed ticks of a vector, in sequence.
abbrev pub abstract_ticks_of_vector : Vec tick.Tick → List Tick
abstract_ticks_of_vector ticks = abstract_ticks ticks.items

-- The model's command that completes a trade, with the values of the typed completion `c`.
abbrev pub completion_command : completion.Completion → Command
completion_command c = CompleteTrade c.trade c.price

-- The list of the ids in the vector `ids`, in the sequence of the vector.
abbrev pub ids_of_vector : Vec ℕ → List ℕ
ids_of_vector ids = ids.items

-- The model's command with the values of a typed text update.
abbrev pub text_update_command : told_update.Update → Command
text_update_command (update.Executors trades) = ChangeExecutors trades
text_update_command (update.CashTypes account span) = ChangeCashTypes account span.first span.last
text_update_command (update.CashNames symbol span) = ChangeCashNames symbol span.first span.last

-- The model's command that deposits `amount` cents into `account`, or withdraws them from it.
abbrev pub cash_movement_command : Direction → (account amount : ℕ) → Command
cash_movement_command Deposit account amount = DepositCash account amount
cash_movement_command Withdrawal account amount = WithdrawCash account amount

-- The model's command with the direction, the account and the amount of the typed movement `m`.
abbrev pub movement_command : Movement → Command
movement_command m = cash_movement_command m.direction m.account m.amount
