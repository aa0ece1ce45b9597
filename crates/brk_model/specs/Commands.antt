-- The commands to a brokerage, and its replies.
use Rattle.std.specs.Prelude.{ℕ, Bool, List, ℤ}
use Rattle.brk_money.specs.Spelling.{Text}
use Rattle.brk_money.specs.declared.order_type.OrderType.{OrderType}
use Rattle.brk_money.specs.declared.status.Status.{Status}
use Rattle.brk_money.specs.declared.refusal.Refusal.{Refusal}
use Rattle.brk_model.specs.Records.{Broker, Customer, Account, Permission, Charge, Band, TaxRate, CustomerTax, Executor}

-- A security to be listed: its symbol, name, exchange and sector, and its first price, in cents.
pub record Listing : Type 0 where
  pub symbol : Text
  pub name : Text
  pub exchange : Text
  pub sector : Text
  pub price : ℕ

-- An order of `qty` shares of `symbol` for the account `account` by `executor`; `order_type`
-- includes the requested price, if any. Its trade is a cash trade if `is_cash`, otherwise a margin
-- trade, and closes the last opened shares of its position first if `is_lifo`, otherwise the first.
pub record Order : Type 0 where
  pub account : ℕ
  pub order_type : OrderType
  pub symbol : Text
  pub qty : ℕ
  pub is_cash : Bool
  pub is_lifo : Bool
  pub executor : Executor

-- A tick: the price in cents and the quantity in shares of a trade of `symbol` on the market.
pub record Tick : Type 0 where
  pub symbol : Text
  pub price : ℕ
  pub qty : ℕ

-- A command: a reference record of one of nine kinds, an order, a feed, a cancel, a result
-- (completion), a text update, a deposit, a withdrawal, or the first day of one-day settlement.
-- `account`, `trade` and `trades` are ids; `price` and `amount` are in cents; `first` and `last`
-- are stamps, both included, in milliseconds of UTC, and `day` in days, since 1970-01-01.
pub data Command : Type 0 where
  AddBroker : Broker → Command
  AddCustomer : Customer → Command
  AddAccount : Account → Command
  AddPermission : Permission → Command
  AddSecurity : Listing → Command
  AddCharge : Charge → Command
  AddBand : Band → Command
  AddTaxRate : TaxRate → Command
  AddCustomerTax : CustomerTax → Command
  PlaceOrder : Order → Command
  FeedTicks : List Tick → Command
  CancelTrade : (trade : ℕ) → Command
  CompleteTrade : (trade price : ℕ) → Command
  ChangeExecutors : (trades : List ℕ) → Command
  ChangeCashTypes : (account first last : ℕ) → Command
  ChangeCashNames : (symbol : Text) → (first last : ℕ) → Command
  DepositCash : (account amount : ℕ) → Command
  WithdrawCash : (account amount : ℕ) → Command
  SetOneDay : (day : ℕ) → Command

-- The estimate of an order, in cents: price of a share, buy and sell value of the shares that it
-- would close, tax on their gain, commission, charge, and assets of the account before the order.
pub record Estimate : Type 0 where
  pub price : ℕ
  pub buy_value : ℕ
  pub sell_value : ℕ
  pub tax : ℕ
  pub commission : ℕ
  pub charge : ℕ
  pub assets : ℤ

-- The figures of a completion, in cents; `due_day` in days since 1970-01-01. `amount` is the
-- settlement amount, the values are of the closed shares, and `balance` is the new balance.
pub record Completion : Type 0 where
  pub commission : ℕ
  pub tax : ℕ
  pub amount : ℤ
  pub due_day : ℕ
  pub buy_value : ℕ
  pub sell_value : ℕ
  pub balance : ℤ

-- The reply to an accepted command or to an estimate, with the figures of its kind, in cents.
pub data Reply : Type 0 where
  -- The reply to a reference record or to the first day of one-day settlement: the stamp only.
  Booked : (stamp : ℕ) → Reply
  -- The reply to an order: the id of its trade, the first status and the estimate.
  Ordered : (stamp trade : ℕ) → Status → Estimate → Reply
  -- The reply to a feed: the ids of the trades that it triggered (`triggered_trade_ids`).
  Ticked : (stamp : ℕ) → (triggered : List ℕ) → Reply
  -- The reply to a cancel: the stamp only.
  CanceledTrade : (stamp : ℕ) → Reply
  -- The reply to a result: the figures of the completion.
  CompletedTrade : (stamp : ℕ) → Completion → Reply
  -- The reply to a text update: the number of trades that it selects.
  Changed : (stamp count : ℕ) → Reply
  -- The reply to a deposit or a withdrawal: its cash row's number, and the account's new balance.
  MovedCash : (stamp move : ℕ) → (balance : ℤ) → Reply
  -- The reply to an estimate, which books nothing and has no stamp. It is the reply to no command.
  Estimated : Estimate → Reply

-- The answer to a command: the reply, if the command was accepted now (`Done`), the stored line of
-- the reply to an earlier attempt under the same key (`Again`), or the refusal (`Refused`).
pub data Answer : Type 0 where
  Done : Reply → Answer
  Again : (line : Text) → Answer
  Refused : Refusal → Answer
