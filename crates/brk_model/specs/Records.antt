-- The records of a brokerage, without derived values: reference data, trades, movements, replies.
use Rattle.std.specs.Prelude.{ℕ, ℤ, Bool, List, Option}
use Rattle.brk_money.specs.Spelling.{Text}
use Rattle.brk_money.specs.declared.trade_type.TradeType.{TradeType}
use Rattle.brk_money.specs.declared.status.Status.{Status}
use Rattle.brk_money.specs.declared.tax_status.TaxStatus.{TaxStatus}

-- A broker: an id and a name.
pub record Broker : Type 0 where
  pub id : ℕ
  pub name : Text

-- A customer: id, tier (selects charges and commission rates), tax id, last name and first name.
pub record Customer : Type 0 where
  pub id : ℕ
  pub tier : ℕ
  pub tax_id : Text
  pub last_name : Text
  pub first_name : Text

-- An account: its id, its customer and broker (ids), name, tax status, opening balance in cents.
pub record Account : Type 0 where
  pub id : ℕ
  pub customer : ℕ
  pub broker : ℕ
  pub name : Text
  pub tax_status : TaxStatus
  pub opening : ℤ

-- The permission of the person with the tax id `tax_id` and the names `last_name` and `first_name`
-- to place orders for the account with the id `account`. `acl` is stored and has no effect.
pub record Permission : Type 0 where
  pub account : ℕ
  pub acl : Text
  pub tax_id : Text
  pub last_name : Text
  pub first_name : Text

-- A security: symbol, name, exchange, sector, price in cents and stamp (`moment`) of its last tick,
-- or of its listing before the first, and the sum of its ticks' quantities (`volume`), in shares.
pub record Security : Type 0 where
  pub symbol : Text
  pub name : Text
  pub exchange : Text
  pub sector : Text
  pub last_price : ℕ
  pub volume : ℕ
  pub moment : ℕ

-- The charge of an order (`amount`), in cents, for a trade type (`kind`) and a customer tier.
pub record Charge : Type 0 where
  pub kind : TradeType
  pub tier : ℕ
  pub amount : ℕ

-- A commission band: the rate, in hundredths of a percent, of a customer tier, a trade type
-- (`kind`) and an exchange for quantities from `from_qty` to `to_qty` shares, both included.
pub record Band : Type 0 where
  pub tier : ℕ
  pub kind : TradeType
  pub exchange : Text
  pub from_qty : ℕ
  pub to_qty : ℕ
  pub rate : ℕ

-- A tax rate: its id, its name, and `rate`, in hundred-thousandths.
pub record TaxRate : Type 0 where
  pub id : ℕ
  pub name : Text
  pub rate : ℕ

-- A tax that a customer pays: the ids of the customer and of the tax rate.
pub record CustomerTax : Type 0 where
  pub customer : ℕ
  pub tax : ℕ

-- A status change of a trade: the new status and its stamp.
pub record StatusChange : Type 0 where
  pub stamp : ℕ
  pub status : Status

-- A trade: the terms of its order, its status changes in sequence (`marks`), and the values of its
-- completion. `kind` is its type, `qty` its quantity in shares. `bid` is the requested price or,
-- for a market type, the last price of the security at acceptance; `price` is the completion price,
-- none before. `commission` is an estimate and `tax` is 0 until the completion. Prices, charge,
-- commission and tax are in cents. `executor` is the name of the person who ordered, which a text
-- update may change. The trade is a cash trade if `is_cash`, otherwise a margin trade, and closes
-- the last opened shares of its position first if `is_lifo`, otherwise the first. `cash_type` is
-- the cash type of its settlement, `cash_name` the name of its cash row; they may be empty.
pub record Trade : Type 0 where
  pub id : ℕ
  pub account : ℕ
  pub kind : TradeType
  pub symbol : Text
  pub qty : ℕ
  pub bid : ℕ
  pub is_cash : Bool
  pub is_lifo : Bool
  pub executor : Text
  pub charge : ℕ
  pub commission : ℕ
  pub tax : ℕ
  pub price : Option ℕ
  pub marks : List StatusChange
  pub cash_type : Text
  pub cash_name : Text

-- A movement: cash that was paid into an account or out of it without a trade. `amount` is in
-- cents, and below 0 if it was paid out; `name` is the text of its cash row.
pub record Movement : Type 0 where
  pub account : ℕ
  pub stamp : ℕ
  pub amount : ℤ
  pub name : Text

-- The first day of one-day settlement, in days since 1970-01-01, or none if it is not set.
abbrev pub SettleRule : Type 0
SettleRule = Option ℕ

-- The idempotency key of a row of a batch: the name of the batch, and the number of the row in it.
pub record Key : Type 0 where
  pub batch : Text
  pub n : ℕ

-- An accepted row of a batch: its key, its text, and the line of its reply, which a retry returns.
pub record Kept : Type 0 where
  pub key : Key
  pub row_text : Text
  pub line : Text

-- The person who places an order: first name, last name and tax id.
pub record Executor : Type 0 where
  pub first_name : Text
  pub last_name : Text
  pub tax_id : Text
