-- The texts of a command and of a reply.
use Rattle.std.specs.Prelude.{ℕ, Bool, if◌then◌else◌, List, [], ◌∷◌, map, flat_map, pos, codes, decimal}
use Rattle.std.specs.List.{join_with_byte}
use Rattle.std.specs.Option.{option_map_or}
use Rattle.brk_money.specs.Spelling.{Text, cents_text, day_text}
use Rattle.brk_money.specs.Kinds.{trade_type_code, trade_status_code, tax_status_number}
use Rattle.brk_money.specs.OrderTypes.{trade_type_of_order_type, price_of_order_type}
use Rattle.brk_model.specs.Commands.{Command, Order, Tick, Estimate, Completion, Reply, Booked, Ordered, Ticked, CanceledTrade, CompletedTrade, Changed}
use Rattle.brk_model.specs.Commands.{MovedCash, AddBroker, AddCustomer, AddAccount, AddPermission, AddSecurity, AddCharge, AddBand, AddTaxRate, AddCustomerTax}
use Rattle.brk_model.specs.Commands.{PlaceOrder, FeedTicks, CancelTrade, CompleteTrade, ChangeExecutors, ChangeCashTypes, ChangeCashNames, DepositCash}
use Rattle.brk_model.specs.Commands.{WithdrawCash, SetOneDay, Estimated}

-- The canonical text, such as 12.05, of the amount of `n` cents, which is not negative.
abbrev pub nonnegative_cents_text : ℕ → Text
nonnegative_cents_text n = cents_text (pos n)

-- The word of an order or a trade: `cash` if `is_cash` is true, otherwise `margin`.
abbrev pub cash_or_margin_word : Bool → Text
cash_or_margin_word is_cash = if is_cash then codes "cash" else codes "margin"

-- The word of an order or a trade: `lifo` (last shares first) if `is_lifo`, otherwise `fifo`.
abbrev pub lifo_or_fifo_word : Bool → Text
lifo_or_fifo_word is_lifo = if is_lifo then codes "lifo" else codes "fifo"

-- The ten fields of the order `o`: account, code of the type, symbol, quantity, price (empty if
-- none), `cash` or `margin`, `lifo` or `fifo`, and the executor's first name, last name and tax id.
abbrev pub order_fields : Order → List Text
order_fields o =
    decimal o.account ∷ trade_type_code (trade_type_of_order_type o.order_type) ∷ o.symbol ∷ decimal o.qty
    ∷ option_map_or nonnegative_cents_text (price_of_order_type o.order_type) [] ∷ cash_or_margin_word o.is_cash ∷ lifo_or_fifo_word o.is_lifo
    ∷ o.executor.first_name ∷ o.executor.last_name ∷ o.executor.tax_id ∷ []

-- The three fields of a tick: symbol, price and quantity.
abbrev pub tick_fields : Tick → List Text
tick_fields tick = tick.symbol ∷ nonnegative_cents_text tick.price ∷ decimal tick.qty ∷ []

-- The fields of a command's row: the word of its kind, followed by the canonical texts of its
-- values, in their sequence in the command; for an order, in that of `order_fields`.
unfoldable pub row_fields : Command → List Text
row_fields (AddBroker b) = codes "broker" ∷ decimal b.id ∷ b.name ∷ []
row_fields (AddCustomer c) = codes "customer" ∷ decimal c.id ∷ decimal c.tier ∷ c.tax_id ∷ c.last_name ∷ c.first_name ∷ []
row_fields (AddAccount a) =
    codes "account" ∷ decimal a.id ∷ decimal a.customer ∷ decimal a.broker ∷ a.name ∷ decimal (tax_status_number a.tax_status) ∷ cents_text a.opening ∷ []
row_fields (AddPermission p) = codes "permission" ∷ decimal p.account ∷ p.acl ∷ p.tax_id ∷ p.last_name ∷ p.first_name ∷ []
row_fields (AddSecurity l) = codes "security" ∷ l.symbol ∷ l.name ∷ l.exchange ∷ l.sector ∷ nonnegative_cents_text l.price ∷ []
row_fields (AddCharge c) = codes "charge" ∷ trade_type_code c.kind ∷ decimal c.tier ∷ nonnegative_cents_text c.amount ∷ []
row_fields (AddBand b) = codes "band" ∷ decimal b.tier ∷ trade_type_code b.kind ∷ b.exchange ∷ decimal b.from_qty ∷ decimal b.to_qty ∷ decimal b.rate ∷ []
row_fields (AddTaxRate r) = codes "taxrate" ∷ decimal r.id ∷ r.name ∷ decimal r.rate ∷ []
row_fields (AddCustomerTax x) = codes "custtax" ∷ decimal x.customer ∷ decimal x.tax ∷ []
row_fields (PlaceOrder o) = codes "order" ∷ order_fields o
row_fields (FeedTicks ticks) = codes "feed" ∷ flat_map tick_fields ticks
row_fields (CancelTrade id) = codes "cancel" ∷ decimal id ∷ []
row_fields (CompleteTrade id price) = codes "result" ∷ decimal id ∷ nonnegative_cents_text price ∷ []
row_fields (ChangeExecutors ids) = codes "upname" ∷ map decimal ids
row_fields (ChangeCashTypes account first last) = codes "upcash" ∷ decimal account ∷ decimal first ∷ decimal last ∷ []
row_fields (ChangeCashNames symbol first last) = codes "uptext" ∷ symbol ∷ decimal first ∷ decimal last ∷ []
row_fields (DepositCash account amount) = codes "deposit" ∷ decimal account ∷ nonnegative_cents_text amount ∷ []
row_fields (WithdrawCash account amount) = codes "withdraw" ∷ decimal account ∷ nonnegative_cents_text amount ∷ []
row_fields (SetOneDay day) = codes "oneday" ∷ day_text day ∷ []

-- The text of a command's row, as it is stored with its key: the fields joined by byte 31.
abbrev pub row_text : Command → Text
row_text command = join_with_byte 31 (row_fields command)

-- The seven fields of an estimate: price, buy value, sell value, tax, commission, charge, assets.
abbrev pub estimate_fields : Estimate → List Text
estimate_fields e =
    nonnegative_cents_text e.price ∷ nonnegative_cents_text e.buy_value ∷ nonnegative_cents_text e.sell_value ∷ nonnegative_cents_text e.tax
    ∷ nonnegative_cents_text e.commission ∷ nonnegative_cents_text e.charge ∷ cents_text e.assets ∷ []

-- The seven fields of a completion: commission, tax, amount, due day, buy and sell value, balance.
abbrev pub completion_fields : Completion → List Text
completion_fields c =
    nonnegative_cents_text c.commission ∷ nonnegative_cents_text c.tax ∷ cents_text c.amount ∷ day_text c.due_day
    ∷ nonnegative_cents_text c.buy_value ∷ nonnegative_cents_text c.sell_value ∷ cents_text c.balance ∷ []

-- The fields of a reply: its stamp, followed by the canonical texts of its other values; for a
-- cancel, the stamp and the status code `CNCL`; for an estimate, its seven fields.
unfoldable pub reply_fields : Reply → List Text
reply_fields (Booked stamp) = decimal stamp ∷ []
reply_fields (Ordered stamp trade status e) = decimal stamp ∷ decimal trade ∷ trade_status_code status ∷ estimate_fields e
reply_fields (Ticked stamp triggered) = decimal stamp ∷ map decimal triggered
reply_fields (CanceledTrade stamp) = decimal stamp ∷ codes "CNCL" ∷ []
reply_fields (CompletedTrade stamp c) = decimal stamp ∷ completion_fields c
reply_fields (Changed stamp count) = decimal stamp ∷ decimal count ∷ []
reply_fields (MovedCash stamp move balance) = decimal stamp ∷ decimal move ∷ cents_text balance ∷ []
reply_fields (Estimated e) = estimate_fields e

-- The text of the fields joined by commas.
abbrev pub comma_separated_text : List Text → Text
comma_separated_text fields = join_with_byte 44 fields

-- The line of a reply, as it is stored under a key: the fields joined by commas.
abbrev pub line_text : Reply → Text
line_text reply = comma_separated_text (reply_fields reply)
