-- The parser of rows: from fields to a command, or to a refusal if they are malformed.
use Rattle.std.specs.Prelude.{ℕ, nat_le, if◌then◌else◌, List, [], ◌∷◌, ◌++◌, find, Option, Some, None, Ok, Err, codes, bytes_eq}
use Rattle.brk_money.specs.Spelling.{Text}
use Rattle.brk_money.specs.declared.refusal.Refusal.TheVariants.{BadText, BadQty}
use Rattle.brk_model.specs.Records.{Broker, Customer, Account, Permission, Charge, Band, TaxRate, CustomerTax, Executor}
use Rattle.brk_model.specs.Forms.{ReadResult, ◌⊛◌, read_id, read_stamp, read_quantity, read_price, read_charge_amount, read_movement_amount, read_day}
use Rattle.brk_model.specs.Forms.{read_opening_balance, read_tax_status, read_trade_type, read_cash_or_margin, read_lifo_or_fifo, read_order_type}
use Rattle.brk_model.specs.Forms.{read_distinct_ids, one_to_twenty_elements, check_read_value, read_name, read_tax_id, read_symbol, read_exchange, read_acl}
use Rattle.brk_model.specs.Forms.{read_tier, read_commission_rate, read_tax_rate_number}
use Rattle.brk_model.specs.Commands.{Command, Listing, Order, Tick, AddBroker, AddCustomer, AddAccount, AddPermission, AddSecurity, AddCharge, AddBand}
use Rattle.brk_model.specs.Commands.{AddTaxRate, AddCustomerTax, PlaceOrder, FeedTicks, CancelTrade, CompleteTrade, ChangeExecutors, ChangeCashTypes}
use Rattle.brk_model.specs.Commands.{ChangeCashNames, DepositCash, WithdrawCash, SetOneDay}

-- ---- the fields after each kind

-- The broker that exactly two fields parse as (id, name), otherwise the refusal `BadText`.
abbrev pub read_broker : List Text → ReadResult Broker
read_broker (id ∷ name ∷ []) = Ok (λ i n. record { id = i; name = n }) ⊛ read_id id ⊛ read_name name
read_broker _ = Err BadText

-- The customer from exactly five fields (id, tier, tax id, last name, first name), or `BadText`.
abbrev pub read_customer : List Text → ReadResult Customer
read_customer (id ∷ tier ∷ tax_id ∷ last ∷ first ∷ []) =
    Ok (λ i t x l f. record { id = i; tier = t; tax_id = x; last_name = l; first_name = f })
    ⊛ read_id id ⊛ read_tier tier ⊛ read_tax_id tax_id ⊛ read_name last ⊛ read_name first
read_customer _ = Err BadText

-- The account from six fields (id, customer, broker, name, tax status, opening), or `BadText`.
abbrev pub read_account : List Text → ReadResult Account
read_account (id ∷ customer ∷ broker ∷ name ∷ tax_status ∷ opening ∷ []) =
    Ok (λ i c b n t o. record { id = i; customer = c; broker = b; name = n; tax_status = t; opening = o })
    ⊛ read_id id ⊛ read_id customer ⊛ read_id broker ⊛ read_name name ⊛ read_tax_status tax_status ⊛ read_opening_balance opening
read_account _ = Err BadText

-- The permission from five fields (account, ACL, tax id, last name, first name), or `BadText`.
abbrev pub read_permission : List Text → ReadResult Permission
read_permission (account ∷ acl ∷ tax_id ∷ last ∷ first ∷ []) =
    Ok (λ a c x l f. record { account = a; acl = c; tax_id = x; last_name = l; first_name = f })
    ⊛ read_id account ⊛ read_acl acl ⊛ read_tax_id tax_id ⊛ read_name last ⊛ read_name first
read_permission _ = Err BadText

-- The listing of a security from exactly five fields (symbol, name, exchange, sector, price);
-- otherwise `BadPrice` if only the price is malformed, else `BadText`.
abbrev pub read_listing : List Text → ReadResult Listing
read_listing (symbol ∷ name ∷ exchange ∷ sector ∷ price ∷ []) =
    Ok (λ s n e c p. record { symbol = s; name = n; exchange = e; sector = c; price = p })
    ⊛ read_symbol symbol ⊛ read_name name ⊛ read_exchange exchange ⊛ read_name sector ⊛ read_price price
read_listing _ = Err BadText

-- The charge from exactly three fields (type, tier, amount); otherwise `BadType` if only the type
-- is malformed, else `BadText`.
abbrev pub read_charge : List Text → ReadResult Charge
read_charge (kind ∷ tier ∷ amount ∷ []) =
    Ok (λ k t a. record { kind = k; tier = t; amount = a }) ⊛ read_trade_type kind ⊛ read_tier tier ⊛ read_charge_amount amount
read_charge _ = Err BadText

-- The two quantities if the first is at most the second, otherwise the refusal `BadQty`.
abbrev pub bounds_if_ascending : ℕ × ℕ → ReadResult (ℕ × ℕ)
bounds_if_ascending bounds = if nat_le bounds.0 bounds.1 then Ok bounds else Err BadQty

-- The bounds of a band; `BadQty` if one is malformed or the least is greater than the greatest.
abbrev pub read_quantity_bounds : Text → Text → ReadResult (ℕ × ℕ)
read_quantity_bounds low high = check_read_value bounds_if_ascending (Ok (λ a b. (a, b)) ⊛ read_quantity low ⊛ read_quantity high)

-- The commission band from exactly six fields (tier, type, exchange, least quantity, greatest
-- quantity, rate). Otherwise `BadText` if the number of fields or the tier, the exchange or the
-- rate is wrong, else `BadQty` if `read_quantity_bounds` refuses the quantities, else `BadType`.
abbrev pub read_commission_band : List Text → ReadResult Band
read_commission_band (tier ∷ kind ∷ exchange ∷ low ∷ high ∷ rate ∷ []) =
    Ok (λ t k e b r. record { tier = t; kind = k; exchange = e; from_qty = b.0; to_qty = b.1; rate = r })
    ⊛ read_tier tier ⊛ read_trade_type kind ⊛ read_exchange exchange ⊛ read_quantity_bounds low high ⊛ read_commission_rate rate
read_commission_band _ = Err BadText

-- The tax rate from exactly three fields (id, name, rate), otherwise the refusal `BadText`.
abbrev pub read_tax_rate : List Text → ReadResult TaxRate
read_tax_rate (id ∷ name ∷ rate ∷ []) =
    Ok (λ i n r. record { id = i; name = n; rate = r }) ⊛ read_id id ⊛ read_name name ⊛ read_tax_rate_number rate
read_tax_rate _ = Err BadText

-- The tax of a customer from exactly two fields (customer, tax rate), or the refusal `BadText`.
abbrev pub read_customer_tax : List Text → ReadResult CustomerTax
read_customer_tax (customer ∷ tax ∷ []) = Ok (λ c t. record { customer = c; tax = t }) ⊛ read_id customer ⊛ read_id tax
read_customer_tax _ = Err BadText

-- The executor from three texts (first name, last name, tax id), or the refusal `BadText`.
abbrev pub read_executor : Text → Text → Text → ReadResult Executor
read_executor first last tax_id = Ok (λ f l x. record { first_name = f; last_name = l; tax_id = x }) ⊛ read_name first ⊛ read_name last ⊛ read_tax_id tax_id

-- The order from exactly ten fields (account, type, symbol, quantity, price, `cash` or `margin`,
-- `lifo` or `fifo`, first name, last name, tax id). Otherwise `BadText` if the number of fields or
-- a field other than type, quantity and price is wrong, else `BadQty` if the quantity is malformed,
-- else the refusal of `read_order_type`.
abbrev pub read_order : List Text → ReadResult Order
read_order (account ∷ kind ∷ symbol ∷ qty ∷ price ∷ cash ∷ end ∷ first ∷ last ∷ tax_id ∷ []) =
    Ok (λ a s q t c l e. record { account = a; order_type = t; symbol = s; qty = q; is_cash = c; is_lifo = l; executor = e })
    ⊛ read_id account ⊛ read_symbol symbol ⊛ read_quantity qty ⊛ read_order_type kind price ⊛ read_cash_or_margin cash ⊛ read_lifo_or_fifo end
    ⊛ read_executor first last tax_id
read_order _ = Err BadText

-- The ticks from three fields each (symbol, price, quantity). Otherwise `BadText` if a symbol is
-- malformed or fields are left over, else `BadQty` if a quantity is malformed, else `BadPrice`.
abbrev pub read_ticks : List Text → ReadResult (List Tick)
read_ticks [] = Ok []
read_ticks (symbol ∷ price ∷ qty ∷ fields) =
    Ok (λ s p q ticks. record { symbol = s; price = p; qty = q } ∷ ticks) ⊛ read_symbol symbol ⊛ read_price price ⊛ read_quantity qty ⊛ read_ticks fields
read_ticks _ = Err BadText

-- The 1 to 20 ticks of a feed from three fields each; otherwise the refusal of `read_ticks`,
-- `BadText` without ticks, or `TooMany`.
abbrev pub read_feed : List Text → ReadResult (List Tick)
read_feed fields = check_read_value one_to_twenty_elements (read_ticks fields)

-- The id of the trade to cancel that exactly one field parses as, otherwise the refusal `BadText`.
abbrev pub read_id_of_trade_to_cancel : List Text → ReadResult ℕ
read_id_of_trade_to_cancel (trade ∷ []) = read_id trade
read_id_of_trade_to_cancel _ = Err BadText

-- The command `CompleteTrade` from exactly two fields (trade, price); otherwise `BadPrice` if only
-- the price is malformed, else `BadText`.
abbrev pub read_complete_trade_command : List Text → ReadResult Command
read_complete_trade_command (trade ∷ price ∷ []) = Ok (λ t p. CompleteTrade t p) ⊛ read_id trade ⊛ read_price price
read_complete_trade_command _ = Err BadText

-- The command `ChangeCashTypes` from three fields (account, first and last stamp), or `BadText`.
abbrev pub read_cash_type_update : List Text → ReadResult Command
read_cash_type_update (account ∷ first ∷ last ∷ []) = Ok (λ a f l. ChangeCashTypes a f l) ⊛ read_id account ⊛ read_stamp first ⊛ read_stamp last
read_cash_type_update _ = Err BadText

-- The command `ChangeCashNames` from three fields (symbol, first and last stamp), or `BadText`.
abbrev pub read_cash_name_update : List Text → ReadResult Command
read_cash_name_update (symbol ∷ first ∷ last ∷ []) = Ok (λ s f l. ChangeCashNames s f l) ⊛ read_symbol symbol ⊛ read_stamp first ⊛ read_stamp last
read_cash_name_update _ = Err BadText

-- The command that `moved` returns for two fields (account, amount in cents), or `BadText`.
abbrev pub read_movement_command : (ℕ → ℕ → Command) → List Text → ReadResult Command
read_movement_command moved (account ∷ amount ∷ []) = Ok (λ a n. moved a n) ⊛ read_id account ⊛ read_movement_amount amount
read_movement_command moved _ = Err BadText

-- The first day of one-day settlement, in days since 1970-01-01, from one field, or `BadText`.
abbrev pub read_one_day_settlement_start : List Text → ReadResult ℕ
read_one_day_settlement_start (day ∷ []) = read_day day
read_one_day_settlement_start _ = Err BadText

-- ---- the kinds

-- A named parser: the word of a row kind, view or explanation, and the parser of the other fields.
abbrev pub NamedParser : Type 0 → Type 0
NamedParser A = Text × (List Text → ReadResult A)

-- The value that `read` reads from the input, with `wrap` applied to it, or the refusal of `read`.
abbrev pub read_and_wrap : {A B Input : Type 0} → (A → B) → (Input → ReadResult A) → Input → ReadResult B
read_and_wrap wrap read input = Ok wrap ⊛ read input

-- The parsers of the row kinds for brokers, customers and accounts, each with the word of its kind.
abbrev pub party_and_account_parsers : List (NamedParser Command)
party_and_account_parsers =
    (codes "broker", read_and_wrap AddBroker read_broker)
    ∷ (codes "customer", read_and_wrap AddCustomer read_customer)
    ∷ (codes "account", read_and_wrap AddAccount read_account) ∷ []

-- The parsers of the six other kinds of reference rows, each with the word of its kind.
abbrev pub other_reference_row_parsers : List (NamedParser Command)
other_reference_row_parsers =
    (codes "permission", read_and_wrap AddPermission read_permission)
    ∷ (codes "security", read_and_wrap AddSecurity read_listing)
    ∷ (codes "charge", read_and_wrap AddCharge read_charge)
    ∷ (codes "band", read_and_wrap AddBand read_commission_band)
    ∷ (codes "taxrate", read_and_wrap AddTaxRate read_tax_rate)
    ∷ (codes "custtax", read_and_wrap AddCustomerTax read_customer_tax) ∷ []

-- The parsers of the nine kinds of reference rows, each with the word of its kind.
abbrev pub reference_row_parsers : List (NamedParser Command)
reference_row_parsers = party_and_account_parsers ++ other_reference_row_parsers

-- The parsers of the row kinds for orders, feeds and cancels, each with the word of its kind.
abbrev pub order_feed_and_cancel_parsers : List (NamedParser Command)
order_feed_and_cancel_parsers =
    (codes "order", read_and_wrap PlaceOrder read_order)
    ∷ (codes "feed", read_and_wrap FeedTicks read_feed)
    ∷ (codes "cancel", read_and_wrap CancelTrade read_id_of_trade_to_cancel) ∷ []

-- The parser of the row kind for results with the word of the kind, as a list of one.
abbrev pub result_row_parsers : List (NamedParser Command)
result_row_parsers = (codes "result", read_complete_trade_command) ∷ []

-- The parsers of the row kinds for the three text updates, each with the word of its kind.
abbrev pub update_row_parsers : List (NamedParser Command)
update_row_parsers =
    (codes "upname", read_and_wrap ChangeExecutors read_distinct_ids)
    ∷ (codes "upcash", read_cash_type_update)
    ∷ (codes "uptext", read_cash_name_update) ∷ []

-- The parsers of the rows `deposit`, `withdraw` and `oneday`, each with the word of its kind.
abbrev pub movement_and_one_day_settlement_row_parsers : List (NamedParser Command)
movement_and_one_day_settlement_row_parsers =
    (codes "deposit", read_movement_command (λ a n. DepositCash a n))
    ∷ (codes "withdraw", read_movement_command (λ a n. WithdrawCash a n))
    ∷ (codes "oneday", read_and_wrap SetOneDay read_one_day_settlement_start) ∷ []

-- The parsers of all row kinds, each with the word of its kind.
abbrev pub row_parsers : List (NamedParser Command)
row_parsers = reference_row_parsers ++ order_feed_and_cancel_parsers ++ result_row_parsers ++ update_row_parsers ++ movement_and_one_day_settlement_row_parsers

-- The value that the parser reads from the fields, or its refusal; `BadText` without a parser.
abbrev pub read_with_parser : {A : Type 0} → Option (NamedParser A) → List Text → ReadResult A
read_with_parser None fields = Err BadText
read_with_parser (Some reader) fields = reader.1 fields

-- The value or the refusal of the first parser of `table` whose word is the first field, on the
-- fields after it; `BadText` if there is no field or no such parser.
abbrev pub parse_by_first_field : {A : Type 0} → List (NamedParser A) → List Text → ReadResult A
parse_by_first_field table [] = Err BadText
parse_by_first_field table (kind ∷ fields) = read_with_parser (find (λ reader. bytes_eq reader.0 kind) table) fields

-- The command that the fields of a row parse as, or the refusal of a malformed row: `BadText` if
-- there is no field or the first is no row kind, otherwise the refusal of the parser of the kind.
unfoldable pub parse_row : List Text → ReadResult Command
parse_row fields = parse_by_first_field row_parsers fields
