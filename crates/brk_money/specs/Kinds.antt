-- The types of trades, statuses, refusals, faults and audit conditions, with words and numbers.
use Rattle.std.specs.Prelude.{ℕ, Bool, true, false, List, [], ◌∷◌, ◌==◌, if◌then◌else◌, Option, Some, None, codes, decimal}
use Rattle.std.specs.List.{join_with_byte}
use Rattle.brk_money.specs.declared.trade_type.TradeType.{TradeType}
use Rattle.brk_money.specs.declared.trade_type.TradeType.TheVariants.{MarketBuy, MarketSell, StopLoss, LimitSell, LimitBuy}
use Rattle.brk_money.specs.declared.status.Status.{Status}
use Rattle.brk_money.specs.declared.status.Status.TheVariants.{Completed, Active, Submitted, Pending, Canceled}
use Rattle.brk_money.specs.declared.tax_status.TaxStatus.{TaxStatus}
use Rattle.brk_money.specs.declared.tax_status.TaxStatus.TheVariants.{Untaxed, Withheld, Reported}
use Rattle.brk_money.specs.declared.fault.Condition.{Condition}
use Rattle.brk_money.specs.declared.fault.Condition.TheVariants as condition
use Rattle.brk_money.specs.declared.fault.CallFault.{CallFault}
use Rattle.brk_money.specs.declared.fault.CallFault.TheVariants as call
use Rattle.brk_money.specs.declared.fault.Fault.{Fault}
use Rattle.brk_money.specs.declared.fault.Fault.TheVariants.{Memory, Store, Damaged}
use Rattle.brk_money.specs.declared.side.Side.{Side}
use Rattle.brk_money.specs.declared.side.Side.TheVariants.{Buy, Sell}
use Rattle.brk_money.specs.declared.refusal.Limit.{Limit}
use Rattle.brk_money.specs.declared.refusal.Limit.TheVariants as limit
use Rattle.brk_money.specs.declared.refusal.Refusal.{Refusal}
use Rattle.brk_money.specs.declared.refusal.Refusal.TheVariants.{BadText, BadQty, BadPrice, BadType, TooMany, KeyReused, NoAccount, NoCustomer, NoBroker}
use Rattle.brk_money.specs.declared.refusal.Refusal.TheVariants.{NoSecurity, NoTrade, NoTax, WrongStatus, NotPermitted, Exists, Overlap, TaxSum, NoCharge}
use Rattle.brk_money.specs.declared.refusal.Refusal.TheVariants.{NoRate, Range, ClockEnd, TooEarly}

-- The side of a trade of this type: buy or sell (TT_IS_SELL).
abbrev pub side_of_trade_type : TradeType → Side
side_of_trade_type MarketBuy = Buy
side_of_trade_type MarketSell = Sell
side_of_trade_type StopLoss = Sell
side_of_trade_type LimitSell = Sell
side_of_trade_type LimitBuy = Buy

-- True if a trade of this type is executed at the market price (TT_IS_MRKT).
abbrev pub is_market_type : TradeType → Bool
is_market_type MarketBuy = true
is_market_type MarketSell = true
is_market_type StopLoss = false
is_market_type LimitSell = false
is_market_type LimitBuy = false

-- The code of a type of trade: three letters (TT_ID).
abbrev pub trade_type_code : TradeType → List ℕ
trade_type_code MarketBuy = codes "TMB"
trade_type_code MarketSell = codes "TMS"
trade_type_code StopLoss = codes "TSL"
trade_type_code LimitSell = codes "TLS"
trade_type_code LimitBuy = codes "TLB"

-- The name of a type of trade (TT_NAME), with which the name of a trade's cash row begins.
abbrev pub trade_type_name : TradeType → List ℕ
trade_type_name MarketBuy = codes "Market-Buy"
trade_type_name MarketSell = codes "Market-Sell"
trade_type_name StopLoss = codes "Stop-Loss"
trade_type_name LimitSell = codes "Limit-Sell"
trade_type_name LimitBuy = codes "Limit-Buy"

-- The code of a status: four letters (ST_ID).
abbrev pub trade_status_code : Status → List ℕ
trade_status_code Completed = codes "CMPT"
trade_status_code Active = codes "ACTV"
trade_status_code Submitted = codes "SBMT"
trade_status_code Pending = codes "PNDG"
trade_status_code Canceled = codes "CNCL"

-- The name of a status (ST_NAME).
abbrev pub trade_status_name : Status → List ℕ
trade_status_name Completed = codes "Completed"
trade_status_name Active = codes "Active"
trade_status_name Submitted = codes "Submitted"
trade_status_name Pending = codes "Pending"
trade_status_name Canceled = codes "Canceled"

-- True if the two trade types are equal.
abbrev pub is_same_trade_type : TradeType → TradeType → Bool
is_same_trade_type MarketBuy MarketBuy = true
is_same_trade_type MarketSell MarketSell = true
is_same_trade_type StopLoss StopLoss = true
is_same_trade_type LimitSell LimitSell = true
is_same_trade_type LimitBuy LimitBuy = true
is_same_trade_type _ _ = false

-- True if the two statuses are equal.
abbrev pub is_same_trade_status : Status → Status → Bool
is_same_trade_status Completed Completed = true
is_same_trade_status Active Active = true
is_same_trade_status Submitted Submitted = true
is_same_trade_status Pending Pending = true
is_same_trade_status Canceled Canceled = true
is_same_trade_status _ _ = false

-- True if the two sides are equal.
abbrev pub is_same_side : Side → Side → Bool
is_same_side Buy Buy = true
is_same_side Sell Sell = true
is_same_side Buy Sell = false
is_same_side Sell Buy = false

-- The word that a `Range` refusal prints for its limit, such as `balance`.
abbrev pub limit_word : Limit → List ℕ
limit_word limit.Summary = codes "summary"
limit_word limit.Balance = codes "balance"
limit_word limit.Broker = codes "broker"
limit_word limit.Volume = codes "volume"
limit_word limit.Trades = codes "trades"
limit_word limit.Accounts = codes "accounts"
limit_word limit.Moves = codes "moves"

-- The number that is printed for a refusal, 1 to 22.
abbrev pub refusal_number : Refusal → ℕ
refusal_number NoAccount = 1
refusal_number NoCustomer = 2
refusal_number NoBroker = 3
refusal_number NoSecurity = 4
refusal_number NoTrade = 5
refusal_number NotPermitted = 6
refusal_number BadType = 7
refusal_number BadQty = 8
refusal_number BadPrice = 9
refusal_number NoCharge = 10
refusal_number NoRate = 11
refusal_number NoTax = 12
refusal_number (WrongStatus s) = 13
refusal_number (Range l) = 14
refusal_number Exists = 15
refusal_number Overlap = 16
refusal_number TaxSum = 17
refusal_number BadText = 18
refusal_number KeyReused = 19
refusal_number TooMany = 20
refusal_number ClockEnd = 21
refusal_number TooEarly = 22

-- The fields that follow the number of a refusal: the code of the status for `WrongStatus`, the
-- word of the limit for `Range`, and none for any other.
abbrev pub refusal_detail_fields : Refusal → List (List ℕ)
refusal_detail_fields (WrongStatus status) = trade_status_code status ∷ []
refusal_detail_fields (Range limit) = limit_word limit ∷ []
refusal_detail_fields _ = []

-- The fields that are printed for a refusal: its number, followed by its `refusal_detail_fields`.
abbrev pub refusal_fields : Refusal → List (List ℕ)
refusal_fields refusal = decimal (refusal_number refusal) ∷ refusal_detail_fields refusal

-- The text that is printed for a refusal: its fields, separated by commas.
abbrev pub refusal_text : Refusal → List ℕ
refusal_text refusal = join_with_byte 44 (refusal_fields refusal)

-- The number of a fault: 90 for `Memory`, 91 for `Store`, 92 for `Damaged` with any condition.
abbrev pub fault_number : Fault → ℕ
fault_number Memory = 90
fault_number Store = 91
fault_number (Damaged condition) = 92

-- The fault that a `CallFault` is.
abbrev pub fault_of_call : CallFault → Fault
fault_of_call call.Memory = Memory
fault_of_call call.Store = Store

-- The number of a tax status (CA_TAX_ST): 0 for `Untaxed`, 1 for `Withheld`, 2 for `Reported`.
abbrev pub tax_status_number : TaxStatus → ℕ
tax_status_number Untaxed = 0
tax_status_number Withheld = 1
tax_status_number Reported = 2

-- The tax status with the number `n`, or none if `n` is above 2.
abbrev pub tax_status_with_number : ℕ → Option TaxStatus
tax_status_with_number n = if n == 0 then Some Untaxed else if n == 1 then Some Withheld else if n == 2 then Some Reported else None

-- The lower-case word that represents an audit condition in output, such as `cash`.
abbrev pub condition_word : Condition → List ℕ
condition_word condition.NotEmpty = codes "notempty"
condition_word condition.Schema = codes "schema"
condition_word condition.Form = codes "form"
condition_word condition.Status = codes "status"
condition_word condition.Requests = codes "requests"
condition_word condition.Lots = codes "lots"
condition_word condition.History = codes "history"
condition_word condition.Summary = codes "summary"
condition_word condition.Count = codes "count"
condition_word condition.Commission = codes "commission"
condition_word condition.Settlement = codes "settlement"
condition_word condition.Cash = codes "cash"
condition_word condition.Balance = codes "balance"
