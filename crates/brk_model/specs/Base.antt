-- The base (abstract state) of a brokerage: all that it accepted and recorded, in the order of
-- acceptance, or of keys if it is read from tables (`base_of_tables` of Adopted). Lots, sums,
-- balances and requests follow from it and are not in it.
use Rattle.std.specs.Prelude.{ℕ, Bool, true, false, ◌&&◌, ◌==◌, nat_le, List, [], ◌∷◌, ◌++◌, filter, find, sum_by, Option, None, unwrap_or, ℤ, pos, bytes_eq}
use Rattle.std.specs.List.{last_or}
use Rattle.std.specs.Option.{option_map_or}
use Rattle.brk_money.specs.Spelling.{Text}
use Rattle.brk_money.specs.Kinds.{is_same_trade_status, is_same_trade_type}
use Rattle.brk_money.specs.declared.trade_type.TradeType.{TradeType}
use Rattle.brk_money.specs.declared.status.Status.{Status}
use Rattle.brk_money.specs.declared.status.Status.TheVariants.{Completed}
use Rattle.brk_money.specs.declared.tax_status.TaxStatus.{TaxStatus}
use Rattle.brk_money.specs.declared.tax_status.TaxStatus.TheVariants.{Untaxed, Withheld, Reported}
use Rattle.brk_model.specs.Records.{Broker, Customer, Account, Permission, Security, Charge, Band, TaxRate, CustomerTax, StatusChange, Trade, Movement}
use Rattle.brk_model.specs.Records.{SettleRule, Kept}
use Rattle.brk_model.specs.Lists.{update_where}

-- The base: a list for each kind of record, the stored requests with replies (`kept`), the first
-- day of one-day settlement (`rule`) and the stamp of the last accepted command (`last`), if any.
pub record Base : Type 0 where
  pub brokers : List Broker
  pub customers : List Customer
  pub accounts : List Account
  pub permissions : List Permission
  pub securities : List Security
  pub charges : List Charge
  pub bands : List Band
  pub tax_rates : List TaxRate
  pub customer_taxes : List CustomerTax
  pub trades : List Trade
  pub movements : List Movement
  pub rule : SettleRule
  pub kept : List Kept
  pub last : Option ℕ

-- The empty base: empty lists, no first day of one-day settlement and no last stamp.
unfoldable pub empty_base : Base
empty_base = record {
  brokers = [];
  customers = [];
  accounts = [];
  permissions = [];
  securities = [];
  charges = [];
  bands = [];
  tax_rates = [];
  customer_taxes = [];
  trades = [];
  movements = [];
  rule = None;
  kept = [];
  last = None;
}

-- The first broker of the list `brokers` with the id `id`; none if there is no such broker.
abbrev pub broker_with_id_in_list : List Broker → ℕ → Option Broker
broker_with_id_in_list brokers id = find (λ b. b.id == id) brokers

-- The first broker of `base` with the id `id`; none if there is no such broker.
abbrev pub broker_with_id : Base → ℕ → Option Broker
broker_with_id base id = broker_with_id_in_list base.brokers id

-- The first customer of the list `customers` with the id `id`; none if there is no such customer.
abbrev pub customer_with_id_in_list : List Customer → ℕ → Option Customer
customer_with_id_in_list customers id = find (λ c. c.id == id) customers

-- The first customer of `base` with the id `id`; none if there is no such customer.
abbrev pub customer_with_id : Base → ℕ → Option Customer
customer_with_id base id = customer_with_id_in_list base.customers id

-- The first account of the list `accounts` with the id `id`; none if there is no such account.
abbrev pub account_with_id_in_list : List Account → ℕ → Option Account
account_with_id_in_list accounts id = find (λ a. a.id == id) accounts

-- The first account of `base` with the id `id`; none if there is no such account.
abbrev pub account_with_id : Base → ℕ → Option Account
account_with_id base id = account_with_id_in_list base.accounts id

-- The first security of the list `securities` with the symbol `symbol`, or none.
abbrev pub security_with_symbol_in_list : List Security → Text → Option Security
security_with_symbol_in_list securities symbol = find (λ s. bytes_eq s.symbol symbol) securities

-- The first security of `base` with the symbol `symbol`; none if there is no such security.
abbrev pub security_with_symbol : Base → Text → Option Security
security_with_symbol base symbol = security_with_symbol_in_list base.securities symbol

-- The first tax rate record of the list `tax_rates` with the id `id`, or none.
abbrev pub tax_rate_with_id_in_list : List TaxRate → ℕ → Option TaxRate
tax_rate_with_id_in_list tax_rates id = find (λ r. r.id == id) tax_rates

-- The first tax rate record of `base` with the id `id`; none if there is no such record.
abbrev pub tax_rate_record_with_id : Base → ℕ → Option TaxRate
tax_rate_record_with_id base id = tax_rate_with_id_in_list base.tax_rates id

-- The first trade of `base` with the id `id`; none if there is no such trade.
abbrev pub trade_with_id : Base → ℕ → Option Trade
trade_with_id base id = find (λ t. t.id == id) base.trades

-- The first charge of `base` for the trade type `kind` and the customer tier `tier`, or none.
abbrev pub charge_for_type_and_tier : Base → TradeType → ℕ → Option Charge
charge_for_type_and_tier base kind tier = find (λ c. is_same_trade_type c.kind kind && (c.tier == tier)) base.charges

-- The first commission band of `base` for the customer tier `tier`, the trade type `kind` and the
-- exchange `exchange` whose bounds, both included, contain the quantity `qty`, in shares; or none.
abbrev pub commission_band_for_quantity : Base → ℕ → TradeType → Text → ℕ → Option Band
commission_band_for_quantity base tier kind exchange qty =
    find (λ b. (b.tier == tier) && is_same_trade_type b.kind kind && bytes_eq b.exchange exchange && nat_le b.from_qty qty && nat_le qty b.to_qty) base.bands

-- The id of the broker of the first account with the id `account` in the list `accounts`, or 0.
abbrev pub broker_id_in_accounts : List Account → ℕ → ℕ
broker_id_in_accounts accounts account = option_map_or (λ a. a.broker) (account_with_id_in_list accounts account) 0

-- The tax status of the first account with the id `account` in the list `accounts`, or `Untaxed`.
abbrev pub tax_status_in_accounts : List Account → ℕ → TaxStatus
tax_status_in_accounts accounts account = option_map_or (λ a. a.tax_status) (account_with_id_in_list accounts account) Untaxed

-- The opening balance, in cents, of the first account of the list with the id `account`, or 0.
abbrev pub opening_balance_in_accounts : List Account → ℕ → ℤ
opening_balance_in_accounts accounts account = option_map_or (λ a. a.opening) (account_with_id_in_list accounts account) (pos 0)

-- The id of the broker of the first account of `base` with the id `account`, or 0.
abbrev pub broker_id_of_account : Base → ℕ → ℕ
broker_id_of_account base account = broker_id_in_accounts base.accounts account

-- The id of the customer of the first account of `base` with the id `account`, or 0.
abbrev pub customer_id_of_account : Base → ℕ → ℕ
customer_id_of_account base account = option_map_or (λ a. a.customer) (account_with_id base account) 0

-- The tier of the first customer of `base` with the id `customer_id_of_account`, or 0.
abbrev pub tier_of_account : Base → ℕ → ℕ
tier_of_account base account = option_map_or (λ c. c.tier) (customer_with_id base (customer_id_of_account base account)) 0

-- The exchange of the first security of `base` with the symbol `symbol`, or the empty text.
abbrev pub exchange_of_security : Base → Text → Text
exchange_of_security base symbol = option_map_or (λ s. s.exchange) (security_with_symbol base symbol) []

-- The name of the first security of the list with the symbol `symbol`, or the empty text.
abbrev pub security_name_in_list : List Security → Text → Text
security_name_in_list securities symbol = option_map_or (λ s. s.name) (security_with_symbol_in_list securities symbol) []

-- The name of the first security of `base` with the symbol `symbol`, or the empty text.
abbrev pub security_name : Base → Text → Text
security_name base symbol = security_name_in_list base.securities symbol

-- The last market price, in cents, of the first security of `base` with the symbol `symbol`, or 0.
abbrev pub last_price : Base → Text → ℕ
last_price base symbol = option_map_or (λ s. s.last_price) (security_with_symbol base symbol) 0

-- The sum of the tax rates that the customer `customer` pays by the lists `tax_rates` and
-- `customer_taxes`, in hundred-thousandths; a tax whose rate record does not exist counts as 0.
abbrev pub tax_rate_sum_in_lists : List TaxRate → List CustomerTax → ℕ → ℕ
tax_rate_sum_in_lists tax_rates customer_taxes customer =
    sum_by (λ x. option_map_or (λ r. r.rate) (tax_rate_with_id_in_list tax_rates x.tax) 0) (filter (λ x. x.customer == customer) customer_taxes)

-- The `tax_rate_sum_in_lists` of the customer `customer` of `base`, in hundred-thousandths.
abbrev pub tax_rate_sum_of_customer : Base → ℕ → ℕ
tax_rate_sum_of_customer base customer = tax_rate_sum_in_lists base.tax_rates base.customer_taxes customer

-- True if gains are taxable at this tax status: `Withheld` or `Reported`.
abbrev pub is_taxable_status : TaxStatus → Bool
is_taxable_status Untaxed = false
is_taxable_status Withheld = true
is_taxable_status Reported = true

-- True if the tax is withheld from the settlement at this tax status: `Withheld` only.
abbrev pub is_withholding_status : TaxStatus → Bool
is_withholding_status Untaxed = false
is_withholding_status Withheld = true
is_withholding_status Reported = false

-- True if the account `account` of `base` exists and its gains are taxable.
abbrev pub is_taxable_account : Base → ℕ → Bool
is_taxable_account base account = is_taxable_status (tax_status_in_accounts base.accounts account)

-- The last of the status changes (`marks`) of the trade `t`, or none.
abbrev pub last_status_change : Trade → Option StatusChange
last_status_change t = last_or None t.marks

-- True if the last status change of the trade `t` is to `status`; false if it has no status change.
abbrev pub has_last_status : Status → Trade → Bool
has_last_status status t = option_map_or (λ m. is_same_trade_status m.status status) (last_status_change t) false

-- The stamp of the last status change of the trade `t` (T_DTS); 0 if it has no status change.
abbrev pub last_status_stamp_of_trade : Trade → ℕ
last_status_stamp_of_trade t = option_map_or (λ m. m.stamp) (last_status_change t) 0

-- True if the last status change of the trade `t` is to `Completed`; false if it has none.
abbrev pub is_completed : Trade → Bool
is_completed t = has_last_status Completed t

-- The trade `t` with one more status change at the end: to `status`, at `stamp`.
abbrev pub trade_with_status_change : ℕ → Status → Trade → Trade
trade_with_status_change stamp status t = record t { marks = t.marks ++ record { stamp = stamp; status = status } ∷ [] }

-- The base `base` with `change` applied to each trade that passes `test`; all else is unchanged.
abbrev pub base_with_updated_trades : (Trade → Bool) → (Trade → Trade) → Base → Base
base_with_updated_trades test change base = record base { trades = update_where test change base.trades }

-- The price at which the trade `t` was completed, in cents; 0 if it has no completion price.
abbrev pub completion_price : Trade → ℕ
completion_price t = unwrap_or t.price 0

-- The trades of `base` whose last status is `Completed`, in the sequence of the base.
abbrev pub completed_trades : Base → List Trade
completed_trades base = filter is_completed base.trades
