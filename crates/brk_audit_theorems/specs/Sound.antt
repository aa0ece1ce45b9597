-- The audit invariant: the conditions that an audit of a base's tables needs beyond the books
-- invariant, on the formats of fields, on keys, references, histories and limits.
use Rattle.std.specs.Prelude.{◌≡◌, ◌≤◌, ⊤, ℕ, ◌==◌, ◌&&◌, ◌||◌, Bool, true, List, [], ◌∷◌, Option, is_some, nat_abs, length, filter, map, codes, bytes_eq}
use Rattle.std.specs.List.{AllByRecursion}
use Rattle.brk_money.specs.Spelling.{Text, is_within_amount_limit}
use Rattle.brk_model.specs.Limits.{greatest_amount, greatest_id, greatest_summary_quantity, greatest_tax_rate, most_accounts_per_customer}
use Rattle.brk_model.specs.Records.{Account, Band, Broker, Charge, Customer, CustomerTax, Kept, StatusChange}
use Rattle.brk_model.specs.Records.{Movement, Permission, Security, SettleRule, TaxRate, Trade}
use Rattle.brk_model.specs.Base.{Base, completed_trades, account_with_id_in_list, is_completed, customer_with_id_in_list}
use Rattle.brk_model.specs.Base.{security_name_in_list, tax_rate_sum_in_lists, tax_rate_with_id_in_list}
use Rattle.brk_model.specs.Derived.{settlement_amount, balance_of_account, commission_total_of_broker, postings, holding_summary_quantity}
use Rattle.brk_model.specs.Results.{cash_row_name_from_parts}
use Rattle.brk_model.specs.Schemas.{third_schema}
use Rattle.brk_model.specs.Form.{is_well_formed_band_row, is_well_formed_charge_row, is_well_formed_customer_row, is_cash_type_of_trade}
use Rattle.brk_model.specs.Form.{settles_in_calendar_if_completed, is_movement_name_and_amount, is_up_to_last_stamp, is_price, has_price_exactly_if}
use Rattle.brk_model.specs.Form.{is_well_formed_kept_row, are_well_formed_listing_texts, is_well_formed_tax_rate_row, are_well_formed_account_fields}
use Rattle.brk_model.specs.Form.{are_well_formed_id_and_name, has_well_formed_permission_texts, are_trade_numbers_in_range, is_one_day_settlement_start_in_calendar}
use Rattle.brk_model.specs.Ways.{is_strictly_ascending}
use Rattle.brk_model.specs.Keys.{KeyPart, word, charge_key, customer_key, customer_tax_key, kept_key, tax_rate_key}
use Rattle.brk_audit_theorems.specs.Histories.{HasValidStatusSequence, HasSettlementAndCashTextsOnlyIfCompleted, HasAscendingStatusStamps, broker_id_key}

-- No two records of the list have the same key, where `key` returns the key of a record.
abbrev pub HasDistinctKeys : {Row : Type 0} → (Row → List KeyPart) → List Row → Type 0
HasDistinctKeys key [] = ⊤
HasDistinctKeys key (x ∷ xs) = AllByRecursion (λ y. key y ≡ key x → ⊥) xs × HasDistinctKeys key xs

-- The tax id of the customer `c`, as a key.
abbrev pub customer_tax_id_key : Customer → List KeyPart
customer_tax_id_key c = word c.tax_id ∷ []

-- ---- fields are well-formed

-- True if the id and the name of the broker are well-formed.
abbrev pub is_well_formed_broker : Broker → Bool
is_well_formed_broker b = are_well_formed_id_and_name b.id b.name

-- True if id, name and opening balance of the account pass `are_well_formed_account_fields`.
abbrev pub is_well_formed_account : Account → Bool
is_well_formed_account a = are_well_formed_account_fields a.id a.name a.opening

-- True if the texts of the security are well-formed and its last price is within its limits.
abbrev pub is_well_formed_security : Security → Bool
is_well_formed_security s = are_well_formed_listing_texts s.symbol s.name s.exchange s.sector && is_price s.last_price

-- True if the trade's numbers pass `are_trade_numbers_in_range` of the third schema.
abbrev pub has_trade_numbers_in_range : Trade → Bool
has_trade_numbers_in_range t = are_trade_numbers_in_range third_schema t.id t.qty t.bid t.charge t.commission t.tax

-- ---- trades

-- The stamp of the status change is at most the last stamp `last`. False if `last` is `None`.
abbrev pub StatusStampIsAtMostLastStamp : Option ℕ → StatusChange → Type 0
StatusStampIsAtMostLastStamp last m = is_up_to_last_stamp last m.stamp ≡ true

-- A completion has a due day by `rule` of at most 9999-12-31. Vacuous for other statuses.
abbrev pub HasDueDayInCalendar : SettleRule → StatusChange → Type 0
HasDueDayInCalendar rule m = settles_in_calendar_if_completed rule m.status m.stamp ≡ true

-- True if the trade has a price within its limits, if it is completed, and otherwise no price.
abbrev pub has_price_exactly_if_completed : Trade → Bool
has_price_exactly_if_completed t = has_price_exactly_if (is_completed t) t.price

-- True if the trade's cash text is the name of its type, a space, its quantity, ` shares of ` or
-- ` Shares of `, and the security name `name`.
abbrev pub has_cash_text_with_security_name : Trade → Text → Bool
has_cash_text_with_security_name t name =
    bytes_eq t.cash_name (cash_row_name_from_parts (codes " shares of ") t.kind t.qty name)
    || bytes_eq t.cash_name (cash_row_name_from_parts (codes " Shares of ") t.kind t.qty name)

-- True if the trade's cash text is one of the two (`has_cash_text_with_security_name`) with the
-- name of its security in `securities`, or with the empty text if this security is not one of them.
abbrev pub has_cash_text_of_security : List Security → Trade → Bool
has_cash_text_of_security securities t = has_cash_text_with_security_name t (security_name_in_list securities t.symbol)

-- The trade satisfies the conditions of the audit invariant that depend on it alone: numbers within
-- their limits, a valid status sequence with strictly ascending stamps, a price, within its limits,
-- exactly if it is completed, a settlement text only if completed, then one of the two texts for
-- its kind (cash or margin), and a cash text only if it is a completed cash trade.
pub record TradeOnlyAuditInvariant (t : Trade) : Type 0 where
  pub fields : has_trade_numbers_in_range t ≡ true
  -- Its statuses are a valid status sequence, with stamps in strictly ascending order.
  pub stamps : HasAscendingStatusStamps t
  pub way : HasValidStatusSequence t
  -- It has a price, within its limits, exactly if it is completed, a settlement or cash text only
  -- if it may have one, and one of the two settlement texts if it is completed.
  pub priced : has_price_exactly_if_completed t ≡ true
  pub words : HasSettlementAndCashTextsOnlyIfCompleted t
  pub cash_type : is_completed t ≡ true → is_cash_type_of_trade t.is_cash t.cash_type ≡ true

-- The trade satisfies the conditions of the audit invariant on a trade: those that depend on it
-- alone, and no stamp after the last stamp `last`, which must exist. If it is completed, its due
-- day by `rule` is at most 9999-12-31, and its settlement amount is within its limit; a completed
-- cash trade has one of the two cash texts for its security in `securities`.
pub record TradeAuditInvariant (last : Option ℕ) (rule : SettleRule) (accounts : List Account) (securities : List Security) (t : Trade) : Type 0 where
  pub alone : TradeOnlyAuditInvariant t
  pub open alone use *
  -- Its stamps are at most the last stamp.
  pub past : AllByRecursion (StatusStampIsAtMostLastStamp last) t.marks
  -- The due day of its completion, if it is completed, is at most 9999-12-31.
  pub due : AllByRecursion (HasDueDayInCalendar rule) t.marks
  -- A completed cash trade has one of the two cash texts for its security.
  pub cash_name : is_completed t && t.is_cash ≡ true → has_cash_text_of_security securities t ≡ true
  -- The absolute value of its settlement amount, if it is completed, is within the limit.
  pub amount : is_completed t ≡ true → is_within_amount_limit (settlement_amount accounts t) ≡ true

-- The trade satisfies `TradeAuditInvariant` with the last stamp, the first day of one-day
-- settlement, the accounts and the securities of the base.
abbrev pub BaseTradeAuditInvariant : Base → Trade → Type 0
BaseTradeAuditInvariant base t = TradeAuditInvariant base.last base.rule base.accounts base.securities t

-- ---- movements, and one-day settlement

-- True for the text `Deposit` and an amount above 0, or `Withdrawal` and one below 0, if its
-- absolute value, in cents, is at most the greatest amount.
abbrev pub is_well_formed_movement : Movement → Bool
is_well_formed_movement m = is_movement_name_and_amount m.name m.amount && is_within_amount_limit m.amount

-- The part of the audit invariant on the movements, whose texts and amounts are well-formed, and on
-- `rule`, the first day of one-day settlement.
pub record MovementAuditInvariant (movements : List Movement) (rule : SettleRule) : Type 0 where
  pub fields : AllByRecursion (λ m. is_well_formed_movement m ≡ true) movements
  -- The stamps of the movements are strictly ascending, and their number is at most `greatest_id`.
  pub risen : is_strictly_ascending (map (λ m. m.stamp) movements) ≡ true
  pub few : length movements ≤ greatest_id
  -- The first day of one-day settlement, if it is set, is at most 9999-12-31.
  pub day : is_one_day_settlement_start_in_calendar rule ≡ true

-- ---- references

-- The account of the permission `p` is one of `accounts`.
abbrev pub PermissionAccountIsListed : List Account → Permission → Type 0
PermissionAccountIsListed accounts p = is_some (account_with_id_in_list accounts p.account) ≡ true

-- The customer of the customer's tax `x` is one of `customers`.
abbrev pub TaxCustomerIsListed : List Customer → CustomerTax → Type 0
TaxCustomerIsListed customers x = is_some (customer_with_id_in_list customers x.customer) ≡ true

-- The tax rate of the customer's tax `x` is one of `tax_rates`.
abbrev pub TaxRateIsListed : List TaxRate → CustomerTax → Type 0
TaxRateIsListed tax_rates x = is_some (tax_rate_with_id_in_list tax_rates x.tax) ≡ true

-- ---- the parts of the invariant: well-formed fields, and unique keys

-- The part of the audit invariant on stored replies: well-formed keys, of which no two are equal.
pub record StoredReplyAuditInvariant (all_kept : List Kept) : Type 0 where
  pub kept : AllByRecursion (λ k. is_well_formed_kept_row k ≡ true) all_kept
  pub kept_keys : HasDistinctKeys kept_key all_kept

-- The part of the audit invariant on brokers, customers, accounts and permissions: well-formed
-- fields, unique ids of brokers and ids and tax ids of customers, existing accounts of permissions,
-- and at most 10 accounts with the same customer id, whether or not that customer exists.
pub record PartyAuditInvariant (all_brokers : List Broker) (all_customers : List Customer) (all_accounts : List Account)
    (all_permissions : List Permission) : Type 0 where
  pub brokers : AllByRecursion (λ b. is_well_formed_broker b ≡ true) all_brokers
  pub customers : AllByRecursion (λ c. is_well_formed_customer_row c ≡ true) all_customers
  pub accounts : AllByRecursion (λ a. is_well_formed_account a ≡ true) all_accounts
  pub permissions : AllByRecursion (λ p. has_well_formed_permission_texts p ≡ true) all_permissions
  pub broker_keys : HasDistinctKeys broker_id_key all_brokers
  pub customer_keys : HasDistinctKeys customer_key all_customers
  pub tax_ids : HasDistinctKeys customer_tax_id_key all_customers
  -- The account of each permission exists.
  pub permitted : AllByRecursion (PermissionAccountIsListed all_accounts) all_permissions
  -- At most `most_accounts_per_customer` accounts have the same customer id.
  pub owned : (customer : ℕ) → length (filter (λ a. a.customer == customer) all_accounts) ≤ most_accounts_per_customer

-- The part of the audit invariant on charges, bands, tax rates and customers' taxes: well-formed
-- fields (of bands by the third schema, with ordered bounds), unique keys (except of bands),
-- existing customers and tax rates of customers' taxes, and rates of each customer that sum to at
-- most the greatest tax rate.
pub record RateAuditInvariant (all_customers : List Customer) (all_charges : List Charge) (all_bands : List Band) (all_tax_rates : List TaxRate)
    (all_taxes : List CustomerTax) : Type 0 where
  pub charges : AllByRecursion (λ c. is_well_formed_charge_row c ≡ true) all_charges
  pub bands : AllByRecursion (λ b. is_well_formed_band_row third_schema b ≡ true) all_bands
  pub tax_rates : AllByRecursion (λ r. is_well_formed_tax_rate_row r ≡ true) all_tax_rates
  pub charge_keys : HasDistinctKeys charge_key all_charges
  pub tax_rate_keys : HasDistinctKeys tax_rate_key all_tax_rates
  pub customer_tax_keys : HasDistinctKeys customer_tax_key all_taxes
  -- The customer and the tax rate of each customer's tax exist.
  pub payers : AllByRecursion (TaxCustomerIsListed all_customers) all_taxes
  pub taxes : AllByRecursion (TaxRateIsListed all_tax_rates) all_taxes
  -- The rates of a customer sum to at most the greatest tax rate.
  pub rates : (customer : ℕ) → tax_rate_sum_in_lists all_tax_rates all_taxes customer ≤ greatest_tax_rate

-- The part of the audit invariant on securities: fields are well-formed, and the stamp of the last
-- tick, or of the listing, is at most `last`, which must exist if there is a security.
pub record SecurityAuditInvariant (last : Option ℕ) (all_securities : List Security) : Type 0 where
  pub securities : AllByRecursion (λ s. is_well_formed_security s ≡ true) all_securities
  pub moments : AllByRecursion (λ s. is_up_to_last_stamp last s.moment ≡ true) all_securities

-- The part of the audit invariant on sums over the completed trades `done` and the movements: each
-- holding summary, in shares, is at most the greatest summary in absolute value, and each balance,
-- in absolute value, and commission total, in cents, at most the greatest amount, for every
-- account, symbol and broker, existing or not.
pub record SumAuditInvariant (accounts : List Account) (done : List Trade) (movements : List Movement) : Type 0 where
  pub summaries : (account : ℕ) → (symbol : Text) → nat_abs (holding_summary_quantity done account symbol) ≤ greatest_summary_quantity
  pub balances : (account : ℕ) → nat_abs (balance_of_account accounts (postings accounts done movements) account) ≤ greatest_amount
  pub commissions : (broker : ℕ) → commission_total_of_broker accounts done broker ≤ greatest_amount

-- The base satisfies the audit invariant. The fields of its records are well-formed. The keys of
-- stored replies, brokers, customers, charges, tax rates and customers' taxes, and the tax ids of
-- customers are unique. The records that permissions and customers' taxes refer to exist. Stamps of
-- securities and status changes are at most the last stamp, which exists if there is a security or
-- a trade; stamps of movements are strictly ascending. Each trade has a valid status sequence with
-- strictly ascending stamps, and the price and texts that its status and its kind (cash or margin)
-- require. Due days and the first day of one-day settlement, if set, are at most 9999-12-31.
-- Accounts and tax rates of customers, number and amounts of movements, summaries, balances,
-- commission totals and settlement amounts are within their limits. Each part depends only on the
-- fields that it names, the part on trades also on those of `BaseTradeAuditInvariant`.
pub record AuditInvariant (base : Base) : Type 0 where
  pub keyed : StoredReplyAuditInvariant base.kept
  pub open keyed use *
  pub parties : PartyAuditInvariant base.brokers base.customers base.accounts base.permissions
  pub open parties use *
  pub terms : RateAuditInvariant base.customers base.charges base.bands base.tax_rates base.customer_taxes
  pub open terms use *
  pub listed : SecurityAuditInvariant base.last base.securities
  pub open listed use *
  -- Each trade satisfies the conditions on it.
  pub trades : AllByRecursion (BaseTradeAuditInvariant base) base.trades
  -- The movements and the first day of one-day settlement satisfy the conditions on them.
  pub cash : MovementAuditInvariant base.movements base.rule
  pub sums : SumAuditInvariant base.accounts (completed_trades base) base.movements
  pub open sums use *
