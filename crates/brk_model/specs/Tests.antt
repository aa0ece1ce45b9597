-- The checks of a well-formed command, of which the first that applies refuses it. The bounds of a
-- band are checked once more, although no parsed row has them reversed (`read_quantity_bounds`).
use Rattle.std.specs.Prelude.{ℕ, ◌+◌, Bool, true, false, not, ◌&&◌, ◌==◌, nat_le, nat_lt, List, [], ◌∷◌, ◌++◌, length, filter, find, Option, option_map}
use Rattle.std.specs.Prelude.{is_some, is_none, nat_abs, bytes_eq}
use Rattle.std.specs.List.{list_any}
use Rattle.std.specs.Option.{option_map_or}
use Rattle.brk_money.specs.Spelling.{Text}
use Rattle.brk_money.specs.Moments.{day_of, greatest_day, greatest_stamp, unlimited_stamp_after}
use Rattle.brk_money.specs.Kinds.{is_same_trade_type}
use Rattle.brk_money.specs.OrderTypes.{trade_type_of_order_type}
use Rattle.brk_money.specs.declared.refusal.Refusal.{Refusal}
use Rattle.brk_money.specs.declared.refusal.Refusal.TheVariants.{BadQty, NoAccount, NoCustomer, NoBroker, NoSecurity, NoTrade, NoTax, WrongStatus, NotPermitted}
use Rattle.brk_money.specs.declared.refusal.Refusal.TheVariants.{Exists, Overlap, TaxSum, NoCharge, NoRate, Range, ClockEnd, TooEarly}
use Rattle.brk_money.specs.declared.refusal.Limit.TheVariants as limit
use Rattle.brk_money.specs.declared.status.Status.TheVariants.{Pending, Submitted}
use Rattle.brk_model.specs.Limits.{greatest_amount, greatest_summary_quantity, greatest_tax_rate, greatest_id, most_accounts_per_customer}
use Rattle.brk_model.specs.Records.{Band, Trade, Movement}
use Rattle.brk_model.specs.Base.{Base, broker_with_id, customer_with_id, account_with_id, security_with_symbol, tax_rate_record_with_id, trade_with_id}
use Rattle.brk_model.specs.Base.{charge_for_type_and_tier, commission_band_for_quantity, broker_id_of_account, tier_of_account, exchange_of_security}
use Rattle.brk_model.specs.Base.{tax_rate_sum_of_customer, completed_trades, has_last_status}
use Rattle.brk_model.specs.Tables.{last_status_of_trade}
use Rattle.brk_model.specs.Derived.{due_day_of_completion_stamp, holding_summary_quantity, postings_of_base, balance_of_account, commission_total_of_broker}
use Rattle.brk_model.specs.Orders.{may_order_for_account}
use Rattle.brk_model.specs.Feed.{base_after_ticks}
use Rattle.brk_model.specs.Results.{base_after_result}
use Rattle.brk_model.specs.Movements.{deposit_movement, withdrawal_movement, base_after_movement}
use Rattle.brk_model.specs.Commands.{Command, Order, AddBroker, AddCustomer, AddAccount, AddPermission, AddSecurity, AddCharge, AddBand, AddTaxRate}
use Rattle.brk_model.specs.Commands.{AddCustomerTax, PlaceOrder, FeedTicks, CancelTrade, CompleteTrade, ChangeExecutors, ChangeCashTypes, ChangeCashNames}
use Rattle.brk_model.specs.Commands.{DepositCash, WithdrawCash, SetOneDay}

-- The type of a check: a Boolean that is true if the refusal applies, and the refusal.
abbrev pub RefusalCheck : Type 0
RefusalCheck = Bool × Refusal

-- The refusal of the first check that applies; none if no check applies.
abbrev pub first_refusal : List RefusalCheck → Option Refusal
first_refusal tests = option_map (λ test. test.1) (find (λ test. test.0) tests)

-- The stamp of a command at the clock reading `now`: `now`, or the last stamp of `base` plus 1 ms
-- if that is later. If it exceeds the greatest stamp, `checks_of_stamp` refuses it (`ClockEnd`).
abbrev pub stamp_of_next_command : Base → ℕ → ℕ
stamp_of_next_command base now = unlimited_stamp_after base.last now

-- The check that refuses with `NoAccount` if no account of `base` has the id `id`.
abbrev pub account_exists_check : Base → ℕ → RefusalCheck
account_exists_check base id = (is_none (account_with_id base id), NoAccount)

-- The check that refuses with `NoCustomer` if no customer of `base` has the id `id`.
abbrev pub customer_exists_check : Base → ℕ → RefusalCheck
customer_exists_check base id = (is_none (customer_with_id base id), NoCustomer)

-- The check that refuses with `NoBroker` if no broker of `base` has the id `id`.
abbrev pub broker_exists_check : Base → ℕ → RefusalCheck
broker_exists_check base id = (is_none (broker_with_id base id), NoBroker)

-- The check that refuses with `NoSecurity` if no security of `base` has the symbol `symbol`.
abbrev pub security_exists_check : Base → Text → RefusalCheck
security_exists_check base symbol = (is_none (security_with_symbol base symbol), NoSecurity)

-- The check that refuses with `Exists` if `found` is true.
abbrev pub duplicate_check : Bool → RefusalCheck
duplicate_check found = (found, Exists)

-- True if the bands `b` and `c` have equal tiers, types and exchanges, and the lower bound of each
-- is at most the upper bound of the other.
abbrev pub bands_overlap : Band → Band → Bool
bands_overlap b c =
    (b.tier == c.tier) && is_same_trade_type b.kind c.kind && bytes_eq b.exchange c.exchange && nat_le b.from_qty c.to_qty && nat_le c.from_qty b.to_qty

-- The check that refuses with `NoCharge` if `base` has no charge for the trade type of the order
-- `o` and the tier of the customer of its account (`tier_of_account`, 0 if there is none).
abbrev pub charge_exists_check : Base → Order → RefusalCheck
charge_exists_check base o = (is_none (charge_for_type_and_tier base (trade_type_of_order_type o.order_type) (tier_of_account base o.account)), NoCharge)

-- The check that refuses with `NoRate` if `base` has no commission band for the order `o`, by the
-- tier of its account, its trade type, the exchange of its security and its quantity.
abbrev pub commission_band_exists_check : Base → Order → RefusalCheck
commission_band_exists_check base o = (
  is_none (commission_band_for_quantity base (tier_of_account base o.account) (trade_type_of_order_type o.order_type)
      (exchange_of_security base o.symbol) o.qty),
  NoRate,
)

-- The checks of the order `o`, also of a query for its estimate, in sequence: its account and its
-- security exist, its executor may order for the account, and a charge and a commission band apply.
abbrev pub checks_of_order : Base → Order → List RefusalCheck
checks_of_order base o =
    account_exists_check base o.account ∷ security_exists_check base o.symbol ∷ (not (may_order_for_account base o.account o.executor), NotPermitted)
    ∷ charge_exists_check base o ∷ commission_band_exists_check base o ∷ []

-- The check that refuses with `WrongStatus` and the last status of the trade `t` if not `right`.
abbrev pub status_check : Bool → Trade → RefusalCheck
status_check right t = (not right, WrongStatus (last_status_of_trade t))

-- The checks of a result of the trade `t` at `stamp`, in sequence: `t` is submitted; a commission
-- band applies; in `after`, the base that would follow, the holding summary is at most
-- `greatest_summary_quantity` and the account's balance (for a cash trade only) at most
-- `greatest_amount`, in absolute value, and the broker's commission total at most
-- `greatest_amount`; and the due day is at most `greatest_day`.
abbrev pub checks_of_result : Base → Base → ℕ → Trade → List RefusalCheck
checks_of_result base after stamp t =
    status_check (has_last_status Submitted t) t
    ∷ (is_none (commission_band_for_quantity base (tier_of_account base t.account) t.kind (exchange_of_security base t.symbol) t.qty), NoRate)
    ∷ (nat_lt greatest_summary_quantity (nat_abs (holding_summary_quantity (completed_trades after) t.account t.symbol)), Range limit.Summary)
    ∷ (t.is_cash && nat_lt greatest_amount (nat_abs (balance_of_account after.accounts (postings_of_base after) t.account)), Range limit.Balance)
    ∷ (nat_lt greatest_amount (commission_total_of_broker after.accounts (completed_trades after) (broker_id_of_account base t.account)), Range limit.Broker)
    ∷ (nat_lt greatest_day (due_day_of_completion_stamp base.rule stamp), ClockEnd)
    ∷ []

-- The checks of the movement `m`, in sequence: its account exists, the absolute value of the
-- balance after it is at most `greatest_amount`, and there are fewer than `greatest_id` movements.
abbrev pub checks_of_movement : Base → Movement → List RefusalCheck
checks_of_movement base m =
    account_exists_check base m.account
    ∷ (nat_lt greatest_amount (nat_abs (balance_of_account base.accounts (postings_of_base (base_after_movement base m)) m.account)), Range limit.Balance)
    ∷ (nat_le greatest_id (length base.movements), Range limit.Moves)
    ∷ []

-- The checks of `tests` on the trade with the id `id`; without it, one that refuses with `NoTrade`.
abbrev pub checks_of_trade_with_id : Base → ℕ → (Trade → List RefusalCheck) → List RefusalCheck
checks_of_trade_with_id base id tests = option_map_or tests (trade_with_id base id) ((true, NoTrade) ∷ [])

-- The checks of a command at `stamp`, in sequence, except those of the stamp (`checks_of_stamp`).
unfoldable pub checks_of_command : Base → ℕ → Command → List RefusalCheck
checks_of_command base stamp (AddBroker b) = duplicate_check (is_some (broker_with_id base b.id)) ∷ []
checks_of_command base stamp (AddCustomer c) =
    duplicate_check (list_any (λ d. (d.id == c.id)) base.customers) ∷ duplicate_check (list_any (λ d. bytes_eq d.tax_id c.tax_id) base.customers) ∷ []
checks_of_command base stamp (AddAccount a) =
    customer_exists_check base a.customer ∷ broker_exists_check base a.broker ∷ duplicate_check (is_some (account_with_id base a.id))
    ∷ (nat_le most_accounts_per_customer (length (filter (λ b. b.customer == a.customer) base.accounts)), Range limit.Accounts) ∷ []
checks_of_command base stamp (AddPermission p) =
    account_exists_check base p.account ∷ duplicate_check (list_any (λ q. (q.account == p.account) && bytes_eq q.tax_id p.tax_id) base.permissions) ∷ []
checks_of_command base stamp (AddSecurity s) = duplicate_check (is_some (security_with_symbol base s.symbol)) ∷ []
checks_of_command base stamp (AddCharge c) = duplicate_check (is_some (charge_for_type_and_tier base c.kind c.tier)) ∷ []
checks_of_command base stamp (AddBand b) = (nat_lt b.to_qty b.from_qty, BadQty) ∷ (list_any (bands_overlap b) base.bands, Overlap) ∷ []
checks_of_command base stamp (AddTaxRate r) = duplicate_check (is_some (tax_rate_record_with_id base r.id)) ∷ []
checks_of_command base stamp (AddCustomerTax x) =
    customer_exists_check base x.customer ∷ (is_none (tax_rate_record_with_id base x.tax), NoTax)
    ∷ duplicate_check (list_any (λ y. (y.customer == x.customer) && (y.tax == x.tax)) base.customer_taxes)
    ∷ (nat_lt greatest_tax_rate (tax_rate_sum_of_customer base x.customer + option_map_or (λ r. r.rate) (tax_rate_record_with_id base x.tax) 0), TaxSum) ∷ []
checks_of_command base stamp (PlaceOrder o) = checks_of_order base o ++ (nat_le greatest_id (length base.trades), Range limit.Trades) ∷ []
checks_of_command base stamp (FeedTicks ticks) =
    (list_any (λ tick. is_none (security_with_symbol base tick.symbol)) ticks, NoSecurity)
    ∷ (list_any (λ s. nat_lt greatest_amount s.volume) (base_after_ticks stamp base ticks).securities, Range limit.Volume) ∷ []
checks_of_command base stamp (CancelTrade id) = checks_of_trade_with_id base id (λ t. status_check (has_last_status Pending t) t ∷ [])
checks_of_command base stamp (CompleteTrade id price) =
    checks_of_trade_with_id base id (λ t. checks_of_result base (base_after_result base stamp price t) stamp t)
checks_of_command base stamp (ChangeExecutors ids) = (list_any (λ id. is_none (trade_with_id base id)) ids, NoTrade) ∷ []
checks_of_command base stamp (ChangeCashTypes account first last) = account_exists_check base account ∷ []
checks_of_command base stamp (ChangeCashNames symbol first last) = security_exists_check base symbol ∷ []
checks_of_command base stamp (DepositCash account amount) = checks_of_movement base (deposit_movement stamp account amount)
checks_of_command base stamp (WithdrawCash account amount) = checks_of_movement base (withdrawal_movement stamp account amount)
checks_of_command base stamp (SetOneDay day) = duplicate_check (is_some base.rule) ∷ []

-- True if the command sets a first day of one-day settlement not after the UTC day of `stamp`.
abbrev pub is_one_day_settlement_start_too_early : ℕ → Command → Bool
is_one_day_settlement_start_too_early stamp (SetOneDay day) = nat_le day (day_of stamp)
is_one_day_settlement_start_too_early stamp _ = false

-- The checks of a command's stamp, after all others: `ClockEnd` if it is past the greatest stamp,
-- `TooEarly` if the command sets a first day of one-day settlement that is not after its UTC day.
abbrev pub checks_of_stamp : ℕ → Command → List RefusalCheck
checks_of_stamp stamp command = (nat_lt greatest_stamp stamp, ClockEnd) ∷ (is_one_day_settlement_start_too_early stamp command, TooEarly) ∷ []

-- The refusal of the command at the clock reading `now` on `base`, by the first check that applies;
-- none if no check applies, and the command is then accepted.
unfoldable pub refusal_of_command : Base → ℕ → Command → Option Refusal
refusal_of_command base now command =
    first_refusal (checks_of_command base (stamp_of_next_command base now) command ++ checks_of_stamp (stamp_of_next_command base now) command)
