-- The step of one command: a refusal, or a reply and the base after it.
use Rattle.std.specs.Prelude.{ℕ, ◌==◌, [], ◌∷◌, ◌++◌, length, Option, Some, None, Result, Ok, Err}
use Rattle.std.specs.Option.{option_map_or}
use Rattle.brk_money.specs.declared.refusal.Refusal.{Refusal}
use Rattle.brk_money.specs.declared.status.Status.TheVariants.{Canceled}
use Rattle.brk_model.specs.Records.{Security}
use Rattle.brk_model.specs.Base.{Base, trade_with_id, trade_with_status_change, base_with_updated_trades}
use Rattle.brk_model.specs.Orders.{base_after_order, reply_to_order}
use Rattle.brk_model.specs.Feed.{base_after_ticks, triggered_trade_ids}
use Rattle.brk_model.specs.Results.{base_after_result, completion_of_trade}
use Rattle.brk_model.specs.Updates.{selected_trade_ids_of_account, selected_trade_ids_of_symbol, base_with_updated_executors, base_with_updated_cash_types}
use Rattle.brk_model.specs.Updates.{base_with_updated_cash_names}
use Rattle.brk_model.specs.Movements.{deposit_movement, withdrawal_movement, base_after_movement, base_with_one_day_settlement_start, reply_to_movement}
use Rattle.brk_model.specs.Tests.{stamp_of_next_command, refusal_of_command}
use Rattle.brk_model.specs.Commands.{Command, Listing, Reply, Booked, Ticked, CanceledTrade, CompletedTrade, Changed, AddBroker, AddCustomer, AddAccount}
use Rattle.brk_model.specs.Commands.{AddPermission, AddSecurity, AddCharge, AddBand, AddTaxRate, AddCustomerTax, PlaceOrder, FeedTicks, CancelTrade}
use Rattle.brk_model.specs.Commands.{CompleteTrade, ChangeExecutors, ChangeCashTypes, ChangeCashNames, DepositCash, WithdrawCash, SetOneDay}

-- The security of the listing `l`, with its first price as last price, volume 0 and stamp `stamp`.
abbrev pub security_of_listing : ℕ → Listing → Security
security_of_listing stamp l =
    record { symbol = l.symbol; name = l.name; exchange = l.exchange; sector = l.sector; last_price = l.price; volume = 0; moment = stamp }

-- The base with the trade of the id `id` completed at `price` and `stamp`; unchanged without it.
abbrev pub base_after_result_by_id : Base → ℕ → ℕ → ℕ → Base
base_after_result_by_id base stamp id price = option_map_or (base_after_result base stamp price) (trade_with_id base id) base

-- The base after a command that is accepted at `stamp`, still with the last stamp of `base`.
unfoldable pub base_after_command_unstamped : Base → ℕ → Command → Base
base_after_command_unstamped base stamp (AddBroker b) = record base { brokers = base.brokers ++ b ∷ [] }
base_after_command_unstamped base stamp (AddCustomer c) = record base { customers = base.customers ++ c ∷ [] }
base_after_command_unstamped base stamp (AddAccount a) = record base { accounts = base.accounts ++ a ∷ [] }
base_after_command_unstamped base stamp (AddPermission p) = record base { permissions = base.permissions ++ p ∷ [] }
base_after_command_unstamped base stamp (AddSecurity l) = record base { securities = base.securities ++ security_of_listing stamp l ∷ [] }
base_after_command_unstamped base stamp (AddCharge c) = record base { charges = base.charges ++ c ∷ [] }
base_after_command_unstamped base stamp (AddBand b) = record base { bands = base.bands ++ b ∷ [] }
base_after_command_unstamped base stamp (AddTaxRate r) = record base { tax_rates = base.tax_rates ++ r ∷ [] }
base_after_command_unstamped base stamp (AddCustomerTax x) = record base { customer_taxes = base.customer_taxes ++ x ∷ [] }
base_after_command_unstamped base stamp (PlaceOrder o) = base_after_order base stamp o
base_after_command_unstamped base stamp (FeedTicks ticks) = base_after_ticks stamp base ticks
base_after_command_unstamped base stamp (CancelTrade id) = base_with_updated_trades (λ t. t.id == id) (trade_with_status_change stamp Canceled) base
base_after_command_unstamped base stamp (CompleteTrade id price) = base_after_result_by_id base stamp id price
base_after_command_unstamped base stamp (ChangeExecutors ids) = base_with_updated_executors ids base
base_after_command_unstamped base stamp (ChangeCashTypes account first last) =
    base_with_updated_cash_types (selected_trade_ids_of_account base account first last) base
base_after_command_unstamped base stamp (ChangeCashNames symbol first last) =
    base_with_updated_cash_names (selected_trade_ids_of_symbol base symbol first last) base
base_after_command_unstamped base stamp (DepositCash account amount) = base_after_movement base (deposit_movement stamp account amount)
base_after_command_unstamped base stamp (WithdrawCash account amount) = base_after_movement base (withdrawal_movement stamp account amount)
base_after_command_unstamped base stamp (SetOneDay day) = base_with_one_day_settlement_start base day

-- The reply to a command that is accepted at `stamp` on `base`. A result of a trade that does not
-- exist is never accepted; its reply here is `Booked`.
unfoldable pub reply_to_command : Base → ℕ → Command → Reply
reply_to_command base stamp (AddBroker b) = Booked stamp
reply_to_command base stamp (AddCustomer c) = Booked stamp
reply_to_command base stamp (AddAccount a) = Booked stamp
reply_to_command base stamp (AddPermission p) = Booked stamp
reply_to_command base stamp (AddSecurity l) = Booked stamp
reply_to_command base stamp (AddCharge c) = Booked stamp
reply_to_command base stamp (AddBand b) = Booked stamp
reply_to_command base stamp (AddTaxRate r) = Booked stamp
reply_to_command base stamp (AddCustomerTax x) = Booked stamp
reply_to_command base stamp (PlaceOrder o) = reply_to_order base stamp o
reply_to_command base stamp (FeedTicks ticks) = Ticked stamp (triggered_trade_ids stamp base ticks)
reply_to_command base stamp (CancelTrade id) = CanceledTrade stamp
reply_to_command base stamp (CompleteTrade id price) =
    option_map_or (λ t. CompletedTrade stamp (completion_of_trade base stamp price t)) (trade_with_id base id) (Booked stamp)
reply_to_command base stamp (ChangeExecutors ids) = Changed stamp (length ids)
reply_to_command base stamp (ChangeCashTypes account first last) = Changed stamp (length (selected_trade_ids_of_account base account first last))
reply_to_command base stamp (ChangeCashNames symbol first last) = Changed stamp (length (selected_trade_ids_of_symbol base symbol first last))
reply_to_command base stamp (DepositCash account amount) = reply_to_movement base (deposit_movement stamp account amount)
reply_to_command base stamp (WithdrawCash account amount) = reply_to_movement base (withdrawal_movement stamp account amount)
reply_to_command base stamp (SetOneDay day) = Booked stamp

-- The base after the command that is accepted at `stamp` on `base`; its last stamp is `stamp`.
abbrev pub base_after_accepted_command : Base → ℕ → Command → Base
base_after_accepted_command base stamp command = record (base_after_command_unstamped base stamp command) { last = Some stamp }

-- The refusal as an error if there is one, otherwise `value`.
abbrev pub value_unless_refused : {A : Type 0} → Option Refusal → A → Result A Refusal
value_unless_refused None value = Ok value
value_unless_refused (Some refusal) value = Err refusal

-- The result of one command at the clock reading `now` on `base`: its refusal, or its reply and the
-- base after it.
unfoldable pub step : Base → ℕ → Command → Result (Reply × Base) Refusal
step base now command =
    value_unless_refused (refusal_of_command base now command)
    (reply_to_command base (stamp_of_next_command base now) command, base_after_accepted_command base (stamp_of_next_command base now) command)
