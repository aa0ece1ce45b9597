-- Each accepted command in the audit's formats preserves the audit invariant, and so does a call
-- with a well-formed key. The empty base satisfies the audit invariant.
use Rattle.std.proofs.Common.{◌≡◌, ℕ, List, [], ◌∷◌, refl, sym, ◌∙◌, ap, subst, arith, Option, Some, None}
use Rattle.std.specs.Prelude.{IfSome, Result, Ok, Err, bytes_eq, find, ◌&&◌, ◌==◌}
use Rattle.brk_money.specs.declared.refusal.Refusal.{Refusal}
use Rattle.brk_model.specs.Lists.{total_by}
use Rattle.brk_model.specs.Records.{Kept, Key, Trade}
use Rattle.brk_model.specs.Base.{Base, empty_base, trade_with_id}
use Rattle.brk_model.specs.Derived.{balance_of_account, commission_total_of_broker, holding_summary_quantity}
use Rattle.brk_model.specs.Feed.{base_after_tick, base_after_ticks}
use Rattle.brk_model.specs.Results.{base_after_result}
use Rattle.brk_model.specs.Commands.{Command, Reply, Tick, AddBroker, AddCustomer, AddAccount, AddPermission, AddSecurity, AddCharge, AddBand, AddTaxRate}
use Rattle.brk_model.specs.Commands.{AddCustomerTax, PlaceOrder, FeedTicks, CancelTrade, CompleteTrade, ChangeExecutors, ChangeCashTypes, ChangeCashNames}
use Rattle.brk_model.specs.Commands.{DepositCash, WithdrawCash, SetOneDay}
use Rattle.brk_model.specs.Keyed.{answer_and_base_of_step, stored_row_with_optional_key, answer_and_base_by_stored_row, keyed_step}
use Rattle.brk_model.specs.Step.{base_after_command_unstamped, reply_to_command, step, value_unless_refused}
use Rattle.brk_model.specs.Tests.{stamp_of_next_command, refusal_of_command}
use Rattle.std.specs.Option.{option_map_or}
use Rattle.brk_trade_books.specs.Books.{BooksInvariant}
use Rattle.brk_trade_books.specs.Steps.{base_after_command}
use Rattle.brk_trade_books.proofs.ResultKeeping.{result_named}
use Rattle.brk_audit_theorems.specs.Sound.{AuditInvariant}
use Rattle.brk_audit_theorems.specs.InForm.{MeetsAuditFormats, IsWellFormedKey}
use Rattle.brk_audit_theorems.proofs.SoundRecords.{LeavesSound, sound_account, sound_band, sound_broker, sound_charge, sound_customer, sound_customer_tax}
use Rattle.brk_audit_theorems.proofs.SoundRecords.{sound_kept, sound_permission, sound_security, sound_tax_rate}
use Rattle.brk_audit_theorems.proofs.SoundResult.{sound_then}
use Rattle.brk_audit_theorems.proofs.SoundMovements.{sound_deposit, sound_one_day, sound_withdrawal}
use Rattle.brk_audit_theorems.proofs.SoundTrades.{sound_cancel, sound_cash_names, sound_cash_types, sound_executors, sound_feed, sound_order}

pub sound_result : (base : Base) (now id price : ℕ) → LeavesSound base now (CompleteTrade id price)
unfolding base_after_command_unstamped
sound_result base now id price k books form accepted =
    let named = result_named base now id price accepted in
    subst (λ o. AuditInvariant (record (option_map_or (base_after_result base (stamp_of_next_command base now) price) o base) { last = Some (stamp_of_next_command base now) })) (sym named.1)
    (sound_then base now id price named.0 k books form named.1 accepted)

pub leaves_sound : (base : Base) (now : ℕ) (command : Command) → LeavesSound base now command
leaves_sound base now (AddBroker b) = sound_broker base now b
leaves_sound base now (AddCustomer c) = sound_customer base now c
leaves_sound base now (AddAccount a) = sound_account base now a
leaves_sound base now (AddPermission p) = sound_permission base now p
leaves_sound base now (AddSecurity l) = sound_security base now l
leaves_sound base now (AddCharge c) = sound_charge base now c
leaves_sound base now (AddBand b) = sound_band base now b
leaves_sound base now (AddTaxRate r) = sound_tax_rate base now r
leaves_sound base now (AddCustomerTax x) = sound_customer_tax base now x
leaves_sound base now (PlaceOrder o) = sound_order base now o
leaves_sound base now (FeedTicks ticks) = sound_feed base now ticks
leaves_sound base now (CancelTrade id) = sound_cancel base now id
leaves_sound base now (CompleteTrade id price) = sound_result base now id price
leaves_sound base now (ChangeExecutors ids) = sound_executors base now ids
leaves_sound base now (ChangeCashTypes account first last) = sound_cash_types base now account first last
leaves_sound base now (ChangeCashNames symbol first last) = sound_cash_names base now symbol first last
leaves_sound base now (DepositCash account amount) = sound_deposit base now account amount
leaves_sound base now (WithdrawCash account amount) = sound_withdrawal base now account amount
leaves_sound base now (SetOneDay day) = sound_one_day base now day

-- ---- a step

base_in : Base → Result (Reply × Base) Refusal → Base
base_in d (Ok booked) = booked.1
base_in d (Err refusal) = d

-- what is known of the base after an accepted step
pub step_leads : (P : Base → Type 0) (base : Base) (now : ℕ) (command : Command) (reply : Reply) (after : Base)
    → (refusal_of_command base now command ≡ None → P (base_after_command base now command)) → step base now command ≡ Ok (reply, after) → P after
unfolding step base_in
step_leads P base now command reply after h e = by_refusal (refusal_of_command base now command) refl e
  where
    by_refusal : (o : Option Refusal) → refusal_of_command base now command ≡ o
        → value_unless_refused {A = Reply × Base} o (reply_to_command base (stamp_of_next_command base now) command, base_after_command base now command) ≡ Ok (reply, after) → P after
    by_refusal None f e = subst P (ap (base_in base) e) (h f)
    by_refusal (Some refusal) f e = absurd (cc)

pub step_sound : (base : Base) (now : ℕ) (command : Command) (reply : Reply) (after : Base) → AuditInvariant base → BooksInvariant base → MeetsAuditFormats command
    → step base now command ≡ Ok (reply, after) → AuditInvariant after
step_sound base now command reply after k books form e = step_leads AuditInvariant base now command reply after (leaves_sound base now command k books form) e

-- ---- a call with a key

ticks_kept : (stamp : ℕ) (base : Base) (ticks : List Tick) → (base_after_ticks stamp base ticks).kept ≡ base.kept
unfolding base_after_ticks
ticks_kept stamp base [] = refl
ticks_kept stamp base (tick ∷ ticks) = ticks_kept stamp (base_after_tick stamp base tick) ticks

result_kept : (base : Base) (stamp price : ℕ) (o : Option Trade) → (option_map_or (base_after_result base stamp price) o base).kept ≡ base.kept
result_kept base stamp price None = refl
result_kept base stamp price (Some t) = refl

pub records_kept : (base : Base) (stamp : ℕ) (command : Command) → (base_after_command_unstamped base stamp command).kept ≡ base.kept
unfolding base_after_command_unstamped
records_kept base stamp (AddBroker b) = refl
records_kept base stamp (AddCustomer c) = refl
records_kept base stamp (AddAccount a) = refl
records_kept base stamp (AddPermission p) = refl
records_kept base stamp (AddSecurity l) = refl
records_kept base stamp (AddCharge c) = refl
records_kept base stamp (AddBand b) = refl
records_kept base stamp (AddTaxRate r) = refl
records_kept base stamp (AddCustomerTax x) = refl
records_kept base stamp (PlaceOrder o) = refl
records_kept base stamp (FeedTicks ticks) = ticks_kept stamp base ticks
records_kept base stamp (CancelTrade id) = refl
records_kept base stamp (CompleteTrade id price) = result_kept base stamp price (trade_with_id base id)
records_kept base stamp (ChangeExecutors ids) = refl
records_kept base stamp (ChangeCashTypes account first last) = refl
records_kept base stamp (ChangeCashNames symbol first last) = refl
records_kept base stamp (DepositCash account amount) = refl
records_kept base stamp (WithdrawCash account amount) = refl
records_kept base stamp (SetOneDay day) = refl

-- where its key is free
free_sound : (base : Base) (now : ℕ) (command : Command) (key : Option Key) → AuditInvariant base → BooksInvariant base → MeetsAuditFormats command
    → IfSome key IsWellFormedKey → stored_row_with_optional_key base key ≡ None
    → AuditInvariant (answer_and_base_of_step base key command (step base now command)).1
unfolding step
free_sound base now command key k books form named free = by_refusal (refusal_of_command base now command) refl
  where
    put : (key : Option Key) (reply : Reply) (after : Base) → IfSome key IsWellFormedKey → stored_row_with_optional_key after key ≡ None → AuditInvariant after
        → AuditInvariant (answer_and_base_of_step base key command (Ok (reply, after))).1
    put None reply after n f h = h
    put (Some key) reply after n f h = sound_kept after key command reply h n f

    same : (key : Option Key) → stored_row_with_optional_key base key ≡ None → stored_row_with_optional_key (base_after_command base now command) key ≡ None
    same None f = refl
    same (Some key) f = ap (find (λ k. bytes_eq k.key.batch key.batch && (k.key.n == key.n))) (records_kept base (stamp_of_next_command base now) command) ∙ f

    by_refusal : (o : Option Refusal) → refusal_of_command base now command ≡ o
        → AuditInvariant (answer_and_base_of_step base key command
        (value_unless_refused {A = Reply × Base} o (reply_to_command base (stamp_of_next_command base now) command, base_after_command base now command))).1
    by_refusal None f = put key (reply_to_command base (stamp_of_next_command base now) command) (base_after_command base now command) named (same key free)
        (leaves_sound base now command k books form f)
    by_refusal (Some refusal) f = k

pub keyed_sound : (base : Base) (now : ℕ) (command : Command) (key : Option Key) → AuditInvariant base → BooksInvariant base → MeetsAuditFormats command → IfSome key IsWellFormedKey
    → AuditInvariant (keyed_step base now command key).1
unfolding keyed_step
keyed_sound base now command key k books form named = by_kept (stored_row_with_optional_key base key) refl
  where
    by_kept : (o : Option Kept) → stored_row_with_optional_key base key ≡ o → AuditInvariant (answer_and_base_by_stored_row base now command key o).1
    by_kept None e = free_sound base now command key k books form named e
    by_kept (Some row) e = k

-- ---- the empty base

pub empty_sound : AuditInvariant empty_base
unfolding empty_base holding_summary_quantity balance_of_account commission_total_of_broker total_by
empty_sound = record {
  keyed = record { kept = tt; kept_keys = tt };
  parties = record {
    brokers = tt;
    customers = tt;
    accounts = tt;
    permissions = tt;
    broker_keys = tt;
    customer_keys = tt;
    tax_ids = tt;
    permitted = tt;
    owned = λ customer. omega arith;
  };
  terms = record {
    charges = tt;
    bands = tt;
    tax_rates = tt;
    charge_keys = tt;
    tax_rate_keys = tt;
    customer_tax_keys = tt;
    payers = tt;
    taxes = tt;
    rates = λ customer. omega arith;
  };
  listed = record { securities = tt; moments = tt };
  trades = tt;
  cash = record { fields = tt; risen = refl; few = omega arith; day = refl };
  sums = record { summaries = λ account symbol. omega arith; balances = λ account. omega arith; commissions = λ broker. omega arith };
}
