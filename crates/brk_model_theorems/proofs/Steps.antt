-- The fields that a step leaves unchanged, and the stamp of an accepted command.
use Rattle.std.proofs.Common.{◌≡◌, ◌<◌, ℕ, ◌+◌, List, [], ◌∷◌, max, refl, sym, ap, arith, Option, Some, None, IfSome, Result, Ok, Err, fold}
use Rattle.std.specs.Option.{option_map_or}
use Rattle.brk_money.specs.declared.refusal.Refusal.{Refusal}
use Rattle.brk_model.specs.Records.{Trade}
use Rattle.brk_model.specs.Base.{Base, trade_with_id}
use Rattle.brk_model.specs.Commands.{Command, Tick, Reply, Booked, CompletedTrade, AddBroker, AddCustomer, AddAccount, AddPermission, AddSecurity, AddCharge}
use Rattle.brk_model.specs.Commands.{AddBand, AddTaxRate, AddCustomerTax, PlaceOrder, FeedTicks, CancelTrade, CompleteTrade, ChangeExecutors, ChangeCashTypes}
use Rattle.brk_model.specs.Commands.{ChangeCashNames, DepositCash, WithdrawCash, SetOneDay}
use Rattle.brk_model.specs.Feed.{base_after_tick, base_after_ticks}
use Rattle.brk_model.specs.Results.{base_after_result, completion_of_trade}
use Rattle.brk_model.specs.Tests.{stamp_of_next_command, refusal_of_command}
use Rattle.brk_model.specs.Step.{base_after_command_unstamped, reply_to_command, base_after_accepted_command, value_unless_refused, step}
use Rattle.brk_model_theorems.specs.Laws.{stamp_of_reply}

-- ---- kept rows

ticks-kept : (stamp : ℕ) (base : Base) (ticks : List Tick) → (fold (base_after_tick stamp) base ticks).kept ≡ base.kept
ticks-kept stamp base [] = refl
ticks-kept stamp base (tick ∷ ticks) = ticks-kept stamp (base_after_tick stamp base tick) ticks

result-kept : (base : Base) (stamp price : ℕ) (found : Option Trade) → (option_map_or (base_after_result base stamp price) found base).kept ≡ base.kept
result-kept base stamp price None = refl
result-kept base stamp price (Some t) = refl

-- a command keeps no row by itself
pub records-kept : (base : Base) (stamp : ℕ) (command : Command) → (base_after_command_unstamped base stamp command).kept ≡ base.kept
unfolding base_after_command_unstamped base_after_ticks
records-kept base stamp (AddBroker b) = refl
records-kept base stamp (AddCustomer c) = refl
records-kept base stamp (AddAccount a) = refl
records-kept base stamp (AddPermission p) = refl
records-kept base stamp (AddSecurity l) = refl
records-kept base stamp (AddCharge c) = refl
records-kept base stamp (AddBand b) = refl
records-kept base stamp (AddTaxRate r) = refl
records-kept base stamp (AddCustomerTax x) = refl
records-kept base stamp (PlaceOrder o) = refl
records-kept base stamp (FeedTicks ticks) = ticks-kept stamp base ticks
records-kept base stamp (CancelTrade id) = refl
records-kept base stamp (CompleteTrade id price) = result-kept base stamp price (trade_with_id base id)
records-kept base stamp (ChangeExecutors ids) = refl
records-kept base stamp (ChangeCashTypes account first last) = refl
records-kept base stamp (ChangeCashNames symbol first last) = refl
records-kept base stamp (DepositCash account amount) = refl
records-kept base stamp (WithdrawCash account amount) = refl
records-kept base stamp (SetOneDay day) = refl

-- ---- the stamp

result-stamp : (base : Base) (stamp price : ℕ) (found : Option Trade) → stamp_of_reply (option_map_or (λ t. CompletedTrade stamp (completion_of_trade base stamp price t)) found (Booked stamp)) ≡ stamp
result-stamp base stamp price None = refl
result-stamp base stamp price (Some t) = refl

-- a reply tells the stamp
pub reply-stamp : (base : Base) (stamp : ℕ) (command : Command) → stamp_of_reply (reply_to_command base stamp command) ≡ stamp
unfolding reply_to_command
reply-stamp base stamp (AddBroker b) = refl
reply-stamp base stamp (AddCustomer c) = refl
reply-stamp base stamp (AddAccount a) = refl
reply-stamp base stamp (AddPermission p) = refl
reply-stamp base stamp (AddSecurity l) = refl
reply-stamp base stamp (AddCharge c) = refl
reply-stamp base stamp (AddBand b) = refl
reply-stamp base stamp (AddTaxRate r) = refl
reply-stamp base stamp (AddCustomerTax x) = refl
reply-stamp base stamp (PlaceOrder o) = refl
reply-stamp base stamp (FeedTicks ticks) = refl
reply-stamp base stamp (CancelTrade id) = refl
reply-stamp base stamp (CompleteTrade id price) = result-stamp base stamp price (trade_with_id base id)
reply-stamp base stamp (ChangeExecutors ids) = refl
reply-stamp base stamp (ChangeCashTypes account first last) = refl
reply-stamp base stamp (ChangeCashNames symbol first last) = refl
reply-stamp base stamp (DepositCash account amount) = refl
reply-stamp base stamp (WithdrawCash account amount) = refl
reply-stamp base stamp (SetOneDay day) = refl

above : (last : Option ℕ) (now : ℕ) → IfSome last (λ l. l < option_map_or (λ k. max now (k + 1)) last now)
above None now = tt
above (Some l) now = omega arith

-- the next stamp is above the last one
pub next-above : (base : Base) (now : ℕ) → IfSome base.last (λ l. l < stamp_of_next_command base now)
next-above base now = above base.last now

-- ---- an accepted step

-- The model accepts the command with this reply and this base after it.
pub record Accepted (base : Base) (now : ℕ) (command : Command) (reply : Reply) (after : Base) : Type 0 where
  pub passes : refusal_of_command base now command ≡ None
  pub told : reply ≡ reply_to_command base (stamp_of_next_command base now) command
  pub moved : after ≡ base_after_accepted_command base (stamp_of_next_command base now) command

by_refusal : (base : Base) (now : ℕ) (command : Command) (reply : Reply) (after : Base) (refusal : Option Refusal) → refusal_of_command base now command ≡ refusal
    → value_unless_refused {A = Reply × Base} refusal
    (reply_to_command base (stamp_of_next_command base now) command, base_after_accepted_command base (stamp_of_next_command base now) command)
    ≡ Ok (reply, after) → Accepted base now command reply after
by_refusal base now command reply after None h e = record { passes = h; told = sym (ap (told_of reply) e); moved = sym (ap (base_of after) e) }
  where
    told_of : Reply → Result (Reply × Base) Refusal → Reply
    told_of d (Ok booked) = booked.0
    told_of d (Err refusal) = d

    base_of : Base → Result (Reply × Base) Refusal → Base
    base_of d (Ok booked) = booked.1
    base_of d (Err refusal) = d
by_refusal base now command reply after (Some refusal) h e = absurd (cc)

pub accepted : (base : Base) (now : ℕ) (command : Command) (reply : Reply) (after : Base) → step base now command ≡ Ok (reply, after) → Accepted base now command reply after
unfolding step
accepted base now command reply after e = by_refusal base now command reply after (refusal_of_command base now command) refl e
