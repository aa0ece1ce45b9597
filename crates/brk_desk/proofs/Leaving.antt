-- No command by itself changes the stored replies.
use Rattle.std.proofs.Common.{◌≡◌, ℕ, List, [], ◌∷◌, Option, Some, None, refl}
use Rattle.std.specs.Option.{option_map_or}
use Rattle.brk_model.specs.Base.{Base, trade_with_id}
use Rattle.brk_model.specs.Commands.{Command, Tick, AddBroker, AddCustomer, AddAccount, AddPermission, AddSecurity, AddCharge, AddBand, AddTaxRate}
use Rattle.brk_model.specs.Commands.{AddCustomerTax, PlaceOrder, FeedTicks, CancelTrade, CompleteTrade, ChangeExecutors, ChangeCashTypes, ChangeCashNames}
use Rattle.brk_model.specs.Commands.{DepositCash, WithdrawCash, SetOneDay}
use Rattle.brk_model.specs.Feed.{base_after_tick, base_after_ticks}
use Rattle.brk_model.specs.Records.{Trade}
use Rattle.brk_model.specs.Results.{base_after_result}
use Rattle.brk_model.specs.Step.{base_after_accepted_command, base_after_command_unstamped}

-- ticks leave it
ticks_leave : (stamp : ℕ) (base : Base) (ticks : List Tick) → (base_after_ticks stamp base ticks).kept ≡ base.kept
unfolding base_after_ticks
ticks_leave stamp base [] = refl
ticks_leave stamp base (tick ∷ ticks) = ticks_leave stamp (base_after_tick stamp base tick) ticks

-- a result leaves it, whether or not its trade is there
result_leaves : (base : Base) (stamp price : ℕ) (trade : Option Trade) → (option_map_or (base_after_result base stamp price) trade base).kept ≡ base.kept
result_leaves base stamp price None = refl
result_leaves base stamp price (Some t) = refl

-- so does every command
pub leaves_kept : (base : Base) (stamp : ℕ) (command : Command) → (base_after_accepted_command base stamp command).kept ≡ base.kept
unfolding base_after_command_unstamped
leaves_kept base stamp (AddBroker b) = refl
leaves_kept base stamp (AddCustomer c) = refl
leaves_kept base stamp (AddAccount a) = refl
leaves_kept base stamp (AddPermission p) = refl
leaves_kept base stamp (AddSecurity l) = refl
leaves_kept base stamp (AddCharge c) = refl
leaves_kept base stamp (AddBand b) = refl
leaves_kept base stamp (AddTaxRate r) = refl
leaves_kept base stamp (AddCustomerTax x) = refl
leaves_kept base stamp (PlaceOrder o) = refl
leaves_kept base stamp (FeedTicks ticks) = ticks_leave stamp base ticks
leaves_kept base stamp (CancelTrade id) = refl
leaves_kept base stamp (CompleteTrade id price) = result_leaves base stamp price (trade_with_id base id)
leaves_kept base stamp (ChangeExecutors ids) = refl
leaves_kept base stamp (ChangeCashTypes account first last) = refl
leaves_kept base stamp (ChangeCashNames symbol first last) = refl
leaves_kept base stamp (DepositCash account amount) = refl
leaves_kept base stamp (WithdrawCash account amount) = refl
leaves_kept base stamp (SetOneDay day) = refl
