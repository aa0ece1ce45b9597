-- The model's command of each typed command.
use Rattle.brk_model.specs.Commands.{Command, PlaceOrder, FeedTicks, CancelTrade, SetOneDay}
use Rattle.brk_trade_plans.specs.Commands as books
use Rattle.brk_ref_orders.specs.Records.{movement_command, abstract_order, completion_command, abstract_ticks, text_update_command}
use Rattle.brk_desk_commands.specs.declared.command.Command as told
use Rattle.brk_desk_commands.specs.declared.command.Command.TheVariants as command

-- The model's command that a typed command represents: of the corresponding kind, with its values.
abbrev pub abstract_command : told.Command → Command
abstract_command (command.Add reference) = books.command_adding_record reference
abstract_command (command.Order order) = PlaceOrder (abstract_order order)
abstract_command (command.Feed ticks) = FeedTicks (abstract_ticks ticks)
abstract_command (command.Cancel trade) = CancelTrade trade
abstract_command (command.Complete completion) = completion_command completion
abstract_command (command.Update update) = text_update_command update
abstract_command (command.Move movement) = movement_command movement
abstract_command (command.OneDay day) = SetOneDay day
