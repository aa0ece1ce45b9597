-- Text updates: their checks, and the plan of an accepted one.
use Rattle.std.specs.Prelude.{◌≡◌, ℕ, Bool, is_none, if◌then◌else◌, List, [], ◌∷◌, ◌++◌, length, map, Option, Some, codes, string_bytes}
use Rattle.brk_money.specs.Moments.{stamp_after}
use Rattle.brk_money.specs.Spelling.{Text}
use Rattle.brk_money.specs.declared.refusal.Refusal.{Refusal}
use Rattle.brk_money.specs.declared.refusal.Refusal.TheVariants.{NoAccount, NoSecurity, NoTrade}
use Rattle.brk_money.specs.declared.trade_type.TradeType.{TradeType}
use Rattle.brk_model.specs.Lists.{contains_text}
use Rattle.brk_model.specs.Results.{cash_row_name_from_parts}
use Rattle.brk_model.specs.Tables.{Tables}
use Rattle.brk_model.specs.Tests.{RefusalCheck}
use Rattle.brk_model.specs.Updates.{updated_executor_name, toggled_word}
use Rattle.brk_trade_rows.specs.Changes.{tables_after_change, tables_with_cash_text, tables_with_cash_type, tables_with_executor_name, tables_with_last_stamp}
use Rattle.brk_ref.specs.Rows.{cash_type_text}
use Rattle.brk_ref.specs.declared.trade_row.TradeRow.{TradeRow}
use Rattle.brk_ref_orders.specs.declared.update.Update as told
use Rattle.brk_ref_orders.specs.declared.update.Update.TheVariants as update
use Rattle.brk_trade_plans.specs.declared.corrected.TextUpdate.{TextUpdate}
use Rattle.brk_trade_plans.specs.declared.corrected.TextUpdate.TheVariants as corrected
use Rattle.brk_trade_plans.specs.declared.corrected.CashText.{CashText}
use Rattle.brk_trade_plans.specs.declared.corrected.SettlementText.{SettlementText}
use Rattle.brk_trade_plans.specs.declared.plan.Plan.{Plan}
use Rattle.brk_trade_plans.specs.declared.reply.Reply.TheVariants.{Changed}

-- The new settlement text (SE_CASH_TYPE) of a trade whose present one is `word`: for a cash trade
-- (`is_cash`) `Cash` if `word` is `Cash Account`, otherwise `Cash Account`; for a margin trade
-- `Margin` if `word` is `Margin Account`, otherwise `Margin Account`.
abbrev pub toggled_cash_type_text : Bool → Text → Text
toggled_cash_type_text is_cash word =
    if is_cash then toggled_word (codes "Cash Account") (codes "Cash") word else toggled_word (codes "Margin Account") (codes "Margin") word

-- The new cash text (CM_NAME) of a trade whose present one is `name`: type name, space, quantity, "
-- Shares of " if `name` contains " shares of ", otherwise " shares of ", and security name.
abbrev pub toggled_cash_text : TradeType → ℕ → Text → Text → Text
toggled_cash_text kind qty security name =
    if contains_text (codes " shares of ") name then cash_row_name_from_parts (codes " Shares of ") kind qty security
    else cash_row_name_from_parts (codes " shares of ") kind qty security

-- The new cash text of the trade of `p`, with the security's name `security` (`toggled_cash_text`).
abbrev pub toggled_cash_text_of_trade : Text → CashText → Text
toggled_cash_text_of_trade security p = toggled_cash_text p.kind p.qty security (string_bytes p.name)

-- The refusal of a text update whose target is missing: `NoTrade` for a trade, `NoAccount` for an
-- account, `NoSecurity` for a security.
abbrev pub missing_target_refusal : told.Update → Refusal
missing_target_refusal (update.Executors trades) = NoTrade
missing_target_refusal (update.CashTypes account span) = NoAccount
missing_target_refusal (update.CashNames symbol span) = NoSecurity

-- The check that each trade (`NoTrade`), the account (`NoAccount`) or the security (`NoSecurity`)
-- that `u` names exists. `found` is `None` otherwise.
abbrev pub update_checks : told.Update → Option TextUpdate → List RefusalCheck
update_checks u found = (is_none found, missing_target_refusal u) ∷ []

-- The function on tables that sets the executor's name in the TRADE row of `trade` to the new one
-- (`updated_executor_name`) of the name in `trade`. Tables without such a row are unchanged.
abbrev pub tables_with_updated_executor_name : TradeRow → Tables → Tables
tables_with_updated_executor_name trade = tables_with_executor_name trade.id (updated_executor_name (string_bytes trade.executor))

-- The function on tables that sets the settlement text of the trade of `s` to the new one
-- (`toggled_cash_type_text`) of the text in `s`. Tables without this settlement are unchanged.
abbrev pub tables_with_toggled_cash_type : SettlementText → Tables → Tables
tables_with_toggled_cash_type s = tables_with_cash_type s.trade (toggled_cash_type_text s.is_cash (cash_type_text s.cash_type))

-- The function on tables that sets the cash text of the trade of `p` to its new one
-- (`toggled_cash_text_of_trade`); tables without its cash row are unchanged.
abbrev pub tables_with_toggled_cash_text : Text → CashText → Tables → Tables
tables_with_toggled_cash_text security p = tables_with_cash_text p.trade (toggled_cash_text_of_trade security p)

-- The functions on tables that replace the text of each selected trade by its new one, in sequence.
abbrev pub table_updates_of_text_update : TextUpdate → List (Tables → Tables)
table_updates_of_text_update (corrected.Executors trades) = map tables_with_updated_executor_name trades.items
table_updates_of_text_update (corrected.CashTypes settled) = map tables_with_toggled_cash_type settled.items
table_updates_of_text_update (corrected.CashNames security paid) = map (tables_with_toggled_cash_text security) paid.items

-- The number of trades whose text a text update replaces.
abbrev pub count_of_updated_trades : TextUpdate → ℕ
count_of_updated_trades (corrected.Executors trades) = length trades.items
count_of_updated_trades (corrected.CashTypes settled) = length settled.items
count_of_updated_trades (corrected.CashNames security paid) = length paid.items

-- The row changes of `plan` replace the text of each trade of `found` by its new one, in sequence,
-- then set the last stamp, and do no more. `last` is the last stamp, if any, `now` the clock
-- reading. A later stamp exists, and the reply is `Changed` with the stamp and the count of trades.
pub record IsUpdatePlan (found : TextUpdate) (last : Option ℕ) (now : ℕ) (plan : Plan) : Type 0 where
  pub stamp : ℕ
  pub stamped : stamp_after last now ≡ Some stamp
  pub replied : plan.reply ≡ Changed stamp (count_of_updated_trades found)
  pub changes : map tables_after_change plan.changes.items ≡ table_updates_of_text_update found ++ tables_with_last_stamp stamp ∷ []
