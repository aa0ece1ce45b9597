-- Results of submitted trades: the row changes of a completion, and the plan of an accepted result.
use Rattle.std.specs.Prelude.{◌≡◌, ℕ, ◌+◌, ◌≤◌, IfSome, Bool, false, ℤ, pos, if◌then◌else◌, List, [], ◌∷◌, ◌++◌, codes}
use Rattle.std.specs.Prelude.{decimal, length, flat_map, Option, Some, None, option_map, option_to_list, unwrap_or}
use Rattle.brk_lots.specs.Values.{closing_values_of_deal}
use Rattle.brk_lots.specs.Closing.{IsEffectOfDealOnLots}
use Rattle.brk_lots.specs.Lots.{shares_of_lots}
use Rattle.brk_lots.specs.Against.{is_trade_closing_lots}
use Rattle.brk_lots.specs.Books.{lot_quantity_sum}
use Rattle.brk_lots.specs.Position.{AreOpenedByOtherTrades}
use Rattle.brk_lots.specs.Sources.{YieldsPosition}
use Rattle.brk_lots.specs.declared.closing.ClosedLots.{ClosedLots}
use Rattle.brk_lots.specs.declared.lot.Lot.{Lot}
use Rattle.brk_lots.specs.declared.lot.Touch.{Touch}
use Rattle.brk_model.specs.Lists.{is_zero}
use Rattle.brk_model.specs.Results.{cash_row_name_from_parts}
use Rattle.brk_model.specs.Shares.{touches_of_existing_lots}
use Rattle.brk_model.specs.Tables as tables
use Rattle.brk_model.specs.Tests.{first_refusal}
use Rattle.brk_money.specs.Kinds.{side_of_trade_type}
use Rattle.brk_money.specs.Moments.{stamp_after}
use Rattle.brk_money.specs.Spelling.{Text}
use Rattle.brk_money.specs.declared.refusal.Refusal.{Refusal}
use Rattle.brk_money.specs.declared.refusal.Refusal.TheVariants.{NoTrade}
use Rattle.brk_money.specs.declared.status.Status.TheVariants as status
use Rattle.brk_ref.specs.Rows.{abstract_cash_row}
use Rattle.brk_trade.specs.Outcomes.{deal_of_trade_row, checks_before_reading_lots, result_checks, figures_of_result, reply_figures_of_result}
use Rattle.brk_trade.specs.Outcomes.{is_trade_count, quantity_in_summary, shares_held_before_trade}
use Rattle.brk_ref.specs.declared.cash_type.CashType.{CashType}
use Rattle.brk_ref.specs.declared.cash_type.CashType.TheVariants as cash_type
use Rattle.brk_trade_rows.specs.declared.change.Change.{Change}
use Rattle.brk_trade_rows.specs.declared.change.Change.TheVariants as change
use Rattle.brk_ref.specs.declared.cash_row.CashRow.{CashRow}
use Rattle.brk_trade.specs.declared.outcome.ResultFigures.{ResultFigures}
use Rattle.brk_trade.specs.declared.result_found.ResultPlanFacts.{ResultPlanFacts}
use Rattle.brk_trade_plans.specs.declared.plan.Plan.{Plan}
use Rattle.brk_trade_plans.specs.declared.reply.Completed.{Completed}
use Rattle.brk_trade_plans.specs.declared.reply.Reply.TheVariants as reply
use Rattle.brk_ref.specs.declared.trade_row.TradeRow.{TradeRow}

-- The row change of the HOLDING row of the lot of `touch`: the lot is deleted if none of its shares
-- remains, and otherwise its quantity is set.
abbrev pub row_change_of_touched_holding : Touch → Change
row_change_of_touched_holding touch = if is_zero touch.after then change.RemoveLot touch.lot else change.SetLot touch.lot touch.after

-- The row change that adds the HOLDING_HISTORY row of the lot change `touch`, which `trade` made.
abbrev pub row_change_adding_lot_history : ℕ → Touch → Change
row_change_adding_lot_history trade touch = change.AddLotChange (record { lot = touch.lot; trade = trade; before = touch.before; after = touch.after })

-- The row changes of the lot of `touch`, closed or reduced by `trade`: HOLDING and HOLDING_HISTORY.
abbrev pub row_changes_of_touched_lot : ℕ → Touch → List Change
row_changes_of_touched_lot trade touch = row_change_of_touched_holding touch ∷ row_change_adding_lot_history trade touch ∷ []

-- The row changes that add `lot`, which the trade `t` opens, and its HOLDING_HISTORY row.
abbrev pub row_changes_of_opened_lot : TradeRow → Lot → List Change
row_changes_of_opened_lot t lot =
    change.AddLot (record { trade = lot.trade; account = t.account; symbol = t.symbol; stamp = lot.stamp; price = lot.price; qty = lot.qty })
    ∷ change.AddLotChange (record { lot = lot.trade; trade = lot.trade; before = pos 0; after = lot.qty }) ∷ []

-- The row change of the HOLDING_SUMMARY row of the account and the symbol of `t`: the row is added
-- with `qty` if there was none, and otherwise deleted if `qty` is 0 and set to `qty` if not.
abbrev pub row_change_of_summary : Option ℤ → TradeRow → ℤ → Change
row_change_of_summary None t qty = change.AddSummary (record { account = t.account; symbol = t.symbol; qty = qty })
row_change_of_summary (Some held) t qty =
    if is_zero qty then change.RemoveSummary t.account t.symbol
    else change.SetSummary (record { account = t.account; symbol = t.symbol; qty = qty })

-- The settlement text (SE_CASH_TYPE) of a completion: `CashAccount` for a cash trade, or `Margin`.
abbrev pub first_cash_type_of_trade : Bool → CashType
first_cash_type_of_trade is_cash = if is_cash then cash_type.CashAccount else cash_type.Margin

-- A space, the quantity `qty` and the text " shares of ", as in the cash text of a trade.
abbrev pub cash_text_part_with_quantity : ℕ → Text
cash_text_part_with_quantity qty = 32 ∷ decimal qty ++ codes " shares of "

-- The cash text (CM_NAME) of `t`: its type's name, quantity, " shares of ", its security's name.
abbrev pub cash_text_of_trade : TradeRow → Text → Text
cash_text_of_trade t security = cash_row_name_from_parts (codes " shares of ") t.kind t.qty security

-- The CASH_MOVE row of the completed trade, with the next id, or none for a margin trade.
abbrev pub cash_row_of_result : ResultPlanFacts → Completed → Option tables.CashRow
cash_row_of_result found completed =
    if found.trade.is_cash
    then Some (record {
      id = found.posting.next;
      account = found.trade.account;
      trade = Some found.trade.id;
      stamp = completed.stamp;
      amount = completed.amount;
      name = cash_text_of_trade found.trade found.listed.security.name;
    })
    else None

-- The cash row `row` is added, and the balance of `account` is set to `balance` cents.
abbrev pub row_changes_of_cash_row : ℕ → ℤ → CashRow → List Change
row_changes_of_cash_row account balance row = change.AddMove row ∷ change.SetBalance account balance ∷ []

-- The row changes of the completed trade itself: the status, stamp, price (`price`, in cents),
-- commission and tax of its completion are set, and its TRADE_HISTORY row is added.
abbrev pub row_changes_of_completed_trade : ℕ → ℕ → Completed → List Change
row_changes_of_completed_trade trade price completed =
    change.CompleteTrade trade completed.stamp price completed.commission completed.tax
    ∷ change.AddHistory (record { trade = trade; status = status.Completed; stamp = completed.stamp }) ∷ []

-- The row change that sets the totals of the account's broker to those after the trade.
abbrev pub row_change_of_broker_totals : ResultPlanFacts → ResultFigures → Change
row_change_of_broker_totals found outcome = change.SetBrokerTotals found.parties.account.account.broker outcome.trades outcome.commissions

-- The change that adds the SETTLEMENT row of `t`: text, due day and settlement amount.
abbrev pub row_change_adding_settlement : TradeRow → Completed → Change
row_change_adding_settlement t completed =
    change.AddSettlement (record { trade = t.id; cash_type = first_cash_type_of_trade t.is_cash; due_day = completed.due_day; amount = completed.amount })

-- The row changes of the account's summary, the broker's totals and the settlement, in this order.
abbrev pub summary_broker_settlement_changes : ResultPlanFacts → ResultFigures → List Change
summary_broker_settlement_changes found outcome =
    row_change_of_summary (quantity_in_summary found) found.trade outcome.summary ∷ row_change_of_broker_totals found outcome
    ∷ row_change_adding_settlement found.trade outcome.completed ∷ []

-- The row changes that complete the trade of `found` at `price` cents a share, in this order: of
-- the trade, of the lots that it closes or reduces, of the lot that it opens, of summary, broker
-- and settlement, of cash row and balance if `cash` is a row, and of the last stamp.
abbrev pub row_changes_of_result : ResultPlanFacts → ℕ → ClosedLots → ResultFigures → Option CashRow → List Change
row_changes_of_result found price closed outcome cash =
    row_changes_of_completed_trade found.trade.id price outcome.completed
    ++ flat_map (row_changes_of_touched_lot found.trade.id) closed.touched.items
    ++ flat_map (row_changes_of_opened_lot found.trade) (option_to_list closed.opened)
    ++ summary_broker_settlement_changes found outcome
    ++ flat_map (row_changes_of_cash_row found.trade.account outcome.completed.balance) (option_to_list cash)
    ++ change.SetLastStamp outcome.completed.stamp ∷ []

-- `changes` are the row changes that complete the trade of `found` at `price` cents a share with
-- `closed` and `outcome`; only for a cash trade they add a cash row and set the balance.
pub record AreResultChanges (found : ResultPlanFacts) (price : ℕ) (closed : ClosedLots) (outcome : ResultFigures) (changes : List Change) : Type 0 where
  pub cash : Option CashRow
  pub moved : option_map abstract_cash_row cash ≡ cash_row_of_result found outcome.completed
  pub changed : changes ≡ row_changes_of_result found price closed outcome cash

-- The source may return the lots `ls` of a position (`given`) from the end that the trade closes
-- first; the trade opened none of them; they sum to `shares_held_before_trade`.
abbrev pub AreLotsBeforeTrade : (List Lot → Type 0) → ResultPlanFacts → List Lot → Type 0
AreLotsBeforeTrade given found ls =
    YieldsPosition given found.trade.is_lifo ls × AreOpenedByOtherTrades found.trade.id ls × (shares_held_before_trade found ≡ lot_quantity_sum ls)

-- The account of the trade of `found` holds no shares that this trade would close.
abbrev pub ClosesNoHeldShares : ResultPlanFacts → Type 0
ClosesNoHeldShares found = is_trade_closing_lots (side_of_trade_type found.trade.kind) (shares_held_before_trade found) ≡ false

-- The number of completed trades in the row of the account's broker is below 0 or above 10^12.
abbrev pub HasBrokerCountOutOfRange : ResultPlanFacts → Type 0
HasBrokerCountOutOfRange found = is_trade_count found.parties.broker.trades ≡ false

-- `plan` completes the trade of `found` at `price` cents a share and at the command's stamp.
-- `given` is true of the lots that the source may return, `last` is the last stamp, `now` the clock
-- reading. The result passes all its checks, and changes and reply follow from `closed`: the lots
-- that the trade closes, reduces or opens, and the closed values. `closes` is vacuous if no lots of
-- the source match the summary (`AreLotsBeforeTrade`).
pub record IsResultPlan (found : ResultPlanFacts) (price : ℕ) (given : List Lot → Type 0) (last : Option ℕ) (now : ℕ) (plan : Plan) : Type 0 where
  pub stamp : ℕ
  pub closed : ClosedLots
  pub stamped : stamp_after last now ≡ Some stamp
  pub closes : (ls : List Lot) → AreLotsBeforeTrade given found ls → IsEffectOfDealOnLots (deal_of_trade_row found.trade price stamp) ls closed
  pub accepted : first_refusal (result_checks found price closed.values (Some stamp)) ≡ None
  pub replied : plan.reply ≡ reply.Completed (reply_figures_of_result found price closed.values stamp)
  pub changes : AreResultChanges found price closed (figures_of_result found price closed.values stamp) plan.changes.items

-- The trade exists, and `plan` completes it (`IsResultPlan`). False if there is no such trade.
abbrev pub CompletesExistingTrade : Option ResultPlanFacts → ℕ → (List Lot → Type 0) → Option ℕ → ℕ → Plan → Type 0
CompletesExistingTrade None price given last now plan = ⊥
CompletesExistingTrade (Some found) price given last now plan = IsResultPlan found price given last now plan

-- `refusal` is the first of the result of the trade of `found` at `price` cents a share. `early` is
-- vacuous if no check before the lots are read fails, `late` if no lots of the source match the
-- summary (`AreLotsBeforeTrade`). `last` is the last stamp, `now` the clock reading.
pub record IsResultRefusalOfExistingTrade (found : ResultPlanFacts) (price : ℕ) (given : List Lot → Type 0) (last : Option ℕ) (now : ℕ)
    (refusal : Refusal) : Type 0 where
  -- If a check before the lots are read fails, its refusal is `refusal`, whatever the lots are.
  pub early : IfSome (first_refusal (checks_before_reading_lots found)) (λ cause. refusal ≡ cause)
  -- The refusal of the first check that fails, with the values of the shares that it would close.
  pub late : (ls : List Lot) (stamp : ℕ) → AreLotsBeforeTrade given found ls
      → first_refusal
      (result_checks found price (closing_values_of_deal (deal_of_trade_row found.trade price stamp) (shares_of_lots ls)) (stamp_after last now))
      ≡ Some refusal

-- The refusal of a result: `NoTrade`, or the first that applies to the existing trade.
abbrev pub IsResultRefusal : Option ResultPlanFacts → ℕ → (List Lot → Type 0) → Option ℕ → ℕ → Refusal → Type 0
IsResultRefusal None price given last now refusal = refusal ≡ NoTrade
IsResultRefusal (Some found) price given last now refusal = IsResultRefusalOfExistingTrade found price given last now refusal

-- The stamp `stamp`, or the clock reading `now` if `stamp` is `None`.
abbrev pub stamp_or_clock_reading : Option ℕ → ℕ → ℕ
stamp_or_clock_reading stamp now = unwrap_or stamp now

-- From `before` to `after`, the number of requested lots grew by at most one more than the trade
-- closes or reduces if it is completed at `price` cents a share and at `stamp`; not at all without
-- a trade. Vacuous if no lots of the source match its summary (`AreLotsBeforeTrade`).
abbrev pub ResultReadsAtMostOneLotMore : Option ResultPlanFacts → ℕ → ℕ → (List Lot → Type 0) → (before after : ℕ) → Type 0
ResultReadsAtMostOneLotMore None price stamp given before after = after ≤ before
ResultReadsAtMostOneLotMore (Some found) price stamp given before after =
    (ls : List Lot) → AreLotsBeforeTrade given found ls
    → after ≤ before + length (touches_of_existing_lots (deal_of_trade_row found.trade price stamp) (shares_of_lots ls)) + 1
