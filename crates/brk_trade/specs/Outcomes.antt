-- The figures of a result for the trade that it completes, and its checks.
use Rattle.std.specs.Prelude.{ℕ, ◌+◌, ◌*◌, ◌&&◌, Bool, true, false, nat_le, negsuc, not, nat_lt, nat_abs, is_none, unwrap_or, if◌then◌else◌, ℤ, pos, ◌+ℤ◌, ◌-ℤ◌, List, [], ◌∷◌, ◌++◌, Option, option_map}
use Rattle.std.specs.Option.{option_map_or}
use Rattle.brk_trade.specs.Estimates.{tax_on_gain_at_status}
use Rattle.brk_trade_rows.specs.declared.trade_count.TheConstants.TradeCount
use Rattle.brk_lots.specs.declared.closed_values.Values.{Values}
use Rattle.brk_model.specs.Base.{is_withholding_status}
use Rattle.brk_model.specs.Derived.{due_day_of_completion_stamp, signed_proceeds}
use Rattle.brk_model.specs.Limits.{greatest_amount, greatest_price, greatest_qty, greatest_summary_quantity}
use Rattle.brk_model.specs.Shares.{Deal, signed_by_side}
use Rattle.brk_model.specs.Tests.{RefusalCheck}
use Rattle.brk_money.specs.Amounts.{commission}
use Rattle.brk_money.specs.Kinds.{is_same_trade_status, side_of_trade_type}
use Rattle.brk_money.specs.Moments.{greatest_day}
use Rattle.brk_money.specs.declared.refusal.Limit.TheVariants as limit
use Rattle.brk_money.specs.declared.refusal.Refusal.TheVariants.{WrongStatus, NoRate, Range, ClockEnd}
use Rattle.brk_money.specs.declared.status.Status.TheVariants.{Submitted}
use Rattle.brk_trade_plans.specs.declared.reply.Completed.{Completed}
use Rattle.brk_trade.specs.declared.outcome.ResultFigures.{ResultFigures}
use Rattle.brk_trade.specs.declared.result_found.ResultPlanFacts.{ResultPlanFacts}
use Rattle.brk_ref.specs.declared.trade_row.TradeRow.{TradeRow}

-- The greatest value of a trade, in cents: the greatest quantity times the greatest price.
abbrev pub greatest_trade_value : ℕ
greatest_trade_value = greatest_qty * greatest_price

-- The deal of the TRADE row `t`, completed at `price` cents a share and at the stamp `stamp`.
abbrev pub deal_of_trade_row : TradeRow → (price stamp : ℕ) → Deal
deal_of_trade_row t price stamp = record { trade = t.id; side = side_of_trade_type t.kind; qty = t.qty; price = price; stamp = stamp; is_lifo = t.is_lifo }

-- The quantity in the summary of the trade's account and security, or none if there is no summary.
abbrev pub quantity_in_summary : ResultPlanFacts → Option ℤ
quantity_in_summary found = option_map (λ s. s.qty) found.summary

-- The account's shares of the trade's security before the trade, below 0 if sold short, 0 if none.
abbrev pub shares_held_before_trade : ResultPlanFacts → ℤ
shares_held_before_trade found = unwrap_or (quantity_in_summary found) (pos 0)

-- The account's shares after the trade, below 0 if sold short: plus a purchase, minus a sale.
abbrev pub shares_held_after_trade : ResultPlanFacts → ℤ
shares_held_after_trade found = shares_held_before_trade found +ℤ signed_by_side (side_of_trade_type found.trade.kind) found.trade.qty

-- The commission of the trade at `price` cents a share, in whole cents, rounded half up
-- (`commission`), at the commission rate of its band. The rate counts as 0 if there is no band.
abbrev pub commission_of_result : ResultPlanFacts → ℕ → ℕ
commission_of_result found price = commission (unwrap_or found.listed.rate 0) found.trade.qty price

-- The tax on the realised gain of `values`, in whole cents, rounded half up, at the account's tax
-- status and its customer's rates; 0 if gains are not taxable at this status, or without gain.
abbrev pub tax_of_result : ResultPlanFacts → Values → ℕ
tax_of_result found values = tax_on_gain_at_status found.parties.account.account.tax_status found.parties.rates values

-- The tax withheld from the settlement, in cents: all if the account's status withholds, or 0.
abbrev pub withheld_tax_of_result : ResultPlanFacts → Values → ℕ
withheld_tax_of_result found values = if is_withholding_status found.parties.account.account.tax_status then tax_of_result found values else 0

-- The settlement amount of the trade at `price` cents a share, in cents, below 0 if the account
-- pays: its value, negated for a purchase, minus charge, commission and withheld tax.
abbrev pub settlement_amount_of_result : ResultPlanFacts → ℕ → Values → ℤ
settlement_amount_of_result found price values =
    signed_proceeds (side_of_trade_type found.trade.kind) (found.trade.qty * price) -ℤ pos (found.trade.charge + commission_of_result found price
    + withheld_tax_of_result found values)

-- The balance, in cents, after a settlement: a cash trade adds `amount`, a margin trade nothing.
abbrev pub balance_after_settlement_amount : ResultPlanFacts → ℤ → ℤ
balance_after_settlement_amount found amount = if found.trade.is_cash then found.parties.account.balance +ℤ amount else found.parties.account.balance

-- The balance, in cents, after the trade at `price` cents a share; a margin trade changes nothing.
abbrev pub balance_after_result : ResultPlanFacts → ℕ → Values → ℤ
balance_after_result found price values = balance_after_settlement_amount found (settlement_amount_of_result found price values)

-- The broker's commissions after the trade at `price` cents a share, in cents, its own included.
abbrev pub broker_commissions_after_result : ResultPlanFacts → ℕ → ℕ
broker_commissions_after_result found price = found.parties.broker.commissions + commission_of_result found price

-- The checks of a result that precede the reading of lots, in this order: the trade is submitted
-- (`WrongStatus`, with its status), a commission rate applies (`NoRate`), and the absolute value of
-- the number of shares held after the trade is at most 9,999,999,999 (`Range(Summary)`).
abbrev pub checks_before_reading_lots : ResultPlanFacts → List RefusalCheck
checks_before_reading_lots found =
    (not (is_same_trade_status found.trade.status Submitted), WrongStatus found.trade.status) ∷ (is_none found.listed.rate, NoRate)
    ∷ (nat_lt greatest_summary_quantity (nat_abs (shares_held_after_trade found)), Range limit.Summary) ∷ []

-- The check that `stamp` exists and the due day of a completion at it is not after 9999-12-31 (both
-- `ClockEnd`). `rule` is the first day of one-day settlement, in days since 1970-01-01, if set.
abbrev pub due_day_check : Option ℕ → Option ℕ → RefusalCheck
due_day_check rule stamp = (option_map_or (λ s. nat_lt greatest_day (due_day_of_completion_stamp rule s)) stamp true, ClockEnd)

-- The checks of a result after lots are read, in this order: the balance after a cash trade, of
-- either sign, and the broker's commissions are at most 10^17 cents (`Range(Balance)`,
-- `Range(Broker)`), and the stamp exists and the due day is not after 9999-12-31 (both `ClockEnd`).
abbrev pub checks_after_reading_lots : ResultPlanFacts → ℕ → Values → Option ℕ → List RefusalCheck
checks_after_reading_lots found price values stamp =
    (found.trade.is_cash && nat_lt greatest_amount (nat_abs (balance_after_result found price values)), Range limit.Balance)
    ∷ (nat_lt greatest_amount (broker_commissions_after_result found price), Range limit.Broker) ∷ due_day_check found.posting.rule stamp ∷ []

-- True if the number is a number of completed trades: 0 to 10^12.
abbrev pub is_trade_count : ℤ → Bool
is_trade_count (pos n) = nat_le n TradeCount.GREATEST
is_trade_count (negsuc n) = false

-- All checks of a result at `price` cents a share: those before lots are read, then those after.
abbrev pub result_checks : ResultPlanFacts → ℕ → Values → Option ℕ → List RefusalCheck
result_checks found price values stamp = checks_before_reading_lots found ++ checks_after_reading_lots found price values stamp

-- The figures in the reply to a result, from `found`, price in cents, closed values and stamp.
abbrev pub reply_figures_of_result : ResultPlanFacts → ℕ → Values → ℕ → Completed
reply_figures_of_result found price values stamp = record {
  stamp = stamp;
  commission = commission_of_result found price;
  tax = tax_of_result found values;
  amount = settlement_amount_of_result found price values;
  due_day = due_day_of_completion_stamp found.posting.rule stamp;
  buy_value = values.buy_value;
  sell_value = values.sell_value;
  balance = balance_after_result found price values;
}

-- The figures of the completed trade: those in the reply, and the shares held and the broker's
-- commissions after it.
abbrev pub figures_of_result : ResultPlanFacts → ℕ → Values → ℕ → ResultFigures
figures_of_result found price values stamp = record {
  completed = reply_figures_of_result found price values stamp;
  summary = shares_held_after_trade found;
  trades = found.parties.broker.trades +ℤ pos 1;
  commissions = broker_commissions_after_result found price;
}
