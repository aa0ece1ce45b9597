-- The values that follow from a base: positions, summaries, settlements, postings, balances, broker
-- totals, the market value of holdings, and the pending trades. Each definition takes the lists
-- that it reads; `done` are the completed trades.
use Rattle.std.specs.Prelude.{ℕ, ◌+◌, ◌*◌, false, nat_le, ◌==◌, if◌then◌else◌, List, ◌++◌, length, map, filter, sum_by, Option, Some, None, ℤ, pos, ◌+ℤ◌, ◌-ℤ◌}
use Rattle.std.specs.Prelude.{◌*ℤ◌, neg_ℤ, bytes_eq}
use Rattle.std.specs.Option.{option_map_or}
use Rattle.brk_money.specs.Spelling.{Text}
use Rattle.brk_money.specs.Moments.{day_of}
use Rattle.brk_money.specs.Kinds.{side_of_trade_type}
use Rattle.brk_money.specs.declared.side.Side.{Side}
use Rattle.brk_money.specs.declared.side.Side.TheVariants.{Buy, Sell}
use Rattle.brk_money.specs.declared.status.Status.TheVariants.{Pending}
use Rattle.brk_model.specs.Lists.{sort_by_key, total_by}
use Rattle.brk_model.specs.Records.{Account, Security, Trade, Movement, SettleRule}
use Rattle.brk_model.specs.Base.{Base, completed_trades, tax_status_in_accounts, opening_balance_in_accounts, broker_id_in_accounts, is_withholding_status}
use Rattle.brk_model.specs.Base.{has_last_status, last_status_stamp_of_trade, completion_price}
use Rattle.brk_model.specs.Shares.{Share, Deal, replay, signed_by_side}

-- The deal of the completed trade `t`, at its completion price (0 without one) and stamp.
abbrev pub deal_of_trade : Trade → Deal
deal_of_trade t = record {
  trade = t.id;
  side = side_of_trade_type t.kind;
  qty = t.qty;
  price = completion_price t;
  stamp = last_status_stamp_of_trade t;
  is_lifo = t.is_lifo;
}

-- The trades of the list `done` that belong to the account `account`, in the sequence of the list.
abbrev pub trades_of_account : List Trade → ℕ → List Trade
trades_of_account done account = filter (λ t. t.account == account) done

-- The trades of the list `done` in the account `account` and the symbol `symbol`, in sequence.
abbrev pub trades_of_position : List Trade → ℕ → Text → List Trade
trades_of_position done account symbol = filter (λ t. bytes_eq t.symbol symbol) (trades_of_account done account)

-- The deals of the `trades_of_position`, stably sorted by completion stamp, ascending.
abbrev pub deals_of_position : List Trade → ℕ → Text → List Deal
deals_of_position done account symbol = map deal_of_trade (sort_by_key last_status_stamp_of_trade (trades_of_position done account symbol))

-- The open shares of the account `account` in the symbol `symbol`, bought or sold short, after the
-- completed trades `done`, in the sequence in which they were opened (HOLDING).
unfoldable pub shares_of_position : List Trade → ℕ → Text → List Share
shares_of_position done account symbol = replay (deals_of_position done account symbol)

-- The holding summary of the account `account` in the symbol `symbol`: shares bought less shares
-- sold over the completed trades `done`, without regard to lots (HS_QTY).
unfoldable pub holding_summary_quantity : List Trade → ℕ → Text → ℤ
holding_summary_quantity done account symbol = total_by (λ t. signed_by_side (side_of_trade_type t.kind) t.qty) (trades_of_position done account symbol)

-- The proceeds of shares worth `value` cents: `value` for a sale, and its negation for a purchase.
abbrev pub signed_proceeds : Side → ℕ → ℤ
signed_proceeds Sell value = pos value
signed_proceeds Buy value = neg_ℤ (pos value)

-- The tax that is withheld from the settlement of the trade `t`, in cents: its tax if the tax
-- status of its account is `Withheld`; 0 otherwise, also if `accounts` has no such account.
abbrev pub withheld_tax : List Account → Trade → ℕ
withheld_tax accounts t = if is_withholding_status (tax_status_in_accounts accounts t.account) then t.tax else 0

-- The settlement amount of the completed trade `t`, in cents: its proceeds (`signed_proceeds`,
-- negated for a purchase) less charge, commission and withheld tax (SE_AMT, Trade-Result).
abbrev pub settlement_amount : List Account → Trade → ℤ
settlement_amount accounts t =
    signed_proceeds (side_of_trade_type t.kind) (t.qty * completion_price t) -ℤ pos (t.charge + t.commission + withheld_tax accounts t)

-- The number of days from a completion on `day`, in days since 1970-01-01, to its settlement: 1 if
-- `rule` has a first day of one-day settlement and `day` is not before it, otherwise 2.
abbrev pub days_to_settlement : SettleRule → ℕ → ℕ
days_to_settlement rule day = if option_map_or (λ first. nat_le first day) rule false then 1 else 2

-- The day on which a completion at the stamp `stamp` settles, in days since 1970-01-01: the UTC day
-- of the stamp plus the 1 or 2 days of `days_to_settlement`.
abbrev pub due_day_of_completion_stamp : SettleRule → ℕ → ℕ
due_day_of_completion_stamp rule stamp = day_of stamp + days_to_settlement rule (day_of stamp)

-- The due day of the completed trade `t` (SE_CASH_DUE_DATE), in days since 1970-01-01: a day after
-- its completion if that is on or after the first day in `rule`, otherwise two (Trade-Result).
abbrev pub due_day : SettleRule → Trade → ℕ
due_day rule t = due_day_of_completion_stamp rule (last_status_stamp_of_trade t)

-- The cash trades, not margin trades, of the list `done`, in sequence.
abbrev pub cash_trades : List Trade → List Trade
cash_trades done = filter (λ t. t.is_cash) done

-- An amount in cents, below 0 if paid out, posted to the cash of the account `account` by the trade
-- `trade`, or by a movement if that is none; `name` is the text of its cash row.
pub record Posting : Type 0 where
  pub account : ℕ
  pub trade : Option ℕ
  pub stamp : ℕ
  pub amount : ℤ
  pub name : Text

-- The posting of the completed cash trade `t`: its settlement amount, at its completion stamp.
abbrev pub posting_of_trade : List Account → Trade → Posting
posting_of_trade accounts t =
    record { account = t.account; trade = Some t.id; stamp = last_status_stamp_of_trade t; amount = settlement_amount accounts t; name = t.cash_name }

-- The posting of the movement `m`, which has no trade.
abbrev pub posting_of_movement : Movement → Posting
posting_of_movement m = record { account = m.account; trade = None; stamp = m.stamp; amount = m.amount; name = m.name }

-- The postings of the cash trades in `done`, then of `movements`, each in sequence.
abbrev pub postings : List Account → List Trade → List Movement → List Posting
postings accounts done movements = map (posting_of_trade accounts) (cash_trades done) ++ map posting_of_movement movements

-- The postings sorted by stamp, ascending; the sort is stable.
abbrev pub postings_sorted_by_stamp : List Posting → List Posting
postings_sorted_by_stamp posted = sort_by_key (λ p. p.stamp) posted

-- The postings of all completed cash trades of `base`, then of all its movements, each in sequence.
abbrev pub postings_of_base : Base → List Posting
postings_of_base base = postings base.accounts (completed_trades base) base.movements

-- The postings of the list `posted` to the account `account`, in the sequence of the list.
abbrev pub postings_to_account : List Posting → ℕ → List Posting
postings_to_account posted account = filter (λ p. p.account == account) posted

-- The balance of the account `account`, in cents: its opening balance in `accounts` (0 if the list
-- has no such account) plus the amounts of its postings in `posted` (CA_BAL).
unfoldable pub balance_of_account : List Account → List Posting → ℕ → ℤ
balance_of_account accounts posted account = opening_balance_in_accounts accounts account +ℤ total_by (λ p. p.amount) (postings_to_account posted account)

-- The market value of the holdings of the account `account` after the completed trades `done`, in
-- cents: the sum over `securities` of holding summary times last price.
unfoldable pub holdings_market_value : List Security → List Trade → ℕ → ℤ
holdings_market_value securities done account = total_by (λ s. holding_summary_quantity done account s.symbol *ℤ pos s.last_price) securities

-- The trades of the list `done` whose accounts have the broker `broker`, in the sequence of the
-- list; an account that is not in `accounts` counts as one with the broker 0.
abbrev pub trades_of_broker : List Account → List Trade → ℕ → List Trade
trades_of_broker accounts done broker = filter (λ t. broker_id_in_accounts accounts t.account == broker) done

-- The number of the `trades_of_broker` of the broker `broker` in `done` (B_NUM_TRADES).
unfoldable pub trade_count_of_broker : List Account → List Trade → ℕ → ℕ
trade_count_of_broker accounts done broker = length (trades_of_broker accounts done broker)

-- The sum of the commissions, in cents, of the `trades_of_broker` of `broker` (B_COMM_TOTAL).
unfoldable pub commission_total_of_broker : List Account → List Trade → ℕ → ℕ
commission_total_of_broker accounts done broker = sum_by (λ t. t.commission) (trades_of_broker accounts done broker)

-- The trades of the list whose last status is `Pending`, in sequence (TRADE_REQUEST).
abbrev pub pending_trades : List Trade → List Trade
pending_trades trades = filter (has_last_status Pending) trades
