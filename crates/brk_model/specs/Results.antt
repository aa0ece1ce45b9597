-- Trade-Result: the completion of a submitted trade at a price.
use Rattle.std.specs.Prelude.{ℕ, ◌==◌, if◌then◌else◌, [], ◌∷◌, ◌++◌, Some, unwrap_or, codes, decimal}
use Rattle.brk_money.specs.Spelling.{Text}
use Rattle.brk_money.specs.Kinds.{side_of_trade_type, trade_type_name}
use Rattle.brk_money.specs.declared.trade_type.TradeType.{TradeType}
use Rattle.brk_money.specs.declared.status.Status.TheVariants.{Completed}
use Rattle.brk_model.specs.Records.{Trade}
use Rattle.brk_model.specs.Base.{Base, completed_trades, trade_with_status_change, base_with_updated_trades, security_name}
use Rattle.brk_model.specs.Shares.{Deal, buy_value, sell_value}
use Rattle.brk_model.specs.Derived.{shares_of_position, settlement_amount, due_day, postings_of_base, balance_of_account}
use Rattle.brk_model.specs.Orders.{commission_by_band, tax_on_deal}
use Rattle.brk_model.specs.Commands.{Completion}

-- The deal of the trade `t` that is completed at `price` cents a share with the stamp `stamp`.
abbrev pub deal_of_result : ℕ → ℕ → Trade → Deal
deal_of_result stamp price t = record { trade = t.id; side = side_of_trade_type t.kind; qty = t.qty; price = price; stamp = stamp; is_lifo = t.is_lifo }

-- The cash type (SE_CASH_TYPE) at completion: `Cash Account` for a cash trade, otherwise `Margin`.
abbrev pub cash_type_at_completion : Trade → Text
cash_type_at_completion t = if t.is_cash then codes "Cash Account" else codes "Margin"

-- The name of a cash row: the name of the trade type `kind`, a space, the quantity `qty`, the text
-- `words`, and the name `security` of the security.
abbrev pub cash_row_name_from_parts : Text → TradeType → ℕ → Text → Text
cash_row_name_from_parts words kind qty security = trade_type_name kind ++ 32 ∷ decimal qty ++ words ++ security

-- The name of the cash row of the trade `t`: the name of its type, a space, its quantity, the text
-- `words`, and the name of its security, which is empty if `base` has no such security.
abbrev pub cash_row_name : Text → Base → Trade → Text
cash_row_name words base t = cash_row_name_from_parts words t.kind t.qty (security_name base t.symbol)

-- The name of the cash row of the trade `t` at its completion, with the text " shares of "
-- (CM_NAME; CT_NAME in the first schema); empty if the trade is not a cash trade.
abbrev pub cash_row_name_at_completion : Base → Trade → Text
cash_row_name_at_completion base t = if t.is_cash then cash_row_name (codes " shares of ") base t else []

-- The trade `t` completed at `price` cents a share: with commission (0 without a band) and tax by
-- `base`, cash type and cash row name at completion, and a status change to `Completed` at `stamp`.
unfoldable pub trade_after_completion : Base → ℕ → ℕ → Trade → Trade
trade_after_completion base stamp price t = trade_with_status_change stamp Completed (record t {
  price = Some price;
  commission = unwrap_or (commission_by_band base t.account t.kind t.symbol t.qty price) 0;
  tax = tax_on_deal base t.account (deal_of_result stamp price t) (shares_of_position (completed_trades base) t.account t.symbol);
  cash_type = cash_type_at_completion t;
  cash_name = cash_row_name_at_completion base t;
})

-- The base in which each trade with the id of `t` is completed (`trade_after_completion`).
abbrev pub base_after_result : Base → ℕ → ℕ → Trade → Base
base_after_result base stamp price t = base_with_updated_trades (λ u. u.id == t.id) (trade_after_completion base stamp price) base

-- The figures of a completion: commission and tax of the completed trade `t`, its settlement
-- amount, due day and account balance in the base `after` the completion, and the buy and sell
-- value of the shares that the deal `d` closes in the base `base` before it.
abbrev pub completion_between_bases : Base → Base → Deal → Trade → Completion
completion_between_bases base after d t = record {
  commission = t.commission;
  tax = t.tax;
  amount = settlement_amount after.accounts t;
  due_day = due_day after.rule t;
  buy_value = buy_value d (shares_of_position (completed_trades base) t.account t.symbol);
  sell_value = sell_value d (shares_of_position (completed_trades base) t.account t.symbol);
  balance = balance_of_account after.accounts (postings_of_base after) t.account;
}

-- The figures of the completion of the trade `t` of `base` at `price` cents a share with the stamp
-- `stamp`, as the reply to a result states them.
unfoldable pub completion_of_trade : Base → ℕ → ℕ → Trade → Completion
completion_of_trade base stamp price t =
    completion_between_bases base (base_after_result base stamp price t) (deal_of_result stamp price t) (trade_after_completion base stamp price t)
