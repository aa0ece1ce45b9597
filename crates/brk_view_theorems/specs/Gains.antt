-- The lots that the explanation of a holding prints, and the deals of its position.
use Rattle.std.specs.Prelude.{◌≡◌, ℕ, ◌==◌, [], filter, ℤ, pos, ◌+ℤ◌, ◌-ℤ◌}
use Rattle.brk_money.specs.Kinds.{side_of_trade_type}
use Rattle.brk_money.specs.Spelling.{Text}
use Rattle.brk_model.specs.Records.{Trade}
use Rattle.brk_model.specs.Base.{Base, completed_trades}
use Rattle.brk_model.specs.Derived.{deals_of_position, holding_summary_quantity}
use Rattle.brk_model.specs.Lists.{total_by}
use Rattle.brk_model.specs.Shares.{signed_by_side}
use Rattle.brk_model.specs.Sheets.{sheets}
use Rattle.brk_model.specs.Tables.{Tables}
use Rattle.brk_lots.specs.Books.{realised_gain_sum, cost_basis_of_lots}
use Rattle.brk_model_explain.specs.Holdings.{remaining_cost_of_lots, completed_trades_in_symbol, realised_gain_in_symbol, remaining_quantity}
use Rattle.brk_model_explain.specs.Holdings.{lots_opened_in_symbol, total_purchase_value, negated_total_sale_value, signed_quantity_of_trade}
use Rattle.brk_model_explain.specs.Running.{running_totals}
use Rattle.brk_trade_books.specs.TradeReads.{lots_of_position}
use Rattle.brk_view_theorems.specs.Balances.{last_number_or_default}

-- The sum of the quantity changes, in shares, that HOLDING_HISTORY records for the trade `trade`.
abbrev pub lot_change_sum_of_trade : Tables → ℕ → ℤ
lot_change_sum_of_trade tables trade = total_by (λ row. row.after -ℤ row.before) (filter (λ row. row.trade == trade) tables.holding_history)

-- The totals that the explanation of a holding prints match its position: the realised gain is the
-- sum of the gains of its deals, the cost basis equals that of its lots and also the gain plus
-- purchases plus sales, which count below 0, and the numbers of shares are its quantity.
pub record PrintedHoldingMatchesDeals (base : Base) (account : ℕ) (symbol : Text) : Type 0 where
  -- The gains, added up by lot, are the gains of the deals, added up by trade.
  pub gained : realised_gain_in_symbol (sheets base) account symbol ≡ realised_gain_sum (deals_of_position (completed_trades base) account symbol) []
  -- The costs of the remaining shares of the lots sum to the cost basis of the position.
  pub costs : remaining_cost_of_lots (lots_opened_in_symbol (sheets base) account symbol) ≡ cost_basis_of_lots (lots_of_position (sheets base) account symbol)
  -- Cost basis is Realised gain plus Purchases plus Sales.
  pub balance : remaining_cost_of_lots (lots_opened_in_symbol (sheets base) account symbol)
      ≡ (realised_gain_in_symbol (sheets base) account symbol +ℤ total_purchase_value (completed_trades_in_symbol (sheets base) account symbol))
      +ℤ negated_total_sale_value (completed_trades_in_symbol (sheets base) account symbol)
  -- The last running sum of the trades, and the remaining shares of the lots, are the quantity.
  pub shares : last_number_or_default (pos 0) (running_totals signed_quantity_of_trade (pos 0) (completed_trades_in_symbol (sheets base) account symbol))
      ≡ holding_summary_quantity (completed_trades base) account symbol
  pub left : total_by remaining_quantity (lots_opened_in_symbol (sheets base) account symbol)
      ≡ holding_summary_quantity (completed_trades base) account symbol

-- The changes of lots by the trade `t` sum to its quantity, negative for a sale.
abbrev pub LotChangesSumToQuantity : Base → Trade → Type 0
LotChangesSumToQuantity base t = lot_change_sum_of_trade (sheets base) t.id ≡ signed_by_side (side_of_trade_type t.kind) t.qty
