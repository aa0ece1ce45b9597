-- The printed lots that a completed trade closed, and the deal of the trade.
use Rattle.std.specs.Prelude.{◌≡◌, ⊤, ◌+◌, ◌-◌, List, [], ◌∷◌, pos, nat_abs}
use Rattle.brk_money.specs.Kinds.{side_of_trade_type}
use Rattle.brk_model.specs.Records.{Trade}
use Rattle.brk_model.specs.Base.{Base, completion_price}
use Rattle.brk_model.specs.Derived.{deal_of_trade}
use Rattle.brk_model.specs.Shares.{buy_value, closed_share_count_of_deal, realised_gain, sell_value, signed_by_side}
use Rattle.brk_model.specs.Sheets.{sheets}
use Rattle.brk_model.specs.Tables.{trade_row}
use Rattle.brk_model_explain.specs.Trades.{Closing, ResultDetails, buy_value_of_closings, gain_of_closings, opened_quantity}
use Rattle.brk_model_explain.specs.Trades.{result_details_of_trade, sell_value_of_closings, total_closed_shares}
use Rattle.brk_view_theorems.specs.Before.{shares_before_trade}

-- All elements of the list but the last one satisfy `P`. Vacuous for a list of at most one element.
abbrev pub HoldsForAllButLast : {X : Type 0} → (X → Type 0) → List X → Type 0
HoldsForAllButLast P [] = ⊤
HoldsForAllButLast P (x ∷ []) = ⊤
HoldsForAllButLast P (x ∷ y ∷ xs) = P x × HoldsForAllButLast P (y ∷ xs)

-- The closing `c` closes its lot completely: the lot's quantity after it is 0.
abbrev pub ClosesWholeLot : Closing → Type 0
ClosesWholeLot c = c.after ≡ pos 0

-- The facts about the result of `t` that its explanation reads from the tables of the base.
abbrev pub result_details_in_base : Base → Trade → ResultDetails
result_details_in_base base t = result_details_of_trade (sheets base) (trade_row t)

-- The printed closings of the trade `t` match its deal on the shares before the trade in buy value,
-- sell value, gain and number of shares; its own lot has the shares that the deal opens; closed and
-- opened shares sum to its quantity; and all lots but the last are closed completely.
pub record PrintedClosingsMatchDeal (base : Base) (t : Trade) : Type 0 where
  -- BUY and SELL are the buy value and the sell value of the deal, so Realised gain is its gain.
  pub bought : buy_value_of_closings (side_of_trade_type t.kind) (completion_price t) (result_details_in_base base t).closings
      ≡ buy_value (deal_of_trade t) (shares_before_trade base t)
  pub sold : sell_value_of_closings (side_of_trade_type t.kind) (completion_price t) (result_details_in_base base t).closings
      ≡ sell_value (deal_of_trade t) (shares_before_trade base t)
  pub gained : gain_of_closings (side_of_trade_type t.kind) (completion_price t) (result_details_in_base base t).closings
      ≡ realised_gain (deal_of_trade t) (shares_before_trade base t)
  -- Shares closed is the number of shares that the deal closes.
  pub taken : total_closed_shares (result_details_in_base base t).closings ≡ closed_share_count_of_deal (deal_of_trade t) (shares_before_trade base t)
  -- The trade's own lot has the shares that the deal opens.
  pub lot : opened_quantity (result_details_in_base base t)
      ≡ signed_by_side (side_of_trade_type t.kind) (t.qty - closed_share_count_of_deal (deal_of_trade t) (shares_before_trade base t))
  -- Shares closed and Shares opened add up to the quantity of the trade.
  pub quantity : total_closed_shares (result_details_in_base base t).closings + nat_abs (opened_quantity (result_details_in_base base t)) ≡ t.qty
  -- All lots but the last are closed completely.
  pub left : HoldsForAllButLast ClosesWholeLot (result_details_in_base base t).closings
