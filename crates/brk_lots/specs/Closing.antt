-- Postconditions of closing lots with a deal.
use Rattle.std.specs.Prelude.{◌≡◌, pos, List, Option, map}
use Rattle.std.specs.Option.{option_to_list}
use Rattle.brk_model.specs.Shares.{Deal, lots_of_shares, touches_of_existing_lots, opened_shares, buy_value, sell_value}
use Rattle.brk_lots.specs.declared.lot.Lot.{Lot}
use Rattle.brk_lots.specs.declared.lot.Touch.{Touch}
use Rattle.brk_lots.specs.declared.closing.ClosedLots.{ClosedLots}
use Rattle.brk_lots.specs.declared.closing.Closing.{Closing}
use Rattle.brk_lots.specs.Lots.{shares_of_lots, list_reversed_if_lifo, abstract_lot, abstract_touch}
use Rattle.brk_lots.specs.Values.{closing_values_of_deal}
use Rattle.brk_lots.specs.Position.{AreOpenedByOtherTrades, AreOpenedBeforeStamp}

-- `rows` are exactly the changes of the lots `ls` whose quantities the deal `d` changes, in the
-- sequence of first shares, reversed if `d.is_lifo`; `lot` is the lot that it opens, or `None`.
pub record AreLotsTouchedByDeal (d : Deal) (ls : List Lot) (rows : List Touch) (lot : Option Lot) : Type 0 where
  -- In the sequence of the lots' first shares, reversed if `d.is_lifo`.
  pub touched : map abstract_touch rows ≡ list_reversed_if_lifo d.is_lifo (touches_of_existing_lots d (shares_of_lots ls))
  -- The lot of the shares that it opens, or `None` if it opens no share.
  pub opened : map abstract_lot (option_to_list lot) ≡ lots_of_shares (opened_shares d (shares_of_lots ls))

-- `closed` is the effect of the deal `d` on the shares of the lots `ls`: the changes of lots and
-- the opened lot (`AreLotsTouchedByDeal`), and the buy and sell value, as amounts in cents, of
-- exactly the shares that it closes.
pub record IsEffectOfDealOnLots (d : Deal) (ls : List Lot) (closed : ClosedLots) : Type 0 where
  pub lots : AreLotsTouchedByDeal d ls closed.touched.items closed.opened
  pub values : closed.values ≡ closing_values_of_deal d (shares_of_lots ls)

-- `closing` is the effect of the deal `d` on the shares of the lots `ls`: the changes of lots and
-- the opened lot (`AreLotsTouchedByDeal`), and the buy and sell value, as integers in cents, of
-- exactly the shares that it closes.
pub record IsClosingOfDeal (d : Deal) (ls : List Lot) (closing : Closing) : Type 0 where
  pub lots : AreLotsTouchedByDeal d ls closing.touched.items closing.opened
  -- The buy value and the sell value, in cents, of exactly the shares that it closes.
  pub bought : closing.buy_value ≡ pos (buy_value d (shares_of_lots ls))
  pub sold : closing.sell_value ≡ pos (sell_value d (shares_of_lots ls))

-- `closing` is the effect of `d` on `ls`, all opened by other trades and before the stamp of `d`.
pub record IsApplicableClosing (d : Deal) (ls : List Lot) (closing : Closing) : Type 0 where
  pub closes : IsClosingOfDeal d ls closing
  pub fresh : AreOpenedByOtherTrades d.trade ls
  pub later : AreOpenedBeforeStamp d.stamp ls
