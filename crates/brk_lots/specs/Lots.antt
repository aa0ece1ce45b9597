-- Lots in the program, and the shares that they represent.
use Rattle.std.specs.Prelude.{ℤ, pos, negsuc, Bool, true, false, List, reverse, replicate}
use Rattle.std.specs.List.{flat_map}
use Rattle.std.specs.Int.RustNames.{unsigned_abs}
use Rattle.brk_money.specs.declared.side.Side.{Side}
use Rattle.brk_money.specs.declared.side.Side.TheVariants.{Buy, Sell}
use Rattle.brk_model.specs.Shares as model
use Rattle.brk_model.specs.Shares.{Share}
use Rattle.brk_lots.specs.declared.lot.Lot.{Lot}
use Rattle.brk_lots.specs.declared.lot.Touch.{Touch}
use Rattle.brk_lots.specs.declared.deal.Deal.{Deal}

-- The side of the trade that opened a lot of the signed quantity: `Sell` below 0, otherwise `Buy`.
abbrev pub side_of_qty : ℤ → Side
side_of_qty (pos n) = Buy
side_of_qty (negsuc n) = Sell

-- One share of the lot, with the side, trade, price and stamp of the lot.
abbrev pub share_of_lot : Lot → Share
share_of_lot l = record { side = side_of_qty l.qty; trade = l.trade; price = l.price; stamp = l.stamp }

-- The single shares of the lots, lot by lot: as many equal shares as the lot's unsigned quantity.
abbrev pub shares_of_lots : List Lot → List Share
shares_of_lots ls = flat_map (λ l. replicate (unsigned_abs l.qty) (share_of_lot l)) ls

-- The list, reversed if the first argument is true (last in, first out).
abbrev pub list_reversed_if_lifo : {X : Type 0} → Bool → List X → List X
list_reversed_if_lifo true xs = reverse xs
list_reversed_if_lifo false xs = xs

-- The model's lot with the values of the lot `l` of the program.
abbrev pub abstract_lot : Lot → model.Lot
abstract_lot l = record { trade = l.trade; price = l.price; stamp = l.stamp; qty = l.qty }

-- The model's lot change with the values of the change `t` of the program.
abbrev pub abstract_touch : Touch → model.Touch
abstract_touch t = record { lot = t.lot; before = t.before; after = t.after }

-- The model's deal with the values of the deal `d` of the program.
abbrev pub abstract_deal : Deal → model.Deal
abstract_deal d = record { trade = d.trade; side = d.side; qty = d.qty; price = d.price; stamp = d.stamp; is_lifo = d.lifo }
