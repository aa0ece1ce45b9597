-- Calls of a closure with a symbol and a lot.
use Rattle.std.specs.Prelude.{◌≡◌, ℕ, List}
use Rattle.std.specs.Fn.{Called, Mut}
use denote.Ref.{Bor}
use Rattle.brk_lots.specs.declared.lot.Lot.{Lot}
use Rattle.brk_ref.specs.declared.holding_row.HoldingRow.{HoldingRow}

-- A call of the closure `f`, whose contract is `g`, with the symbol and the lot of `row` may return
-- `r`, and the closure is `f'` after it.
pub record IsClosureCallWithLot {F R : Type 0} (g : Mut F (Bor (List ℕ) × (Bor Lot × Unit {0})) R) (f : F) (row : HoldingRow) (r : R) (f' : F) : Type 0 where
  pub symbol : Bor (List ℕ)
  pub lot : Bor Lot
  pub same_symbol : symbol.now ≡ row.symbol
  pub same_lot : lot.now ≡ record { trade = row.trade; price = row.price; qty = row.qty; stamp = row.stamp }
  pub called : Called g f (symbol, (lot, tt)) r f'
