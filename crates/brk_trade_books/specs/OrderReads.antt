-- Lookups in tables for an order, and the lots that a source passes to it.
use Rattle.std.specs.Prelude.{ℕ, Bool, ◌==◌, ◌&&◌, List, find, reverse, slice_get, IfSome, Option, option_map, bytes_eq}
use Rattle.brk_lots.specs.Lots.{list_reversed_if_lifo}
use Rattle.brk_lots.specs.declared.lot.Lot.{Lot}
use Rattle.brk_model.specs.Joins.{account_row_with_id}
use Rattle.brk_model.specs.Records.{Customer}
use Rattle.brk_model.specs.Tables.{Tables}
use Rattle.brk_money.specs.Kinds.{is_same_trade_type}
use Rattle.brk_money.specs.Spelling.{Text}
use Rattle.brk_money.specs.declared.trade_type.TradeType.{TradeType}
use Rattle.brk_ref.specs.declared.holding_row.HoldingRow.{HoldingRow}
use Rattle.brk_trade_books.specs.TradeReads.{lots_of_position}

-- ---- lookups

-- The price, in cents, in the first row of LAST_TRADE of the symbol, or `None` if it has no row.
abbrev pub last_price_of_symbol : Tables → Text → Option ℕ
last_price_of_symbol t symbol = option_map (λ r. r.price) (find (λ r. bytes_eq r.symbol symbol) t.last_trades)

-- The amount, in cents, of the first charge for the type `kind` and the tier `tier`, or `None`.
abbrev pub charge_of_type_and_tier : Tables → TradeType → ℕ → Option ℕ
charge_of_type_and_tier t kind tier = option_map (λ r. r.amount) (find (λ r. is_same_trade_type r.kind kind && (r.tier == tier)) t.charges)

-- The id in the last row of TRADE, or `None` if there are no trades.
abbrev pub trade_id_in_last_row : Tables → Option ℕ
trade_id_in_last_row t = option_map (λ r. r.id) (slice_get (reverse t.trades) 0)

-- The customer of the account `account` in the tables (of both, the first with the id) satisfies
-- `holds`. Vacuous if the account or its customer does not exist.
abbrev pub CustomerOfAccountSatisfies : Tables → ℕ → (Customer → Type 0) → Type 0
CustomerOfAccountSatisfies t account holds = IfSome (account_row_with_id t account) (λ a. IfSome (find (λ r. r.id == a.customer) t.customers) holds)

-- ---- lots

-- The lot of the typed row `r` of HOLDING: the row without its account and symbol.
abbrev pub lot_of_typed_row : HoldingRow → Lot
lot_of_typed_row r = record { trade = r.trade; price = r.price; qty = r.qty; stamp = r.stamp }

-- The lots of the account in the symbol satisfy `given`: newest first if `lifo`, or oldest first.
abbrev pub PositionLotsSatisfy : Tables → ℕ → Text → Bool → (List Lot → Type 0) → Type 0
PositionLotsSatisfy t account symbol lifo given = given (list_reversed_if_lifo lifo (lots_of_position t account symbol))
