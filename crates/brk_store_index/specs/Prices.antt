-- The last prices of the securities, and the market value of a holding at them.
use Rattle.std.specs.Prelude.{◌≡◌, ◌*ℤ◌, ℕ, ℤ, List, Option, Some, None, bytes_eq, find, if◌then◌else◌, option_map, pos}
use Rattle.std.specs.HashMap.{get_by_text}
use Rattle.brk_model.specs.Joins.{last_price_in_tables}
use Rattle.brk_model.specs.Tables.{LastTradeRow, SummaryRow, Tables}
use Rattle.brk_money.specs.Spelling.{Text}
use Rattle.brk_store_index.specs.declared.prices.LastPrices.{LastPrices}

-- The price that is kept of the security `symbol`, in cents.
abbrev pub price_of_symbol : LastPrices → Text → Option ℕ
price_of_symbol prices symbol = get_by_text prices.prices symbol

-- The price of each security equals the price in its first row of LAST_TRADE; without a row it has
-- none.
abbrev pub AreLastPricesOf : LastPrices → List LastTradeRow → Type 0
AreLastPricesOf prices rows = (symbol : Text) → price_of_symbol prices symbol ≡ option_map (λ (r : LastTradeRow). r.price) (find (λ (r : LastTradeRow). bytes_eq r.symbol symbol) rows)

-- `new` is `old` with the price of the security `symbol`, which had none.
pub record AddsPrice (old : LastPrices) (symbol : Text) (price : ℕ) (new : LastPrices) : Type 0 where
  pub fresh : price_of_symbol old symbol ≡ None
  pub prices : (other : Text) → price_of_symbol new other ≡ (if bytes_eq symbol other then Some price else price_of_symbol old other)

-- `new` is `old` with another price of the security `symbol`, if it has one.
abbrev pub SetsPrice : LastPrices → Text → ℕ → LastPrices → Type 0
SetsPrice old symbol price new = (other : Text) → price_of_symbol new other ≡ option_map (λ was. if bytes_eq symbol other then price else was) (price_of_symbol old other)

-- A summary's market value in cents: its shares, below 0 if sold short, times the last price or 0.
abbrev pub market_value_of_summary : Tables → SummaryRow → ℤ
market_value_of_summary t row = row.qty *ℤ pos (last_price_in_tables t row.symbol)
