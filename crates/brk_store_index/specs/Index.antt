-- The groups of rows, and what an index of the rows has.
use Rattle.std.specs.Prelude.{◌≡◌, ◌==◌, ◌&&◌, ℕ, List, Option, Some, None, Bool, bytes_eq, filter, find, if◌then◌else◌, map}
use Rattle.std.specs.HashMap.{hash_map_len}
use Rattle.brk_money.specs.Kinds.{is_same_trade_status}
use Rattle.brk_money.specs.Spelling.{Text}
use Rattle.brk_money.specs.declared.status.Status.TheVariants.{Submitted}
use Rattle.brk_model.specs.Tables.{AccountRow, CashRow, HoldingHistoryRow, HoldingRow, LastTradeRow, Tables, TradeRow}
use Rattle.brk_store_index.specs.Ages.{AreAgesOf}
use Rattle.brk_store_index.specs.Groups.{ages_of_number, ages_of_position}
use Rattle.brk_store_index.specs.Parts.{ArePlacesOfLots, ArePlacesOfTrades, age_of_cash_row, age_of_id, age_of_lot, age_of_trade}
use Rattle.brk_store_index.specs.Prices.{AreLastPricesOf}
use Rattle.brk_store_index.specs.Terms.{AreTermsOf}
use Rattle.brk_store_index.specs.declared.age.RowAge.{RowAge}
use Rattle.brk_store_index.specs.declared.group.Group as typed
use Rattle.brk_store_index.specs.declared.group.Group.TheVariants as variant
use Rattle.brk_store_index.specs.declared.index.RowIndex.{RowIndex}

-- A group of rows: the lots of a position or of an account, the trades of an account or of a symbol,
-- the trades with the status submitted, the accounts of a customer, the cash rows of an account, or
-- the changes of lots by a trade.
pub data Group : Type 0 where
  Position : ℕ → Text → Group
  LotsOfAccount : ℕ → Group
  TradesOfAccount : ℕ → Group
  TradesOfSymbol : Text → Group
  SubmittedTrades : Group
  AccountsOfCustomer : ℕ → Group
  CashRowsOfAccount : ℕ → Group
  LotChangesOfTrade : ℕ → Group

-- The group that the typed value names.
abbrev pub abstract_group : typed.Group → Group
abstract_group (variant.Position account symbol) = Position account symbol.now
abstract_group (variant.LotsOfAccount account) = LotsOfAccount account
abstract_group (variant.TradesOfAccount account) = TradesOfAccount account
abstract_group (variant.TradesOfSymbol symbol) = TradesOfSymbol symbol.now
abstract_group variant.SubmittedTrades = SubmittedTrades
abstract_group (variant.AccountsOfCustomer customer) = AccountsOfCustomer customer
abstract_group (variant.CashRowsOfAccount account) = CashRowsOfAccount account
abstract_group (variant.LotChangesOfTrade trade) = LotChangesOfTrade trade

-- The ages of the rows of a group in the tables `t`: of HOLDING, TRADE, CUSTOMER_ACCOUNT, CASH_MOVE
-- or HOLDING_HISTORY, in the sequence of the table.
abbrev pub members : Group → Tables → List RowAge
members (Position account symbol) t = map age_of_lot (filter (λ (r : HoldingRow). (r.account == account) && bytes_eq r.symbol symbol) t.holdings)
members (LotsOfAccount account) t = map (λ (r : HoldingRow). age_of_id r.trade) (filter (λ (r : HoldingRow). r.account == account) t.holdings)
members (TradesOfAccount account) t = map age_of_trade (filter (λ (r : TradeRow). r.account == account) t.trades)
members (TradesOfSymbol symbol) t = map age_of_trade (filter (λ (r : TradeRow). bytes_eq r.symbol symbol) t.trades)
members SubmittedTrades t = map (λ (r : TradeRow). age_of_id r.id) (filter (λ (r : TradeRow). is_same_trade_status r.status Submitted) t.trades)
members (AccountsOfCustomer customer) t = map (λ (r : AccountRow). age_of_id r.id) (filter (λ (r : AccountRow). r.customer == customer) t.accounts)
members (CashRowsOfAccount account) t = map age_of_cash_row (filter (λ (r : CashRow). r.account == account) t.moves)
members (LotChangesOfTrade trade) t = map (λ (r : HoldingHistoryRow). age_of_id r.lot) (filter (λ (r : HoldingHistoryRow). r.trade == trade) t.holding_history)

-- The ages that the index has of a group.
abbrev pub ages_at : RowIndex → Group → List RowAge
ages_at index (Position account symbol) = ages_of_position index.lots.positions account symbol
ages_at index (LotsOfAccount account) = ages_of_number index.lots.accounts account
ages_at index (TradesOfAccount account) = ages_of_number index.trades.accounts account
ages_at index (TradesOfSymbol symbol) = ages_of_position index.trades.symbols 0 symbol
ages_at index SubmittedTrades = index.trades.submitted.items
ages_at index (AccountsOfCustomer customer) = ages_of_number index.accounts customer
ages_at index (CashRowsOfAccount account) = ages_of_number index.cash account
ages_at index (LotChangesOfTrade trade) = ages_of_number index.changes trade

-- The index of the rows of the tables `t`: it has of each group exactly the ages of its rows, the
-- place of each lot and each trade, the last price of each security, and the terms of orders.
pub record IsIndexOf (index : RowIndex) (t : Tables) : Type 0 where
  pub groups : (g : Group) → AreAgesOf (ages_at index g) (members g t)
  pub lot_places : ArePlacesOfLots index.lots t.holdings
  pub trade_places : ArePlacesOfTrades index.trades t.trades
  pub last_prices : AreLastPricesOf index.prices t.last_trades
  pub terms : AreTermsOf index.terms t

-- Six of the tables that the index is made of have these rows.
pub record HasRowsOf (t : Tables) (holdings : List HoldingRow) (trades : List TradeRow) (accounts : List AccountRow) (changes : List HoldingHistoryRow) (cash : List CashRow) (last_trades : List LastTradeRow) : Type 0 where
  pub lot_rows : t.holdings ≡ holdings
  pub trade_rows : t.trades ≡ trades
  pub account_rows : t.accounts ≡ accounts
  pub lot_changes : t.holding_history ≡ changes
  pub cash_rows : t.moves ≡ cash
  pub last_trade_rows : t.last_trades ≡ last_trades

-- The number of lots that the index has.
abbrev pub number_of_lots : RowIndex → ℕ
number_of_lots index = hash_map_len index.lots.places

-- The value, if it passes the test.
abbrev pub value_if : {X : Type 0} → (X → Bool) → Option X → Option X
value_if test None = None
value_if test (Some x) = if test x then Some x else None

-- The first row with the id of the age `a`, if it passes the test for `a`.
abbrev pub row_of_age : {Row : Type 0} → (Row → ℕ) → (RowAge → Row → Bool) → List Row → RowAge → Option Row
row_of_age id_of test rows a = value_if (test a) (find (λ r. id_of r == a.id) rows)

-- The row of the lot of the age `a`, if it is a lot of `account` in the security `symbol`.
abbrev pub lot_of_age : List HoldingRow → ℕ → Text → RowAge → Option HoldingRow
lot_of_age rows account symbol = row_of_age (λ r. r.trade) (λ a r. (r.account == account) && (bytes_eq r.symbol symbol && (r.stamp == a.stamp))) rows

-- The row of the lot of the age `a`, if it is a lot of `account`.
abbrev pub lot_of_account_by_age : List HoldingRow → ℕ → RowAge → Option HoldingRow
lot_of_account_by_age rows account = row_of_age (λ r. r.trade) (λ a r. r.account == account) rows

-- The cash row of the age `a`, if it is one of `account`.
abbrev pub cash_row_of_age : List CashRow → ℕ → RowAge → Option CashRow
cash_row_of_age rows account = row_of_age (λ r. r.id) (λ a r. (r.account == account) && (r.stamp == a.stamp)) rows

-- The row of the trade of the age `a`, if it passes the test and has the stamp of the age.
abbrev pub trade_of_age : (TradeRow → Bool) → List TradeRow → RowAge → Option TradeRow
trade_of_age test rows = row_of_age (λ r. r.id) (λ a r. test r && (r.stamp == a.stamp)) rows
