-- The parts of the index: what each has of the rows of its table.
use Rattle.std.specs.Prelude.{◌≡◌, ◌==◌, ℕ, Bool, true, List, Option, Some, None, bytes_eq, filter, if◌then◌else◌, map, nat_eq}
use Rattle.std.specs.HashMap.{get}
use Rattle.brk_money.specs.Kinds.{is_same_trade_status}
use Rattle.brk_money.specs.Spelling.{Text}
use Rattle.brk_money.specs.declared.status.Status.TheVariants.{Submitted}
use Rattle.brk_model.specs.Tables.{AccountRow, CashRow, HoldingHistoryRow, HoldingRow, TradeRow}
use Rattle.brk_store_index.specs.Ages.{AreAgesOf, Has, InsertsAgeIf, IsRising, RemovesAgeIf}
use Rattle.brk_store_index.specs.Groups.{ages_of_number, ages_of_position, is_same_position}
use Rattle.brk_store_index.specs.declared.age.RowAge.{RowAge}
use Rattle.brk_store_index.specs.declared.by_number.AgesByNumber.{AgesByNumber}
use Rattle.brk_store_index.specs.declared.lots.LotGroups.{LotGroups}
use Rattle.brk_store_index.specs.declared.lots.LotPlace.{LotPlace}
use Rattle.brk_store_index.specs.declared.trades.TradeGroups.{TradeGroups}
use Rattle.brk_store_index.specs.declared.trades.TradePlace.{TradePlace}

-- ---- ages

-- The age of a row that is sorted by its id.
abbrev pub age_of_id : ℕ → RowAge
age_of_id id = record { stamp = 0; id = id }

-- The age of the lot in a row of HOLDING.
abbrev pub age_of_lot : HoldingRow → RowAge
age_of_lot r = record { stamp = r.stamp; id = r.trade }

-- The age of a cash row: its stamp, and its number.
abbrev pub age_of_cash_row : CashRow → RowAge
age_of_cash_row r = record { stamp = r.stamp; id = r.id }

-- The age of a trade: the stamp of its last status, and its id.
abbrev pub age_of_trade : TradeRow → RowAge
age_of_trade r = record { stamp = r.stamp; id = r.id }

-- ---- places

-- `places` has the place of each row by its id, and no other.
pub record ArePlacesOf {Row Place : Type 0} (id_of : Row → ℕ) (place_of : Row → Place) (places : ℕ → Option Place) (rows : List Row) : Type 0 where
  pub known : (r : Row) → Has rows r → places (id_of r) ≡ Some (place_of r)
  pub placed : (id : ℕ) (place : Place) → places id ≡ Some place → (r : Row) × Has rows r × (id_of r ≡ id) × (place_of r ≡ place)

-- The ages are exactly those of the places that pass the test `is_in`, and rise. An age has the stamp
-- that `stamp_of` gives of its place.
pub record FollowPlaces {Place : Type 0} (places : ℕ → Option Place) (is_in : Place → Bool) (stamp_of : Place → ℕ) (ages : List RowAge) : Type 0 where
  pub rising : IsRising ages
  pub covers : (id : ℕ) (place : Place) → places id ≡ Some place → is_in place ≡ true → Has ages (record { stamp = stamp_of place; id = id })
  pub exact : (a : RowAge) → Has ages a → (place : Place) × (places a.id ≡ Some place) × (is_in place ≡ true) × (stamp_of place ≡ a.stamp)

-- ---- lots

-- Where the index has the lot in a row of HOLDING.
abbrev pub place_of_lot : HoldingRow → LotPlace
place_of_lot r = record { account = r.account; symbol = r.symbol; stamp = r.stamp }

-- The places of the lots by their trades.
abbrev pub lot_places : LotGroups → ℕ → Option LotPlace
lot_places lots trade = get nat_eq lots.places trade

-- The index has the place of each row of HOLDING, and no other.
abbrev pub ArePlacesOfLots : LotGroups → List HoldingRow → Type 0
ArePlacesOfLots lots rows = ArePlacesOf (λ (r : HoldingRow). r.trade) place_of_lot (lot_places lots) rows

-- For each position and each account the index has exactly the ages of its rows of HOLDING.
pub record IsIndexOfLots (lots : LotGroups) (rows : List HoldingRow) : Type 0 where
  pub places : ArePlacesOfLots lots rows
  pub accounts : (account : ℕ) → FollowPlaces (lot_places lots) (λ (p : LotPlace). p.account == account) (λ p. 0) (ages_of_number lots.accounts account)
  pub positions : (account : ℕ) (symbol : Text) →
      FollowPlaces (lot_places lots) (λ (p : LotPlace). is_same_position p.account p.symbol account symbol) (λ (p : LotPlace). p.stamp) (ages_of_position lots.positions account symbol)

-- ---- trades

-- Where the index has a trade.
abbrev pub place_of_trade : TradeRow → TradePlace
place_of_trade r = record { account = r.account; symbol = r.symbol; stamp = r.stamp; is_submitted = is_same_trade_status r.status Submitted }

-- The places of the trades by their ids.
abbrev pub trade_places : TradeGroups → ℕ → Option TradePlace
trade_places trades id = get nat_eq trades.places id

-- The index has the place of each row of TRADE, and no other.
abbrev pub ArePlacesOfTrades : TradeGroups → List TradeRow → Type 0
ArePlacesOfTrades trades rows = ArePlacesOf (λ (r : TradeRow). r.id) place_of_trade (trade_places trades) rows

-- For each account and each symbol, and for the status submitted, the index has exactly the ages of
-- the rows of TRADE with it.
pub record IsIndexOfTrades (trades : TradeGroups) (rows : List TradeRow) : Type 0 where
  pub places : ArePlacesOfTrades trades rows
  pub accounts : (account : ℕ) → FollowPlaces (trade_places trades) (λ (p : TradePlace). p.account == account) (λ (p : TradePlace). p.stamp) (ages_of_number trades.accounts account)
  pub symbols : (symbol : Text) → FollowPlaces (trade_places trades) (λ (p : TradePlace). bytes_eq p.symbol symbol) (λ (p : TradePlace). p.stamp) (ages_of_position trades.symbols 0 symbol)
  pub submitted : FollowPlaces (trade_places trades) (λ (p : TradePlace). p.is_submitted) (λ p. 0) trades.submitted.items

-- `new` is `old` with the trade `id` at the place.
pub record PutsTrade (old : TradeGroups) (id : ℕ) (place : TradePlace) (new : TradeGroups) : Type 0 where
  pub places : (other : ℕ) → trade_places new other ≡ (if id == other then Some place else trade_places old other)
  pub accounts : (account : ℕ) → InsertsAgeIf (place.account == account) (ages_of_number old.accounts account) (record { stamp = place.stamp; id = id }) (ages_of_number new.accounts account)
  pub symbols : (symbol : Text) → InsertsAgeIf (bytes_eq place.symbol symbol) (ages_of_position old.symbols 0 symbol) (record { stamp = place.stamp; id = id }) (ages_of_position new.symbols 0 symbol)
  pub submitted : InsertsAgeIf place.is_submitted old.submitted.items (age_of_id id) new.submitted.items

-- `new` is `old` without the trade `id`, whose place was `place`.
pub record TakesPlace (old : TradeGroups) (id : ℕ) (place : TradePlace) (new : TradeGroups) : Type 0 where
  pub was : trade_places old id ≡ Some place
  pub places : (other : ℕ) → trade_places new other ≡ (if id == other then None else trade_places old other)
  pub accounts : (account : ℕ) → RemovesAgeIf (place.account == account) (ages_of_number old.accounts account) (record { stamp = place.stamp; id = id }) (ages_of_number new.accounts account)
  pub symbols : (symbol : Text) → RemovesAgeIf (bytes_eq place.symbol symbol) (ages_of_position old.symbols 0 symbol) (record { stamp = place.stamp; id = id }) (ages_of_position new.symbols 0 symbol)
  pub submitted : RemovesAgeIf place.is_submitted old.submitted.items (age_of_id id) new.submitted.items

-- The trade is taken from its place; without a place nothing that is read changes.
abbrev pub TakesTrade : TradeGroups → ℕ → Option TradePlace → TradeGroups → Type 0
TakesTrade old id (Some place) new = TakesPlace old id place new
TakesTrade old id None new =
    (trade_places old id ≡ None) × ((rows : List TradeRow) → IsIndexOfTrades old rows → IsIndexOfTrades new rows)

-- `set` changes the status of a trade and its stamp, and neither its id nor its account or symbol.
pub record SetsStatus (is_submitted : Bool) (stamp : ℕ) (set : TradeRow → TradeRow) : Type 0 where
  pub id : (r : TradeRow) → (set r).id ≡ r.id
  pub place : (r : TradeRow) → place_of_trade (set r) ≡ record { account = r.account; symbol = r.symbol; stamp = stamp; is_submitted = is_submitted }

-- ---- accounts, changes of lots and cash rows

-- For each customer the groups have exactly the ages of its rows of CUSTOMER_ACCOUNT.
abbrev pub AreAccountsOf : AgesByNumber → List AccountRow → Type 0
AreAccountsOf groups rows = (customer : ℕ) → AreAgesOf (ages_of_number groups customer)
    (map (λ (r : AccountRow). age_of_id r.id) (filter (λ (r : AccountRow). r.customer == customer) rows))

-- For each trade the groups have exactly the ages of its rows of HOLDING_HISTORY.
abbrev pub AreLotChangesOf : AgesByNumber → List HoldingHistoryRow → Type 0
AreLotChangesOf groups rows = (trade : ℕ) → AreAgesOf (ages_of_number groups trade)
    (map (λ (r : HoldingHistoryRow). age_of_id r.lot) (filter (λ (r : HoldingHistoryRow). r.trade == trade) rows))

-- For each account the groups have exactly the ages of its rows of CASH_MOVE.
abbrev pub AreCashRowsOf : AgesByNumber → List CashRow → Type 0
AreCashRowsOf groups rows = (account : ℕ) → AreAgesOf (ages_of_number groups account)
    (map age_of_cash_row (filter (λ (r : CashRow). r.account == account) rows))
