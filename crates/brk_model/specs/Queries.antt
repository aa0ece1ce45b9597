-- The queries, and the type of their views.
use Rattle.std.specs.Prelude.{ℕ, List}
use Rattle.brk_money.specs.Spelling.{Text}
use Rattle.brk_model.specs.Commands.{Order}

-- The type of a view: a list of records, each a list of texts.
abbrev pub View : Type 0
View = List (List Text)

-- A query, of one of eleven kinds. The stamp of a trade is the one of its last status change, in
-- milliseconds since 1970-01-01 UTC; the first and last trades are by stamp, then by id.
pub data Query : Type 0 where
  -- The balances and market values of the accounts of a customer (view `customer`).
  PositionOf : (customer : ℕ) → Query
  -- The balances and market values of the accounts of the customers with a tax id (view `taxid`).
  PositionOfTaxId : (tax_id : Text) → Query
  -- The last 10 trades of an account and their status changes (view `recent`).
  RecentOf : (account : ℕ) → Query
  -- The names of an account's customer and broker, and its last 50 trades (view `status`).
  StatusOf : (account : ℕ) → Query
  -- The submitted trades (view `submitted`).
  SubmittedTrades : Query
  -- The estimate of an order (view `estimate`).
  EstimateOf : Order → Query
  -- The first 20 trades with these ids, with settlements, cash rows and history (view `trades`).
  TradesWith : (trades : List ℕ) → Query
  -- The first 20 trades of an account with stamps from `first` to `last`, both included, with their
  -- settlements, cash rows and status changes (view `accounttrades`).
  TradesOfAccount : (account first last : ℕ) → Query
  -- The trades of a symbol, selected and shown as in `TradesOfAccount` (view `symboltrades`).
  TradesOfSymbol : (symbol : Text) → (first last : ℕ) → Query
  -- The id of an account's first trade with a stamp of at least `first`, and the first 20 changes
  -- of the lots that it touched, by stamp of the changing trade, then by lot (view `lots`).
  LotsTouched : (account first : ℕ) → Query
  -- The value (quantity times bid) of the pending trades in a sector, for each broker that has one
  -- of these names and at least one such trade in its accounts (view `volume`).
  VolumeOf : (sector : Text) → (names : List Text) → Query
