-- The part of a base's tables that an example shows.
use Rattle.std.specs.Prelude.{ℕ, ℤ, List, map, filter, ◌==◌}
use Rattle.brk_model.specs.Base.{Base}
use Rattle.brk_model.specs.Tables.{Tables, tables_of_base}

-- A part of the tables: the lots (trade, quantity), the changes of lots by one trade (lot, before,
-- after), the quantities of the holding summaries, the balances of the accounts, and the broker
-- totals (trade count, commissions), each in the sequence of its table. Amounts are in cents, and
-- quantities in shares, below 0 if they were sold short.
pub record PositionsAndTotals : Type 0 where
  pub lots : List (ℕ × ℤ)
  pub changes : List (ℕ × ℤ × ℤ)
  pub summaries : List ℤ
  pub balances : List ℤ
  pub brokers : List (ℤ × ℕ)

-- The lots, summary quantities, balances and broker totals of the tables, and the changes of lots
-- by the trade with the id `trade`, each in the sequence of its table.
abbrev pub positions_and_totals_of_tables : Tables → ℕ → PositionsAndTotals
positions_and_totals_of_tables tables trade = record {
  lots = map {B = ℕ × ℤ} (λ row. (row.trade, row.qty)) tables.holdings;
  changes = map {B = ℕ × ℤ × ℤ} (λ row. (row.lot, row.before, row.after)) (filter (λ row. row.trade == trade) tables.holding_history);
  summaries = map {B = ℤ} (λ row. row.qty) tables.summaries;
  balances = map {B = ℤ} (λ row. row.balance) tables.accounts;
  brokers = map {B = ℤ × ℕ} (λ row. (row.trades, row.commissions)) tables.brokers;
}

-- The lots, summary quantities, balances and broker totals of the tables of `base` in the third
-- schema, and the changes of lots by the trade with the id `trade`, each in the sequence of its
-- table.
abbrev pub positions_and_totals_of_base : Base → ℕ → PositionsAndTotals
positions_and_totals_of_base base trade = positions_and_totals_of_tables (tables_of_base base) trade
