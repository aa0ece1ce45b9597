-- Valid histories: ascending stamps of statuses and movements, valid status sequences, settlement
-- texts only of completed, cash texts only of completed cash trades. Also the base sorted by key.
use Rattle.std.specs.Prelude.{◌≡◌, ◌&&◌, true, false, List, [], ◌∷◌, map}
use Rattle.std.specs.List.{AllByRecursion}
use Rattle.brk_model.specs.Records.{Account, Broker, Security, Trade}
use Rattle.brk_model.specs.Keys.{KeyPart, number, word, rows_sorted_by_key, band_key, charge_key, customer_key}
use Rattle.brk_model.specs.Keys.{customer_tax_key, kept_key, permission_key, tax_rate_key}
use Rattle.brk_model.specs.Base.{Base, is_completed}
use Rattle.brk_model.specs.Ways.{is_strictly_ascending, is_valid_status_sequence}

-- The stamps of the trade's status changes are in strictly ascending order.
abbrev pub HasAscendingStatusStamps : Trade → Type 0
HasAscendingStatusStamps t = is_strictly_ascending (map (λ m. m.stamp) t.marks) ≡ true

-- The statuses of the trade's status changes, in their sequence, form a valid status sequence.
abbrev pub HasValidStatusSequence : Trade → Type 0
HasValidStatusSequence t = is_valid_status_sequence (map (λ m. m.status) t.marks) ≡ true

-- The trade has an empty settlement text if it is not completed, and an empty cash text if it is
-- not a completed cash trade.
pub record HasSettlementAndCashTextsOnlyIfCompleted (t : Trade) : Type 0 where
  pub settled : is_completed t ≡ false → t.cash_type ≡ []
  pub moved : is_completed t && t.is_cash ≡ false → t.cash_name ≡ []

-- For each trade of the base, the statuses form a valid sequence with strictly ascending stamps; it
-- has a settlement text only if it is completed, and a cash text only if it is a completed cash
-- trade. The stamps of the movements are strictly ascending.
pub record HasValidHistories (base : Base) : Type 0 where
  pub stamps : AllByRecursion HasAscendingStatusStamps base.trades
  pub ways : AllByRecursion HasValidStatusSequence base.trades
  pub words : AllByRecursion HasSettlementAndCashTextsOnlyIfCompleted base.trades
  pub movements : is_strictly_ascending (map (λ m. m.stamp) base.movements) ≡ true

-- The sort key of the broker `b`: its id.
abbrev pub broker_id_key : Broker → List KeyPart
broker_id_key b = number b.id ∷ []

-- The sort key of the account `a`: its id.
abbrev pub account_id_key : Account → List KeyPart
account_id_key a = number a.id ∷ []

-- The sort key of the security `s`: its symbol.
abbrev pub security_symbol_key : Security → List KeyPart
security_symbol_key s = word s.symbol ∷ []

-- The base with its reference records and stored replies sorted by key, ascending.
abbrev pub base_sorted_by_keys : Base → Base
base_sorted_by_keys b = record b {
  brokers = rows_sorted_by_key broker_id_key b.brokers;
  customers = rows_sorted_by_key customer_key b.customers;
  accounts = rows_sorted_by_key account_id_key b.accounts;
  permissions = rows_sorted_by_key permission_key b.permissions;
  securities = rows_sorted_by_key security_symbol_key b.securities;
  charges = rows_sorted_by_key charge_key b.charges;
  bands = rows_sorted_by_key band_key b.bands;
  tax_rates = rows_sorted_by_key tax_rate_key b.tax_rates;
  customer_taxes = rows_sorted_by_key customer_tax_key b.customer_taxes;
  kept = rows_sorted_by_key kept_key b.kept;
}
