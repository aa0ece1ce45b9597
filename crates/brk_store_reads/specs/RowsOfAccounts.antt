-- The rows of an account that a walk passes, read by their ages.
use Rattle.std.specs.Prelude.{◌≡◌, ◌-◌, ℕ, false, true, List, Some, drop, map, take}
use Rattle.brk_model.specs.Keys.{rows_sorted_by_key}
use Rattle.brk_model.specs.Tables as table
use Rattle.brk_ref.specs.Rows.{abstract_cash_row, abstract_holding_row}
use Rattle.brk_ref.specs.declared.cash_row.CashRow.{CashRow}
use Rattle.brk_ref.specs.declared.holding_row.HoldingRow.{HoldingRow}
use Rattle.brk_store_index.specs.Ages.{IsPlaceOfStamp}
use Rattle.brk_store_index.specs.Index.{cash_row_of_age, lot_of_account_by_age}
use Rattle.brk_store_index.specs.declared.age.RowAge.{RowAge}
use Rattle.brk_store_reads.specs.RowsByAge.{AreRowsOfAges}
use Rattle.brk_tables_views.specs.Lists.{lot_sort_key}

-- The lots of the account with the ages, in the rows `holdings`, sorted by `lot_sort_key`.
abbrev pub AreLotsBySymbol : List table.HoldingRow → ℕ → List RowAge → List HoldingRow → Type 0
AreLotsBySymbol holdings account ages lots =
    (found : List HoldingRow) × AreRowsOfAges (λ age row. Some (abstract_holding_row row) ≡ lot_of_account_by_age holdings account age) ages found
    × (map abstract_holding_row lots ≡ rows_sorted_by_key lot_sort_key (map abstract_holding_row found))

-- If the ages rise, the cash rows of the account with the ages, in the rows `moves`, with stamps from
-- `first` to `last`, both included.
abbrev pub AreCashRowsBetween : List table.CashRow → ℕ → ℕ → ℕ → List RowAge → List CashRow → Type 0
AreCashRowsBetween moves account first last ages rows =
    (from : ℕ) × (until : ℕ) × IsPlaceOfStamp ages first false from × IsPlaceOfStamp ages last true until
    × AreRowsOfAges (λ age row. Some (abstract_cash_row row) ≡ cash_row_of_age moves account age) (take (until - from) (drop from ages)) rows
