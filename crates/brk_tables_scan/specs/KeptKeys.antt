-- The rows of KEPT as an audit reads them: their keys. No condition of an audit reads their texts.
use Rattle.std.specs.Prelude.{◌≡◌, List, map}
use Rattle.sqlite_value.specs.Order.{Row}
use Rattle.brk_model.specs.Records.{Key}
use Rattle.brk_model.specs.Tables.{Tables}
use Rattle.brk_ref.specs.declared.key.Key as typed_key
use Rattle.brk_ref.specs.declared.key.Kept as typed
use Rattle.brk_ref.specs.Records.{abstract_key, abstract_kept_row}
use Rattle.brk_trade_rows.specs.Sheets.{abstract_sheets}
use Rattle.brk_trade_rows.specs.declared.sheets.Sheets.{Sheets}
use Rattle.brk_tables_schema.specs.Cells.{kept_cells}

-- The keys of the typed rows `rows` of KEPT, in order.
abbrev pub keys_of_kept_rows : List typed.Kept → List Key
keys_of_kept_rows rows = map (λ r. abstract_key r.key) rows

-- The raw row `raw` encodes some typed row of KEPT, which has the key `key` and any texts.
abbrev pub IsKeyOfRawRow : typed_key.Key → Row → Type 0
IsKeyOfRawRow key raw = (whole : typed.Kept) × (kept_cells (abstract_kept_row whole) ≡ raw) × (abstract_key whole.key ≡ abstract_key key)

-- `raw` encode, in order, some typed rows of KEPT, with the keys `keys` and any texts.
abbrev pub AreKeysOfRawRows : List typed_key.Key → List Row → Type 0
AreKeysOfRawRows keys raw =
    (whole : List typed.Kept) × (map (λ r. kept_cells (abstract_kept_row r)) whole ≡ raw) × (keys_of_kept_rows whole ≡ map abstract_key keys)

-- The tables of the typed rows `sheets`, with `whole` as the rows of KEPT.
abbrev pub tables_with_whole_kept_rows : List typed.Kept → Sheets → Tables
tables_with_whole_kept_rows whole sheets = record (abstract_sheets sheets) { kept = map abstract_kept_row whole }
