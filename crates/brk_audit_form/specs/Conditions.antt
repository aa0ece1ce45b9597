-- The precondition of searches in tables.
use Rattle.std.specs.Prelude.{IsTrue}
use Rattle.brk_model.specs.Form.{has_tables_sorted_by_unique_key}
use Rattle.brk_trade_rows.specs.Sheets.{abstract_sheets}
use Rattle.brk_trade_rows.specs.declared.sheets.Sheets.{Sheets}

-- Each table of `s` is sorted by key, ascending, without duplicates; searches by key require it.
abbrev pub HasSortedKeys : Sheets → Type 0
HasSortedKeys s = IsTrue (has_tables_sorted_by_unique_key (abstract_sheets s))
