-- The upgrade of the tables of an older schema to the third.
use Rattle.std.specs.Prelude.{[], if◌then◌else◌}
use Rattle.brk_model.specs.Derived.{postings_sorted_by_stamp}
use Rattle.brk_model.specs.Schemas.{Schema}
use Rattle.brk_model.specs.Tables.{Tables, numbered_cash_move_rows}
use Rattle.brk_model.specs.Adopted.{postings_of_tables}

-- The tables `t` with all cash rows in CASH_MOVE, stably sorted by stamp, ascending, those of
-- CASH_TRANSACTION first, numbered from 1, and CASH_TRANSACTION empty. A row of CASH_TRANSACTION
-- gets the account of its trade, or 0 if the trade does not exist.
unfoldable pub tables_with_merged_cash_rows : Tables → Tables
tables_with_merged_cash_rows t = record t { cash = []; moves = numbered_cash_move_rows 1 (postings_sorted_by_stamp (postings_of_tables t)) }

-- The tables `t` of the schema `schema` as tables of the third schema: unchanged if `schema` has
-- the table CASH_MOVE, otherwise with all cash rows in CASH_MOVE (`tables_with_merged_cash_rows`).
abbrev pub tables_upgraded_from_schema : Schema → Tables → Tables
tables_upgraded_from_schema schema t = if schema.has_cash_move_table then t else tables_with_merged_cash_rows t
