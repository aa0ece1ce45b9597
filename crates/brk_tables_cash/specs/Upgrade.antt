-- The effect of the upgrade to schema 3 on the rows and on the database.
use Rattle.std.specs.Prelude.{◌≡◌, ◌≢◌, ◌+◌, ℕ, List, [], ◌∷◌, ◌++◌}
use Rattle.std.specs.List.{AllByRecursion}
use Rattle.sqlite_schema.specs.declared.schema.Table.{Table}
use Rattle.sqlite.specs.Effect.{Database}
use Rattle.brk_model.specs.Lists.{sort_by_key}
use Rattle.brk_model.specs.Adopted.{posting_of_cash_transaction_row}
use Rattle.brk_model.specs.Upgraded.{tables_upgraded_from_schema}
use Rattle.brk_model.specs.Schemas.{Schema}
use Rattle.brk_model.specs.Tables.{Tables, OldCashRow, cash_move_row}
use Rattle.brk_trade_rows.specs.Changes.{tables_with_cash_row}
use Rattle.brk_tables_sql.specs.Desk.{HasTables, HasSelectedTables, HasNoWritingForeignKeysAt}
use Rattle.brk_tables_schema.specs.Desk.{DeskTable, desk_tables, desk_tables_of_schema}
use Rattle.brk_tables_schema.specs.Made.{IsTableOfSchema, LacksOtherDeskTables}
use Rattle.brk_tables_cash.specs.UpgradeStatements.{tables_without_cash_transactions}

-- The rows of CASH_TRANSACTION, sorted by stamp, then in table order.
abbrev pub cash_transactions_by_stamp : Tables → List OldCashRow
cash_transactions_by_stamp t = sort_by_key (λ r. r.stamp) t.cash

-- `t` with `c` of CASH_TRANSACTION in CASH_MOVE as number `id`, at the account of its trade, or 0.
abbrev pub tables_with_numbered_cash_row : ℕ → OldCashRow → Tables → Tables
tables_with_numbered_cash_row id c t = tables_with_cash_row (cash_move_row id (posting_of_cash_transaction_row t c)) t

-- `t` with the given rows of CASH_TRANSACTION inserted into CASH_MOVE, in order, under the numbers
-- `n`, `n + 1` and so on (`tables_with_numbered_cash_row`).
abbrev pub tables_with_cash_rows_numbered_from : ℕ → List OldCashRow → Tables → Tables
tables_with_cash_rows_numbered_from n [] t = t
tables_with_cash_rows_numbered_from n (c ∷ cs) t = tables_with_cash_rows_numbered_from (n + 1) cs (tables_with_numbered_cash_row n c t)

-- The tables `t` with all rows of CASH_TRANSACTION inserted into CASH_MOVE, numbered from 1 by
-- ascending stamp (`cash_transactions_by_stamp`), and with no rows in CASH_TRANSACTION.
abbrev pub tables_with_cash_transactions_moved : Tables → Tables
tables_with_cash_transactions_moved t = tables_without_cash_transactions (tables_with_cash_rows_numbered_from 1 (cash_transactions_by_stamp t) t)

-- Each table of `old` is in `new`, at the same index; `new` may have more tables. The rows of a
-- table of `old` are unchanged if it is at none of the trees `tree w` of the tables `w` for which
-- `In w` holds, and no foreign key of it, or of another table at its tree, changes or deletes rows.
pub record PreservesTablesOutside (In : DeskTable → Type 0) (tree : DeskTable → ℕ) (old new : Database) : Type 0 where
  pub more : List Table
  pub tables : new.schema.tables ≡ old.schema.tables ++ more
  pub rows : AllByRecursion (λ k. ((w : DeskTable) → In w → k.tree ≢ tree w) → HasNoWritingForeignKeysAt old.schema k.tree
      → new.trees k.tree ≡ old.trees k.tree) old.schema.tables

-- `new` contains the tables of schema 3 with the rows `t`. Tables of `old` outside the trees
-- `before` are unchanged, unless their own foreign keys change rows (`PreservesTablesOutside`).
pub record HasUpgradedTables (desk_before : Schema) (before : DeskTable → ℕ) (t : Tables) (old new : Database) : Type 0 where
  pub tree : DeskTable → ℕ
  pub rows : HasTables desk_tables t tree new
  pub others : PreservesTablesOutside (IsTableOfSchema desk_before) before old new
  -- A table of `old` that is not one of the desk's is at none of the trees of schema 3's tables.
  pub apart : AllByRecursion (λ k. ((w : DeskTable) → IsTableOfSchema desk_before w → k.tree ≢ before w) → (w : DeskTable) → k.tree ≢ tree w) old.schema.tables
  -- If no foreign key of a table at a tree changes or deletes rows in `old`, none does in `new`.
  pub keys_write_nothing : (tree : ℕ) → HasNoWritingForeignKeysAt old.schema tree → HasNoWritingForeignKeysAt new.schema tree

-- If `old` contains the tables of `schema` with the rows `t`, and lacks those that later schemas
-- add (`LacksOtherDeskTables`), `new` contains the tables of schema 3 with `t`, and others are
-- unchanged, unless their own foreign keys change rows (`HasUpgradedTables`). Vacuous otherwise.
abbrev pub AddsTablesOfLaterSchemas : Schema → Database → Database → Type 0
AddsTablesOfLaterSchemas schema old new =
    (t : Tables) (tree : DeskTable → ℕ) → HasSelectedTables (desk_tables_of_schema schema) (IsTableOfSchema schema) t tree old
    → LacksOtherDeskTables schema t old → HasUpgradedTables schema tree t old new

-- As `AddsTablesOfLaterSchemas`, but with the upgraded rows (`tables_upgraded_from_schema`).
abbrev pub UpgradesTables : Schema → Database → Database → Type 0
UpgradesTables schema old new =
    (t : Tables) (tree : DeskTable → ℕ) → HasSelectedTables (desk_tables_of_schema schema) (IsTableOfSchema schema) t tree old
    → LacksOtherDeskTables schema t old → HasUpgradedTables schema tree (tables_upgraded_from_schema schema t) old new
