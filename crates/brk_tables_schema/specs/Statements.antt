-- The effect of a statement on a desk's tables, and the results of its reads.
use Rattle.std.specs.Prelude.{◌≡◌, Bool, Option, Result, find, filter, map, option_map}
use Rattle.std.specs.Global.{Vec}
use Rattle.sqlite_trees.specs.declared.store.Store.{Ghosts}
use Rattle.sqlite.specs.declared.transaction.Transaction.{Transaction}
use Rattle.brk_model.specs.Tables.{Tables}
use Rattle.brk_tables_sql.specs.Model.{WritesTables, ReadsTables}
use Rattle.brk_tables_schema.specs.Desk.{DeskTable, RecordOfTable, desk_tables, rows_of_table}

-- The call changes the rows of a desk's tables in schema 3 from `t` to `f t` (`WritesTables`).
abbrev pub WritesDeskTables : {S V E : Type 0} → Ghosts S → Transaction S → Transaction S → Result V E → (Tables → Tables) → Type 0
WritesDeskTables g old new result f = WritesTables desk_tables g old new result f

-- The call changes nothing, and `Matches` relates its value to the tables in schema 3.
abbrev pub ReadsDeskTables : {S V E : Type 0} → Ghosts S → Transaction S → Transaction S → Result V E → (V → Tables → Type 0) → Type 0
ReadsDeskTables g old new result Matches = ReadsTables desk_tables g old new result Matches

-- `o`, converted by `of`, is the first record of the table `w` in `t` passing `is`, or `None`.
abbrev pub IsFirstMatch : {X : Type 0} (w : DeskTable) → (X → RecordOfTable w) → (RecordOfTable w → Bool) → Option X → Tables → Type 0
IsFirstMatch w of is o t = option_map of o ≡ find is (rows_of_table w t)

-- `all`, converted by `of`, are the records of the table `w` in `t` that pass `is`, in order.
abbrev pub AreMatchingRows : {X : Type 0} (w : DeskTable) → (X → RecordOfTable w) → (RecordOfTable w → Bool) → Vec X → Tables → Type 0
AreMatchingRows w of is all t = map of all.items ≡ filter is (rows_of_table w t)

-- A read of the record with the least key in the table `w` that passes the test `is`, or of `None`.
abbrev pub ReadsFirstMatch : {S X E : Type 0} → Ghosts S → Transaction S → Transaction S → Result (Option X) E → (w : DeskTable) → (X → RecordOfTable w)
    → (RecordOfTable w → Bool) → Type 0
ReadsFirstMatch g old new result w of is = ReadsDeskTables g old new result (IsFirstMatch w of is)

-- A read of all records of the table `w` that pass the test `is`, sorted by key, ascending.
abbrev pub ReadsMatchingRows : {S X E : Type 0} → Ghosts S → Transaction S → Transaction S → Result (Vec X) E → (w : DeskTable) → (X → RecordOfTable w)
    → (RecordOfTable w → Bool) → Type 0
ReadsMatchingRows g old new result w of is = ReadsDeskTables g old new result (AreMatchingRows w of is)
