-- All rows of a table, read and decoded.
use Rattle.std.proofs.Common.{◌≡◌, List, Result, Ok, Err, IfOk, map, subst}
use Rattle.std.specs.Global.{Vec}
use Rattle.sqlite_value.specs.Order.{Row}
use Rattle.sqlite_trees.specs.declared.store.Store.{Ghosts}
use Rattle.sqlite.specs.Held.{state}
use Rattle.sqlite.specs.declared.transaction.Transaction.{Transaction}
use Rattle.brk_tables_sql.proofs.Decode.{all_are}
use Rattle.brk_tables_sql.proofs.Inside.{step_read}
use Rattle.brk_tables_schema.specs.Desk.{DeskTable, RecordOfTable, encoded_row, rows_of_table}
use Rattle.brk_tables_schema.specs.Statements.{ReadsDeskTables}
use Rattle.brk_tables_scan.specs.Whole.{ReadsAllRows}

-- the records of all rows that were read are those of the table
pub table_read : (w : DeskTable) {Y : Type 0} (model : Y → RecordOfTable w) (back : Row → RecordOfTable w) → ((x : RecordOfTable w) → back (encoded_row w x) ≡ x) → {S E F : Type 0} (g : Ghosts S) (old new : Transaction S)
    (rows : Vec Row) (given : List Row) → given ≡ rows.items → (out : Result (Vec Y) F) → IfOk out (λ all. map (λ y. encoded_row w (model y)) all.items ≡ given) → ReadsAllRows {E = E} g old new (Ok rows) w
    → ReadsDeskTables g old new out (λ all t. map model all.items ≡ rows_of_table w t)
table_read w {Y} model back is_back {S} {E} {F} g old new rows given same out told step =
    step_read (state g old.conn.now) (state g new.conn.now) rows out _ _
    (λ all is s. (
      s.0,
      s.1,
      λ t tree h. all_are (encoded_row w) back is_back model all.items given rows.items (rows_of_table w t) (when out told all is) same
          ((s.2 (h.place w) (tree w) (h.is_table w)).rows_encode_records (rows_of_table w t) (h.rows w)),
    )) step
  where
    when : (r : Result (Vec Y) F) → IfOk r (λ all. map (λ y. encoded_row w (model y)) all.items ≡ given) → (all : Vec Y) → r ≡ Ok all → map (λ y. encoded_row w (model y)) all.items ≡ given
    when (Ok u) h all e = let f : u ≡ all = cc in subst (λ z. map (λ y. encoded_row w (model y)) z.items ≡ given) f h
    when (Err u) h all e = absurd (let f = e in cc)
