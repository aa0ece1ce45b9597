-- The market value of rows that were read, at the last prices of an index.
use Rattle.std.proofs.Common.{◌≡◌, Ok, subst}
use Rattle.sqlite_trees.specs.declared.store.Store.{Ghosts}
use Rattle.sqlite.specs.Effect.{Database}
use Rattle.sqlite.specs.Held.{Held, state}
use Rattle.brk_model.specs.Tables.{Tables}
use Rattle.brk_tables_schema.specs.Made.{HasDeskTables}
use Rattle.brk_tables.proofs.OneTables.{one_tables}
use Rattle.brk_store_index.specs.Index.{IsIndexOf}
use Rattle.brk_store_index.specs.IfMade.{IsIndexIfMade}
use Rattle.brk_store_index.specs.declared.index.RowIndex.{RowIndex}
use Rattle.brk_store_transactions.specs.Holds.{ReadPost}
use Rattle.brk_store.specs.Indexed.{IndexIsTrue, IsIndexOfDatabase}
use Rattle.brk_store_index.specs.declared.store_index.StoreIndex.{StoreIndex}
use Rattle.brk_store_index.specs.declared.store_index.StoreIndex.TheVariants.{Absent, Made, Unmade}
use Rattle.brk_store_reads.specs.ReadSequences.{disk_was_clean_before_reads, single_read_changes_nothing}

pub index_of_tables : (index : RowIndex) (db : Database) (t : Tables) → IsIndexOfDatabase (Made index) db → HasDeskTables t db → IsIndexOf index t
index_of_tables index db t is has = subst (IsIndexOf index) (one_tables is.0 t db is.1 has) is.2

pub index_if_made : (index : StoreIndex) (db : Database) (t : Tables) → IsIndexOfDatabase index db → HasDeskTables t db → IsIndexIfMade index t
index_if_made (Made index) db t is has = index_of_tables index db t is has
index_if_made Unmade db t is has = tt
index_if_made Absent db t is has = tt

-- what was read and the index tell this together, of a store by another name
pub retold_by_index : {S V X E H : Type 0} (g : Ghosts S) (conn end store : Held S) → conn ≡ store → (index : StoreIndex) → IndexIsTrue g conn index → (v : V) (x : X) (P : V → Tables → Type 0) (R : X → Tables → Type 0)
    → ((t : Tables) → IsIndexOfDatabase index (state g conn).now → HasDeskTables t (state g conn).now → P v t → R x t)
    → ReadPost {E = E} g conn end (Ok v) P → ReadPost {E = H} g store end (Ok x) R
retold_by_index {S} {V} {X} {E} {H} g conn end store same index is v x P R tell read =
    subst (λ h. ReadPost {E = H} g h end (Ok x) R) same (record {
      answered = λ clean t holds.
          let before = disk_was_clean_before_reads conn end (single_read_changes_nothing conn end (Ok v) P read) clean in
          let on = read.was_open clean in
          tell t (is.indexed before on) (holds before on) (read.answered clean t holds);
      was_open = read.was_open;
      same_rows = read.same_rows;
      unchanged_if_open = read.unchanged_if_open;
      survives = read.survives;
    })
