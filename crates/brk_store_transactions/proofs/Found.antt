-- A connection to the disk contents of a store holds its rows.
use Rattle.std.proofs.Common.{◌≡◌, ◌∙◌, sym, subst, subst₂}
use Rattle.sqlite.specs.Effect.{Database, IsDatabase}
use Rattle.sqlite.specs.Held.{Held}
use Rattle.sqlite_catalog.proofs.ReadLemmas.{lists_once}
use Rattle.sqlite_catalog.specs.Listing.{Lists}
use Rattle.sqlite_schema.specs.declared.schema.Schema.{Schema}
use Rattle.sqlite_trees.specs.Objects.{catalog_tree}
use Rattle.sqlite_trees.specs.Tree.{Trees}
use Rattle.sqlite_trees.specs.declared.store.Store.{Ghosts}
use Rattle.brk_model.specs.Tables.{Tables}
use Rattle.brk_tables_schema.specs.Made.{HasDeskTables}
use Rattle.brk_store_transactions.specs.Holds.{IsDiskContentOfRows, HoldsRows, IsConnectionToDiskContent}

-- two sound readings of the same trees have the same rows
same_rows : (t : Tables) (db other : Database) → IsDatabase db → IsDatabase other → other.trees ≡ db.trees → HasDeskTables t db → HasDeskTables t other
same_rows t db other sound found same has =
    let schema : db.schema ≡ other.schema = lists_once (db.trees catalog_tree) db.schema other.schema sound.lists (subst (λ (l : Trees). Lists (l catalog_tree) other.schema) same found.lists) in
    subst₂ (λ (s : Schema) (l : Trees). HasDeskTables t (record { schema = s; trees = l })) schema (sym same) has

pub found_again : {S : Type 0} (g : Ghosts S) (t : Tables) (trees : Trees) (conn : Held S) → IsDiskContentOfRows t trees → IsConnectionToDiskContent g trees conn → HoldsRows g conn t
found_again g t trees conn are opened clean o = same_rows t are.0 _ are.1.1.sound (opened.live clean o).0 (opened.same clean ∙ are.2) are.1
