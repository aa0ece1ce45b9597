-- Tables that are created one after the other.
use Rattle.std.proofs.Common.{ℕ, zero, suc, ◌+◌, ◌<◌, List, [], ◌∷◌, map, take, length, get_or, refl, arith, add-one}
use Rattle.sqlite.specs.Effect.{Database}
use Rattle.brk_tables_sql.specs.Desk.{CreatesTableOfShape, CreatesEachTable}
use Rattle.brk_tables_schema.specs.Desk.{table_definition_at_tree}
use Rattle.brk_tables_schema.specs.Texts.{abstract_table}
use Rattle.brk_tables_schema.specs.declared.table.Table.{Table}

abbrev pub each : List Table → Database → Database → Type 0
each tables = CreatesEachTable (map (λ table. table_definition_at_tree (abstract_table table)) tables)

module _ (d : Table) where
  next_at : (tables : List Table) (i : ℕ) → i < length tables → (old mid new : Database) → each (take i tables) old mid
      → CreatesTableOfShape mid new (table_definition_at_tree (abstract_table (get_or tables i d))) → each (take (suc i) tables) old new
  next_at [] i lt old mid new before made = absurd (omega (arith, lt))
  next_at (t ∷ tables) zero lt old mid new before made = (new, Rattle.std.proofs.Common.subst (λ x. CreatesTableOfShape x new (table_definition_at_tree (abstract_table t))) before made, refl)
  next_at (t ∷ tables) (suc i) lt old mid new (first, one, before) made = (first, one, next_at tables i (omega (arith, lt)) first mid new before made)

  -- those before it, and this one
  pub made_at : (tables : List Table) (i : ℕ) → i < length tables → (old mid new : Database) → each (take i tables) old mid
      → CreatesTableOfShape mid new (table_definition_at_tree (abstract_table (get_or tables i d))) → each (take (i + 1) tables) old new
  made_at tables i lt old mid new before made = rw (add-one i) (next_at tables i lt old mid new before made)
