-- The upgrade creates the tables that a schema lacks, sets the number of the schema, and moves the
-- cash rows.
use Rattle.std.proofs.Common.{◌≡◌, ◌≢◌, ◌∙◌, inl, inr, ℕ, List, [], ◌∷◌, map, Bool, true, false, not, refl, sym, ap, subst}
use Rattle.std.specs.List.{AllByRecursion}
use Rattle.sqlite_rules.specs.Lists.{Has}
use Rattle.sqlite_rules.proofs.ListLemmas.{all_has, all_from, has_kept, has_filtered}
use Rattle.sqlite_schema.specs.declared.schema.Schema as database
use Rattle.sqlite_schema.specs.declared.schema.Table.{Table}
use Rattle.sqlite.specs.Effect.{Database}
use Rattle.brk_model.specs.Schemas.{Schema}
use Rattle.brk_model.specs.Tables.{Tables}
use Rattle.brk_tables_sql.specs.Desk.{HasNoWritingForeignKeysAt, CreatesEachTable, ChangesTablesBy}
use Rattle.brk_tables_sql.proofs.Founded.{Among, OrIn, all_left}
use Rattle.brk_tables_sql.proofs.Grown.{grown_each, all_there}
use Rattle.brk_tables_schema.specs.Desk.{DeskTable, CashMoves, all_tables, desk_tables_of_schema, schema_has_table, rows_of_table_in_schema, table_definition_at_tree}
use Rattle.brk_tables_schema.specs.Made.{IsTableOfSchema}
use Rattle.brk_tables_schema.proofs.Which.{all_listed, split}
use Rattle.brk_tables_schema.specs.Desk.{tables_of_later_schemas}
use Rattle.brk_tables_cash.specs.UpgradeStatements.{SetsSchemaNumberToThree}
use Rattle.brk_tables_cash.specs.Upgrade.{AddsTablesOfLaterSchemas, UpgradesTables, HasUpgradedTables, tables_with_cash_transactions_moved}
use Rattle.brk_tables_cash.proofs.Numbered.{upgraded_is}
use Rattle.brk_model.specs.Upgraded.{tables_upgraded_from_schema}

-- ---- each table is of a schema, or of a later one

module _ (desk : Schema) where
  among_in : (ws : List DeskTable) (In : DeskTable → Type 0) (w : DeskTable) → In w → Among (desk_tables_of_schema desk) ws In w
  among_in [] In w there = there
  among_in (v ∷ ws) In w there = among_in ws (OrIn (desk_tables_of_schema desk) v In) w (inr there)

  among_has : (ws : List DeskTable) (In : DeskTable → Type 0) (w : DeskTable) → Has ws w → Among (desk_tables_of_schema desk) ws In w
  among_has [] In w listed = absurd listed
  among_has (v ∷ ws) In w (inl e) = among_in ws (OrIn (desk_tables_of_schema desk) v In) w (inl e)
  among_has (v ∷ ws) In w (inr later) = among_has ws (OrIn (desk_tables_of_schema desk) v In) w later

  not_not : (b : Bool) → not b ≡ true → b ≡ false
  not_not true h = absurd (let e = h in cc)
  not_not false h = refl

  lacked : (w : DeskTable) → schema_has_table desk w ≡ false → Has (tables_of_later_schemas desk) w
  lacked w off = has_kept (λ w. not (schema_has_table desk w)) all_tables w (all_listed w) (ap not off)

  each : (w : DeskTable) → Among (desk_tables_of_schema desk) (tables_of_later_schemas desk) (IsTableOfSchema desk) w
  each w = go (schema_has_table desk w) refl
    where
      go : (b : Bool) → schema_has_table desk w ≡ b → Among (desk_tables_of_schema desk) (tables_of_later_schemas desk) (IsTableOfSchema desk) w
      go true of = among_in (tables_of_later_schemas desk) (IsTableOfSchema desk) w of
      go false off = among_has (tables_of_later_schemas desk) (IsTableOfSchema desk) w (lacked w off)

  pub raised : (a b c : Database) → CreatesEachTable (map table_definition_at_tree (tables_of_later_schemas desk)) a b → SetsSchemaNumberToThree b c → AddsTablesOfLaterSchemas desk a c
  raised a b c made raises = λ t tree h lacks.
      let none : AllByRecursion (λ w. rows_of_table_in_schema desk w t ≡ []) (tables_of_later_schemas desk) =
      all_from (λ w. rows_of_table_in_schema desk w t ≡ []) (tables_of_later_schemas desk)
      (λ w listed. (lacks w (not_not (schema_has_table desk w) (has_filtered (λ w. not (schema_has_table desk w)) all_tables w listed).1)).1) in
      let g = grown_each (desk_tables_of_schema desk) t split (tables_of_later_schemas desk) (IsTableOfSchema desk) tree a b h none made in
      let up = raises desk t g.to (all_there (desk_tables_of_schema desk) t (Among (desk_tables_of_schema desk) (tables_of_later_schemas desk) (IsTableOfSchema desk)) g.to b each g.has) in
      let away : (k : Table) → Has a.schema.tables k → ((w : DeskTable) → IsTableOfSchema desk w → k.tree ≢ tree w) → (w : DeskTable) → k.tree ≢ g.to w =
      λ k there other w same. elim (g.from w (each w)) [
        | inl kept ↦ other w kept.0 (same ∙ kept.1)
        | inr fresh ↦ all_has (λ k. k.tree ≢ g.to w) a.schema.tables k fresh there same
      ] in
      let spared : AllByRecursion (λ k. ((w : DeskTable) → k.tree ≢ g.to w) → HasNoWritingForeignKeysAt b.schema k.tree → c.trees k.tree ≡ b.trees k.tree) a.schema.tables =
      all_left _ a.schema.tables g.grows.more
      (subst (AllByRecursion (λ k. ((w : DeskTable) → k.tree ≢ g.to w) → HasNoWritingForeignKeysAt b.schema k.tree → c.trees k.tree ≡ b.trees k.tree))
      g.grows.tables up.1.rows) in
      record {
        tree = g.to;
        rows = up.0;
        others = record {
          more = g.grows.more;
          tables = ap (λ (s : database.Schema). s.tables) up.1.schema ∙ g.grows.tables;
          rows = all_from _ a.schema.tables (λ k there other keys_write_nothing.
              all_has (λ k. ((w : DeskTable) → k.tree ≢ g.to w) → HasNoWritingForeignKeysAt b.schema k.tree → c.trees k.tree ≡ b.trees k.tree) a.schema.tables k
              spared there (away k there other) (g.grows.keys_write_nothing k.tree keys_write_nothing)
              ∙ all_has (λ k. b.trees k.tree ≡ a.trees k.tree) a.schema.tables k g.grows.rows there);
        };
        apart = all_from _ a.schema.tables away;
        keys_write_nothing = λ n keys_write_nothing. subst (λ s. HasNoWritingForeignKeysAt s n) (sym up.1.schema) (g.grows.keys_write_nothing n keys_write_nothing);
      }

  -- the rows are turned
  pub stands_then : (before : DeskTable → ℕ) (t : Tables) (f : Tables → Tables) (a c d : Database) → HasUpgradedTables desk before t a c
      → ChangesTablesBy (desk_tables_of_schema Rattle.brk_model.specs.Schemas.third_schema) f c d → HasUpgradedTables desk before (f t) a d
  stands_then before t f a c d s turns =
      let turned = turns t s.tree s.rows in
      let spares = turned.1 in
      let spared : AllByRecursion (λ k. ((w : DeskTable) → k.tree ≢ s.tree w) → HasNoWritingForeignKeysAt c.schema k.tree → d.trees k.tree ≡ c.trees k.tree) a.schema.tables =
      all_left _ a.schema.tables s.others.more
      (subst (AllByRecursion (λ k. ((w : DeskTable) → k.tree ≢ s.tree w) → HasNoWritingForeignKeysAt c.schema k.tree → d.trees k.tree ≡ c.trees k.tree))
      s.others.tables spares.rows) in
      record {
        tree = s.tree;
        rows = turned.0;
        others = record {
          more = s.others.more;
          tables = ap (λ (s : database.Schema). s.tables) spares.schema ∙ s.others.tables;
          rows = all_from _ a.schema.tables (λ k there other keys_write_nothing.
              all_has (λ k. ((w : DeskTable) → k.tree ≢ s.tree w) → HasNoWritingForeignKeysAt c.schema k.tree → d.trees k.tree ≡ c.trees k.tree) a.schema.tables k spared there
              (all_has (λ k. ((w : DeskTable) → IsTableOfSchema desk w → k.tree ≢ before w) → (w : DeskTable) → k.tree ≢ s.tree w) a.schema.tables k s.apart
              there other) (s.keys_write_nothing k.tree keys_write_nothing)
              ∙ all_has (λ k. ((w : DeskTable) → IsTableOfSchema desk w → k.tree ≢ before w) → HasNoWritingForeignKeysAt a.schema k.tree
              → c.trees k.tree ≡ a.trees k.tree) a.schema.tables k s.others.rows there other keys_write_nothing);
        };
        apart = s.apart;
        keys_write_nothing = λ n keys_write_nothing. subst (λ s. HasNoWritingForeignKeysAt s n) (sym spares.schema) (s.keys_write_nothing n keys_write_nothing);
      }

  -- cash rows that are numbered stay
  pub moves_not : (a c : Database) → desk.has_cash_move_table ≡ true → AddsTablesOfLaterSchemas desk a c → UpgradesTables desk a c
  moves_not a c numbered up = λ t tree h lacks.
      let same : t ≡ tables_upgraded_from_schema desk t = rw numbered refl in
      subst (λ u. HasUpgradedTables desk tree u a c) same (up t tree h lacks)

  -- those that are not are upgraded
  pub moves_cash : (a c d : Database) → desk.has_cash_move_table ≡ false → AddsTablesOfLaterSchemas desk a c
      → ChangesTablesBy (desk_tables_of_schema Rattle.brk_model.specs.Schemas.third_schema) tables_with_cash_transactions_moved c d → UpgradesTables desk a d
  moves_cash a c d off up turns = λ t tree h lacks.
      let same : tables_with_cash_transactions_moved t ≡ tables_upgraded_from_schema desk t = rw off (upgraded_is t (lacks CashMoves off).1) in
      subst (λ u. HasUpgradedTables desk tree u a d) same (stands_then tree t tables_with_cash_transactions_moved a c d (up t tree h lacks) turns)
