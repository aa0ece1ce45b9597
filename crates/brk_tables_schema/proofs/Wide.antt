-- The tables with any rows of DESK and of SETTLE_RULE, as in a creation or an upgrade.
use Rattle.std.proofs.Common.{◌≡◌, ◌≢◌, ℕ, List, refl, sym, subst}
use Rattle.sqlite.specs.Effect.{Database}
use Rattle.brk_model.specs.Schemas.{Schema}
use Rattle.brk_model.specs.Tables.{Tables}
use Rattle.brk_tables_sql.specs.Rows.{TreeHoldsRecords}
use Rattle.brk_tables_sql.specs.Desk.{ProgramTables, HasTables}
use Rattle.brk_tables_schema.specs.Cells.{DeskRow, RuleRow}
use Rattle.brk_tables_schema.specs.Desk.{DeskTable, TheDesk, SettleRules, RecordOfTable, table_definition_at_tree, table_definition_has_tree, encoded_row}
use Rattle.brk_tables_schema.specs.Desk.{ordering_by_primary_key, rows_of_table, rows_of_table_in_schema, desk_tables_of_schema, desk_rows, rule_rows}

pub record Wide : Type 0 where
  pub rows : List DeskRow
  pub rules : List RuleRow
  pub tables : Tables

abbrev pub wide_list : (w : DeskTable) → Wide → List (RecordOfTable w)
wide_list TheDesk p = p.rows
wide_list SettleRules p = p.rules
wide_list w p = rows_of_table w p.tables

abbrev pub wide : ProgramTables DeskTable Wide
wide = record { shape = table_definition_at_tree; placed = table_definition_has_tree; Item = RecordOfTable; encode = encoded_row; order = ordering_by_primary_key; list = wide_list }

-- the tables in a schema
abbrev pub wide_of : Schema → Tables → Wide
wide_of schema t = record { rows = desk_rows schema t.last; rules = rule_rows t.rule; tables = t }

module _ (schema : Schema) (tree : DeskTable → ℕ) (db : Database) where
  same_lists : (w : DeskTable) (t : Tables) → rows_of_table_in_schema schema w t ≡ wide_list w (wide_of schema t)
  same_lists TheDesk t = refl
  same_lists SettleRules t = refl
  same_lists w t = refl

  pub widened : (t : Tables) → HasTables (desk_tables_of_schema schema) t tree db → HasTables wide (wide_of schema t) tree db
  widened t h = record {
    place = h.place;
    is_table = h.is_table;
    apart = h.apart;
    keys_write_nothing = h.keys_write_nothing;
    sound = h.sound;
    rows = λ w. subst (λ xs. TreeHoldsRecords (table_definition_at_tree w (tree w)) (encoded_row w) (ordering_by_primary_key w) xs (db.trees (tree w))) (same_lists w t) (h.rows w);
  }

  -- the other lists are the same
  pub narrowed : (rows : List DeskRow) (rules : List RuleRow) (t u : Tables) → rows ≡ desk_rows schema u.last → rules ≡ rule_rows u.rule
      → ((w : DeskTable) → w ≢ TheDesk → w ≢ SettleRules → rows_of_table w u ≡ rows_of_table w t)
      → HasTables wide (record { rows = rows; rules = rules; tables = t }) tree db → HasTables (desk_tables_of_schema schema) u tree db
  narrowed rows rules t u desk_is rule_is others h = record {
    place = h.place;
    is_table = h.is_table;
    apart = h.apart;
    keys_write_nothing = h.keys_write_nothing;
    sound = h.sound;
    rows = λ w. subst (λ xs. TreeHoldsRecords (table_definition_at_tree w (tree w)) (encoded_row w) (ordering_by_primary_key w) xs (db.trees (tree w))) (back w) (h.rows w);
  }
    where
      back : (w : DeskTable) → wide_list w (record { rows = rows; rules = rules; tables = t }) ≡ rows_of_table_in_schema schema w u
      back TheDesk = desk_is
      back SettleRules = rule_is
      back w = sym (others w (λ e. absurd (let f = e in cc)) (λ e. absurd (let f = e in cc)))
