-- The tables created from their texts, and the row of DESK.
use Rattle.std.proofs.Common.{◌≡◌, ◌≢◌, ◌∙◌, ℕ, pos, List, [], ◌∷◌, map, drop, None, refl, ap, subst}
use Rattle.std.specs.List.{AllByRecursion}
use Rattle.sqlite_trees.specs.Tree.{Trees}
use Rattle.sqlite_schema.specs.declared.schema.Schema.{Schema}
use Rattle.sqlite_schema.specs.declared.schema.Table.{Table}
use Rattle.sqlite.specs.Effect.{Database}
use Rattle.sqlite.specs.State.{State}
use Rattle.sqlite_value.specs.declared.value.Value.TheVariants.{Null, Int}
use Rattle.brk_model.specs.Schemas.{third_schema}
use Rattle.brk_model.specs.Tables.{tables_without_rows}
use Rattle.brk_tables_sql.specs.Desk.{CreatesEachTable}
use Rattle.brk_tables_sql.specs.Model.{ExecutesStatement}
use Rattle.brk_tables_sql.proofs.Founded.{CreatesTablesWithRecords, all_left, part_none, part_each, founded, first_sound}
use Rattle.brk_tables_sql.proofs.Texts.{read}
use Rattle.brk_tables_sql.proofs.Values.{cast_int, cast_null}
use Rattle.brk_tables_sql.proofs.Writes.{inserts_alone, inserts_as}
use Rattle.brk_tables_schema.specs.Shapes.{desk_row_table}
use Rattle.brk_tables_schema.specs.Desk.{TheDesk, all_tables, desk_rows, table_definition_at_tree}
use Rattle.brk_tables.specs.Made.{CreatesDeskTables}
use Rattle.brk_tables_schema.proofs.Which.{split}
use Rattle.brk_tables_schema.proofs.Wide.{wide, narrowed}
use Rattle.brk_tables_schema.proofs.Places.{the_desk}
use Rattle.brk_tables.proofs.AddDesk
use Rattle.brk_tables.proofs.Makes.{all_made, none_held, bare}

-- ---- all of them

pub founds_bare : (old new : Database) → CreatesEachTable (map table_definition_at_tree all_tables) old new → CreatesTablesWithRecords wide bare old new
founds_bare old new made =
    founded wide _ old new (part_each wide split all_tables (λ _. ⊥) old old new (part_none wide old) made)
    (first_sound desk_row_table (drop 1 (map table_definition_at_tree all_tables)) old new made) all_made bare none_held

-- the row of DESK comes last
kept_by : (a b c : Trees) (n : ℕ) (tables : List Table) → AllByRecursion (λ t. t.tree ≢ n) tables → AllByRecursion (λ t. b t.tree ≡ a t.tree) tables
    → AllByRecursion (λ t. t.tree ≢ n → c t.tree ≡ b t.tree) tables
    → AllByRecursion (λ t. c t.tree ≡ a t.tree) tables
kept_by a b c n [] fresh same left = tt
kept_by a b c n (t ∷ tables) fresh same left = (left.0 fresh.0 ∙ same.0, kept_by a b c n tables fresh.1 same.1 left.1)

pub founds_desk : (a : Database) (old new : State) → CreatesTablesWithRecords wide bare a old.now → ExecutesStatement AddDesk.statement [] old new → CreatesDeskTables a new.now
founds_desk a old new f ran =
    let turned = inserts_as wide TheDesk the_desk AddDesk.statement [] (read AddDesk.statement) AddDesk.terms 4
    (Int (pos 1) ∷ Null ∷ Int (pos 3) ∷ Null ∷ []) (record { id = 1; schema = 3; last = None })
    AddDesk.understood_as (λ tree. refl) (λ tree rows. rw (cast_int (pos 1), cast_int (pos 3), cast_null) refl) old new ran.0 ran.1 bare f.tree f.tables in
    let alone = inserts_alone wide TheDesk the_desk AddDesk.statement [] (read AddDesk.statement) AddDesk.terms 4 AddDesk.understood_as old new ran.0 ran.1 bare f.tree f.tables in
    let left = all_left (λ t. t.tree ≢ f.tree TheDesk → new.now.trees t.tree ≡ old.now.trees t.tree) a.schema.tables f.others.more
    (subst (AllByRecursion (λ t. t.tree ≢ f.tree TheDesk → new.now.trees t.tree ≡ old.now.trees t.tree)) f.others.tables alone.1) in
    record {
      rows = (f.tree, narrowed third_schema f.tree new.now (desk_rows third_schema None) [] tables_without_rows tables_without_rows refl refl (λ w _ _. refl) turned.0);
      others = record {
        more = f.others.more;
        tables = ap (λ (s : Schema). s.tables) alone.0 ∙ f.others.tables;
        rows = kept_by a.trees old.now.trees new.now.trees (f.tree TheDesk) a.schema.tables (f.fresh TheDesk) f.others.rows left;
      };
    }
