-- Statements that select all columns of tables, and the column names that they must have.
use Rattle.std.specs.Prelude.{◌≡◌, ◌⊎◌, ℕ, List, [], ◌∷◌, ◌++◌, codes, map, Bool, true, false}
use Rattle.std.specs.Borrow.{Bor}
use Rattle.sqlite_schema.specs.declared.schema.Schema.{Schema}
use Rattle.brk_tables_sql.specs.Desk.{IsResultColumnCheckOutcome}
use Rattle.brk_tables_schema.specs.Desk.{DeskTable, table_name, table_definition_at_tree}
use Rattle.brk_tables_scan.specs.Schemas.{table_and_column_names}

-- A statement and the column names that its result is expected to have, in order.
abbrev pub Heading : Type 0
Heading = List ℕ × List (List ℕ)

-- The statement and the column names that the borrowed texts `told` contain.
abbrev pub heading_of_borrowed_texts : Bor (List ℕ) × Bor (List (Bor (List ℕ))) → Heading
heading_of_borrowed_texts told = (told.0.now, map (λ (name : Bor (List ℕ)). name.now) told.1.now)

-- The text of the statement that selects all columns of the table `w`.
abbrev pub select_all_text : DeskTable → List ℕ
select_all_text w = codes "SELECT * FROM " ++ table_name w

-- The statement that selects all columns of the table `w`, and their names, in order.
abbrev pub heading_of_table : DeskTable → Heading
heading_of_table w = (select_all_text w, (table_and_column_names (table_definition_at_tree w 0)).columns)

-- If `has` is true, each statement compiles, and its result has exactly the column names of its
-- heading, in order. If `has` is false, this holds for the first, possibly none, and the next
-- compiles, but without the column names of its heading.
abbrev pub IsHeadingCheckOutcome : List Heading → Bool → Schema → Type 0
IsHeadingCheckOutcome [] has schema = has ≡ true
IsHeadingCheckOutcome (h ∷ headings) has schema =
    (IsResultColumnCheckOutcome h.0 h.1 false schema × (has ≡ false))
    ⊎ (IsResultColumnCheckOutcome h.0 h.1 true schema × IsHeadingCheckOutcome headings has schema)
