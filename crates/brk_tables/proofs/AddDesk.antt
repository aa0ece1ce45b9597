-- Written by tools/generate/tables.py: the meaning of an INSERT.
use Rattle.std.proofs.Common.{◌≡◌, ℕ, pos, List, [], ◌∷◌, codes, Ok, refl}
use Rattle.sqlite.specs.declared.types.Value.TheVariants.{Null, Int}
use Rattle.sqlite.specs.Term.{Term, lit}
use Rattle.sqlite.specs.Schema.{Schema}
use Rattle.sqlite.specs.Source.TheVariants.{Values}
use Rattle.sqlite.specs.Command.TheVariants.{Insert}
use Rattle.sqlite_resolve.specs.Compile.{compiled}
use Rattle.sqlite_tied.specs.Compute.{everything}
use Rattle.brk_tables_sql.specs.Desk.{IsTableAt}
use Rattle.brk_tables_sql.proofs.Meant.{meant, inserts}
use Rattle.brk_tables_sql.proofs.Texts.{read}
use Rattle.brk_tables_schema.specs.Shapes.{desk_row_table}

abbrev pub statement : List ℕ
statement = codes "INSERT INTO DESK (D_ID, D_SCHEMA, D_LAST) VALUES (1, 3, NULL)"

abbrev pub terms : List Term
terms = lit (Int (pos 1)) ∷ lit Null ∷ lit (Int (pos 3)) ∷ lit Null ∷ []

pub understood_as : (schema : Schema) (at tree : ℕ) → IsTableAt schema (desk_row_table tree) at → compiled schema statement ≡ Ok (meant (read statement) [] (Insert at (Values terms 4)))
unfolding everything
understood_as schema at tree h = inserts schema statement (read statement) refl refl (codes "DESK") at (desk_row_table tree) h.named h.found _ _ _ refl refl
