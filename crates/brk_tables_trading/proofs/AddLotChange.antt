-- Written by tools/generate/tables.py: the meaning of an INSERT.
use Rattle.std.proofs.Common.{◌≡◌, ℕ, List, [], ◌∷◌, codes, Ok, refl}
use Rattle.sqlite.specs.declared.types.Value.TheVariants.{Null}
use Rattle.sqlite.specs.Term.{Term, lit, col}
use Rattle.sqlite.specs.Schema.{Schema}
use Rattle.sqlite.specs.Source.TheVariants.{Values}
use Rattle.sqlite.specs.Command.TheVariants.{Insert}
use Rattle.sqlite_resolve.specs.Compile.{compiled}
use Rattle.sqlite_tied.specs.Compute.{everything}
use Rattle.brk_tables_sql.specs.Desk.{IsTableAt}
use Rattle.brk_tables_sql.proofs.Meant.{meant, inserts}
use Rattle.brk_tables_sql.proofs.Texts.{read}
use Rattle.brk_tables_schema.specs.Shapes.{holding_history_table}

abbrev pub statement : List ℕ
statement = codes "INSERT INTO HOLDING_HISTORY (HH_H_T_ID, HH_T_ID, HH_BEFORE_QTY, HH_AFTER_QTY) VALUES (?1, ?2, ?3, ?4)"

abbrev pub terms : List Term
terms = lit Null ∷ col 0 0 ∷ col 0 1 ∷ col 0 2 ∷ col 0 3 ∷ []

pub understood_as : (schema : Schema) (at tree : ℕ) → IsTableAt schema (holding_history_table tree) at → compiled schema statement ≡ Ok (meant (read statement) [] (Insert at (Values terms 5)))
unfolding everything
understood_as schema at tree h = inserts schema statement (read statement) refl refl (codes "HOLDING_HISTORY") at (holding_history_table tree) h.named h.found _ _ _ refl refl
