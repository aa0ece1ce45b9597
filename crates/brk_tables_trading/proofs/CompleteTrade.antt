-- Written by tools/generate/tables.py: the meaning of an UPDATE.
use Rattle.std.proofs.Common.{◌≡◌, ◌⊎◌, ℕ, List, [], ◌∷◌, codes, true, false, None, Some, Ok, Err, refl, slice_get}
use Rattle.sqlite_value.specs.declared.keys.Collation.TheVariants.{Binary}
use Rattle.sqlite.specs.declared.types.Value.TheVariants.{Null}
use Rattle.sqlite_sql.specs.declared.ops.BinaryOp.TheVariants.{Compare}
use Rattle.sqlite_sql.specs.declared.ops.CompareOp.TheVariants.{Eq}
use Rattle.sqlite.specs.Term.{Term, lit, col, op2}
use Rattle.sqlite.specs.Schema.{Schema}
use Rattle.sqlite.specs.Command.TheVariants.{Update}
use Rattle.sqlite_ast.specs.declared.Expr.{Expr}
use Rattle.sqlite_ast.specs.declared.Expr.TheVariants as e
use Rattle.sqlite_ast.specs.declared.Binary.TheVariants as operator
use Rattle.sqlite_resolve.specs.Scope.{Name}
use Rattle.sqlite_resolve.specs.Write.{updated, simple}
use Rattle.sqlite_resolve.specs.Compile.{compiled}
use Rattle.sqlite_resolve.specs.declared.error.CompileError.TheVariants.{Mismatch}
use Rattle.sqlite_draft.specs.declared.join.Step.TheVariants.{Inner}
use Rattle.sqlite_draft.specs.declared.query.Draft.{Draft}
use Rattle.sqlite_tied.specs.Compute.{everything}
use Rattle.brk_tables_sql.proofs.Partly.{sql_lowering_definitions}
use Rattle.brk_tables_sql.specs.Desk.{integer_column, IsTableAt}
use Rattle.brk_tables_sql.proofs.Meant.{meant, updates_or}
use Rattle.brk_tables_sql.proofs.Pick.{selection, whole_page}
use Rattle.brk_tables_sql.proofs.Scoped.{column_is}
use Rattle.brk_tables_sql.proofs.Texts.{read}
use Rattle.brk_tables_schema.specs.Shapes.{trade_table}

abbrev pub statement : List ℕ
statement = codes "UPDATE TRADE SET T_ST_ID = ?1, T_DTS = ?2, T_TRADE_PRICE = ?3, T_COMM = ?4, T_TAX = ?5 WHERE T_ID = ?6"

abbrev pub sets : List (Name × Expr)
sets = (codes "T_ST_ID", e.Parameter 1) ∷ (codes "T_DTS", e.Parameter 2) ∷ (codes "T_TRADE_PRICE", e.Parameter 3) ∷ (codes "T_COMM", e.Parameter 4) ∷ (codes "T_TAX", e.Parameter 5) ∷ []

abbrev pub test : Expr
test = e.Binary operator.Eq (e.Column None (codes "T_ID")) (e.Parameter 6)

abbrev pub terms : List Term
terms = op2 (Compare Eq Binary) (col 1 0) (col 0 5) ∷ []

abbrev pub project : List Term
project = col 1 0 ∷ col 1 0 ∷ lit Null ∷ col 0 1 ∷ col 0 0 ∷ col 1 4 ∷ col 1 5 ∷ col 1 6 ∷ col 1 7 ∷ col 1 8 ∷ col 1 9 ∷ col 1 10 ∷ col 0 2 ∷ col 1 12 ∷ col 0 3 ∷ col 0 4 ∷ col 1 15 ∷ []

abbrev pub draft : ℕ → Draft
draft tree = simple (Inner tree ∷ []) terms project

draft_is : (schema : Schema) (at tree : ℕ) → slice_get schema.tables at ≡ Some (trade_table tree) → updated schema at (trade_table tree) sets (Some test) ≡ Ok (draft tree)
unfolding sql_lowering_definitions
draft_is schema at tree found = rw (column_is schema at (trade_table tree) found (codes "TRADE") [] [] false true (codes "T_ID") 0 (integer_column (codes "T_ID")) refl refl)

pub understood_as : (schema : Schema) (at tree : ℕ) → IsTableAt schema (trade_table tree) at
    → (compiled schema statement ≡ Ok (meant (read statement) [] (Update at (record { lets = []; body = selection tree terms project [] whole_page }))))
    ⊎ (compiled schema statement ≡ Err Mismatch)
unfolding everything
understood_as schema at tree h =
    updates_or schema statement (read statement) refl refl (codes "TRADE") at (trade_table tree) h.named h.found sets (Some test) (draft tree) refl
    (draft_is schema at tree h.found)
