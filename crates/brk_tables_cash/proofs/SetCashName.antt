-- Written by tools/generate/tables.py: the meaning of an UPDATE.
use Rattle.std.proofs.Common.{◌≡◌, ◌⊎◌, ℕ, List, [], ◌∷◌, codes, true, false, None, Some, Ok, Err, refl, slice_get}
use Rattle.sqlite_value.specs.declared.keys.Collation.TheVariants.{Binary}
use Rattle.sqlite.specs.declared.types.Value.TheVariants.{Null}
use Rattle.sqlite_sql.specs.declared.ops.BinaryOp.TheVariants.{Compare}
use Rattle.sqlite_sql.specs.declared.ops.CompareOp.TheVariants.{Eq}
use Rattle.sqlite.specs.Term.{Term, lit, col, op2}
use Rattle.sqlite.specs.Schema.{Schema}
use Rattle.sqlite.specs.Command.TheVariants.{Update}
use Rattle.sqlite_ast.specs.declared.Expr.{Expr}
use Rattle.sqlite_ast.specs.declared.Expr.TheVariants as e
use Rattle.sqlite_ast.specs.declared.Binary.TheVariants as operator
use Rattle.sqlite_resolve.specs.Scope.{Name}
use Rattle.sqlite_resolve.specs.Write.{updated, simple}
use Rattle.sqlite_resolve.specs.Compile.{compiled}
use Rattle.sqlite_resolve.specs.declared.error.CompileError.TheVariants.{Mismatch}
use Rattle.sqlite_draft.specs.declared.join.Step.TheVariants.{Inner}
use Rattle.sqlite_draft.specs.declared.query.Draft.{Draft}
use Rattle.sqlite_tied.specs.Compute.{everything}
use Rattle.brk_tables_sql.proofs.Partly.{sql_lowering_definitions}
use Rattle.brk_tables_sql.specs.Desk.{nullable_integer_column, IsTableAt}
use Rattle.brk_tables_sql.proofs.Meant.{meant, updates_or}
use Rattle.brk_tables_sql.proofs.Pick.{selection, whole_page}
use Rattle.brk_tables_sql.proofs.Scoped.{column_is}
use Rattle.brk_tables_sql.proofs.Texts.{read}
use Rattle.brk_tables_schema.specs.Shapes.{cash_move_table}

abbrev pub statement : List ℕ
statement = codes "UPDATE CASH_MOVE SET CM_NAME = ?1 WHERE CM_T_ID = ?2"

abbrev pub sets : List (Name × Expr)
sets = (codes "CM_NAME", e.Parameter 1) ∷ []

abbrev pub test : Expr
test = e.Binary operator.Eq (e.Column None (codes "CM_T_ID")) (e.Parameter 2)

abbrev pub terms : List Term
terms = op2 (Compare Eq Binary) (col 1 3) (col 0 1) ∷ []

abbrev pub project : List Term
project = col 1 0 ∷ col 1 0 ∷ lit Null ∷ col 1 2 ∷ col 1 3 ∷ col 1 4 ∷ col 1 5 ∷ col 0 0 ∷ []

abbrev pub draft : ℕ → Draft
draft tree = simple (Inner tree ∷ []) terms project

draft_is : (schema : Schema) (at tree : ℕ) → slice_get schema.tables at ≡ Some (cash_move_table tree) → updated schema at (cash_move_table tree) sets (Some test) ≡ Ok (draft tree)
unfolding sql_lowering_definitions
draft_is schema at tree found =
    rw (
      column_is schema at (cash_move_table tree) found (codes "CASH_MOVE") [] [] false true (codes "CM_T_ID") 2 (nullable_integer_column (codes "CM_T_ID"))
          refl refl,
      found,
    )

pub understood_as : (schema : Schema) (at tree : ℕ) → IsTableAt schema (cash_move_table tree) at
    → (compiled schema statement ≡ Ok (meant (read statement) [] (Update at (record { lets = []; body = selection tree terms project [] whole_page }))))
    ⊎ (compiled schema statement ≡ Err Mismatch)
unfolding everything
understood_as schema at tree h =
    updates_or schema statement (read statement) refl refl (codes "CASH_MOVE") at (cash_move_table tree) h.named h.found sets (Some test) (draft tree) refl
    (draft_is schema at tree h.found)
