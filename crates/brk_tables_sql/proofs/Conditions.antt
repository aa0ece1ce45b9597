-- The columns and tests that a SELECT names, by the numbers of columns from 0, and how both are
-- written. A column counts as found where the table has it, its name leads to it, and it is strict.
use Rattle.std.proofs.Common.{◌≡◌, ℕ, ◌-◌, [], Bool, true, false, Option, None, Some, refl, ap, slice_get}
use Rattle.std.specs.Prelude.{◌&&◌, ◌==◌, unwrap_or, is_some}
use Rattle.std.proofs.lemmas.Bool.{eqb-true, and_parts}
use Rattle.sqlite_schema.specs.declared.schema.Table.{Table}
use Rattle.sqlite_schema.specs.declared.schema.Column.{Column}
use Rattle.sqlite_schema.specs.Names.{column_named}
use Rattle.sqlite_sql.specs.declared.ops.CompareOp.{CompareOp}
use Rattle.sqlite_sql.specs.declared.ops.CompareOp.TheVariants.{Eq, Ne, Lt, Le, Gt, Ge}
use Rattle.sqlite_ast.specs.declared.Expr.{Expr}
use Rattle.sqlite_ast.specs.declared.Expr.TheVariants as e
use Rattle.sqlite_ast.specs.declared.Binary.{Binary as Operator}
use Rattle.sqlite_ast.specs.declared.Binary.TheVariants as operator
use Rattle.sqlite_resolve.specs.Scope.{Name}
use Rattle.brk_tables_sql.specs.Desk.{integer_column}

-- a column compared with a parameter, or whether it has no value
pub data Test : Type 0 where
  compares : CompareOp → ℕ → ℕ → Test
  lacks : ℕ → Test

-- tests joined by AND
pub data Tests : Type 0 where
  single : Test → Tests
  also : Tests → Test → Tests

-- the column of a table at a number
abbrev pub column_of : Table → ℕ → Column
column_of table k = unwrap_or (slice_get table.columns k) (integer_column [])

abbrev pub name_of : Table → ℕ → Name
name_of table k = (column_of table k).name

abbrev pub is_at : Option ℕ → ℕ → Bool
is_at None k = false
is_at (Some j) k = j == k

-- the table has the column, finds it by its name, and is strict
abbrev pub is_found : Table → ℕ → Bool
is_found table k = is_some (slice_get table.columns k) && (is_at (column_named table (name_of table k)) k && (column_of table k).is_strict)

at_is : (o : Option ℕ) (k : ℕ) → is_at o k ≡ true → o ≡ Some k
at_is None k h = absurd (let e = h in cc)
at_is (Some j) k h = ap Some (eqb-true j k h)

got_is : (o : Option Column) → is_some o ≡ true → (c : Column) → o ≡ Some (unwrap_or o c)
got_is None h c = absurd (let e = h in cc)
got_is (Some d) h c = refl

pub there : (table : Table) (k : ℕ) → is_found table k ≡ true → slice_get table.columns k ≡ Some (column_of table k)
there table k f = got_is (slice_get table.columns k) (and_parts _ _ f).0 (integer_column [])

pub named : (table : Table) (k : ℕ) → is_found table k ≡ true → column_named table (name_of table k) ≡ Some k
named table k f = at_is _ k (and_parts _ _ (and_parts _ _ f).1).0

pub strict : (table : Table) (k : ℕ) → is_found table k ≡ true → (column_of table k).is_strict ≡ true
strict table k f = (and_parts _ _ (and_parts _ _ f).1).1

abbrev pub written : Table → ℕ → Expr
written table k = e.Column None (name_of table k)

abbrev pub operator_of : CompareOp → Operator
operator_of Eq = operator.Eq
operator_of Ne = operator.Ne
operator_of Lt = operator.Lt
operator_of Le = operator.Le
operator_of Gt = operator.Gt
operator_of Ge = operator.Ge

abbrev pub written_test : Table → Test → Expr
written_test table (compares op k n) = e.Binary (operator_of op) (written table k) (e.Parameter n)
written_test table (lacks k) = e.Binary operator.Is (written table k) e.Null

abbrev pub written_tests : Table → Tests → Expr
written_tests table (single t) = written_test table t
written_tests table (also ts t) = e.Binary operator.And (written_tests table ts) (written_test table t)

abbrev pub column_tested : Test → ℕ
column_tested (compares op k n) = k
column_tested (lacks k) = k

abbrev pub are_found : Table → Tests → Bool
are_found table (single t) = is_found table (column_tested t)
are_found table (also ts t) = are_found table ts && is_found table (column_tested t)
