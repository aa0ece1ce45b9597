-- What a column and a test of a table are lowered to, as terms, outputs and sort keys.
use Rattle.std.proofs.Common.{ℕ, ◌-◌, List, [], ◌∷◌, Bool, true, false, None}
use Rattle.std.specs.Prelude.{if◌then◌else◌}
use Rattle.sqlite_value.specs.declared.value.Value.TheVariants.{Null}
use Rattle.sqlite_value.specs.declared.keys.Collation.{Collation}
use Rattle.sqlite_value.specs.declared.keys.Collation.TheVariants.{Binary}
use Rattle.sqlite_value.specs.declared.keys.Key.{Key}
use Rattle.sqlite_schema.specs.declared.schema.Table.{Table}
use Rattle.sqlite_schema.specs.Names.{place_of, is_key}
use Rattle.sqlite_sql.specs.declared.ops.BinaryOp.TheVariants.{Compare, Is, And}
use Rattle.sqlite_sql.specs.Term.{Term, lit, col, op2}
use Rattle.sqlite_ast.specs.declared.Shown.{Shown}
use Rattle.sqlite_ast.specs.declared.Shown.TheVariants.{One}
use Rattle.sqlite_ast.specs.declared.Sort.{Sort, roll-Sort}
use Rattle.sqlite_resolve.specs.declared.scope.Output.{Output}
use Rattle.sqlite_resolve.specs.declared.state.Carried.{Carried}
use Rattle.sqlite_resolve.specs.Scope.{declared}
use Rattle.brk_tables_sql.proofs.Conditions.{Test, compares, lacks, Tests, single, also, column_of, name_of, written}

abbrev pub term_at : Table → ℕ → Term
term_at table k = col 1 (place_of table k)

abbrev pub collation_at : Table → ℕ → Collation
collation_at table k = if is_key table.key k then Binary else (column_of table k).collation

abbrev pub test_term : Table → Test → Term
test_term table (compares op k n) = op2 (Compare op (collation_at table k)) (term_at table k) (col 0 (n - 1))
test_term table (lacks k) = op2 (Is (collation_at table k)) (term_at table k) (lit Null)

abbrev pub tests_term : Table → Tests → Term
tests_term table (single t) = test_term table t
tests_term table (also ts t) = op2 And (tests_term table ts) (test_term table t)

abbrev pub carried_at : Table → ℕ → Carried
carried_at table k = declared table k (column_of table k)

abbrev pub one : Table → ℕ → Shown
one table k = One (written table k) None (name_of table k)

abbrev pub output_at : Table → ℕ → Output
output_at table k = record { name = name_of table k; is_alias = false; is_column = true; term = term_at table k; carried = carried_at table k }

-- a column of ORDER BY, and whether it falls
abbrev pub sort_at : Table → ℕ × Bool → Sort
sort_at table k = roll-Sort (record { key = written table k.0; descending = k.1; nulls_first = None })

abbrev pub key_at : Table → ℕ × Bool → Term × Key
key_at table k = (term_at table k.0, record { collation = collation_at table k.0; descending = k.1 })

-- what the last of the columns carries
abbrev pub last_of : Table → Carried → List ℕ → Carried
last_of table last [] = last
last_of table last (k ∷ ks) = last_of table (carried_at table k) ks
