use Rattle.std.proofs.Common.{◌≡◌, ℕ, List, map, length}
use Rattle.std.specs.Borrow.{Bor}
use Rattle.std.specs.Iterator.Adapters.{zip_first, zip_second}
use Rattle.std.specs.Slice.Iter.{iter_rest}
use Rattle.brk_tables_sql.proofs.columns.columns_have_names.Given as goal

abbrev names_in : List (Bor (List ℕ)) → List (List ℕ)
names_in = map (λ name. name.now)

abbrev pub invariant-loop-column : goal.invariant-loop-column
invariant-loop-column l =
    let columns = iter_rest (zip_first l.column-iterator) in
    let names = iter_rest (zip_second l.column-iterator) in
    (length columns ≡ length names) × (columns ≡ names_in names → l.columns ≡ names_in l.names) × (l.columns ≡ names_in l.names → columns ≡ names_in names)
