-- The result of the statement of a walk over cash rows.
use Rattle.std.proofs.Common.{◌≡◌, ℕ, List, [], ◌∷◌, ◌++◌, IsTrue, map, filter, refl, sym, ap, ◌∙◌}
use Rattle.sqlite_value.specs.Order.{Row, value_cmp}
use Rattle.sqlite.specs.State.{State, Shown, Begins}
use Rattle.brk_tables_sql.specs.Desk.{TablesSatisfy}
use Rattle.brk_tables_sql.proofs.Told.{told_sorted}
use Rattle.brk_tables_views.proofs.Starts.{tells_start}
use Rattle.brk_tables_schema.specs.Cells.{natural_as_value, move_cells}
use Rattle.brk_tables_schema.specs.Desk.{CashMoves, desk_tables}
use Rattle.brk_tables_schema.specs.Order.{ordering_by_key}
use Rattle.brk_tables_schema.proofs.Order.{key_total}
use Rattle.brk_tables_views.specs.Lists.{cash_sort_key, account_cash_rows_between, is_account_cash_row_between}
use Rattle.brk_tables_schema.proofs.Tests.{same_number}
use Rattle.brk_tables_schema.proofs.Compared.{at_least, at_most}
use Rattle.brk_tables_views.proofs.CashBetween
use Rattle.brk_tables_views.proofs.Telling.{second, sorted}

pub tells_cash_between : (old new : State) (account from to : ℕ) (rows : List Row)
    → Shown CashBetween.statement (natural_as_value account ∷ natural_as_value from ∷ natural_as_value to ∷ []) old new rows
    → TablesSatisfy desk_tables (λ t. rows ≡ map move_cells (account_cash_rows_between account from to t)) old.now
tells_cash_between old new account from to rows shown = λ t tree h.
    told_sorted desk_tables CashMoves CashBetween.statement CashBetween.ask CashBetween.paging CashBetween.is_asked (natural_as_value account ∷ natural_as_value from ∷ natural_as_value to ∷ [])
    (is_account_cash_row_between account from to) (λ tree x. rw (same_number x.account account, at_least x.stamp from, at_most x.stamp to) refl)
    move_cells (λ x. refl) (ordering_by_key cash_sort_key) (key_total cash_sort_key) (λ tree x y. refl) old new rows shown (λ x y e. second (value_cmp (natural_as_value x.stamp) (natural_as_value y.stamp)) _ e) t tree h
    ∙ ap (map move_cells) (sym (sorted cash_sort_key (filter (is_account_cash_row_between account from to) t.moves)))

pub cash_start : (s : State) (account from to : ℕ) (rows : List Row) → IsTrue s.is_open
    → Begins CashBetween.statement (natural_as_value account ∷ natural_as_value from ∷ natural_as_value to ∷ []) s rows
    → TablesSatisfy desk_tables (λ t. (tail : List Row) × (rows ++ tail ≡ map move_cells (account_cash_rows_between account from to t))) s.now
cash_start s account from to rows up begins =
    tells_start desk_tables CashMoves CashBetween.statement CashBetween.ask CashBetween.paging CashBetween.is_asked (natural_as_value account ∷ natural_as_value from ∷ natural_as_value to ∷ []) s rows begins up
    (λ t all. all ≡ map move_cells (account_cash_rows_between account from to t)) (λ all. tells_cash_between s s account from to all)
