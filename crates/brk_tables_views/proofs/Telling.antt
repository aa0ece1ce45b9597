-- The result of the statement of a walk over lots.
use Rattle.std.proofs.Common.{◌≡◌, ℕ, List, [], ◌∷◌, ◌++◌, true, IsTrue, map, filter, ◌==◌, Ordering, Less, Equal, Greater, is_eq, refl, sym, ap, ◌∙◌}
use Rattle.std.specs.Ordering.{ordering_then}
use Rattle.sqlite_value.specs.declared.value.Value.TheVariants.{Text as Words}
use Rattle.sqlite_value.specs.Order.{Row, value_cmp}
use Rattle.sqlite_keyed.specs.Lists.{sort_by}
use Rattle.sqlite.specs.State.{State, Shown, Begins}
use Rattle.brk_model.specs.Tables.{HoldingRow}
use Rattle.brk_model.specs.Keys.{KeyPart, rows_sorted_by_key, insert_row_by_key}
use Rattle.brk_tables_sql.specs.Desk.{TablesSatisfy}
use Rattle.brk_tables_sql.proofs.Told.{told_sorted}
use Rattle.brk_tables_views.proofs.Starts.{tells_start}
use Rattle.brk_tables_schema.specs.Cells.{natural_as_value, holding_cells}
use Rattle.brk_tables_schema.specs.Desk.{Holdings, desk_tables}
use Rattle.brk_tables_schema.specs.Order.{ordering_by_key}
use Rattle.brk_tables_schema.proofs.Order.{key_total, inserted}
use Rattle.brk_tables_schema.proofs.Tests.{same_number}
use Rattle.brk_tables_views.specs.Lists.{lot_sort_key, account_lots_by_symbol}
use Rattle.brk_tables_views.proofs.LotsBySymbol

-- the order of the model and that of the database are one
pub sorted : {X : Type 0} (key : X → List KeyPart) (xs : List X) → rows_sorted_by_key key xs ≡ sort_by (ordering_by_key key) xs
unfolding Rattle.brk_model.specs.Lists.sort_by
sorted key [] = refl
sorted key (x ∷ xs) = ap (insert_row_by_key key x) (sorted key xs) ∙ inserted key x (sort_by (ordering_by_key key) xs)

pub second : (a b : Ordering) → is_eq (ordering_then a b) ≡ true → is_eq b ≡ true
second Less b h = absurd (let f = h in cc)
second Equal b h = h
second Greater b h = absurd (let f = h in cc)

pub tells_lots_by_symbol : (old new : State) (account : ℕ) (rows : List Row) → Shown LotsBySymbol.statement (natural_as_value account ∷ []) old new rows
    → TablesSatisfy desk_tables (λ t. rows ≡ map holding_cells (account_lots_by_symbol account t)) old.now
tells_lots_by_symbol old new account rows shown = λ t tree h.
    told_sorted desk_tables Holdings LotsBySymbol.statement LotsBySymbol.ask LotsBySymbol.paging LotsBySymbol.is_asked (natural_as_value account ∷ [])
    (λ (r : HoldingRow). r.account == account) (λ tree x. same_number x.account account)
    holding_cells (λ x. refl) (ordering_by_key lot_sort_key) (key_total lot_sort_key) (λ tree x y. refl) old new rows shown (λ x y e. second (value_cmp (natural_as_value x.stamp) (natural_as_value y.stamp)) _ (second (value_cmp (Words x.symbol) (Words y.symbol)) _ e)) t tree h
    ∙ ap (map holding_cells) (sym (sorted lot_sort_key (filter (λ (r : HoldingRow). r.account == account) t.holdings)))

pub lots_start : (s : State) (account : ℕ) (rows : List Row) → IsTrue s.is_open → Begins LotsBySymbol.statement (natural_as_value account ∷ []) s rows
    → TablesSatisfy desk_tables (λ t. (tail : List Row) × (rows ++ tail ≡ map holding_cells (account_lots_by_symbol account t))) s.now
lots_start s account rows up begins =
    tells_start desk_tables Holdings LotsBySymbol.statement LotsBySymbol.ask LotsBySymbol.paging LotsBySymbol.is_asked (natural_as_value account ∷ []) s rows begins up
    (λ t all. all ≡ map holding_cells (account_lots_by_symbol account t)) (λ all. tells_lots_by_symbol s s account all)
