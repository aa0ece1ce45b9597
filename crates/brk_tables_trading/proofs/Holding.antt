-- The results of the reads of lots and summaries.
use Rattle.std.proofs.Common.{◌≡◌, ℕ, List, [], ◌∷◌, Bool, true, false, Some, ◌&&◌, map, filter, reverse, ◌==◌, Ordering, Less, Equal, Greater, is_eq, refl, sym, ap, ◌∙◌}
use Rattle.std.proofs.lemmas.Cmp.{back_total}
use Rattle.std.proofs.lemmas.List.{drop-map}
use Rattle.std.specs.List.{AllByRecursion}
use Rattle.std.specs.Prelude.{bytes_eq, drop, take}
use Rattle.std.specs.Ordering.{ordering_reverse, ordering_then}
use Rattle.sqlite_value.specs.declared.value.Value.TheVariants.{Text as Words}
use Rattle.sqlite_value.specs.Order.{Row, value_cmp}
use Rattle.sqlite_keyed.specs.Lists.{sort_by}
use Rattle.sqlite.specs.State.{State, Shown}
use Rattle.brk_model.specs.Tables.{HoldingRow, SummaryRow}
use Rattle.sqlite_trees.specs.Tree.{IsAscending}
use Rattle.sqlite_keyed.proofs.ListLemmas.{ascending-filter}
use Rattle.brk_model.specs.Keys.{KeyPart, rows_sorted_by_key, insert_row_by_key, holding_key, summary_key}
use Rattle.brk_tables_sql.specs.Rows.{IsStrictlyAscending}
use Rattle.brk_tables_sql.proofs.Answer.{limited_map}
use Rattle.brk_tables_sql.specs.Desk.{TablesSatisfy}
use Rattle.brk_tables_sql.proofs.Told.{told_rising, told_sorted}
use Rattle.brk_tables_schema.specs.Cells.{natural_as_value, holding_cells, summary_cells}
use Rattle.brk_tables_schema.specs.Desk.{Holdings, Summaries, desk_tables, ordering_by_primary_key}
use Rattle.brk_tables_schema.specs.Order.{ordering_by_key}
use Rattle.brk_tables_schema.proofs.Order.{key_total, inserted}
use Rattle.brk_tables_schema.proofs.Tests.{same_number, same_text}
use Rattle.brk_ref.specs.Rows.{lot_age_key, lots_oldest_first}
use Rattle.brk_tables_trading.specs.Pages.{page_after_skipped, page_size}
use Rattle.brk_tables_trading.proofs.NewestLots
use Rattle.brk_tables_trading.proofs.OldestLots
use Rattle.brk_tables_trading.proofs.Turned.{flipped, turned_sort}
use Rattle.brk_tables_trading.proofs.SummariesOf
use Rattle.brk_tables_trading.proofs.SummaryOf

-- ---- the oldest lots first

-- the order of the model and that of the database are one
sorted : {X : Type 0} (key : X → List KeyPart) (xs : List X) → rows_sorted_by_key key xs ≡ sort_by (ordering_by_key key) xs
unfolding Rattle.brk_model.specs.Lists.sort_by
sorted key [] = refl
sorted key (x ∷ xs) = ap (insert_row_by_key key x) (sorted key xs) ∙ inserted key x (sort_by (ordering_by_key key) xs)

reversed_eq : (o : Ordering) → is_eq (ordering_reverse o) ≡ is_eq o
reversed_eq Less = refl
reversed_eq Equal = refl
reversed_eq Greater = refl

second : (a b : Ordering) → is_eq (ordering_then a b) ≡ true → is_eq b ≡ true
second Less b h = absurd (let f = h in cc)
second Equal b h = h
second Greater b h = absurd (let f = h in cc)

-- ---- pages of them

page_map : {X Y : Type 0} (f : X → Y) (n : ℕ) (xs : List X) → page_after_skipped n (map f xs) ≡ map f (page_after_skipped n xs)
page_map f n xs = ap (take page_size) (drop-map f n xs) ∙ limited_map f (Some page_size) (drop n xs)

abbrev is_held : ℕ → List ℕ → HoldingRow → Bool
is_held account symbol r = (r.account == account) && bytes_eq r.symbol symbol

pub tells_oldest : (old new : State) (account skipped : ℕ) (symbol : List ℕ) (rows : List Row)
    → Shown OldestLots.statement (natural_as_value account ∷ Words symbol ∷ natural_as_value skipped ∷ []) old new rows
    → TablesSatisfy desk_tables (λ t. rows ≡ map holding_cells (page_after_skipped skipped (lots_oldest_first (filter (is_held account symbol) t.holdings)))) old.now
tells_oldest old new account skipped symbol rows shown = λ t tree h.
    told_sorted desk_tables Holdings OldestLots.statement OldestLots.ask OldestLots.paging OldestLots.is_asked (natural_as_value account ∷ Words symbol ∷ natural_as_value skipped ∷ [])
    (is_held account symbol) (λ tree x. rw (same_number x.account account, same_text x.symbol symbol) refl)
    holding_cells (λ x. refl) (ordering_by_key lot_age_key) (key_total lot_age_key) (λ tree x y. refl) old new rows shown (λ x y e. second (value_cmp (natural_as_value x.stamp) (natural_as_value y.stamp)) _ e) t tree h
    ∙ page_map holding_cells skipped (sort_by (ordering_by_key lot_age_key) (filter (is_held account symbol) t.holdings))
    ∙ ap (λ (xs : List HoldingRow). map holding_cells (page_after_skipped skipped xs)) (sym (sorted lot_age_key (filter (is_held account symbol) t.holdings)))

-- rows that rise by their trades tie by no age
untied : (xs : List HoldingRow) → IsStrictlyAscending (ordering_by_primary_key Holdings) xs → IsAscending (λ x y. is_eq (ordering_by_key lot_age_key x y) ≡ false) xs
untied [] up = tt
untied (x ∷ xs) up = (each xs up.0, untied xs up.1)
  where
    off : (b : Bool) (o : Ordering) → o ≡ Less → (b ≡ true → is_eq o ≡ true) → b ≡ false
    off true o e k = absurd (let f = ap is_eq (sym e) ∙ k refl in cc)
    off false o e k = refl

    each : (ys : List HoldingRow) → AllByRecursion (λ y. ordering_by_primary_key Holdings x y ≡ Less) ys → AllByRecursion (λ y. is_eq (ordering_by_key lot_age_key x y) ≡ false) ys
    each [] all = tt
    each (y ∷ ys) all = (off _ (ordering_by_primary_key Holdings x y) all.0 (λ e. second (value_cmp (natural_as_value x.stamp) (natural_as_value y.stamp)) _ e), each ys all.1)

pub tells_newest : (old new : State) (account skipped : ℕ) (symbol : List ℕ) (rows : List Row)
    → Shown NewestLots.statement (natural_as_value account ∷ Words symbol ∷ natural_as_value skipped ∷ []) old new rows
    → TablesSatisfy desk_tables (λ t. rows ≡ map holding_cells (page_after_skipped skipped (reverse (lots_oldest_first (filter (is_held account symbol) t.holdings))))) old.now
tells_newest old new account skipped symbol rows shown = λ t tree h.
    let held = filter (is_held account symbol) t.holdings in
    told_sorted desk_tables Holdings NewestLots.statement NewestLots.ask NewestLots.paging NewestLots.is_asked (natural_as_value account ∷ Words symbol ∷ natural_as_value skipped ∷ [])
    (is_held account symbol) (λ tree x. rw (same_number x.account account, same_text x.symbol symbol) refl)
    holding_cells (λ x. refl) (flipped (ordering_by_key lot_age_key)) (back_total (key_total lot_age_key)) (λ tree x y. refl) old new rows shown (λ x y e. ap is_eq ((key_total holding_key).antisymm x y) ∙ reversed_eq (ordering_by_primary_key Holdings y x)
    ∙ second (value_cmp (natural_as_value y.stamp) (natural_as_value x.stamp)) _ e) t tree h
    ∙ page_map holding_cells skipped (sort_by (flipped (ordering_by_key lot_age_key)) held)
    ∙ ap (λ (xs : List HoldingRow). map holding_cells (page_after_skipped skipped xs))
    (turned_sort (ordering_by_key lot_age_key) (key_total lot_age_key) held
    (untied held (ascending-filter _ (is_held account symbol) t.holdings (h.rows Holdings).rising)) ∙ ap reverse (sym (sorted lot_age_key held)))

-- ---- summaries

pub tells_summaries : (old new : State) (account : ℕ) (rows : List Row) → Shown SummariesOf.statement (natural_as_value account ∷ []) old new rows
    → TablesSatisfy desk_tables (λ t. rows ≡ map summary_cells (filter (λ r. r.account == account) t.summaries)) old.now
tells_summaries old new account rows shown =
    told_rising desk_tables Summaries SummariesOf.statement SummariesOf.ask SummariesOf.paging SummariesOf.is_asked (natural_as_value account ∷ [])
    (λ (r : SummaryRow). r.account == account) (λ tree x. same_number x.account account)
    summary_cells (λ x. refl) (ordering_by_primary_key Summaries) (key_total summary_key) (λ tree x y. refl) old new rows shown (λ x y. refl)

pub tells_summary : (old new : State) (account : ℕ) (symbol : List ℕ) (rows : List Row) → Shown SummaryOf.statement (natural_as_value account ∷ Words symbol ∷ []) old new rows
    → TablesSatisfy desk_tables (λ t. rows ≡ map summary_cells (filter (λ r. (r.account == account) && bytes_eq r.symbol symbol) t.summaries)) old.now
tells_summary old new account symbol rows shown =
    told_rising desk_tables Summaries SummaryOf.statement SummaryOf.ask SummaryOf.paging SummaryOf.is_asked (natural_as_value account ∷ Words symbol ∷ [])
    (λ (r : SummaryRow). (r.account == account) && bytes_eq r.symbol symbol) (λ tree x. rw (same_number x.account account, same_text x.symbol symbol) refl)
    summary_cells (λ x. refl) (ordering_by_primary_key Summaries) (key_total summary_key) (λ tree x y. refl) old new rows shown (λ x y. refl)
