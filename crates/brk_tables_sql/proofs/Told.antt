-- The records in the result of a SELECT of one table, by the numbers of its columns, so that no
-- caller names a place of a stored row.
use Rattle.std.proofs.Common.{◌≡◌, ◌∙◌, ℕ, suc, zero, ◌-◌, ◌<◌, List, [], ◌∷◌, length, map, filter, reverse, Bool, true, false, Option, None, Some, Ordering, is_eq, refl, sym, ap, ap₂, subst, arith, slice_get}
use Rattle.std.specs.Prelude.{◌&&◌, is_some}
use Rattle.std.specs.Cmp.{IsTotalOrder}
use Rattle.std.specs.List.{list_all}
use Rattle.std.proofs.lemmas.Bool.{and_parts}
use Rattle.std.proofs.lemmas.List.Folds.{list_all-append}
use Rattle.std.proofs.lemmas.List.FromFn.{get_or-map-range_with_len}
use Rattle.sqlite_tied.proofs.RuleLemmas.{and_true}
use Rattle.sqlite_value.specs.declared.value.Value.TheVariants.{Null}
use Rattle.sqlite_value.specs.declared.keys.Key.{Key}
use Rattle.sqlite_value.specs.Order.{Row, column}
use Rattle.sqlite_schema.specs.declared.schema.Table.{Table}
use Rattle.sqlite_schema.specs.declared.schema.Column.{Column}
use Rattle.sqlite_schema.specs.declared.command.Command.TheVariants.{Select}
use Rattle.sqlite_schema.specs.Names.{place_of}
use Rattle.sqlite_sql.specs.declared.ops.BinaryOp.TheVariants.{Compare, Is}
use Rattle.sqlite_sql.specs.Ops.{binary, is_true}
use Rattle.sqlite_sql.specs.Term.{Term, eval_all, holds}
use Rattle.sqlite_sql.specs.Query.{Query, page, key_cmp}
use Rattle.sqlite_resolve.specs.Terms.{conjuncts}
use Rattle.sqlite_keyed.specs.Lists.{sort_by}
use Rattle.sqlite.specs.Effect.{Answers}
use Rattle.sqlite.specs.State.{State, Shown}
use Rattle.sqlite.proofs.Callers.{IsPlain, command_of, reads_as}
use Rattle.brk_tables_sql.specs.Rows.{cells_in_column_order}
use Rattle.brk_tables_sql.specs.Desk.{ProgramTables, IsTableAt, TablesSatisfy}
use Rattle.brk_tables_sql.proofs.Conditions.{Test, compares, lacks, Tests, single, also, is_found, are_found, column_tested}
use Rattle.brk_tables_sql.proofs.Lowered.{collation_at, test_term, tests_term, output_at, key_at}
use Rattle.brk_tables_sql.proofs.Asked.{Ask, IsAsked, tests_found, filter_of, columns_of, asks}
use Rattle.brk_tables_sql.proofs.Kept.{reads_rising, reads_falling, reads_sorted}
use Rattle.brk_tables_sql.proofs.Meant.{meant, known, when_understood}
use Rattle.brk_tables_sql.proofs.Pick.{passes, picks, Picks, selection, sorted_by}
use Rattle.brk_tables_sql.proofs.Texts.{read}

-- ---- a record's cells pass the tests, and come before those of another

abbrev pub test_holds : Table → Row → Row → Test → Bool
test_holds table params cells (compares op k n) = is_true (binary (Compare op (collation_at table k)) (column cells k) (column params (n - 1)))
test_holds table params cells (lacks k) = is_true (binary (Is (collation_at table k)) (column cells k) Null)

-- the tests hold, and then this
abbrev pub hold_and : Table → Row → Row → Tests → Bool → Bool
hold_and table params cells (single t) b = test_holds table params cells t && b
hold_and table params cells (also ts t) b = hold_and table params cells ts (test_holds table params cells t && b)

-- a && (b && c)
abbrev pub tests_hold : Table → Row → Row → Tests → Bool
tests_hold table params cells (single t) = test_holds table params cells t
tests_hold table params cells (also ts t) = hold_and table params cells ts (test_holds table params cells t)

abbrev pub all_hold : Table → Row → Row → Option Tests → Bool
all_hold table params cells None = true
all_hold table params cells (Some ts) = tests_hold table params cells ts

abbrev pub cells_cmp : Table → List (ℕ × Bool) → Row → Row → Ordering
cells_cmp table by a b = key_cmp 0 (map (λ k. (key_at table k).1) by) (map (λ k. column a k.0) by) (map (λ k. column b k.0) by)

in_range : (columns : List Column) (k : ℕ) → is_some (slice_get columns k) ≡ true → k < length columns
in_range [] k h = absurd (let e = h in cc)
in_range (c ∷ cs) zero h = omega arith
in_range (c ∷ cs) (suc k) h = let e = in_range cs k h in omega arith

one_term : (table : Table) (t : Test) → conjuncts (test_term table t) ≡ test_term table t ∷ []
one_term table (compares op k n) = refl
one_term table (lacks k) = refl

and_assoc : (a b c : Bool) → ((a && b) && c) ≡ (a && (b && c))
and_assoc true b c = refl
and_assoc false b c = refl

-- ---- of a stored row that has these cells

module _ (table : Table) (params r cells : Row) (e : cells_in_column_order table r ≡ cells) where
  cell_is : (k : ℕ) → is_found table k ≡ true → column r (place_of table k) ≡ column cells k
  cell_is k f =
      sym (get_or-map-range_with_len (λ at. column r (place_of table at)) 0 (length table.columns) k k Null (in_range table.columns k (and_parts _ _ f).0) (omega arith))
      ∙ ap (λ row. column row k) e

  test_is : (t : Test) → is_found table (column_tested t) ≡ true → holds (params ∷ r ∷ []) (test_term table t) ≡ test_holds table params cells t
  test_is (compares op k n) f = ap (λ v. is_true (binary (Compare op (collation_at table k)) v (column params (n - 1)))) (cell_is k f)
  test_is (lacks k) f = ap (λ v. is_true (binary (Is (collation_at table k)) v Null)) (cell_is k f)

  one_is : (t : Test) → is_found table (column_tested t) ≡ true → list_all (holds (params ∷ r ∷ [])) (conjuncts (test_term table t)) ≡ test_holds table params cells t
  one_is t f = ap (list_all (holds (params ∷ r ∷ []))) (one_term table t) ∙ and_true _ ∙ test_is t f

  those_and : (ts : Tests) → are_found table ts ≡ true → (b : Bool) → (list_all (holds (params ∷ r ∷ [])) (conjuncts (tests_term table ts)) && b) ≡ hold_and table params cells ts b
  those_and (single t) f b = ap (λ a. a && b) (one_is t f)
  those_and (also ts t) f b =
      let g = and_parts _ _ f in
      ap (λ a. a && b) (list_all-append (holds (params ∷ r ∷ [])) (conjuncts (tests_term table ts)) (conjuncts (test_term table t)))
      ∙ and_assoc (list_all (holds (params ∷ r ∷ [])) (conjuncts (tests_term table ts))) _ b
      ∙ ap (λ a. list_all (holds (params ∷ r ∷ [])) (conjuncts (tests_term table ts)) && (a && b)) (one_is t g.1)
      ∙ those_and ts g.0 (test_holds table params cells t && b)

  tests_are : (ts : Tests) → are_found table ts ≡ true → list_all (holds (params ∷ r ∷ [])) (conjuncts (tests_term table ts)) ≡ tests_hold table params cells ts
  tests_are (single t) f = one_is t f
  tests_are (also ts t) f =
      let g = and_parts _ _ f in
      list_all-append (holds (params ∷ r ∷ [])) (conjuncts (tests_term table ts)) (conjuncts (test_term table t))
      ∙ ap (λ a. list_all (holds (params ∷ r ∷ [])) (conjuncts (tests_term table ts)) && a) (one_is t g.1) ∙ those_and ts g.0 (test_holds table params cells t)

  all_are : (tests : Option Tests) → tests_found table tests ≡ true → passes params (filter_of table tests) r ≡ all_hold table params cells tests
  all_are None f = refl
  all_are (Some ts) f = tests_are ts f

  shown_are : (ks : List ℕ) → list_all (is_found table) ks ≡ true → eval_all (map (λ o. o.term) (map (output_at table) ks)) (params ∷ r ∷ []) ≡ map (column cells) ks
  shown_are [] f = refl
  shown_are (k ∷ ks) f = let g = and_parts _ _ f in ap₂ (λ v vs. v ∷ vs) (cell_is k g.0) (shown_are ks g.1)

  keys_are : (by : List (ℕ × Bool)) → list_all (λ k. is_found table k.0) by ≡ true → eval_all (map (λ k. k.0) (map (key_at table) by)) (params ∷ r ∷ []) ≡ map (λ k. column cells k.0) by
  keys_are [] f = refl
  keys_are (k ∷ by) f = let g = and_parts _ _ f in ap₂ (λ v vs. v ∷ vs) (cell_is k.0 g.0) (keys_are by g.1)

same_keys : (table : Table) (by : List (ℕ × Bool)) → map (λ k. k.1) (map (key_at table) by) ≡ map (λ k. (key_at table k).1) by
same_keys table [] = refl
same_keys table (k ∷ by) = ap (λ ks. (key_at table k).1 ∷ ks) (same_keys table by)

pub compared_are : (table : Table) (params a b : Row) (x y : Row) (by : List (ℕ × Bool)) → list_all (λ k. is_found table k.0) by ≡ true → cells_in_column_order table a ≡ x
    → cells_in_column_order table b ≡ y → sorted_by params (map (key_at table) by) a b ≡ cells_cmp table by x y
compared_are table params a b x y by found e f =
    ap₂ (λ l m. key_cmp 0 (map (λ k. k.1) (map (key_at table) by)) l m) (keys_are table params a x e by found) (keys_are table params b y f by found)
    ∙ ap (λ ks. key_cmp 0 ks (map (λ k. column x k.0) by) (map (λ k. column y k.0) by)) (same_keys table by)

-- ---- the rows that it picks

module _ {W T : Type 0} (desk : ProgramTables W T) (w : W) (text : List ℕ) (ask : Ask) (paging : Term × Term) (is : IsAsked (desk.shape w) text ask paging) where
  abbrev pub table_at : ℕ → Table
  table_at tree = desk.shape w tree

  abbrev pub terms_at : ℕ → List Term
  terms_at tree = filter_of (table_at tree) ask.tests

  abbrev pub project_at : ℕ → List Term
  project_at tree = map (λ o. o.term) (columns_of (table_at tree) ask)

  abbrev pub order_at : ℕ → List (Term × Key)
  order_at tree = map (key_at (table_at tree)) ask.by

  abbrev pub query_at : ℕ → Query
  query_at tree = selection (table_at tree).tree (terms_at tree) (project_at tree) (order_at tree) paging

  module _ (params : Row) (old new : State) (rows : List Row) (shown : Shown text params old new rows) where
    answers : (at tree : ℕ) → IsTableAt old.now.schema (table_at tree) at → Answers old.now (record { lets = []; body = query_at tree }) params rows
    unfolding Shown
    answers at tree h =
        let c = meant (read text) [] (Select (record { lets = []; body = query_at tree }) (map (λ o. o.name) (columns_of (table_at tree) ask))) in
        let sure = known old.now.schema text c (when_understood old.now.schema text shown.0 c shown.1.is (asks (desk.shape w) text ask paging is old.now.schema at tree h)) in
        reads_as text params old new old.now.schema refl _ (ap command_of sure.0) (subst IsPlain (sym sure.0) (refl, refl)) sure.1 rows shown

    pub picked : (at tree : ℕ) → IsTableAt old.now.schema (table_at tree) at → Picks (query_at tree) params (terms_at tree) (project_at tree) (order_at tree) (old.now.trees tree) rows
    picked at tree h =
        subst (λ n. Picks (query_at tree) params (terms_at tree) (project_at tree) (order_at tree) (old.now.trees n) rows) (desk.placed w tree)
        (picks Null (table_at tree).tree (terms_at tree) (project_at tree) (order_at tree) paging old.now.trees params rows ((answers at tree h).answer Null))

-- ---- the records that it shows

module _ {W T : Type 0} (desk : ProgramTables W T) (w : W) (text : List ℕ) (ask : Ask) (paging : Term × Term) (is : IsAsked (desk.shape w) text ask paging) (params : Row)
    (q : desk.Item w → Bool) (same : (tree : ℕ) (x : desk.Item w) → all_hold (desk.shape w tree) params (desk.encode w x) ask.tests ≡ q x)
    (show : desk.Item w → Row) (shows : (x : desk.Item w) → map (column (desk.encode w x)) ask.shown ≡ show x)
    (C : desk.Item w → desk.Item w → Ordering) (total : IsTotalOrder C)
    (sorts : (tree : ℕ) (x y : desk.Item w) → cells_cmp (desk.shape w tree) ask.by (desk.encode w x) (desk.encode w y) ≡ C x y)
    (old new : State) (rows : List Row) (shown : Shown text params old new rows) where
  abbrev shape_at : ℕ → Table
  shape_at tree = desk.shape w tree

  same_at : (tree : ℕ) (r : Row) (x : desk.Item w) → cells_in_column_order (shape_at tree) r ≡ desk.encode w x → passes params (terms_at desk w text ask paging is tree) r ≡ q x
  same_at tree r x e = all_are (shape_at tree) params r (desk.encode w x) e ask.tests (and_parts _ _ (and_parts _ _ (is.sound tree)).0).1 ∙ same tree x

  shows_at : (tree : ℕ) (r : Row) (x : desk.Item w) → cells_in_column_order (shape_at tree) r ≡ desk.encode w x → eval_all (project_at desk w text ask paging is tree) (params ∷ r ∷ []) ≡ show x
  shows_at tree r x e = shown_are (shape_at tree) params r (desk.encode w x) e ask.shown (and_parts _ _ (and_parts _ _ (is.sound tree)).0).0 ∙ shows x

  sorts_at : (tree : ℕ) (a b : Row) (x y : desk.Item w) → cells_in_column_order (shape_at tree) a ≡ desk.encode w x
      → cells_in_column_order (shape_at tree) b ≡ desk.encode w y → sorted_by params (order_at desk w text ask paging is tree) a b ≡ C x y
  sorts_at tree a b x y e f =
      compared_are (shape_at tree) params a b (desk.encode w x) (desk.encode w y) ask.by (and_parts _ _ (and_parts _ _ (is.sound tree)).1).0 e f ∙ sorts tree x y

  abbrev paged : {X : Type 0} → List X → List X
  paged = page (selection 0 [] [] [] paging) params

  -- ORDER BY the key
  pub told_rising : ((x y : desk.Item w) → C x y ≡ desk.order w x y) → TablesSatisfy desk (λ t. rows ≡ paged (map show (filter q (desk.list w t)))) old.now
  told_rising rises = λ t tree h.
      reads_rising (shape_at (tree w)) (desk.encode w) (desk.order w) (desk.list w t) (old.now.trees (tree w)) (h.rows w) _ params (terms_at desk w text ask paging is (tree w)) (project_at desk w text ask paging is (tree w))
      (order_at desk w text ask paging is (tree w)) rows (picked desk w text ask paging is params old new rows shown (h.place w) (tree w) (h.is_table w)) q (same_at (tree w)) show (shows_at (tree w)) C (sorts_at (tree w)) total rises

  -- ORDER BY the key DESC
  pub told_falling : ((x y : desk.Item w) → C x y ≡ desk.order w y x) → TablesSatisfy desk (λ t. rows ≡ paged (map show (reverse (filter q (desk.list w t))))) old.now
  told_falling falls = λ t tree h.
      reads_falling (shape_at (tree w)) (desk.encode w) (desk.order w) (desk.list w t) (old.now.trees (tree w)) (h.rows w) _ params (terms_at desk w text ask paging is (tree w)) (project_at desk w text ask paging is (tree w))
      (order_at desk w text ask paging is (tree w)) rows (picked desk w text ask paging is params old new rows shown (h.place w) (tree w) (h.is_table w)) q (same_at (tree w)) show (shows_at (tree w)) C (sorts_at (tree w)) total falls

  -- ORDER BY other columns and then the key
  pub told_sorted : ((x y : desk.Item w) → is_eq (C x y) ≡ true → is_eq (desk.order w x y) ≡ true) → TablesSatisfy desk (λ t. rows ≡ paged (map show (sort_by C (filter q (desk.list w t))))) old.now
  told_sorted ties = λ t tree h.
      reads_sorted (shape_at (tree w)) (desk.encode w) (desk.order w) (desk.list w t) (old.now.trees (tree w)) (h.rows w) _ params (terms_at desk w text ask paging is (tree w)) (project_at desk w text ask paging is (tree w))
      (order_at desk w text ask paging is (tree w)) rows (picked desk w text ask paging is params old new rows shown (h.place w) (tree w) (h.is_table w)) q (same_at (tree w)) show (shows_at (tree w)) C (sorts_at (tree w)) total ties
