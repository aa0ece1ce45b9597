-- A table of any database holds some records, if the program read its rows and tested them.
use Rattle.std.proofs.Common.{◌≡◌, ◌⊎◌, inl, inr, ℕ, List, [], ◌∷◌, map, true, false, not, Ordering, Less, is_eq, refl, sym, ap, ap₂, subst, ◌∙◌}
use Rattle.std.specs.Cmp.{IsTotalOrder}
use Rattle.std.specs.List.{AllByRecursion, IsDistinct}
use Rattle.std.specs.List.Sorted.{IsPermutation}
use Rattle.std.proofs.lemmas.List.Sorted.{IsPermutation-sym, IsPermutation-map}
use Rattle.sqlite_value.specs.declared.keys.Key.{Key}
use Rattle.sqlite_value.specs.Order.{Row, value_cmp}
use Rattle.sqlite_trees.specs.Tree.{rowid, IsTable, IsAscending}
use Rattle.sqlite_sql.specs.Term.{Term, eval_all}
use Rattle.sqlite_sql.specs.Query.{Query, page}
use Rattle.sqlite_rules.proofs.ListLemmas.{all_has}
use Rattle.sqlite.specs.Table.{Table}
use Rattle.brk_tables_sql.specs.Rows.{cells_in_column_order, has_same_rowid, IsStrictlyAscending, TreeHoldsRecords}
use Rattle.brk_tables_sql.proofs.Decode.{filter_true}
use Rattle.brk_tables_sql.proofs.Order.{map_on}
use Rattle.brk_tables_sql.proofs.Pick.{Picks, Keyed, Apart, apart_permuted, int_is, sorted_by}
use Rattle.sqlite_rules.specs.Edit.{id_in}
use Rattle.sqlite_rules.specs.Lists.{Has}
use Rattle.sqlite_schema.specs.Rules.{differ}
use Rattle.sqlite.specs.Effect.{Database, IsDatabase}
use Rattle.brk_tables_sql.specs.Desk.{ProgramTables, IsTableAt}
use Rattle.brk_tables_sql.proofs.Order.{ordered, has_permuted, rises_from_sorted}
use Rattle.brk_tables_sql.proofs.Unique.{unique_rows}
use Rattle.brk_tables_sql.proofs.Values.{differ_ints}
use Rattle.brk_tables_sql.proofs.Writes.{IsRowidKey, IsUniqueKey}

-- ---- rowids

-- the rows of a table whose rowids rise have different rowids
pub table_apart : (rows : List Row) → IsTable rows → Apart rows
unfolding IsDistinct
table_apart [] up = tt
table_apart (r ∷ rows) up = (each rows up.0, table_apart rows up.1)
  where
    each : (ys : List Row) → AllByRecursion (λ y. value_cmp (rowid r) (rowid y) ≡ Less) ys → AllByRecursion (λ y. has_same_rowid r y ≡ false) ys
    each [] all = tt
    each (y ∷ ys) all = (ap is_eq all.0, each ys all.1)

-- ---- the records

module _ {X : Type 0} (table : Table) (encode : X → Row) (cmp : X → X → Ordering) (rows : List Row) (query : Query) (params : Row) (project : List Term) (order : List (Term × Key)) (read : List Row)
    (p : Picks query params [] project order rows read) (unpaged : (rs : List Row) → page query params rs ≡ rs)
    (shows : (r : Row) → eval_all project (params ∷ r ∷ []) ≡ cells_in_column_order table r) (xs : List X) (decoded : map encode xs ≡ read)
    (rising : IsStrictlyAscending cmp xs) where
  picked_all : IsPermutation rows p.picked
  picked_all = subst (λ l. IsPermutation l p.picked) (filter_true rows) p.same

  picked_are : map encode xs ≡ map (cells_in_column_order table) p.picked
  picked_are = decoded ∙ p.is ∙ unpaged _ ∙ map_on _ _ p.picked (λ r h. shows r)

  -- where the rowids are known
  pub adopted : Keyed rows → Apart rows → TreeHoldsRecords table encode cmp xs rows
  adopted keyed apart = record {
    keyed = keyed;
    apart = apart;
    rising = rising;
    shown = subst (λ l. IsPermutation l (map (cells_in_column_order table) rows)) (sym picked_are) (IsPermutation-map (cells_in_column_order table) p.picked rows (IsPermutation-sym _ _ picked_all));
  }

-- ---- a table of a sound database, read by its key

module _ {W T : Type 0} (desk : ProgramTables W T) (w : W) (total : IsTotalOrder (desk.order w))
    (once : IsRowidKey (desk.shape w) (desk.encode w) (desk.order w) ⊎ IsUniqueKey (desk.shape w) (desk.encode w) (desk.order w))
    (db : Database) (sound : IsDatabase db) (at tree : ℕ) (h : IsTableAt db.schema (desk.shape w tree) at) (keyed : Keyed (db.trees tree)) (apart : Apart (db.trees tree)) where
  abbrev rows : List Row
  rows = db.trees tree

  same_tree : db.trees (desk.shape w tree).tree ≡ rows
  same_tree = ap db.trees (desk.placed w tree)

  one_key : (r s : Row) → Has rows r → Has rows s → has_same_rowid r s ≡ false → (x y : desk.Item w)
      → cells_in_column_order (desk.shape w tree) r ≡ desk.encode w x → cells_in_column_order (desk.shape w tree) s ≡ desk.encode w y
      → is_eq (desk.order w x y) ≡ false
  one_key r s hr hs other_id x y e f = elim once [
    | inl by_rowid ↦ by_rowid tree r s x y e f ∙ other_id
    | inr by_key ↦
        let m = int_is (rowid r) (all_has _ rows r keyed hr) in
        let n = int_is (rowid s) (all_has _ rows s keyed hs) in
        let other : differ (rowid r) (rowid s) ≡ true =
        ap₂ differ m n ∙ differ_ints (id_in (rowid r)) (id_in (rowid s)) ∙ ap not (ap is_eq (ap₂ value_cmp (sym m) (sym n)) ∙ other_id) in
        by_key.tied tree r s x y e f
        ∙ unique_rows db at (desk.shape w tree) by_key.key sound h.found (by_key.first tree) s r (subst (λ l. Has l s) (sym same_tree) hs) (subst (λ l. Has l r) (sym same_tree) hr) other
  ]

  untied : (rs : List Row) (ys : List (desk.Item w)) → ((r : Row) → Has rs r → Has rows r) → Apart rs
      → map (cells_in_column_order (desk.shape w tree)) rs ≡ map (desk.encode w) ys → IsAscending (λ x y. is_eq (desk.order w x y) ≡ false) ys
  unfolding IsDistinct
  untied [] [] mine others e = tt
  untied [] (y ∷ ys) mine others e = absurd (let k = e in cc)
  untied (r ∷ rs) [] mine others e = absurd (let k = e in cc)
  untied (r ∷ rs) (y ∷ ys) mine others e =
      let here : cells_in_column_order (desk.shape w tree) r ≡ desk.encode w y = cc in
      let more : map (cells_in_column_order (desk.shape w tree)) rs ≡ map (desk.encode w) ys = cc in
      (each r y (mine r (inl refl)) here rs ys (λ s k. mine s (inr k)) others.0 more, untied rs ys (λ s k. mine s (inr k)) others.1 more)
    where
      each : (r : Row) (x : desk.Item w) → Has rows r → cells_in_column_order (desk.shape w tree) r ≡ desk.encode w x
          → (rs : List Row) (ys : List (desk.Item w)) → ((s : Row) → Has rs s → Has rows s) → AllByRecursion (λ s. has_same_rowid r s ≡ false) rs
          → map (cells_in_column_order (desk.shape w tree)) rs ≡ map (desk.encode w) ys → AllByRecursion (λ y. is_eq (desk.order w x y) ≡ false) ys
      each r x hr here [] [] mine low e = tt
      each r x hr here [] (y ∷ ys) mine low e = absurd (let k = e in cc)
      each r x hr here (s ∷ rs) [] mine low e = absurd (let k = e in cc)
      each r x hr here (s ∷ rs) (y ∷ ys) mine low e =
          let next : cells_in_column_order (desk.shape w tree) s ≡ desk.encode w y = cc in
          let more : map (cells_in_column_order (desk.shape w tree)) rs ≡ map (desk.encode w) ys = cc in
          (one_key r s hr (mine s (inl refl)) low.0 x y here next, each r x hr here rs ys (λ t k. mine t (inr k)) low.1 more)

  pub adopted_in_order : (query : Query) (params : Row) (project : List Term) (order : List (Term × Key)) (read : List Row)
      (p : Picks query params [] project order rows read) → ((rs : List Row) → page query params rs ≡ rs)
      → ((r : Row) → eval_all project (params ∷ r ∷ []) ≡ cells_in_column_order (desk.shape w tree) r)
      → ((a b : Row) (x y : desk.Item w) → cells_in_column_order (desk.shape w tree) a ≡ desk.encode w x
      → cells_in_column_order (desk.shape w tree) b ≡ desk.encode w y → sorted_by params order a b ≡ desk.order w x y)
      → (xs : List (desk.Item w)) → map (desk.encode w) xs ≡ read → TreeHoldsRecords (desk.shape w tree) (desk.encode w) (desk.order w) xs rows
  adopted_in_order query params project order read p unpaged shows sorts xs decoded =
      let all : IsPermutation rows p.picked = subst (λ l. IsPermutation l p.picked) (filter_true rows) p.same in
      let are : map (cells_in_column_order (desk.shape w tree)) p.picked ≡ map (desk.encode w) xs = sym (decoded ∙ p.is ∙ unpaged _ ∙ map_on _ _ p.picked (λ r k. shows r)) in
      let rising = rises_from_sorted total xs (ordered (cells_in_column_order (desk.shape w tree)) (desk.encode w) (sorted_by params order) (desk.order w) sorts p.picked xs are p.sorted)
      (untied p.picked xs (λ r k. has_permuted rows p.picked r all k) (apart_permuted rows p.picked all apart) are) in
      adopted (desk.shape w tree) (desk.encode w) (desk.order w) rows query params project order read p unpaged shows xs decoded rising keyed apart
