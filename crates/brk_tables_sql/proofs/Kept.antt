-- The rows of a table as a list of records: the effect of each statement on it, and the result of a
-- SELECT.
use Rattle.std.proofs.Common.{◌≡◌, List, [], ◌∷◌, ◌++◌, map, filter, reverse, Bool, true, false, not, if◌then◌else◌, Ordering, Less, is_eq, refl, sym, ap, ap₂, subst, ◌∙◌, inl, inr, IsTrue}
use mathlib.Core.List.{reverse-cons}
use Rattle.std.specs.Cmp.{IsTotalOrder}
use Rattle.std.specs.List.{AllByRecursion, IsDistinct}
use Rattle.std.specs.List.Sorted.{IsPermutation, IsSorted}
use Rattle.std.proofs.lemmas.Bool.{cases_Bool}
use Rattle.std.proofs.lemmas.List.Sorted.{IsPermutation-refl, IsPermutation-sym, IsPermutation-trans, IsPermutation-cons, IsPermutation-map, IsPermutation-reverse}
use Rattle.sqlite_value.specs.Order.{Row}
use Rattle.sqlite_value.specs.declared.keys.Key.{Key}
use Rattle.sqlite_trees.specs.Tree.{rowid, IsAscending, put_row}
use Rattle.sqlite_trees.specs.View.{is_int}
use Rattle.sqlite_sql.specs.Term.{Term, eval_all}
use Rattle.sqlite_sql.specs.Query.{Query, page}
use Rattle.sqlite_rules.specs.Edit.{is_taken}
use Rattle.sqlite_rules.specs.Lists.{Has}
use Rattle.sqlite_rules.proofs.ListLemmas.{all_has, all_from}
use Rattle.sqlite_keyed.specs.Lists.{insert_sorted, update_where, delete_where, sort_by}
use Rattle.sqlite_keyed.proofs.ListLemmas.{ascending-filter, IsPermutation-filter, all_weaker}
use Rattle.sqlite_keyed.proofs.SortLemmas.{sorted_unique, sorted_is-sort_by}
use Rattle.sqlite.specs.Table.{Table}
use Rattle.brk_tables_sql.specs.Rows.{cells_in_column_order, IsStrictlyAscending, TreeHoldsRecords}
use Rattle.brk_tables_sql.proofs.Order.{unmapped, filtered, mapped, ordered, encoded, has_permuted, IsPermutation-insert_sorted, rises-insert_sorted, rises-update_where, all_pushed}
use Rattle.brk_tables_sql.proofs.Pick.{Picks, passes, sorted_by, put_is, apart_put, apart_filter, apart_map, apart_permuted, keyed_map, keyed_filter, keyed_permuted}

module _ {X : Type 0} (table : Table) (encode : X → Row) (cmp : X → X → Ordering) where
  -- the records in the order of the tree
  pub opened : (xs : List X) (rows : List Row) → TreeHoldsRecords table encode cmp xs rows → (zs : List X) × IsPermutation xs zs × (map (cells_in_column_order table) rows ≡ map encode zs)
  opened xs rows h = unmapped encode xs (map (cells_in_column_order table) rows) h.shown

  closed : (xs zs : List X) (rows those : List Row) → IsPermutation xs zs → map (cells_in_column_order table) rows ≡ map encode zs → IsPermutation rows those
      → IsPermutation (map encode xs) (map (cells_in_column_order table) those)
  closed xs zs rows those p e q =
      IsPermutation-trans _ _ _ (subst (IsPermutation (map encode xs)) (sym e) (IsPermutation-map encode xs zs p)) (IsPermutation-map (cells_in_column_order table) rows those q)

  -- an empty tree
  pub none_held : (rows : List Row) → rows ≡ [] → TreeHoldsRecords table encode cmp [] rows
  unfolding IsDistinct
  none_held rows e = subst (TreeHoldsRecords table encode cmp []) (sym e) (record { keyed = tt; apart = tt; rising = tt; shown = IsPermutation-refl [] })

  -- DELETE
  pub held_without : (p : Row → Bool) (q : X → Bool) → ((r : Row) (x : X) → cells_in_column_order table r ≡ encode x → p r ≡ q x)
      → (xs : List X) (rows : List Row) → TreeHoldsRecords table encode cmp xs rows
      → TreeHoldsRecords table encode cmp (delete_where q xs) (filter (λ r. not (p r)) rows)
  held_without p q same xs rows h =
      let o = opened xs rows h in
      record {
        keyed = keyed_filter (λ r. not (p r)) rows h.keyed;
        apart = apart_filter (λ r. not (p r)) rows h.apart;
        rising = ascending-filter _ (λ x. not (q x)) xs h.rising;
        shown = closed _ _ _ _ (IsPermutation-filter (λ x. not (q x)) xs o.0 o.1)
            (filtered (cells_in_column_order table) encode (λ r. not (p r)) (λ x. not (q x)) (λ r x e. ap not (same r x e)) rows o.0 o.2)
            (IsPermutation-refl _);
      }

  -- UPDATE of columns that are no key
  pub held_changed : (p : Row → Bool) (f : Row → Row) (q : X → Bool) (to : X → X) → ((r : Row) → rowid (f r) ≡ rowid r) → ((x y : X) → cmp (to x) y ≡ cmp x y) → ((x y : X) → cmp x (to y) ≡ cmp x y)
      → ((r : Row) (x : X) → cells_in_column_order table r ≡ encode x → p r ≡ q x)
      → ((r : Row) (x : X) → cells_in_column_order table r ≡ encode x → cells_in_column_order table (f r) ≡ encode (to x))
      → (xs : List X) (rows those : List Row) → IsPermutation (map (λ r. if p r then f r else r) rows) those → TreeHoldsRecords table encode cmp xs rows
      → TreeHoldsRecords table encode cmp (update_where q to xs) those
  held_changed p f q to keeps left right same shows xs rows those perm h =
      let o = opened xs rows h in
      let g = λ (r : Row). if p r then f r else r in
      let still : (r : Row) → rowid (g r) ≡ rowid r = λ r. kept r (p r) in
      record {
        keyed = keyed_permuted _ those perm (keyed_map g still rows h.keyed);
        apart = apart_permuted _ those perm (apart_map g still rows h.apart);
        rising = rises-update_where cmp q to left right xs h.rising;
        shown = closed (update_where q to xs) (update_where q to o.0) (map g rows) those (IsPermutation-map (λ x. if q x then to x else x) xs o.0 o.1)
            (mapped (cells_in_column_order table) encode g (λ x. if q x then to x else x)
            (λ r x e. elim (cases_Bool (q x)) [ inl t ↦ rw (same r x e, t) (shows r x e) | inr t ↦ rw (same r x e, t) e ]) rows o.0 o.2) perm;
      }
    where
      kept : (r : Row) (b : Bool) → rowid (if b then f r else r) ≡ rowid r
      kept r true = keeps r
      kept r false = refl

  -- INSERT of a record whose key no record has
  pub held_with : IsTotalOrder cmp → (new : Row) (x : X) → cells_in_column_order table new ≡ encode x → IsTrue (is_int (rowid new)) → (xs : List X) (rows : List Row) → is_taken rows new ≡ false
      → AllByRecursion (λ y. is_eq (cmp x y) ≡ false) xs → TreeHoldsRecords table encode cmp xs rows → TreeHoldsRecords table encode cmp (insert_sorted cmp x xs) (put_row new rows)
  held_with total new x e whole xs rows free absent h =
      let o = opened xs rows h in
      let perm = put_is new rows free in
      record {
        keyed = keyed_permuted (new ∷ rows) _ perm (whole, h.keyed);
        apart = apart_permuted (new ∷ rows) _ perm (apart_put new rows free h.apart);
        rising = rises-insert_sorted total x xs absent h.rising;
        shown = closed (insert_sorted cmp x xs) (x ∷ o.0) (new ∷ rows) _
            (IsPermutation-trans _ _ _ (IsPermutation-sym _ _ (IsPermutation-insert_sorted cmp x xs)) (IsPermutation-cons x _ _ o.1)) (ap₂ ◌∷◌ e o.2) perm;
      }

  -- each record is that of a row
  pub row_of : (xs : List X) (rows : List Row) → TreeHoldsRecords table encode cmp xs rows → (x : X) → Has xs x → (r : Row) × Has rows r × (cells_in_column_order table r ≡ encode x)
  row_of xs rows h x there =
      let o = opened xs rows h in
      let r = encoded encode (cells_in_column_order table) o.0 rows x (sym o.2) (has_permuted o.0 xs x (IsPermutation-sym _ _ o.1) there) in
      (r.0, r.1, sym r.2)

  pub record_of : (xs : List X) (rows : List Row) → TreeHoldsRecords table encode cmp xs rows → (r : Row) → Has rows r → (x : X) × Has xs x × (cells_in_column_order table r ≡ encode x)
  record_of xs rows h r there =
      let o = opened xs rows h in
      let x = encoded (cells_in_column_order table) encode rows o.0 r o.2 there in
      (x.0, has_permuted xs o.0 x.0 o.1 x.1, x.2)

  -- ---- SELECT .. WHERE .. ORDER BY .. LIMIT

  module _ (xs : List X) (rows : List Row) (h : TreeHoldsRecords table encode cmp xs rows) (query : Query) (params : Row) (terms project : List Term)
      (order : List (Term × Key)) (read : List Row) (p : Picks query params terms project order rows read)
      (q : X → Bool) (same : (r : Row) (x : X) → cells_in_column_order table r ≡ encode x → passes params terms r ≡ q x)
      (show : X → Row) (shows : (r : Row) (x : X) → cells_in_column_order table r ≡ encode x → eval_all project (params ∷ r ∷ []) ≡ show x)
      (C : X → X → Ordering) (sorts : (a b : Row) (x y : X) → cells_in_column_order table a ≡ encode x → cells_in_column_order table b ≡ encode y → sorted_by params order a b ≡ C x y) where
    -- the records that pass, in an order that the keys allow
    pub reads_some : (ys : List X) × IsPermutation (filter q xs) ys × IsSorted C ys × (read ≡ page query params (map show ys))
    reads_some =
        let o = opened xs rows h in
        let kept = filtered (cells_in_column_order table) encode (passes params terms) q same rows o.0 o.2 in
        let moved = subst (λ l. IsPermutation l (map (cells_in_column_order table) p.picked)) kept (IsPermutation-map (cells_in_column_order table) _ _ p.same) in
        let u = unmapped encode (filter q o.0) (map (cells_in_column_order table) p.picked) moved in (
          u.0,
          IsPermutation-trans _ _ _ (IsPermutation-filter q xs o.0 o.1) u.1,
          ordered (cells_in_column_order table) encode (sorted_by params order) C sorts
              p.picked u.0 u.2 p.sorted,
          p.is ∙ ap (page query params) (projected p.picked u.0 u.2),
        )
      where
        projected : (rs : List Row) (ys : List X) → map (cells_in_column_order table) rs ≡ map encode ys → map (λ r. eval_all project (params ∷ r ∷ [])) rs ≡ map show ys
        projected [] [] e = refl
        projected [] (y ∷ ys) e = absurd (let k = e in cc)
        projected (r ∷ rs) [] e = absurd (let k = e in cc)
        projected (r ∷ rs) (y ∷ ys) e =
            let here : cells_in_column_order table r ≡ encode y = cc in
            let more : map (cells_in_column_order table) rs ≡ map encode ys = cc in
            ap₂ ◌∷◌ (shows r y here) (projected rs ys more)

    -- where the order is by the key, they are as they stand
    pub reads_rising : IsTotalOrder C → ((x y : X) → C x y ≡ cmp x y) → read ≡ page query params (map show (filter q xs))
    reads_rising total is =
        let r = reads_some in
        r.3 ∙ ap (λ ys. page query params (map show ys)) (sorted_unique C total (filter q xs) r.0 (ascending-filter _ q xs (ascending_as cmp C (λ x y. sym (is x y)) xs h.rising)) r.1 r.2)
      where
        ascending_as : (A B : X → X → Ordering) → ((x y : X) → A x y ≡ B x y) → (ys : List X) → IsStrictlyAscending A ys → IsStrictlyAscending B ys
        ascending_as A B e [] up = tt
        ascending_as A B e (y ∷ ys) up = (all_weaker _ (λ z. B y z ≡ Less) (λ z k. sym (e y z) ∙ k) ys up.0, ascending_as A B e ys up.1)

    -- where it is by the key, falling
    pub reads_falling : IsTotalOrder C → ((x y : X) → C x y ≡ cmp y x) → read ≡ page query params (map show (reverse (filter q xs)))
    reads_falling total is =
        let r = reads_some in
        r.3 ∙ ap (λ ys. page query params (map show ys))
        (sorted_unique C total (reverse (filter q xs)) r.0 (turned (filter q xs) (ascending-filter _ q xs h.rising))
        (IsPermutation-trans _ _ _ (IsPermutation-sym _ _ (IsPermutation-reverse (filter q xs))) r.1) r.2)
      where
        pushed : (ys : List X) (y : X) → IsStrictlyAscending C ys → AllByRecursion (λ z. C z y ≡ Less) ys → IsStrictlyAscending C (ys ++ y ∷ [])
        pushed [] y up low = (tt, tt)
        pushed (z ∷ ys) y up low = (all_pushed (λ w. C z w ≡ Less) ys y up.0 low.0, pushed ys y up.1 low.1)

        turned : (ys : List X) → IsStrictlyAscending cmp ys → IsStrictlyAscending C (reverse ys)
        turned [] up = tt
        turned (y ∷ ys) up =
            subst (IsStrictlyAscending C) (sym (reverse-cons y ys)) (pushed (reverse ys) y (turned ys up.1)
            (all_from _ (reverse ys) (λ z k. is z y ∙ all_has _ ys z up.0 (has_permuted ys (reverse ys) z (IsPermutation-reverse ys) k))))

    -- any other order: the sorted list, where no two records tie
    pub reads_sorted : IsTotalOrder C → ((x y : X) → is_eq (C x y) ≡ true → is_eq (cmp x y) ≡ true) → read ≡ page query params (map show (sort_by C (filter q xs)))
    reads_sorted total ties =
        let r = reads_some in
        r.3 ∙ ap (λ ys. page query params (map show ys)) (sorted_is-sort_by C total (filter q xs) r.0 (untied (filter q xs) (ascending-filter _ q xs h.rising)) r.1 r.2)
      where
        off : (a : Bool) (o : Ordering) → o ≡ Less → (a ≡ true → is_eq o ≡ true) → a ≡ false
        off true o e k = absurd (let f = ap is_eq (sym e) ∙ k refl in cc)
        off false o e k = refl

        untied : (ys : List X) → IsStrictlyAscending cmp ys → IsAscending (λ a b. is_eq (C a b) ≡ false) ys
        untied [] up = tt
        untied (y ∷ ys) up = (all_weaker _ (λ z. is_eq (C y z) ≡ false) (λ z e. off (is_eq (C y z)) (cmp y z) e (ties y z)) ys up.0, untied ys up.1)
