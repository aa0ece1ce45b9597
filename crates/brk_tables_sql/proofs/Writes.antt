-- The effect of INSERT, UPDATE and DELETE on the tables, in a schema that may have others.
use Rattle.std.proofs.Common.{◌≡◌, ◌≢◌, ◌⊎◌, ◌/◌, ℕ, List, [], ◌∷◌, length, map, filter, drop, slice_get, Bool, true, false, not, ◌||◌, if◌then◌else◌, Some, Ok}
use Rattle.std.proofs.Common.{Err, Ordering, is_eq, refl, sym, ap, ap₂, subst, ◌∙◌, inl, inr, IsTrue}
use Rattle.std.specs.Prelude.{slice_index_or}
use Rattle.std.specs.Cmp.{IsTotalOrder}
use Rattle.std.specs.List.{AllByRecursion}
use Rattle.std.specs.List.Sorted.{IsPermutation}
use Rattle.std.proofs.lemmas.Bool.{and_parts}
use Rattle.std.proofs.lemmas.List.Sorted.{IsPermutation-refl, IsPermutation-sym, IsPermutation-trans, IsPermutation-map, IsPermutation-append}
use Rattle.sqlite_value.specs.declared.value.Value.TheVariants.{Null}
use Rattle.sqlite_value.specs.Keys.{plain}
use Rattle.sqlite_value.specs.Order.{Row, value_cmp}
use Rattle.sqlite_trees.specs.Tree.{rowid, put_row}
use Rattle.sqlite_trees.specs.View.{is_int}
use Rattle.sqlite_sql.specs.Term.{Term, eval_all}
use Rattle.sqlite_schema.specs.declared.schema.Schema.{Schema}
use Rattle.sqlite_schema.specs.declared.schema.Table.{Table}
use Rattle.sqlite_schema.specs.declared.schema.Keys.TheVariants.{Enforced}
use Rattle.sqlite_schema.specs.declared.command.Source.TheVariants.{Values}
use Rattle.sqlite_schema.specs.declared.command.Command.TheVariants.{Insert, Update, Delete}
use Rattle.sqlite_schema.specs.Rules.{agree, differ}
use Rattle.sqlite_rules.specs.Cast.{cast_row}
use Rattle.sqlite_rules.specs.Edit.{Edit, edit_of, edited, with_rowid, without_all, put_all, are_fresh, is_taken, id_in, left_by}
use Rattle.sqlite_rules.specs.Calls.{ids_of}
use Rattle.sqlite_rules.specs.Lists.{Has}
use Rattle.sqlite_rules.specs.Action.{Writes as WritesOn}
use Rattle.sqlite_rules.specs.declared.error.Rowids.TheVariants.{Chosen, Given}
use Rattle.sqlite_rules.proofs.ListLemmas.{all_has, all_from, has_filtered, has_got}
use Rattle.sqlite_rules.proofs.PlaceLemmas.{given}
use Rattle.sqlite_syntax.specs.declared.statement.Parsed.{Parsed}
use Rattle.sqlite_resolve.specs.Compile.{compiled}
use Rattle.sqlite_resolve.specs.declared.error.CompileError.TheVariants.{Mismatch}
use Rattle.sqlite_keyed.specs.Lists.{insert_sorted, update_where, delete_where}
use Rattle.sqlite.specs.Effect.{Database, IsDatabase, value_rows}
use Rattle.sqlite.specs.Rows.{stamped}
use Rattle.sqlite.specs.State.{State, Executes}
use Rattle.brk_tables_sql.specs.Rows.{cells_in_column_order, has_same_rowid, TreeHoldsRecords}
use Rattle.brk_tables_sql.specs.Desk.{ProgramTables, IsTableAt, HasNoWritingForeignKeysAt, HasTables, PreservesUnrelatedTables, ChangesTablesBy}
use Rattle.brk_tables_sql.proofs.Effects.{inserted, took, altered}
use Rattle.brk_tables_sql.proofs.Kept.{held_with, held_without, held_changed, row_of, record_of}
use Rattle.brk_tables_sql.proofs.Meant.{meant}
use Rattle.brk_tables_sql.proofs.Order.{map_twice, map_on, has_permuted}
use Rattle.brk_tables_sql.proofs.Pick.{passes, picks, selection, whole_page, remains, put_is, put_all_is, changed_is, int_is, same_rowid_sym}
use Rattle.brk_tables_sql.proofs.Strangers.{keeps_ours, writes_ours}
use Rattle.brk_tables_sql.proofs.Unique.{unique_rows}
use Rattle.brk_tables_sql.proofs.Values.{differ_ints}

-- the key of a record is the rowid
abbrev pub IsRowidKey : {X : Type 0} → (ℕ → Table) → (X → Row) → (X → X → Ordering) → Type 0
IsRowidKey {X} shape encode cmp = (tree : ℕ) (r s : Row) (x y : X) → cells_in_column_order (shape tree) r ≡ encode x
    → cells_in_column_order (shape tree) s ≡ encode y → is_eq (cmp x y) ≡ has_same_rowid r s

-- it is what the first UNIQUE names
pub record IsUniqueKey {X : Type 0} (shape : ℕ → Table) (encode : X → Row) (cmp : X → X → Ordering) : Type 0 where
  pub key : List ℕ
  pub first : (tree : ℕ) → slice_get (shape tree).uniques 0 ≡ Some key
  pub tied : (tree : ℕ) (r s : Row) (x y : X) → cells_in_column_order (shape tree) r ≡ encode x → cells_in_column_order (shape tree) s ≡ encode y
      → is_eq (cmp x y) ≡ agree (slice_index_or (shape tree).orders 0 plain) key r key s

-- what is to be known of one table of a desk
pub record Place {W T : Type 0} (desk : ProgramTables W T) (w : W) : Type 0 where
  pub split : (v : W) → (v ≡ w) ⊎ (v ≢ w)
  pub put : List (desk.Item w) → T → T
  pub put_this : (xs : List (desk.Item w)) (t : T) → desk.list w (put xs t) ≡ xs
  pub put_others : (v : W) → v ≢ w → (xs : List (desk.Item w)) (t : T) → desk.list v (put xs t) ≡ desk.list v t
  pub total : IsTotalOrder (desk.order w)
  pub keyed : IsRowidKey (desk.shape w) (desk.encode w) (desk.order w) ⊎ IsUniqueKey (desk.shape w) (desk.encode w) (desk.order w)
  pub uncounted : (tree : ℕ) → (desk.shape w tree).is_counted ≡ false

-- ---- a record whose key came in is new

module _ {X : Type 0} (table : Table) (encode : X → Row) (cmp : X → X → Ordering) (xs : List X) (rows : List Row)
    (h : TreeHoldsRecords table encode cmp xs rows) (new : Row) (x : X) (e : cells_in_column_order table new ≡ encode x) (free : is_taken rows new ≡ false)
  where
    untaken : (rows : List Row) → is_taken rows new ≡ false → (r : Row) → Has rows r → has_same_rowid new r ≡ false
    untaken [] free r there = absurd there
    untaken (s ∷ rows) free r there = go (has_same_rowid s new) refl free there (λ off later. untaken rows off r later)
      where
        go : (b : Bool) → has_same_rowid s new ≡ b → (b || is_taken rows new) ≡ false → Has (s ∷ rows) r
            → (is_taken rows new ≡ false → Has rows r → has_same_rowid new r ≡ false) → has_same_rowid new r ≡ false
        go true k off there more = absurd (let f = off in cc)
        go false k off (inl same) more = subst (λ z. has_same_rowid new z ≡ false) (sym same) (same_rowid_sym new s ∙ k)
        go false k off (inr later) more = more off later

    absent_rowid : ((r s : Row) (x y : X) → cells_in_column_order table r ≡ encode x → cells_in_column_order table s ≡ encode y
        → is_eq (cmp x y) ≡ has_same_rowid r s) → AllByRecursion (λ y. is_eq (cmp x y) ≡ false) xs
    absent_rowid tied =
        all_from _ xs (λ y there.
        let r = row_of table encode cmp xs rows h y there in
        tied new r.0 x y e r.2 ∙ untaken rows free r.0 r.1)

    absent_unique : (order : _) (key : List ℕ)
        → ((r s : Row) (x y : X) → cells_in_column_order table r ≡ encode x → cells_in_column_order table s ≡ encode y
        → is_eq (cmp x y) ≡ agree order key r key s)
        → ((r s : Row) → Has (put_row new rows) r → Has (put_row new rows) s → differ (rowid s) (rowid r) ≡ true → agree order key s key r ≡ false)
        → IsTrue (is_int (rowid new)) → AllByRecursion (λ y. is_eq (cmp x y) ≡ false) xs
    absent_unique order key tied once whole =
        all_from _ xs (λ y there.
        let r = row_of table encode cmp xs rows h y there in
        let perm = put_is new rows free in
        let other : differ (rowid new) (rowid r.0) ≡ true =
        ap₂ differ (int_is (rowid new) whole) (int_is (rowid r.0) (all_has _ rows r.0 h.keyed r.1)) ∙ differ_ints (id_in (rowid new)) (id_in (rowid r.0))
        ∙ ap not (ap is_eq (ap₂ value_cmp (sym (int_is (rowid new) whole)) (sym (int_is (rowid r.0) (all_has _ rows r.0 h.keyed r.1)))) ∙ untaken rows free r.0 r.1) in
        tied new r.0 x y e r.2 ∙ once r.0 new (has_permuted _ (new ∷ rows) r.0 (IsPermutation-sym _ _ perm) (inr r.1)) (has_permuted _ (new ∷ rows) new (IsPermutation-sym _ _ perm) (inl refl)) other)

module _ {W T : Type 0} (desk : ProgramTables W T) (w : W) (place : Place desk w) where
  abbrev shape : ℕ → Table
  shape = desk.shape w

  abbrev Item : Type 0
  Item = desk.Item w

  -- ---- the other tables

  -- what a statement on this table leaves of any other
  abbrev Leaves : (tree : W → ℕ) (old new : Database) → Table → Type 0
  Leaves tree old new k = k.tree ≢ tree w → HasNoWritingForeignKeysAt old.schema k.tree → new.trees k.tree ≡ old.trees k.tree

  pub framed : (t : T) (xs : List Item) (tree : W → ℕ) (old new : Database) → HasTables desk t tree old → new.schema ≡ old.schema → ((k : Table) → Has old.schema.tables k → Leaves tree old new k)
      → TreeHoldsRecords (shape (tree w)) (desk.encode w) (desk.order w) xs (new.trees (tree w)) → IsDatabase new → HasTables desk (place.put xs t) tree new × PreservesUnrelatedTables tree old new
  framed t xs tree old new h schema leaves this sound =
      let u = place.put xs t in
      let back = sym schema in (
        record {
          place = h.place;
          is_table = λ v. subst (λ s. IsTableAt s (desk.shape v (tree v)) (h.place v)) back (h.is_table v);
          apart = h.apart;
          keys_write_nothing = λ v. subst (λ s. HasNoWritingForeignKeysAt s (tree v)) back (h.keys_write_nothing v);
          sound = sound;
          rows = λ v. elim (place.split v) [
            | inl same ↦ subst (λ v. TreeHoldsRecords (desk.shape v (tree v)) (desk.encode v) (desk.order v) (desk.list v u) (new.trees (tree v))) (sym same)
                (subst (λ ys. TreeHoldsRecords (shape (tree w)) (desk.encode w) (desk.order w) ys (new.trees (tree w))) (sym (place.put_this xs t)) this)
            | inr other ↦ subst (λ ys. TreeHoldsRecords (desk.shape v (tree v)) (desk.encode v) (desk.order v) ys (new.trees (tree v))) (sym (place.put_others v other xs t))
                (subst (TreeHoldsRecords (desk.shape v (tree v)) (desk.encode v) (desk.order v) (desk.list v t)) (sym (others v other)) (h.rows v))
          ];
        },
        record { schema = schema; rows = all_from _ old.schema.tables (λ k there apart keys_write_nothing. leaves k there (apart w) keys_write_nothing) },
      )
    where
      others : (v : W) → v ≢ w → new.trees (tree v) ≡ old.trees (tree v)
      others v other =
          let table = desk.shape v (tree v) in
          let at : table.tree ≡ tree v = desk.placed v (tree v) in
          subst (λ n. new.trees n ≡ old.trees n) at
          (leaves table (has_got old.schema.tables (h.place v) table (h.is_table v).found) (λ same. other (h.apart v w (sym at ∙ same)))
          (subst (HasNoWritingForeignKeysAt old.schema) (sym at) (h.keys_write_nothing v)))

  -- ---- a step on this table, and all that it sets off

  module _ (t : T) (tree : W → ℕ) (old new : Database) (h : HasTables desk t tree old) (e : Edit) (is : e.table ≡ shape (tree w))
      (writes : WritesOn old.schema Enforced old.trees e (Ok new.trees)) where
    at_tree : e.table.tree ≡ tree w
    at_tree = ap (λ (k : Table). k.tree) is ∙ desk.placed w (tree w)

    pub step_leaves : (k : Table) → Has old.schema.tables k → Leaves tree old new k
    step_leaves k there apart keys_write_nothing = keeps_ours k.tree old.schema keys_write_nothing k there refl old.trees new.trees e (λ same. apart (sym same ∙ at_tree)) writes

    pub step_this : (new.trees (tree w) ≡ edited old.trees e) × (are_fresh (left_by old.trees e) e.news ≡ true)
    step_this =
        let o = writes_ours (tree w) old.schema (h.keys_write_nothing w) (shape (tree w))
        (has_got old.schema.tables (h.place w) (shape (tree w)) (h.is_table w).found) (desk.placed w (tree w)) old.trees new.trees e at_tree writes in
        (o.2 ∙ ap o.0 (sym at_tree) ∙ o.1.rows, o.1.fresh)

  -- ---- DELETE

  module _ (text : List ℕ) (params : Row) (p : Parsed) (terms project : List Term) (q : Item → Bool)
      (same : (tree : ℕ) (r : Row) (x : Item) → cells_in_column_order (shape tree) r ≡ desk.encode w x → passes params terms r ≡ q x)
      (ids : (r : Row) → id_in (rowid (eval_all project (params ∷ r ∷ []))) ≡ id_in (rowid r)) where
    pub deletes_as : ((schema : Schema) (at tree : ℕ) → IsTableAt schema (shape tree) at
        → (compiled schema text ≡ Ok (meant p [] (Delete at (record { lets = []; body = selection tree terms project [] whole_page })))) ⊎ (compiled schema text ≡ Err Mismatch))
        → (old new : State) (count : ℕ) → Executes text params old new (Ok count) → ChangesTablesBy desk (λ t. place.put (delete_where q (desk.list w t)) t) old.now new.now
    deletes_as either old new count ran = λ t tree h.
        let table = shape (tree w) in
        let at = desk.placed w (tree w) in
        let db = old.now.trees in
        let rows = db (tree w) in
        let it = took text params old new p (h.place w) table (h.is_table w).found _ (either old.now.schema (h.place w) (tree w) (h.is_table w)) count ran in
        let e : Edit = edit_of db table (ids_of it.1.0) Given 0 [] in
        let step = step_this t tree old.now new.now h e refl it.1.2 in
        let k = picks Null (tree w) terms project [] whole_page db params it.1.0 (it.1.1.answer Null) in
        let held = h.rows w in
        let named : ids_of it.1.0 ≡ ids_of k.picked = ap ids_of k.is ∙ map_twice _ _ k.picked ∙ map_on _ _ k.picked (λ r there. ids r) in
        let left : without_all (db table.tree) (ids_of it.1.0) ≡ filter (λ r. not (passes params terms r)) rows =
        ap₂ without_all (ap db at) named ∙ remains (passes params terms) rows k.picked held.keyed held.apart k.same in
        framed t _ tree old.now new.now h it.0 (step_leaves t tree old.now new.now h e refl it.1.2)
        (subst (TreeHoldsRecords table (desk.encode w) (desk.order w) (delete_where q (desk.list w t))) (sym (step.0 ∙ left))
        (held_without table (desk.encode w) (desk.order w) (passes params terms) q (same (tree w)) (desk.list w t) rows held)) it.2

    -- ---- UPDATE of columns that are no key

    pub updates_as : ((schema : Schema) (at tree : ℕ) → IsTableAt schema (shape tree) at
        → (compiled schema text ≡ Ok (meant p [] (Update at (record { lets = []; body = selection tree terms project [] whole_page })))) ⊎ (compiled schema text ≡ Err Mismatch))
        → (write : Row → Row) (to : Item → Item) → ((x y : Item) → desk.order w (to x) y ≡ desk.order w x y) → ((x y : Item) → desk.order w x (to y) ≡ desk.order w x y)
        → ((r : Row) → rowid (write r) ≡ rowid r)
        → ((tree : ℕ) (r : Row) (x : Item) → IsTrue (is_int (rowid r)) → cells_in_column_order (shape tree) r ≡ desk.encode w x
        → cast_row (shape tree) (drop 1 (eval_all project (params ∷ r ∷ []))) ≡ write r)
        → ((tree : ℕ) (r : Row) (x : Item) → cells_in_column_order (shape tree) r ≡ desk.encode w x → cells_in_column_order (shape tree) (write r) ≡ desk.encode w (to x))
        → (old new : State) (count : ℕ) → Executes text params old new (Ok count) → ChangesTablesBy desk (λ t. place.put (update_where q to (desk.list w t)) t) old.now new.now
    updates_as either write to before after keeps writes shows old new count ran = λ t tree h.
        let table = shape (tree w) in
        let at = desk.placed w (tree w) in
        let db = old.now.trees in
        let rows = db (tree w) in
        let test = passes params terms in
        let it = altered text params old new p (h.place w) table (h.is_table w).found _ (either old.now.schema (h.place w) (tree w) (h.is_table w)) count ran in
        let read = it.1.0 in
        let e : Edit = edit_of db table (ids_of read) Given 1 read in
        let step = step_this t tree old.now new.now h e refl it.1.2 in
        let k = picks Null (tree w) terms project [] whole_page db params read (it.1.1.answer Null) in
        let held = h.rows w in
        let named : ids_of read ≡ ids_of k.picked = ap ids_of k.is ∙ map_twice _ _ k.picked ∙ map_on _ _ k.picked (λ r there. ids r) in
        let left : without_all (db table.tree) (ids_of read) ≡ filter (λ r. not (test r)) rows =
        ap₂ without_all (ap db at) named ∙ remains test rows k.picked held.keyed held.apart k.same in
        let news : e.news ≡ map write k.picked =
        given _ _ ∙ ap (map (λ r. cast_row table (drop 1 r))) k.is ∙ map_twice _ _ k.picked
        ∙ map_on _ write k.picked (λ r there.
        let mine = (has_filtered test rows r (has_permuted (filter test rows) k.picked r k.same there)).0 in
        let x = record_of table (desk.encode w) (desk.order w) (desk.list w t) rows held r mine in
        writes (tree w) r x.0 (all_has _ rows r held.keyed mine) x.2) in
        let fresh : are_fresh (filter (λ r. not (test r)) rows) (map write k.picked) ≡ true = ap₂ are_fresh (sym left) (sym news) ∙ step.1 in
        let those : new.now.trees (tree w) ≡ put_all (filter (λ r. not (test r)) rows) (map write k.picked) = step.0 ∙ ap₂ put_all left news in
        let perm : IsPermutation (map (λ r. if test r then write r else r) rows) (put_all (filter (λ r. not (test r)) rows) (map write k.picked)) =
        IsPermutation-trans _ _ _ (IsPermutation-sym _ _ (changed_is test write rows))
        (IsPermutation-trans _ _ _
        (IsPermutation-append _ _ _ _ (IsPermutation-map write (filter test rows) k.picked k.same) (IsPermutation-refl (filter (λ r. not (test r)) rows)))
        (put_all_is (map write k.picked) _ fresh)) in
        framed t _ tree old.now new.now h it.0 (step_leaves t tree old.now new.now h e refl it.1.2)
        (subst (TreeHoldsRecords table (desk.encode w) (desk.order w) (update_where q to (desk.list w t))) (sym those)
        (held_changed table (desk.encode w) (desk.order w) test write q to keeps before after (same (tree w)) (shows (tree w)) (desk.list w t) rows _ perm held)) it.2

  -- ---- INSERT .. VALUES leaves the other tables, whosever they are

  pub inserts_alone : (text : List ℕ) (params : Row) (p : Parsed) (terms : List Term) (width : ℕ)
      → ((schema : Schema) (at tree : ℕ) → IsTableAt schema (shape tree) at → compiled schema text ≡ Ok (meant p [] (Insert at (Values terms width))))
      → (old new : State) (count : ℕ) → Executes text params old new (Ok count) → (t : T) (tree : W → ℕ) → HasTables desk t tree old.now
      → (new.now.schema ≡ old.now.schema) × AllByRecursion (λ k. k.tree ≢ tree w → new.now.trees k.tree ≡ old.now.trees k.tree) old.now.schema.tables
  inserts_alone text params p terms width is old new count ran t tree h =
      let it = inserted text params old new p (h.place w) (shape (tree w)) (h.is_table w).found (place.uncounted (tree w)) terms width
      (is old.now.schema (h.place w) (tree w) (h.is_table w)) count ran in
      (it.0, subst (λ n. AllByRecursion (λ k. k.tree ≢ n → new.now.trees k.tree ≡ old.now.trees k.tree) old.now.schema.tables) (desk.placed w (tree w)) it.1.tables)

  -- ---- INSERT .. VALUES of one row

  pub inserts_as : (text : List ℕ) (params : Row) (p : Parsed) (terms : List Term) (width : ℕ) (source : Row) (x : Item)
      → ((schema : Schema) (at tree : ℕ) → IsTableAt schema (shape tree) at → compiled schema text ≡ Ok (meant p [] (Insert at (Values terms width))))
      → ((tree : ℕ) → value_rows (stamped (shape tree) params) width (length terms / width) terms ≡ source ∷ [])
      → ((tree : ℕ) (rows : List Row) → cells_in_column_order (shape tree) (with_rowid Chosen rows (cast_row (shape tree) source)) ≡ desk.encode w x)
      → (old new : State) (count : ℕ) → Executes text params old new (Ok count) → ChangesTablesBy desk (λ t. place.put (insert_sorted (desk.order w) x (desk.list w t)) t) old.now new.now
  inserts_as text params p terms width source x is one shows old new count ran = λ t tree h.
      let table = shape (tree w) in
      let at = desk.placed w (tree w) in
      let db = old.now.trees in
      let rows = db (tree w) in
      let it = inserted text params old new p (h.place w) table (h.is_table w).found (place.uncounted (tree w)) terms width (is old.now.schema (h.place w) (tree w) (h.is_table w)) count ran in
      let e : Edit = edit_of db table [] Chosen 0 (source ∷ []) in
      let a = subst (λ ss. Rattle.sqlite_rules.specs.Edit.Applies old.now.schema Enforced db (edit_of db table [] Chosen 0 ss) new.now.trees) (one (tree w)) it.1 in
      let comer : Row = with_rowid Chosen rows (cast_row table source) in
      let same : with_rowid Chosen (db table.tree) (cast_row table source) ≡ comer = ap (λ n. with_rowid Chosen (db n) (cast_row table source)) at in
      let those : new.now.trees (tree w) ≡ put_row comer rows = ap new.now.trees (sym at) ∙ a.rows ∙ ap₂ put_row same (ap db at) in
      let fresh : are_fresh rows (comer ∷ []) ≡ true = ap₂ (λ rs c. are_fresh rs (c ∷ [])) (sym (ap db at)) (sym same) ∙ a.fresh in
      let free : is_taken rows comer ≡ false = not_not _ (and_parts _ _ fresh).0 in
      let whole : IsTrue (is_int (rowid comer)) = ap (λ c. is_int (rowid c)) (sym same) ∙ (and_parts _ _ a.keyed).0 in
      let held = h.rows w in
      let absent : AllByRecursion (λ y. is_eq (desk.order w x y) ≡ false) (desk.list w t) = elim place.keyed [
        | inl by_rowid ↦ absent_rowid table (desk.encode w) (desk.order w) (desk.list w t) rows held comer x (shows (tree w) rows) free (by_rowid (tree w))
        | inr by_key ↦ absent_unique table (desk.encode w) (desk.order w) (desk.list w t) rows held comer x (shows (tree w) rows) free _ by_key.key (by_key.tied (tree w))
            (λ r s hr hs apart.
            unique_rows new.now (h.place w) table by_key.key it.2 (subst (λ s. slice_get s.tables (h.place w) ≡ Some table) (sym it.0) (h.is_table w).found) (by_key.first (tree w)) r s
            (subst (λ l. Has l r) (sym (ap new.now.trees at ∙ those)) hr) (subst (λ l. Has l s) (sym (ap new.now.trees at ∙ those)) hs) apart) whole
      ] in
      framed t _ tree old.now new.now h it.0
      (λ k there apart keys_write_nothing. all_has (λ k. k.tree ≢ table.tree → new.now.trees k.tree ≡ db k.tree) old.now.schema.tables k a.tables there (λ same. apart (same ∙ at)))
      (subst (TreeHoldsRecords table (desk.encode w) (desk.order w) (insert_sorted (desk.order w) x (desk.list w t))) (sym those)
      (held_with table (desk.encode w) (desk.order w) place.total comer x (shows (tree w) rows) whole (desk.list w t) rows free absent held)) it.2
    where
      not_not : (b : Bool) → not b ≡ true → b ≡ false
      not_not true h = absurd (let e = h in cc)
      not_not false h = refl
