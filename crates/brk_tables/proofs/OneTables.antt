-- At most one set of tables has the rows of a database.
use Rattle.std.proofs.Common.{Bool, true, false, ◌≡◌, ℕ, List, [], ◌∷◌, Some, Ordering, Less, Equal, Greater, map, slice_get, refl, sym, ap, subst, ◌∙◌, inl, inr}
use Rattle.std.specs.Ordering.{ordering_reverse}
use Rattle.std.specs.Cmp.{IsTotalOrder}
use Rattle.std.specs.List.{AllByRecursion}
use Rattle.std.specs.List.Sorted.{IsPermutation}
use Rattle.std.proofs.lemmas.List.Sorted.{IsPermutation-map, IsPermutation-sym, IsPermutation-trans}
use Rattle.sqlite_value.specs.Order.{Row}
use Rattle.sqlite_schema.specs.declared.schema.Table.{Table}
use Rattle.sqlite_schema.specs.Names.{table_named}
use Rattle.sqlite_keyed.proofs.ListLemmas.{map_back}
use Rattle.sqlite_rules.specs.Lists.{Has}
use Rattle.sqlite.specs.Effect.{Database}
use Rattle.brk_model.specs.Schemas.{Schema, third_schema}
use Rattle.brk_model.specs.Tables.{Tables}
use Rattle.brk_trade_rows.specs.declared.schema.Schema as known
use Rattle.brk_trade_rows.specs.declared.schema.Schema.TheVariants.{First, Second, Third}
use Rattle.brk_trade_rows.specs.Schemas.{abstract_schema}
use Rattle.brk_tables_sql.specs.Desk.{IsTableAt}
use Rattle.brk_tables_sql.specs.Rows.{TreeHoldsRecords, IsStrictlyAscending, cells_in_column_order}
use Rattle.brk_tables_sql.proofs.Order.{has_permuted}
use Rattle.brk_tables_schema.specs.Desk.{RecordOfTable, DeskTable, encoded_row, primary_key_of_record, ordering_by_primary_key, table_definition_has_tree}
use Rattle.brk_tables_schema.specs.Desk.{table_definition_at_tree, TheDesk, rows_of_table_in_schema, schema_has_table}
use Rattle.brk_tables_schema.specs.Made.{HasDeskTables, HasDeskTablesInSchema, IsTableOfSchema}
use Rattle.brk_tables_schema.proofs.Order.{key_total}
use Rattle.brk_tables.proofs.Decode.{decode, decodes, named_alike}
use Rattle.brk_tables.proofs.SameTables.{same_tables}
use Rattle.brk_tables.proofs.Values.{number_alike}

-- ---- two lists that rise, and have the same members

order_of : Ordering → ℕ
order_of Less = 0
order_of Equal = 1
order_of Greater = 2

less_greater : {A : Type 0} → Less ≡ Greater → A
unfolding order_of
less_greater e = let f : 0 ≡ 2 = ap order_of e in absurd (cc)

all_map : {X : Type 0} (P Q : X → Type 0) (xs : List X) → ((x : X) → P x → Q x) → AllByRecursion P xs → AllByRecursion Q xs
all_map P Q [] f h = tt
all_map P Q (x ∷ xs) f h = (f x h.0, all_map P Q xs f h.1)

each_has : {X : Type 0} (xs : List X) → AllByRecursion (λ x. Has xs x) xs
each_has [] = tt
each_has (x ∷ xs) = (inl refl, all_map (Has xs) (Has (x ∷ xs)) xs (λ y h. inr h) (each_has xs))

of_all : {X : Type 0} (P : X → Type 0) (xs : List X) (x : X) → AllByRecursion P xs → Has xs x → P x
of_all P [] x h m = absurd m
of_all P (y ∷ ys) x h (inl e) = subst P (sym e) h.0
of_all P (y ∷ ys) x h (inr m) = of_all P ys x h.1 m

module _ {X : Type 0} (cmp : X → X → Ordering) (total : IsTotalOrder cmp) where
  not_itself : (x y : X) → x ≡ y → cmp x y ≡ Less → ⊥
  not_itself x y p e =
      let f : cmp x x ≡ Less = subst (λ z. cmp x z ≡ Less) (sym p) e in
      less_greater (sym f ∙ total.antisymm x x ∙ ap ordering_reverse f)

  one_way : (x y : X) → cmp x y ≡ Less → cmp y x ≡ Less → ⊥
  one_way x y e f = less_greater (sym e ∙ total.antisymm x y ∙ ap ordering_reverse f)

  heads : (x y : X) (xs ys : List X) → AllByRecursion (λ z. cmp x z ≡ Less) xs → AllByRecursion (λ z. cmp y z ≡ Less) ys → Has (y ∷ ys) x → Has (x ∷ xs) y → x ≡ y
  heads x y xs ys c d (inl e) n = e
  heads x y xs ys c d (inr m) (inl e) = sym e
  heads x y xs ys c d (inr m) (inr n) = absurd (one_way x y (of_all (λ z. cmp x z ≡ Less) xs y c n) (of_all (λ z. cmp y z ≡ Less) ys x d m))

  tails : (x y : X) (ys zs : List X) → x ≡ y → AllByRecursion (λ z. cmp x z ≡ Less) zs → AllByRecursion (λ z. Has (y ∷ ys) z) zs → AllByRecursion (λ z. Has ys z) zs
  tails x y ys [] e c h = tt
  tails x y ys (z ∷ zs) e c h = (behind h.0, tails x y ys zs e c.1 h.1)
    where
      behind : Has (y ∷ ys) z → Has ys z
      behind (inl f) = absurd (not_itself x z (e ∙ sym f) c.0)
      behind (inr m) = m

  same_members : (xs ys : List X) → IsStrictlyAscending cmp xs → IsStrictlyAscending cmp ys → AllByRecursion (λ x. Has ys x) xs → AllByRecursion (λ y. Has xs y) ys → xs ≡ ys
  same_members [] [] c d f g = refl
  same_members [] (y ∷ ys) c d f g = absurd g.0
  same_members (x ∷ xs) [] c d f g = absurd f.0
  same_members (x ∷ xs) (y ∷ ys) c d f g =
      let e : x ≡ y = heads x y xs ys c.0 d.0 f.0 g.0 in
      let t : xs ≡ ys = same_members xs ys c.1 d.1 (tails x y ys xs e c.0 f.1) (tails y x xs ys (sym e) d.0 g.1) in
      λ i. e i ∷ t i

  permuted : (xs ys : List X) → IsPermutation xs ys → IsStrictlyAscending cmp xs → IsStrictlyAscending cmp ys → xs ≡ ys
  permuted xs ys p c d =
      same_members xs ys c d (all_map (Has xs) (Has ys) xs (λ x h. has_permuted ys xs x (IsPermutation-sym xs ys p) h) (each_has xs))
      (all_map (Has ys) (Has xs) ys (λ y h. has_permuted xs ys y p h) (each_has ys))

-- ---- one table

held_alike : (w : DeskTable) (table : Table) (xs ys : List (RecordOfTable w)) (rows : List Row)
    → TreeHoldsRecords table (encoded_row w) (ordering_by_primary_key w) xs rows → TreeHoldsRecords table (encoded_row w) (ordering_by_primary_key w) ys rows
    → xs ≡ ys
held_alike w table xs ys rows h k =
    let cellsOf : List Row = map (cells_in_column_order table) rows in
    let p : IsPermutation (map (encoded_row w) xs) (map (encoded_row w) ys) =
    IsPermutation-trans (map (encoded_row w) xs) cellsOf (map (encoded_row w) ys) h.shown (IsPermutation-sym (map (encoded_row w) ys) cellsOf k.shown) in
    let q = IsPermutation-map (decode w) (map (encoded_row w) xs) (map (encoded_row w) ys) p in
    let r : IsPermutation xs (map (decode w) (map (encoded_row w) ys)) =
    subst (λ l. IsPermutation l (map (decode w) (map (encoded_row w) ys))) (map_back (encoded_row w) (decode w) (decodes w) xs) q in
    permuted (ordering_by_primary_key w) (key_total (primary_key_of_record w)) xs ys (subst (IsPermutation xs) (map_back (encoded_row w) (decode w) (decodes w) ys) r) h.rising k.rising

some_same : {X : Type 0} (x y : X) → Some x ≡ Some y → x ≡ y
some_same x y e = cc

-- a table stands at one tree
tree_alike : (w : DeskTable) (db : Database) (m n at by : ℕ) → IsTableAt db.schema (table_definition_at_tree w m) at → IsTableAt db.schema (table_definition_at_tree w n) by → m ≡ n
tree_alike w db m n at by h k =
    let e : at ≡ by = some_same at by (sym h.named ∙ ap (λ name. table_named db.schema name) (named_alike w m n) ∙ k.named) in
    let f : table_definition_at_tree w m ≡ table_definition_at_tree w n =
    some_same (table_definition_at_tree w m) (table_definition_at_tree w n) (sym h.found ∙ ap (slice_get db.schema.tables) e ∙ k.found) in
    sym (table_definition_has_tree w m) ∙ ap (λ (t : Table). t.tree) f ∙ table_definition_has_tree w n

-- a table of a desk, in whichever schemas, shows one list
alike : (w : DeskTable) (s r : Schema) (t u : Tables) (db : Database) (m n at by : ℕ) → IsTableAt db.schema (table_definition_at_tree w m) at
    → IsTableAt db.schema (table_definition_at_tree w n) by
    → TreeHoldsRecords (table_definition_at_tree w m) (encoded_row w) (ordering_by_primary_key w) (rows_of_table_in_schema s w t) (db.trees m)
    → TreeHoldsRecords (table_definition_at_tree w n) (encoded_row w) (ordering_by_primary_key w) (rows_of_table_in_schema r w u) (db.trees n)
    → rows_of_table_in_schema s w t ≡ rows_of_table_in_schema r w u
alike w s r t u db m n at by h k some more =
    let e : m ≡ n = tree_alike w db m n at by h k in
    held_alike w (table_definition_at_tree w m) (rows_of_table_in_schema s w t) (rows_of_table_in_schema r w u) (db.trees m) some
    (subst (λ (q : ℕ). TreeHoldsRecords (table_definition_at_tree w q) (encoded_row w) (ordering_by_primary_key w) (rows_of_table_in_schema r w u)
    (db.trees q)) (sym e) more)

pub one_tables : (t u : Tables) → (db : Database) → HasDeskTables t db → HasDeskTables u db → t ≡ u
one_tables t u db h k =
    same_tables third_schema t u (λ w. alike w third_schema third_schema t u db (h.0 w) (k.0 w) (h.1.place w) (k.1.place w) (h.1.is_table w) (k.1.is_table w) (h.1.rows w) (k.1.rows w))

-- ---- of any schema

by_case : {A : Type 0} (b : Bool) → (b ≡ true → A) → (b ≡ false → A) → A
by_case true f g = f refl
by_case false f g = g refl

-- where both schemas have a table
both_alike : (w : DeskTable) (s r : Schema) (t u : Tables) (db : Database) → HasDeskTablesInSchema s t db → HasDeskTablesInSchema r u db → IsTableOfSchema s w
    → IsTableOfSchema r w → rows_of_table_in_schema s w t ≡ rows_of_table_in_schema r w u
both_alike w s r t u db h k a b = alike w s r t u db (h.0 w) (k.0 w) (h.1.place w) (k.1.place w) (h.1.is_table w a) (k.1.is_table w b) (h.1.rows w a) (k.1.rows w b)

one_of_schema : (s : Schema) (t u : Tables) (db : Database) → HasDeskTablesInSchema s t db → HasDeskTablesInSchema s u db → t ≡ u
one_of_schema s t u db h k = same_tables s t u each
  where
    each : (w : DeskTable) → rows_of_table_in_schema s w t ≡ rows_of_table_in_schema s w u
    each w = by_case (schema_has_table s w) (λ there. both_alike w s s t u db h k there there) (λ none. (h.2 w none).1 ∙ sym (k.2 w none).1)

-- the number tells the schema
same_schema : (a b : known.Schema) → (abstract_schema a).number ≡ (abstract_schema b).number → a ≡ b
same_schema First First e = refl
same_schema First Second e = absurd (let f : 1 ≡ 2 = e in cc)
same_schema First Third e = absurd (let f : 1 ≡ 3 = e in cc)
same_schema Second First e = absurd (let f : 2 ≡ 1 = e in cc)
same_schema Second Second e = refl
same_schema Second Third e = absurd (let f : 2 ≡ 3 = e in cc)
same_schema Third First e = absurd (let f : 3 ≡ 1 = e in cc)
same_schema Third Second e = absurd (let f : 3 ≡ 2 = e in cc)
same_schema Third Third e = refl

pub one_schema : (a b : known.Schema) → (t u : Tables) → (db : Database) → HasDeskTablesInSchema (abstract_schema a) t db → HasDeskTablesInSchema (abstract_schema b) u db → (a ≡ b) × (t ≡ u)
one_schema a b t u db h k =
    let e : a ≡ b = same_schema a b (number_alike (abstract_schema a) (abstract_schema b) t u (both_alike TheDesk (abstract_schema a) (abstract_schema b) t u db h k refl refl)) in
    (e, one_of_schema (abstract_schema a) t u db h (subst (λ (c : known.Schema). HasDeskTablesInSchema (abstract_schema c) u db) (sym e) k))
