-- A SELECT of a whole table by its key returns exactly the records that the table holds.
use Rattle.std.proofs.Common.{◌≡◌, ℕ, List, [], ◌∷◌, map, Bool, true, None, refl, sym, ap, subst, ◌∙◌}
use Rattle.std.specs.Cmp.{IsTotalOrder}
use Rattle.std.specs.List.Sorted.{IsPermutation}
use Rattle.std.proofs.lemmas.Bool.{and_parts}
use Rattle.std.proofs.lemmas.List.Sorted.{IsPermutation-map}
use Rattle.sqlite_value.specs.declared.keys.Key.{Key}
use Rattle.sqlite_value.specs.Order.{Row}
use Rattle.sqlite_sql.specs.Term.{Term, eval_all}
use Rattle.sqlite.specs.State.{State, Shown}
use Rattle.brk_tables_sql.specs.Rows.{cells_in_column_order}
use Rattle.brk_tables_sql.proofs.Lowered.{key_at}
use Rattle.brk_tables_sql.proofs.Asked.{Ask, IsAsked, columns_of}
use Rattle.brk_tables_sql.proofs.Adopted.{adopted_in_order}
use Rattle.brk_tables_sql.proofs.Decode.{filter_true}
use Rattle.brk_tables_sql.proofs.Kept.{reads_rising}
use Rattle.brk_tables_sql.proofs.Order.{map_on}
use Rattle.brk_tables_sql.proofs.Pick.{sorted_by, whole_page}
use Rattle.brk_tables_sql.proofs.Told.{cells_cmp, compared_are, picked, query_at}
use Rattle.brk_tables_schema.specs.Desk.{DeskTable, RecordOfTable, table_definition_at_tree, encoded_row, ordering_by_primary_key, desk_tables}
use Rattle.brk_tables_scan.specs.Whole.{ShowsAllRows}
use Rattle.brk_tables_scan.proofs.Keyed.{IsOnce}

-- all columns of a table in the order of its key
abbrev pub all_of : List ℕ → List (ℕ × Bool) → Ask
all_of ks by = record { shown = ks; tests = None; by = by; limit = None; offset = None }

module _ (w : DeskTable) (total : IsTotalOrder (ordering_by_primary_key w)) (once : IsOnce w) (text : List ℕ) (ks : List ℕ) (by : List (ℕ × Bool))
    (is : IsAsked (table_definition_at_tree w) text (all_of ks by) whole_page)
    (shows : (tree : ℕ) (r : Row) → eval_all (map (λ o. o.term) (columns_of (table_definition_at_tree w tree) (all_of ks by))) ([] ∷ r ∷ []) ≡ cells_in_column_order (table_definition_at_tree w tree) r)
    (same : (tree : ℕ) (x y : RecordOfTable w) → cells_cmp (table_definition_at_tree w tree) by (encoded_row w x) (encoded_row w y) ≡ ordering_by_primary_key w x y)
    (old new : State) (rows : List Row) (shown : Shown text [] old new rows) where
  abbrev project : ℕ → List Term
  project tree = map (λ o. o.term) (columns_of (table_definition_at_tree w tree) (all_of ks by))

  abbrev order : ℕ → List (Term × Key)
  order tree = map (key_at (table_definition_at_tree w tree)) by

  sorts : (tree : ℕ) (a b : Row) (x y : RecordOfTable w) → cells_in_column_order (table_definition_at_tree w tree) a ≡ encoded_row w x
      → cells_in_column_order (table_definition_at_tree w tree) b ≡ encoded_row w y → sorted_by [] (order tree) a b ≡ ordering_by_primary_key w x y
  sorts tree a b x y e f =
      compared_are (table_definition_at_tree w tree) [] a b (encoded_row w x) (encoded_row w y) by (and_parts _ _ (and_parts _ _ (is.sound tree)).1).0 e f ∙ same tree x y

  pub shows_all : ShowsAllRows w rows old.now
  shows_all at tree h =
      let query = query_at desk_tables w text (all_of ks by) whole_page is tree in
      let k = picked desk_tables w text (all_of ks by) whole_page is [] old new rows shown at tree h in
      let each = map_on (λ r. eval_all (project tree) ([] ∷ r ∷ [])) (cells_in_column_order (table_definition_at_tree w tree)) k.picked (λ r there. shows tree r) in
      record {
        all = subst (λ l. IsPermutation (map (cells_in_column_order (table_definition_at_tree w tree)) (old.now.trees tree)) l) (sym (k.is ∙ each))
            (IsPermutation-map (cells_in_column_order (table_definition_at_tree w tree)) (old.now.trees tree) k.picked
            (subst (λ l. IsPermutation l k.picked) (filter_true (old.now.trees tree)) k.same));
        rows_encode_records = λ xs holds.
            reads_rising (table_definition_at_tree w tree) (encoded_row w) (ordering_by_primary_key w) xs (old.now.trees tree) holds
            query [] [] (project tree) (order tree) rows k (λ _. true) (λ r x e. refl) (encoded_row w) (λ r x e. shows tree r ∙ e)
            (ordering_by_primary_key w) (sorts tree) total (λ x y. refl)
            ∙ ap (map (encoded_row w)) (filter_true xs);
        table_holds_records = λ xs sound keyed is.
            adopted_in_order desk_tables w total once old.now sound at tree h keyed.keyed keyed.apart query [] (project tree) (order tree)
            rows k (λ rs. refl) (shows tree) (sorts tree) xs is;
      }
