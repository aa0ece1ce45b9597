-- The records of the tables, from the rows of a result.
use Rattle.std.proofs.Common.{◌≡◌, ◌⊎◌, ℕ, List, [], ◌∷◌, ◌++◌, map, Result, Ok, Err, OnOk, IfErr, IsTrue, refl, sym, ap, ◌∙◌, inl, inr}
use Rattle.sqlite_value.specs.Order.{Row}
use Rattle.sqlite_trees.specs.declared.store.Store.{Ghosts}
use Rattle.sqlite_keyed.proofs.ListLemmas.{map_back}
use Rattle.sqlite.specs.Held.{Held, state}
use Rattle.sqlite.specs.State.{HasCleanDisk, Survives, IsUnchanged, IsRolledBack, Shown, Begins}
use Rattle.brk_model.specs.Tables.{Tables}
use Rattle.brk_tables_sql.specs.Desk.{TablesSatisfy}
use Rattle.brk_tables_sql.proofs.Decode.{all_are}
use Rattle.brk_tables_sql.proofs.Order.{map_twice}
use Rattle.brk_tables_schema.specs.Desk.{desk_tables}
use Rattle.brk_tables_views.specs.declared.walking.WalkError.{WalkError}
use Rattle.brk_tables_views.specs.declared.walking.WalkError.TheVariants.{Failed, Cause}
use Rattle.brk_tables_views.specs.Walk.{TakesAllRecords, IsWalkError, WalkEndsEarly}
use Rattle.brk_tables_views.specs.Walks.{AreAllRecordsOfList, IsPrefixOfList, TableWalkEndsEarly, TakesListSatisfying, TableWalkPost}

map_parts : {X Y : Type 0} (f : X → Y) (xs ys : List X) → map f (xs ++ ys) ≡ map f xs ++ map f ys
map_parts f [] ys = refl
map_parts f (x ∷ xs) ys = ap (λ l. f x ∷ l) (map_parts f xs ys)

module _ {X M : Type 0} (of : X → M) (cells : M → Row) (back : Row → M) (is_back : (m : M) → back (cells m) ≡ m) where
  -- the records of rows with more behind them
  first_are : (xs : List X) (tail : List Row) (ms : List M) → map (λ x. cells (of x)) xs ++ tail ≡ map cells ms → map of xs ++ map back tail ≡ ms
  first_are xs tail ms e =
      ap (λ l. l ++ map back tail) (sym (map_back cells back is_back (map of xs)) ∙ ap (map back) (map_twice cells of xs))
      ∙ sym (map_parts back (map (λ x. cells (of x)) xs) tail) ∙ ap (map back) e ∙ map_back cells back is_back ms

  module _ {S V E : Type 0} (g : Ghosts S) (old new : Held S) (list : Tables → List M) (takes : V → X → V → Type 0) (stops : V → X → E → V → Type 0)
      (before after : V) (result : Result (Unit {0}) (WalkError E))
      (sql : List ℕ) (params : Row)
      (tells : (rows : List Row) → Shown sql params (state g old) (state g old) rows → TablesSatisfy desk_tables (λ t. rows ≡ map cells (list t)) (state g old).now)
      (starts : (rows : List Row) → IsTrue (state g old).is_open → Begins sql params (state g old) rows
      → TablesSatisfy desk_tables (λ t. (tail : List Row) × (rows ++ tail ≡ map cells (list t))) (state g old).now) where
    are_first : (xs : List X) → (xs ≡ []) ⊎ (IsTrue (state g old).is_open × Begins sql params (state g old) (map (λ x. cells (of x)) xs)) → IsPrefixOfList (state g old) list (map of xs)
    are_first xs (inl none) = inl (ap (map of) none)
    are_first xs (inr h) = inr (h.0, λ t has. let it = starts _ h.0 h.1 t has.0 has.1 in (map back it.0, first_are xs it.0 (list t) it.1))

    breaks_off : (stop : WalkError E) → WalkEndsEarly (λ x. cells (of x)) takes stops sql params (state g old) before after stop
        → TableWalkEndsEarly (IsPrefixOfList (state g old) list) of takes stops before after stop
    breaks_off (Cause e) h = (h.records, h.next, h.at, h.taken, h.stopped, are_first (h.records ++ h.next ∷ []) (inr (h.is_open, h.begins)))
    breaks_off (Failed fault) h = (h.records, h.taken, are_first h.records h.begins)

    same_at : (IsTrue (state g old).is_open → (state g old).now ≡ (state g old).committed) → IsUnchanged (state g old) (state g new)
        ⊎ IsRolledBack (state g old) (state g new) → IsTrue (state g new).is_open
        → IsTrue (state g old).is_open × ((state g new).now ≡ (state g old).now) × ((state g new).committed ≡ (state g old).committed)
    same_at settled (inl u) o = (u.0.was_open, u.0.now_is, u.0.committed_is)
    same_at settled (inr r) o = let was = r.was_open o in (was, (r.undone o).0 ∙ sym (settled was), (r.undone o).1)

    pub walks : Survives (state g old) (state g new) (λ _. ⊥) → (IsTrue (state g old).is_open → (state g old).now ≡ (state g old).committed)
        → (HasCleanDisk (state g new) → OnOk result (TakesAllRecords (λ x. cells (of x)) takes sql params (state g old) before after))
        → (HasCleanDisk (state g new) → IfErr result (WalkEndsEarly (λ x. cells (of x)) takes stops sql params (state g old) before after))
        → (HasCleanDisk (state g new) → IsUnchanged (state g old) (state g new) ⊎ IsRolledBack (state g old) (state g new))
        → IfErr result (IsWalkError stops after) → TableWalkPost g old new of list takes stops before after result
    walks survives settled all early kept fault = record {
      all = λ clean. done result (all clean);
      early = λ clean. broken result (early clean);
      fault = fault;
      unchanged_if_open = λ clean o. same_at settled (kept clean) o;
      survives = survives;
    }
      where
        done : (r : Result (Unit {0}) (WalkError E)) → OnOk r (TakesAllRecords (λ x. cells (of x)) takes sql params (state g old) before after)
            → OnOk r (TakesListSatisfying (AreAllRecordsOfList (state g old) list) of takes before after)
        done (Ok x) h = (h.records, h.taken, (h.is_open, (λ t has. all_are cells back is_back of h.records _ _ (list t) refl refl (tells _ h.shown t has.0 has.1))))
        done (Err e) h = tt

        broken : (r : Result (Unit {0}) (WalkError E)) → IfErr r (WalkEndsEarly (λ x. cells (of x)) takes stops sql params (state g old) before after)
            → IfErr r (TableWalkEndsEarly (IsPrefixOfList (state g old) list) of takes stops before after)
        broken (Ok x) h = tt
        broken (Err stop) h = breaks_off stop h
