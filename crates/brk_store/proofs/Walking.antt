-- Walks of a store, from walks of its tables.
use Rattle.std.proofs.Common.{◌≡◌, List, [], ◌∷◌, ◌++◌, map, Result, Ok, Err, OnOk, IfErr, IsTrue, sym, ap, subst, ◌∙◌, inl, inr}
use Rattle.std.specs.List.{FoldsTo}
use Rattle.sqlite_trees.specs.declared.store.Store.{Ghosts}
use Rattle.sqlite.specs.Held.{Held, state}
use Rattle.sqlite.specs.State.{HasCleanDisk}
use Rattle.brk_model.specs.Tables.{Tables}
use Rattle.brk_tables_sql.proofs.Inside.{clean_before}
use Rattle.brk_tables_schema.specs.Made.{HasDeskTables}
use Rattle.brk_tables_views.specs.Walk.{IsWalkError}
use Rattle.brk_tables_views.specs.Walks as tables
use Rattle.brk_tables_views.specs.Walks.{TableWalkEndsEarly, TakesListSatisfying, TableWalkPost}
use Rattle.brk_tables_views.specs.declared.walking.WalkError.{WalkError}
use Rattle.brk_tables_views.specs.declared.walking.WalkError.TheVariants.{Failed, Cause}
use Rattle.brk_store.specs.Walked.{EqualsStoredList, IsPrefixOfStoredList, WalkPost}

-- ---- one walk

module _ {S X M V E : Type 0} (g : Ghosts S) (old new : Held S) (of : X → M) (walked list : Tables → List M) (takes : V → X → V → Type 0) (stops : V → X → E → V → Type 0) (before after : V)
    (same : (t : Tables) → HasDeskTables t (state g old).now → walked t ≡ list t) where
  clean_at : (result : Result (Unit {0}) (WalkError E)) → TableWalkPost g old new of walked takes stops before after result → HasCleanDisk (state g new) → HasCleanDisk (state g old)
  clean_at result w clean = clean_before (state g old) (state g new) (λ _. ⊥) w.survives clean

  first_of : HasCleanDisk (state g old) → (first : List M) → tables.IsPrefixOfList (state g old) walked first → IsPrefixOfStoredList g old list first
  first_of clean first (inl none) t holds = (list t, ap (λ l. l ++ list t) none)
  first_of clean first (inr h) t holds = let has = holds clean h.0 in let it = h.1 t has in (it.0, it.1 ∙ same t has)

  breaks_of : HasCleanDisk (state g old) → (stop : WalkError E)
      → TableWalkEndsEarly (tables.IsPrefixOfList (state g old) walked) of takes stops before after stop
      → TableWalkEndsEarly (IsPrefixOfStoredList g old list) of takes stops before after stop
  breaks_of clean (Failed fault) h = (h.0, h.1, first_of clean (map of h.0) h.2)
  breaks_of clean (Cause e) h = (h.0, h.1, h.2, h.3, h.4, first_of clean (map of (h.0 ++ h.1 ∷ [])) h.5)

  pub is_walked : (result : Result (Unit {0}) (WalkError E)) → TableWalkPost g old new of walked takes stops before after result → WalkPost g old new of list takes stops before after result
  is_walked result w = record {
    all = λ clean. done result (clean_at result w clean) (w.all clean);
    early = λ clean. broken result (clean_at result w clean) (w.early clean);
    fault = w.fault;
    was_open = λ clean. opens result (w.all clean);
    same_rows = λ t holds clean o. let k = w.unchanged_if_open clean o in subst (HasDeskTables t) (sym k.1) (holds (clean_at result w clean) k.0);
    unchanged_if_open = λ clean o. let k = w.unchanged_if_open clean o in record { was_open = k.0; now = k.1; committed = k.2 };
    survives = w.survives;
  }
    where
      done : (r : Result (Unit {0}) (WalkError E)) → HasCleanDisk (state g old)
          → OnOk r (TakesListSatisfying (tables.AreAllRecordsOfList (state g old) walked) of takes before after)
          → OnOk r (TakesListSatisfying (EqualsStoredList g old list) of takes before after)
      done (Ok u) clean h = (h.0, h.1, λ t holds. let has = holds clean h.2.0 in h.2.1 t has ∙ same t has)
      done (Err stop) clean h = tt

      opens : (r : Result (Unit {0}) (WalkError E)) → OnOk r (TakesListSatisfying (tables.AreAllRecordsOfList (state g old) walked) of takes before after) → OnOk r (IsTrue (state g old).is_open)
      opens (Ok u) h = h.2.0
      opens (Err stop) h = tt

      broken : (r : Result (Unit {0}) (WalkError E)) → HasCleanDisk (state g old)
          → IfErr r (TableWalkEndsEarly (tables.IsPrefixOfList (state g old) walked) of takes stops before after)
          → IfErr r (TableWalkEndsEarly (IsPrefixOfStoredList g old list) of takes stops before after)
      broken (Ok u) clean h = tt
      broken (Err stop) clean h = breaks_of clean stop h

-- ---- a walk that calls a closure is one over the closure's states

folds_inner : {V W X : Type 0} (inner : W → V) (takes : V → X → V → Type 0) (p : W) (xs : List X) (q : W) → FoldsTo (λ v x w. takes (inner v) x (inner w)) p xs q → FoldsTo takes (inner p) xs (inner q)
folds_inner inner takes p [] q h = ap inner h
folds_inner inner takes p (x ∷ xs) q h = (inner h.0, h.1, folds_inner inner takes h.0 xs q h.2)

pub is_walked_by : {S X M V W E : Type 0} (g : Ghosts S) (old new : Held S) (of : X → M) (list : Tables → List M) (inner : W → V) (takes : V → X → V → Type 0)
    (stops : V → X → E → V → Type 0) (before after : W) (result : Result (Unit {0}) (WalkError E))
    → WalkPost g old new of list (λ p x q. takes (inner p) x (inner q)) (λ p x e q. stops (inner p) x e (inner q)) before after result
    → WalkPost g old new of list takes stops (inner before) (inner after) result
is_walked_by {S} {X} {M} {V} {W} {E} g old new of list inner takes stops before after result w = record {
  all = λ clean. done result (w.all clean);
  early = λ clean. broken result (w.early clean);
  fault = ends result w.fault;
  was_open = w.was_open;
  same_rows = w.same_rows;
  unchanged_if_open = w.unchanged_if_open;
  survives = w.survives;
}
  where
    done : (r : Result (Unit {0}) (WalkError E))
        → OnOk r (TakesListSatisfying (EqualsStoredList g old list) of (λ p x q. takes (inner p) x (inner q)) before after)
        → OnOk r (TakesListSatisfying (EqualsStoredList g old list) of takes (inner before) (inner after))
    done (Ok u) h = (h.0, folds_inner inner takes before h.0 after h.1, h.2)
    done (Err stop) h = tt

    broken : (r : Result (Unit {0}) (WalkError E))
        → IfErr r (TableWalkEndsEarly (IsPrefixOfStoredList g old list) of (λ p x q. takes (inner p) x (inner q)) (λ p x e q. stops (inner p) x e (inner q))
        before after)
        → IfErr r (TableWalkEndsEarly (IsPrefixOfStoredList g old list) of takes stops (inner before) (inner after))
    broken (Ok u) h = tt
    broken (Err (Failed fault)) h = (h.0, folds_inner inner takes before h.0 after h.1, h.2)
    broken (Err (Cause e)) h = (h.0, h.1, inner h.2, folds_inner inner takes before h.0 h.2 h.3, h.4, h.5)

    ends : (r : Result (Unit {0}) (WalkError E)) → IfErr r (IsWalkError (λ p x e q. stops (inner p) x e (inner q)) after) → IfErr r (IsWalkError stops (inner after))
    ends (Ok u) h = tt
    ends (Err (Failed fault)) h = h
    ends (Err (Cause e)) h = (inner h.0, h.1, h.2)
