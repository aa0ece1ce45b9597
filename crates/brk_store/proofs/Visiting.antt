-- Walks of rows that were read: by an index, and passed to a visitor.
use Rattle.std.proofs.Common.{◌≡◌, ◌∙◌, ◌+◌, ◌<◌, List, [], ◌∷◌, ◌++◌, Result, Ok, Err, IfErr, IfOk, OnOk, IsTrue, ℕ, drop, get_or, length, map, refl, sym, ap, subst, take, arith}
use Rattle.std.specs.Global.{Vec}
use Rattle.std.specs.List.{FoldsTo}
use Rattle.std.proofs.lemmas.Grind.{common_steps}
use Rattle.std.proofs.lemmas.List.{map-append, take-append-drop, take_more}
use Rattle.sqlite_trees.specs.declared.store.Store.{Ghosts}
use Rattle.sqlite.specs.Held.{Held, state}
use Rattle.brk_model.specs.Tables.{Tables}
use Rattle.brk_money.specs.declared.fault.CallFault.{CallFault}
use Rattle.brk_store_transactions.specs.Holds.{HoldsRows, ReadPost}
use Rattle.brk_tables_views.specs.Walk.{IsWalkError}
use Rattle.brk_tables_views.specs.Walks.{TableWalkEndsEarly, TakesListSatisfying}
use Rattle.brk_tables_views.specs.declared.walking.WalkError.{WalkError}
use Rattle.brk_tables_views.specs.declared.walking.WalkError.TheVariants.{Failed, Cause}
use Rattle.brk_tables_views.proofs.Walked.{folds_one}
use Rattle.brk_store.specs.Visits.{StopsWithinRows, VisitsReadRows}
use Rattle.brk_store.specs.Walked.{EqualsStoredList, IsPrefixOfStoredList, WalkPost}

-- ---- one more row

pub took_one : {X V : Type 0} (takes : V → X → V → Type 0) (before at after : V) (rows : List X) (i : ℕ) (row : X) → i < length rows → row ≡ get_or rows i row
    → FoldsTo takes before (take i rows) at → takes at row after → FoldsTo takes before (take (i + 1) rows) after
took_one takes before at after rows i row inside is folds one =
    subst (λ l. FoldsTo takes before l after) (ap (λ z. take i rows ++ z ∷ []) is ∙ sym (take_more rows i row inside)) (folds_one takes before (take i rows) at row after folds one)

pub stopped_within : {X V E : Type 0} (takes : V → X → V → Type 0) (stops : V → X → E → V → Type 0) (before at after : V) (rows : List X) (i : ℕ) (row : X) (e : E) → i < length rows → row ≡ get_or rows i row
    → FoldsTo takes before (take i rows) at → stops at row e after → StopsWithinRows takes stops rows before e after
stopped_within takes stops before at after rows i row e inside is folds stopped =
    let here : drop i rows ≡ row ∷ drop (i + 1) rows = grind (arith, common_steps) in
    (take i rows, row, drop (i + 1) rows, at, sym (take-append-drop i rows) ∙ ap (λ l. take i rows ++ l) here, folds, stopped)

-- ---- the walk

one_list : {X : Type 0} (xs : List X) (x : X) (ys : List X) → (xs ++ x ∷ []) ++ ys ≡ xs ++ x ∷ ys
one_list [] x ys = refl
one_list (z ∷ zs) x ys = ap (λ l. z ∷ l) (one_list zs x ys)

module _ {S X M V E : Type 0} (g : Ghosts S) (old end : Held S) (of : X → M) (list : Tables → List M) (takes : V → X → V → Type 0) (stops : V → X → E → V → Type 0) (before after : V) where
  -- what a read that returned rows tells of them
  abbrev Told : Result (Vec X) CallFault → Type 0
  Told r = IfOk r (λ rows. (t : Tables) → HoldsRows g old t → map of rows.items ≡ list t)

  pub walk_of_read : (read : Result (Vec X) CallFault) (result : Result (Unit {0}) (WalkError E)) → ReadPost g old end read (λ rows t. map of rows.items ≡ list t)
      → VisitsReadRows takes stops read before after result → WalkPost g old end of list takes stops before after result
  walk_of_read read result post visits = record {
    all = λ clean. all read result (post.answered clean) visits;
    early = λ clean. early read result (post.answered clean) visits;
    fault = fault read result visits;
    was_open = λ clean. was_open read result (post.was_open clean) visits;
    same_rows = post.same_rows;
    unchanged_if_open = post.unchanged_if_open;
    survives = post.survives;
  }
    where
      all : (r : Result (Vec X) CallFault) (result : Result (Unit {0}) (WalkError E)) → Told r → VisitsReadRows takes stops r before after result
          → OnOk result (TakesListSatisfying (EqualsStoredList g old list) of takes before after)
      all (Ok rows) (Ok u) told v = (rows.items, v, told)
      all (Ok rows) (Err e) told v = tt
      all (Err fault) (Ok u) told v = absurd (let f = v.0 in cc)
      all (Err fault) (Err e) told v = tt

      early : (r : Result (Vec X) CallFault) (result : Result (Unit {0}) (WalkError E)) → Told r → VisitsReadRows takes stops r before after result
          → IfErr result (TableWalkEndsEarly (IsPrefixOfStoredList g old list) of takes stops before after)
      early (Ok rows) (Ok u) told v = tt
      early (Ok rows) (Err (Failed fault)) told v = absurd v
      early (Ok rows) (Err (Cause e)) told (taken, next, rest, at, whole, folds, stopped) = (
        taken,
        next,
        at,
        folds,
        stopped,
        λ t holds. (map of rest, sym (map-append of (taken ++ next ∷ []) rest) ∙ ap (map of) (one_list taken next rest ∙ sym whole) ∙ told t holds),
      )
      early (Err fault) (Ok u) told v = tt
      early (Err fault) (Err (Failed f)) told v = ([], sym v.1, λ t holds. (list t, refl))
      early (Err fault) (Err (Cause e)) told v = absurd (let f = v.0 in cc)

      fault : (r : Result (Vec X) CallFault) (result : Result (Unit {0}) (WalkError E)) → VisitsReadRows takes stops r before after result → IfErr result (IsWalkError stops after)
      fault r (Ok u) v = tt
      fault r (Err (Failed f)) v = tt
      fault (Ok rows) (Err (Cause e)) (taken, next, rest, at, whole, folds, stopped) = (at, next, stopped)
      fault (Err f) (Err (Cause e)) v = absurd (let h = v.0 in cc)

      was_open : (r : Result (Vec X) CallFault) (result : Result (Unit {0}) (WalkError E)) → OnOk r (IsTrue (state g old).is_open) → VisitsReadRows takes stops r before after result
          → OnOk result (IsTrue (state g old).is_open)
      was_open (Ok rows) (Ok u) on v = on
      was_open (Ok rows) (Err e) on v = tt
      was_open (Err none) (Ok u) on v = absurd (let f = v.0 in cc)
      was_open (Err none) (Err e) on v = tt
