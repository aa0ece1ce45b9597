-- Rows that are read by their ages.
use Rattle.std.proofs.Common.{◌≡◌, ◌∙◌, ◌+◌, ◌<◌, ◌≤◌, ℕ, zero, suc, Bool, true, false, List, [], ◌∷◌, ◌++◌, Option, Some, None, Result, Ok, Err, IfOk, OnOk, IsTrue, get_or, length, map, take, drop, slice_get, refl, sym, ap, ap₂, subst, arith}
use Rattle.std.proofs.lemmas.List.{length-drop, take_all, take_more}
use Rattle.sqlite_trees.specs.declared.store.Store.{Ghosts}
use Rattle.sqlite.specs.Held.{Held, state}
use Rattle.sqlite.specs.State.{HasCleanDisk}
use Rattle.brk_model.specs.Tables.{Tables}
use Rattle.brk_store_index.specs.Ages.{IsPlaceOfStamp, in_order}
use Rattle.brk_store_index.specs.declared.age.RowAge.{RowAge}
use Rattle.brk_store_transactions.specs.Holds.{HoldsRows, ReadPost}
use Rattle.brk_store_reads.specs.RowsByAge.{AreRowsOfAges}
use Rattle.brk_store_reads.specs.ReadSequences.{IsUnchangedByReads, disk_was_clean_before_reads, joined_reads_change_nothing, single_read_changes_nothing}

-- ---- reads

module _ {S : Type 0} (g : Ghosts S) where
  -- what was read tells this too, of a store that was open
  pub read_weaker : (old end : Held S) {V E : Type 0} (result : Result V E) (P R : V → Tables → Type 0)
      → (HasCleanDisk (state g end) → IsTrue (state g old).is_open → (v : V) (t : Tables) → HoldsRows g old t → P v t → R v t)
      → ReadPost g old end result P → ReadPost g old end result R
  read_weaker old end {V} {E} result P R tell read = record {
    answered = λ clean. go result (read.was_open clean) (tell clean) (read.answered clean);
    was_open = read.was_open;
    same_rows = read.same_rows;
    unchanged_if_open = read.unchanged_if_open;
    survives = read.survives;
  }
    where
      go : (r : Result V E) → OnOk r (IsTrue (state g old).is_open) → (IsTrue (state g old).is_open → (v : V) (t : Tables) → HoldsRows g old t → P v t → R v t)
          → IfOk r (λ v. (t : Tables) → HoldsRows g old t → P v t) → IfOk r (λ v. (t : Tables) → HoldsRows g old t → R v t)
      go (Ok v) on f h = λ t holds. f on v t holds (h t holds)
      go (Err e) on f h = tt

  -- a store of which a read after reads returned a value was open
  pub was_open_before : (old mid end : Held S) {V E : Type 0} (v : V) (P : V → Tables → Type 0) → IsUnchangedByReads g old mid → ReadPost {E = E} g mid end (Ok v) P
      → HasCleanDisk (state g end) → IsTrue (state g old).is_open
  was_open_before old mid end v P before read clean =
      (before.unchanged_if_open (disk_was_clean_before_reads mid end (single_read_changes_nothing mid end (Ok v) P read) clean) (read.was_open clean)).was_open

  -- a read after reads without a result
  pub then_read : (old mid end : Held S) {V E : Type 0} (result : Result V E) (P : V → Tables → Type 0) → IsUnchangedByReads g old mid → ReadPost g mid end result P → ReadPost g old end result P
  then_read old mid end {V} {E} result P before read = record {
    answered = λ clean. tells result (read.answered clean);
    was_open = λ clean. opens result (disk_was_clean_before_reads mid end (single_read_changes_nothing mid end result P read) clean) (read.was_open clean);
    same_rows = both.same_rows;
    unchanged_if_open = both.unchanged_if_open;
    survives = both.survives;
  }
    where
      both : IsUnchangedByReads g old end
      both = joined_reads_change_nothing old mid end before (single_read_changes_nothing mid end result P read)

      tells : (o : Result V E) → IfOk o (λ answer. (t : Tables) → HoldsRows g mid t → P answer t) → IfOk o (λ answer. (t : Tables) → HoldsRows g old t → P answer t)
      tells (Ok answer) h = λ t holds. h t (before.same_rows t holds)
      tells (Err e) h = tt

      opens : (o : Result V E) → HasCleanDisk (state g mid) → OnOk o (IsTrue (state g mid).is_open) → OnOk o (IsTrue (state g old).is_open)
      opens (Ok answer) clean on = (before.unchanged_if_open clean on).was_open
      opens (Err e) clean on = tt

-- ---- lists

-- one more row of an age is read
pub one_age : {X : Type 0} (es : List X) (n : ℕ) (a : X) → slice_get es n ≡ Some a → (m : ℕ) (k : ℕ) → n ≡ k + m → take (m + 1) (drop k es) ≡ take m (drop k es) ++ a ∷ []
one_age es n a is m k sum = next (drop k es) m a (sym (got k es m) ∙ ap (slice_get es) (sym sum) ∙ is)
  where
    got : {X : Type 0} (k : ℕ) (xs : List X) (m : ℕ) → slice_get xs (k + m) ≡ slice_get (drop k xs) m
    got zero xs m = let e : 0 + m ≡ m = omega arith in ap (slice_get xs) e
    got (suc k) [] m = let e : suc k + m ≡ suc (k + m) = omega arith in ap (slice_get []) e
    got (suc k) (x ∷ xs) m = let e : suc k + m ≡ suc (k + m) = omega arith in ap (slice_get (x ∷ xs)) e ∙ got k xs m

    next : {X : Type 0} (xs : List X) (m : ℕ) (a : X) → slice_get xs m ≡ Some a → take (m + 1) xs ≡ take m xs ++ a ∷ []
    next [] m a e = absurd (let f = e in cc)
    next (x ∷ xs) zero a e = let same : x ≡ a = cc in ap (λ z. z ∷ []) same
    next (x ∷ xs) (suc m) a e = let f : suc m + 1 ≡ suc (m + 1) = omega arith in ap (λ j. take j (x ∷ xs)) f ∙ ap (λ l. x ∷ l) (next xs m a e)

-- no more ages are there
pub no_age : {X : Type 0} (es : List X) (n : ℕ) → None ≡ slice_get es n → (m : ℕ) (k most : ℕ) → n ≡ k + m → m ≤ most → take m (drop k es) ≡ take most (drop k es)
no_age es n none m k most sum within =
    let all : length es ≤ n = past es n (sym none) in
    let few : length (drop k es) ≤ m = omega (arith, length-drop k es) in
    take_all m (drop k es) few ∙ sym (take_all most (drop k es) (omega (arith, few)))
  where
    past : {X : Type 0} (xs : List X) (n : ℕ) → slice_get xs n ≡ None → length xs ≤ n
    past [] n e = omega arith
    past (x ∷ xs) zero e = absurd (let f = e in cc)
    past (x ∷ xs) (suc n) e = let more = past xs n e in omega (arith, more)

-- ---- the rows of ages

pub no_row : {X : Type 0} (IsRowOf : RowAge → X → Type 0) (rows : List X) → rows ≡ [] → AreRowsOfAges IsRowOf [] rows
no_row IsRowOf rows none = subst (AreRowsOfAges IsRowOf []) (sym none) tt

both_pushed : {X : Type 0} (IsRowOf : RowAge → X → Type 0) (ages : List RowAge) (age : RowAge) (rows : List X) (row : X) → AreRowsOfAges IsRowOf ages rows → IsRowOf age row
    → AreRowsOfAges IsRowOf (ages ++ age ∷ []) (rows ++ row ∷ [])
both_pushed IsRowOf [] age [] row all is = (is, tt)
both_pushed IsRowOf [] age (r ∷ rows) row all is = absurd all
both_pushed IsRowOf (a ∷ ages) age [] row all is = absurd all
both_pushed IsRowOf (a ∷ ages) age (r ∷ rows) row all is = (all.0, both_pushed IsRowOf ages age rows row all.1 is)

-- the row of one more age
pub one_row : {X : Type 0} (IsRowOf : RowAge → X → Type 0) (ages : List RowAge) (i : ℕ) (age : RowAge) (rows more : List X) (row : X) → i < length ages → age ≡ get_or ages i age
    → more ≡ rows ++ row ∷ [] → AreRowsOfAges IsRowOf (take i ages) rows → IsRowOf age row → AreRowsOfAges IsRowOf (take (i + 1) ages) more
one_row IsRowOf ages i age rows more row inside is pushed all found =
    let next : take (i + 1) ages ≡ take i ages ++ age ∷ [] = take_more ages i age inside ∙ sym (ap (λ z. take i ages ++ z ∷ []) is) in
    subst (λ l. AreRowsOfAges IsRowOf (take (i + 1) ages) l) (sym pushed)
    (subst (λ l. AreRowsOfAges IsRowOf l (rows ++ row ∷ [])) (sym next) (both_pushed IsRowOf (take i ages) age rows row all found))

-- the rows are those that a look-up finds of the ages
pub found_of_ages : {X Y : Type 0} (h : X → Y) (f : RowAge → Option Y) (ages : List RowAge) (rows : List X) → AreRowsOfAges (λ age row. Some (h row) ≡ f age) ages rows
    → map Some (map h rows) ≡ map f ages
found_of_ages h f [] [] all = refl
found_of_ages h f [] (r ∷ rows) all = absurd all
found_of_ages h f (a ∷ ages) [] all = absurd all
found_of_ages h f (a ∷ ages) (r ∷ rows) all = ap₂ ◌∷◌ all.0 (found_of_ages h f ages rows all.1)

drop_none : (n : ℕ) (xs : List RowAge) → xs ≡ [] → drop n xs ≡ []
drop_none zero xs e = e
drop_none (suc n) [] e = refl
drop_none (suc n) (x ∷ xs) e = absurd (let f = e in cc)

take_none : (n : ℕ) (xs : List RowAge) → xs ≡ [] → take n xs ≡ []
take_none zero xs e = refl
take_none (suc n) [] e = refl
take_none (suc n) (x ∷ xs) e = absurd (let f = e in cc)

pub no_ages : (lifo : Bool) (skipped most : ℕ) → take most (drop skipped (in_order {X = RowAge} lifo [])) ≡ []
no_ages true skipped most = take_none most (drop skipped []) (drop_none skipped [] refl)
no_ages false skipped most = take_none most (drop skipped []) (drop_none skipped [] refl)

-- ---- the place of a stamp in no ages

pub place_in_none : (stamp : ℕ) (included : Bool) → IsPlaceOfStamp [] stamp included 0
place_in_none stamp included = record { within = omega arith; before = λ up. tt; rest = λ up. tt }
