-- A walk whose visitor passes some records on: those of a broker's accounts.
use Rattle.std.proofs.Common.{◌≡◌, ◌∙◌, ◌==◌, ◌≤◌, ◌&&◌, ◌||◌, ◌++◌, ◌∷◌, [], ℕ, suc, Bool, true, false, cond, arith, IsTrue, List, Option, Some, Ok, Err, OnOk}
use Rattle.std.proofs.Common.{IfErr, Result, ap, filter, find, length, map, refl, subst, sym}
use Rattle.std.specs.Prelude.{nat_lt}
use Rattle.std.specs.List.{AllByRecursion, FoldsTo, list_any}
use Rattle.std.specs.Option.{option_map_or}
use Rattle.std.proofs.lemmas.Bool.Decides.{nat_tests}
use Rattle.std.proofs.lemmas.List.Elements.{filter-append}
use Rattle.sqlite_trees.specs.declared.store.Store.{Ghosts}
use Rattle.sqlite.specs.Held.{Held, state}
use Rattle.sqlite.specs.State.{HasCleanDisk}
use Rattle.brk_money.specs.declared.fault.CallFault.{CallFault}
use Rattle.brk_model.specs.Tables.{AccountRow, Tables, TradeRow}
use Rattle.brk_tables_views.specs.Walk.{IsWalkError}
use Rattle.brk_tables_views.specs.Walks.{TableWalkEndsEarly, TakesListSatisfying}
use Rattle.brk_tables_views.specs.declared.walking.WalkError.{WalkError}
use Rattle.brk_tables_views.specs.declared.walking.WalkError.TheVariants.{Failed, Cause}
use Rattle.brk_model_explain.specs.BrokerLines.{accounts_with_broker, broker_of_account_or_zero, completed_trades_of_broker}
use Rattle.brk_store_transactions.specs.Holds.{HoldsRows, ReadPost}
use Rattle.brk_store_reads.specs.ReadSequences.{IsUnchangedByReads, disk_was_clean_before_reads, single_read_changes_nothing, joined_reads_change_nothing}
use Rattle.brk_store.specs.Walked.{EqualsStoredList, IsPrefixOfStoredList, WalkPost, completed_trades_by_stamp}
use Rattle.brk_store.proofs.WalkedLists.{IsStrictlyAscendingBy, accounts_climb, completed_filter}
use Rattle.brk_explain_reads.specs.Skipping.{VisitorTakesRecordOnlyIf}

-- ---- the accounts of a broker, by their ids

abbrev among : ℕ → ℕ → List AccountRow → Bool
among broker x rows = list_any (λ i. i == x) (map (λ (a : AccountRow). a.id) (filter (λ a. a.broker == broker) rows))

one_among : (x : ℕ) (a : AccountRow) (rows : List AccountRow) (mine : Bool)
    → list_any (λ i. i == x) (map (λ (r : AccountRow). r.id) (cond mine (a ∷ rows) rows)) ≡ ((mine && (a.id == x)) || list_any (λ i. i == x) (map (λ (r : AccountRow). r.id) rows))
one_among x a rows true = refl
one_among x a rows false = refl

neither : (mine same rest : Bool) → same ≡ false → rest ≡ false → ((mine && same) || rest) ≡ false
neither true same rest e f = rw (e, f) refl
neither false same rest e f = f

other_id : (m x n : ℕ) → (m == x) ≡ true → nat_lt m n ≡ true → (n == x) ≡ false
other_id m x n e h = grind (arith, nat_tests)

none_among : (broker x m : ℕ) → (m == x) ≡ true → (rows : List AccountRow) → AllByRecursion (λ (a : AccountRow). nat_lt m a.id ≡ true) rows → among broker x rows ≡ false
none_among broker x m e [] h = refl
none_among broker x m e (a ∷ rows) h =
    one_among x a (filter (λ (r : AccountRow). r.broker == broker) rows) (a.broker == broker)
    ∙ neither (a.broker == broker) (a.id == x) (among broker x rows) (other_id m x a.id e h.0) (none_among broker x m e rows h.1)

found_or : (broker : ℕ) (a : AccountRow) (o : Option AccountRow) (same : Bool)
    → (option_map_or (λ (r : AccountRow). r.broker) (cond same (Some a) o) 0 == broker) ≡ cond same (a.broker == broker) (option_map_or (λ (r : AccountRow). r.broker) o 0 == broker)
found_or broker a o true = refl
found_or broker a o false = refl

joined : (same mine rest found : Bool) → (same ≡ true → rest ≡ false) → rest ≡ found → ((mine && same) || rest) ≡ cond same mine found
joined true true rest found g h = refl
joined true false rest found g h = g refl
joined false true rest found g h = h
joined false false rest found g h = h

not_zero : (n : ℕ) → 1 ≤ n → (0 == n) ≡ false
not_zero n low = grind (arith, nat_tests)

among_is : (broker x : ℕ) → 1 ≤ broker → (rows : List AccountRow) → IsStrictlyAscendingBy (λ (a : AccountRow). a.id) rows
    → among broker x rows ≡ (option_map_or (λ (a : AccountRow). a.broker) (find (λ (a : AccountRow). a.id == x) rows) 0 == broker)
among_is broker x low [] h = sym (not_zero broker low)
among_is broker x low (a ∷ rows) h =
    one_among x a (filter (λ (r : AccountRow). r.broker == broker) rows) (a.broker == broker)
    ∙ joined (a.id == x) (a.broker == broker) (among broker x rows) (option_map_or (λ (r : AccountRow). r.broker) (find (λ (r : AccountRow). r.id == x) rows) 0 == broker)
    (λ e. none_among broker x a.id e rows h.0) (among_is broker x low rows h.1)
    ∙ sym (found_or broker a (find (λ (r : AccountRow). r.id == x) rows) (a.id == x))

-- an account is among those that were found where it is of the broker
pub accounts_known : {S : Type 0} (g : Ghosts S) (store : Held S) → HasCleanDisk (state g store) → IsTrue (state g store).is_open → (t : Tables) → HoldsRows g store t
    → (broker : ℕ) → 1 ≤ broker → (ids : List ℕ) → ids ≡ map (λ (a : AccountRow). a.id) (accounts_with_broker t broker)
    → (x : ℕ) → list_any (λ i. i == x) ids ≡ (broker_of_account_or_zero t x == broker)
accounts_known g store clean on t holds broker low ids e x =
    ap (list_any (λ i. i == x)) e ∙ among_is broker x low t.accounts (accounts_climb t (state g store).now (holds clean on))

pub trades_picked : (broker : ℕ) (t : Tables) → filter (λ (u : TradeRow). broker_of_account_or_zero t u.account == broker) (completed_trades_by_stamp t) ≡ completed_trades_of_broker t broker
trades_picked broker t = completed_filter (λ (u : TradeRow). broker_of_account_or_zero t u.account == broker) t

pub length_map : {X Y : Type 0} (f : X → Y) (xs : List X) → length (map f xs) ≡ length xs
length_map f [] = refl
length_map f (x ∷ xs) = ap suc (length_map f xs)

-- ---- records that are passed on

pushed : {X M : Type 0} (f : X → M) (x : X) (xs : List X) (b : Bool) → map f (cond b (x ∷ xs) xs) ≡ cond b (f x ∷ map f xs) (map f xs)
pushed f x xs true = refl
pushed f x xs false = refl

map_kept : {X M : Type 0} (f : X → M) (p : X → Bool) (q : M → Bool) → ((x : X) → p x ≡ q (f x)) → (xs : List X) → map f (filter p xs) ≡ filter q (map f xs)
map_kept f p q h [] = refl
map_kept f p q h (x ∷ xs) = pushed f x (filter p xs) (p x) ∙ (λ i. cond (h x i) (f x ∷ map_kept f p q h xs i) (map_kept f p q h xs i))

last_kept : {X : Type 0} (p : X → Bool) (xs : List X) (x : X) → p x ≡ true → filter p (xs ++ x ∷ []) ≡ filter p xs ++ x ∷ []
last_kept p xs x e = filter-append p xs (x ∷ []) ∙ (λ i. filter p xs ++ cond (e i) (x ∷ []) [])

pub takes_passed : {V X : Type 0} (b : Bool) (takes : V → X → V → Type 0) (p : V) (x : X) (q : V) → b ≡ true → takes p x q → VisitorTakesRecordOnlyIf b takes p x q
takes_passed b takes p x q e h = subst (λ (test : Bool). VisitorTakesRecordOnlyIf test takes p x q) (sym e) h

pub takes_skipped : {V X : Type 0} (b : Bool) (takes : V → X → V → Type 0) (p : V) (x : X) → b ≡ false → VisitorTakesRecordOnlyIf b takes p x p
takes_skipped {V} b takes p x e = subst (λ (test : Bool). VisitorTakesRecordOnlyIf test takes p x p) (sym e) refl

pub on_ok_more : {A B R E : Type 0} (r : Result R E) → (A → B) → OnOk r A → OnOk r B
on_ok_more (Ok u) f h = f h
on_ok_more (Err e) f h = tt

pub if_err_more : {R E : Type 0} (P Q : E → Type 0) (r : Result R E) → ((e : E) → P e → Q e) → IfErr r P → IfErr r Q
if_err_more P Q (Ok u) f h = tt
if_err_more P Q (Err e) f h = f e h

-- ---- a walk that takes nothing, as a read before it failed

pub walk_none : {S X M V Y E : Type 0} (g : Ghosts S) (old new : Held S) (of : X → M) (list : Tables → List M) (takes : V → X → V → Type 0) (stops : V → X → E → V → Type 0) (v : V) (fault : CallFault)
    (Q : Y → Tables → Type 0) → ReadPost {V = Y} {E = CallFault} g old new (Err fault) Q → WalkPost g old new of list takes stops v v (Err (Failed fault))
walk_none g old new of list takes stops v fault Q read = record {
  all = λ clean. tt;
  early = λ clean. ([], refl, λ t holds. (list t, refl));
  fault = tt;
  was_open = λ clean. tt;
  same_rows = read.same_rows;
  unchanged_if_open = read.unchanged_if_open;
  survives = read.survives;
}

-- ---- a walk that passes some records on, after a read that tells which

module _ {S A X M V W E : Type 0} (g : Ghosts S) (old mid new : Held S) (of : X → M) (all list : Tables → List M) (inner : W → V) (keep : W → A) (test : A → X → Bool) (takes : V → X → V → Type 0)
    (stops : V → X → E → V → Type 0) where
  abbrev pub TakesOn : W → X → W → Type 0
  TakesOn p x q = (keep q ≡ keep p) × VisitorTakesRecordOnlyIf (test (keep p) x) takes (inner p) x (inner q)

  abbrev pub StopsOn : W → X → E → W → Type 0
  StopsOn p x e q = (test (keep p) x ≡ true) × stops (inner p) x e (inner q)

  one_on : (p j : W) (x : X) (rest : List X) (q : W) (b : Bool) → VisitorTakesRecordOnlyIf b takes (inner p) x (inner j)
      → FoldsTo takes (inner j) rest (inner q) → FoldsTo takes (inner p) (cond b (x ∷ rest) rest) (inner q)
  one_on p j x rest q true h k = (inner j, h, k)
  one_on p j x rest q false h k = subst (λ v. FoldsTo takes v rest (inner q)) h k

  folds_on : (p : W) (xs : List X) (q : W) → FoldsTo TakesOn p xs q → (keep q ≡ keep p) × FoldsTo takes (inner p) (filter (test (keep p)) xs) (inner q)
  folds_on p [] q h = (sym (ap keep h), ap inner h)
  folds_on p (x ∷ xs) q h =
      let more = folds_on h.0 xs q h.2 in (
        more.0 ∙ h.1.0,
        one_on p h.0 x (filter (test (keep p)) xs) q (test (keep p) x) h.1.1 (subst (λ a. FoldsTo takes (inner h.0) (filter (test a) xs) (inner q)) h.1.0 more.1),
      )

  module _ {Y F : Type 0} (before after : W) (result : Result (Unit {0}) (WalkError E)) (w : WalkPost g mid new of all TakesOn StopsOn before after result)
      (y : Y) (Q : Y → Tables → Type 0) (first : ReadPost {E = F} g old mid (Ok y) Q) (pick : Tables → M → Bool)
      (passes : HasCleanDisk (state g old) → IsTrue (state g old).is_open → (t : Tables) → HoldsRows g old t → Q y t → (x : X) → test (keep before) x ≡ pick t (of x))
      (picked : (t : Tables) → filter (pick t) (all t) ≡ list t) where
    kept_on : IsUnchangedByReads g mid new
    kept_on = record { same_rows = w.same_rows; unchanged_if_open = w.unchanged_if_open; survives = w.survives }

    passes_at : HasCleanDisk (state g mid) → (t : Tables) → HoldsRows g old t → (x : X) → test (keep before) x ≡ pick t (of x)
    passes_at clean t holds = passes (disk_was_clean_before_reads old mid (single_read_changes_nothing old mid (Ok y) Q first) clean) (first.was_open clean) t holds (first.answered clean t holds)

    all_on : HasCleanDisk (state g mid) → (xs : List X) → EqualsStoredList g mid all (map of xs) → EqualsStoredList g old list (map of (filter (test (keep before)) xs))
    all_on clean xs h t holds = map_kept of (test (keep before)) (pick t) (passes_at clean t holds) xs ∙ ap (filter (pick t)) (h t (first.same_rows t holds)) ∙ picked t

    first_on : HasCleanDisk (state g mid) → (xs : List X) → IsPrefixOfStoredList g mid all (map of xs) → IsPrefixOfStoredList g old list (map of (filter (test (keep before)) xs))
    first_on clean xs h t holds =
        let it = h t (first.same_rows t holds) in (
          filter (pick t) it.0,
          ap (λ ms. ms ++ filter (pick t) it.0) (map_kept of (test (keep before)) (pick t) (passes_at clean t holds) xs)
              ∙ sym (filter-append (pick t) (map of xs) it.0) ∙ ap (filter (pick t)) it.1 ∙ picked t,
        )

    done_on : (r : Result (Unit {0}) (WalkError E)) → HasCleanDisk (state g mid)
        → OnOk r (TakesListSatisfying (EqualsStoredList g mid all) of TakesOn before after)
        → OnOk r (TakesListSatisfying (EqualsStoredList g old list) of takes (inner before) (inner after))
    done_on (Ok u) clean h = (filter (test (keep before)) h.0, (folds_on before h.0 after h.1).1, all_on clean h.0 h.2)
    done_on (Err stop) clean h = tt

    breaks_on : (r : Result (Unit {0}) (WalkError E)) → HasCleanDisk (state g mid) → IfErr r (TableWalkEndsEarly (IsPrefixOfStoredList g mid all) of TakesOn StopsOn before after)
        → IfErr r (TableWalkEndsEarly (IsPrefixOfStoredList g old list) of takes stops (inner before) (inner after))
    breaks_on (Ok u) clean h = tt
    breaks_on (Err (Failed fault)) clean h = (filter (test (keep before)) h.0, (folds_on before h.0 after h.1).1, first_on clean h.0 h.2)
    breaks_on (Err (Cause e)) clean h =
        let folds = folds_on before h.0 h.2 h.3 in
        let passed : test (keep before) h.1 ≡ true = ap (λ a. test a h.1) (sym folds.0) ∙ h.4.0 in (
          filter (test (keep before)) h.0,
          h.1,
          inner h.2,
          folds.1,
          h.4.1,
          subst (λ xs. IsPrefixOfStoredList g old list (map of xs)) (last_kept (test (keep before)) h.0 h.1 passed) (first_on clean (h.0 ++ h.1 ∷ []) h.5),
        )

    ends_on : (r : Result (Unit {0}) (WalkError E)) → IfErr r (IsWalkError StopsOn after) → IfErr r (IsWalkError stops (inner after))
    ends_on (Ok u) h = tt
    ends_on (Err (Failed fault)) h = h
    ends_on (Err (Cause e)) h = (inner h.0, h.1, h.2.1)

    opens_on : (r : Result (Unit {0}) (WalkError E)) → HasCleanDisk (state g mid) → OnOk r (IsTrue (state g old).is_open)
    opens_on (Ok u) clean = first.was_open clean
    opens_on (Err stop) clean = tt

    pub walk_on : WalkPost g old new of list takes stops (inner before) (inner after) result
    walk_on =
        let whole : IsUnchangedByReads g old new = joined_reads_change_nothing old mid new (single_read_changes_nothing old mid (Ok y) Q first) kept_on in
        record {
          all = λ clean. let late = disk_was_clean_before_reads mid new kept_on clean in done_on result late (w.all clean);
          early = λ clean. let late = disk_was_clean_before_reads mid new kept_on clean in breaks_on result late (w.early clean);
          fault = ends_on result w.fault;
          was_open = λ clean. opens_on result (disk_was_clean_before_reads mid new kept_on clean);
          same_rows = whole.same_rows;
          unchanged_if_open = whole.unchanged_if_open;
          survives = whole.survives;
        }
