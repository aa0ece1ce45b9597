-- A statement inside a transaction.
use Rattle.std.proofs.Common.{◌≡◌, ◌⊎◌, ℕ, List, true, false, None, Ok, Err, Result, OnOk, IfOk, IsErr, IsTrue, refl, sym, subst, inl, inr, arith, [], ◌∙◌}
use Rattle.std.proofs.lemmas.Bool.{cases_Bool}
use Rattle.sqlite.specs.Order.{Row}
use Rattle.sqlite.specs.Effect.{Database}
use Rattle.sqlite.specs.declared.error.Error.{Error}
use Rattle.sqlite.specs.Store.{Ghosts}
use Rattle.sqlite.specs.State.{State, HasCleanDisk, KeepsCommit, Survives, Executes, ExecutesInside, IsUnchanged, IsRolledBack, Shown, FailsToQuery, IsTooLate, IsNotRun, Shows, KeepsCounts}
use Rattle.sqlite.specs.Held.{Held, state}
use Rattle.sqlite.specs.Listing.{understood}
use Rattle.sqlite_resolve.specs.declared.compiled.Compiled.{Compiled}
use Rattle.sqlite.specs.Tree.{Trees}
use Rattle.sqlite.proofs.Callers.{survives_begin}
use Rattle.sqlite.proofs.InsideLemmas.{keeps_then}
use Rattle.sqlite.proofs.StateLemmas.{survives_then}
use Rattle.brk_tables_sql.specs.Model.{IsTransactionStep, SelectsRows}

pub on_err : {V E : Type 0} (out : Result V E) (P : V → Type 0) → IsErr out → IfOk out P
on_err (Ok x) P h = absurd (let e = h in cc)
on_err (Err e) P h = tt

pub kept_unchanged : (old new : State) → IsUnchanged old new → KeepsCommit old new
kept_unchanged old new h = record { was_open = λ _. h.0.was_open; committed = λ _. h.0.committed_is }

pub kept_rolled : (old new : State) → IsRolledBack old new → KeepsCommit old new
kept_rolled old new h = record { was_open = h.was_open; committed = λ o. (h.undone o).1 }

kept_inside : (sql : List ℕ) (params : Row) (old new : State) (r : Result ℕ Error) → ExecutesInside 0 sql params old new r → KeepsCommit old new
kept_inside sql params old new (Ok count) h = record { was_open = λ _. h.1.was_open; committed = λ _. h.1.committed_is }
kept_inside sql params old new (Err e) (inl h) = elim h.1 [ inl same ↦ kept_unchanged old new same | inr back ↦ kept_rolled old new back ]
kept_inside sql params old new (Err e) (inr h) = kept_unchanged old new h.2

-- ---- a write

module _ {S V E : Type 0} (g : Ghosts S) (sql : List ℕ) (params : Row) (old new : Held S) (out : Result V E) (made : V → State → State → Type 0) where
  -- it ran, and the answer follows
  pub step_ok : (count : ℕ) → ((state g old).in_transaction ≡ false → ⊥)
      → (HasCleanDisk (state g new) → IsTrue (state g old).in_transaction → ExecutesInside 0 sql params (state g old) (state g new) (Ok count))
      → Survives (state g old) (state g new) (λ _. ⊥) → ((v : V) → out ≡ Ok v → Executes sql params (state g old) (state g new) (Ok count) → made v (state g old) (state g new))
      → IsTransactionStep (state g old) (state g new) out made
  step_ok count never runs survives does =
      let on : IsTrue (state g old).in_transaction = elim (cases_Bool (state g old).in_transaction) [ inl e ↦ e | inr e ↦ absurd (never e) ] in
      record {
        commits_nothing = λ clean. kept_inside sql params (state g old) (state g new) (Ok count) (runs clean on);
        relates_states = λ clean _. let h = runs clean on in go out h.1.mode (λ v e. does v e h.0);
        survives = survives;
      }
    where
      go : (r : Result V E) → IsTrue (state g new).in_transaction → ((v : V) → r ≡ Ok v → made v (state g old) (state g new))
          → IfOk r (λ v. IsTrue (state g new).in_transaction × made v (state g old) (state g new))
      go (Ok v) on h = (on, h v refl)
      go (Err e) on h = tt

  -- it was refused, or failed
  pub step_err : (e : Error) → IsErr out → ((state g old).in_transaction ≡ false → new ≡ old)
      → (HasCleanDisk (state g new) → IsTrue (state g old).in_transaction → ExecutesInside 0 sql params (state g old) (state g new) (Err e))
      → Survives (state g old) (state g new) (λ _. ⊥) → IsTransactionStep (state g old) (state g new) out made
  step_err e failed still runs survives = record {
    commits_nothing = λ clean. elim (cases_Bool (state g old).in_transaction) [
      | inl on ↦ kept_inside sql params (state g old) (state g new) (Err e) (runs clean on)
      | inr off ↦ subst (λ h. KeepsCommit (state g old) (state g h)) (sym (still off)) (record { was_open = λ o. o; committed = λ _. refl })
    ];
    relates_states = λ clean _. on_err out _ failed;
    survives = survives;
  }

-- ---- one step after another

pub clean_before : (a b : State) (P : Trees → Type 0) → Survives a b P → HasCleanDisk b → HasCleanDisk a
clean_before a b P s clean = omega (arith, s.clean)

pub step_then : {U V E F : Type 0} (a b c : State) (u : U) (r : Result V F) (P : U → State → State → Type 0) (Q R : V → State → State → Type 0)
    → ((v : V) → P u a b → Q v b c → R v a c) → IsTransactionStep {V = U} {E = E} a b (Ok u) P → IsTransactionStep b c r Q → IsTransactionStep a c r R
step_then {U} {V} {E} {F} a b c u r P Q R joins first next = record {
  commits_nothing = λ clean. keeps_then a b c (first.commits_nothing (clean_before b c (λ _. ⊥) next.survives clean)) (next.commits_nothing clean);
  relates_states = λ clean on. go r (first.relates_states (clean_before b c (λ _. ⊥) next.survives clean) on) (next.relates_states clean);
  survives = survives_then a b c (λ _. ⊥) (λ _. ⊥) (λ _. ⊥) (λ _ db none. none) (λ _ db none. none) first.survives next.survives;
}
  where
    go : (r : Result V F) → IsTrue b.in_transaction × P u a b → (IsTrue b.in_transaction → IfOk r (λ v. IsTrue c.in_transaction × Q v b c)) → IfOk r (λ v. IsTrue c.in_transaction × R v a c)
    go (Ok v) p q = let k = q p.0 in (k.0, joins v p.1 k.1)
    go (Err e) p q = tt

-- the same step with a weaker statement, or with a result made of its result
pub step_weaker : {V E : Type 0} (a b : State) (r : Result V E) (P Q : V → State → State → Type 0) → ((v : V) → P v a b → Q v a b) → IsTransactionStep a b r P → IsTransactionStep a b r Q
step_weaker {V} {E} a b r P Q less step = record { commits_nothing = step.commits_nothing; relates_states = λ clean on. go r (step.relates_states clean on); survives = step.survives }
  where
    go : (r : Result V E) → IfOk r (λ v. IsTrue b.in_transaction × P v a b) → IfOk r (λ v. IsTrue b.in_transaction × Q v a b)
    go (Ok v) h = (h.0, less v h.1)
    go (Err e) h = tt

pub step_read : {U V E F : Type 0} (a b : State) (u : U) (r : Result V F) (P : U → State → State → Type 0) (Q : V → State → State → Type 0)
    → ((v : V) → r ≡ Ok v → P u a b → Q v a b) → IsTransactionStep {V = U} {E = E} a b (Ok u) P → IsTransactionStep a b r Q
step_read {U} {V} {E} {F} a b u r P Q tells step = record { commits_nothing = step.commits_nothing; relates_states = λ clean on. go r (step.relates_states clean on) tells; survives = step.survives }
  where
    go : (r : Result V F) → IsTrue b.in_transaction × P u a b → ((v : V) → r ≡ Ok v → P u a b → Q v a b) → IfOk r (λ v. IsTrue b.in_transaction × Q v a b)
    go (Ok v) h more = (h.0, more v refl h.1)
    go (Err e) h more = tt

-- ---- a transaction

module _ {S E : Type 0} (g : Ghosts S) (old mid end : Held S) (made : Database → Database → Type 0)
    (step : IsTransactionStep {V = Unit {0}} {E = E} (state g (record old { in_transaction = true })) (state g mid) (Ok tt) (λ _ a b. made a.now b.now))
    (late : Survives (state g mid) (state g end) (λ db. db ≡ (state g mid).now.trees)) where
  pub commits_all : {F : Type 0} (r : Result (Unit {0}) F) → HasCleanDisk (state g end)
      → (HasCleanDisk (state g end)
      → OnOk r (IsTrue (state g mid).in_transaction × Shows (state g mid) (state g end) (state g mid).now (state g mid).now false
      × KeepsCounts (state g mid) (state g end) × ((state g end).marks ≡ [])))
      → OnOk r (IsTrue (state g old).is_open × IsTrue (state g end).is_open × made (state g old).now (state g end).now × ((state g end).committed ≡ (state g end).now))
  commits_all (Ok x) clean ok =
      let s = (ok clean).1 in
      let before = clean_before (state g mid) (state g end) _ late clean in
      let m = (step.relates_states before refl).1 in
      ((step.commits_nothing before).was_open s.was_open, s.is_open, subst (made (state g old).now) (sym s.now_is) m, s.committed_is ∙ sym s.now_is)
  commits_all (Err e) clean ok = tt

  pub commits_crash : Survives (state g old) (state g end) (λ trees. (db : Database) × made (state g old).now db × (trees ≡ db.trees))
  commits_crash =
      let P = λ (trees : Trees). (db : Database) × made (state g old).now db × (trees ≡ db.trees) in
      survives_then (state g old) (state g mid) (state g end) (λ _. ⊥) (λ db. db ≡ (state g mid).now.trees) P (λ _ db none. absurd none)
      (λ clean db is. ((state g mid).now, (step.relates_states (clean_before (state g mid) (state g end) _ late clean) refl).1, is))
      (survives_begin g old (state g mid) (λ _. ⊥) step.survives) late

-- ---- a read

bare_rows : (sql : List ℕ) (params : Row) (old new : State) (rows : List Row) → ((c : Compiled) → understood old.now.schema sql ≡ Ok c → c.returning ≡ None)
    → Shown sql params old new rows → IsUnchanged old new
unfolding Shown
bare_rows sql params old new rows plain h = let bare = plain h.0 h.1.is in (rw bare at h.2).3

bare_failure : (sql : List ℕ) (params : Row) (old new : State) (e : Error) → ((c : Compiled) → understood old.now.schema sql ≡ Ok c → c.returning ≡ None)
    → FailsToQuery sql params old new e ⊎ IsTooLate sql params old new e → KeepsCommit old new
unfolding FailsToQuery IsNotRun
bare_failure sql params old new e plain (inl (inl (inl h))) = kept_unchanged old new h.1
bare_failure sql params old new e plain (inl (inl (inr h))) = kept_rolled old new h.3
bare_failure sql params old new e plain (inl (inr h)) = let bare = plain h.0 h.1.is in kept_unchanged old new ((rw bare at h.2).3)
bare_failure sql params old new e plain (inr h) = kept_unchanged old new h.5

module _ {V E : Type 0} (sql : List ℕ) (params : Row) (old new : State) (rows_of : V → List Row)
    (plain : (c : Compiled) → understood old.now.schema sql ≡ Ok c → c.returning ≡ None) (survives : Survives old new (λ _. ⊥)) where
  -- the rows came
  pub look_ok : (v : V) → (HasCleanDisk new → Shown sql params old new (rows_of v)) → IsTransactionStep {V = V} {E = E} old new (Ok v) (λ v. SelectsRows sql params (rows_of v))
  look_ok v shown = record {
    commits_nothing = λ clean. kept_unchanged old new (bare_rows sql params old new (rows_of v) plain (shown clean));
    relates_states = λ clean on. let u = bare_rows sql params old new (rows_of v) plain (shown clean) in (subst IsTrue (sym u.0.mode) on, (shown clean, u.0.now_is, u.0.was_open));
    survives = survives;
  }

  pub look_err : (e : Error) (out : Result V E) → IsErr out → (HasCleanDisk new → FailsToQuery sql params old new e ⊎ IsTooLate sql params old new e)
      → IsTransactionStep old new out (λ v. SelectsRows sql params (rows_of v))
  look_err e out failed fails = record {
    commits_nothing = λ clean. bare_failure sql params old new e plain (fails clean);
    relates_states = λ clean on. on_err out _ failed;
    survives = survives;
  }
