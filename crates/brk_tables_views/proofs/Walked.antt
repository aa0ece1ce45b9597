-- The rows that a walk read are rows of the database before the walk.
use Rattle.std.proofs.Common.{◌≡◌, ◌⊎◌, ℕ, List, [], ◌∷◌, ◌++◌, Result, Ok, Err, Option, Some, None, IsSome, map, refl, sym, ap, subst, ◌∙◌, inl, inr}
use Rattle.std.specs.List.{FoldsTo}
use Rattle.sqlite_value.specs.Order.{Row}
use Rattle.sqlite_trees.specs.declared.store.Store.{Ghosts}
use Rattle.sqlite_trees.specs.Tree.{Trees}
use Rattle.sqlite_resolve.specs.declared.compiled.Compiled.{Compiled}
use Rattle.sqlite_resolve.specs.declared.error.CompileError.{CompileError}
use Rattle.sqlite.specs.declared.error.Error.{Error}
use Rattle.sqlite.specs.Effect.{Database}
use Rattle.sqlite.specs.Clock.{timed}
use Rattle.sqlite.specs.Listing.{understood, reads_listing, IsSourceOf}
use Rattle.sqlite.specs.Held.{Held, state}
use Rattle.sqlite.specs.Given.{HasBegun, HasGiven, Returns}
use Rattle.sqlite.specs.State.{State, IsUnchanged, IsRolledBack, IsStatement, Survives, CommitsShowing, Begins, Shown, ShowsRows, FailsToQuery, FailsToShow, IsNotRun, Fails}
use Rattle.sqlite.proofs.Callers.{unchanged_then}
use Rattle.sqlite.proofs.StateLemmas.{survives_then, survives_weaker}
use Rattle.brk_tables_views.specs.Walk.{HasNoReturningClause}

none_some : {X : Type 0} (o : Option X) → o ≡ None → IsSome o → ⊥
none_some None e h = absurd (let f = h in cc)
none_some (Some x) e h = absurd (let f = e in cc)

never : (sql : List ℕ) (params : Row) (old : State) (db : Trees) → HasNoReturningClause sql → CommitsShowing sql params old db → ⊥
unfolding CommitsShowing
never sql params old db q h = none_some h.0.returning (q old.now.schema h.0 h.1.is) h.2

pub commits_none : (sql : List ℕ) (params : Row) (old new : State) → HasNoReturningClause sql → Survives old new (CommitsShowing sql params old) → Survives old new (λ _. ⊥)
commits_none sql params old new q = survives_weaker old new _ _ (λ _ db. never sql params old db q)

pub begun : {S : Type 0} (g : Ghosts S) (sql : List ℕ) (params : Row) (old new : Held S) → HasNoReturningClause sql → HasBegun g sql params old new
    → HasGiven g sql params new [] × IsUnchanged (state g old) (state g new)
begun g sql params old new q (inl h) = h
begun g sql params old new q (inr h) = absurd (go (understood old.schema sql) refl h.0)
  where
    go : (r : Result Compiled CompileError) → understood old.schema sql ≡ r → Returns r → ⊥
    go (Ok c) e s = none_some c.returning (q old.schema c e) s
    go (Err f) e s = absurd s

pub through : (a b c : State) → Survives a b (λ _. ⊥) → Survives b c (λ _. ⊥) → Survives a c (λ _. ⊥)
through a b c = survives_then a b c (λ _. ⊥) (λ _. ⊥) (λ _. ⊥) (λ _ db none. none) (λ _ db none. none)

-- a query that is refused leaves the database, or undoes the transaction
pub refused : (sql : List ℕ) (params : Row) (old new : State) (e : Error) → HasNoReturningClause sql → FailsToQuery sql params old new e → IsUnchanged old new ⊎ IsRolledBack old new
unfolding FailsToQuery IsNotRun
refused sql params old new e q (inl (inl h)) = inl h.1
refused sql params old new e q (inl (inr h)) = inr h.3
refused sql params old new e q (inr h) = inl (subst (λ r. FailsToShow old new sql h.0 (timed params h.0.formats h.1.now) e r) (q old.now.schema h.0 h.1.is) h.2).3

pub failed : (old mid new : State) (e : Error) → IsUnchanged old mid → Fails mid new ⊥ e ⊎ IsUnchanged mid new → IsUnchanged old new ⊎ IsRolledBack old new
failed old mid new e u (inl f) =
    let r = f.3 in
    inr (record {
      was_open = λ o. u.0.was_open;
      undone = λ o. ((r.undone o).0 ∙ u.0.committed_is, (r.undone o).1 ∙ u.0.committed_is);
      autocommit = r.autocommit;
      unmarked = r.unmarked;
      counts = record { changes = r.counts.changes ∙ u.1.changes; last_rowid = r.counts.last_rowid ∙ u.1.last_rowid };
    })
failed old mid new e u (inr s) = inl (unchanged_then old mid new u s)

-- ---- two states that show one database

module _ (sql : List ℕ) (params : Row) (a b : State) (same : a.now ≡ b.now) where
  statement_at : (c : Compiled) → IsStatement a sql params c → IsStatement b sql params c
  statement_at c it = record { is = subst (λ (d : Database). understood d.schema sql ≡ Ok c) same it.is; whole = it.whole; given = it.given; now = it.now }

  source_at : (db : Database) → IsSourceOf (reads_listing a.now.schema sql) a.now db → IsSourceOf (reads_listing b.now.schema sql) b.now db
  source_at db it = subst (λ (d : Database). IsSourceOf (reads_listing d.schema sql) d db) same it

  pub begins_at : (rows : List Row) → Begins sql params a rows → Begins sql params b rows
  unfolding Begins statement_at
  begins_at rows h = (h.0, statement_at h.0 h.1, h.2, h.3, source_at h.3 h.4, h.5)

  pub shown_at : (late : State) (rows : List Row) → HasNoReturningClause sql → IsUnchanged b b → Shown sql params a late rows → Shown sql params b b rows
  unfolding Shown statement_at
  shown_at late rows q u h =
      let full = timed params h.0.formats h.1.now in
      let none = q a.now.schema h.0 h.1.is in
      let it = subst (ShowsRows a late sql h.0 full rows) none h.2 in
      (h.0, statement_at h.0 h.1, subst (ShowsRows b b sql h.0 full rows) (sym none) (it.0, source_at it.0 it.1, it.2, u))

-- one more
pub folds_one : {V X : Type 0} (R : V → X → V → Type 0) (p : V) (xs : List X) (q : V) (x : X) (r : V) → FoldsTo R p xs q → R q x r → FoldsTo R p (xs ++ x ∷ []) r
folds_one R p [] q x r h k = (r, subst (λ v. R v x r) (sym h) k, refl)
folds_one R p (y ∷ xs) q x r h k = (h.0, h.1, folds_one R h.0 xs q x r h.2 k)

pub map_one : {X Y : Type 0} (f : X → Y) (xs : List X) (x : X) (y : Y) → f x ≡ y → map f (xs ++ x ∷ []) ≡ map f xs ++ y ∷ []
map_one f [] x y e = ap (λ z. z ∷ []) e
map_one f (a ∷ xs) x y e = ap (λ l. f a ∷ l) (map_one f xs x y e)

-- what is left behind the records that were given: the next, or none
pub next_given : {M : Type 0} (given : List M) (x : M) (ls rest all : List M) → given ++ ls ≡ all → (given ++ x ∷ []) ++ rest ≡ all → ls ≡ x ∷ rest
next_given [] x ls rest all p q = p ∙ sym q
next_given (g ∷ given) x ls rest [] p q = absurd (let e = p in cc)
next_given (g ∷ given) x ls rest (a ∷ all) p q = next_given given x ls rest all (let e = p in cc) (let e = q in cc)

pub none_left : {M : Type 0} (given ls all : List M) → given ++ ls ≡ all → given ≡ all → ls ≡ []
none_left [] ls all p q = p ∙ sym q
none_left (g ∷ given) ls [] p q = absurd (let e = q in cc)
none_left (g ∷ given) ls (a ∷ all) p q = none_left given ls all (let e = p in cc) (let e = q in cc)
