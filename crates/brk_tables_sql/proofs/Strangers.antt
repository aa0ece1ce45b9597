-- A foreign key may act on the rows of its own table, and on no table whose own foreign keys do not
-- act.
use Rattle.std.proofs.Common.{◌≡◌, ◌≢◌, ◌⊎◌, inl, inr, ℕ, ℤ, zero, suc, ◌+◌, ◌==◌, List, [], ◌∷◌, ◌++◌, length, cond, nat_lt, Bool, true, false, not, ◌&&◌}
use Rattle.std.proofs.Common.{◌||◌, Some, None, Option, Ok, refl, sym, ap, subst, ◌∙◌, eq-eqb}
use Rattle.std.specs.Prelude.{MatchBool}
use Rattle.std.specs.List.{list_all, list_any, filter_map, flat_map, cons_option, AllByRecursion}
use Rattle.sqlite_value.specs.Order.{Row}
use Rattle.sqlite_trees.specs.Tree.{Trees}
use Rattle.sqlite_schema.specs.declared.schema.Schema.{Schema}
use Rattle.sqlite_schema.specs.declared.schema.Table.{Table}
use Rattle.sqlite_schema.specs.declared.schema.Reference.{Reference}
use Rattle.sqlite_schema.specs.declared.schema.Keys.TheVariants.{Enforced}
use Rattle.sqlite_schema.specs.declared.schema.Action.{Action}
use Rattle.sqlite_schema.specs.declared.schema.Action.TheVariants.{NoAction, Restrict, Cascade, SetNull, SetDefault}
use Rattle.sqlite_schema.specs.Rules.{ParentKey, parent_key}
use Rattle.sqlite_rules.specs.Action.{Work, work_for, work_by, pairs, deed_for, deed_of, Acts, ActsOn, Goes, Leads, Writes, action_edit, refuses, max_depth}
use Rattle.sqlite_rules.specs.Edit.{Edit, Applies, taken_by}
use Rattle.sqlite_rules.specs.Lists.{Has}
use Rattle.sqlite_rules.specs.declared.action.Deed.{Deed}
use Rattle.sqlite_rules.specs.declared.action.Deed.TheVariants.{Refuse}
use Rattle.sqlite_rules.proofs.ListLemmas.{all_has, all_from}
use Rattle.sqlite.specs.Effect.{Database}
use Rattle.brk_tables_sql.specs.Desk.{action_writes_rows, foreign_key_writes_rows, has_no_writing_foreign_keys_if_at, HasNoWritingForeignKeysAt, PreservesUnrelatedTables}
use Rattle.brk_tables_sql.proofs.Effects.{split}

first_of : (b : Bool) (P Q : Type 0) → ¬ Q → MatchBool b P Q → P
first_of true P Q off h = h
first_of false P Q off h = absurd (off h)

second_of : (b : Bool) (P Q : Type 0) → ¬ P → MatchBool b P Q → Q
second_of true P Q off h = absurd (off h)
second_of false P Q off h = h

-- a foreign key that does not act refuses at most
refuses_at_most : (deletes : Bool) (action : Action) (other : Bool) → not (action_writes_rows action || other) ≡ true → (deed : Deed)
    → deed_of Enforced deletes action ≡ Some deed → refuses deed ≡ true
refuses_at_most deletes NoAction other off deed e = absurd (let f = e in cc)
refuses_at_most deletes Restrict other off deed e = let same : Refuse ≡ deed = cc in subst (λ d. refuses d ≡ true) same refl
refuses_at_most deletes Cascade other off deed e = absurd (let f = off in cc)
refuses_at_most deletes SetNull other off deed e = absurd (let f = off in cc)
refuses_at_most deletes SetDefault other off deed e = absurd (let f = off in cc)

only_refuses : (deletes : Bool) (ref : Reference) → not (foreign_key_writes_rows ref) ≡ true → (deed : Deed) → deed_for Enforced deletes ref ≡ Some deed → refuses deed ≡ true
only_refuses true ref off deed e = refuses_at_most true ref.on_delete (action_writes_rows ref.on_update) off deed e
only_refuses false ref off deed e = refuses_at_most false ref.on_update false (second (action_writes_rows ref.on_delete) (action_writes_rows ref.on_update) off) deed e
  where
    second : (a b : Bool) → not (a || b) ≡ true → not (b || false) ≡ true
    second true b off = absurd (let f = off in cc)
    second false true off = absurd (let f = off in cc)
    second false false off = refl

module _ (tree : ℕ) where
  -- an action on another table, or one that refuses
  abbrev IsHarmless : Table → Deed → Type 0
  IsHarmless child deed = (child.tree ≢ tree) ⊎ (refuses deed ≡ true)

  abbrev Spares : Work → Type 0
  Spares w = IsHarmless w.child w.deed

  all_join : (xs ys : List Work) → AllByRecursion Spares xs → AllByRecursion Spares ys → AllByRecursion Spares (xs ++ ys)
  all_join [] ys p q = q
  all_join (x ∷ xs) ys p q = (p.0, all_join xs ys p.1 q)

  all_front : (xs : List Work) (w : Work) → AllByRecursion Spares (xs ++ w ∷ []) → AllByRecursion Spares xs × Spares w
  all_front [] w p = (tt, p.0)
  all_front (x ∷ xs) w p = let more = all_front xs w p.1 in ((p.0, more.0), more.1)

  one_work : (depth at : ℕ) (moves : List (Row × Row)) (child : Table) (ref : Reference) (deed : Option Deed) (key : Option ParentKey) (more : List Work)
      → ((d : Deed) → deed ≡ Some d → IsHarmless child d)
      → AllByRecursion Spares more → AllByRecursion Spares (cons_option (work_by depth at moves child ref deed key) more)
  one_work depth at moves child ref None key more harmless all = all
  one_work depth at moves child ref (Some deed) None more harmless all = all
  one_work depth at moves child ref (Some deed) (Some key) more harmless all =
      (elim ((key.0 == at) && list_any (Rattle.sqlite_rules.specs.Action.loses key.2 key.1) moves)
      as (λ b. AllByRecursion Spares
      (cons_option (cond b (Some (record { depth = depth; child = child; ref = ref; places = key.1; order = key.2; deed = deed; moves = moves })) None)
      more)) [ true ↦ (harmless deed refl, all) | false ↦ all ])

  -- the works of another table
  works_apart : (schema : Schema) (depth at : ℕ) (olds news : List Row) (child : Table) → child.tree ≢ tree → (refs : List Reference)
      → AllByRecursion Spares (filter_map (work_for schema Enforced depth at olds news child) refs)
  works_apart schema depth at olds news child apart [] = tt
  works_apart schema depth at olds news child apart (ref ∷ refs) =
      one_work depth at (pairs olds news) child ref (deed_for Enforced (length news == 0) ref) (parent_key schema.tables ref) _ (λ d e. inl apart)
      (works_apart schema depth at olds news child apart refs)

  -- the works of a table whose foreign keys don't act
  works_calm : (schema : Schema) (depth at : ℕ) (olds news : List Row) (child : Table) (refs : List Reference) → list_all (λ ref. not (foreign_key_writes_rows ref)) refs ≡ true
      → AllByRecursion Spares (filter_map (work_for schema Enforced depth at olds news child) refs)
  works_calm schema depth at olds news child [] keys_write_nothing = tt
  works_calm schema depth at olds news child (ref ∷ refs) keys_write_nothing =
      let both = split (not (foreign_key_writes_rows ref)) (list_all (λ ref. not (foreign_key_writes_rows ref)) refs) keys_write_nothing in
      one_work depth at (pairs olds news) child ref (deed_for Enforced (length news == 0) ref) (parent_key schema.tables ref) _ (λ d e. inr (only_refuses (length news == 0) ref both.0 d e))
      (works_calm schema depth at olds news child refs both.1)

  works_in : (schema : Schema) (depth at : ℕ) (olds news : List Row) (tables : List Table) → list_all (has_no_writing_foreign_keys_if_at tree) tables ≡ true
      → AllByRecursion Spares (flat_map (λ child. filter_map (work_for schema Enforced depth at olds news child) child.references) tables)
  works_in schema depth at olds news [] keys_write_nothing = tt
  works_in schema depth at olds news (child ∷ tables) keys_write_nothing =
      let both = split (has_no_writing_foreign_keys_if_at tree child) (list_all (has_no_writing_foreign_keys_if_at tree) tables) keys_write_nothing in
      all_join _ _ (go (child.tree == tree) refl both.0) (works_in schema depth at olds news tables both.1)
    where
      go : (b : Bool) → (child.tree == tree) ≡ b → (not b || list_all (λ ref. not (foreign_key_writes_rows ref)) child.references) ≡ true
          → AllByRecursion Spares (filter_map (work_for schema Enforced depth at olds news child) child.references)
      go true e off = works_calm schema depth at olds news child child.references off
      go false e off = works_apart schema depth at olds news child (λ same. absurd (let f = sym (eq-eqb child.tree tree same) ∙ e in cc)) child.references

  module _ (schema : Schema) (keys_write_nothing : HasNoWritingForeignKeysAt schema tree) (table : Table) (listed : Has schema.tables table) (is : table.tree ≡ tree) where
    step : (db next : Trees) (edit : Edit) → edit.table.tree ≢ tree → Applies schema Enforced db edit next → next tree ≡ db tree
    step db next edit apart h = subst (λ n. next n ≡ db n) is (all_has (λ t. t.tree ≢ edit.table.tree → next t.tree ≡ db t.tree) schema.tables table h.tables listed (λ e. apart (sym e ∙ is)))

    spared : (n : ℕ) (db next : Trees) (stack : List Work) → AllByRecursion Spares stack → Leads schema Enforced n db stack (Ok next) → next tree ≡ db tree
    spared zero db next stack all h = let e : next ≡ db = cc in ap (λ (t : Trees). t tree) e
    spared (suc n) db next stack all h = acted (h.0) (h.1) (subst (AllByRecursion Spares) h.2 all) h.3 (spared n)
      where
        Later : Type 0
        Later = (db next : Trees) (stack : List Work) → AllByRecursion Spares stack → Leads schema Enforced n db stack (Ok next) → next tree ≡ db tree

        goes : (below : List Work) (w : Work) (edit : Edit) → edit.table ≡ w.child → AllByRecursion Spares below → w.child.tree ≢ tree
            → Goes schema Enforced (Leads schema Enforced n) db edit (w.depth + 1) below (Ok next) → Later → next tree ≡ db tree
        goes below w edit same low apart (inl off) more = absurd (let e = off.2 in cc)
        goes below w edit same low apart (inr (inl big)) more = absurd (let e = big.3 in cc)
        goes below w edit same low apart (inr (inr went)) more =
            more went.0 next _ (all_join below _ low (works_in schema (w.depth + 1) edit.table.tree (taken_by db edit) edit.news schema.tables keys_write_nothing)) went.2
            ∙ step db went.0 edit (λ e. apart (ap (λ (t : Table). t.tree) (sym same) ∙ e)) went.1

        on_ids : (below : List Work) (w : Work) (ids : List ℤ) → AllByRecursion Spares below → Spares w
            → ActsOn schema Enforced (Leads schema Enforced n) db w below (Ok next) ids → Later → next tree ≡ db tree
        on_ids below w [] low harmless h more = more db next below low h
        on_ids below w (id ∷ ids) low (inl apart) h more = goes below w (action_edit db w (id ∷ ids)) refl low apart (second_of (refuses w.deed) _ _ (λ e. let f = e in cc) h) more
        on_ids below w (id ∷ ids) low (inr refused) h more = absurd (let f = rw refused at h in cc)

        acted : (below : List Work) (w : Work) → AllByRecursion Spares (below ++ w ∷ []) → Acts schema Enforced (Leads schema Enforced n) db w below (Ok next) → Later → next tree ≡ db tree
        acted below w all h more =
            let front = all_front below w all in
            let got = first_of (nat_lt w.depth max_depth) _ _ (λ e. let f = e in cc) h in
            on_ids below w got.0 front.0 front.1 got.2 more

    -- whatever a statement on another table sets off, this table keeps its rows
    pub keeps_ours : (db next : Trees) (edit : Edit) → edit.table.tree ≢ tree → Writes schema Enforced db edit (Ok next) → next tree ≡ db tree
    keeps_ours db next edit apart (inl off) = absurd (let e = off.2 in cc)
    keeps_ours db next edit apart (inr (inl big)) = absurd (let e = big.3 in cc)
    keeps_ours db next edit apart (inr (inr went)) =
        spared went.2.0 went.0 next _ (works_in schema 0 edit.table.tree (taken_by db edit) edit.news schema.tables keys_write_nothing) went.2.1 ∙ step db went.0 edit apart went.1

    -- and the table that is written has what the statement itself wrote
    pub writes_ours : (db next : Trees) (edit : Edit) → edit.table.tree ≡ tree → Writes schema Enforced db edit (Ok next) → (mid : Trees) × Applies schema Enforced db edit mid × (next tree ≡ mid tree)
    writes_ours db next edit same (inl off) = absurd (let e = off.2 in cc)
    writes_ours db next edit same (inr (inl big)) = absurd (let e = big.3 in cc)
    writes_ours db next edit same (inr (inr went)) =
        (went.0, went.1, spared went.2.0 went.0 next _ (works_in schema 0 edit.table.tree (taken_by db edit) edit.news schema.tables keys_write_nothing) went.2.1)

-- ---- the tables of others, from one statement to the next

module _ {W : Type 0} (tree : W → ℕ) where
  -- what is so of each table
  abbrev Keeps : Database → Database → Table → Type 0
  Keeps old new k = ((w : W) → k.tree ≢ tree w) → HasNoWritingForeignKeysAt old.schema k.tree → new.trees k.tree ≡ old.trees k.tree

  pub spares_itself : (db : Database) → PreservesUnrelatedTables tree db db
  spares_itself db = record { schema = refl; rows = all_from (Keeps db db) db.schema.tables (λ k there apart keys_write_nothing. refl) }

  pub spares_then : (a b c : Database) → PreservesUnrelatedTables tree a b → PreservesUnrelatedTables tree b c → PreservesUnrelatedTables tree a c
  spares_then a b c first next = record {
    schema = next.schema ∙ first.schema;
    rows = all_from (Keeps a c) a.schema.tables (λ k there apart keys_write_nothing.
        all_has (Keeps b c) b.schema.tables k next.rows (subst (λ (s : Schema). Has s.tables k) (sym first.schema) there) apart
        (subst (λ (s : Schema). HasNoWritingForeignKeysAt s k.tree) (sym first.schema) keys_write_nothing)
        ∙ all_has (Keeps a b) a.schema.tables k first.rows there apart keys_write_nothing);
  }
