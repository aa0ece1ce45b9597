-- The tables of a desk, created one after the other in a database that may have others.
use Rattle.std.proofs.Common.{◌≡◌, ◌≢◌, ◌⊎◌, inl, inr, ℕ, ◌==◌, List, [], ◌∷◌, ◌++◌, map, Bool, true, false, not, ◌||◌, ne_eqb, refl, sym, ap, subst, ◌∙◌}
use Rattle.std.specs.List.{AllByRecursion, list_all}
use Rattle.sqlite_trees.specs.Tree.{Trees}
use Rattle.sqlite_catalog.specs.Change.{KeepsRows}
use Rattle.sqlite_schema.specs.declared.schema.Table.{Table}
use Rattle.sqlite.specs.Effect.{Database, IsDatabase}
use Rattle.brk_tables_sql.specs.Desk.{ProgramTables, IsTableAt, CreatesTableOfShape, CreatesEachTable, has_no_writing_foreign_keys, has_no_writing_foreign_keys_if_at}
use Rattle.brk_tables_sql.specs.Desk.{HasNoWritingForeignKeysAt, HasTables, PreservesAllTables}
use Rattle.brk_tables_sql.proofs.Created.{all_at}
use Rattle.brk_tables_sql.proofs.Effects.{split}
use Rattle.brk_tables_sql.proofs.Kept.{none_held}

-- The database `new` contains the program's tables with the records `t` (`HasTables`), at trees
-- that belong to no table of `old`, and all tables of `old`, at the same indexes and with the same
-- rows.
pub record CreatesTablesWithRecords {W T : Type 0} (desk : ProgramTables W T) (t : T) (old new : Database) : Type 0 where
  pub tree : W → ℕ
  pub tables : HasTables desk t tree new
  pub fresh : (w : W) → AllByRecursion (λ t. t.tree ≢ tree w) old.schema.tables
  pub others : PreservesAllTables old new

or_true : (b : Bool) → (b || true) ≡ true
or_true true = refl
or_true false = refl

all_join : {X : Type 0} (p : X → Bool) (xs ys : List X) → list_all p xs ≡ true → list_all p ys ≡ true → list_all p (xs ++ ys) ≡ true
all_join p [] ys a b = b
all_join p (x ∷ xs) ys a b = let both = split (p x) (list_all p xs) a in rw (both.0, all_join p xs ys both.1 b)

calm_of_inert : (tree : ℕ) (tables : List Table) → list_all has_no_writing_foreign_keys tables ≡ true → list_all (has_no_writing_foreign_keys_if_at tree) tables ≡ true
calm_of_inert tree [] h = refl
calm_of_inert tree (t ∷ tables) h = let both = split (has_no_writing_foreign_keys t) (list_all has_no_writing_foreign_keys tables) h in
    rw (both.0, or_true (not (t.tree == tree)), calm_of_inert tree tables both.1)

calm_of_apart : (tables : List Table) (tree : ℕ) → AllByRecursion (λ t. t.tree ≢ tree) tables → list_all (has_no_writing_foreign_keys_if_at tree) tables ≡ true
calm_of_apart [] tree apart = refl
calm_of_apart (t ∷ tables) tree apart = rw (ne_eqb t.tree tree apart.0, calm_of_apart tables tree apart.1)

pub still_calm : {shape : ℕ → Table} (old new : Database) → CreatesTableOfShape old new shape → (tree : ℕ) → HasNoWritingForeignKeysAt old.schema tree → HasNoWritingForeignKeysAt new.schema tree
still_calm old new m tree keys_write_nothing =
    rw (m.tables) (all_join (has_no_writing_foreign_keys_if_at tree) old.schema.tables m.more keys_write_nothing
    (calm_of_inert tree m.more m.added_keys_write_nothing))

pub new_calm : {shape : ℕ → Table} (old new : Database) (m : CreatesTableOfShape old new shape) → HasNoWritingForeignKeysAt new.schema m.tree
new_calm old new m = rw (m.tables)
    (all_join (has_no_writing_foreign_keys_if_at m.tree) old.schema.tables m.more (calm_of_apart old.schema.tables m.tree m.apart)
    (calm_of_inert m.tree m.more m.added_keys_write_nothing))

pub all_left : {X : Type 0} (P : X → Type 0) (xs ys : List X) → AllByRecursion P (xs ++ ys) → AllByRecursion P xs
all_left P [] ys all = tt
all_left P (x ∷ xs) ys all = (all.0, all_left P xs ys all.1)

kept_twice : (a b c : Trees) (tables : List Table) → KeepsRows tables a b → KeepsRows tables b c → KeepsRows tables a c
kept_twice a b c [] p q = tt
kept_twice a b c (t ∷ tables) p q = (q.0 ∙ p.0, kept_twice a b c tables p.1 q.1)

kept_self : (a : Trees) (tables : List Table) → KeepsRows tables a a
kept_self a [] = tt
kept_self a (t ∷ tables) = (refl, kept_self a tables)

abbrev chosen : {A B C : Type 0} → A ⊎ B → C → C → C
chosen (inl a) x y = x
chosen (inr b) x y = y

-- those of In are made
pub record Part {W T : Type 0} (desk : ProgramTables W T) (In : W → Type 0) (old new : Database) : Type 0 where
  pub tree : W → ℕ
  pub place : W → ℕ
  pub is_table : (w : W) → In w → IsTableAt new.schema (desk.shape w (tree w)) (place w)
  pub apart : (v w : W) → In v → In w → tree v ≡ tree w → v ≡ w
  pub keys_write_nothing : (w : W) → In w → HasNoWritingForeignKeysAt new.schema (tree w)
  pub empty : (w : W) → In w → new.trees (tree w) ≡ []
  pub more : List Table
  pub tables : new.schema.tables ≡ old.schema.tables ++ more
  pub rows : KeepsRows old.schema.tables old.trees new.trees
  pub fresh : (w : W) → In w → AllByRecursion (λ t. t.tree ≢ tree w) old.schema.tables

module _ {W T : Type 0} (desk : ProgramTables W T) where
  pub part_none : (db : Database) → Part desk (λ _. ⊥) db db
  part_none db = record {
    tree = λ _. 0;
    place = λ _. 0;
    is_table = λ w h. absurd h;
    apart = λ v w h. absurd h;
    keys_write_nothing = λ w h. absurd h;
    empty = λ w h. absurd h;
    more = [];
    tables = sym (Rattle.std.proofs.Common.append-nil db.schema.tables);
    rows = kept_self db.trees db.schema.tables;
    fresh = λ w h. absurd h;
  }

  module _ (In : W → Type 0) (old mid new : Database) (p : Part desk In old mid) (w : W) (is : (v : W) → (v ≡ w) ⊎ (v ≢ w)) (m : CreatesTableOfShape mid new (desk.shape w)) where
    found_tree : (v : W) (h : In v) → p.tree v ≢ m.tree
    found_tree v h = subst (λ n. n ≢ m.tree) (desk.placed v (p.tree v)) (all_at (λ t. t.tree ≢ m.tree) mid.schema.tables (p.place v) (desk.shape v (p.tree v)) (p.is_table v h).found m.apart)

    same_tree : (v : W) → In v → new.trees (p.tree v) ≡ mid.trees (p.tree v)
    same_tree v h = subst (λ n. new.trees n ≡ mid.trees n) (desk.placed v (p.tree v))
        (all_at (λ t. new.trees t.tree ≡ mid.trees t.tree) mid.schema.tables (p.place v) (desk.shape v (p.tree v)) (p.is_table v h).found m.rows)

    pub part_more : Part desk (λ v. (v ≡ w) ⊎ In v) old new
    part_more = record {
      tree = λ v. chosen (is v) m.tree (p.tree v);
      place = λ v. chosen (is v) m.at (p.place v);
      is_table = λ v h. stood v (is v) h;
      apart = λ v u h k. parted v u (is v) (is u) h k;
      keys_write_nothing = λ v h. calmed v (is v) h;
      empty = λ v h. emptied v (is v) h;
      more = p.more ++ m.more;
      tables = m.tables ∙ ap (λ l. l ++ m.more) p.tables ∙ Rattle.std.proofs.Common.append_assoc old.schema.tables p.more m.more;
      rows = kept_twice old.trees mid.trees new.trees old.schema.tables p.rows
          (all_left (λ t. new.trees t.tree ≡ mid.trees t.tree) old.schema.tables p.more (subst (λ all. KeepsRows all mid.trees new.trees) p.tables m.rows));
      fresh = λ v h. freshened v (is v) h;
    }
      where
        stood : (v : W) (s : (v ≡ w) ⊎ (v ≢ w)) → (v ≡ w) ⊎ In v → IsTableAt new.schema (desk.shape v (chosen s m.tree (p.tree v))) (chosen s m.at (p.place v))
        stood v (inl e) h = subst (λ u. IsTableAt new.schema (desk.shape u m.tree) m.at) (sym e) m.is_table
        stood v (inr ne) (inl e) = absurd (ne e)
        stood v (inr ne) (inr h) = m.keeps_positions _ _ (p.is_table v h)

        parted : (v u : W) (s : (v ≡ w) ⊎ (v ≢ w)) (r : (u ≡ w) ⊎ (u ≢ w)) → (v ≡ w) ⊎ In v → (u ≡ w) ⊎ In u → chosen s m.tree (p.tree v) ≡ chosen r m.tree (p.tree u) → v ≡ u
        parted v u (inl e) (inl f) h k same = e ∙ sym f
        parted v u (inl e) (inr f) h (inl k) same = absurd (f k)
        parted v u (inl e) (inr f) h (inr k) same = absurd (found_tree u k (sym same))
        parted v u (inr e) (inl f) (inl h) k same = absurd (e h)
        parted v u (inr e) (inl f) (inr h) k same = absurd (found_tree v h same)
        parted v u (inr e) (inr f) (inl h) k same = absurd (e h)
        parted v u (inr e) (inr f) (inr h) (inl k) same = absurd (f k)
        parted v u (inr e) (inr f) (inr h) (inr k) same = p.apart v u h k same

        calmed : (v : W) (s : (v ≡ w) ⊎ (v ≢ w)) → (v ≡ w) ⊎ In v → HasNoWritingForeignKeysAt new.schema (chosen s m.tree (p.tree v))
        calmed v (inl e) h = new_calm mid new m
        calmed v (inr ne) (inl e) = absurd (ne e)
        calmed v (inr ne) (inr h) = still_calm mid new m (p.tree v) (p.keys_write_nothing v h)

        freshened : (v : W) (s : (v ≡ w) ⊎ (v ≢ w)) → (v ≡ w) ⊎ In v → AllByRecursion (λ t. t.tree ≢ chosen s m.tree (p.tree v)) old.schema.tables
        freshened v (inl e) h = all_left (λ t. t.tree ≢ m.tree) old.schema.tables p.more (subst (AllByRecursion (λ t. t.tree ≢ m.tree)) p.tables m.apart)
        freshened v (inr ne) (inl e) = absurd (ne e)
        freshened v (inr ne) (inr h) = p.fresh v h

        emptied : (v : W) (s : (v ≡ w) ⊎ (v ≢ w)) → (v ≡ w) ⊎ In v → new.trees (chosen s m.tree (p.tree v)) ≡ []
        emptied v (inl e) h = m.empty
        emptied v (inr ne) (inl e) = absurd (ne e)
        emptied v (inr ne) (inr h) = same_tree v h ∙ p.empty v h

  -- w, or one of In
  abbrev pub OrIn : W → (W → Type 0) → W → Type 0
  OrIn w In v = (v ≡ w) ⊎ In v

  -- one of some tables, or one of In
  abbrev pub Among : List W → (W → Type 0) → W → Type 0
  Among [] In = In
  Among (w ∷ ws) In = Among ws (OrIn w In)

  pub part_each : ((w v : W) → (v ≡ w) ⊎ (v ≢ w)) → (ws : List W) (In : W → Type 0) (old mid new : Database) → Part desk In old mid
      → CreatesEachTable (map desk.shape ws) mid new → Part desk (Among ws In) old new
  part_each split [] In old mid new p made = subst (Part desk In old) (sym made) p
  part_each split (w ∷ ws) In old mid new p made = part_each split ws (OrIn w In) old made.0 new (part_more In old mid made.0 p w (split w) made.1) made.2

  -- all of them are made
  pub founded : (In : W → Type 0) (old new : Database) → Part desk In old new → IsDatabase new → ((w : W) → In w) → (t : T) → ((w : W) → desk.list w t ≡ []) → CreatesTablesWithRecords desk t old new
  founded In old new p sound all t none = record {
    tree = p.tree;
    tables = record {
      place = p.place;
      is_table = λ w. p.is_table w (all w);
      apart = λ v w. p.apart v w (all v) (all w);
      keys_write_nothing = λ w. p.keys_write_nothing w (all w);
      sound = sound;
      rows = λ w. subst (λ xs. Rattle.brk_tables_sql.specs.Rows.TreeHoldsRecords (desk.shape w (p.tree w)) (desk.encode w) (desk.order w) xs (new.trees (p.tree w)))
          (sym (none w)) (none_held (desk.shape w (p.tree w)) (desk.encode w) (desk.order w) _ (p.empty w (all w)));
    };
    fresh = λ w. p.fresh w (all w);
    others = record { more = p.more; tables = p.tables; rows = p.rows };
  }

-- the trees obey the schema after the last
pub each_sound : (shapes : List (ℕ → Table)) (old new : Database) → IsDatabase old → CreatesEachTable shapes old new → IsDatabase new
each_sound [] old new sound made = subst IsDatabase (sym made) sound
each_sound (shape ∷ shapes) old new sound made = each_sound shapes made.0 new made.1.sound made.2

pub first_sound : (shape : ℕ → Table) (shapes : List (ℕ → Table)) (old new : Database) → CreatesEachTable (shape ∷ shapes) old new → IsDatabase new
first_sound shape shapes old new made = each_sound shapes made.0 new made.1.sound made.2
