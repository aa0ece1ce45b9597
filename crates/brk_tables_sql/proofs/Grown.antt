-- Tables of a desk that exist with their rows, and others that are created beside them.
use Rattle.std.proofs.Common.{◌≡◌, ◌≢◌, ◌⊎◌, inl, inr, ℕ, List, [], ◌∷◌, ◌++◌, map, refl, sym, ap, subst, ◌∙◌, append_assoc, append-nil}
use Rattle.std.specs.List.{AllByRecursion}
use Rattle.sqlite_schema.specs.declared.schema.Table.{Table}
use Rattle.sqlite.specs.Effect.{Database}
use Rattle.sqlite_rules.proofs.ListLemmas.{all_has, all_from}
use Rattle.brk_tables_sql.specs.Rows.{TreeHoldsRecords}
use Rattle.brk_tables_sql.specs.Desk.{ProgramTables, IsTableAt, CreatesTableOfShape, CreatesEachTable, HasNoWritingForeignKeysAt, HasTables, HasSelectedTables}
use Rattle.brk_tables_sql.proofs.Created.{all_at}
use Rattle.brk_tables_sql.proofs.Founded.{all_left, still_calm, new_calm, OrIn, Among}
use Rattle.brk_tables_sql.proofs.Kept.{none_held}

abbrev chosen : {A B C : Type 0} → A ⊎ B → C → C → C
chosen (inl a) x y = x
chosen (inr b) x y = y

-- Each table that was there keeps its rows and stays calm.
pub record Grows (old new : Database) : Type 0 where
  pub more : List Table
  pub tables : new.schema.tables ≡ old.schema.tables ++ more
  pub rows : AllByRecursion (λ t. new.trees t.tree ≡ old.trees t.tree) old.schema.tables
  pub keys_write_nothing : (tree : ℕ) → HasNoWritingForeignKeysAt old.schema tree → HasNoWritingForeignKeysAt new.schema tree

pub grows_none : (db : Database) → Grows db db
grows_none db = record {
  more = [];
  tables = sym (append-nil db.schema.tables);
  rows = all_from _ db.schema.tables (λ t there. refl);
  keys_write_nothing =
      λ tree keys_write_nothing. keys_write_nothing;
}

pub grows_then : (a b c : Database) → Grows a b → Grows b c → Grows a c
grows_then a b c p q = record {
  more = p.more ++ q.more;
  tables = q.tables ∙ ap (λ l. l ++ q.more) p.tables ∙ append_assoc a.schema.tables p.more q.more;
  rows = all_from _ a.schema.tables (λ t there.
      all_has (λ t. c.trees t.tree ≡ b.trees t.tree) a.schema.tables t
      (all_left (λ t. c.trees t.tree ≡ b.trees t.tree) a.schema.tables p.more
      (subst (AllByRecursion (λ t. c.trees t.tree ≡ b.trees t.tree)) p.tables q.rows)) there
      ∙ all_has (λ t. b.trees t.tree ≡ a.trees t.tree) a.schema.tables t p.rows there);
  keys_write_nothing = λ tree keys_write_nothing. q.keys_write_nothing tree (p.keys_write_nothing tree keys_write_nothing);
}

pub grows_made : {shape : ℕ → Table} (old new : Database) → CreatesTableOfShape old new shape → Grows old new
grows_made old new m = record { more = m.more; tables = m.tables; rows = m.rows; keys_write_nothing = still_calm old new m }

module _ {W T : Type 0} (desk : ProgramTables W T) (t : T) where
  -- those of Out are there, at the trees where they were, or at trees that no table had
  pub record Grown (In Out : W → Type 0) (tree : W → ℕ) (old new : Database) : Type 0 where
    pub to : W → ℕ
    pub has : HasSelectedTables desk Out t to new
    pub from : (w : W) → Out w → (In w × (to w ≡ tree w)) ⊎ AllByRecursion (λ k. k.tree ≢ to w) old.schema.tables
    pub grows : Grows old new

  pub grown_none : (In : W → Type 0) (tree : W → ℕ) (db : Database) → HasSelectedTables desk In t tree db → Grown In In tree db db
  grown_none In tree db h = record { to = tree; has = h; from = λ w there. inl (there, refl); grows = grows_none db }

  pub grown_then : (In Mid Out : W → Type 0) (tree : W → ℕ) (a b c : Database) (p : Grown In Mid tree a b) → Grown Mid Out p.to b c → Grown In Out tree a c
  grown_then In Mid Out tree a b c p q = record { to = q.to; has = q.has; from = λ w there. back w (q.from w there); grows = grows_then a b c p.grows q.grows }
    where
      back : (w : W) → (Mid w × (q.to w ≡ p.to w)) ⊎ AllByRecursion (λ k. k.tree ≢ q.to w) b.schema.tables → (In w × (q.to w ≡ tree w)) ⊎ AllByRecursion (λ k. k.tree ≢ q.to w) a.schema.tables
      back w (inl m) = elim (p.from w m.0) [
        | inl i ↦ inl (i.0, m.1 ∙ i.1)
        | inr fresh ↦ inr (subst (λ n. AllByRecursion (λ (k : Table). k.tree ≢ n) a.schema.tables) (sym m.1) fresh)
      ]
      back w (inr fresh) = inr (all_left (λ k. k.tree ≢ q.to w) a.schema.tables p.grows.more (subst (AllByRecursion (λ k. k.tree ≢ q.to w)) p.grows.tables fresh))

  module _ (In : W → Type 0) (tree : W → ℕ) (old new : Database) (h : HasSelectedTables desk In t tree old) (w : W) (is : (v : W) → (v ≡ w) ⊎ (v ≢ w))
      (none : desk.list w t ≡ []) (m : CreatesTableOfShape old new (desk.shape w)) where
    found_tree : (v : W) → In v → tree v ≢ m.tree
    found_tree v there = subst (λ n. n ≢ m.tree) (desk.placed v (tree v)) (all_at (λ t. t.tree ≢ m.tree) old.schema.tables (h.place v) (desk.shape v (tree v)) (h.is_table v there).found m.apart)

    same_tree : (v : W) → In v → new.trees (tree v) ≡ old.trees (tree v)
    same_tree v there = subst (λ n. new.trees n ≡ old.trees n) (desk.placed v (tree v))
        (all_at (λ t. new.trees t.tree ≡ old.trees t.tree) old.schema.tables (h.place v) (desk.shape v (tree v)) (h.is_table v there).found m.rows)

    pub grown_one : Grown In (OrIn desk w In) tree old new
    grown_one = record {
      to = λ v. chosen (is v) m.tree (tree v);
      has = record {
        place = λ v. chosen (is v) m.at (h.place v);
        is_table = λ v k. stood v (is v) k;
        apart = λ v u j k. parted v u (is v) (is u) j k;
        keys_write_nothing = λ v k. calmed v (is v) k;
        sound = m.sound;
        rows = λ v k. held v (is v) k;
      };
      from = λ v k. came v (is v) k;
      grows = grows_made old new m;
    }
      where
        stood : (v : W) (s : (v ≡ w) ⊎ (v ≢ w)) → (v ≡ w) ⊎ In v → IsTableAt new.schema (desk.shape v (chosen s m.tree (tree v))) (chosen s m.at (h.place v))
        stood v (inl e) k = subst (λ u. IsTableAt new.schema (desk.shape u m.tree) m.at) (sym e) m.is_table
        stood v (inr ne) (inl e) = absurd (ne e)
        stood v (inr ne) (inr k) = m.keeps_positions _ _ (h.is_table v k)

        parted : (v u : W) (s : (v ≡ w) ⊎ (v ≢ w)) (r : (u ≡ w) ⊎ (u ≢ w)) → (v ≡ w) ⊎ In v → (u ≡ w) ⊎ In u → chosen s m.tree (tree v) ≡ chosen r m.tree (tree u) → v ≡ u
        parted v u (inl e) (inl f) j k same = e ∙ sym f
        parted v u (inl e) (inr f) j (inl k) same = absurd (f k)
        parted v u (inl e) (inr f) j (inr k) same = absurd (found_tree u k (sym same))
        parted v u (inr e) (inl f) (inl j) k same = absurd (e j)
        parted v u (inr e) (inl f) (inr j) k same = absurd (found_tree v j same)
        parted v u (inr e) (inr f) (inl j) k same = absurd (e j)
        parted v u (inr e) (inr f) (inr j) (inl k) same = absurd (f k)
        parted v u (inr e) (inr f) (inr j) (inr k) same = h.apart v u j k same

        calmed : (v : W) (s : (v ≡ w) ⊎ (v ≢ w)) → (v ≡ w) ⊎ In v → HasNoWritingForeignKeysAt new.schema (chosen s m.tree (tree v))
        calmed v (inl e) k = new_calm old new m
        calmed v (inr ne) (inl e) = absurd (ne e)
        calmed v (inr ne) (inr k) = still_calm old new m (tree v) (h.keys_write_nothing v k)

        held : (v : W) (s : (v ≡ w) ⊎ (v ≢ w)) → (v ≡ w) ⊎ In v
            → TreeHoldsRecords (desk.shape v (chosen s m.tree (tree v))) (desk.encode v) (desk.order v) (desk.list v t) (new.trees (chosen s m.tree (tree v)))
        held v (inl e) k =
            subst (λ u. TreeHoldsRecords (desk.shape u m.tree) (desk.encode u) (desk.order u) (desk.list u t) (new.trees m.tree)) (sym e)
            (subst (λ xs. TreeHoldsRecords (desk.shape w m.tree) (desk.encode w) (desk.order w) xs (new.trees m.tree)) (sym none)
            (none_held (desk.shape w m.tree) (desk.encode w) (desk.order w) (new.trees m.tree) m.empty))
        held v (inr ne) (inl e) = absurd (ne e)
        held v (inr ne) (inr k) = subst (TreeHoldsRecords (desk.shape v (tree v)) (desk.encode v) (desk.order v) (desk.list v t)) (sym (same_tree v k)) (h.rows v k)

        came : (v : W) (s : (v ≡ w) ⊎ (v ≢ w)) → (v ≡ w) ⊎ In v → (In v × (chosen s m.tree (tree v) ≡ tree v)) ⊎ AllByRecursion (λ k. k.tree ≢ chosen s m.tree (tree v)) old.schema.tables
        came v (inl e) k = inr m.apart
        came v (inr ne) (inl e) = absurd (ne e)
        came v (inr ne) (inr k) = inl (k, refl)

  pub grown_each : ((w v : W) → (v ≡ w) ⊎ (v ≢ w)) → (ws : List W) (In : W → Type 0) (tree : W → ℕ) (old new : Database) → HasSelectedTables desk In t tree old
      → AllByRecursion (λ w. desk.list w t ≡ []) ws
      → CreatesEachTable (map desk.shape ws) old new → Grown In (Among desk ws In) tree old new
  grown_each split [] In tree old new h none made = subst (Grown In In tree old) (sym made) (grown_none In tree old h)
  grown_each split (w ∷ ws) In tree old new h none made =
      let one = grown_one In tree old made.0 h w (split w) none.0 made.1 in
      grown_then In (OrIn desk w In) (Among desk ws (OrIn desk w In)) tree old made.0 new one
      (grown_each split ws (OrIn desk w In) one.to made.0 new one.has none.1 made.2)

  -- all of them are there
  pub all_there : (In : W → Type 0) (tree : W → ℕ) (db : Database) → ((w : W) → In w) → HasSelectedTables desk In t tree db → HasTables desk t tree db
  all_there In tree db all h = record {
    place = h.place;
    is_table = λ w. h.is_table w (all w);
    apart = λ v w. h.apart v w (all v) (all w);
    keys_write_nothing = λ w. h.keys_write_nothing w (all w);
    sound = h.sound;
    rows = λ w. h.rows w (all w);
  }

  pub some_there : (In : W → Type 0) (tree : W → ℕ) (db : Database) → HasTables desk t tree db → HasSelectedTables desk In t tree db
  some_there In tree db h = record {
    place = h.place;
    is_table = λ w _. h.is_table w;
    apart = λ v w _ _. h.apart v w;
    keys_write_nothing = λ w _. h.keys_write_nothing w;
    sound = h.sound;
    rows = λ w _. h.rows w;
  }
