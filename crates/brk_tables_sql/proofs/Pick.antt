-- The rows that a selection reads, and those after a step, in any order of the tree.
use Rattle.std.proofs.Common.{◌≡◌, ℕ, ◌+◌, ◌^◌, ℤ, pos, negsuc, List, [], ◌∷◌, ◌++◌, length, map, filter, flat_map, nat_le, Bool, true, false, not, cond, None}
use Rattle.std.proofs.Common.{Ordering, Less, Equal, Greater, is_eq, refl, sym, ap, subst, ◌∙◌, inl, inr, arith, IsTrue, ◌||◌, ◌&&◌, if◌then◌else◌}
use Rattle.std.specs.Ordering.{ordering_reverse, match_ordering}
use Rattle.std.specs.List.{AllByRecursion, IsDistinct, list_all, list_any}
use Rattle.std.specs.List.Sorted.{IsPermutation, IsSorted}
use Rattle.std.proofs.lemmas.Bool.{cases_Bool}
use Rattle.std.proofs.lemmas.Cmp.{tied_itself}
use Rattle.std.proofs.lemmas.List.{get_or-map, length-map}
use Rattle.std.proofs.lemmas.List.Sorted.{IsPermutation-refl, IsPermutation-sym, IsPermutation-trans, IsPermutation-cons, IsPermutation-middle, IsPermutation-append}
use Rattle.std.proofs.lemmas.Map.Keys.{IsDistinct-IsPermutation}
use Rattle.sqlite_trees.specs.Tree.{Trees, rowid, has_rowid, put_row, without_rowid}
use Rattle.sqlite_value.specs.declared.value.Value.{Value}
use Rattle.sqlite_value.specs.declared.value.Value.TheVariants.{Null, Int, Real, Text, Blob}
use Rattle.sqlite_value.specs.declared.keys.Key.{Key}
use Rattle.sqlite_value.specs.Order.{Row, value_cmp}
use Rattle.sqlite_value.proofs.OrderLemmas.{value_cmp_total}
use Rattle.sqlite_sql.specs.Term.{Term, eval_all, holds, lit}
use Rattle.sqlite_sql.specs.Query.{Query, inner, end, IsAnswerAs, output, Output, key_cmp, page}
use Rattle.sqlite_sql.specs.Program.{overlay}
use Rattle.sqlite_trees.specs.View.{is_int}
use Rattle.sqlite_rules.specs.Edit.{id_in, without_all, put_all, are_fresh, is_taken}
use Rattle.sqlite_rules.specs.Calls.{ids_of}
use Rattle.sqlite_rules.specs.Lists.{Has}
use Rattle.sqlite_rules.proofs.ListLemmas.{all_has, all_from, some_has, some_from, has_filtered, has_kept}
use Rattle.sqlite_rules.proofs.ProbeLemmas.{has_mapped, mapped_has}
use Rattle.brk_tables_sql.specs.Rows.{has_same_rowid}
use Rattle.brk_tables_sql.proofs.Order.{unmapped, has_permuted, map_twice}

-- ---- a selection from one table

abbrev pub selection : ℕ → List Term → List Term → List (Term × Key) → Term × Term → Query
selection tree terms project order paging = record {
  from = inner tree end;
  filter = terms;
  group = None;
  project = project;
  distinct = false;
  collations = [];
  order = order;
  limit = paging.0;
  offset = paging.1;
}

-- no LIMIT
abbrev pub whole_page : Term × Term
whole_page = (lit (Int (negsuc 0)), lit (Int (pos 0)))

pub no_overlay : (db : Trees) (t : ℕ) → overlay db [] t ≡ db t
no_overlay db t = elim (cases_Bool (nat_le (2 ^ 31) t)) [ inl e ↦ rw e refl | inr e ↦ rw e refl ]

-- the row passes WHERE
abbrev pub passes : Row → List Term → Row → Bool
passes params terms r = list_all (holds (params ∷ r ∷ [])) terms

pub matched : (params : Row) (terms : List Term) (rows : List Row)
    → flat_map (λ r. cond (passes params terms r) ((params ∷ r ∷ []) ∷ []) []) rows ≡ map (λ r. params ∷ r ∷ []) (filter (passes params terms) rows)
matched params terms [] = refl
matched params terms (r ∷ rows) = elim (cases_Bool (passes params terms r)) [
  | inl e ↦ rw e (ap (λ l. (params ∷ r ∷ []) ∷ l) (matched params terms rows))
  | inr e ↦ rw e (matched params terms rows)
]

abbrev pub sorted_by : Row → List (Term × Key) → Row → Row → Ordering
sorted_by params order a b = key_cmp 0 (map (λ k. k.1) order) (eval_all (map (λ k. k.0) order) (params ∷ a ∷ [])) (eval_all (map (λ k. k.0) order) (params ∷ b ∷ []))

-- the rows that pass, in an order that ORDER BY allows, and what is shown of each
pub record Picks (q : Query) (params : Row) (terms project : List Term) (order : List (Term × Key)) (rows read : List Row) : Type 0 where
  pub picked : List Row
  pub same : IsPermutation (filter (passes params terms) rows) picked
  pub sorted : IsSorted (sorted_by params order) picked
  pub is : read ≡ page q params (map (λ r. eval_all project (params ∷ r ∷ [])) picked)

pub picks : (lost : Value) (tree : ℕ) (terms project : List Term) (order : List (Term × Key)) (paging : Term × Term) (db : Trees) (params : Row) (read : List Row)
    → IsAnswerAs lost (selection tree terms project order paging) (overlay db []) params read → Picks (selection tree terms project order paging) params terms project order (db tree) read
picks lost tree terms project order paging db params read a =
    let q = selection tree terms project order paging in
    let env = λ (r : Row). params ∷ r ∷ [] in
    let kept : a.kept ≡ map (λ r. output q (env r)) (filter (passes params terms) (db tree)) =
    a.distinct ∙ ap (map (output q))
    (a.grouped ∙ matched params terms (overlay db [] tree) ∙ ap (λ rows. map env (filter (passes params terms) rows)) (no_overlay db tree))
    ∙ map_twice (output q) env _ in
    let u = unmapped (λ r. output q (env r)) (filter (passes params terms) (db tree)) a.ordered (subst (λ k. IsPermutation k a.ordered) kept a.same) in
    record {
      picked = u.0;
      same = u.1;
      sorted = λ k d low high.
          let long : length a.ordered ≡ length u.0 = ap length u.2 ∙ length-map u.0 _ in
          let h = a.sorted k (output q (env d)) low (omega arith) in
          rw (u.2, get_or-map (λ r. output q (env r)) u.0 (k + 1) d (output q (env d)) high, get_or-map (λ r. output q (env r)) u.0 k d (output q (env d)) (omega arith)) at h;
      is = a.shown ∙ ap (page q params) (ap (map (λ (o : Output). o.1)) u.2 ∙ map_twice _ _ u.0);
    }

-- ---- rowids

reversed_eq : (o : Ordering) → is_eq (ordering_reverse o) ≡ is_eq o
reversed_eq Less = refl
reversed_eq Equal = refl
reversed_eq Greater = refl

pub int_is : (v : Value) → IsTrue (is_int v) → v ≡ Int (id_in v)
int_is Null h = absurd (let e = h in cc)
int_is (Int n) h = refl
int_is (Real x) h = absurd (let e = h in cc)
int_is (Text t) h = absurd (let e = h in cc)
int_is (Blob b) h = absurd (let e = h in cc)

pub same_rowid_sym : (a b : Row) → has_same_rowid a b ≡ has_same_rowid b a
same_rowid_sym a b = ap is_eq (value_cmp_total.antisymm (rowid a) (rowid b)) ∙ reversed_eq (value_cmp (rowid b) (rowid a))

abbrev pub Keyed : List Row → Type 0
Keyed = AllByRecursion (λ r. IsTrue (is_int (rowid r)))

abbrev pub Apart : List Row → Type 0
Apart = IsDistinct has_same_rowid

clash : (b : Bool) → b ≡ true → b ≡ false → ⊥
clash b p q = let e = sym p ∙ q in cc

-- two rows with one rowid are one
pub same_row : (rows : List Row) (a b : Row) → Apart rows → Has rows a → Has rows b → has_same_rowid a b ≡ true → a ≡ b
unfolding IsDistinct
same_row [] a b apart h k is = absurd h
same_row (r ∷ rows) a b apart (inl e) (inl f) is = e ∙ sym f
same_row (r ∷ rows) a b apart (inl e) (inr k) is = absurd (clash (has_same_rowid r b) (subst (λ x. has_same_rowid x b ≡ true) e is) (all_has _ rows b apart.0 k))
same_row (r ∷ rows) a b apart (inr h) (inl f) is = absurd (clash (has_same_rowid r a) (same_rowid_sym r a ∙ subst (λ x. has_same_rowid a x ≡ true) f is) (all_has _ rows a apart.0 h))
same_row (r ∷ rows) a b apart (inr h) (inr k) is = same_row rows a b apart.1 h k is

has_itself : (rows : List Row) (r : Row) → Keyed rows → Has rows r → has_rowid (id_in (rowid r)) r ≡ true
has_itself rows r keyed h = let e = int_is (rowid r) (all_has _ rows r keyed h) in
    subst (λ v. is_eq (value_cmp v (Int (id_in (rowid r)))) ≡ true) (sym e) (ap is_eq (tied_itself value_cmp_total (Int (id_in (rowid r)))))

pub named_row : (rows : List Row) (a b : Row) → Keyed rows → Apart rows → Has rows a → Has rows b → has_rowid (id_in (rowid a)) b ≡ true → a ≡ b
named_row rows a b keyed apart h k is =
    let e = int_is (rowid a) (all_has _ rows a keyed h) in
    same_row rows a b apart h k (same_rowid_sym a b ∙ subst (λ v. is_eq (value_cmp (rowid b) v) ≡ true) (sym e) is)

-- ---- the rows that are left

filter_all : (p q : Row → Bool) (rows : List Row) → AllByRecursion (λ r. p r ≡ q r) rows → filter p rows ≡ filter q rows
filter_all p q [] all = refl
filter_all p q (r ∷ rows) all = rw (all.0) (ap (λ l. cond (q r) (r ∷ l) l) (filter_all p q rows all.1))

abbrev named : List ℤ → Row → Bool
named ids r = list_any (λ id. has_rowid id r) ids

not_or : (a b : Bool) → cond (not a) (not b) false ≡ not (a || b)
not_or true b = refl
not_or false b = refl

filter_twice : (p q : Row → Bool) (rows : List Row) → filter q (filter p rows) ≡ filter (λ r. cond (p r) (q r) false) rows
filter_twice p q [] = refl
filter_twice p q (r ∷ rows) = elim (cases_Bool (p r)) [
  | inl e ↦ rw e (ap (λ l. cond (q r) (r ∷ l) l) (filter_twice p q rows))
  | inr e ↦ rw e (filter_twice p q rows)
]

without_named : (ids : List ℤ) (rows : List Row) → without_all rows ids ≡ filter (λ r. not (named ids r)) rows
without_named [] rows = sym (all_pass rows)
  where
    all_pass : (rows : List Row) → filter (λ r. true) rows ≡ rows
    all_pass [] = refl
    all_pass (r ∷ rows) = ap (λ l. r ∷ l) (all_pass rows)
without_named (id ∷ ids) rows =
    without_named ids (without_rowid id rows) ∙ filter_twice (λ r. not (has_rowid id r)) (λ r. not (named ids r)) rows
    ∙ filter_all _ _ rows (all_from _ rows (λ r h. not_or (has_rowid id r) (named ids r)))

both_ways : (a b : Bool) → (a ≡ true → b ≡ true) → (b ≡ true → a ≡ true) → a ≡ b
both_ways true b f g = sym (f refl)
both_ways false true f g = g refl
both_ways false false f g = refl

-- a row is named by the rows that pass just where it passes
named_is : (p : Row → Bool) (rows picked : List Row) → Keyed rows → Apart rows → IsPermutation (filter p rows) picked → (r : Row) → Has rows r → named (ids_of picked) r ≡ p r
named_is p rows picked keyed apart same r h =
    both_ways _ _
    (λ is.
    let i = some_has (λ id. has_rowid id r) (ids_of picked) is in
    let s = has_mapped (λ x. id_in (rowid x)) picked i.0 i.1 in
    let f = has_filtered p rows s.0 (has_permuted (filter p rows) picked s.0 same s.1) in
    let e = named_row rows s.0 r keyed apart f.0 h (subst (λ id. has_rowid id r ≡ true) s.2 i.2) in
    ap p (sym e) ∙ f.1)
    (λ is.
    let there = has_permuted picked (filter p rows) r (IsPermutation-sym _ _ same) (has_kept p rows r h is) in
    some_from (λ id. has_rowid id r) (ids_of picked) (id_in (rowid r)) (mapped_has (λ x. id_in (rowid x)) picked r there) (has_itself rows r keyed h))

pub remains : (p : Row → Bool) (rows picked : List Row) → Keyed rows → Apart rows → IsPermutation (filter p rows) picked → without_all rows (ids_of picked) ≡ filter (λ r. not (p r)) rows
remains p rows picked keyed apart same = without_named (ids_of picked) rows ∙ filter_all _ _ rows (all_from _ rows (λ r h. ap not (named_is p rows picked keyed apart same r h)))

-- ---- the rows that come in

pub put_is : (new : Row) (rows : List Row) → is_taken rows new ≡ false → IsPermutation (new ∷ rows) (put_row new rows)
put_is new [] free = IsPermutation-refl _
put_is new (r ∷ rows) free = go (value_cmp (rowid r) (rowid new)) refl free (put_is new rows)
  where
    go : (o : Ordering) → value_cmp (rowid r) (rowid new) ≡ o → (is_eq o || is_taken rows new) ≡ false → (is_taken rows new ≡ false → IsPermutation (new ∷ rows) (put_row new rows))
        → IsPermutation (new ∷ r ∷ rows) (match_ordering o (r ∷ put_row new rows) (new ∷ rows) (new ∷ r ∷ rows))
    go Less e free more = IsPermutation-trans _ _ _ (IsPermutation-sym _ _ (IsPermutation-middle (r ∷ []) new rows)) (IsPermutation-cons r _ _ (more free))
    go Equal e free more = absurd (let f = free in cc)
    go Greater e free more = IsPermutation-refl _

not_taken : (a b : Bool) → (not a && b) ≡ true → (a ≡ false) × (b ≡ true)
not_taken true b h = absurd (let e = h in cc)
not_taken false b h = (refl, h)

pub put_all_is : (news rows : List Row) → are_fresh rows news ≡ true → IsPermutation (news ++ rows) (put_all rows news)
put_all_is [] rows fresh = IsPermutation-refl _
put_all_is (n ∷ news) rows fresh =
    let f = not_taken (is_taken rows n) (are_fresh (put_row n rows) news) fresh in
    IsPermutation-trans _ _ _ (IsPermutation-sym _ _ (IsPermutation-middle news n rows))
    (IsPermutation-trans _ _ _ (IsPermutation-append news news _ _ (IsPermutation-refl news) (put_is n rows f.0)) (put_all_is news (put_row n rows) f.1))

untaken : (new : Row) (rows : List Row) → is_taken rows new ≡ false → AllByRecursion (λ r. has_same_rowid new r ≡ false) rows
untaken new [] free = tt
untaken new (r ∷ rows) free = go (has_same_rowid r new) refl free (untaken new rows)
  where
    go : (b : Bool) → has_same_rowid r new ≡ b → (b || is_taken rows new) ≡ false
        → (is_taken rows new ≡ false → AllByRecursion (λ r. has_same_rowid new r ≡ false) rows) → AllByRecursion (λ r. has_same_rowid new r ≡ false) (r ∷ rows)
    go true e free more = absurd (let f = free in cc)
    go false e free more = (same_rowid_sym new r ∙ e, more free)

pub apart_put : (new : Row) (rows : List Row) → is_taken rows new ≡ false → Apart rows → Apart (new ∷ rows)
unfolding IsDistinct
apart_put new rows free apart = (untaken new rows free, apart)

pub apart_filter : (p : Row → Bool) (rows : List Row) → Apart rows → Apart (filter p rows)
unfolding IsDistinct
apart_filter p [] apart = tt
apart_filter p (r ∷ rows) apart = elim (cases_Bool (p r)) [
  | inl e ↦ rw e (all_from _ (filter p rows) (λ y h. all_has _ rows y apart.0 (has_filtered p rows y h).0), apart_filter p rows apart.1)
  | inr e ↦ rw e (apart_filter p rows apart.1)
]

pub apart_permuted : (rows those : List Row) → IsPermutation rows those → Apart rows → Apart those
apart_permuted rows those same = IsDistinct-IsPermutation has_same_rowid same_rowid_sym rows those same

module _ (f : Row → Row) (keeps : (r : Row) → rowid (f r) ≡ rowid r) where
  pub apart_map : (rows : List Row) → Apart rows → Apart (map f rows)
  unfolding IsDistinct
  apart_map [] apart = tt
  apart_map (r ∷ rows) apart = (each rows apart.0, apart_map rows apart.1)
    where
      each : (ys : List Row) → AllByRecursion (λ y. has_same_rowid r y ≡ false) ys → AllByRecursion (λ y. has_same_rowid (f r) y ≡ false) (map f ys)
      each [] all = tt
      each (y ∷ ys) all = (rw (keeps r, keeps y) all.0, each ys all.1)

  pub keyed_map : (rows : List Row) → Keyed rows → Keyed (map f rows)
  keyed_map [] all = tt
  keyed_map (r ∷ rows) all = (subst (λ v. IsTrue (is_int v)) (sym (keeps r)) all.0, keyed_map rows all.1)

pub keyed_permuted : (rows those : List Row) → IsPermutation rows those → Keyed rows → Keyed those
keyed_permuted rows those same all = all_from _ those (λ r h. all_has _ rows r all (has_permuted rows those r same h))

pub keyed_filter : (p : Row → Bool) (rows : List Row) → Keyed rows → Keyed (filter p rows)
keyed_filter p rows keyed = all_from _ (filter p rows) (λ r h. all_has _ rows r keyed (has_filtered p rows r h).0)

-- the rows that pass are changed, wherever they stand then
pub changed_is : (p : Row → Bool) (f : Row → Row) (rows : List Row) → IsPermutation (map f (filter p rows) ++ filter (λ r. not (p r)) rows) (map (λ r. if p r then f r else r) rows)
changed_is p f [] = IsPermutation-refl _
changed_is p f (r ∷ rows) = elim (cases_Bool (p r)) [
  | inl e ↦ rw e (IsPermutation-cons (f r) _ _ (changed_is p f rows))
  | inr e ↦ rw e (IsPermutation-trans _ _ _ (IsPermutation-middle (map f (filter p rows)) r (filter (λ r. not (p r)) rows)) (IsPermutation-cons r _ _ (changed_is p f rows)))
]
