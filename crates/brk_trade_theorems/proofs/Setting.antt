-- Texts set one after another, each by the key of its row, equal texts set in all rows at once.
use Rattle.std.proofs.Common.{◌≡◌, ℕ, ◌==◌, ◌||◌, Bool, true, false, cond, List, [], ◌∷◌, ◌++◌, refl, sym, ap, ◌∙◌, map, fold}
use Rattle.std.specs.List.{AllByRecursion}
use Rattle.brk_money.specs.Spelling.{Text}
use Rattle.brk_model.specs.Keys.{KeyPart, rows_sorted_by_key}
use Rattle.brk_model.specs.Lists.{contains_number, update_where}
use Rattle.brk_model.specs.Records.{Trade}
use Rattle.brk_trade_books.proofs.Bools.{numbers_back}
use Rattle.brk_trade_books.proofs.Order.{by_key-map}
use Rattle.brk_trade_books.proofs.Same.{All-map, map-same}
use Rattle.brk_trade_theorems.proofs.Through.{map-map}

-- changes one after another, and the last
pub fold-last : {T : Type 0} (fs : List (T → T)) (g : T → T) (t : T) → fold (λ t f. f t) t (fs ++ g ∷ []) ≡ g (fold (λ t f. f t) t fs)
fold-last [] g t = refl
fold-last (f ∷ fs) g t = fold-last fs g (f t)

pub fold-map : {X T : Type 0} (change : X → T → T) (xs : List X) (t : T) → fold (λ t f. f t) t (map change xs) ≡ fold (λ t x. change x t) t xs
fold-map change [] t = refl
fold-map change (x ∷ xs) t = fold-map change xs (change x t)

-- rows with an id, of which words are set; what is corrected, with the id of its row and the words;
-- trades with their rows, and the words that these are to have
module _ {Row C : Type 0} (id : Row → ℕ) (set : Text → Row → Row) (cid : C → ℕ) (new : C → Text) (row : Trade → Row) (word : Trade → Text)
    (same_id : (w : Text) (r : Row) → id (set w r) ≡ id r) (last_word : (v w : Text) (r : Row) → set v (set w r) ≡ set v r) (own_id : (t : Trade) → id (row t) ≡ t.id) where
  -- one row after each of some corrections
  abbrev pub set_one : Row → C → Row
  set_one r c = cond (id r == cid c) (set (new c) r) r

  abbrev pub set_all : List C → Row → Row
  set_all cs r = fold set_one r cs

  -- rows are changed each by itself
  each_row : (rows : List Row) (cs : List C) → fold (λ rows c. update_where (λ r. id r == cid c) (set (new c)) rows) rows cs ≡ map (set_all cs) rows
  each_row rows [] = sym (itself rows)
    where
      itself : (rows : List Row) → map (λ r. r) rows ≡ rows
      itself [] = refl
      itself (r ∷ rows) = ap (λ rs. r ∷ rs) (itself rows)
  each_row rows (c ∷ cs) = each_row (update_where (λ r. id r == cid c) (set (new c)) rows) cs ∙ map-map (set_all cs) (λ r. set_one r c) rows

  -- what is set is of the row's own trade
  abbrev pub IsOwn : List C → Trade → Type 0
  IsOwn cs t = AllByRecursion (λ c. (t.id == cid c) ≡ true → new c ≡ word t) cs

  -- a row that has its word already, or not yet
  worded : Trade → Bool → Row
  worded t b = cond b (set (word t) (row t)) (row t)

  id_worded : (t : Trade) (b : Bool) → id (worded t b) ≡ t.id
  unfolding worded
  id_worded t true = same_id (word t) (row t) ∙ own_id t
  id_worded t false = own_id t

  set_again : (t : Trade) (b : Bool) → set (word t) (worded t b) ≡ worded t true
  unfolding worded
  set_again t true = last_word (word t) (word t) (row t)
  set_again t false = refl

  or_true : (b : Bool) → b || true ≡ true
  or_true true = refl
  or_true false = refl

  or_more : (b c : Bool) → b || false ≡ b
  or_more true c = refl
  or_more false c = refl

  one_set : (t : Trade) (b : Bool) (c : C) → ((t.id == cid c) ≡ true → new c ≡ word t) → set_one (worded t b) c ≡ worded t (b || (cid c == t.id))
  one_set t b c own = ap (λ n. cond (n == cid c) (set (new c) (worded t b)) (worded t b)) (id_worded t b) ∙ by_test (t.id == cid c) refl
      ∙ ap (λ d. worded t (b || d)) (numbers_back t.id (cid c))
    where
      by_test : (d : Bool) → (t.id == cid c) ≡ d → cond (t.id == cid c) (set (new c) (worded t b)) (worded t b) ≡ worded t (b || (t.id == cid c))
      by_test true e = rw e (ap (λ w. set w (worded t b)) (own e) ∙ set_again t b ∙ ap (worded t) (sym (or_true b)))
      by_test false e = rw e (ap (worded t) (sym (or_more b b)))

  or_assoc : (a b c : Bool) → (a || b) || c ≡ a || (b || c)
  or_assoc true b c = refl
  or_assoc false b c = refl

  some_set : (t : Trade) (b : Bool) (cs : List C) → IsOwn cs t → set_all cs (worded t b) ≡ worded t (b || contains_number t.id (map cid cs))
  some_set t b [] own = ap (worded t) (sym (or_more b b))
  some_set t b (c ∷ cs) own =
      ap (set_all cs) (one_set t b c own.0) ∙ some_set t (b || (cid c == t.id)) cs own.1
      ∙ ap (worded t) (or_assoc b (cid c == t.id) (contains_number t.id (map cid cs)))

  -- of the rows of trades by rising key
  module _ (key : Row → List KeyPart) (same_key : (w : Text) (r : Row) → key (set w r) ≡ key r) where
    key_kept : (cs : List C) (r : Row) → key (set_all cs r) ≡ key r
    key_kept [] r = refl
    key_kept (c ∷ cs) r = key_kept cs (set_one r c) ∙ by_test (id r == cid c)
      where
        by_test : (b : Bool) → key (cond b (set (new c) r) r) ≡ key r
        by_test true = same_key (new c) r
        by_test false = refl

    pub all_set : (cs : List C) (ts : List Trade) → AllByRecursion (IsOwn cs) ts
        → fold (λ rows c. update_where (λ r. id r == cid c) (set (new c)) rows) (rows_sorted_by_key key (map row ts)) cs
        ≡ rows_sorted_by_key key (map (λ t. cond (contains_number t.id (map cid cs)) (set (word t) (row t)) (row t)) ts)
    unfolding worded
    all_set cs ts own =
        each_row (rows_sorted_by_key key (map row ts)) cs
        ∙ sym (by_key-map key key (set_all cs) (map row ts) (key_kept cs))
        ∙ ap (rows_sorted_by_key key) (map-map (set_all cs) row ts
        ∙ map-same (λ t. set_all cs (row t)) (λ t. cond (contains_number t.id (map cid cs)) (set (word t) (row t)) (row t)) ts
        (All-map ts (λ t k. some_set t false cs k) own))
