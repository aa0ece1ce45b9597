-- Rows with distinct keys ascend strictly once they are sorted by key.
use Rattle.std.proofs.Common.{◌≡◌, Bool, true, false, not, cond, List, [], ◌∷◌, ◌++◌, refl, sym, ◌∙◌, ap, map, filter}
use Rattle.std.specs.Prelude.{◌||◌, bytes_eq, flat_map, ⊤}
use Rattle.std.specs.List.{AllByRecursion, list_any}
use Rattle.std.proofs.lemmas.Bool.{and_from}
use Rattle.std.proofs.lemmas.Slice.Eq.{bytes_eq-Decides}
use Rattle.brk_money.specs.Spelling.{Text}
use Rattle.brk_model.specs.Form.{has_disjoint_bands, has_distinct_tax_ids, is_sorted_by_unique_key}
use Rattle.brk_model.specs.Keys.{KeyPart, number, word, rows_sorted_by_key, is_key_less, is_row_key_less}
use Rattle.brk_model.specs.Lists.{insert_by, sort_by}
use Rattle.brk_model.specs.Records.{Account, Band, Customer, Permission, Security, Trade}
use Rattle.brk_model.specs.Tests.{bands_overlap}
use Rattle.brk_trade_books.specs.Books.{HasDisjointBands, HasDistinctAccountIds, HasDistinctSymbols, HasOrderedBounds, HasDistinctPermissions}
use Rattle.brk_trade_books.proofs.Order.{All-insert, NewKey, key_total}
use Rattle.brk_trade_books.proofs.Same.{NonePass, All-append, All-filter, All-map}
use Rattle.brk_trade_books.proofs.Keepers.{meet_back}
use Rattle.brk_trade_books.proofs.NewKeys.{band_new, permission_new}
use Rattle.brk_trade_books.proofs.References.{new_number}
use Rattle.brk_trade_books.proofs.LotReading.{All-sort, IdsApart}
use Rattle.brk_model.specs.Keys.{band_key, permission_key}
use Rattle.brk_audit_theorems.proofs.Climbs.{Climbs, key_through}
use Rattle.brk_audit_theorems.proofs.Members.{All-flat_map}
use Rattle.brk_audit_theorems.specs.Histories.{account_id_key}
use Rattle.brk_audit_theorems.specs.Sound.{HasDistinctKeys, customer_tax_id_key}
use Rattle.brk_audit_theorems.proofs.SoundRecords.{new_text}

-- ---- sorted rows climb

goes_before : (j k : List KeyPart) → (k ≡ j → ⊥) → is_key_less k j ≡ false → is_key_less j k ≡ true
goes_before j k h e = by_test (is_key_less j k) refl
  where
    by_test : (b : Bool) → is_key_less j k ≡ b → is_key_less j k ≡ true
    by_test true f = f
    by_test false f = absurd (h (sym (key_total j k f e)))

climbs_insert : {Row : Type 0} (key : Row → List KeyPart) (x : Row) (ys : List Row) → NewKey key x ys → Climbs key ys → Climbs key (insert_by (is_row_key_less key) x ys)
climbs_insert key x [] n c = (tt, tt)
climbs_insert {Row = Row} key x (y ∷ ys) n c = by_test (is_key_less (key y) (key x)) refl (climbs_insert key x ys n.1 c.1)
  where
    by_test : (b : Bool) → is_key_less (key y) (key x) ≡ b → Climbs key (insert_by (is_row_key_less key) x ys) → Climbs key (cond b (y ∷ insert_by (is_row_key_less key) x ys) (x ∷ y ∷ ys))
    by_test true e ih = (All-insert (λ z. is_key_less (key y) (key z) ≡ true) (is_row_key_less key) x ys e c.0, ih)
    by_test false e ih =
        let f : is_key_less (key x) (key y) ≡ true = goes_before (key x) (key y) n.0 e in
        ((f, All-map ys (λ z g. key_through (key x) (key y) (key z) f g) c.0), c)

pub apart_climbs : {Row : Type 0} (key : Row → List KeyPart) (xs : List Row) → HasDistinctKeys key xs → Climbs key (rows_sorted_by_key key xs)
unfolding sort_by
apart_climbs key [] a = tt
apart_climbs key (x ∷ xs) a = climbs_insert key x (rows_sorted_by_key key xs) (All-sort (λ y. key y ≡ key x → ⊥) (is_row_key_less key) xs a.0) (apart_climbs key xs a.1)

pub climbs_rises : {Row : Type 0} (key : Row → List KeyPart) (xs : List Row) → Climbs key xs → is_sorted_by_unique_key key xs ≡ true
climbs_rises key [] c = refl
climbs_rises key (x ∷ []) c = refl
climbs_rises key (x ∷ y ∷ ys) c = and_from (is_key_less (key x) (key y)) (is_sorted_by_unique_key key (y ∷ ys)) c.0.0 (climbs_rises key (y ∷ ys) c.1)

pub apart_rises : {Row : Type 0} (key : Row → List KeyPart) (xs : List Row) → HasDistinctKeys key xs → is_sorted_by_unique_key key (rows_sorted_by_key key xs) ≡ true
apart_rises key xs a = climbs_rises key (rows_sorted_by_key key xs) (apart_climbs key xs a)

-- ---- keys apart of lists made of others

apart_ahead : {X Row : Type 0} (key : X → List KeyPart) (key' : Row → List KeyPart) (f : X → Row) (x : X) (ys : List X) → ((z : X) → key' (f z) ≡ key z)
    → NewKey key x ys → NewKey key' (f x) (map f ys)
apart_ahead key key' f x [] e n = tt
apart_ahead key key' f x (y ∷ ys) e n = ((λ p. n.0 (sym (e y) ∙ p ∙ e x)), apart_ahead key key' f x ys e n.1)

pub apart_map : {X Row : Type 0} (key : X → List KeyPart) (key' : Row → List KeyPart) (f : X → Row) (xs : List X) → ((z : X) → key' (f z) ≡ key z)
    → HasDistinctKeys key xs → HasDistinctKeys key' (map f xs)
apart_map key key' f [] e a = tt
apart_map key key' f (x ∷ xs) e a = (apart_ahead key key' f x xs e a.0, apart_map key key' f xs e a.1)

pub apart_filter : {Row : Type 0} (key : Row → List KeyPart) (p : Row → Bool) (xs : List Row) → HasDistinctKeys key xs → HasDistinctKeys key (filter p xs)
apart_filter key p [] a = tt
apart_filter key p (x ∷ xs) a =
    elim (p x) as (λ b. HasDistinctKeys key (cond b (x ∷ filter p xs) (filter p xs)))
    [ true ↦ (All-filter (λ y. key y ≡ key x → ⊥) p xs a.0, apart_filter key p xs a.1) | false ↦ apart_filter key p xs a.1 ]

-- no row of some has a key of others
abbrev pub OtherKeys : {Row : Type 0} → (Row → List KeyPart) → List Row → List Row → Type 0
OtherKeys key xs ys = AllByRecursion (λ x. AllByRecursion (λ y. key y ≡ key x → ⊥) ys) xs

apart_append : {Row : Type 0} (key : Row → List KeyPart) (xs ys : List Row) → HasDistinctKeys key xs → HasDistinctKeys key ys → OtherKeys key xs ys → HasDistinctKeys key (xs ++ ys)
apart_append key [] ys a b o = b
apart_append key (x ∷ xs) ys a b o = (All-append (λ y. key y ≡ key x → ⊥) xs ys a.0 o.0, apart_append key xs ys a.1 b o.1)

-- of each two of some things, the rows have other keys
abbrev pub OthersApart : {X Row : Type 0} → (Row → List KeyPart) → (X → List Row) → List X → Type 0
OthersApart key f [] = ⊤
OthersApart key f (x ∷ xs) = AllByRecursion (λ y. OtherKeys key (f x) (f y)) xs × OthersApart key f xs

pub swap_all : {X Y : Type 0} (R : X → Y → Type 0) (xs : List X) (ys : List Y) → AllByRecursion (λ y. AllByRecursion (λ x. R x y) xs) ys → AllByRecursion (λ x. AllByRecursion (λ y. R x y) ys) xs
swap_all R [] ys h = tt
swap_all R (x ∷ xs) ys h = (All-map ys (λ y k. k.0) h, swap_all R xs ys (All-map ys (λ y k. k.1) h))

pub apart_flat_map : {X Row : Type 0} (key : Row → List KeyPart) (f : X → List Row) (xs : List X) → AllByRecursion (λ x. HasDistinctKeys key (f x)) xs → OthersApart key f xs
    → HasDistinctKeys key (flat_map f xs)
apart_flat_map key f [] a o = tt
apart_flat_map key f (x ∷ xs) a o =
    apart_append key (f x) (flat_map f xs) a.0 (apart_flat_map key f xs a.1 o.1)
    (All-map (f x) (λ r h. All-flat_map (λ s. key s ≡ key r → ⊥) f xs h) (swap_all (λ r y. AllByRecursion (λ s. key s ≡ key r → ⊥) (f y)) (f x) xs o.0))

-- ---- keys of a base in order

pub accounts_apart : (as' : List Account) → HasDistinctAccountIds as' → HasDistinctKeys account_id_key as'
accounts_apart [] d = tt
accounts_apart (a ∷ as') d = (new_number (λ x. x.id) a as' d.0, accounts_apart as' d.1)

pub permissions_apart : (ps : List Permission) → HasDistinctPermissions ps → HasDistinctKeys permission_key ps
permissions_apart [] d = tt
permissions_apart (p ∷ ps) d = (permission_new p ps d.0, permissions_apart ps d.1)

pub symbols_apart : (ss : List Security) → HasDistinctSymbols ss → HasDistinctKeys (λ s. word s.symbol ∷ []) ss
symbols_apart [] d = tt
symbols_apart (s ∷ ss) d = (new_text (λ x. x.symbol) s ss d.0, symbols_apart ss d.1)

pub bands_apart : (bs : List Band) → AllByRecursion HasOrderedBounds bs → HasDisjointBands bs → HasDistinctKeys band_key bs
bands_apart [] h d = tt
bands_apart (b ∷ bs) h d = (band_new b bs h.0 h.1 d.0, bands_apart bs h.1 d.1)

pub ids_apart : (ts : List Trade) → IdsApart ts → HasDistinctKeys (λ t. number t.id ∷ []) ts
ids_apart [] d = tt
ids_apart (t ∷ ts) d = (new_number (λ x. x.id) t ts d.0, ids_apart ts d.1)

-- ---- tax ids and bands are apart in any order

apart_insert : {Row : Type 0} (key : Row → List KeyPart) (before : Row → Row → Bool) (x : Row) (ys : List Row) → NewKey key x ys → HasDistinctKeys key ys → HasDistinctKeys key (insert_by before x ys)
apart_insert key before x [] n a = (tt, tt)
apart_insert key before x (y ∷ ys) n a =
    elim (before y x) as (λ b. HasDistinctKeys key (cond b (y ∷ insert_by before x ys) (x ∷ y ∷ ys)))
    [ true ↦ (All-insert (λ z. key z ≡ key y → ⊥) before x ys (λ e. n.0 (sym e)) a.0, apart_insert key before x ys n.1 a.1) | false ↦ (n, a) ]

pub apart_sort : {Row : Type 0} (key : Row → List KeyPart) (before : Row → Row → Bool) (xs : List Row) → HasDistinctKeys key xs → HasDistinctKeys key (sort_by before xs)
unfolding sort_by
apart_sort key before [] a = tt
apart_sort key before (x ∷ xs) a = apart_insert key before x (sort_by before xs) (All-sort (λ y. key y ≡ key x → ⊥) before xs a.0) (apart_sort key before xs a.1)

pub none_any : {X : Type 0} (p : X → Bool) (xs : List X) → NonePass p xs → list_any p xs ≡ false
none_any p [] h = refl
none_any p (x ∷ xs) h = ap (λ b. b || list_any p xs) h.0 ∙ none_any p xs h.1

other_text : (s t : Text) → (word s ∷ [] ≡ word t ∷ [] → ⊥) → bytes_eq s t ≡ false
other_text s t h = by_test (bytes_eq s t) refl
  where
    by_test : (b : Bool) → bytes_eq s t ≡ b → bytes_eq s t ≡ false
    by_test false e = e
    by_test true e = absurd (h (ap (λ u. word u ∷ []) ((bytes_eq-Decides s t).0 e)))

pub tax_ids_apart : (cs : List Customer) → HasDistinctKeys customer_tax_id_key cs → has_distinct_tax_ids cs ≡ true
tax_ids_apart [] a = refl
tax_ids_apart (c ∷ cs) a =
    and_from (not (list_any (λ d. bytes_eq d.tax_id c.tax_id) cs)) (has_distinct_tax_ids cs)
    (ap not (none_any (λ d. bytes_eq d.tax_id c.tax_id) cs (All-map cs (λ d h. other_text d.tax_id c.tax_id h) a.0))) (tax_ids_apart cs a.1)

pub overlap_none : (bs : List Band) → HasDisjointBands bs → has_disjoint_bands bs ≡ true
overlap_none [] d = refl
overlap_none (b ∷ bs) d = and_from (not (list_any (bands_overlap b) bs)) (has_disjoint_bands bs) (ap not (none_any (bands_overlap b) bs d.0)) (overlap_none bs d.1)

bands_insert : (before : Band → Band → Bool) (x : Band) (ys : List Band) → NonePass (bands_overlap x) ys → HasDisjointBands ys → HasDisjointBands (insert_by before x ys)
bands_insert before x [] n a = (tt, tt)
bands_insert before x (y ∷ ys) n a =
    elim (before y x) as (λ b. HasDisjointBands (cond b (y ∷ insert_by before x ys) (x ∷ y ∷ ys)))
    [ true ↦ (All-insert (λ z. bands_overlap y z ≡ false) before x ys (meet_back x y (bands_overlap y x) refl n.0) a.0, bands_insert before x ys n.1 a.1) | false ↦ (n, a) ]

pub bands_sort : (before : Band → Band → Bool) (bs : List Band) → HasDisjointBands bs → HasDisjointBands (sort_by before bs)
unfolding sort_by
bands_sort before [] a = tt
bands_sort before (b ∷ bs) a = bands_insert before b (sort_by before bs) (All-sort (λ y. bands_overlap b y ≡ false) before bs a.0) (bands_sort before bs a.1)
