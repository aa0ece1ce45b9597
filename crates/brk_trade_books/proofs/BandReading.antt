-- The band of a quantity among the rows of its tier, type and exchange is unique, as no two bands
-- overlap.
use Rattle.std.proofs.Common.{◌≡◌, ℕ, ◌==◌, ◌&&◌, Bool, true, false, cond, List, [], ◌∷◌, refl, sym, ◌∙◌, ap, filter, arith, Some}
use Rattle.std.specs.Prelude.{⊤, ◌||◌, find, nat_le, bytes_eq}
use Rattle.std.specs.List.{list_any}
use Rattle.std.proofs.lemmas.Bool.{eqb-true, eq-eqb}
use Rattle.std.proofs.lemmas.Bool.Decides.{nat_tests}
use Rattle.std.proofs.lemmas.Slice.Eq.{bytes_eq-Decides}
use Rattle.brk_money.specs.Spelling.{Text}
use Rattle.brk_money.specs.Kinds.{is_same_trade_type}
use Rattle.brk_money.specs.declared.trade_type.TradeType.{TradeType}
use Rattle.brk_model.specs.Lists.{insert_by, sort_by}
use Rattle.brk_model.specs.Records.{Band}
use Rattle.brk_model.specs.Base.{Base, commission_band_for_quantity}
use Rattle.brk_model.specs.Keys.{KeyPart, is_row_key_less, rows_sorted_by_key, band_key}
use Rattle.brk_model.specs.Sheets.{sheets, tables_sorted_by_key}
use Rattle.brk_model.specs.Tables.{tables_of_base_in_schema}
use Rattle.brk_model.specs.Tests.{bands_overlap}
use Rattle.brk_trade_books.specs.Books.{BooksInvariant, HasDisjointBands}
use Rattle.brk_trade_books.specs.TradeReads.{commission_band_of_quantity}
use Rattle.brk_trade_books.proofs.Same.{NonePass, All-map, any-none}
use Rattle.brk_trade_books.proofs.Reading.{any-sorted}
use Rattle.brk_trade_books.proofs.NewKeys.{both, and_both, not_both, same_bytes, same_codes, code_same}

-- ---- where no two pass, their order is no matter

OnlyOne : {X : Type 0} → (X → Bool) → List X → Type 0
OnlyOne p [] = ⊤
OnlyOne p (x ∷ xs) = (p x ≡ true → NonePass p xs) × OnlyOne p xs

none-any : {X : Type 0} (p : X → Bool) (xs : List X) → NonePass p xs → list_any p xs ≡ false
none-any p [] h = refl
none-any p (x ∷ xs) h = ap (λ b. b || list_any p xs) h.0 ∙ none-any p xs h.1

find-first : {X : Type 0} (before : X → X → Bool) (p : X → Bool) (x : X) (ys : List X) → p x ≡ true → NonePass p ys → find p (insert_by before x ys) ≡ Some x
find-first before p x [] e h = rw e refl
find-first before p x (y ∷ ys) e h = by_test (find-first before p x ys e h.1) (before y x)
  where
    by_test : find p (insert_by before x ys) ≡ Some x → (b : Bool) → find p (cond b (y ∷ insert_by before x ys) (x ∷ y ∷ ys)) ≡ Some x
    by_test ih true = rw h.0 ih
    by_test ih false = rw e refl

find-past : {X : Type 0} (before : X → X → Bool) (p : X → Bool) (x : X) (ys : List X) → p x ≡ false → find p (insert_by before x ys) ≡ find p ys
find-past before p x [] e = rw e refl
find-past before p x (y ∷ ys) e = by_test (find-past before p x ys e) (before y x)
  where
    by_test : find p (insert_by before x ys) ≡ find p ys → (b : Bool) → find p (cond b (y ∷ insert_by before x ys) (x ∷ y ∷ ys)) ≡ find p (y ∷ ys)
    by_test ih true = ap (λ o. cond (p y) (Some y) o) ih
    by_test ih false = rw e refl

find-only : {Row : Type 0} (key : Row → List KeyPart) (p : Row → Bool) (xs : List Row) → OnlyOne p xs → find p (rows_sorted_by_key key xs) ≡ find p xs
unfolding sort_by OnlyOne
find-only key p [] h = refl
find-only {Row = Row} key p (x ∷ xs) h = by_test (find-only key p xs h.1) (p x) refl
  where
    by_test : find p (rows_sorted_by_key key xs) ≡ find p xs → (b : Bool) → p x ≡ b → find p (insert_by (is_row_key_less key) x (rows_sorted_by_key key xs)) ≡ find p (x ∷ xs)
    by_test ih true e =
        find-first (is_row_key_less key) p x (rows_sorted_by_key key xs) e
        (any-none p (rows_sorted_by_key key xs) (any-sorted key p xs ∙ none-any p xs (h.0 e))) ∙ sym (ap (λ b. cond b (Some x) (find p xs)) e)
    by_test ih false e = find-past (is_row_key_less key) p x (rows_sorted_by_key key xs) e ∙ ih ∙ sym (ap (λ b. cond b (Some x) (find p xs)) e)

find-filter : {X : Type 0} (q p : X → Bool) (xs : List X) → find p (filter q xs) ≡ find (λ x. q x && p x) xs
find-filter q p [] = refl
find-filter {X = X} q p (x ∷ xs) = by_test (q x) (find-filter q p xs)
  where
    by_test : (b : Bool) → find p (filter q xs) ≡ find (λ x. q x && p x) xs
        → find p (cond b (x ∷ filter q xs) (filter q xs)) ≡ cond (b && p x) (Some x) (find (λ x. q x && p x) xs)
    by_test true e = ap (λ o. cond (p x) (Some x) o) e
    by_test false e = e

find-same : {X : Type 0} (p q : X → Bool) (xs : List X) → ((x : X) → p x ≡ q x) → find p xs ≡ find q xs
find-same p q [] h = refl
find-same p q (x ∷ xs) h = λ i. cond (h x i) (Some x) (find-same p q xs h i)

-- ---- bands

and_assoc : (a b c : Bool) → a && (b && c) ≡ (a && b) && c
and_assoc true b c = refl
and_assoc false b c = refl

-- whether a band is of a tier, a type, an exchange and a quantity
abbrev fits : ℕ → TradeType → Text → ℕ → Band → Bool
fits tier kind exchange qty b = (b.tier == tier) && is_same_trade_type b.kind kind && bytes_eq b.exchange exchange && nat_le b.from_qty qty && nat_le qty b.to_qty

le_through : (m n k : ℕ) → nat_le m n ≡ true → nat_le n k ≡ true → nat_le m k ≡ true
le_through m n k g h = grind (arith, nat_tests)

-- two bands of one quantity share it
both_meet : (tier : ℕ) (kind : TradeType) (exchange : Text) (qty : ℕ) (b c : Band) → fits tier kind exchange qty b ≡ true → fits tier kind exchange qty c ≡ true → bands_overlap b c ≡ true
both_meet tier kind exchange qty b c e f =
    let e1 = both _ (nat_le qty b.to_qty) e in
    let e2 = both _ (nat_le b.from_qty qty) e1.0 in
    let e3 = both _ (bytes_eq b.exchange exchange) e2.0 in
    let e4 = both (b.tier == tier) (is_same_trade_type b.kind kind) e3.0 in
    let f1 = both _ (nat_le qty c.to_qty) f in
    let f2 = both _ (nat_le c.from_qty qty) f1.0 in
    let f3 = both _ (bytes_eq c.exchange exchange) f2.0 in
    let f4 = both (c.tier == tier) (is_same_trade_type c.kind kind) f3.0 in
    and_both _ _ (and_both _ _ (and_both _ _ (and_both _ _
    (eq-eqb b.tier c.tier (eqb-true b.tier tier e4.0 ∙ sym (eqb-true c.tier tier f4.0)))
    (code_same b.kind c.kind (same_codes b.kind kind e4.1 ∙ sym (same_codes c.kind kind f4.1))))
    (same_bytes b.exchange c.exchange ((bytes_eq-Decides b.exchange exchange).0 e3.1 ∙ sym ((bytes_eq-Decides c.exchange exchange).0 f3.1))))
    (le_through b.from_qty qty c.to_qty e2.1 f1.1))
    (le_through c.from_qty qty b.to_qty f2.1 e1.1)

only_band : (tier : ℕ) (kind : TradeType) (exchange : Text) (qty : ℕ) (bs : List Band) → HasDisjointBands bs → OnlyOne (fits tier kind exchange qty) bs
unfolding OnlyOne
only_band tier kind exchange qty [] h = tt
only_band tier kind exchange qty (b ∷ bs) h = (
  (λ e. All-map bs (λ c apart. other c apart e (fits tier kind exchange qty c) refl) h.0),
  only_band tier kind exchange qty bs h.1,
)
  where
    other : (c : Band) → bands_overlap b c ≡ false → fits tier kind exchange qty b ≡ true → (f : Bool) → fits tier kind exchange qty c ≡ f → fits tier kind exchange qty c ≡ false
    other c apart e false g = g
    other c apart e true g = absurd (not_both (bands_overlap b c) (both_meet tier kind exchange qty b c e g) apart)

pub reads_band : (base : Base) (tier : ℕ) (kind : TradeType) (exchange : Text) (qty : ℕ) → BooksInvariant base
    → commission_band_of_quantity (sheets base) tier kind exchange qty ≡ commission_band_for_quantity base tier kind exchange qty
unfolding tables_of_base_in_schema tables_sorted_by_key
reads_band base tier kind exchange qty books =
    find-filter (λ r. (r.tier == tier) && is_same_trade_type r.kind kind && bytes_eq r.exchange exchange) (λ r. nat_le r.from_qty qty && nat_le qty r.to_qty) (rows_sorted_by_key band_key base.bands)
    ∙ find-same _ (fits tier kind exchange qty) (rows_sorted_by_key band_key base.bands)
    (λ b. and_assoc ((b.tier == tier) && is_same_trade_type b.kind kind && bytes_eq b.exchange exchange) (nat_le b.from_qty qty) (nat_le qty b.to_qty))
    ∙ find-only band_key (fits tier kind exchange qty) base.bands (only_band tier kind exchange qty base.bands books.apart)
