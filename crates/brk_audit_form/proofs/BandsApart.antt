-- Bands sorted by key, no two neighbours of which share a quantity.
use Rattle.std.proofs.Common.{◌≡◌, ℕ, zero, suc, ◌<◌, ◌≤◌, Bool, true, false, not, List, [], ◌∷◌, refl, sym, ◌∙◌, ap, subst, map, length, get_or, Ordering}
use Rattle.std.proofs.Common.{Less, Equal, Greater, nat_cmp, add-one, arith}
use Rattle.std.specs.Prelude.{◌&&◌, ◌||◌, ◌==◌, bytes_eq, nat_le}
use Rattle.std.specs.List.{AllByRecursion, IsAllAdjacentAnswer, list_any, list_all}
use Rattle.std.specs.Ordering.{is_eq, ordering_then, ordering_reverse}
use Rattle.std.specs.Cmp.{IsTotalOrder}
use Rattle.std.specs.Cmp.Lexicographic.{slice_cmp}
use Rattle.std.proofs.lemmas.Cmp.{nat_cmp_total, nat_list_cmp_total, ranked}
use Rattle.std.proofs.lemmas.Bool.{eqb-true, leb-true, le-leb}
use Rattle.std.proofs.lemmas.Slice.Eq.{bytes_eq-Decides}
use Rattle.std.proofs.lemmas.Map.Text.{is_eq-slice_cmp}
use Rattle.brk_money.specs.Kinds.{is_same_trade_type, trade_type_code}
use Rattle.brk_money.specs.declared.trade_type.TradeType.{TradeType}
use Rattle.brk_money.specs.declared.trade_type.TradeType.TheVariants.{MarketBuy, MarketSell, StopLoss, LimitSell, LimitBuy}
use Rattle.brk_model.specs.Records.{Band}
use Rattle.brk_model.specs.Schemas.{Schema}
use Rattle.brk_model.specs.Keys.{is_key_less, band_key}
use Rattle.brk_model.specs.Tests.{bands_overlap}
use Rattle.brk_model.specs.Form.{is_well_formed_band_row, has_disjoint_bands, is_tier, is_quantity_in_schema}
use Rattle.brk_model.specs.Forms.{is_exchange}
use Rattle.brk_model.specs.Limits.{greatest_commission_rate}
use Rattle.brk_audit_form.specs.Keys.{key_cmp}
use Rattle.brk_audit_theorems.proofs.Climbs.{Climbs, list_all_true}
use Rattle.brk_model_theorems.proofs.Conjunctions.{parts5, parts6}
use Rattle.brk_audit_form.proofs.KeyOrders.{key_lt}
use Rattle.brk_audit_form.proofs.Searches.{eq_number}
use Rattle.brk_audit_form.proofs.Places.{less_of}

type_same : (a b : TradeType) → bytes_eq (trade_type_code a) (trade_type_code b) ≡ is_same_trade_type a b
type_same MarketBuy MarketBuy = refl
type_same MarketBuy MarketSell = refl
type_same MarketBuy StopLoss = refl
type_same MarketBuy LimitSell = refl
type_same MarketBuy LimitBuy = refl
type_same MarketSell MarketBuy = refl
type_same MarketSell MarketSell = refl
type_same MarketSell StopLoss = refl
type_same MarketSell LimitSell = refl
type_same MarketSell LimitBuy = refl
type_same StopLoss MarketBuy = refl
type_same StopLoss MarketSell = refl
type_same StopLoss StopLoss = refl
type_same StopLoss LimitSell = refl
type_same StopLoss LimitBuy = refl
type_same LimitSell MarketBuy = refl
type_same LimitSell MarketSell = refl
type_same LimitSell StopLoss = refl
type_same LimitSell LimitSell = refl
type_same LimitSell LimitBuy = refl
type_same LimitBuy MarketBuy = refl
type_same LimitBuy MarketSell = refl
type_same LimitBuy StopLoss = refl
type_same LimitBuy LimitSell = refl
type_same LimitBuy LimitBuy = refl

-- what goes between two keys with one first part has that part too
squeeze : {K : Type 0} {R : K → K → Ordering} (o : IsTotalOrder R) (a b : K) (p q : Ordering) → ordering_then (R a b) p ≡ Less → ordering_then (R b a) q ≡ Less
    → (R a b ≡ Equal) × (p ≡ Less) × (q ≡ Less)
squeeze {R = R} o a b p q e f = by_order (R a b) (R b a) (o.antisymm b a) e f
  where
    by_order : (r s : Ordering) → s ≡ ordering_reverse r → ordering_then r p ≡ Less → ordering_then s q ≡ Less → (r ≡ Equal) × (p ≡ Less) × (q ≡ Less)
    by_order Less s k e f = absurd (greater q (sym (ap (λ r. ordering_then r q) k) ∙ f))
      where
        greater : (q : Ordering) → Greater ≡ Less → ⊥
        greater q h = absurd (cc)
    by_order Equal s k e f = (refl, e, sym (ap (λ r. ordering_then r q) k) ∙ f)
    by_order Greater s k e f = absurd (cc)

same_words : (s t : List ℕ) → slice_cmp nat_cmp s t ≡ Equal → bytes_eq s t ≡ true
same_words s t e = sym (is_eq-slice_cmp s t) ∙ ap is_eq e

less_lt : (m n : ℕ) → nat_cmp m n ≡ Less → m < n
less_lt m n e = ranked m n Less (sym e)

abbrev pub Bounded : Band → Type 0
Bounded b = b.from_qty ≤ b.to_qty

and5 : (a b c d e : Bool) → a ≡ true → b ≡ true → c ≡ true → d ≡ true → e ≡ true → (a && b && c && d && e) ≡ true
and5 a b c d e p q r s t = λ i. p i && q i && r i && s i && t i

-- a band that shares a quantity with one that goes later shares one with each between
between : (a b c : Band) → Bounded b → key_cmp (band_key a) (band_key b) ≡ Less → key_cmp (band_key b) (band_key c) ≡ Less → bands_overlap a c ≡ true → bands_overlap a b ≡ true
between a b c h e f m =
    let parts = parts5 (a.tier == c.tier) (is_same_trade_type a.kind c.kind) (bytes_eq a.exchange c.exchange) (nat_le a.from_qty c.to_qty) (nat_le c.from_qty a.to_qty) m in
    let tier : c.tier ≡ a.tier = sym (eqb-true a.tier c.tier parts.0) in
    let code : trade_type_code c.kind ≡ trade_type_code a.kind = sym ((bytes_eq-Decides (trade_type_code a.kind) (trade_type_code c.kind)).0 (type_same a.kind c.kind ∙ parts.1)) in
    let exchange : c.exchange ≡ a.exchange = sym ((bytes_eq-Decides a.exchange c.exchange).0 parts.2) in
    let g : ordering_then (nat_cmp b.tier a.tier)
    (ordering_then (slice_cmp nat_cmp (trade_type_code b.kind) (trade_type_code a.kind))
    (ordering_then (slice_cmp nat_cmp b.exchange a.exchange) (nat_cmp b.from_qty c.from_qty))) ≡ Less =
    sym (λ i. ordering_then (nat_cmp b.tier (tier i))
    (ordering_then (slice_cmp nat_cmp (trade_type_code b.kind) (code i))
    (ordering_then (slice_cmp nat_cmp b.exchange (exchange i)) (nat_cmp b.from_qty c.from_qty)))) ∙ f in
    let x = squeeze nat_cmp_total a.tier b.tier _ _ e g in
    let y = squeeze nat_list_cmp_total (trade_type_code a.kind) (trade_type_code b.kind) _ _ x.1 x.2 in
    let z = squeeze nat_list_cmp_total a.exchange b.exchange _ _ y.1 y.2 in
    let low : a.from_qty < b.from_qty = less_lt a.from_qty b.from_qty z.1 in
    let high : b.from_qty < c.from_qty = less_lt b.from_qty c.from_qty z.2 in
    let last : c.from_qty ≤ a.to_qty = leb-true c.from_qty a.to_qty parts.4 in
    and5 (a.tier == b.tier) (is_same_trade_type a.kind b.kind) (bytes_eq a.exchange b.exchange) (nat_le a.from_qty b.to_qty) (nat_le b.from_qty a.to_qty)
    (sym (eq_number a.tier b.tier) ∙ ap is_eq x.0)
    (sym (type_same a.kind b.kind) ∙ same_words (trade_type_code a.kind) (trade_type_code b.kind) y.0)
    (same_words a.exchange b.exchange z.0)
    (le-leb a.from_qty b.to_qty (omega arith))
    (le-leb b.from_qty a.to_qty (omega arith))

less_key : (a b : Band) → is_key_less (band_key a) (band_key b) ≡ true → key_cmp (band_key a) (band_key b) ≡ Less
less_key a b h = less_of (key_cmp (band_key a) (band_key b)) (sym (key_lt (band_key a) (band_key b)) ∙ h)

later_apart : (a b : Band) (cs : List Band) → Bounded b → bands_overlap a b ≡ false → is_key_less (band_key a) (band_key b) ≡ true
    → AllByRecursion (λ c. is_key_less (band_key b) (band_key c) ≡ true) cs → list_any (bands_overlap a) cs ≡ false
later_apart a b [] h n e all = refl
later_apart a b (c ∷ cs) h n e all = (λ i. this i || later_apart a b cs h n e all.1 i)
  where
    by_test : (r : Bool) → bands_overlap a c ≡ r → bands_overlap a c ≡ false
    by_test false m = m
    by_test true m = let k : bands_overlap a b ≡ true = between a b c h (less_key a b e) (less_key b c all.0) m in absurd (cc)

    this : bands_overlap a c ≡ false
    this = by_test (bands_overlap a c) refl

pub all_apart : {X : Type 0} (of : X → Band) (xs : List X) → Climbs band_key (map of xs) → AllByRecursion Bounded (map of xs)
    → ((k : ℕ) (d : X) → suc k < length xs → bands_overlap (of (get_or xs k d)) (of (get_or xs (suc k) d)) ≡ false) → has_disjoint_bands (map of xs) ≡ true
all_apart of [] c h f = refl
all_apart of (x ∷ []) c h f = refl
all_apart of (x ∷ y ∷ ys) c h f =
    let first : bands_overlap (of x) (of y) ≡ false = f 0 x (omega arith) in
    λ i. not (first i || later_apart (of x) (of y) (map of ys) h.1.0 first c.0.0 c.1.0 i) && all_apart of (y ∷ ys) c.1 h.1 (λ k d g. f (suc k) d (omega arith)) i

and_false : (b : Bool) → (b && false) ≡ false
and_false true = refl
and_false false = refl

pub some_meet : {X : Type 0} (of : X → Band) (xs : List X) (k : ℕ) → suc k < length xs
    → ((d : X) → bands_overlap (of (get_or xs k d)) (of (get_or xs (suc k) d)) ≡ true) → has_disjoint_bands (map of xs) ≡ false
some_meet of [] k h f = absurd (omega arith)
some_meet of (x ∷ []) k h f = absurd (omega arith)
some_meet of (x ∷ y ∷ ys) zero h f = ap (λ b. not (b || list_any (bands_overlap (of x)) (map of ys)) && has_disjoint_bands (map of (y ∷ ys))) (f x)
some_meet of (x ∷ y ∷ ys) (suc k) h f =
    ap (λ b. not (list_any (bands_overlap (of x)) (map of (y ∷ ys))) && b) (some_meet of (y ∷ ys) k (omega arith) f) ∙ and_false (not (list_any (bands_overlap (of x)) (map of (y ∷ ys))))

pub bounded : (schema : Schema) (b : Band) → is_well_formed_band_row schema b ≡ true → Bounded b
bounded schema b e =
    leb-true b.from_qty b.to_qty
    (parts6 (is_tier b.tier) (is_exchange b.exchange) (is_quantity_in_schema schema b.from_qty) (is_quantity_in_schema schema b.to_qty)
    (nat_le b.from_qty b.to_qty) (nat_le b.rate greatest_commission_rate) e).4

all_bounded : (schema : Schema) (bs : List Band) → AllByRecursion (λ b. is_well_formed_band_row schema b ≡ true) bs → AllByRecursion Bounded bs
all_bounded schema [] a = tt
all_bounded schema (b ∷ bs) a = (bounded schema b a.0, all_bounded schema bs a.1)

false_of : (b : Bool) → true ≡ not b → b ≡ false
false_of false e = refl
false_of true e = absurd (cc)

true_of : (b : Bool) → false ≡ not b → b ≡ true
true_of true e = refl
true_of false e = absurd (cc)

-- what the neighbours say
pub apart_told : {X : Type 0} (schema : Schema) (of : X → Band) (xs : List X) (r : Bool) → Climbs band_key (map of xs) → list_all (is_well_formed_band_row schema) (map of xs) ≡ true
    → IsAllAdjacentAnswer (λ x y b. b ≡ not (bands_overlap (of x) (of y))) xs r → r ≡ has_disjoint_bands (map of xs)
apart_told schema of xs true c h a =
    sym (all_apart of xs c (all_bounded schema (map of xs) (list_all_true (is_well_formed_band_row schema) (map of xs) h))
    (λ k d g. subst (λ j. bands_overlap (of (get_or xs k d)) (of (get_or xs j d)) ≡ false) (add-one k) (false_of _ (a k d (omega arith)))))
apart_told schema of xs false c h a =
    sym (some_meet of xs a.0 (omega (arith, a.1)) (λ d. subst (λ j. bands_overlap (of (get_or xs a.0 d)) (of (get_or xs j d)) ≡ true) (add-one a.0) (true_of _ (a.2 d))))
