-- A record has a new key if no record with its key is found.
use Rattle.std.proofs.Common.{◌≡◌, ℕ, ◌==◌, ◌&&◌, Bool, true, false, List, [], ◌∷◌, refl, sym, ◌∙◌, subst}
use Rattle.std.specs.Prelude.{is_some, nat_le, bytes_eq}
use Rattle.std.specs.List.{AllByRecursion}
use Rattle.std.proofs.lemmas.Bool.{eq-eqb}
use Rattle.std.proofs.lemmas.Slice.Eq.{bytes_eq-Decides}
use Rattle.brk_money.specs.Spelling.{Text}
use Rattle.brk_money.specs.Kinds.{trade_type_code, is_same_trade_type}
use Rattle.brk_money.specs.declared.trade_type.TradeType.{TradeType}
use Rattle.brk_money.specs.declared.trade_type.TradeType.TheVariants.{MarketBuy, MarketSell, StopLoss, LimitSell, LimitBuy}
use Rattle.brk_model.specs.Records.{Permission, Security, Charge, Band, CustomerTax, Trade}
use Rattle.brk_model.specs.Base.{Base, security_with_symbol}
use Rattle.brk_model.specs.Tests.{bands_overlap}
use Rattle.brk_model.specs.Keys.{KeyPart, number, word, permission_key, charge_key, band_key, customer_tax_key}
use Rattle.brk_model.specs.Names.{SecurityOfTradeExists}
use Rattle.brk_trade_books.specs.Books.{HasOrderedBounds}
use Rattle.brk_trade_books.proofs.Order.{NewKey}
use Rattle.brk_trade_books.proofs.Same.{NonePass, All-map}

-- ---- tests of parts

pub same_bytes : (s t : Text) → s ≡ t → bytes_eq s t ≡ true
same_bytes s t e = (bytes_eq-Decides s t).1 e

-- two types are the same where their codes are
same_code : (a b : TradeType) → bytes_eq (trade_type_code a) (trade_type_code b) ≡ is_same_trade_type a b
same_code MarketBuy MarketBuy = refl
same_code MarketBuy MarketSell = refl
same_code MarketBuy StopLoss = refl
same_code MarketBuy LimitSell = refl
same_code MarketBuy LimitBuy = refl
same_code MarketSell MarketBuy = refl
same_code MarketSell MarketSell = refl
same_code MarketSell StopLoss = refl
same_code MarketSell LimitSell = refl
same_code MarketSell LimitBuy = refl
same_code StopLoss MarketBuy = refl
same_code StopLoss MarketSell = refl
same_code StopLoss StopLoss = refl
same_code StopLoss LimitSell = refl
same_code StopLoss LimitBuy = refl
same_code LimitSell MarketBuy = refl
same_code LimitSell MarketSell = refl
same_code LimitSell StopLoss = refl
same_code LimitSell LimitSell = refl
same_code LimitSell LimitBuy = refl
same_code LimitBuy MarketBuy = refl
same_code LimitBuy MarketSell = refl
same_code LimitBuy StopLoss = refl
same_code LimitBuy LimitSell = refl
same_code LimitBuy LimitBuy = refl

pub code_same : (a b : TradeType) → trade_type_code a ≡ trade_type_code b → is_same_trade_type a b ≡ true
code_same a b e = sym (same_code a b) ∙ same_bytes (trade_type_code a) (trade_type_code b) e

pub same_codes : (a b : TradeType) → is_same_trade_type a b ≡ true → trade_type_code a ≡ trade_type_code b
same_codes a b e = (bytes_eq-Decides (trade_type_code a) (trade_type_code b)).0 (same_code a b ∙ e)

pub both : (a b : Bool) → a && b ≡ true → (a ≡ true) × (b ≡ true)
both true b e = (refl, e)
both false b e = absurd (cc)

pub and_both : (a b : Bool) → a ≡ true → b ≡ true → a && b ≡ true
and_both a b e f = rw (e, f) refl

new_pair : (m n : ℕ) (j k : List KeyPart) → number m ∷ j ≡ number n ∷ k → (m ≡ n) × (j ≡ k)
new_pair m n j k e = (cc, cc)

new_word : (s t : Text) (j k : List KeyPart) → word s ∷ j ≡ word t ∷ k → (s ≡ t) × (j ≡ k)
new_word s t j k e = (cc, cc)

pub not_both : (b : Bool) → b ≡ true → b ≡ false → ⊥
not_both b e f = let k : true ≡ false = sym e ∙ f in absurd (cc)

-- ---- the kinds

pub permission_new : (p : Permission) (ps : List Permission) → NonePass (λ q. (q.account == p.account) && bytes_eq q.tax_id p.tax_id) ps → NewKey permission_key p ps
permission_new p ps h = All-map ps (λ q k e.
    let d = new_pair q.account p.account _ _ e in
    let f = new_word q.tax_id p.tax_id _ _ d.1 in
    not_both _ (and_both _ _ (eq-eqb q.account p.account d.0) (same_bytes q.tax_id p.tax_id f.0)) k) h

pub charge_new : (c : Charge) (cs : List Charge) → NonePass (λ d. is_same_trade_type d.kind c.kind && (d.tier == c.tier)) cs → NewKey charge_key c cs
charge_new c cs h = All-map cs (λ d k e.
    let f = new_word (trade_type_code d.kind) (trade_type_code c.kind) _ _ e in
    let g = new_pair d.tier c.tier _ _ f.1 in
    not_both _ (and_both _ _ (code_same d.kind c.kind f.0) (eq-eqb d.tier c.tier g.0)) k) h

pub customer_tax_new : (x : CustomerTax) (xs : List CustomerTax) → NonePass (λ y. (y.customer == x.customer) && (y.tax == x.tax)) xs → NewKey customer_tax_key x xs
customer_tax_new x xs h = All-map xs (λ y k e.
    let d = new_pair y.customer x.customer _ _ e in
    let f = new_pair y.tax x.tax _ _ d.1 in
    not_both _ (and_both _ _ (eq-eqb y.customer x.customer d.0) (eq-eqb y.tax x.tax f.0)) k) h

pub security_new : (s : Security) (ss : List Security) → NonePass (λ r. bytes_eq r.symbol s.symbol) ss → NewKey (λ r. word r.symbol ∷ []) s ss
security_new s ss h = All-map ss (λ r k e. let d = new_word r.symbol s.symbol _ _ e in not_both _ (same_bytes r.symbol s.symbol d.0) k) h

nat_le-same : (m n k : ℕ) → m ≡ n → nat_le n k ≡ true → nat_le m k ≡ true
nat_le-same m n k e h = rw e h

-- bands whose bounds are in order and that begin at one quantity share it
pub band_new : (b : Band) (bs : List Band) → HasOrderedBounds b → AllByRecursion HasOrderedBounds bs → NonePass (bands_overlap b) bs → NewKey band_key b bs
band_new b [] f g h = tt
band_new b (c ∷ bs) f g h = (
  (λ e.
      let d = new_pair c.tier b.tier _ _ e in
      let i = new_word (trade_type_code c.kind) (trade_type_code b.kind) _ _ d.1 in
      let j = new_word c.exchange b.exchange _ _ i.1 in
      let k = new_pair c.from_qty b.from_qty _ _ j.1 in
      let t : bands_overlap b c ≡ true = and_both _ _ (and_both _ _ (and_both _ _ (and_both _ _
      (eq-eqb b.tier c.tier (sym d.0)) (code_same b.kind c.kind (sym i.0))) (same_bytes b.exchange c.exchange (sym j.0)))
      (nat_le-same b.from_qty c.from_qty c.to_qty (sym k.0) g.0)) (nat_le-same c.from_qty b.from_qty b.to_qty k.0 f) in
      not_both _ t h.0),
  band_new b bs f g.1 h.1,
)

-- no trade names a symbol that is not listed
pub unused : (base : Base) (symbol : Text) (ts : List Trade) → is_some (security_with_symbol base symbol) ≡ false → AllByRecursion (SecurityOfTradeExists base) ts
    → NonePass (λ t. bytes_eq t.symbol symbol) ts
unused base symbol ts h k = All-map ts (λ t known. by_test t known (bytes_eq t.symbol symbol) refl) k
  where
    by_test : (t : Trade) → SecurityOfTradeExists base t → (b : Bool) → bytes_eq t.symbol symbol ≡ b → bytes_eq t.symbol symbol ≡ false
    by_test t known false e = e
    by_test t known true e =
        let same : t.symbol ≡ symbol = (bytes_eq-Decides t.symbol symbol).0 e in
        let found : is_some (security_with_symbol base symbol) ≡ true = subst (λ s. is_some (security_with_symbol base s) ≡ true) same known in
        absurd (not_both _ found h)
