-- The refusal of an order when one of its fields is refused.
use Rattle.std.proofs.Common.{◌≡◌, Bool, true, false, refl, cond, [], ◌∷◌, ◌&&◌, inl, inr}
use Rattle.std.specs.Prelude.{◌⊎◌, ℕ, Option, Some, None, Ok, Err, IfErr, nat_le}
use Rattle.std.specs.Option.{ok_or}
use Rattle.brk_money.specs.Spelling.{Text, cents_of_text}
use Rattle.brk_money.specs.declared.order_type.OrderType.{OrderType}
use Rattle.brk_money.specs.declared.order_type.OrderType.TheVariants as asked
use Rattle.brk_money.specs.declared.trade_type.TradeType.{TradeType}
use Rattle.brk_money.specs.declared.trade_type.TradeType.TheVariants.{MarketBuy, MarketSell, StopLoss, LimitSell, LimitBuy}
use Rattle.brk_money.specs.declared.refusal.Refusal.{Refusal}
use Rattle.brk_money.specs.declared.refusal.Refusal.TheVariants.{BadText, BadQty, BadPrice, BadType}
use Rattle.brk_model.specs.Limits.{greatest_price}
use Rattle.brk_model.specs.Forms.{ReadResult, ◌⊛◌, nonnegative_amount, value_if_valid, trade_type_with_code, read_price, market_type_if_price_is_empty}
use Rattle.brk_model.specs.Forms.{refusal_of_unknown_type_by_price_text, order_type_with_price, read_order_type}
use Rattle.brk_ref.proofs.Applied.{text_left, text_right}

-- a refusal is of one kind
pub IsOnly : {A : Type 0} → Refusal → ReadResult A → Type 0
IsOnly refusal r = IfErr r (λ s. s ≡ refusal)

pub only_is : {A : Type 0} (one other : Refusal) (r : ReadResult A) → IsOnly one r → r ≡ Err other → other ≡ one
unfolding IsOnly
only_is one other (Ok x) h e = absurd (cc)
only_is one other (Err refusal) h e = cc

only_if : {A : Type 0} (test : A → Bool) (refusal : Refusal) (o : Option A) → IsOnly refusal (value_if_valid test refusal o)
unfolding IsOnly
only_if test refusal None = refl
only_if {A} test refusal (Some x) = by_test (test x)
  where
    by_test : (b : Bool) → IfErr (let r : ReadResult A = cond b (Ok x) (Err refusal) in r) (λ s. s ≡ refusal)
    by_test true = tt
    by_test false = refl

-- a price is refused as a price
pub only_price : (text : Text) → IsOnly BadPrice (read_price text)
only_price text = only_if (λ n. nat_le 1 n && nat_le n greatest_price) BadPrice (nonnegative_amount (cents_of_text text))

-- the type of an order is refused as a price or as a type
pub IsLate : {A : Type 0} → ReadResult A → Type 0
IsLate r = IfErr r (λ s. (s ≡ BadPrice) ⊎ (s ≡ BadType))

late_without : (t : OrderType) (text : Text) → IsLate (market_type_if_price_is_empty t text)
unfolding IsLate
late_without t [] = tt
late_without t (c ∷ text) = inl refl

late_with : (f : ℕ → OrderType) (price : ReadResult ℕ) → IsOnly BadPrice price → IsLate (Ok f ⊛ price)
unfolding IsLate IsOnly
late_with f (Ok n) h = tt
late_with f (Err r) h = inl h

late_none : (text : Text) (price : ReadResult ℕ) → IsOnly BadPrice price → IsLate (let none : ReadResult (ℕ → OrderType) = Err BadType in none ⊛ price)
unfolding IsLate IsOnly
late_none text (Ok n) h = inr refl
late_none text (Err r) h = rw h (inl refl)

late_unknown : (text : Text) → IsLate (refusal_of_unknown_type_by_price_text text)
unfolding IsLate
late_unknown [] = inr refl
late_unknown (c ∷ text) = late_none (c ∷ text) (read_price (c ∷ text)) (only_price (c ∷ text))

late_type : (kind : Option TradeType) (text : Text) → IsLate (order_type_with_price kind text)
late_type None text = late_unknown text
late_type (Some MarketBuy) text = late_without asked.MarketBuy text
late_type (Some MarketSell) text = late_without asked.MarketSell text
late_type (Some StopLoss) text = late_with (λ price. asked.StopLoss price) (read_price text) (only_price text)
late_type (Some LimitSell) text = late_with (λ price. asked.LimitSell price) (read_price text) (only_price text)
late_type (Some LimitBuy) text = late_with (λ price. asked.LimitBuy price) (read_price text) (only_price text)

pub late_order_type : (kind price : Text) → IsLate (read_order_type kind price)
late_order_type kind price = late_type (trade_type_with_code kind) price

-- the type that was found, known or not
pub type_found : (kind found : Option TradeType) → ok_or kind BadType ≡ value_if_valid (λ _. true) BadType found → kind ≡ found
type_found None None e = refl
type_found None (Some y) e = absurd (cc)
type_found (Some x) None e = absurd (cc)
type_found (Some x) (Some y) e = cc

module _ {A S Q T C L E O : Type 0} (f : A → S → Q → T → C → L → E → O) where
  -- an order of whose fields one of text is refused
  module _ (a : ReadResult A) (s : ReadResult S) (q : ReadResult Q) (t : ReadResult T) (c : ReadResult C) (l : ReadResult L) (e : ReadResult E) where
    before_executor : Ok f ⊛ a ⊛ s ⊛ q ⊛ t ⊛ c ⊛ l ≡ Err BadText → Ok f ⊛ a ⊛ s ⊛ q ⊛ t ⊛ c ⊛ l ⊛ e ≡ Err BadText
    before_executor h = text_left (Ok f ⊛ a ⊛ s ⊛ q ⊛ t ⊛ c ⊛ l) e h

    before_end : Ok f ⊛ a ⊛ s ⊛ q ⊛ t ⊛ c ≡ Err BadText → Ok f ⊛ a ⊛ s ⊛ q ⊛ t ⊛ c ⊛ l ⊛ e ≡ Err BadText
    before_end h = before_executor (text_left (Ok f ⊛ a ⊛ s ⊛ q ⊛ t ⊛ c) l h)

    before_qty : Ok f ⊛ a ⊛ s ≡ Err BadText → Ok f ⊛ a ⊛ s ⊛ q ⊛ t ⊛ c ⊛ l ⊛ e ≡ Err BadText
    before_qty h = before_end (text_left (Ok f ⊛ a ⊛ s ⊛ q ⊛ t) c (text_left (Ok f ⊛ a ⊛ s ⊛ q) t (text_left (Ok f ⊛ a ⊛ s) q h)))

    pub no_account : a ≡ Err BadText → Ok f ⊛ a ⊛ s ⊛ q ⊛ t ⊛ c ⊛ l ⊛ e ≡ Err BadText
    no_account h = before_qty (text_left (Ok f ⊛ a) s (text_right (Ok f) a h))

    pub no_symbol : s ≡ Err BadText → Ok f ⊛ a ⊛ s ⊛ q ⊛ t ⊛ c ⊛ l ⊛ e ≡ Err BadText
    no_symbol h = before_qty (text_right (Ok f ⊛ a) s h)

    pub no_cash : c ≡ Err BadText → Ok f ⊛ a ⊛ s ⊛ q ⊛ t ⊛ c ⊛ l ⊛ e ≡ Err BadText
    no_cash h = before_end (text_right (Ok f ⊛ a ⊛ s ⊛ q ⊛ t) c h)

    pub no_end : l ≡ Err BadText → Ok f ⊛ a ⊛ s ⊛ q ⊛ t ⊛ c ⊛ l ⊛ e ≡ Err BadText
    no_end h = before_executor (text_right (Ok f ⊛ a ⊛ s ⊛ q ⊛ t ⊛ c) l h)

    pub no_executor : e ≡ Err BadText → Ok f ⊛ a ⊛ s ⊛ q ⊛ t ⊛ c ⊛ l ⊛ e ≡ Err BadText
    no_executor h = text_right (Ok f ⊛ a ⊛ s ⊛ q ⊛ t ⊛ c ⊛ l) e h

  -- an order whose texts stand, and whose quantity is refused
  pub no_qty : (a : A) (s : S) (t : ReadResult T) (c : C) (l : L) (e : E) → IsLate t
      → Ok f ⊛ Ok a ⊛ Ok s ⊛ Err BadQty ⊛ t ⊛ Ok c ⊛ Ok l ⊛ Ok e ≡ Err BadQty
  unfolding IsLate
  no_qty a s (Ok t) c l e h = refl
  no_qty a s (Err r) c l e (inl h) = rw h refl
  no_qty a s (Err r) c l e (inr h) = rw h refl
