-- The requests that the ticks of a feed may trigger: those that a price in their span may.
use Rattle.std.proofs.Common.{◌≡◌, ◌≤◌, ℕ, Bool, true, false, cond, List, [], ◌∷◌, refl, sym, ◌∙◌, arith}
use Rattle.std.specs.Prelude.{fold, nat_lt, bytes_eq}
use Rattle.std.specs.List.{AllByRecursion}
use Rattle.std.proofs.lemmas.Bool.Decides.{nat_tests}
use Rattle.std.proofs.lemmas.Slice.Eq.{bytes_eq-Decides}
use Rattle.brk_money.specs.Spelling.{Text}
use Rattle.brk_money.specs.declared.trade_type.TradeType.{TradeType}
use Rattle.brk_money.specs.declared.trade_type.TradeType.TheVariants.{MarketBuy, MarketSell, StopLoss, LimitSell, LimitBuy}
use Rattle.brk_model.specs.Feed.{is_triggering_price}
use Rattle.brk_model.specs.Tables.{RequestRow}
use Rattle.brk_ref_orders.specs.declared.tick.Tick.{Tick}
use Rattle.brk_trade_plans.specs.Feed.{is_request_triggered_in_span, price_span_of_first_symbol, span_including_price, span_including_tick}
use Rattle.brk_trade_plans.specs.declared.span.PriceSpan.{PriceSpan}

-- ---- the prices of a symbol's ticks lie within their span

-- a price lies within a span, both its ends included
abbrev pub is_within : PriceSpan → ℕ → Type 0
is_within span price = (span.lowest ≤ price) × (price ≤ span.highest)

-- the prices of a symbol's ticks lie within a span
abbrev pub Spans : PriceSpan → Text → List Tick → Type 0
Spans span symbol ticks = AllByRecursion (λ tick. tick.symbol ≡ symbol → is_within span tick.price) ticks

-- one span lies within another
record Wider (inner outer : PriceSpan) : Type 0 where
  low : outer.lowest ≤ inner.lowest
  high : inner.highest ≤ outer.highest

wider_again : (a b c : PriceSpan) → Wider a b → Wider b c → Wider a c
wider_again a b c p q = let l = p.low in let m = q.low in let h = p.high in let k = q.high in record { low = omega (arith, l, m); high = omega (arith, h, k) }

widened_wider : (price : ℕ) (span : PriceSpan) → Wider span (span_including_price price span)
widened_wider price span = record { low = lower (nat_lt price span.lowest) refl; high = higher (nat_lt span.highest price) refl }
  where
    lower : (b : Bool) → nat_lt price span.lowest ≡ b → cond b price span.lowest ≤ span.lowest
    lower true e = grind (arith, nat_tests)
    lower false e = omega arith

    higher : (b : Bool) → nat_lt span.highest price ≡ b → span.highest ≤ cond b price span.highest
    higher true e = grind (arith, nat_tests)
    higher false e = omega arith

widened_has : (price : ℕ) (span : PriceSpan) → is_within (span_including_price price span) price
widened_has price span = (lower (nat_lt price span.lowest) refl, higher (nat_lt span.highest price) refl)
  where
    lower : (b : Bool) → nat_lt price span.lowest ≡ b → cond b price span.lowest ≤ price
    lower true e = omega arith
    lower false e = grind (arith, nat_tests)

    higher : (b : Bool) → nat_lt span.highest price ≡ b → price ≤ cond b price span.highest
    higher true e = omega arith
    higher false e = grind (arith, nat_tests)

folded_spans : (symbol : Text) (span : PriceSpan) (ticks : List Tick) → Wider span (fold (span_including_tick symbol) span ticks) × Spans (fold (span_including_tick symbol) span ticks) symbol ticks
folded_spans symbol span [] = (record { low = omega arith; high = omega arith }, tt)
folded_spans symbol span (tick ∷ ticks) = by_test (λ start. folded_spans symbol start ticks) (bytes_eq tick.symbol symbol) refl
  where
    end : PriceSpan → PriceSpan
    end start = fold (span_including_tick symbol) start ticks

    Rest : PriceSpan → Type 0
    Rest start = Wider start (end start) × Spans (end start) symbol ticks

    not_same : false ≡ true → ⊥
    not_same f = absurd (cc)

    by_test : ((start : PriceSpan) → Rest start) → (b : Bool) → bytes_eq tick.symbol symbol ≡ b
        → Wider span (end (cond b (span_including_price tick.price span) span))
        × ((tick.symbol ≡ symbol → is_within (end (cond b (span_including_price tick.price span) span)) tick.price) × Spans (end (cond b (span_including_price tick.price span) span)) symbol ticks)
    by_test again true e =
        let start = span_including_price tick.price span in
        let rest = again start in
        let has = widened_has tick.price span in
        let l = rest.0.low in let h = rest.0.high in let m = has.0 in let k = has.1 in
        (wider_again span start (end start) (widened_wider tick.price span) rest.0, (λ same. (omega (arith, l, m), omega (arith, h, k)), rest.1))
    by_test again false e =
        let rest = again span in
        (rest.0, (λ same. absurd (not_same (sym e ∙ (bytes_eq-Decides tick.symbol symbol).1 same)), rest.1))

pub span_spans : (first : Tick) (ticks : List Tick) → Spans (price_span_of_first_symbol first ticks) first.symbol ticks
span_spans first ticks = (folded_spans first.symbol (record { lowest = first.price; highest = first.price }) ticks).1

-- ---- what a price within the span triggers, the span may trigger

pub triggered_may : (span : PriceSpan) (kind : TradeType) (bid price : ℕ) → is_within span price → is_triggering_price kind bid price ≡ true → is_request_triggered_in_span span kind bid ≡ true
triggered_may span StopLoss bid price w e = let l = w.0 in grind (arith, nat_tests)
triggered_may span LimitSell bid price w e = let h = w.1 in grind (arith, nat_tests)
triggered_may span LimitBuy bid price w e = let l = w.0 in grind (arith, nat_tests)
triggered_may span MarketBuy bid price w e = absurd (cc)
triggered_may span MarketSell bid price w e = absurd (cc)

-- the span may trigger the request
abbrev pub may : PriceSpan → RequestRow → Bool
may span r = is_request_triggered_in_span span r.kind r.bid
