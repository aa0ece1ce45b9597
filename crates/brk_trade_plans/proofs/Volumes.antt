-- Volumes above their limit, tick by tick.
use Rattle.std.proofs.Common.{◌≡◌, ℕ, zero, suc, ◌+◌, ◌<◌, Bool, true, false, ◌||◌, cond, List, [], ◌∷◌, length, get_or, drop, map, fold, refl, sym, ap, ◌∙◌, arith, nat_lt}
use Rattle.std.specs.Prelude.{bytes_eq}
use Rattle.std.specs.List.{list_any}
use Rattle.std.proofs.lemmas.Bool.{ltb-true, lt-ltb}
use Rattle.std.proofs.lemmas.List.{drop_more}
use Rattle.brk_model.specs.Limits.{greatest_amount}
use Rattle.brk_ref_orders.specs.declared.tick.Tick.{Tick}
use Rattle.brk_ref.proofs.Lists.{any_mapped}
use Rattle.brk_trade_plans.specs.Feed.{SymbolState, states_of_quotes, state_of_quote, is_state_of_symbol, state_after_tick, states_after_tick, states_after_ticks, has_volume_above_limit}
use Rattle.brk_trade_plans.specs.declared.quote.Quote.{Quote}

or_true : (a : Bool) → a || true ≡ true
or_true true = refl
or_true false = refl

or_either : (a b : Bool) → a || false ≡ true → a || b ≡ true
or_either true b e = refl
or_either false b e = absurd (cc)

-- a quote that is beyond it after a tick is one of all
pub one_of_all : (stamp : ℕ) (tick : Tick) (quotes : List Quote) (i : ℕ) (q : Quote) → (i < length quotes) × (q ≡ get_or quotes i q)
    → list_any has_volume_above_limit (states_after_tick stamp (state_of_quote q ∷ []) tick) ≡ true → list_any has_volume_above_limit (states_after_tick stamp (states_of_quotes quotes) tick) ≡ true
one_of_all stamp tick [] i q at h = absurd (omega (arith, at.0))
one_of_all stamp tick (p ∷ quotes) zero q at h = let same : p ≡ q = sym at.1 in rw same (or_either _ _ h)
one_of_all stamp tick (p ∷ quotes) (suc i) q at h = rw (one_of_all stamp tick quotes i q (omega (arith, at.0), at.1) h) (or_true _)

-- what is beyond it stays so
stays_beyond : (stamp : ℕ) (tick : Tick) (q : SymbolState) → has_volume_above_limit q ≡ true → has_volume_above_limit (cond (is_state_of_symbol tick.symbol q) (state_after_tick stamp tick q) q) ≡ true
stays_beyond stamp tick q h = by_symbol (is_state_of_symbol tick.symbol q)
  where
    by_symbol : (b : Bool) → has_volume_above_limit (cond b (state_after_tick stamp tick q) q) ≡ true
    by_symbol true = let low = ltb-true greatest_amount q.last.volume h in lt-ltb greatest_amount (q.last.volume + tick.qty) (omega (arith, low))
    by_symbol false = h

stays_after_tick : (stamp : ℕ) (tick : Tick) (quotes : List SymbolState) → list_any has_volume_above_limit quotes ≡ true → list_any has_volume_above_limit (states_after_tick stamp quotes tick) ≡ true
stays_after_tick stamp tick [] h = absurd (cc)
stays_after_tick stamp tick (q ∷ quotes) h = by_first (stays_after_tick stamp tick quotes) (has_volume_above_limit q) refl
  where
    by_first : (list_any has_volume_above_limit quotes ≡ true → list_any has_volume_above_limit (states_after_tick stamp quotes tick) ≡ true)
        → (b : Bool) → has_volume_above_limit q ≡ b → list_any has_volume_above_limit (states_after_tick stamp (q ∷ quotes) tick) ≡ true
    by_first rest true e = rw (stays_beyond stamp tick q e) refl
    by_first rest false e = let k : list_any has_volume_above_limit quotes ≡ true = rw e at h in rw (rest k) (or_true _)

stays_after : (stamp : ℕ) (ticks : List Tick) (quotes : List SymbolState) → list_any has_volume_above_limit quotes ≡ true
    → list_any has_volume_above_limit (states_after_ticks stamp ticks quotes) ≡ true
stays_after stamp [] quotes h = h
stays_after stamp (tick ∷ ticks) quotes h = stays_after stamp ticks (states_after_tick stamp quotes tick) (stays_after_tick stamp tick quotes h)

-- what is beyond it after the next tick is so after all that are left
pub beyond_after : (stamp : ℕ) (ticks : List Tick) (i : ℕ) (tick : Tick) (quotes : List SymbolState) → i < length ticks → tick ≡ get_or ticks i tick
    → list_any has_volume_above_limit (states_after_tick stamp quotes tick) ≡ true → list_any has_volume_above_limit (states_after_ticks stamp (drop i ticks) quotes) ≡ true
beyond_after stamp ticks i tick quotes l e h =
    let next : drop i ticks ≡ tick ∷ drop (i + 1) ticks = drop_more ticks i tick l ∙ ap (λ (t : Tick). t ∷ drop (i + 1) ticks) (sym e) in
    rw next (stays_after stamp (drop (i + 1) ticks) (states_after_tick stamp quotes tick) h)

-- ---- the stamp does not matter

-- a symbol and its volume
abbrev StatusChange : Type 0
StatusChange = List ℕ × ℕ

abbrev mark : SymbolState → StatusChange
mark q = (q.last.symbol, q.last.volume)

abbrev mark_after : Tick → StatusChange → StatusChange
mark_after tick m = cond (bytes_eq m.0 tick.symbol) (m.0, m.1 + tick.qty) m

one_mark : (stamp : ℕ) (tick : Tick) (q : SymbolState) → mark (cond (is_state_of_symbol tick.symbol q) (state_after_tick stamp tick q) q) ≡ mark_after tick (mark q)
one_mark stamp tick q = by_symbol (is_state_of_symbol tick.symbol q)
  where
    by_symbol : (b : Bool) → mark (cond b (state_after_tick stamp tick q) q) ≡ cond b (q.last.symbol, q.last.volume + tick.qty) (mark q)
    by_symbol true = refl
    by_symbol false = refl

marks_after_tick : (stamp : ℕ) (tick : Tick) (quotes : List SymbolState) → map mark (states_after_tick stamp quotes tick) ≡ map (mark_after tick) (map mark quotes)
marks_after_tick stamp tick [] = refl
marks_after_tick stamp tick (q ∷ quotes) =
    ap (λ (m : StatusChange). m ∷ map mark (states_after_tick stamp quotes tick)) (one_mark stamp tick q)
    ∙ ap (λ (ms : List StatusChange). mark_after tick (mark q) ∷ ms) (marks_after_tick stamp tick quotes)

marks_after : (stamp : ℕ) (ticks : List Tick) (quotes : List SymbolState)
    → map mark (states_after_ticks stamp ticks quotes) ≡ fold (λ (ms : List StatusChange) (tick : Tick). map (mark_after tick) ms) (map mark quotes) ticks
marks_after stamp [] quotes = refl
marks_after stamp (tick ∷ ticks) quotes =
    marks_after stamp ticks (states_after_tick stamp quotes tick)
    ∙ ap (λ (ms : List StatusChange). fold (λ (ms : List StatusChange) (tick : Tick). map (mark_after tick) ms) ms ticks) (marks_after_tick stamp tick quotes)

pub at_any_stamp : (stamp other : ℕ) (ticks : List Tick) (quotes : List SymbolState) (b : Bool)
    → list_any has_volume_above_limit (states_after_ticks stamp ticks quotes) ≡ b → list_any has_volume_above_limit (states_after_ticks other ticks quotes) ≡ b
at_any_stamp stamp other ticks quotes b e =
    let beyond : StatusChange → Bool = λ m. nat_lt greatest_amount m.1 in
    sym (any_mapped beyond mark (states_after_ticks other ticks quotes))
    ∙ ap (list_any beyond) (marks_after other ticks quotes ∙ sym (marks_after stamp ticks quotes))
    ∙ any_mapped beyond mark (states_after_ticks stamp ticks quotes)
    ∙ e
