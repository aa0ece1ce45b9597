-- Quotes that are read one after another, and the quote of a symbol.
use Rattle.std.proofs.Common.{◌≡◌, Bool, true, false, List, [], ◌∷◌, ◌++◌, refl, sym, subst, ◌∙◌, ap, map, filter, Some, None}
use Rattle.std.specs.Prelude.{◌||◌, find, is_some, bytes_eq}
use Rattle.std.specs.Option.{option_map_or}
use Rattle.std.specs.List.{AllByRecursion, Contains, list_any}
use Rattle.brk_money.specs.Spelling.{Text}
use Rattle.brk_model.specs.Tables.{Tables, LastTradeRow}
use Rattle.brk_ref_orders.specs.declared.tick.Tick.{Tick}
use Rattle.brk_ref.specs.Records.{abstract_last_trade_row}
use Rattle.brk_trade_plans.specs.Feed.{SymbolState, states_of_quotes, state_of_quote, is_state_of_symbol, price_span_of_first_symbol}
use Rattle.brk_ref.specs.Rows.{abstract_request_row}
use Rattle.brk_trade_plans.specs.declared.quote.Quote.{Quote}
use Rattle.brk_trade_plans.specs.declared.span.PriceSpan.{PriceSpan}
use Rattle.brk_trade_books.specs.TradeReads.{last_trade_row_of_symbol, requests_of_symbol, volume_of_symbol}
use Rattle.brk_trade_theorems.specs.TradePlans.{AreQuotesOfTicks, IsQuoteOfTick, IsQuoteOfSomeTick, HasQuoteIfSymbolHasLastTrade, HasDistinctQuoteSymbols}
use Rattle.brk_trade_books.proofs.Bools.{same_text, texts_back}
use Rattle.brk_trade_books.proofs.Same.{NonePass, All-append, All-map, any-none, filter-none, find-All, map-last}
use Rattle.brk_trade_books.proofs.Places.{FoundAt, filter-one, find-at, some_of}
use Rattle.brk_trade_books.proofs.Reading.{some-is-any}
use Rattle.brk_trade_theorems.proofs.Waiting.{Spans, may, span_spans}

-- ---- tests

any-last : {X : Type 0} (p : X → Bool) (xs : List X) (x : X) → list_any p xs ≡ true → list_any p (xs ++ x ∷ []) ≡ true
any-last p [] x e = absurd (cc)
any-last p (y ∷ xs) x e = by_test (any-last p xs x) (p y) refl
  where
    by_test : (list_any p xs ≡ true → list_any p (xs ++ x ∷ []) ≡ true) → (b : Bool) → p y ≡ b → p y || list_any p (xs ++ x ∷ []) ≡ true
    by_test ih true f = ap (λ b. b || list_any p (xs ++ x ∷ [])) f
    by_test ih false f = ap (λ b. b || list_any p (xs ++ x ∷ [])) f ∙ ih (sym (ap (λ b. b || list_any p xs) f) ∙ e)

any-at_last : {X : Type 0} (p : X → Bool) (xs : List X) (x : X) → p x ≡ true → list_any p (xs ++ x ∷ []) ≡ true
any-at_last p [] x e = ap (λ b. b || false) e
any-at_last p (y ∷ xs) x e = ap (λ b. p y || b) (any-at_last p xs x e) ∙ or_true (p y)
  where
    or_true : (b : Bool) → b || true ≡ true
    or_true true = refl
    or_true false = refl

-- ---- the quote of a symbol

-- what is held of a symbol: the last trade, and in their order the requests that may be triggered
-- within a span in which the prices of ticks lie
pub record IsHeld (t : Tables) (ticks : List Tick) (quote : SymbolState) : Type 0 where
  pub last_trade : last_trade_row_of_symbol t quote.last.symbol ≡ Some (abstract_last_trade_row quote.last)
  pub span : PriceSpan
  pub spans : Spans span quote.last.symbol ticks
  pub requests : map abstract_request_row quote.requests ≡ filter (may span) (requests_of_symbol t quote.last.symbol)

-- a quote that was read is held
pub is_held : (t : Tables) (ticks : List Tick) (quote : SymbolState) → IsQuoteOfSomeTick t ticks quote → IsHeld t ticks quote
is_held t ticks quote k =
    let is = k.is in
    let span = price_span_of_first_symbol k.tick ticks in
    let back = sym is.symbol in
    record {
      last_trade = ap (last_trade_row_of_symbol t) is.symbol ∙ is.last_trade;
      span = span;
      spans = subst (λ s. Spans span s ticks) back (span_spans k.tick ticks);
      requests = is.requests ∙ ap (λ s. filter (may span) (requests_of_symbol t s)) back;
    }

-- the one quote of a symbol, and it is what stands in the tables of it
pub record QuoteOf (t : Tables) (ticks : List Tick) (symbol : Text) (quotes : List SymbolState) : Type 0 where
  pub quote : SymbolState
  pub found : find (is_state_of_symbol symbol) quotes ≡ Some quote
  pub alone : filter (is_state_of_symbol symbol) quotes ≡ quote ∷ []
  pub read : IsHeld t ticks quote
  pub same : quote.last.symbol ≡ symbol

none_after : (before : List SymbolState) (quote : SymbolState) (after : List SymbolState) → HasDistinctQuoteSymbols (before ++ quote ∷ after) → NonePass (is_state_of_symbol quote.last.symbol) after
none_after [] quote after d = d.0
none_after (q ∷ before) quote after d = none_after before quote after d.1

pub quote_of : (t : Tables) (ticks : List Tick) (symbol : Text) (quotes : List SymbolState) → AllByRecursion (IsHeld t ticks) quotes
    → HasDistinctQuoteSymbols quotes → list_any (is_state_of_symbol symbol) quotes ≡ true
    → QuoteOf t ticks symbol quotes
quote_of t ticks symbol quotes r d e =
    let found = some_of (find (is_state_of_symbol symbol) quotes) (some-is-any (is_state_of_symbol symbol) quotes ∙ e) in
    let f : FoundAt SymbolState (is_state_of_symbol symbol) found.0 quotes = find-at (is_state_of_symbol symbol) quotes found.0 found.1 in
    let same : found.0.last.symbol ≡ symbol = same_text found.0.last.symbol symbol f.passes in
    let others : NonePass (is_state_of_symbol symbol) f.after =
    subst (λ s. NonePass (is_state_of_symbol s) f.after) same (none_after f.before found.0 f.after (subst HasDistinctQuoteSymbols f.stands d)) in
    record {
      quote = found.0;
      found = found.1;
      alone = ap (filter (is_state_of_symbol symbol)) f.stands ∙ filter-one (is_state_of_symbol symbol) f.before found.0 f.after f.passes
          ∙ (λ i. filter-none (is_state_of_symbol symbol) f.before f.others i ++ found.0 ∷ filter-none (is_state_of_symbol symbol) f.after others i);
      read = find-All (IsHeld t ticks) (is_state_of_symbol symbol) quotes found.0 r found.1;
      same = same;
    }

-- its volume is that of its symbol
pub quote_volume : (t : Tables) (ticks : List Tick) (quote : SymbolState) → IsHeld t ticks quote → volume_of_symbol t quote.last.symbol ≡ quote.last.volume
quote_volume t ticks quote k = ap (λ o. option_map_or (λ r. r.volume) o 0) k.last_trade

-- ---- quotes are read one by one

pub no_quotes : (t : Tables) (all : List Tick) → AreQuotesOfTicks t all [] []
no_quotes t all = record { read = tt; apart = tt; quoted = tt }

pub quoted_before : (t : Tables) (all ticks : List Tick) (tick : Tick) (quotes : List Quote) → AreQuotesOfTicks t all ticks (states_of_quotes quotes)
    → list_any (is_state_of_symbol tick.symbol) (states_of_quotes quotes) ≡ true
    → AreQuotesOfTicks t all (ticks ++ tick ∷ []) (states_of_quotes quotes)
quoted_before t all ticks tick quotes k e =
    record { read = k.read; apart = k.apart; quoted = All-append (HasQuoteIfSymbolHasLastTrade t (states_of_quotes quotes)) ticks (tick ∷ []) k.quoted ((λ h. e), tt) }

pub not_listed : (t : Tables) (all ticks : List Tick) (tick : Tick) (quotes : List Quote) → AreQuotesOfTicks t all ticks (states_of_quotes quotes) → last_trade_row_of_symbol t tick.symbol ≡ None
    → AreQuotesOfTicks t all (ticks ++ tick ∷ []) (states_of_quotes quotes)
not_listed t all ticks tick quotes k e =
    record {
      read = k.read;
      apart = k.apart;
      quoted =
          All-append (HasQuoteIfSymbolHasLastTrade t (states_of_quotes quotes)) ticks (tick ∷ []) k.quoted ((λ h. absurd (none (sym (ap is_some e) ∙ h))), tt);
    }
  where
    none : false ≡ true → ⊥
    none h = absurd (cc)

apart_last : (quotes : List SymbolState) (quote : SymbolState) → HasDistinctQuoteSymbols quotes → NonePass (is_state_of_symbol quote.last.symbol) quotes
    → HasDistinctQuoteSymbols (quotes ++ quote ∷ [])
apart_last [] quote d h = (tt, tt)
apart_last (q ∷ quotes) quote d h = (
  All-append (λ other. is_state_of_symbol q.last.symbol other ≡ false) quotes (quote ∷ []) d.0 (texts_back quote.last.symbol q.last.symbol ∙ h.0, tt),
  apart_last quotes quote d.1 h.1,
)

-- whose last trade was read
listed : (t : Tables) (symbol : Text) (quote : SymbolState) → last_trade_row_of_symbol t symbol ≡ Some (abstract_last_trade_row quote.last) → is_state_of_symbol symbol quote ≡ true
listed t symbol quote l =
    let f : FoundAt LastTradeRow (λ row. bytes_eq row.symbol symbol) (abstract_last_trade_row quote.last) t.last_trades =
    find-at (λ row. bytes_eq row.symbol symbol) t.last_trades (abstract_last_trade_row quote.last) l in
    f.passes

-- what was read for a tick is its quote
pub read_quote : (t : Tables) (all : List Tick) (tick : Tick) (quote : SymbolState) → last_trade_row_of_symbol t tick.symbol ≡ Some (abstract_last_trade_row quote.last)
    → map abstract_request_row quote.requests ≡ filter (may (price_span_of_first_symbol tick all)) (requests_of_symbol t tick.symbol)
    → IsQuoteOfTick t tick all quote
read_quote t all tick quote l e = record { symbol = same_text quote.last.symbol tick.symbol (listed t tick.symbol quote l); last_trade = l; requests = e }

-- a quote more, of a symbol that had none
one_more : (t : Tables) (all ticks : List Tick) (tick : Tick) (quotes : List SymbolState) (quote : SymbolState) → AreQuotesOfTicks t all ticks quotes
    → list_any (is_state_of_symbol tick.symbol) quotes ≡ false
    → Contains all tick → IsQuoteOfTick t tick all quote → AreQuotesOfTicks t all (ticks ++ tick ∷ []) (quotes ++ quote ∷ [])
one_more t all ticks tick quotes quote k e m r =
    let none : NonePass (is_state_of_symbol quote.last.symbol) quotes = subst (λ s. NonePass (is_state_of_symbol s) quotes) (sym r.symbol) (any-none (is_state_of_symbol tick.symbol) quotes e) in
    record {
      read = All-append (IsQuoteOfSomeTick t all) quotes (quote ∷ []) k.read (record { tick = tick; among = m; is = r }, tt);
      apart = apart_last quotes quote k.apart none;
      quoted = All-append (HasQuoteIfSymbolHasLastTrade t (quotes ++ quote ∷ [])) ticks (tick ∷ [])
          (All-map ticks (λ u h s. any-last (is_state_of_symbol u.symbol) quotes quote (h s)) k.quoted)
          ((λ s. any-at_last (is_state_of_symbol tick.symbol) quotes quote (listed t tick.symbol quote r.last_trade)), tt);
    }

pub quote_read : (t : Tables) (all ticks : List Tick) (tick : Tick) (quotes : List Quote) (quote : Quote) → AreQuotesOfTicks t all ticks (states_of_quotes quotes)
    → list_any (is_state_of_symbol tick.symbol) (states_of_quotes quotes) ≡ false → Contains all tick → IsQuoteOfTick t tick all (state_of_quote quote)
    → AreQuotesOfTicks t all (ticks ++ tick ∷ []) (states_of_quotes (quotes ++ quote ∷ []))
quote_read t all ticks tick quotes quote k e m r =
    subst (AreQuotesOfTicks t all (ticks ++ tick ∷ [])) (sym (map-last state_of_quote quotes quote)) (one_more t all ticks tick (states_of_quotes quotes) (state_of_quote quote) k e m r)
