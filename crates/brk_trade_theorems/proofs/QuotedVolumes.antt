-- A feed exceeds the limit of a volume by the quotes exactly if it does by the tables.
use Rattle.std.proofs.Common.{◌≡◌, ◌≤◌, ℕ, ◌+◌, Bool, true, false, cond, List, [], ◌∷◌, refl, sym, subst, ◌∙◌, ap, map, Option, Some, None}
use Rattle.std.specs.Prelude.{◌||◌, find, is_some, nat_lt, option_map, bytes_eq}
use Rattle.std.specs.Option.{option_map_or}
use Rattle.std.specs.List.{AllByRecursion, list_any}
use Rattle.brk_money.specs.Spelling.{Text}
use Rattle.brk_model.specs.Base.{Base, security_with_symbol}
use Rattle.brk_model.specs.Feed.{security_after_tick, base_after_tick, base_after_ticks}
use Rattle.brk_model.specs.Limits.{greatest_amount}
use Rattle.brk_model.specs.Lists.{update_where}
use Rattle.brk_model.specs.Records.{Security}
use Rattle.brk_model.specs.Sheets.{sheets}
use Rattle.brk_model.specs.Tables.{Tables, last_trade_row}
use Rattle.brk_ref_orders.specs.Records.{abstract_tick, abstract_ticks}
use Rattle.brk_ref_orders.specs.declared.tick.Tick.{Tick}
use Rattle.brk_ref.specs.Records.{abstract_last_trade_row}
use Rattle.brk_trade_plans.specs.Feed.{SymbolState, has_volume_above_limit, is_state_of_symbol, state_after_tick, states_after_ticks, states_after_tick}
use Rattle.brk_trade_books.specs.Books.{BooksInvariant, HasDistinctSymbols, HasVolumeWithinLimit}
use Rattle.brk_trade_books.specs.TradeReads.{volume_of_symbol}
use Rattle.brk_trade_theorems.specs.TradePlans.{HasDistinctQuoteSymbols}
use Rattle.brk_trade_books.specs.Ticks.{is_symbol_volume_above_limit, tick_quantity_sum_of_symbol}
use Rattle.brk_trade_books.proofs.Same.{All-map, All-mapped, find-All}
use Rattle.brk_trade_books.proofs.Reading.{find-map, is_some-map, some-is-any}
use Rattle.brk_trade_books.proofs.TermReading.{reads_last_trade}
use Rattle.brk_trade_books.proofs.TradeReading.{reads_volume}
use Rattle.brk_trade_books.proofs.Feeding.{KnowsTicks}
use Rattle.brk_trade_books.proofs.Volumes.{reads_exceeds}
use Rattle.brk_trade_theorems.proofs.Quotes.{IsHeld, quote_of, quote_volume}
use Rattle.brk_trade_theorems.proofs.QuotedTicks.{HaveQuotes}

-- ---- a market of the quotes' securities alone, which is a base in order

abbrev security_of : SymbolState → Security
security_of quote = record { symbol = quote.last.symbol; name = []; exchange = []; sector = []; last_price = quote.last.price; volume = quote.last.volume; moment = quote.last.stamp }

abbrev market : List SymbolState → Base
market quotes = record {
  brokers = [];
  customers = [];
  accounts = [];
  permissions = [];
  securities = map security_of quotes;
  charges = [];
  bands = [];
  tax_rates = [];
  customer_taxes = [];
  trades = [];
  movements = [];
  rule = None;
  kept = [];
  last = None;
}

distinct : (quotes : List SymbolState) → HasDistinctQuoteSymbols quotes → HasDistinctSymbols (map security_of quotes)
distinct [] d = tt
distinct (quote ∷ quotes) d = (All-mapped (λ u. bytes_eq u.symbol quote.last.symbol ≡ false) security_of quotes d.0, distinct quotes d.1)

market_books : (quotes : List SymbolState) → HasDistinctQuoteSymbols quotes → AllByRecursion (λ quote. quote.last.volume ≤ greatest_amount) quotes → BooksInvariant (market quotes)
market_books quotes d v = record {
  parties = record { brokers = tt; customers = tt; owners = tt; permissions = tt };
  market = record { symbols = distinct quotes d; volumes = All-mapped HasVolumeWithinLimit security_of quotes v; bands = tt; apart = tt };
  trades = record { accounts = tt; securities = tt; numbered = tt; ways = tt; completions = tt };
  times = record { early = tt; moments = tt; clock = tt };
  movements = record { holders = tt; early = tt; apart = tt };
}

-- its securities move with the quotes
market_tick : (stamp : ℕ) (tick : Tick) (quotes : List SymbolState) → base_after_tick stamp (market quotes) (abstract_tick tick) ≡ market (states_after_tick stamp quotes tick)
market_tick stamp tick quotes = λ i. record (market quotes) { securities = moved quotes i }
  where
    by_test : (quote : SymbolState) (b : Bool)
        → cond b (security_after_tick stamp (abstract_tick tick) (security_of quote)) (security_of quote)
        ≡ security_of (cond b (state_after_tick stamp tick quote) quote)
    by_test quote true = refl
    by_test quote false = refl

    moved : (quotes : List SymbolState)
        → update_where (λ s. bytes_eq s.symbol tick.symbol) (security_after_tick stamp (abstract_tick tick)) (map security_of quotes) ≡ map security_of (states_after_tick stamp quotes tick)
    moved [] = refl
    moved (quote ∷ quotes) = λ i. by_test quote (is_state_of_symbol tick.symbol quote) i ∷ moved quotes i

market_ticks : (stamp : ℕ) (ticks : List Tick) (quotes : List SymbolState) → base_after_ticks stamp (market quotes) (abstract_ticks ticks) ≡ market (states_after_ticks stamp ticks quotes)
unfolding base_after_ticks
market_ticks stamp [] quotes = refl
market_ticks stamp (tick ∷ ticks) quotes =
    ap (λ base. base_after_ticks stamp base (abstract_ticks ticks)) (market_tick stamp tick quotes) ∙ market_ticks stamp ticks (states_after_tick stamp quotes tick)

market_exceeds : (quotes : List SymbolState) → list_any has_volume_above_limit quotes ≡ list_any (λ s. nat_lt greatest_amount s.volume) (map security_of quotes)
market_exceeds [] = refl
market_exceeds (quote ∷ quotes) = ap (λ b. has_volume_above_limit quote || b) (market_exceeds quotes)

-- it knows the symbols that have quotes
market_knows : (quotes : List SymbolState) (ticks : List Tick) → HaveQuotes quotes ticks → KnowsTicks (market quotes) (abstract_ticks ticks)
market_knows quotes ticks known = All-mapped (λ u. is_some (security_with_symbol (market quotes) u.symbol) ≡ true) abstract_tick ticks (All-map ticks (λ tick h. there tick.symbol ∙ h) known)
  where
    there : (symbol : Text) → is_some (security_with_symbol (market quotes) symbol) ≡ list_any (is_state_of_symbol symbol) quotes
    there symbol =
        ap is_some (find-map (λ s. bytes_eq s.symbol symbol) security_of quotes) ∙ is_some-map security_of (find (is_state_of_symbol symbol) quotes) ∙ some-is-any (is_state_of_symbol symbol) quotes

-- their volumes are those that the tables have
market_volume : (t : Tables) (ticks : List Tick) (symbol : Text) (quotes : List SymbolState) → AllByRecursion (IsHeld t ticks) quotes
    → HasDistinctQuoteSymbols quotes → list_any (is_state_of_symbol symbol) quotes ≡ true
    → volume_of_symbol (sheets (market quotes)) symbol ≡ volume_of_symbol t symbol
market_volume t ticks symbol quotes k d e =
    let q = quote_of t ticks symbol quotes k d e in
    reads_volume (market quotes) symbol
    ∙ ap (λ o. option_map_or (λ s. s.volume) o 0) (find-map (λ s. bytes_eq s.symbol symbol) security_of quotes ∙ ap (option_map security_of) q.found)
    ∙ sym (quote_volume t ticks q.quote q.read)
    ∙ ap (volume_of_symbol t) q.same

any-each : {X : Type 0} (p q : X → Bool) (xs : List X) → AllByRecursion (λ x. p x ≡ q x) xs → list_any p xs ≡ list_any q xs
any-each p q [] h = refl
any-each p q (x ∷ xs) h = λ i. h.0 i || any-each p q xs h.1 i

-- ---- quotes of a base that is in order

-- their volumes are within the limit
pub quotes_within : (base : Base) (ticks : List Tick) (quotes : List SymbolState) → BooksInvariant base → AllByRecursion (IsHeld (sheets base) ticks) quotes
    → AllByRecursion (λ quote. quote.last.volume ≤ greatest_amount) quotes
quotes_within base ticks quotes books k =
    All-map quotes (λ quote q. by_security quote (security_with_symbol base quote.last.symbol) refl
    (sym (reads_last_trade base quote.last.symbol) ∙ q.last_trade)) k
  where
    by_security : (quote : SymbolState) (o : Option Security) → security_with_symbol base quote.last.symbol ≡ o
        → option_map last_trade_row (security_with_symbol base quote.last.symbol) ≡ Some (abstract_last_trade_row quote.last) → quote.last.volume ≤ greatest_amount
    by_security quote None e f = let g : None ≡ Some (abstract_last_trade_row quote.last) = sym (ap (option_map last_trade_row) e) ∙ f in absurd (cc)
    by_security quote (Some s) e f =
        let g : Some (last_trade_row s) ≡ Some (abstract_last_trade_row quote.last) = sym (ap (option_map last_trade_row) e) ∙ f in
        subst (λ n. n ≤ greatest_amount) (ap (λ o. option_map_or (λ r. r.volume) o 0) g)
        (find-All HasVolumeWithinLimit (λ u. bytes_eq u.symbol quote.last.symbol) base.securities s books.volumes e)

pub quotes_exceed : (base : Base) (stamp : ℕ) (ticks : List Tick) (quotes : List SymbolState) → BooksInvariant base
    → AllByRecursion (IsHeld (sheets base) ticks) quotes → HasDistinctQuoteSymbols quotes
    → HaveQuotes quotes ticks
    → list_any has_volume_above_limit (states_after_ticks stamp ticks quotes) ≡ list_any (is_symbol_volume_above_limit (sheets base) (abstract_ticks ticks))
    (abstract_ticks ticks)
quotes_exceed base stamp ticks quotes books k d known =
    market_exceeds (states_after_ticks stamp ticks quotes)
    ∙ sym (ap (λ b. list_any (λ s. nat_lt greatest_amount s.volume) b.securities) (market_ticks stamp ticks quotes))
    ∙ sym (reads_exceeds (market quotes) stamp (abstract_ticks ticks) (market_books quotes d (quotes_within base ticks quotes books k)) (market_knows quotes ticks known))
    ∙ any-each (is_symbol_volume_above_limit (sheets (market quotes)) (abstract_ticks ticks)) (is_symbol_volume_above_limit (sheets base) (abstract_ticks ticks)) (abstract_ticks ticks)
    (All-mapped (λ u. is_symbol_volume_above_limit (sheets (market quotes)) (abstract_ticks ticks) u ≡ is_symbol_volume_above_limit (sheets base) (abstract_ticks ticks) u) abstract_tick ticks
    (All-map ticks (λ tick h. ap (λ volume. nat_lt greatest_amount (volume + tick_quantity_sum_of_symbol tick.symbol (abstract_ticks ticks)))
    (market_volume (sheets base) ticks tick.symbol quotes k d h)) known))
