-- The preconditions of planning a cancel or a feed: the facts that are read from the tables.
use Rattle.std.specs.Prelude.{◌≡◌, ◌≤◌, ⊤, ℕ, true, false, is_some, List, [], ◌∷◌, filter, map, Option, Some, option_map}
use Rattle.std.specs.List.{AllByRecursion, Contains, list_any}
use Rattle.brk_money.specs.Moments.{greatest_stamp}
use Rattle.brk_money.specs.declared.status.Status.{Status}
use Rattle.brk_model.specs.Base.{Base}
use Rattle.brk_model.specs.Joins.{trade_row_with_id}
use Rattle.brk_model.specs.Sheets.{sheets}
use Rattle.brk_model.specs.Tables.{Tables}
use Rattle.brk_ref_orders.specs.declared.tick.Tick.{Tick}
use Rattle.brk_ref.specs.Records.{abstract_last_trade_row}
use Rattle.brk_trade_plans.specs.Feed.{SymbolState, is_request_triggered_in_span, is_state_of_symbol, price_span_of_first_symbol}
use Rattle.brk_ref.specs.Rows.{abstract_request_row}
use Rattle.brk_trade_books.specs.Books.{BooksInvariant}
use Rattle.brk_trade_books.specs.TradeReads.{last_trade_row_of_symbol, requests_of_symbol}

-- ---- a cancel

-- The precondition of planning a cancel of `id`: the base satisfies the books invariant, the status
-- `found` and the last stamp are read from its tables, and `now` is within the range of stamps.
pub record PlanCancelPrecondition (base : Base) (id : ℕ) (found : Option Status) (last : Option ℕ) (now : ℕ) : Type 0 where
  pub books : BooksInvariant base
  pub status_read : found ≡ option_map (λ r. r.status) (trade_row_with_id (sheets base) id)
  pub last_read : last ≡ (sheets base).last
  pub moment : now ≤ greatest_stamp

-- ---- a feed

-- The quote has the row of LAST_TRADE of the tick's symbol in the tables. Its requests are exactly
-- those requests of the symbol that a price from the lowest to the highest price of `tick` and of
-- the symbol's ticks in `ticks` can trigger, in the sequence of the table.
pub record IsQuoteOfTick (t : Tables) (tick : Tick) (ticks : List Tick) (quote : SymbolState) : Type 0 where
  pub symbol : quote.last.symbol ≡ tick.symbol
  pub last_trade : last_trade_row_of_symbol t tick.symbol ≡ Some (abstract_last_trade_row quote.last)
  pub requests : map abstract_request_row quote.requests
      ≡ filter (λ r. is_request_triggered_in_span (price_span_of_first_symbol tick ticks) r.kind r.bid) (requests_of_symbol t tick.symbol)

-- The quote is the quote of at least one of `ticks` (`IsQuoteOfTick`).
pub record IsQuoteOfSomeTick (t : Tables) (ticks : List Tick) (quote : SymbolState) : Type 0 where
  pub tick : Tick
  pub among : Contains ticks tick
  pub is : IsQuoteOfTick t tick ticks quote

-- No two quotes of the list have the same symbol.
abbrev pub HasDistinctQuoteSymbols : List SymbolState → Type 0
HasDistinctQuoteSymbols [] = ⊤
HasDistinctQuoteSymbols (quote ∷ quotes) = AllByRecursion (λ other. is_state_of_symbol quote.last.symbol other ≡ false) quotes × HasDistinctQuoteSymbols quotes

-- If the tick's symbol has a row of LAST_TRADE, one of `quotes` has this symbol. Vacuous otherwise.
abbrev pub HasQuoteIfSymbolHasLastTrade : Tables → List SymbolState → Tick → Type 0
HasQuoteIfSymbolHasLastTrade t quotes tick = is_some (last_trade_row_of_symbol t tick.symbol) ≡ true → list_any (is_state_of_symbol tick.symbol) quotes ≡ true

-- Each of `quotes` is the quote of a tick of the feed `all` (`IsQuoteOfTick`), no two quotes have
-- the same symbol, and each symbol of `ticks` with a row of LAST_TRADE has a quote.
pub record AreQuotesOfTicks (t : Tables) (all ticks : List Tick) (quotes : List SymbolState) : Type 0 where
  pub read : AllByRecursion (IsQuoteOfSomeTick t all) quotes
  pub apart : HasDistinctQuoteSymbols quotes
  pub quoted : AllByRecursion (HasQuoteIfSymbolHasLastTrade t quotes) ticks

-- The precondition of planning a feed: the base satisfies the books invariant, the quotes of the
-- ticks and the last stamp are read from its tables, and `now` is within the range of stamps.
pub record PlanFeedPrecondition (base : Base) (ticks : List Tick) (quotes : List SymbolState) (last : Option ℕ) (now : ℕ) : Type 0 where
  pub books : BooksInvariant base
  pub quotes_read : AreQuotesOfTicks (sheets base) ticks ticks quotes
  pub last_read : last ≡ (sheets base).last
  pub moment : now ≤ greatest_stamp
