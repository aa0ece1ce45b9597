-- The decision on a feed, from the quotes read, is the model's.
use Rattle.std.proofs.Common.{◌≡◌, ◌≤◌, ◌∙◌, ℕ, Bool, true, false, not, List, Option, Result, Ok, Err, IfOk, ap, filter, map, refl, subst, sym}
use Rattle.std.specs.Prelude.{IfSome, MatchResult, ◌∷◌, ◌++◌, [], None, Some, option_map}
use Rattle.std.specs.List.{Contains, list_any}
use Rattle.brk_money.specs.Moments.{greatest_stamp}
use Rattle.brk_money.specs.declared.fault.Fault.{Fault}
use Rattle.brk_money.specs.declared.refusal.Refusal.{Refusal}
use Rattle.brk_model.specs.Base.{Base}
use Rattle.brk_model.specs.Commands.{FeedTicks}
use Rattle.brk_model.specs.Sheets.{sheets}
use Rattle.brk_model.specs.Tables.{Tables}
use Rattle.brk_model.specs.Tests.{first_refusal}
use Rattle.brk_ref_orders.specs.Records.{abstract_ticks}
use Rattle.brk_ref_orders.specs.declared.tick.Tick.{Tick}
use Rattle.brk_ref.specs.Records.{abstract_last_trade_row}
use Rattle.brk_ref.specs.declared.last_trade.LastTrade.{LastTrade}
use Rattle.brk_trade_plans.specs.Feed.{SymbolState, IsFeedPlan, feed_checks, states_of_quotes, state_of_quote, is_state_of_symbol, has_no_state_of_symbol, is_request_triggered_in_span, price_span_of_first_symbol}
use Rattle.brk_trade_plans.specs.Reference.{later_stamp_check}
use Rattle.brk_ref.specs.Rows.{abstract_request_row}
use Rattle.brk_ref.specs.declared.request_row.RequestRow as request
use Rattle.brk_trade_plans.specs.declared.plan.Plan.{Plan}
use Rattle.brk_trade_plans.specs.declared.quote.Quote.{Quote}
use Rattle.brk_trade_plans.specs.declared.span.PriceSpan.{PriceSpan}
use Rattle.brk_trade_books.specs.Books.{BooksInvariant}
use Rattle.brk_trade_theorems.specs.TradePlans.{AreQuotesOfTicks, IsQuoteOfTick, PlanFeedPrecondition}
use Rattle.brk_trade_books.specs.TradeReads.{last_trade_row_of_symbol, requests_of_symbol}
use Rattle.brk_trade_theorems.proofs.FeedPlanning.{feed_plan_does, feed_refused}
use Rattle.brk_trade_theorems.proofs.Quotes.{quoted_before, not_listed, quote_read, read_quote}
use Rattle.brk_trade_theorems.proofs.Waiting.{may}
use Rattle.brk_trade_books.proofs.LotReading.{filter-map}
use Rattle.brk_trade_books.proofs.Tested.{not_not}
use Rattle.brk_trade_theorems.specs.Decisions.{DecidesCommand}

-- `quote` has the last trade of the tick's symbol and the requests that a price of the ticks `all`
-- may trigger. It is `None` if the symbol has no last trade.
abbrev pub IsQuoteOfTickOrNone : List Tick → Tick → Option Quote → Tables → Type 0
IsQuoteOfTickOrNone all tick quote t = (option_map (λ q. abstract_last_trade_row q.last) quote ≡ last_trade_row_of_symbol t tick.symbol)
    × IfSome quote (λ q. IsQuoteOfTick t tick all (state_of_quote q))

-- `last` is the last stamp of the tables, and `quotes` are the quotes of the symbols of `ticks`,
-- for the prices of the ticks `all`.
abbrev pub QuotesAndLastStampMatch : (all ticks : List Tick) → List SymbolState → Option ℕ → Tables → Type 0
QuotesAndLastStampMatch all ticks quotes last t = (last ≡ t.last) × AreQuotesOfTicks t all ticks quotes

-- the last trade of a tick's symbol and its requests that the ticks may trigger are its quote
pub selected_quote : (t : Tables) (tick : Tick) (ticks : List Tick) (span : PriceSpan) (last : LastTrade) (found : List request.RequestRow)
    (quote : Quote) → span ≡ price_span_of_first_symbol tick ticks
    → Some (abstract_last_trade_row last) ≡ last_trade_row_of_symbol t tick.symbol
    → map abstract_request_row found ≡ requests_of_symbol t tick.symbol
    → quote.last ≡ last → quote.requests.items ≡ filter (λ r. is_request_triggered_in_span span r.kind r.bid) found
    → IsQuoteOfTickOrNone ticks tick (Some quote) t
selected_quote t tick ticks span last found quote is l e same kept =
    let listed : Some (abstract_last_trade_row quote.last) ≡ last_trade_row_of_symbol t tick.symbol = ap (λ x. Some (abstract_last_trade_row x)) same ∙ l in
    let rows : map abstract_request_row quote.requests.items ≡ filter (may span) (requests_of_symbol t tick.symbol) =
    ap (map abstract_request_row) kept ∙ sym (filter-map (may span) abstract_request_row found) ∙ ap (filter (may span)) e in (
      listed,
      read_quote t ticks tick (state_of_quote quote) (sym listed)
          (subst (λ s. map abstract_request_row quote.requests.items ≡ filter (may s) (requests_of_symbol t tick.symbol)) is rows),
    )

-- with each tick they are known of one tick more
module _ (all ticks : List Tick) (tick : Tick) (quotes : List Quote) (last : Option ℕ) where
  pub one_quoted : has_no_state_of_symbol (states_of_quotes quotes) tick ≡ false → (t : Tables)
      → QuotesAndLastStampMatch all ticks (states_of_quotes quotes) last t → QuotesAndLastStampMatch all (ticks ++ tick ∷ []) (states_of_quotes quotes) last t
  one_quoted e t k = (k.0, quoted_before t all ticks tick quotes k.1 (not_not (list_any (is_state_of_symbol tick.symbol) (states_of_quotes quotes)) e))

  pub one_not_listed : (t : Tables) → QuotesAndLastStampMatch all ticks (states_of_quotes quotes) last t → IsQuoteOfTickOrNone all tick None t
      → QuotesAndLastStampMatch all (ticks ++ tick ∷ []) (states_of_quotes quotes) last t
  one_not_listed t k l = (k.0, not_listed t all ticks tick quotes k.1 (sym l.0))

  pub one_read : (quote : Quote) → Contains all tick → has_no_state_of_symbol (states_of_quotes quotes) tick ≡ true → (t : Tables)
      → QuotesAndLastStampMatch all ticks (states_of_quotes quotes) last t → IsQuoteOfTickOrNone all tick (Some quote) t
      → QuotesAndLastStampMatch all (ticks ++ tick ∷ []) (states_of_quotes (quotes ++ quote ∷ [])) last t
  one_read quote m e t k l = (k.0, quote_read t all ticks tick quotes quote k.1 (is_false (list_any (is_state_of_symbol tick.symbol) (states_of_quotes quotes)) e) m l.1)
    where
      is_false : (b : Bool) → not b ≡ true → b ≡ false
      is_false true e = absurd (cc)
      is_false false e = refl

-- a feed's plan does it, and its refusal is that of the command
module _ (ticks : List Tick) (quotes : List SymbolState) (last : Option ℕ) (now : ℕ) (moment : now ≤ greatest_stamp) where
  looked_up : (t : Tables) → QuotesAndLastStampMatch ticks ticks quotes last t → (base : Base) → BooksInvariant base → t ≡ sheets base → PlanFeedPrecondition base ticks quotes last now
  looked_up t known base books e = record {
    books = books;
    quotes_read = subst (λ x. AreQuotesOfTicks x ticks ticks quotes) e known.1;
    last_read = known.0 ∙ ap (λ x. x.last) e;
    moment = moment;
  }

  pub feed_decided : (result : Result (Result Plan Refusal) Fault)
      → IfOk result (λ planned. MatchResult planned (IsFeedPlan ticks quotes last now)
      (λ refusal. (stamp : ℕ) → first_refusal (feed_checks stamp ticks quotes ++ later_stamp_check last now ∷ []) ≡ Some refusal))
      → IfOk result (λ planned. (t : Tables) → QuotesAndLastStampMatch ticks ticks quotes last t → DecidesCommand now (FeedTicks (abstract_ticks ticks)) planned t)
  feed_decided (Ok (Ok plan)) p = λ t known base books e. feed_plan_does base ticks quotes last now plan (looked_up t known base books e) p
  feed_decided (Ok (Err refusal)) p = λ t known base books e. feed_refused base 0 ticks quotes last now refusal (looked_up t known base books e) (p 0)
  feed_decided (Err fault) p = tt
