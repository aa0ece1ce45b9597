use Rattle.std.proofs.Common.{◌≡◌, Some, None, Option, map, option_map, refl, rules}
use Rattle.std.proofs.lemmas.Fn.{filter_same}
use Rattle.brk_money.specs.declared.fault.CallFault.{CallFault}
use Rattle.brk_model.specs.Tables.{Tables}
use Rattle.brk_ref.specs.Records.{abstract_last_trade_row}
use Rattle.brk_ref.specs.declared.last_trade.LastTrade.{LastTrade}
use Rattle.brk_ref.specs.Rows.{abstract_request_row}
use Rattle.brk_trade_plans.specs.declared.quote.Quote.{Quote}
use Rattle.brk_trade_books.specs.TradeReads.{last_trade_row_of_symbol, requests_of_symbol}
use Rattle.brk_desk_decisions.proofs.Feeds.{IsQuoteOfTickOrNone, selected_quote}
use Rattle.brk_store_reads.proofs.Retelling.{retold}
use Rattle.std.proofs.lemmas.Result.{err_from_is_err_and}
use Rattle.brk_store_reads.specs.ReadSequences.{single_read_changes_nothing}
use Rattle.brk_store_reads.proofs.Sequences.{failed_after, read_with}
use Rattle.brk_desk_decisions.proofs.feed.read_tick_quote.Goals as goal

pub returns-in_default : goal.returns-in_default
returns-in_default g c =
    retold g.S.Store c.args.store.now c.last_trade.new.self {V = Option LastTrade} {X = Option Quote} None None
    (λ o (t : Tables). option_map abstract_last_trade_row o ≡ last_trade_row_of_symbol t c.args.tick.now.symbol) (IsQuoteOfTickOrNone c.args.ticks.now c.args.tick.now)
    (λ t e. (e, tt))
    (rw c.in_default.is at c.in_ok-last.ensures.read)

pub returns : goal.returns
returns g c =
    let tick = c.args.tick.now in
    let symbol = tick.symbol in
    let ticks = c.args.ticks.now in
    let span = c.first_symbol_price_span-span.result in
    let last = c.in-Some.last in
    let found = c.in_ok-requests.requests in
    let quote : Quote = record { last = last; requests = c.retain.new.self } in
    read_with g.S.Store c.args.store.now c.last_trade.new.self c.requests_of_symbol.new.self {X = Option Quote} {H = CallFault} (Some last) found (Some quote)
    (λ o (t : Tables). option_map abstract_last_trade_row o ≡ last_trade_row_of_symbol t symbol)
    (λ all (t : Tables). map abstract_request_row all.items ≡ requests_of_symbol t symbol) (IsQuoteOfTickOrNone ticks tick)
    (λ t e f. selected_quote t tick ticks span last found.items quote c.first_symbol_price_span-span.ensures e f refl
    (filter_same _ _ _ (λ x b k h. search rules) _ _ c.retain.ensures.filtered))
    (rw c.in-Some.is at c.in_ok-last.ensures.read) c.in_ok-requests.ensures.read

pub returns-in_err-requests : goal.returns-in_err-requests
returns-in_err-requests g c =
    let old = c.args.store.now in
    let p = err_from_is_err_and c.from_residual-in_err-requests.result c.from_residual-in_err-requests.ensures.1 in
    rw p.1 (failed_after g.S.Store old c.last_trade.new.self c.requests_of_symbol.new.self _ p.0 _ _
    (single_read_changes_nothing old c.last_trade.new.self _ _ c.in_ok-last.ensures.read) c.in_err-requests.ensures.read)
