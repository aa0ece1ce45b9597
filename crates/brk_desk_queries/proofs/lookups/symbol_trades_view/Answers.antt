use Rattle.std.proofs.Common.{◌≡◌, Err, None, Ok, Option, Some, filter, find, map, option_map, take}
use Rattle.std.specs.Prelude.{Result, bytes_eq}
use Rattle.brk_money.specs.Spelling.{Text}
use Rattle.brk_money.specs.declared.fault.CallFault.{CallFault}
use Rattle.brk_money.specs.declared.refusal.Refusal.{Refusal}
use Rattle.brk_money.specs.declared.refusal.Refusal.TheVariants.{NoSecurity}
use Rattle.brk_ref.specs.Rows.{abstract_trade_row}
use Rattle.brk_model.specs.Joins.{trade_rows_oldest_first}
use Rattle.brk_model.specs.Queries.{TradesOfSymbol}
use Rattle.brk_model.specs.Tables.{Tables}
use Rattle.brk_ref.specs.Records.{abstract_security_row}
use Rattle.brk_ref.specs.declared.security.Security.{Security}
use Rattle.brk_store_reads.proofs.Retelling.{retold}
use Rattle.brk_store_reads.proofs.Sequences.{failed_after, none_read, read_with, read_with_reads, unchanged_after}
use Rattle.brk_view_rows.specs.declared.view.View.{View}
use Rattle.brk_desk_queries.specs.LookedUp.{HaveAllRowsOfTrades}
use Rattle.brk_desk_queries.specs.QueryResults.{AnswersQueryAsModel}
use Rattle.brk_desk_queries.proofs.LookupViews.{is_trade_of_symbol_in_span, no_symbol_trades, symbol_trades_seen}
use Rattle.std.proofs.lemmas.Result.{err_from_is_err_and}
use Rattle.brk_store_reads.specs.ReadSequences.{joined_reads_change_nothing, single_read_changes_nothing}
use Rattle.brk_desk_queries.proofs.lookups.symbol_trades_view.Goals as goal

-- the security with a symbol
abbrev IsRowOf : Text → Option Security → Tables → Type 0
IsRowOf symbol o t = option_map abstract_security_row o ≡ find (λ r. bytes_eq r.symbol symbol) t.securities

pub returns-in_default : goal.returns-in_default
returns-in_default g c =
    let symbol = c.args.symbol.now in
    let span = c.args.span in
    retold g.S.Store c.args.store.now c.security.new.self {V = Option Security} {X = Result View Refusal} None (Err NoSecurity)
    (IsRowOf symbol) (AnswersQueryAsModel (TradesOfSymbol symbol span.first span.last)) (no_symbol_trades symbol span.first span.last)
    (rw c.in_default.is at c.in_ok-_row.ensures.read)

pub returns : goal.returns
returns g c =
    let old = c.args.store.now in
    let symbol = c.args.symbol.now in
    let span = c.args.span in
    let row = c.in-Some._row in
    let trades = c.in_ok-trades.trades in
    let found = c.in_ok-found.found in
    let view = c.lookup_symbol.result in
    let rows = map abstract_trade_row trades.items in
    read_with_reads g.S.Store old c.twenty_trades_of_symbol.new.self c.look_up_trades.new.store {X = Result View Refusal} {H = CallFault} (Some row) found (Ok view)
    (λ o (t : Tables). IsRowOf symbol o t × (rows ≡ take 20 (trade_rows_oldest_first (filter (is_trade_of_symbol_in_span symbol span.first span.last) t.trades))))
    (λ found. HaveAllRowsOfTrades rows found.items)
    (AnswersQueryAsModel (TradesOfSymbol symbol span.first span.last))
    (λ t k p. symbol_trades_seen symbol span.first span.last (abstract_security_row row) rows found view c.lookup_symbol.ensures.value c.lookup_symbol.ensures.view t k.0 k.1 p)
    (read_with g.S.Store old c.security.new.self c.twenty_trades_of_symbol.new.self {X = Option Security} {H = CallFault} (Some row) trades (Some row)
    (IsRowOf symbol) (λ all (t : Tables). map abstract_trade_row all.items ≡ take 20 (trade_rows_oldest_first (filter (is_trade_of_symbol_in_span symbol span.first span.last) t.trades)))
    (λ o (t : Tables). IsRowOf symbol o t × (rows ≡ take 20 (trade_rows_oldest_first (filter (is_trade_of_symbol_in_span symbol span.first span.last) t.trades))))
    (λ t e w. (e, w)) (rw c.in-Some.is at c.in_ok-_row.ensures.read) c.in_ok-trades.ensures.read)
    c.in_ok-found.ensures

pub returns-in_err-trades : goal.returns-in_err-trades
returns-in_err-trades g c =
    let old = c.args.store.now in
    let p = err_from_is_err_and c.from_residual-in_err-trades.result c.from_residual-in_err-trades.ensures.1 in
    rw p.1 (failed_after g.S.Store old c.security.new.self c.twenty_trades_of_symbol.new.self _ p.0 _ _
    (single_read_changes_nothing old c.security.new.self _ _ c.in_ok-_row.ensures.read) c.in_err-trades.ensures.read)

pub returns-in_err-found : goal.returns-in_err-found
returns-in_err-found g c =
    let old = c.args.store.now in
    let p = err_from_is_err_and c.from_residual-in_err-found.result c.from_residual-in_err-found.ensures.1 in
    rw p.1 (none_read g.S.Store old c.look_up_trades.new.store p.0 _
    (joined_reads_change_nothing old c.twenty_trades_of_symbol.new.self c.look_up_trades.new.store
    (unchanged_after g.S.Store old c.security.new.self c.twenty_trades_of_symbol.new.self _ _
    (single_read_changes_nothing old c.security.new.self _ _ c.in_ok-_row.ensures.read) c.in_ok-trades.ensures.read) c.in_err-found.ensures.unchanged))
