use Rattle.std.proofs.Common.{◌≡◌, ◌==◌, ℕ, Err, None, Ok, Option, Some, filter, find, map, option_map, take}
use Rattle.std.specs.Prelude.{Result}
use Rattle.brk_money.specs.declared.fault.CallFault.{CallFault}
use Rattle.brk_money.specs.declared.refusal.Refusal.{Refusal}
use Rattle.brk_money.specs.declared.refusal.Refusal.TheVariants.{NoAccount}
use Rattle.brk_ref.specs.Rows.{abstract_trade_row}
use Rattle.brk_model.specs.Joins.{trade_rows_oldest_first}
use Rattle.brk_model.specs.Queries.{TradesOfAccount}
use Rattle.brk_model.specs.Tables.{Tables}
use Rattle.brk_ref.specs.Records.{abstract_account_row}
use Rattle.brk_ref.specs.declared.account.AccountRow.{AccountRow}
use Rattle.brk_store_reads.proofs.Retelling.{retold}
use Rattle.brk_store_reads.proofs.Sequences.{failed_after, none_read, read_with, read_with_reads, unchanged_after}
use Rattle.brk_view_rows.specs.declared.view.View.{View}
use Rattle.brk_desk_queries.specs.LookedUp.{HaveAllRowsOfTrades}
use Rattle.brk_desk_queries.specs.QueryResults.{AnswersQueryAsModel}
use Rattle.brk_desk_queries.proofs.LookupViews.{is_trade_of_account_in_span, account_trades_seen, no_account_trades}
use Rattle.std.proofs.lemmas.Result.{err_from_is_err_and}
use Rattle.brk_store_reads.specs.ReadSequences.{joined_reads_change_nothing, single_read_changes_nothing}
use Rattle.brk_desk_queries.proofs.lookups.account_trades_view.Goals as goal

-- the account with an id
abbrev IsRowOf : ℕ → Option AccountRow → Tables → Type 0
IsRowOf id o t = option_map abstract_account_row o ≡ find (λ r. r.id == id) t.accounts

pub returns-in_default : goal.returns-in_default
returns-in_default g c =
    let id = c.args.account in
    let span = c.args.span in
    retold g.S.Store c.args.store.now c.account.new.self {V = Option AccountRow} {X = Result View Refusal} None (Err NoAccount)
    (IsRowOf id) (AnswersQueryAsModel (TradesOfAccount id span.first span.last)) (no_account_trades id span.first span.last)
    (rw c.in_default.is at c.in_ok-_row.ensures.read)

pub returns : goal.returns
returns g c =
    let old = c.args.store.now in
    let id = c.args.account in
    let span = c.args.span in
    let row = c.in-Some._row in
    let trades = c.in_ok-trades.trades in
    let found = c.in_ok-found.found in
    let view = c.lookup_account.result in
    let rows = map abstract_trade_row trades.items in
    read_with_reads g.S.Store old c.twenty_trades_of_account.new.self c.look_up_trades.new.store {X = Result View Refusal} {H = CallFault} (Some row) found (Ok view)
    (λ o (t : Tables). IsRowOf id o t × (rows ≡ take 20 (trade_rows_oldest_first (filter (is_trade_of_account_in_span id span.first span.last) t.trades))))
    (λ found. HaveAllRowsOfTrades rows found.items)
    (AnswersQueryAsModel (TradesOfAccount id span.first span.last))
    (λ t k p. account_trades_seen id span.first span.last (abstract_account_row row) rows found view c.lookup_account.ensures.value c.lookup_account.ensures.view t k.0 k.1 p)
    (read_with g.S.Store old c.account.new.self c.twenty_trades_of_account.new.self {X = Option AccountRow} {H = CallFault} (Some row) trades (Some row)
    (IsRowOf id) (λ all (t : Tables). map abstract_trade_row all.items ≡ take 20 (trade_rows_oldest_first (filter (is_trade_of_account_in_span id span.first span.last) t.trades)))
    (λ o (t : Tables). IsRowOf id o t × (rows ≡ take 20 (trade_rows_oldest_first (filter (is_trade_of_account_in_span id span.first span.last) t.trades))))
    (λ t e w. (e, w)) (rw c.in-Some.is at c.in_ok-_row.ensures.read) c.in_ok-trades.ensures.read)
    c.in_ok-found.ensures

pub returns-in_err-trades : goal.returns-in_err-trades
returns-in_err-trades g c =
    let old = c.args.store.now in
    let p = err_from_is_err_and c.from_residual-in_err-trades.result c.from_residual-in_err-trades.ensures.1 in
    rw p.1 (failed_after g.S.Store old c.account.new.self c.twenty_trades_of_account.new.self _ p.0 _ _
    (single_read_changes_nothing old c.account.new.self _ _ c.in_ok-_row.ensures.read) c.in_err-trades.ensures.read)

pub returns-in_err-found : goal.returns-in_err-found
returns-in_err-found g c =
    let old = c.args.store.now in
    let p = err_from_is_err_and c.from_residual-in_err-found.result c.from_residual-in_err-found.ensures.1 in
    rw p.1 (none_read g.S.Store old c.look_up_trades.new.store p.0 _
    (joined_reads_change_nothing old c.twenty_trades_of_account.new.self c.look_up_trades.new.store
    (unchanged_after g.S.Store old c.account.new.self c.twenty_trades_of_account.new.self _ _
    (single_read_changes_nothing old c.account.new.self _ _ c.in_ok-_row.ensures.read) c.in_ok-trades.ensures.read) c.in_err-found.ensures.unchanged))
