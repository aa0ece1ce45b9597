use Rattle.std.proofs.Common.{◌≡◌, ◌==◌, Err, None, Ok, Option, Some, find, option_map}
use Rattle.std.specs.Prelude.{Result}
use Rattle.brk_money.specs.declared.fault.CallFault.{CallFault}
use Rattle.brk_money.specs.declared.fault.CallFault.TheVariants as call
use Rattle.brk_money.specs.declared.refusal.Refusal.{Refusal}
use Rattle.brk_money.specs.declared.refusal.Refusal.TheVariants.{NoAccount}
use Rattle.brk_model.specs.Queries.{RecentOf}
use Rattle.brk_model.specs.Tables.{Tables}
use Rattle.brk_ref.specs.Records.{abstract_account_row}
use Rattle.brk_ref.specs.declared.account.AccountRow.{AccountRow}
use Rattle.brk_store_reads.proofs.Retelling.{retold}
use Rattle.brk_view_rows.specs.declared.view.View.{View}
use Rattle.brk_desk_queries.specs.QueryResults.{AnswersQueryAsModel}
use Rattle.brk_desk_queries.proofs.RecentViews.{AreRecentTradesWithHistory, no_account, recent_seen}
use Rattle.std.proofs.lemmas.Result.{err_from_is_err_and}
use Rattle.brk_store_reads.specs.ReadSequences.{single_read_changes_nothing}
use Rattle.brk_store_reads.proofs.Sequences.{failed_after, none_read, read_with, unchanged_after}
use Rattle.brk_desk_queries.proofs.recents.recent_view.Goals as goal

pub returns-in_default : goal.returns-in_default
returns-in_default g c =
    let id = c.args.account in
    retold g.S.Store c.args.store.now c.account.new.self {V = Option AccountRow} {X = Result View Refusal} None (Err NoAccount)
    (λ o (t : Tables). option_map abstract_account_row o ≡ find (λ r. r.id == id) t.accounts) (AnswersQueryAsModel (RecentOf id)) (no_account id)
    (rw c.in_default.is at c.in_ok-found.ensures.read)

pub returns-in-Ok : goal.returns-in-Ok
returns-in-Ok g c =
    let id = c.args.account in
    let a = c.in-Some.found in
    let trades = c.in_ok-trades.trades in
    let history = c.in_ok-trades.history in
    let view = c.in-Ok.view in
    read_with g.S.Store c.args.store.now c.account.new.self c.recent_trades_with_history.new.store {X = Result View Refusal} {H = CallFault} (Some a) (trades, history) (Ok view)
    (λ o (t : Tables). option_map abstract_account_row o ≡ find (λ r. r.id == id) t.accounts)
    (λ found (t : Tables). AreRecentTradesWithHistory id found.0.items found.1.items t)
    (AnswersQueryAsModel (RecentOf id))
    (λ t e w. recent_seen id (abstract_account_row a) trades history c.in-Ok.ensures.value.0 view c.in-Ok.ensures.view c.in-Ok.ensures.value.1 t e w)
    (rw c.in-Some.is at c.in_ok-found.ensures.read) c.in_ok-trades.ensures

pub returns-in_err-trades : goal.returns-in_err-trades
returns-in_err-trades g c =
    let old = c.args.store.now in
    let p = err_from_is_err_and c.from_residual-in_err-trades.result c.from_residual-in_err-trades.ensures.1 in
    rw p.1 (failed_after g.S.Store old c.account.new.self c.recent_trades_with_history.new.store _ p.0 _ _
    (single_read_changes_nothing old c.account.new.self _ _ c.in_ok-found.ensures.read) c.in_err-trades.ensures)

pub returns : goal.returns
returns g c =
    let old = c.args.store.now in
    none_read g.S.Store old c.recent_trades_with_history.new.store call.Memory _
    (unchanged_after g.S.Store old c.account.new.self c.recent_trades_with_history.new.store _ _
    (single_read_changes_nothing old c.account.new.self _ _ c.in_ok-found.ensures.read) c.in_ok-trades.ensures)
