use Rattle.std.proofs.Common.{◌≡◌, ◌==◌, ℕ, Err, None, Ok, Option, Some, find, option_map}
use Rattle.std.specs.Prelude.{Result}
use Rattle.brk_money.specs.declared.fault.CallFault.{CallFault}
use Rattle.brk_money.specs.declared.refusal.Refusal.{Refusal}
use Rattle.brk_money.specs.declared.refusal.Refusal.TheVariants.{NoAccount}
use Rattle.brk_model.specs.Queries.{StatusOf}
use Rattle.brk_model.specs.Tables.{Tables}
use Rattle.brk_ref.specs.Records.{abstract_account_row}
use Rattle.brk_ref.specs.declared.account.AccountRow.{AccountRow}
use Rattle.brk_store_reads.proofs.Retelling.{retold}
use Rattle.brk_store_reads.proofs.Sequences.{failed_after, read_with, unchanged_after}
use Rattle.brk_view_rows.specs.declared.view.View.{View}
use Rattle.brk_desk_queries.specs.Parties.{IsAccountStatusWithTrades}
use Rattle.brk_desk_queries.specs.QueryResults.{AnswersQueryAsModel}
use Rattle.brk_desk_queries.proofs.StatusViews.{AreRecentTradesWithSecurities, no_status, status_seen}
use Rattle.std.proofs.lemmas.Result.{err_from_is_err_and}
use Rattle.brk_store_reads.specs.ReadSequences.{single_read_changes_nothing}
use Rattle.brk_desk_queries.proofs.statuses.status_view.Goals as goal

-- the account with an id
abbrev IsRowOf : ℕ → Option AccountRow → Tables → Type 0
IsRowOf id o t = option_map abstract_account_row o ≡ find (λ r. r.id == id) t.accounts

pub returns-in_default : goal.returns-in_default
returns-in_default g c =
    let id = c.args.account in
    retold g.S.Store c.args.store.now c.account.new.self {V = Option AccountRow} {X = Result View Refusal} None (Err NoAccount)
    (IsRowOf id) (AnswersQueryAsModel (StatusOf id)) (no_status id)
    (rw c.in_default.is at c.in_ok-row.ensures.read)

pub returns : goal.returns
returns g c =
    let old = c.args.store.now in
    let id = c.args.account in
    let row = c.in-Some.row in
    let trades = c.in_ok-trades.trades in
    let found = c.in_ok-found.found in
    let view = c.status.result in
    read_with g.S.Store old c.fifty_trades_with_securities.new.store c.status_with_parties.new.store {X = Result View Refusal} {H = CallFault} (Some row) found (Ok view)
    (λ o (t : Tables). IsRowOf id o t × AreRecentTradesWithSecurities id trades.items t)
    (λ found. IsAccountStatusWithTrades (abstract_account_row row) trades found)
    (AnswersQueryAsModel (StatusOf id))
    (λ t k p. status_seen id (abstract_account_row row) trades found view c.status.ensures.value t k.0 k.1 p)
    (read_with g.S.Store old c.account.new.self c.fifty_trades_with_securities.new.store {X = Option AccountRow} {H = CallFault} (Some row) trades (Some row)
    (IsRowOf id) (λ trades (t : Tables). AreRecentTradesWithSecurities id trades.items t) (λ o (t : Tables). IsRowOf id o t × AreRecentTradesWithSecurities id trades.items t)
    (λ t e w. (e, w)) (rw c.in-Some.is at c.in_ok-row.ensures.read) c.in_ok-trades.ensures)
    c.in_ok-found.ensures

pub returns-in_err-trades : goal.returns-in_err-trades
returns-in_err-trades g c =
    let old = c.args.store.now in
    let p = err_from_is_err_and c.from_residual-in_err-trades.result c.from_residual-in_err-trades.ensures.1 in
    rw p.1 (failed_after g.S.Store old c.account.new.self c.fifty_trades_with_securities.new.store _ p.0 _ _
    (single_read_changes_nothing old c.account.new.self _ _ c.in_ok-row.ensures.read) c.in_err-trades.ensures)

pub returns-in_err-found : goal.returns-in_err-found
returns-in_err-found g c =
    let old = c.args.store.now in
    let p = err_from_is_err_and c.from_residual-in_err-found.result c.from_residual-in_err-found.ensures.1 in
    rw p.1 (failed_after g.S.Store old c.fifty_trades_with_securities.new.store c.status_with_parties.new.store _ p.0 _ _
    (unchanged_after g.S.Store old c.account.new.self c.fifty_trades_with_securities.new.store _ _
    (single_read_changes_nothing old c.account.new.self _ _ c.in_ok-row.ensures.read) c.in_ok-trades.ensures) c.in_err-found.ensures)
