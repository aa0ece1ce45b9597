use Rattle.std.proofs.Common.{◌≡◌, ◌==◌, ℕ, Err, None, Ok, Option, Some, find, option_map}
use Rattle.std.specs.Prelude.{Result}
use Rattle.brk_money.specs.declared.fault.CallFault.{CallFault}
use Rattle.brk_money.specs.declared.refusal.Refusal.{Refusal}
use Rattle.brk_money.specs.declared.refusal.Refusal.TheVariants.{NoAccount}
use Rattle.brk_ref.specs.declared.trade_row.TradeRow.{TradeRow}
use Rattle.brk_model.specs.Queries.{LotsTouched}
use Rattle.brk_model.specs.Tables.{Tables}
use Rattle.brk_ref.specs.Records.{abstract_account_row}
use Rattle.brk_ref.specs.declared.account.AccountRow.{AccountRow}
use Rattle.brk_store_reads.proofs.Retelling.{retold}
use Rattle.brk_store_reads.proofs.Sequences.{failed_after, read_with, unchanged_after}
use Rattle.brk_view_rows.specs.declared.view.View.{View}
use Rattle.brk_desk_queries.specs.QueryResults.{AnswersQueryAsModel}
use Rattle.brk_desk_queries.specs.Touched.{AreTouchedLotsOfTrade}
use Rattle.brk_desk_queries.proofs.LotViews.{IsFirstTradeSince, lots_seen, no_lots, none_seen}
use Rattle.std.proofs.lemmas.Result.{err_from_is_err_and}
use Rattle.brk_store_reads.specs.ReadSequences.{single_read_changes_nothing}
use Rattle.brk_desk_queries.proofs.touched_lots.touched_lots_view.Goals as goal

-- the account with an id
abbrev IsRowOf : ℕ → Option AccountRow → Tables → Type 0
IsRowOf id o t = option_map abstract_account_row o ≡ find (λ r. r.id == id) t.accounts

pub returns-in_default : goal.returns-in_default
returns-in_default g c =
    let id = c.args.account in
    let first = c.args.first in
    retold g.S.Store c.args.store.now c.account.new.self {V = Option AccountRow} {X = Result View Refusal} None (Err NoAccount)
    (IsRowOf id) (AnswersQueryAsModel (LotsTouched id first)) (no_lots id first)
    (rw c.in_default.is at c.in_ok-_row.ensures.read)

pub returns-in_default-2 : goal.returns-in_default-2
returns-in_default-2 g c =
    let id = c.args.account in
    let first = c.args.first in
    let row = c.in-Some._row in
    let view = c.lookup_lots.result in
    read_with g.S.Store c.args.store.now c.account.new.self c.first_trade_of_account_since.new.self {W = Option TradeRow} {X = Result View Refusal} {H = CallFault} (Some row) None (Ok view)
    (IsRowOf id) (IsFirstTradeSince id first) (AnswersQueryAsModel (LotsTouched id first))
    (λ t e s. none_seen id first (abstract_account_row row) view c.lookup_lots.ensures.value c.lookup_lots.ensures.view t e s)
    (rw c.in-Some.is at c.in_ok-_row.ensures.read) (rw c.in_default-2.is at c.in_ok-trade.ensures.read)

pub returns : goal.returns
returns g c =
    let old = c.args.store.now in
    let id = c.args.account in
    let first = c.args.first in
    let row = c.in-Some._row in
    let trade = c.in-Some-2.trade in
    let lots = c.in_ok-lots.lots in
    let view = c.lookup_lots-2.result in
    read_with g.S.Store old c.first_trade_of_account_since.new.self c.touched_lots_of_trade.new.store {X = Result View Refusal} {H = CallFault} (Some trade) lots (Ok view)
    (λ o (t : Tables). (Some (abstract_account_row row) ≡ find (λ r. r.id == id) t.accounts) × IsFirstTradeSince id first o t)
    (AreTouchedLotsOfTrade trade.id)
    (AnswersQueryAsModel (LotsTouched id first))
    (λ t k p. lots_seen id first (abstract_account_row row) trade lots view c.lookup_lots-2.ensures.value c.lookup_lots-2.ensures.view t k.0 k.1 p)
    (read_with g.S.Store old c.account.new.self c.first_trade_of_account_since.new.self {X = Option TradeRow} {H = CallFault} (Some row) (Some trade) (Some trade)
    (IsRowOf id) (IsFirstTradeSince id first) (λ o (t : Tables). (Some (abstract_account_row row) ≡ find (λ r. r.id == id) t.accounts) × IsFirstTradeSince id first o t)
    (λ t e s. (e, s)) (rw c.in-Some.is at c.in_ok-_row.ensures.read) (rw c.in-Some-2.is at c.in_ok-trade.ensures.read))
    c.in_ok-lots.ensures

pub returns-in_err-trade : goal.returns-in_err-trade
returns-in_err-trade g c =
    let old = c.args.store.now in
    let p = err_from_is_err_and c.from_residual-in_err-trade.result c.from_residual-in_err-trade.ensures.1 in
    rw p.1 (failed_after g.S.Store old c.account.new.self c.first_trade_of_account_since.new.self _ p.0 _ _
    (single_read_changes_nothing old c.account.new.self _ _ c.in_ok-_row.ensures.read) c.in_err-trade.ensures.read)

pub returns-in_err-lots : goal.returns-in_err-lots
returns-in_err-lots g c =
    let old = c.args.store.now in
    let p = err_from_is_err_and c.from_residual-in_err-lots.result c.from_residual-in_err-lots.ensures.1 in
    rw p.1 (failed_after g.S.Store old c.first_trade_of_account_since.new.self c.touched_lots_of_trade.new.store _ p.0 _ _
    (unchanged_after g.S.Store old c.account.new.self c.first_trade_of_account_since.new.self _ _
    (single_read_changes_nothing old c.account.new.self _ _ c.in_ok-_row.ensures.read) c.in_ok-trade.ensures.read) c.in_err-lots.ensures)
