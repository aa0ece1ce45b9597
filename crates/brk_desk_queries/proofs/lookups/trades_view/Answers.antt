use Rattle.std.proofs.Common.{◌≡◌, List, ℕ, Err, None, Ok, Option, Some, map, true}
use Rattle.std.specs.Global.{Vec}
use Rattle.std.specs.List.{list_any}
use Rattle.std.specs.Prelude.{MatchOption, Result, is_none}
use Rattle.brk_money.specs.declared.fault.CallFault.{CallFault}
use Rattle.brk_money.specs.declared.refusal.Refusal.{Refusal}
use Rattle.brk_money.specs.declared.refusal.Refusal.TheVariants.{NoTrade}
use Rattle.brk_ref.specs.Rows.{abstract_trade_row}
use Rattle.brk_ref.specs.declared.trade_row.TradeRow.{TradeRow}
use Rattle.brk_model.specs.Joins.{trade_row_with_id}
use Rattle.brk_model.specs.Queries.{TradesWith}
use Rattle.brk_model.specs.Tables.{Tables}
use Rattle.brk_store_reads.proofs.Sequences.{none_read, read_with_reads}
use Rattle.brk_trade_books.specs.TradeReads.{AreTradesWithIds}
use Rattle.brk_view_rows.specs.declared.view.View.{View}
use Rattle.brk_desk_queries.specs.LookedUp.{HaveAllRowsOfTrades}
use Rattle.brk_desk_queries.specs.QueryResults.{AnswersQueryAsModel}
use Rattle.brk_desk_queries.proofs.LookupViews.{no_trades, trades_seen}
use Rattle.std.proofs.lemmas.Result.{err_from_is_err_and}
use Rattle.brk_store_reads.specs.ReadSequences.{joined_reads_change_nothing, single_read_changes_nothing}
use Rattle.brk_desk_queries.proofs.lookups.trades_view.Goals as goal

-- what is found of the trades with some ids
abbrev AreFound : List ℕ → Option (Vec TradeRow) → Tables → Type 0
AreFound ids found t = MatchOption found (list_any (λ id. is_none (trade_row_with_id t id)) ids ≡ true) (λ trades. AreTradesWithIds t ids trades.items)

pub returns-in_default : goal.returns-in_default
returns-in_default g c =
    let ids = c.args.trades.now.trades in
    read_with_reads g.S.Store c.args.store.now c.last_stamp.new.self c.read_trades_by_ids.new.store {W = Option (Vec TradeRow)} {X = Result View Refusal} c.in_ok-_last._last None (Err NoTrade)
    (λ last (t : Tables). last ≡ t.last) (AreFound ids) (AnswersQueryAsModel (TradesWith ids)) (λ t _ e. no_trades ids t e)
    c.in_ok-_last.ensures.read (rw (c.in_default.is, c.ids.ensures) at c.in_ok-named.ensures.read)

pub returns : goal.returns
returns g c =
    let old = c.args.store.now in
    let mid = c.read_trades_by_ids.new.store in
    let ids = c.args.trades.now.trades in
    let named : Option (Vec TradeRow) = Some c.in-Some.named in
    let ordered = c.in_ok-ordered.ordered in
    let found = c.in_ok-found.found in
    let view = c.lookup_ids.result in
    read_with_reads g.S.Store old mid c.look_up_trades.new.store {X = Result View Refusal} {H = CallFault} named found (Ok view)
    (AreFound ids)
    (λ found. HaveAllRowsOfTrades (map abstract_trade_row ordered.items) found.items)
    (AnswersQueryAsModel (TradesWith ids))
    (λ t e p. trades_seen ids c.in-Some.named.items ordered.items found view c.args.trades.now.distinct c.args.trades.now.few c.in_ok-ordered.ensures.order
    c.lookup_ids.ensures.value c.lookup_ids.ensures.view t e p)
    (read_with_reads g.S.Store old c.last_stamp.new.self mid {H = CallFault} c.in_ok-_last._last named named (λ last (t : Tables). last ≡ t.last) (AreFound ids) (AreFound ids) (λ t _ e. e)
    c.in_ok-_last.ensures.read (rw (c.in-Some.is, c.ids.ensures) at c.in_ok-named.ensures.read))
    c.in_ok-found.ensures

pub returns-in_err-named : goal.returns-in_err-named
returns-in_err-named g c =
    let old = c.args.store.now in
    let p = err_from_is_err_and c.from_residual-in_err-named.result c.from_residual-in_err-named.ensures.1 in
    rw p.1 (none_read g.S.Store old c.read_trades_by_ids.new.store p.0 _
    (joined_reads_change_nothing old c.last_stamp.new.self c.read_trades_by_ids.new.store
    (single_read_changes_nothing old c.last_stamp.new.self _ _ c.in_ok-_last.ensures.read) c.in_err-named.ensures.read.unchanged))

pub returns-in_err-ordered : goal.returns-in_err-ordered
returns-in_err-ordered g c =
    let old = c.args.store.now in
    let p = err_from_is_err_and c.from_residual-in_err-ordered.result c.from_residual-in_err-ordered.ensures.1 in
    rw p.1 (none_read g.S.Store old c.read_trades_by_ids.new.store p.0 _
    (joined_reads_change_nothing old c.last_stamp.new.self c.read_trades_by_ids.new.store
    (single_read_changes_nothing old c.last_stamp.new.self _ _ c.in_ok-_last.ensures.read) c.in_ok-named.ensures.read.unchanged))

pub returns-in_err-found : goal.returns-in_err-found
returns-in_err-found g c =
    let old = c.args.store.now in
    let p = err_from_is_err_and c.from_residual-in_err-found.result c.from_residual-in_err-found.ensures.1 in
    rw p.1 (none_read g.S.Store old c.look_up_trades.new.store p.0 _
    (joined_reads_change_nothing old c.read_trades_by_ids.new.store c.look_up_trades.new.store
    (joined_reads_change_nothing old c.last_stamp.new.self c.read_trades_by_ids.new.store
    (single_read_changes_nothing old c.last_stamp.new.self _ _ c.in_ok-_last.ensures.read) c.in_ok-named.ensures.read.unchanged)
    c.in_err-found.ensures.unchanged))
