use Rattle.std.proofs.Common.{[], ◌∷◌, rules}
use Rattle.sqlite_value.specs.declared.value.Value.TheVariants.{Text as Words}
use Rattle.sqlite.specs.Held.{state}
use Rattle.brk_money.specs.Kinds.{trade_status_code}
use Rattle.brk_money.specs.declared.status.Status.TheVariants.{Completed}
use Rattle.brk_tables_schema.specs.Cells.{trade_cells}
use Rattle.brk_ref.specs.Rows.{abstract_trade_row}
use Rattle.brk_tables_schema.proofs.TradingBack.{trade_back, trade_is_back}
use Rattle.brk_tables_views.specs.Lists.{completed_trades_by_stamp_and_id}
use Rattle.brk_tables_views.proofs.CompletedByAge
use Rattle.brk_tables_views.proofs.TellingTrades.{completed_start, tells_completed_by_age}
use Rattle.brk_tables_views.proofs.Walks.{walks}
use Rattle.brk_tables_views.proofs.trade_walk.walk_completed_trades.Goals as goal

pub walk_query_rows-requires-clause-query : goal.walk_query_rows-requires-clause-query
walk_query_rows-requires-clause-query g c = CompletedByAge.plain

pub returns-clause-walked : goal.returns-clause-walked
returns-clause-walked g c =
    let old = c.args.conn.now in
    let new = c.walk_query_rows.new.conn in
    walks abstract_trade_row trade_cells trade_back trade_is_back g.S.Store old new completed_trades_by_stamp_and_id g.V.Visitor.takes g.V.Visitor.stops _ _ _
    CompletedByAge.statement (Words (trade_status_code Completed) ∷ [])
    (tells_completed_by_age (state g.S.Store old) (state g.S.Store old)) (λ rows up begins. completed_start (state g.S.Store old) rows up begins)
    c.walk_query_rows.ensures.crash (c.is_autocommit-is_autocommit.ensures.settled (search rules))
    (rw c.status_param.ensures at c.walk_query_rows.ensures.all) (rw c.status_param.ensures at c.walk_query_rows.ensures.early)
    c.walk_query_rows.ensures.changes_at_most_by_rollback c.walk_query_rows.ensures.fault
