use Rattle.std.proofs.Common.{[], ◌∷◌, rules}
use Rattle.sqlite.specs.Held.{state}
use Rattle.brk_tables_schema.specs.Cells.{natural_as_value, holding_cells}
use Rattle.brk_ref.specs.Rows.{abstract_holding_row}
use Rattle.brk_tables_schema.proofs.TradingBack.{holding_back, holding_is_back}
use Rattle.brk_tables_views.specs.Lists.{account_lots_by_symbol}
use Rattle.brk_tables_views.proofs.LotsBySymbol
use Rattle.brk_tables_views.proofs.Telling.{tells_lots_by_symbol, lots_start}
use Rattle.brk_tables_views.proofs.Walks.{walks}
use Rattle.brk_tables_views.proofs.lot_walk.walk_lots.Goals as goal

pub walk_query_rows-requires-clause-query : goal.walk_query_rows-requires-clause-query
walk_query_rows-requires-clause-query g c = LotsBySymbol.plain

pub returns-clause-walked : goal.returns-clause-walked
returns-clause-walked g c =
    let old = c.args.conn.now in
    let new = c.walk_query_rows.new.conn in
    walks abstract_holding_row holding_cells holding_back holding_is_back g.S.Store old new (account_lots_by_symbol c.args.account) g.V.Visitor.takes
    g.V.Visitor.stops _ _ _ LotsBySymbol.statement (natural_as_value c.args.account ∷ [])
    (tells_lots_by_symbol (state g.S.Store old) (state g.S.Store old) c.args.account) (λ rows up begins. lots_start (state g.S.Store old) c.args.account rows up begins)
    c.walk_query_rows.ensures.crash (c.is_autocommit-is_autocommit.ensures.settled (search rules))
    (rw c.id_param.ensures at c.walk_query_rows.ensures.all) (rw c.id_param.ensures at c.walk_query_rows.ensures.early)
    c.walk_query_rows.ensures.changes_at_most_by_rollback c.walk_query_rows.ensures.fault
