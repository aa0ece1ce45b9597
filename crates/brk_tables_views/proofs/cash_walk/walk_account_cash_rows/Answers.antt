use Rattle.std.proofs.Common.{[], ◌∷◌, rules}
use Rattle.sqlite.specs.Held.{state}
use Rattle.brk_tables_schema.specs.Cells.{natural_as_value, move_cells}
use Rattle.brk_ref.specs.Rows.{abstract_cash_row}
use Rattle.brk_tables_views.specs.Lists.{account_cash_rows_between}
use Rattle.brk_tables_views.proofs.CashBetween
use Rattle.brk_tables_schema.proofs.Back.{move_back, move_is_back}
use Rattle.brk_tables_views.proofs.TellingCash.{tells_cash_between, cash_start}
use Rattle.brk_tables_views.proofs.Walks.{walks}
use Rattle.brk_tables_views.proofs.cash_walk.walk_account_cash_rows.Goals as goal

pub walk_query_rows-requires-clause-query : goal.walk_query_rows-requires-clause-query
walk_query_rows-requires-clause-query g c = CashBetween.plain

pub returns-clause-walked : goal.returns-clause-walked
returns-clause-walked g c =
    let old = c.args.conn.now in
    let new = c.walk_query_rows.new.conn in
    walks abstract_cash_row move_cells move_back move_is_back g.S.Store old new (account_cash_rows_between c.args.account c.args.from c.args.to)
    g.V.Visitor.takes g.V.Visitor.stops _ _ _ CashBetween.statement
    (natural_as_value c.args.account ∷ natural_as_value c.args.from ∷ natural_as_value c.args.to ∷ [])
    (tells_cash_between (state g.S.Store old) (state g.S.Store old) c.args.account c.args.from c.args.to)
    (λ rows up begins. cash_start (state g.S.Store old) c.args.account c.args.from c.args.to rows up begins)
    c.walk_query_rows.ensures.crash (c.is_autocommit-is_autocommit.ensures.settled (search rules))
    (rw (c.id_param.ensures, c.stamp_param.ensures, c.stamp_param-2.ensures) at c.walk_query_rows.ensures.all)
    (rw (c.id_param.ensures, c.stamp_param.ensures, c.stamp_param-2.ensures) at c.walk_query_rows.ensures.early)
    c.walk_query_rows.ensures.changes_at_most_by_rollback c.walk_query_rows.ensures.fault
