use Rattle.std.proofs.Common.{◌∙◌, Ok, sym}
use Rattle.sqlite.specs.Held.{state}
use Rattle.brk_trade_rows.specs.Schemas.{abstract_schema}
use Rattle.brk_tables_sql.specs.Desk.{ChangesTablesBy}
use Rattle.brk_tables_sql.proofs.Inside.{step_read, step_then}
use Rattle.brk_tables_schema.specs.Desk.{desk_tables}
use Rattle.brk_tables_cash.specs.Upgrade.{AddsTablesOfLaterSchemas, UpgradesTables, tables_with_cash_transactions_moved}
use Rattle.brk_tables.proofs.LaterTables.{moves_cash, moves_not}
use Rattle.brk_tables.proofs.upgrade.upgrade_tables.Goals as goal

pub returns-then-has_cash_move_table-clause-step : goal.returns-then-has_cash_move_table-clause-step
returns-then-has_cash_move_table-clause-step g c =
    let schema = abstract_schema c.args.schema in
    let a = state g.S.Store c.args.tx.now.conn.now in
    let b = state g.S.Store c.raise_schema.new.tx.conn.now in
    step_read a b tt (Ok tt) (λ _ x y. AddsTablesOfLaterSchemas schema x.now y.now) (λ _ x y. UpgradesTables schema x.now y.now)
    (λ _ _ up. moves_not schema a.now b.now (sym c.has_cash_move_table.ensures ∙ c.if-has_cash_move_table.true) up)
    c.in_ok-raise_schema.ensures.step

pub returns-clause-step : goal.returns-clause-step
returns-clause-step g c =
    let schema = abstract_schema c.args.schema in
    let a = state g.S.Store c.args.tx.now.conn.now in
    let b = state g.S.Store c.raise_schema.new.tx.conn.now in
    let d = state g.S.Store c.move_cash_transactions.new.tx.conn.now in
    step_then a b d tt c.move_cash_transactions.result (λ _ x y. AddsTablesOfLaterSchemas schema x.now y.now)
    (λ _ x y. ChangesTablesBy desk_tables tables_with_cash_transactions_moved x.now y.now) (λ _ x y. UpgradesTables schema x.now y.now)
    (λ _ up turns. moves_cash schema a.now b.now d.now (sym c.has_cash_move_table.ensures ∙ c.if-has_cash_move_table.false) up turns)
    c.in_ok-raise_schema.ensures.step c.move_cash_transactions.ensures.step
