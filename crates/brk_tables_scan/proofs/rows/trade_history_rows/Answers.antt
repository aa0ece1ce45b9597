use Rattle.sqlite.specs.Held.{state}
use Rattle.brk_tables_sql.proofs.Inside.{step_weaker}
use Rattle.brk_tables_scan.proofs.AllTradeHistory.{plain}
use Rattle.brk_tables_scan.proofs.Shown.{history_shown}
use Rattle.brk_tables_scan.proofs.rows.trade_history_rows.Goals as goal

pub select_rows-requires : goal.select_rows-requires
select_rows-requires g c = record { no_returning_clause = plain }

pub returns-clause-step : goal.returns-clause-step
returns-clause-step g c =
    let old = state g.S.Store c.args.tx.now.conn.now in
    let new = state g.S.Store c.select_rows.new.tx.conn.now in
    step_weaker old new c.select_rows.result _ _ (λ rows s. (s.2, s.1, history_shown old new rows.items s.0)) c.select_rows.ensures.step
