use Rattle.std.proofs.Common.{◌≡◌, ◌∙◌, Bool, ap}
use Rattle.std.specs.Prelude.{IsTrue}
use Rattle.sqlite.specs.Held.{state}
use Rattle.sqlite.specs.State.{State}
use Rattle.brk_trade_rows.specs.Schemas.{abstract_schema}
use Rattle.brk_tables_sql.proofs.Inside.{step_then}
use Rattle.brk_tables_schema.specs.Desk.{TheDesk}
use Rattle.brk_tables_scan.specs.Present.{has_exact_table_names, has_table_named}
use Rattle.brk_tables_scan.proofs.presence.has_table_names.Goals as goal

pub returns-clause-step : goal.returns-clause-step
returns-clause-step g c =
    let desk = abstract_schema c.args.schema in
    let old = state g.S.Store c.args.tx.now.conn.now in
    let mid = state g.S.Store c.table_exists.new.tx.conn.now in
    let new = state g.S.Store c.names_match.new.tx.conn.now in
    let named : Bool → State → State → Type 0 = λ has a b. IsTrue a.is_open × (b.now ≡ a.now) × (has ≡ has_table_named a.now.schema TheDesk) in
    step_then old mid new c.in_ok-_there._there c.names_match.result named (λ has a b. (b.now ≡ a.now) × (has ≡ has_exact_table_names desk a.now.schema)) _
    (λ v p q. (p.0, q.0 ∙ p.1, q.1 ∙ ap (λ d. has_exact_table_names desk d.schema) p.1)) c.in_ok-_there.ensures.step c.names_match.ensures.step
