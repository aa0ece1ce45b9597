use Rattle.std.proofs.Common.{[], ◌∙◌, ℕ, map}
use Rattle.sqlite.specs.Held.{state}
use Rattle.brk_model.specs.Tables.{AccountRow}
use Rattle.brk_tables_sql.proofs.Answer.{look_all}
use Rattle.brk_tables_sql.proofs.Inside.{step_weaker}
use Rattle.brk_tables_schema.specs.Desk.{desk_tables}
use Rattle.brk_tables_schema.proofs.TradingBack.{id_back, id_is_back}
use Rattle.brk_tables_views.proofs.AccountIds
use Rattle.brk_tables_views.proofs.AccountIds.{plain}
use Rattle.brk_tables_views.proofs.IdReads.{as_they_are, id_cells, tells_account_ids}
use Rattle.brk_tables_views.proofs.brokers.all_account_ids.Goals as goal

pub select_rows-requires : goal.select_rows-requires
select_rows-requires g c = record { no_returning_clause = plain }

pub returns-clause-step : goal.returns-clause-step
returns-clause-step g c =
    let old = state g.S.Store c.args.tx.now.conn.now in
    let new = state g.S.Store c.select_rows.new.tx.conn.now in
    step_weaker old new c.decode_rows.result _ _ (λ all looks. (looks.0, looks.1, λ t tree h. as_they_are all.items ∙ looks.2 t tree h))
    (look_all desk_tables id_cells id_back id_is_back (λ (n : ℕ). n) AccountIds.statement [] old new c.in_ok-rows.rows
    (λ rows. rows.items) _ c.deref.ensures.value c.in_ok-rows.ensures.step
    (λ all. all.items) c.decode_rows.result c.decode_rows.ensures.value
    (λ t. map (λ (r : AccountRow). r.id) t.accounts)
    (tells_account_ids old new _))
