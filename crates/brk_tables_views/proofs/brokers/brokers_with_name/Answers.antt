use Rattle.std.proofs.Common.{[], ◌∷◌, filter}
use Rattle.std.specs.Prelude.{bytes_eq}
use Rattle.sqlite_value.specs.declared.value.Value.TheVariants.{Text as Words}
use Rattle.sqlite.specs.Held.{state}
use Rattle.brk_model.specs.Tables.{BrokerRow}
use Rattle.brk_tables_sql.proofs.Answer.{look_all}
use Rattle.brk_tables_schema.specs.Cells.{broker_cells}
use Rattle.brk_tables_schema.specs.Desk.{desk_tables}
use Rattle.brk_ref.specs.Records.{abstract_broker_row}
use Rattle.brk_tables_schema.proofs.Back.{broker_back, broker_is_back}
use Rattle.brk_tables_views.proofs.ListReads.{tells_brokers_named}
use Rattle.brk_tables_views.proofs.BrokersNamed
use Rattle.brk_tables_views.proofs.BrokersNamed.{plain}
use Rattle.brk_tables_views.proofs.brokers.brokers_with_name.Goals as goal

pub select_rows-requires : goal.select_rows-requires
select_rows-requires g c = record { no_returning_clause = plain }

pub returns-clause-step : goal.returns-clause-step
returns-clause-step g c =
    let old = state g.S.Store c.args.tx.now.conn.now in
    let new = state g.S.Store c.select_rows.new.tx.conn.now in
    look_all desk_tables broker_cells broker_back broker_is_back abstract_broker_row BrokersNamed.statement (Words c.args.name.now ∷ []) old new
    c.in_ok-rows.rows (λ rows. rows.items) _ c.deref.ensures.value (rw (c.text_param.ensures, c.as_str.ensures) at c.in_ok-rows.ensures.step)
    (λ all. all.items) c.decode_rows.result c.decode_rows.ensures.value (λ t. filter (λ (r : BrokerRow). bytes_eq r.name c.args.name.now) t.brokers) (tells_brokers_named old new c.args.name.now _)
