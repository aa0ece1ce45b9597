use Rattle.std.proofs.Common.{◌==◌, pos, [], ◌∷◌, find, filter}
use Rattle.sqlite_value.specs.declared.value.Value.TheVariants.{Int}
use Rattle.sqlite_keyed.proofs.ListLemmas.{slice_get-filter}
use Rattle.sqlite.specs.Held.{state}
use Rattle.brk_model.specs.Tables.{BrokerRow}
use Rattle.brk_tables_sql.proofs.Answer.{look_first}
use Rattle.brk_tables_schema.specs.Cells.{broker_cells}
use Rattle.brk_tables_schema.specs.Desk.{desk_tables}
use Rattle.brk_ref.specs.Records.{abstract_broker_row}
use Rattle.brk_tables_schema.proofs.Back.{broker_back, broker_is_back}
use Rattle.brk_tables_reference.proofs.BrokerById
use Rattle.brk_tables_reference.proofs.BrokerById.{plain}
use Rattle.brk_tables_reference.proofs.Steps.{tells_broker}
use Rattle.brk_tables_reference.proofs.brokers.broker_by_id.Goals as goal

pub select_rows-requires : goal.select_rows-requires
select_rows-requires g c = record { no_returning_clause = plain }

pub returns-clause-step : goal.returns-clause-step
returns-clause-step g c =
    let old = state g.S.Store c.args.tx.now.conn.now in
    let new = state g.S.Store c.select_rows.new.tx.conn.now in
    look_first desk_tables broker_cells broker_back broker_is_back abstract_broker_row BrokerById.statement (Int (pos c.args.id) ∷ []) old new c.in_ok-rows.rows
    (λ rows. rows.items) _ c.deref.ensures.value (rw (c.id_param.ensures) at c.in_ok-rows.ensures.step)
    c.decode_first_row.result c.decode_first_row.ensures.value (λ t. filter (λ (r : BrokerRow). r.id == c.args.id) t.brokers)
    (λ t. find (λ (r : BrokerRow). r.id == c.args.id) t.brokers) (λ t. slice_get-filter (λ (r : BrokerRow). r.id == c.args.id) t.brokers)
    (tells_broker old new c.args.id _)
