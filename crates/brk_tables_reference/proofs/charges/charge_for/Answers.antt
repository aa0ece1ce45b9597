use Rattle.std.proofs.Common.{pos, [], ◌∷◌, ◌==◌, ◌&&◌, find, filter}
use Rattle.sqlite_value.specs.declared.value.Value.TheVariants.{Int, Text}
use Rattle.sqlite_keyed.proofs.ListLemmas.{slice_get-filter}
use Rattle.sqlite.specs.Held.{state}
use Rattle.brk_money.specs.Kinds.{trade_type_code, is_same_trade_type}
use Rattle.brk_ref.specs.Records.{abstract_charge}
use Rattle.brk_model.specs.Records.{Charge}
use Rattle.brk_tables_sql.proofs.Answer.{look_first}
use Rattle.brk_tables_schema.specs.Cells.{charge_cells}
use Rattle.brk_tables_schema.specs.Desk.{desk_tables}
use Rattle.brk_tables_schema.proofs.Back.{charge_back, charge_is_back}
use Rattle.brk_tables_reference.proofs.ChargeByKey
use Rattle.brk_tables_reference.proofs.ChargeByKey.{plain}
use Rattle.brk_tables_reference.proofs.ReferenceReads.{tells_charge}
use Rattle.brk_tables_reference.proofs.charges.charge_for.Goals as goal

pub select_rows-requires : goal.select_rows-requires
select_rows-requires g c = record { no_returning_clause = plain }

pub returns-clause-step : goal.returns-clause-step
returns-clause-step g c =
    let old = state g.S.Store c.args.tx.now.conn.now in
    let new = state g.S.Store c.select_rows.new.tx.conn.now in
    look_first desk_tables charge_cells charge_back charge_is_back abstract_charge ChargeByKey.statement
    (Text (trade_type_code c.args.kind) ∷ Int (pos c.args.tier) ∷ []) old new c.in_ok-rows.rows (λ rows. rows.items) _ c.deref.ensures.value
    (rw (c.trade_type_param.ensures, c.tier_param.ensures) at c.in_ok-rows.ensures.step)
    c.decode_first_row.result c.decode_first_row.ensures.value
    (λ t. filter (λ (r : Charge). is_same_trade_type r.kind c.args.kind && (r.tier == c.args.tier)) t.charges)
    (λ t. find (λ (r : Charge). is_same_trade_type r.kind c.args.kind && (r.tier == c.args.tier)) t.charges)
    (λ t. slice_get-filter (λ (r : Charge). is_same_trade_type r.kind c.args.kind && (r.tier == c.args.tier)) t.charges)
    (tells_charge old new c.args.kind c.args.tier _)
