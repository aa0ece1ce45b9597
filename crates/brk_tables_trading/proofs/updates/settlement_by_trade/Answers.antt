use Rattle.std.proofs.Common.{◌==◌, pos, [], ◌∷◌, find, filter}
use Rattle.sqlite_value.specs.declared.value.Value.TheVariants.{Int}
use Rattle.sqlite_keyed.proofs.ListLemmas.{slice_get-filter}
use Rattle.sqlite.specs.Held.{state}
use Rattle.brk_model.specs.Tables.{SettlementRow}
use Rattle.brk_tables_sql.proofs.Answer.{look_first}
use Rattle.brk_tables_schema.specs.Cells.{settlement_cells}
use Rattle.brk_tables_schema.specs.Desk.{desk_tables}
use Rattle.brk_ref.specs.Rows.{abstract_settlement_row}
use Rattle.brk_tables_trading.proofs.SettlementByTrade
use Rattle.brk_tables_trading.proofs.SettlementByTrade.{plain}
use Rattle.brk_tables_schema.proofs.TradingBack.{settlement_back, settlement_is_back}
use Rattle.brk_tables_trading.proofs.UpdateReads.{tells_settlement}
use Rattle.brk_tables_trading.proofs.updates.settlement_by_trade.Goals as goal

pub select_rows-requires : goal.select_rows-requires
select_rows-requires g c = record { no_returning_clause = plain }

pub returns-clause-step : goal.returns-clause-step
returns-clause-step g c =
    let old = state g.S.Store c.args.tx.now.conn.now in
    let new = state g.S.Store c.select_rows.new.tx.conn.now in
    look_first desk_tables settlement_cells settlement_back settlement_is_back abstract_settlement_row SettlementByTrade.statement (Int (pos c.args.trade) ∷ [])
    old new c.in_ok-rows.rows (λ rows. rows.items) _ c.deref.ensures.value (rw (c.id_param.ensures) at c.in_ok-rows.ensures.step)
    c.decode_first_row.result c.decode_first_row.ensures.value (λ t. filter (λ (r : SettlementRow). r.trade == c.args.trade) t.settlements)
    (λ t. find (λ (r : SettlementRow). r.trade == c.args.trade) t.settlements)
    (λ t. slice_get-filter (λ (r : SettlementRow). r.trade == c.args.trade) t.settlements) (tells_settlement old new c.args.trade _)
