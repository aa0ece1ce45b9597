use Rattle.std.proofs.Common.{◌==◌, pos, [], ◌∷◌, find, filter}
use Rattle.sqlite_value.specs.declared.value.Value.TheVariants.{Int}
use Rattle.sqlite_keyed.proofs.ListLemmas.{slice_get-filter}
use Rattle.sqlite.specs.Held.{state}
use Rattle.brk_model.specs.Tables.{HoldingRow}
use Rattle.brk_tables_sql.proofs.Answer.{look_first}
use Rattle.brk_tables_schema.specs.Cells.{holding_cells}
use Rattle.brk_tables_schema.specs.Desk.{desk_tables}
use Rattle.brk_ref.specs.Rows.{abstract_holding_row}
use Rattle.brk_tables_schema.proofs.TradingBack.{holding_back, holding_is_back}
use Rattle.brk_tables_trading.proofs.LotByTrade
use Rattle.brk_tables_trading.proofs.LotByTrade.{plain}
use Rattle.brk_tables_trading.proofs.LotReads.{tells_lot}
use Rattle.brk_tables_trading.proofs.holdings.lot_by_trade.Goals as goal

pub select_rows-requires : goal.select_rows-requires
select_rows-requires g c = record { no_returning_clause = plain }

pub returns-clause-step : goal.returns-clause-step
returns-clause-step g c =
    let old = state g.S.Store c.args.tx.now.conn.now in
    let new = state g.S.Store c.select_rows.new.tx.conn.now in
    look_first desk_tables holding_cells holding_back holding_is_back abstract_holding_row LotByTrade.statement (Int (pos c.args.trade) ∷ []) old new c.in_ok-rows.rows
    (λ rows. rows.items) _ c.deref.ensures.value (rw (c.id_param.ensures) at c.in_ok-rows.ensures.step)
    c.decode_first_row.result c.decode_first_row.ensures.value (λ t. filter (λ (r : HoldingRow). r.trade == c.args.trade) t.holdings)
    (λ t. find (λ (r : HoldingRow). r.trade == c.args.trade) t.holdings) (λ t. slice_get-filter (λ (r : HoldingRow). r.trade == c.args.trade) t.holdings)
    (tells_lot old new c.args.trade _)
