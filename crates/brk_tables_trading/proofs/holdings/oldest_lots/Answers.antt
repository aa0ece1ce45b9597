use Rattle.std.proofs.Common.{pos, [], ◌∷◌}
use Rattle.sqlite_value.specs.declared.value.Value.TheVariants.{Int, Text}
use Rattle.sqlite.specs.Held.{state}
use Rattle.brk_tables_sql.proofs.Answer.{look_all}
use Rattle.brk_tables_schema.specs.Cells.{holding_cells}
use Rattle.brk_tables_schema.specs.Desk.{desk_tables}
use Rattle.brk_ref.specs.Rows.{abstract_holding_row}
use Rattle.brk_tables_trading.specs.Pages.{position_lots_by_age, page_after_skipped}
use Rattle.brk_tables_schema.proofs.TradingBack.{holding_back, holding_is_back}
use Rattle.brk_tables_trading.proofs.Holding.{tells_oldest}
use Rattle.brk_tables_trading.proofs.OldestLots
use Rattle.brk_tables_trading.proofs.OldestLots.{plain}
use Rattle.brk_tables_trading.proofs.holdings.oldest_lots.Goals as goal

pub select_rows-requires : goal.select_rows-requires
select_rows-requires g c = record { no_returning_clause = plain }

pub returns-clause-step : goal.returns-clause-step
returns-clause-step g c =
    let old = state g.S.Store c.args.tx.now.conn.now in
    let new = state g.S.Store c.select_rows.new.tx.conn.now in
    look_all desk_tables holding_cells holding_back holding_is_back abstract_holding_row OldestLots.statement
    (Int (pos c.args.account) ∷ Text c.args.symbol.now ∷ Int (pos c.args.skipped) ∷ []) old new c.in_ok-rows.rows (λ rows. rows.items) _
    c.deref.ensures.value
    (rw (c.id_param.ensures, c.text_param.ensures, c.as_str.ensures, c.skip_parameter.ensures) at c.in_ok-rows.ensures.step)
    (λ all. all.items) c.decode_rows.result c.decode_rows.ensures.value
    (λ t. page_after_skipped c.args.skipped (position_lots_by_age c.args.account c.args.symbol.now t))
    (tells_oldest old new c.args.account c.args.skipped c.args.symbol.now _)
