use Rattle.std.proofs.Common.{[], ◌∷◌, ◌∙◌, ℕ, ◌==◌, ◌&&◌, filter, map}
use Rattle.std.specs.Prelude.{bytes_eq}
use Rattle.sqlite_value.specs.declared.value.Value.TheVariants.{Text as Words}
use Rattle.sqlite.specs.Held.{state}
use Rattle.brk_money.specs.Kinds.{is_same_trade_status, trade_status_code}
use Rattle.brk_money.specs.declared.status.Status.TheVariants.{Completed}
use Rattle.brk_model.specs.Joins.{trade_rows_oldest_first}
use Rattle.brk_model.specs.Tables.{TradeRow}
use Rattle.brk_tables_sql.proofs.Answer.{look_all}
use Rattle.brk_tables_sql.proofs.Inside.{step_weaker}
use Rattle.brk_tables_schema.specs.Cells.{natural_as_value}
use Rattle.brk_tables_schema.specs.Desk.{desk_tables}
use Rattle.brk_tables_schema.proofs.TradingBack.{id_back, id_is_back}
use Rattle.brk_tables_views.proofs.CompletedOfHolding
use Rattle.brk_tables_views.proofs.CompletedOfHolding.{plain}
use Rattle.brk_tables_views.proofs.IdReads.{as_they_are, id_cells, tells_completed_of_holding}
use Rattle.brk_tables_views.proofs.holdings.completed_trade_ids.Goals as goal

pub select_rows-requires : goal.select_rows-requires
select_rows-requires g c = record { no_returning_clause = plain }

pub returns-clause-step : goal.returns-clause-step
returns-clause-step g c =
    let old = state g.S.Store c.args.tx.now.conn.now in
    let new = state g.S.Store c.select_rows.new.tx.conn.now in
    step_weaker old new c.decode_rows.result _ _ (λ all looks. (looks.0, looks.1, λ t tree h. as_they_are all.items ∙ looks.2 t tree h))
    (look_all desk_tables id_cells id_back id_is_back (λ (n : ℕ). n) CompletedOfHolding.statement
    (natural_as_value c.args.account ∷ Words c.args.symbol.now ∷ Words (trade_status_code Completed) ∷ []) old new c.in_ok-rows.rows (λ rows. rows.items) _
    c.deref.ensures.value
    (rw (c.id_param.ensures, c.text_param.ensures, c.as_str.ensures, c.status_param.ensures) at c.in_ok-rows.ensures.step)
    (λ all. all.items) c.decode_rows.result c.decode_rows.ensures.value
    (λ t. map (λ (r : TradeRow). r.id)
    (trade_rows_oldest_first
    (filter (λ (r : TradeRow). (r.account == c.args.account) && (bytes_eq r.symbol c.args.symbol.now && is_same_trade_status r.status Completed))
    t.trades)))
    (tells_completed_of_holding old new c.args.account c.args.symbol.now _))
