use Rattle.std.proofs.Common.{◌≡◌, List, [], ◌∷◌, filter, take, slice_get, refl, ap, ◌∙◌}
use Rattle.std.specs.Prelude.{nat_le, option_to_list}
use Rattle.sqlite.specs.Held.{state}
use Rattle.brk_model.specs.Joins.{trade_rows_oldest_first, trade_rows_of_account}
use Rattle.brk_model.specs.Tables.{Tables, TradeRow}
use Rattle.brk_tables_sql.proofs.Answer.{look_first}
use Rattle.brk_tables_sql.proofs.Inside.{step_weaker}
use Rattle.brk_tables_schema.specs.Cells.{natural_as_value, trade_cells}
use Rattle.brk_tables_schema.specs.Desk.{desk_tables}
use Rattle.brk_ref.specs.Rows.{abstract_trade_row}
use Rattle.brk_tables_views.proofs.MomentReads.{tells_first_since}
use Rattle.brk_tables_schema.proofs.TradingBack.{trade_back, trade_is_back}
use Rattle.brk_tables_views.proofs.FirstSince
use Rattle.brk_tables_views.proofs.FirstSince.{plain}
use Rattle.brk_tables_views.proofs.trades_by_stamp.first_trade_of_account_since.Goals as goal

pub select_rows-requires : goal.select_rows-requires
select_rows-requires g c = record { no_returning_clause = plain }

-- the first of one, where there is one, is all of it
one : (rows : List TradeRow) → option_to_list (slice_get (take 1 rows) 0) ≡ take 1 rows
one [] = refl
one (r ∷ rows) = refl

pub returns-clause-step : goal.returns-clause-step
returns-clause-step g c =
    let old = state g.S.Store c.args.tx.now.conn.now in
    let new = state g.S.Store c.select_rows.new.tx.conn.now in
    let since = λ (t : Tables). take 1 (trade_rows_oldest_first (filter (λ (r : TradeRow). nat_le c.args.first r.stamp) (trade_rows_of_account t c.args.account))) in
    step_weaker old new c.decode_first_row.result _ _
    (λ o looks. (
      looks.0,
      looks.1,
      λ t tree h. ap option_to_list (looks.2 t tree h)
          ∙ one (trade_rows_oldest_first (filter (λ (r : TradeRow). nat_le c.args.first r.stamp) (trade_rows_of_account t c.args.account))),
    ))
    (look_first desk_tables trade_cells trade_back trade_is_back abstract_trade_row FirstSince.statement
    (natural_as_value c.args.account ∷ natural_as_value c.args.first ∷ []) old new c.in_ok-rows.rows (λ rows. rows.items) _ c.deref.ensures.value
    (rw (c.id_param.ensures, c.stamp_param.ensures) at c.in_ok-rows.ensures.step)
    c.decode_first_row.result c.decode_first_row.ensures.value since (λ t. slice_get (since t) 0) (λ t. refl) (tells_first_since old new c.args.account c.args.first _))
