use Rattle.std.proofs.Common.{◌≡◌, ℕ, List, [], ◌∷◌, Option, Some, None, option_map, map, take, reverse, slice_get, refl}
use Rattle.sqlite.specs.Held.{state}
use Rattle.brk_model.specs.Tables.{Tables, TradeRow}
use Rattle.brk_tables_sql.proofs.Answer.{look_first}
use Rattle.brk_tables_sql.proofs.Inside.{step_weaker}
use Rattle.brk_tables_schema.specs.Desk.{desk_tables}
use Rattle.brk_tables_schema.proofs.TradingBack.{id_back, id_is_back}
use Rattle.brk_tables_trading.proofs.LastTradeId
use Rattle.brk_tables_trading.proofs.LastTradeId.{plain}
use Rattle.brk_tables_trading.proofs.Tells.{id_cells, tells_last_id}
use Rattle.brk_tables_trading.proofs.trades.greatest_trade_id.Goals as goal

pub select_rows-requires : goal.select_rows-requires
select_rows-requires g c = record { no_returning_clause = plain }

first_of : (rows : List TradeRow) → slice_get (map (λ (r : TradeRow). r.id) (take 1 rows)) 0 ≡ option_map (λ (r : TradeRow). r.id) (slice_get rows 0)
first_of [] = refl
first_of (r ∷ rows) = refl

as_it_is : (o : Option ℕ) → option_map (λ (n : ℕ). n) o ≡ o
as_it_is None = refl
as_it_is (Some n) = refl

pub returns-clause-step : goal.returns-clause-step
returns-clause-step g c =
    let old = state g.S.Store c.args.tx.now.conn.now in
    let new = state g.S.Store c.select_rows.new.tx.conn.now in
    step_weaker old new c.decode_first_row.result _ _ (λ o looks. (looks.0, looks.1, λ t tree h. rw (as_it_is o) at (looks.2 t tree h)))
    (look_first desk_tables id_cells id_back id_is_back (λ (n : ℕ). n) LastTradeId.statement [] old new c.in_ok-rows.rows (λ rows. rows.items) _ c.deref.ensures.value c.in_ok-rows.ensures.step
    c.decode_first_row.result c.decode_first_row.ensures.value (λ (t : Tables). map (λ (r : TradeRow). r.id) (take 1 (reverse t.trades)))
    (λ (t : Tables). option_map (λ (r : TradeRow). r.id) (slice_get (reverse t.trades) 0)) (λ t. first_of (reverse t.trades)) (tells_last_id old new _))
