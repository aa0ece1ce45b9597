use Rattle.std.proofs.Common.{◌≡◌, ℕ, List, [], ◌∷◌, Option, Some, None, option_map, map, filter, find, slice_get, ◌==◌, refl, ap, ◌∙◌, inl, inr}
use Rattle.std.proofs.lemmas.Bool.{cases_Bool}
use Rattle.sqlite_value.specs.Order.{Row, column}
use Rattle.sqlite.specs.Held.{state}
use Rattle.brk_model.specs.Joins.{trade_row_with_id}
use Rattle.brk_model.specs.Tables.{Tables, TradeRow}
use Rattle.brk_tables_sql.proofs.Answer.{look_first}
use Rattle.brk_tables_sql.proofs.Inside.{step_weaker}
use Rattle.brk_tables_schema.specs.Cells.{natural_as_value}
use Rattle.brk_tables_schema.specs.Desk.{desk_tables}
use Rattle.brk_tables_schema.proofs.Back.{number_in}
use Rattle.brk_tables_cash.proofs.AccountOfTrade
use Rattle.brk_tables_cash.proofs.AccountOfTrade.{plain}
use Rattle.brk_tables_cash.proofs.Telling.{account_cells, tells_account}
use Rattle.brk_tables_cash.proofs.upgrade_reads.account_id_of_trade.Goals as goal

pub select_rows-requires : goal.select_rows-requires
select_rows-requires g c = record { no_returning_clause = plain }

abbrev id_cells : ℕ → Row
id_cells n = natural_as_value n ∷ []

abbrev id_back : Row → ℕ
id_back r = number_in (column r 0)

as_it_is : (o : Option ℕ) → option_map (λ (n : ℕ). n) o ≡ o
as_it_is None = refl
as_it_is (Some n) = refl

-- the account of the first
first_of : (trade : ℕ) (rows : List TradeRow)
    → slice_get (map (λ (r : TradeRow). r.account) (filter (λ r. r.id == trade) rows)) 0
    ≡ option_map (λ (r : TradeRow). r.account) (find (λ r. r.id == trade) rows)
first_of trade [] = refl
first_of trade (r ∷ rows) = elim (cases_Bool (r.id == trade)) [ inl e ↦ rw e refl | inr e ↦ rw e (first_of trade rows) ]

twice : (xs : List TradeRow) → map account_cells xs ≡ map id_cells (map (λ (r : TradeRow). r.account) xs)
twice [] = refl
twice (x ∷ xs) = ap (λ l. id_cells x.account ∷ l) (twice xs)

pub returns-clause-step : goal.returns-clause-step
returns-clause-step g c =
    let old = state g.S.Store c.args.tx.now.conn.now in
    let new = state g.S.Store c.select_rows.new.tx.conn.now in
    let trade = c.args.trade in
    step_weaker old new c.decode_first_row.result _ _ (λ o looks. (looks.0, looks.1, λ t tree h. rw (as_it_is o) at (looks.2 t tree h)))
    (look_first desk_tables id_cells id_back (λ n. refl) (λ (n : ℕ). n) AccountOfTrade.statement (natural_as_value trade ∷ []) old new c.in_ok-rows.rows
    (λ rows. rows.items) _ c.deref.ensures.value (rw (c.id_param.ensures) at c.in_ok-rows.ensures.step)
    c.decode_first_row.result c.decode_first_row.ensures.value
    (λ (t : Tables). map (λ (r : TradeRow). r.account) (filter (λ (r : TradeRow). r.id == trade) t.trades))
    (λ (t : Tables). option_map (λ (r : TradeRow). r.account) (trade_row_with_id t trade)) (λ t. first_of trade t.trades)
    (λ shown t tree h. tells_account old new trade _ shown t tree h ∙ twice (filter (λ (r : TradeRow). r.id == trade) t.trades)))
