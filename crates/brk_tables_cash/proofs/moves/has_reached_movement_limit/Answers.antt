use Rattle.std.proofs.Common.{◌≡◌, ◌∙◌, ◌==◌, ◌+◌, ◌-◌, ℕ, Ok, List, [], ◌∷◌, drop, filter, is_none, length, nat_le, not, take, ap, sym, arith, rules}
use Rattle.std.proofs.lemmas.Bool.Decides.{nat_tests}
use Rattle.std.proofs.lemmas.List.{length-drop, length-map}
use Rattle.sqlite.specs.Held.{state}
use Rattle.brk_model.specs.Limits.{greatest_id}
use Rattle.brk_model.specs.Tables.{CashRow}
use Rattle.brk_tables_sql.specs.Model.{IsUnchangedAndSatisfies, SelectsRows}
use Rattle.brk_tables_sql.proofs.Inside.{step_read}
use Rattle.brk_tables_schema.specs.Cells.{natural_as_value, move_cells}
use Rattle.brk_tables_schema.specs.Desk.{desk_tables}
use Rattle.brk_tables_cash.proofs.MovementBehind
use Rattle.brk_tables_cash.proofs.MovementBehind.{plain}
use Rattle.brk_tables_cash.proofs.CashReads.{tells_movement}
use Rattle.brk_tables_cash.proofs.moves.has_reached_movement_limit.Goals as goal

pub select_rows-requires : goal.select_rows-requires
select_rows-requires g c = record { no_returning_clause = plain }

-- there is one behind so many just where there are more
one_behind : {X : Type 0} (n : ℕ) (xs : List X) → not (length (take 1 (drop n xs)) == 0) ≡ nat_le (n + 1) (length xs)
one_behind {X} n xs = go (drop n xs) (length-drop n xs)
  where
    go : (ys : List X) → length ys ≡ length xs - n → not (length (take 1 ys) == 0) ≡ nat_le (n + 1) (length xs)
    go [] e = grind (arith, nat_tests)
    go (y ∷ ys) e = grind (arith, nat_tests)

pub returns-clause-step : goal.returns-clause-step
returns-clause-step g c =
    let old = state g.S.Store c.args.tx.now.conn.now in
    let new = state g.S.Store c.select_rows.new.tx.conn.now in
    let rows = c.in_ok-rows.rows in
    step_read old new rows (Ok (not c.is_empty.result)) (λ shown. SelectsRows MovementBehind.statement (natural_as_value 999999999999 ∷ []) shown.items)
    (λ all. IsUnchangedAndSatisfies desk_tables (λ t. all ≡ nat_le greatest_id (length (filter (λ (r : CashRow). is_none r.trade) t.moves))))
    (λ all is s.
    let told : not c.is_empty.result ≡ all = cc in (
      s.2,
      s.1,
      λ t tree h.
          let movements = filter (λ (r : CashRow). is_none r.trade) t.moves in
          let many : length rows.items ≡ length (take 1 (drop 999999999999 movements)) = ap length (tells_movement old new 999999999999 rows.items s.0 t tree h)
          ∙ length-map (take 1 (drop 999999999999 movements)) move_cells in
          let none : c.is_empty.result ≡ (length rows.items == 0) = search rules in
          sym told ∙ ap not (none ∙ ap (λ n. n == 0) many) ∙ one_behind 999999999999 movements,
    ))
    (rw c.integer_param.ensures at c.in_ok-rows.ensures.step)
