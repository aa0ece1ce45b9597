-- The results of the reads of CASH_MOVE and SETTLE_RULE.
use Rattle.std.proofs.Common.{◌≡◌, ◌==◌, ℕ, List, [], ◌∷◌, Option, Some, None, true, map, filter, drop, take, is_none, reverse, refl, ap, ◌∙◌}
use Rattle.std.proofs.lemmas.Cmp.{back_total}
use Rattle.std.proofs.lemmas.List.{drop-map}
use Rattle.sqlite_value.specs.declared.value.Value.TheVariants.{Null}
use Rattle.sqlite_value.specs.declared.keys.Collation.TheVariants.{Binary}
use Rattle.sqlite_sql.specs.declared.ops.BinaryOp.TheVariants.{Is}
use Rattle.sqlite_sql.specs.Ops.{binary, is_true}
use Rattle.sqlite_value.specs.Order.{Row, value_cmp}
use Rattle.sqlite.specs.State.{State, Shown}
use Rattle.brk_model.specs.LookupView.{is_cash_row_of_trade}
use Rattle.brk_model.specs.Keys.{cash_move_key}
use Rattle.brk_model.specs.Tables.{CashRow}
use Rattle.brk_tables_sql.specs.Desk.{TablesSatisfy}
use Rattle.brk_tables_sql.proofs.Answer.{limited_map}
use Rattle.brk_tables_sql.proofs.Decode.{filter_true}
use Rattle.brk_tables_sql.proofs.Told.{told_rising, told_falling}
use Rattle.brk_tables_schema.specs.Cells.{natural_as_value, optional_natural_as_value, move_cells, rule_cells}
use Rattle.brk_tables_schema.specs.Desk.{CashMoves, SettleRules, desk_tables, ordering_by_primary_key, rule_key, rule_rows}
use Rattle.brk_tables_schema.proofs.Order.{key_total}
use Rattle.brk_tables_schema.proofs.Tests.{same_maybe, same_number}
use Rattle.brk_tables_cash.proofs.LastMove
use Rattle.brk_tables_cash.proofs.MoveById
use Rattle.brk_tables_cash.proofs.MovesById
use Rattle.brk_tables_cash.proofs.MoveByTrade
use Rattle.brk_tables_cash.proofs.MovementBehind
use Rattle.brk_tables_cash.proofs.RuleRows

pub tells_last_move : (old new : State) (rows : List Row) → Shown LastMove.statement [] old new rows → TablesSatisfy desk_tables (λ t. rows ≡ map move_cells (take 1 (reverse t.moves))) old.now
tells_last_move old new rows shown = λ t tree h.
    told_falling desk_tables CashMoves LastMove.statement LastMove.ask LastMove.paging LastMove.is_asked []
    (λ _. true) (λ tree x. refl)
    move_cells (λ x. refl) (λ x y. ordering_by_primary_key CashMoves y x) (back_total (key_total cash_move_key)) (λ tree x y. refl) old new rows shown (λ x y. refl) t tree h
    ∙ ap (λ xs. take 1 (map move_cells (reverse xs))) (filter_true t.moves) ∙ limited_map move_cells (Some 1) (reverse t.moves)

pub tells_move_by_id : (old new : State) (id : ℕ) (rows : List Row) → Shown MoveById.statement (natural_as_value id ∷ []) old new rows
    → TablesSatisfy desk_tables (λ t. rows ≡ map move_cells (filter (λ r. r.id == id) t.moves)) old.now
tells_move_by_id old new id rows shown =
    told_rising desk_tables CashMoves MoveById.statement MoveById.ask MoveById.paging MoveById.is_asked (natural_as_value id ∷ [])
    (λ (r : CashRow). r.id == id) (λ tree x. same_number x.id id)
    move_cells (λ x. refl) (ordering_by_primary_key CashMoves) (key_total cash_move_key) (λ tree x y. refl) old new rows shown (λ x y. refl)

pub tells_moves : (old new : State) (rows : List Row) → Shown MovesById.statement [] old new rows → TablesSatisfy desk_tables (λ t. rows ≡ map move_cells t.moves) old.now
tells_moves old new rows shown = λ t tree h.
    told_rising desk_tables CashMoves MovesById.statement MovesById.ask MovesById.paging MovesById.is_asked []
    (λ _. true) (λ tree x. refl)
    move_cells (λ x. refl) (ordering_by_primary_key CashMoves) (key_total cash_move_key) (λ tree x y. refl) old new rows shown (λ x y. refl) t tree h
    ∙ ap (map move_cells) (filter_true t.moves)

pub tells_move : (old new : State) (trade : ℕ) (rows : List Row) → Shown MoveByTrade.statement (natural_as_value trade ∷ []) old new rows
    → TablesSatisfy desk_tables (λ t. rows ≡ map move_cells (filter (is_cash_row_of_trade trade) t.moves)) old.now
tells_move old new trade rows shown =
    told_rising desk_tables CashMoves MoveByTrade.statement MoveByTrade.ask MoveByTrade.paging MoveByTrade.is_asked (natural_as_value trade ∷ [])
    (is_cash_row_of_trade trade) (λ tree x. same_maybe x.trade trade)
    move_cells (λ x. refl) (ordering_by_primary_key CashMoves) (key_total cash_move_key) (λ tree x y. refl) old new rows shown (λ x y. refl)

-- whether a column that may be null is
null_or : (o : Option ℕ) → is_true (binary (Is Binary) (optional_natural_as_value o) Null) ≡ is_none o
unfolding binary value_cmp lib.Ieee.is_nan lib.Ieee.lt
null_or None = refl
null_or (Some n) = refl

-- the movements behind so many, one at most
pub tells_movement : (old new : State) (skipped : ℕ) (rows : List Row) → Shown MovementBehind.statement (natural_as_value skipped ∷ []) old new rows
    → TablesSatisfy desk_tables (λ t. rows ≡ map move_cells (take 1 (drop skipped (filter (λ r. is_none r.trade) t.moves)))) old.now
tells_movement old new skipped rows shown = λ t tree h.
    told_rising desk_tables CashMoves MovementBehind.statement MovementBehind.ask MovementBehind.paging MovementBehind.is_asked (natural_as_value skipped ∷ [])
    (λ r. is_none r.trade) (λ tree x. null_or x.trade)
    move_cells (λ x. refl) (ordering_by_primary_key CashMoves) (key_total cash_move_key) (λ tree x y. refl) old new rows shown (λ x y. refl) t tree h
    ∙ ap (take 1) (drop-map move_cells skipped (filter (λ r. is_none r.trade) t.moves)) ∙ limited_map move_cells (Some 1) (drop skipped (filter (λ r. is_none r.trade) t.moves))

pub tells_rule : (old new : State) (rows : List Row) → Shown RuleRows.statement [] old new rows → TablesSatisfy desk_tables (λ t. rows ≡ map rule_cells (rule_rows t.rule)) old.now
tells_rule old new rows shown = λ t tree h.
    told_rising desk_tables SettleRules RuleRows.statement RuleRows.ask RuleRows.paging RuleRows.is_asked []
    (λ _. true) (λ tree x. refl)
    rule_cells (λ x. refl) (ordering_by_primary_key SettleRules) (key_total rule_key) (λ tree x y. refl) old new rows shown (λ x y. refl) t tree h
    ∙ ap (map rule_cells) (filter_true (rule_rows t.rule))
