-- The result of the statement of a walk over completed trades.
use Rattle.std.proofs.Common.{◌≡◌, ◌∙◌, List, [], ◌∷◌, ◌++◌, IsTrue, map, filter, refl, sym, ap}
use Rattle.std.specs.Prelude.{bytes_eq}
use Rattle.sqlite_value.specs.declared.value.Value.TheVariants.{Text as Words}
use Rattle.sqlite_value.specs.Order.{Row, value_cmp}
use Rattle.sqlite.specs.State.{State, Shown, Begins}
use Rattle.brk_money.specs.Kinds.{is_same_trade_status, trade_status_code}
use Rattle.brk_money.specs.declared.status.Status.{Status}
use Rattle.brk_money.specs.declared.status.Status.TheVariants.{Completed, Active, Submitted, Pending, Canceled}
use Rattle.brk_model.specs.Tables.{TradeRow}
use Rattle.brk_tables_sql.specs.Desk.{TablesSatisfy}
use Rattle.brk_tables_sql.proofs.Told.{told_sorted}
use Rattle.brk_tables_schema.specs.Cells.{natural_as_value, trade_cells}
use Rattle.brk_tables_schema.specs.Desk.{Trades, desk_tables}
use Rattle.brk_tables_schema.specs.Order.{ordering_by_key}
use Rattle.brk_tables_schema.proofs.Order.{key_total}
use Rattle.brk_tables_schema.proofs.Tests.{same_text}
use Rattle.brk_tables_views.specs.Lists.{completed_trades_by_stamp_and_id, stamp_and_id_key}
use Rattle.brk_tables_views.proofs.CompletedByAge
use Rattle.brk_tables_views.proofs.Starts.{tells_start}
use Rattle.brk_tables_views.proofs.Telling.{second, sorted}

-- a code is that of what is completed where the status is
is_done : (s : Status) → bytes_eq (trade_status_code s) (trade_status_code Completed) ≡ is_same_trade_status s Completed
is_done Completed = refl
is_done Active = refl
is_done Submitted = refl
is_done Pending = refl
is_done Canceled = refl

pub tells_completed_by_age : (old new : State) (rows : List Row) → Shown CompletedByAge.statement (Words (trade_status_code Completed) ∷ []) old new rows
    → TablesSatisfy desk_tables (λ t. rows ≡ map trade_cells (completed_trades_by_stamp_and_id t)) old.now
tells_completed_by_age old new rows shown = λ t tree h.
    told_sorted desk_tables Trades CompletedByAge.statement CompletedByAge.ask CompletedByAge.paging CompletedByAge.is_asked (Words (trade_status_code Completed) ∷ [])
    (λ (r : TradeRow). is_same_trade_status r.status Completed) (λ tree x. rw (same_text (trade_status_code x.status) (trade_status_code Completed), is_done x.status) refl)
    trade_cells (λ x. refl) (ordering_by_key stamp_and_id_key) (key_total stamp_and_id_key) (λ tree x y. refl) old new rows shown (λ x y e. second (value_cmp (natural_as_value x.stamp) (natural_as_value y.stamp)) _ e) t tree h
    ∙ ap (map trade_cells) (sym (sorted stamp_and_id_key (filter (λ (r : TradeRow). is_same_trade_status r.status Completed) t.trades)))

pub completed_start : (s : State) (rows : List Row) → IsTrue s.is_open → Begins CompletedByAge.statement (Words (trade_status_code Completed) ∷ []) s rows
    → TablesSatisfy desk_tables (λ t. (tail : List Row) × (rows ++ tail ≡ map trade_cells (completed_trades_by_stamp_and_id t))) s.now
completed_start s rows up begins =
    tells_start desk_tables Trades CompletedByAge.statement CompletedByAge.ask CompletedByAge.paging CompletedByAge.is_asked (Words (trade_status_code Completed) ∷ []) s rows begins up
    (λ t all. all ≡ map trade_cells (completed_trades_by_stamp_and_id t)) (λ all. tells_completed_by_age s s all)
