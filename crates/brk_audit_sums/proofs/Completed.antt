-- If the condition `Status` holds, a trade's row alone determines whether the trade is completed or
-- pending, and since when.
use Rattle.std.proofs.Common.{◌≡◌, ◌++◌, true, false, sym, ◌∙◌, ap, map}
use Rattle.std.specs.List.{AllByRecursion, list_all}
use Rattle.std.specs.Option.{option_map_or}
use Rattle.std.proofs.lemmas.Bool.{and_parts}
use Rattle.brk_money.specs.Kinds.{is_same_trade_status}
use Rattle.brk_money.specs.declared.status.Status.{Status}
use Rattle.brk_money.specs.declared.status.Status.TheVariants.{Completed, Pending}
use Rattle.brk_model.specs.Lists.{all_distinct}
use Rattle.brk_model.specs.Base.{completed_trades, has_last_status, is_completed, last_status_stamp_of_trade}
use Rattle.brk_model.specs.Derived.{pending_trades}
use Rattle.brk_model.specs.Tables.{Tables, TradeRow}
use Rattle.brk_model.specs.Adopted.{base_of_tables, trade_of_row}
use Rattle.brk_model.specs.Ways.{completion_stamps, movement_stamps, satisfies_status_condition, has_valid_status_history}
use Rattle.brk_trade_books.proofs.Same.{All-map, All-filter, filter-same}
use Rattle.brk_audit_theorems.proofs.Climbs.{list_all_true}
use Rattle.brk_audit_theorems.proofs.Marks.{Lasts, lasts, same_statuses}
use Rattle.brk_audit_theorems.proofs.AdoptedBooks.{filter-map}
use Rattle.brk_audit_sums.specs.Completed.{is_completed_trade_row, is_pending_trade_row}
use Rattle.brk_audit_sums.proofs.Sums.{completed_trade_rows, pending_trade_rows}

-- each trade's statuses are right
pub right_rows : (t : Tables) → satisfies_status_condition t ≡ true → AllByRecursion (λ r. has_valid_status_history t r ≡ true) t.trades
unfolding satisfies_status_condition
right_rows t s = list_all_true (has_valid_status_history t) t.trades (and_parts (list_all (has_valid_status_history t) t.trades) (all_distinct (completion_stamps t ++ movement_stamps t)) s).0

-- no two completions or movements are at one stamp
pub stamps_apart : (t : Tables) → satisfies_status_condition t ≡ true → all_distinct (completion_stamps t ++ movement_stamps t) ≡ true
unfolding satisfies_status_condition
stamps_apart t s = (and_parts (list_all (has_valid_status_history t) t.trades) (all_distinct (completion_stamps t ++ movement_stamps t)) s).1

-- a trade's last status is that of its row
pub row_status : (t : Tables) (r : TradeRow) (status : Status) → has_valid_status_history t r ≡ true → has_last_status status (trade_of_row t r) ≡ is_same_trade_status r.status status
row_status t r status e =
    let l : Lasts t r = lasts t r e in
    ap (λ o. option_map_or (λ m. is_same_trade_status m.status status) o false) l.is ∙ ap (λ s. is_same_trade_status s status) (sym (same_statuses r.status l.mark.status l.status))

-- and it was completed at the stamp of its row
pub row_moment : (t : Tables) (r : TradeRow) → has_valid_status_history t r ≡ true → last_status_stamp_of_trade (trade_of_row t r) ≡ r.stamp
row_moment t r e = let l : Lasts t r = lasts t r e in ap (λ o. option_map_or (λ m. m.stamp) o 0) l.is ∙ sym l.stamp

-- the completed trades of the base are the rows that say that they are completed
pub completed_rows : (t : Tables) → satisfies_status_condition t ≡ true → completed_trades (base_of_tables t) ≡ map (trade_of_row t) (completed_trade_rows t)
unfolding base_of_tables
completed_rows t s =
    filter-map is_completed (trade_of_row t) t.trades
    ∙ ap (map (trade_of_row t)) (filter-same (λ r. is_completed (trade_of_row t r)) is_completed_trade_row t.trades (All-map t.trades (λ r e. row_status t r Completed e) (right_rows t s)))

-- and those that wait are the rows that say that they wait
pub pending_rows : (t : Tables) → satisfies_status_condition t ≡ true → pending_trades (base_of_tables t).trades ≡ map (trade_of_row t) (pending_trade_rows t)
unfolding base_of_tables
pending_rows t s =
    filter-map (has_last_status Pending) (trade_of_row t) t.trades
    ∙ ap (map (trade_of_row t)) (filter-same (λ r. has_last_status Pending (trade_of_row t r)) is_pending_trade_row t.trades (All-map t.trades (λ r e. row_status t r Pending e) (right_rows t s)))

-- each completed trade was completed at the stamp of its row
pub done_moments : (t : Tables) → satisfies_status_condition t ≡ true → AllByRecursion (λ r. last_status_stamp_of_trade (trade_of_row t r) ≡ r.stamp) (completed_trade_rows t)
done_moments t s = All-map (completed_trade_rows t) (row_moment t) (All-filter (λ r. has_valid_status_history t r ≡ true) is_completed_trade_row t.trades (right_rows t s))
