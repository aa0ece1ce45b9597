-- The audit condition `Status`: status sequences of trades, stamps of completions and movements.
use Rattle.std.specs.Prelude.{ℕ, Bool, true, false, ◌&&◌, ◌==◌, nat_lt, List, [], ◌∷◌, ◌++◌, map, filter, is_none}
use Rattle.std.specs.List.{list_all}
use Rattle.brk_money.specs.Kinds.{is_same_trade_status}
use Rattle.brk_money.specs.declared.status.Status.{Status}
use Rattle.brk_money.specs.declared.status.Status.TheVariants.{Completed, Submitted, Pending, Canceled}
use Rattle.brk_model.specs.Lists.{all_distinct}
use Rattle.brk_model.specs.Records.{StatusChange}
use Rattle.brk_model.specs.Tables.{Tables, TradeRow}
use Rattle.brk_model.specs.Adopted.{status_changes_of_trade}

-- True if the statuses are one of the six valid sequences: `Pending` or `Submitted` first,
-- `Submitted` or `Canceled` after `Pending`, `Completed` after `Submitted`.
abbrev pub is_valid_status_sequence : List Status → Bool
is_valid_status_sequence (Submitted ∷ []) = true
is_valid_status_sequence (Submitted ∷ Completed ∷ []) = true
is_valid_status_sequence (Pending ∷ []) = true
is_valid_status_sequence (Pending ∷ Canceled ∷ []) = true
is_valid_status_sequence (Pending ∷ Submitted ∷ []) = true
is_valid_status_sequence (Pending ∷ Submitted ∷ Completed ∷ []) = true
is_valid_status_sequence _ = false

-- True if the numbers are strictly ascending. A list of fewer than two always is.
abbrev pub is_strictly_ascending : List ℕ → Bool
is_strictly_ascending [] = true
is_strictly_ascending (m ∷ []) = true
is_strictly_ascending (m ∷ n ∷ ns) = nat_lt m n && is_strictly_ascending (n ∷ ns)

-- True if the TRADE row has the status and the stamp of the last status change, which must exist.
abbrev pub matches_last_status_change : TradeRow → List StatusChange → Bool
matches_last_status_change row [] = false
matches_last_status_change row (m ∷ []) = is_same_trade_status row.status m.status && (row.stamp == m.stamp)
matches_last_status_change row (m ∷ n ∷ marks) = matches_last_status_change row (n ∷ marks)

-- True if the trade of `row` has a valid status sequence in TRADE_HISTORY, with strictly ascending
-- stamps, and the row has the status and the stamp of the last status change.
abbrev pub has_valid_status_history : Tables → TradeRow → Bool
has_valid_status_history t row =
    is_valid_status_sequence (map (λ m. m.status) (status_changes_of_trade t row.id))
    && is_strictly_ascending (map (λ m. m.stamp) (status_changes_of_trade t row.id))
    && matches_last_status_change row (status_changes_of_trade t row.id)

-- The stamps of the TRADE_HISTORY rows with the status `Completed`.
abbrev pub completion_stamps : Tables → List ℕ
completion_stamps t = map (λ h. h.stamp) (filter (λ h. is_same_trade_status h.status Completed) t.history)

-- The stamps of the movements, which are the CASH_MOVE rows without a trade.
abbrev pub movement_stamps : Tables → List ℕ
movement_stamps t = map (λ r. r.stamp) (filter (λ r. is_none r.trade) t.moves)

-- True if the tables `t` satisfy the condition `Status`: every trade passes
-- `has_valid_status_history`, and the stamps of all completions and movements are distinct.
unfoldable pub satisfies_status_condition : Tables → Bool
satisfies_status_condition t = list_all (has_valid_status_history t) t.trades && all_distinct (completion_stamps t ++ movement_stamps t)
