-- The history rows of a trade, sorted by the codes of their statuses, and the check that they are a
-- valid status sequence.
use Rattle.std.specs.Prelude.{ℕ, ◌==◌, Bool, true, false, ◌&&◌, nat_lt, List, [], ◌∷◌, take, drop, map, filter, is_none}
use Rattle.std.specs.List.{prefix_len}
use Rattle.brk_money.specs.Kinds.{is_same_trade_status}
use Rattle.brk_money.specs.declared.status.Status.{Status}
use Rattle.brk_money.specs.declared.status.Status.TheVariants.{Completed, Active, Submitted, Pending, Canceled}
use Rattle.brk_model.specs.Tables.{HistoryRow, CashRow, TradeRow}

-- True if the history of a trade can begin with the status: `Submitted` or `Pending`.
abbrev pub can_be_first_status : Status → Bool
can_be_first_status Completed = false
can_be_first_status Active = false
can_be_first_status Submitted = true
can_be_first_status Pending = true
can_be_first_status Canceled = false

-- True if the row `r` of TRADE has the status and the stamp of the row `h` of TRADE_HISTORY.
abbrev pub has_last_change : TradeRow → HistoryRow → Bool
has_last_change r h = is_same_trade_status r.status h.status && (r.stamp == h.stamp)

-- `first` if the two statuses are sorted by code and the second, then the first, is a valid status
-- sequence; `second` if they are sorted and the first, then the second, is one; otherwise false.
abbrev pub value_by_last_of_two_valid_statuses : Status → Status → Bool → Bool → Bool
value_by_last_of_two_valid_statuses Completed Submitted first second = first
value_by_last_of_two_valid_statuses Canceled Pending first second = first
value_by_last_of_two_valid_statuses Pending Submitted first second = second
value_by_last_of_two_valid_statuses _ _ first second = false

-- True if the history rows `a` and `b` are sorted by status code and a valid status sequence by
-- strictly ascending stamps, and the row `r` of TRADE has the last one's status and stamp.
abbrev pub is_valid_pair : TradeRow → HistoryRow → HistoryRow → Bool
is_valid_pair r a b =
    value_by_last_of_two_valid_statuses a.status b.status (nat_lt b.stamp a.stamp && has_last_change r a) (nat_lt a.stamp b.stamp
    && has_last_change r b)

-- `told` if the statuses, sorted by code, are in some order a valid sequence; otherwise false.
abbrev pub value_if_three_statuses_are_valid : Status → Status → Status → Bool → Bool
value_if_three_statuses_are_valid Completed Pending Submitted told = told
value_if_three_statuses_are_valid _ _ _ told = false

-- True if the history rows `a`, `b` and `c` are sorted by status code and a valid status sequence
-- by strictly ascending stamps, and the row `r` of TRADE has the last one's status and stamp.
abbrev pub is_valid_triple : TradeRow → HistoryRow → HistoryRow → HistoryRow → Bool
is_valid_triple r a b c =
    value_if_three_statuses_are_valid a.status b.status c.status (nat_lt b.stamp c.stamp && nat_lt c.stamp a.stamp && has_last_change r a)

-- True if the history rows are sorted by status code and a valid status sequence by strictly
-- ascending stamps, and the row `r` of TRADE has the last status and stamp. False without rows.
abbrev pub is_valid_history : TradeRow → List HistoryRow → Bool
is_valid_history r [] = false
is_valid_history r (h ∷ []) = can_be_first_status h.status && has_last_change r h
is_valid_history r (a ∷ b ∷ []) = is_valid_pair r a b
is_valid_history r (a ∷ b ∷ c ∷ []) = is_valid_triple r a b c
is_valid_history r (a ∷ b ∷ c ∷ d ∷ hs) = false

-- True if the list has the history rows of the first trade, then those of the second, and so on,
-- each a valid history (`is_valid_history`). Later rows are not checked. True without trades.
abbrev pub all_histories_are_valid : List TradeRow → List HistoryRow → Bool
all_histories_are_valid [] hs = true
all_histories_are_valid (r ∷ rs) hs =
    is_valid_history r (take (prefix_len (λ h. h.trade == r.id) hs) hs) && all_histories_are_valid rs (drop (prefix_len (λ h. h.trade == r.id) hs) hs)

-- The stamps of the history rows with the status `Completed`, in the order of the rows.
abbrev pub completion_stamps_of_history : List HistoryRow → List ℕ
completion_stamps_of_history hs = map (λ h. h.stamp) (filter (λ h. is_same_trade_status h.status Completed) hs)

-- The stamps of the rows of CASH_MOVE without a trade (deposits and withdrawals), in order.
abbrev pub movement_stamps_of_cash_rows : List CashRow → List ℕ
movement_stamps_of_cash_rows rows = map (λ r. r.stamp) (filter (λ r. is_none r.trade) rows)
