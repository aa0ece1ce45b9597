-- The three text updates, which have only their name from Trade-Update: each changes one text
-- column of selected trades.
use Rattle.std.specs.Prelude.{ℕ, Bool, ◌&&◌, ◌==◌, if◌then◌else◌, List, map, filter, take, codes, bytes_eq}
use Rattle.brk_money.specs.Spelling.{Text}
use Rattle.brk_model.specs.Limits.{is_in_range}
use Rattle.brk_model.specs.Lists.{sort_by, is_pair_less, contains_number, contains_text, replace_text}
use Rattle.brk_model.specs.Records.{Trade}
use Rattle.brk_model.specs.Base.{Base, last_status_stamp_of_trade, completed_trades, base_with_updated_trades}
use Rattle.brk_model.specs.Results.{cash_row_name}

-- The updated executor name: if `name` contains " X ", each occurrence of it, taken from the left
-- without overlap, becomes a space; otherwise each space becomes " X ".
abbrev pub updated_executor_name : Text → Text
updated_executor_name name =
    if contains_text (codes " X ") name then replace_text (codes " X ") (codes " ") name else replace_text (codes " ") (codes " X ") name

-- The text `other` if `text` equals `word`, otherwise `word`.
abbrev pub toggled_word : Text → Text → Text → Text
toggled_word word other text = if bytes_eq text word then other else word

-- The updated cash type of the trade `t` (SE_CASH_TYPE), by `toggled_word`: of `Cash Account` and
-- `Cash` for a cash trade, of `Margin Account` and `Margin` for a margin trade.
abbrev pub updated_cash_type : Trade → Text
updated_cash_type t =
    if t.is_cash then toggled_word (codes "Cash Account") (codes "Cash") t.cash_type
    else toggled_word (codes "Margin Account") (codes "Margin") t.cash_type

-- The updated name of the cash row of the trade `t` (CM_NAME), computed anew (`cash_row_name`):
-- with " Shares of " if the old one contains " shares of ", otherwise with " shares of ".
abbrev pub updated_cash_row_name : Base → Trade → Text
updated_cash_row_name base t =
    if contains_text (codes " shares of ") t.cash_name then cash_row_name (codes " Shares of ") base t else cash_row_name (codes " shares of ") base t

-- The trades sorted by the stamp of the last status change (0 without one), then by id, ascending.
abbrev pub trades_oldest_first : List Trade → List Trade
trades_oldest_first trades = sort_by (λ t u. is_pair_less (last_status_stamp_of_trade t) (last_status_stamp_of_trade u) t.id u.id) trades

-- True if the last status stamp of `t`, 0 without one, is from `first` to `last`, both included.
abbrev pub trade_stamp_is_between : ℕ → ℕ → Trade → Bool
trade_stamp_is_between first last t = is_in_range first last (last_status_stamp_of_trade t)

-- The ids of the completed trades of `base` that pass `test` and have a last status stamp from
-- `first` to `last`, both included, sorted by `trades_oldest_first`; at most the first 20.
abbrev pub selected_trade_ids : Base → (Trade → Bool) → ℕ → ℕ → List ℕ
selected_trade_ids base test first last =
    map (λ t. t.id) (take 20 (trades_oldest_first (filter (λ t. test t && trade_stamp_is_between first last t) (completed_trades base))))

-- The ids that `ChangeCashTypes` updates: the `selected_trade_ids` among the account's trades.
abbrev pub selected_trade_ids_of_account : Base → ℕ → ℕ → ℕ → List ℕ
selected_trade_ids_of_account base account first last = selected_trade_ids base (λ t. t.account == account) first last

-- The ids that `ChangeCashNames` updates: the `selected_trade_ids` among the symbol's cash trades.
abbrev pub selected_trade_ids_of_symbol : Base → Text → ℕ → ℕ → List ℕ
selected_trade_ids_of_symbol base symbol first last = selected_trade_ids base (λ t. t.is_cash && bytes_eq t.symbol symbol) first last

-- The base `base` with `change` applied to each trade whose id is in `ids`.
abbrev pub base_with_trades_updated_by_id : List ℕ → (Trade → Trade) → Base → Base
base_with_trades_updated_by_id ids change base = base_with_updated_trades (λ t. contains_number t.id ids) change base

-- The base `base` with the executor name updated in each trade whose id is in `ids`.
abbrev pub base_with_updated_executors : List ℕ → Base → Base
base_with_updated_executors ids base = base_with_trades_updated_by_id ids (λ t. record t { executor = updated_executor_name t.executor }) base

-- The base `base` with the cash type updated in each trade whose id is in `ids`.
abbrev pub base_with_updated_cash_types : List ℕ → Base → Base
base_with_updated_cash_types ids base = base_with_trades_updated_by_id ids (λ t. record t { cash_type = updated_cash_type t }) base

-- The base `base` with the cash row name updated in each trade whose id is in `ids`.
abbrev pub base_with_updated_cash_names : List ℕ → Base → Base
base_with_updated_cash_names ids base = base_with_trades_updated_by_id ids (λ t. record t { cash_name = updated_cash_row_name base t }) base
