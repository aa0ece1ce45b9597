-- The preconditions of planning a text update, and the rows and columns that it does not change.
use Rattle.std.specs.Prelude.{◌≡◌, ◌≤◌, ℕ, ◌==◌, true, false, is_none, List, [], find, map, Option, Some, option_map, MatchOption, Bool, string_bytes}
use Rattle.std.specs.List.{list_any}
use Rattle.brk_money.specs.Moments.{greatest_stamp}
use Rattle.brk_money.specs.Spelling.{Text}
use Rattle.brk_money.specs.declared.trade_type.TradeType.{TradeType}
use Rattle.brk_model.specs.Base.{Base}
use Rattle.brk_model.specs.Commands.{Command}
use Rattle.brk_model.specs.Joins.{account_row_with_id, security_row_with_symbol, trade_row_with_id}
use Rattle.brk_model.specs.Sheets.{sheets}
use Rattle.brk_model.specs.LookupView.{is_cash_row_of_trade}
use Rattle.brk_model.specs.Tables.{CashRow, SettlementRow, Tables, TradeRow}
use Rattle.brk_model.specs.Tests.{stamp_of_next_command}
use Rattle.brk_ref_orders.specs.declared.update.Update as told
use Rattle.brk_ref_orders.specs.declared.update.Update.TheVariants as update
use Rattle.brk_trade_rows.specs.Changes.{tables_with_last_stamp}
use Rattle.brk_trade_rows.specs.Chosen.{first_twenty_completed_cash_trade_rows_of_symbol, first_twenty_completed_trade_rows_of_account}
use Rattle.brk_ref.specs.Rows.{cash_type_text}
use Rattle.brk_trade_plans.specs.declared.corrected.TextUpdate.{TextUpdate}
use Rattle.brk_trade_plans.specs.declared.corrected.TextUpdate.TheVariants as corrected
use Rattle.brk_trade_plans.specs.declared.corrected.CashText.{CashText}
use Rattle.brk_trade_plans.specs.declared.corrected.SettlementText.{SettlementText}
use Rattle.brk_trade_books.specs.Books.{BooksInvariant}
use Rattle.brk_trade_books.specs.Steps.{base_after_command}
use Rattle.brk_trade_books.specs.TradeReads.{AreTradesWithIds}

-- ---- facts

-- The first row of SETTLEMENT, in the order of the table, of the trade `trade`, or `None`.
abbrev pub settlement_row_of_trade : Tables → ℕ → Option SettlementRow
settlement_row_of_trade t trade = find (λ r. r.trade == trade) t.settlements

-- The first row of CASH_MOVE, in the order of the table, of the trade `trade`, or `None`.
abbrev pub cash_row_of_trade : Tables → ℕ → Option CashRow
cash_row_of_trade t trade = find (is_cash_row_of_trade trade) t.moves

-- The id of a trade, whether it is a cash trade, and its settlement text, `None` without one.
abbrev pub SettlementTextRow : Type 0
SettlementTextRow = ℕ × Bool × Option Text

-- The id of the trade, whether it is a cash trade, and its settlement text in the typed row `s`.
abbrev pub settlement_text_row_of_typed_row : SettlementText → SettlementTextRow
settlement_text_row_of_typed_row s = (s.trade, s.is_cash, Some (cash_type_text s.cash_type))

-- The id of the trade `r`, whether it is a cash trade, and its settlement text, if any, in `t`.
abbrev pub settlement_text_row_in_tables : Tables → TradeRow → SettlementTextRow
settlement_text_row_in_tables t r = (r.id, r.is_cash, option_map (λ s. s.cash_type) (settlement_row_of_trade t r.id))

-- The id of a trade, its type, its quantity, and its cash text, `None` without a cash row.
abbrev pub CashTextRow : Type 0
CashTextRow = ℕ × TradeType × ℕ × Option Text

-- The id of the trade, its type, its quantity and its cash text in the typed row `p`.
abbrev pub cash_text_row_of_typed_row : CashText → CashTextRow
cash_text_row_of_typed_row p = (p.trade, p.kind, p.qty, Some (string_bytes p.name))

-- The id, the type, the quantity and the cash text, if any, of the trade `r` in the tables.
abbrev pub cash_text_row_in_tables : Tables → TradeRow → CashTextRow
cash_text_row_in_tables t r = (r.id, r.kind, r.qty, option_map (λ c. c.name) (cash_row_of_trade t r.id))

-- The list `settled` has exactly one element for each of `trades`, in order, with its columns in
-- the tables (`SettlementTextRow`). False if one of the trades has no settlement.
abbrev pub SettlementTextsMatchTables : Tables → List TradeRow → List SettlementText → Type 0
SettlementTextsMatchTables t trades settled = map settlement_text_row_of_typed_row settled ≡ map (settlement_text_row_in_tables t) trades

-- The list `paid` has exactly one element for each of `trades`, in order: its id, its type, its
-- quantity and its cash text in the tables. False if one of the trades has no cash row.
abbrev pub CashTextsMatchTables : Tables → List TradeRow → List CashText → Type 0
CashTextsMatchTables t trades paid = map cash_text_row_of_typed_row paid ≡ map (cash_text_row_in_tables t) trades

-- The first security with the symbol `symbol` in the tables exists and has the name `name`.
abbrev pub SecurityHasName : Tables → Text → Text → Type 0
SecurityHasName t symbol name = option_map (λ s. s.name) (security_row_with_symbol t symbol) ≡ Some name

-- The selection has exactly the trades that the update selects in the tables, with the columns from
-- which their new texts are formed: the trades with its ids, in their order, or at most the first
-- 20, by stamp, then by id, of the completed trades of its account or the completed cash trades of
-- its symbol with stamps in its span, both ends included. The account, or the security with the
-- name in the selection, exists. False if a trade with an id does not exist, if a selected trade
-- lacks its settlement or cash row, or if the selection belongs to another kind of update.
abbrev pub SelectedTradesMatchTables : Tables → told.Update → TextUpdate → Type 0
SelectedTradesMatchTables t (update.Executors ids) (corrected.Executors trades) = AreTradesWithIds t ids trades.items
SelectedTradesMatchTables t (update.CashTypes account span) (corrected.CashTypes settled) =
    (is_none (account_row_with_id t account) ≡ false)
    × SettlementTextsMatchTables t (first_twenty_completed_trade_rows_of_account account span.first span.last t) settled.items
SelectedTradesMatchTables t (update.CashNames symbol span) (corrected.CashNames name paid) =
    SecurityHasName t symbol name × CashTextsMatchTables t (first_twenty_completed_cash_trade_rows_of_symbol symbol span.first span.last t) paid.items
SelectedTradesMatchTables t _ _ = ⊥

-- At least one trade that the update names by id, or its account or security, does not exist.
abbrev pub UpdateTargetIsMissing : Tables → told.Update → Type 0
UpdateTargetIsMissing t (update.Executors ids) = list_any (λ id. is_none (trade_row_with_id t id)) ids ≡ true
UpdateTargetIsMissing t (update.CashTypes account span) = is_none (account_row_with_id t account) ≡ true
UpdateTargetIsMissing t (update.CashNames symbol span) = is_none (security_row_with_symbol t symbol) ≡ true

-- The lookup result `found` is true of the tables: `None` if the update `u` names a trade, an
-- account or a security that does not exist, otherwise the trades that the update selects.
abbrev pub UpdateFactsMatchTables : Tables → told.Update → Option TextUpdate → Type 0
UpdateFactsMatchTables t u found = MatchOption found (UpdateTargetIsMissing t u) (SelectedTradesMatchTables t u)

-- The precondition of planning the update `u`: the base satisfies the books invariant, `found` and
-- the last stamp are read from its tables, and `now` is within the range of stamps.
pub record PlanUpdatePrecondition (base : Base) (u : told.Update) (found : Option TextUpdate) (last : Option ℕ) (now : ℕ) : Type 0 where
  pub books : BooksInvariant base
  pub found_read : UpdateFactsMatchTables (sheets base) u found
  pub last_read : last ≡ (sheets base).last
  pub moment : now ≤ greatest_stamp

-- ---- unchanged rows and columns

-- The tables after the command, as if `base` accepted it at the clock reading `now`.
abbrev pub tables_after_command : Base → ℕ → Command → Tables
tables_after_command base now command = sheets (base_after_command base now command)

-- The row `r` of TRADE with its executor name replaced by the empty text.
abbrev pub trade_row_without_executor_name : TradeRow → TradeRow
trade_row_without_executor_name r = record r { executor = [] }

-- The rows `rows` of TRADE, each with its executor name replaced by the empty text.
abbrev pub trade_rows_without_executor_names : List TradeRow → List TradeRow
trade_rows_without_executor_names rows = map trade_row_without_executor_name rows

-- The row `r` of SETTLEMENT with its text (SE_CASH_TYPE) replaced by the empty text.
abbrev pub settlement_row_without_text : SettlementRow → SettlementRow
settlement_row_without_text r = record r { cash_type = [] }

-- The rows `rows` of SETTLEMENT, each with its text (SE_CASH_TYPE) replaced by the empty text.
abbrev pub settlement_rows_without_texts : List SettlementRow → List SettlementRow
settlement_rows_without_texts rows = map settlement_row_without_text rows

-- The row `r` of CASH_MOVE with its text (CM_NAME) replaced by the empty text.
abbrev pub cash_row_without_text : CashRow → CashRow
cash_row_without_text r = record r { name = [] }

-- The rows `rows` of CASH_MOVE, each with its text (CM_NAME) replaced by the empty text.
abbrev pub cash_rows_without_texts : List CashRow → List CashRow
cash_rows_without_texts rows = map cash_row_without_text rows

-- The command, as if `base` accepted it at `now`, changes only executor names in TRADE, and sets
-- the last stamp to its own. All other rows and columns are unchanged.
pub record ChangesOnlyExecutorNames (base : Base) (now : ℕ) (command : Command) : Type 0 where
  pub others : tables_after_command base now command
      ≡ tables_with_last_stamp (stamp_of_next_command base now) (record (sheets base) { trades = (tables_after_command base now command).trades })
  pub rows : trade_rows_without_executor_names (tables_after_command base now command).trades ≡ trade_rows_without_executor_names (sheets base).trades

-- The command, as if `base` accepted it at `now`, changes only texts in SETTLEMENT, and sets the
-- last stamp to its own. All other rows and columns are unchanged.
pub record ChangesOnlySettlementTexts (base : Base) (now : ℕ) (command : Command) : Type 0 where
  pub others : tables_after_command base now command
      ≡ tables_with_last_stamp (stamp_of_next_command base now) (record (sheets base) { settlements = (tables_after_command base now command).settlements })
  pub rows : settlement_rows_without_texts (tables_after_command base now command).settlements ≡ settlement_rows_without_texts (sheets base).settlements

-- The command, as if `base` accepted it at `now`, changes only texts in CASH_MOVE, and sets the
-- last stamp to its own. All other rows and columns are unchanged.
pub record ChangesOnlyCashTexts (base : Base) (now : ℕ) (command : Command) : Type 0 where
  pub others : tables_after_command base now command
      ≡ tables_with_last_stamp (stamp_of_next_command base now) (record (sheets base) { moves = (tables_after_command base now command).moves })
  pub rows : cash_rows_without_texts (tables_after_command base now command).moves ≡ cash_rows_without_texts (sheets base).moves
