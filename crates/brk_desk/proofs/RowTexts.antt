-- Row changes leave all texts of the tables in UTF-8: each free text comes from a `String`.
use Rattle.brk_model.specs.Form.{has_utf8_texts}
use Rattle.std.proofs.Common.{◌≡◌, ◌==◌, Bool, true, List, [], ◌∷◌, Some, refl}
use Rattle.std.specs.Prelude.{◌&&◌, string_bytes}
use Rattle.std.specs.List.{AllByRecursion, list_all}
use Rattle.std.specs.Str.{is_utf8}
use Rattle.std.proofs.lemmas.Bool.{and_from, and_parts}
use Rattle.brk_model.specs.Keys.{kept_key, cash_move_key, is_row_key_less, trade_key}
use Rattle.brk_model.specs.Records.{Kept}
use Rattle.brk_model.specs.LookupView.{is_cash_row_of_trade}
use Rattle.brk_model.specs.Tables.{OldCashRow, CashRow, Tables, TradeRow, tables_without_rows}
use Rattle.brk_trade_rows.specs.Changes.{tables_after_change, tables_after_changes}
use Rattle.brk_ref.specs.Rows.{abstract_cash_row, abstract_trade_row}
use Rattle.brk_trade_rows.specs.declared.change.Change.{Change}
use Rattle.brk_trade_rows.specs.declared.change.Change.TheVariants.{AddBroker, AddCustomer, AddAccount, AddPermission, AddSecurity, AddLastTrade, AddCharge}
use Rattle.brk_trade_rows.specs.declared.change.Change.TheVariants.{AddBand, AddTaxRate, AddCustomerTax, AddTrade, SetStatus, AddHistory, AddRequest}
use Rattle.brk_trade_rows.specs.declared.change.Change.TheVariants.{RemoveRequest, SetLastTrade, CompleteTrade, AddLot, SetLot, RemoveLot, AddLotChange}
use Rattle.brk_trade_rows.specs.declared.change.Change.TheVariants.{AddSummary, SetSummary, RemoveSummary, AddSettlement, AddMove, SetBalance, SetBrokerTotals}
use Rattle.brk_trade_rows.specs.declared.change.Change.TheVariants.{SetExecutor, SetCashType, SetCashName, SetOneDaySettlementStart, AddStoredReply, SetLastStamp}
use Rattle.brk_money.specs.declared.status.Status.TheVariants.{Completed}
use Rattle.brk_ref.specs.Records.{abstract_kept_row}
use Rattle.brk_trade_books.proofs.Order.{All-insert}
use Rattle.brk_trade_books.proofs.Places.{All-updated}
use Rattle.brk_audit_theorems.proofs.AgainStatus.{all_list}
use Rattle.brk_audit_theorems.proofs.Climbs.{list_all_true}
use Rattle.brk_store_transactions.proofs.Texts.{text_is_utf8}

-- True if the stored request and the stored reply are UTF-8.
abbrev has_utf8_request_and_reply : Kept → Bool
has_utf8_request_and_reply k = is_utf8 k.row_text && is_utf8 k.line

-- The stored request and the stored reply are UTF-8.
abbrev HasUtf8RequestAndReply : Kept → Type 0
HasUtf8RequestAndReply k = has_utf8_request_and_reply k ≡ true

-- The executor's name in the row of a trade is UTF-8.
abbrev HasUtf8Executor : TradeRow → Type 0
HasUtf8Executor r = is_utf8 r.executor ≡ true

-- The name in the row of a cash transaction is UTF-8.
abbrev HasUtf8CashName : OldCashRow → Type 0
HasUtf8CashName r = is_utf8 r.name ≡ true

-- The name in a row of CASH_MOVE is UTF-8.
abbrev HasUtf8MoveName : CashRow → Type 0
HasUtf8MoveName r = is_utf8 r.name ≡ true

-- All texts of the tables that can be other than UTF-8 are UTF-8: stored requests and replies,
-- executors' names, and names of cash rows.
record HaveUtf8Texts (t : Tables) : Type 0 where
  kept : AllByRecursion HasUtf8RequestAndReply t.kept
  names : AllByRecursion HasUtf8Executor t.trades
  cash : AllByRecursion HasUtf8CashName t.cash
  moves : AllByRecursion HasUtf8MoveName t.moves

-- ---- one change, some changes

changed : (t : Tables) (change : Change) → HaveUtf8Texts t → HaveUtf8Texts (tables_after_change change t)
changed t (AddBroker broker) h = record { kept = h.kept; names = h.names; cash = h.cash; moves = h.moves }
changed t (AddCustomer customer) h = record { kept = h.kept; names = h.names; cash = h.cash; moves = h.moves }
changed t (AddAccount account) h = record { kept = h.kept; names = h.names; cash = h.cash; moves = h.moves }
changed t (AddPermission permission) h = record { kept = h.kept; names = h.names; cash = h.cash; moves = h.moves }
changed t (AddSecurity security) h = record { kept = h.kept; names = h.names; cash = h.cash; moves = h.moves }
changed t (AddLastTrade row) h = record { kept = h.kept; names = h.names; cash = h.cash; moves = h.moves }
changed t (AddCharge charge) h = record { kept = h.kept; names = h.names; cash = h.cash; moves = h.moves }
changed t (AddBand band) h = record { kept = h.kept; names = h.names; cash = h.cash; moves = h.moves }
changed t (AddTaxRate tax) h = record { kept = h.kept; names = h.names; cash = h.cash; moves = h.moves }
changed t (AddCustomerTax pays) h = record { kept = h.kept; names = h.names; cash = h.cash; moves = h.moves }
changed t (AddTrade row) h =
    record {
      kept = h.kept;
      names =
          All-insert HasUtf8Executor (is_row_key_less trade_key) (abstract_trade_row row) t.trades (text_is_utf8 row.executor) h.names;
      cash = h.cash;
      moves =
          h.moves;
    }
changed t (SetStatus trade status stamp) h = record {
  kept = h.kept;
  names = All-updated HasUtf8Executor (λ r. r.id == trade) (λ r. record r { status = status; stamp = stamp }) t.trades (λ r e. e) h.names;
  cash = h.cash;
  moves = h.moves;
}
changed t (AddHistory row) h = record { kept = h.kept; names = h.names; cash = h.cash; moves = h.moves }
changed t (AddRequest row) h = record { kept = h.kept; names = h.names; cash = h.cash; moves = h.moves }
changed t (RemoveRequest trade) h = record { kept = h.kept; names = h.names; cash = h.cash; moves = h.moves }
changed t (SetLastTrade row) h = record { kept = h.kept; names = h.names; cash = h.cash; moves = h.moves }
changed t (CompleteTrade trade stamp price commission tax) h = record {
  kept = h.kept;
  names = All-updated HasUtf8Executor (λ r. r.id == trade) (λ r. record r { status = Completed; stamp = stamp; price = Some price; commission = commission; tax = tax }) t.trades (λ r e. e) h.names;
  cash = h.cash;
  moves = h.moves;
}
changed t (AddLot row) h = record { kept = h.kept; names = h.names; cash = h.cash; moves = h.moves }
changed t (SetLot trade qty) h = record { kept = h.kept; names = h.names; cash = h.cash; moves = h.moves }
changed t (RemoveLot trade) h = record { kept = h.kept; names = h.names; cash = h.cash; moves = h.moves }
changed t (AddLotChange row) h = record { kept = h.kept; names = h.names; cash = h.cash; moves = h.moves }
changed t (AddSummary row) h = record { kept = h.kept; names = h.names; cash = h.cash; moves = h.moves }
changed t (SetSummary row) h = record { kept = h.kept; names = h.names; cash = h.cash; moves = h.moves }
changed t (RemoveSummary account symbol) h = record { kept = h.kept; names = h.names; cash = h.cash; moves = h.moves }
changed t (AddSettlement row) h = record { kept = h.kept; names = h.names; cash = h.cash; moves = h.moves }
changed t (AddMove row) h =
    record { kept = h.kept; names = h.names; cash = h.cash; moves = All-insert HasUtf8MoveName (is_row_key_less cash_move_key) (abstract_cash_row row) t.moves (text_is_utf8 row.name) h.moves }
changed t (SetBalance account balance) h = record { kept = h.kept; names = h.names; cash = h.cash; moves = h.moves }
changed t (SetBrokerTotals broker trades commissions) h = record { kept = h.kept; names = h.names; cash = h.cash; moves = h.moves }
changed t (SetExecutor trade executor) h = record {
  kept = h.kept;
  names = All-updated HasUtf8Executor (λ r. r.id == trade) (λ r. record r { executor = string_bytes executor }) t.trades (λ r e. text_is_utf8 executor) h.names;
  cash = h.cash;
  moves = h.moves;
}
changed t (SetCashType trade cash_type) h = record { kept = h.kept; names = h.names; cash = h.cash; moves = h.moves }
changed t (SetCashName trade name) h = record {
  kept = h.kept;
  names = h.names;
  cash = h.cash;
  moves = All-updated HasUtf8MoveName (is_cash_row_of_trade trade) (λ r. record r { name = string_bytes name }) t.moves (λ r e. text_is_utf8 name) h.moves;
}
changed t (SetOneDaySettlementStart day) h = record { kept = h.kept; names = h.names; cash = h.cash; moves = h.moves }
changed t (AddStoredReply kept) h = record {
  kept = All-insert HasUtf8RequestAndReply (is_row_key_less kept_key) (abstract_kept_row kept) t.kept
      (and_from (is_utf8 (string_bytes kept.row_text)) (is_utf8 (string_bytes kept.line)) (text_is_utf8 kept.row_text) (text_is_utf8 kept.line)) h.kept;
  names = h.names;
  cash = h.cash;
  moves = h.moves;
}
changed t (SetLastStamp stamp) h = record { kept = h.kept; names = h.names; cash = h.cash; moves = h.moves }

all_changed : (t : Tables) (changes : List Change) → HaveUtf8Texts t → HaveUtf8Texts (tables_after_changes changes t)
all_changed t [] h = h
all_changed t (change ∷ changes) h = all_changed (tables_after_change change t) changes (changed t change h)

-- ---- as a test

in_text : (t : Tables) → has_utf8_texts t ≡ true → HaveUtf8Texts t
in_text t e =
    let kept : Bool = list_all has_utf8_request_and_reply t.kept in
    let names : Bool = list_all (λ (r : TradeRow). is_utf8 r.executor) t.trades in
    let cash : Bool = list_all (λ (r : OldCashRow). is_utf8 r.name) t.cash in
    let moves : Bool = list_all (λ (r : CashRow). is_utf8 r.name) t.moves in
    let all = and_parts (kept && names && cash) moves e in
    let three = and_parts (kept && names) cash all.0 in
    let two = and_parts kept names three.0 in
    record {
      kept = list_all_true has_utf8_request_and_reply t.kept two.0;
      names = list_all_true (λ (r : TradeRow). is_utf8 r.executor) t.trades two.1;
      cash = list_all_true (λ (r : OldCashRow). is_utf8 r.name) t.cash three.1;
      moves = list_all_true (λ (r : CashRow). is_utf8 r.name) t.moves all.1;
    }

pub changes_keep_texts : (t : Tables) (changes : List Change) → has_utf8_texts t ≡ true → has_utf8_texts (tables_after_changes changes t) ≡ true
changes_keep_texts t changes e =
    let h = all_changed t changes (in_text t e) in
    let after = tables_after_changes changes t in
    let kept : Bool = list_all has_utf8_request_and_reply after.kept in
    let names : Bool = list_all (λ (r : TradeRow). is_utf8 r.executor) after.trades in
    let cash : Bool = list_all (λ (r : OldCashRow). is_utf8 r.name) after.cash in
    let moves : Bool = list_all (λ (r : CashRow). is_utf8 r.name) after.moves in
    and_from (kept && names && cash) moves
    (and_from (kept && names) cash
    (and_from kept names (all_list has_utf8_request_and_reply after.kept h.kept) (all_list (λ (r : TradeRow). is_utf8 r.executor) after.trades h.names))
    (all_list (λ (r : OldCashRow). is_utf8 r.name) after.cash h.cash))
    (all_list (λ (r : CashRow). is_utf8 r.name) after.moves h.moves)

pub no_rows_have_texts : has_utf8_texts tables_without_rows ≡ true
no_rows_have_texts = refl
