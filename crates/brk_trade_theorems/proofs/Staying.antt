-- Text updates change one text column each, and nothing else.
use Rattle.std.proofs.Common.{◌≡◌, ℕ, List, [], refl, sym, ap, ◌∙◌, map}
use Rattle.brk_money.specs.Spelling.{Text}
use Rattle.brk_model.specs.Base.{Base, completed_trades}
use Rattle.brk_model.specs.Commands.{ChangeCashNames, ChangeCashTypes, ChangeExecutors}
use Rattle.brk_model.specs.Derived.{Posting, postings_sorted_by_stamp, postings_of_base}
use Rattle.brk_model.specs.Keys.{KeyPart, rows_sorted_by_key, cash_move_key, settlement_key, trade_key}
use Rattle.brk_model.specs.Lists.{contains_number}
use Rattle.brk_model.specs.Records.{Trade}
use Rattle.brk_model.specs.Sheets.{sheets, tables_sorted_by_key}
use Rattle.brk_model.specs.Step.{base_after_command_unstamped}
use Rattle.brk_model.specs.Tables.{CashRow, SettlementRow, TradeRow, numbered_cash_move_rows, settlement_row, tables_of_base_in_schema, trade_row}
use Rattle.brk_model.specs.Tests.{stamp_of_next_command}
use Rattle.brk_model.specs.Updates.{selected_trade_ids_of_account, selected_trade_ids_of_symbol, base_with_updated_cash_names, base_with_updated_cash_types, base_with_updated_executors}
use Rattle.brk_trade_rows.specs.Changes.{tables_with_last_stamp}
use Rattle.brk_trade_books.proofs.Order.{by_key-map}
use Rattle.brk_trade_books.proofs.Trades.{whole}
use Rattle.brk_trade_theorems.specs.Corrections.{ChangesOnlyExecutorNames, ChangesOnlyCashTexts, ChangesOnlySettlementTexts, trade_row_without_executor_name}
use Rattle.brk_trade_theorems.specs.Corrections.{cash_row_without_text, settlement_row_without_text, tables_after_command}
use Rattle.brk_trade_theorems.proofs.Correcting.{cash_names_rows, cash_types_rows, executors_rows, name_then, text_then, texts_with, word_then}
use Rattle.brk_trade_theorems.proofs.Rewording.{posted_nameless}
use Rattle.brk_trade_theorems.proofs.Texting.{rows_through}
use Rattle.brk_trade_theorems.proofs.Through.{map-map}

-- rows that are the same but for a word, in the order of their keys
but_for : {Row : Type 0} (key : Row → List KeyPart) (strip : Row → Row) (f g : Trade → Row) (ts : List Trade) → ((r : Row) → key (strip r) ≡ key r) → ((t : Trade) → strip (f t) ≡ strip (g t))
    → map strip (rows_sorted_by_key key (map f ts)) ≡ map strip (rows_sorted_by_key key (map g ts))
but_for key strip f g ts h s =
    sym (by_key-map key key strip (map f ts) h)
    ∙ ap (rows_sorted_by_key key) (map-map strip f ts ∙ (λ i. map (λ t. s t i) ts) ∙ sym (map-map strip g ts))
    ∙ by_key-map key key strip (map g ts) h

pub names_alone : (base : Base) (now : ℕ) (ids : List ℕ) → ChangesOnlyExecutorNames base now (ChangeExecutors ids)
unfolding base_after_command_unstamped tables_of_base_in_schema tables_sorted_by_key
names_alone base now ids =
    let stamp : ℕ = stamp_of_next_command base now in
    let rows : List TradeRow = rows_sorted_by_key trade_key (map (λ t. record (trade_row t) { executor = name_then (λ t. contains_number t.id ids) t }) base.trades) in
    let e : tables_after_command base now (ChangeExecutors ids) ≡ tables_with_last_stamp stamp (record (sheets base) { trades = rows }) =
    whole (base_with_updated_executors ids base) stamp _ (executors_rows base ids) in
    record {
      others = e ∙ ap (λ (trades : List TradeRow). tables_with_last_stamp stamp (record (sheets base) { trades = trades })) (sym (ap (λ t. t.trades) e));
      rows = ap (λ t. map trade_row_without_executor_name t.trades) e
          ∙ but_for trade_key trade_row_without_executor_name (λ t. record (trade_row t) { executor = name_then (λ t. contains_number t.id ids) t }) trade_row base.trades (λ r. refl) (λ t. refl);
    }

pub words_alone : (base : Base) (now account first last : ℕ) → ChangesOnlySettlementTexts base now (ChangeCashTypes account first last)
unfolding base_after_command_unstamped tables_of_base_in_schema tables_sorted_by_key
words_alone base now account first last =
    let stamp : ℕ = stamp_of_next_command base now in
    let ids : List ℕ = selected_trade_ids_of_account base account first last in
    let rows : List SettlementRow =
    rows_sorted_by_key settlement_key
    (map (λ t. record (settlement_row base.accounts base.rule t) { cash_type = word_then (λ t. contains_number t.id ids) t }) (completed_trades base)) in
    let e : tables_after_command base now (ChangeCashTypes account first last) ≡ tables_with_last_stamp stamp (record (sheets base) { settlements = rows }) =
    whole (base_with_updated_cash_types ids base) stamp _ (cash_types_rows base ids) in
    record {
      others = e ∙ ap (λ (settlements : List SettlementRow). tables_with_last_stamp stamp (record (sheets base) { settlements = settlements })) (sym (ap (λ t. t.settlements) e));
      rows = ap (λ t. map settlement_row_without_text t.settlements) e
          ∙ but_for settlement_key settlement_row_without_text
          (λ t. record (settlement_row base.accounts base.rule t) { cash_type = word_then (λ t. contains_number t.id ids) t })
          (settlement_row base.accounts base.rule) (completed_trades base) (λ r. refl) (λ t. refl);
    }

pub texts_alone : (base : Base) (now : ℕ) (symbol : Text) (first last : ℕ) → ChangesOnlyCashTexts base now (ChangeCashNames symbol first last)
unfolding base_after_command_unstamped tables_of_base_in_schema tables_sorted_by_key
texts_alone base now symbol first last =
    let stamp : ℕ = stamp_of_next_command base now in
    let ids : List ℕ = selected_trade_ids_of_symbol base symbol first last in
    let texts : List Posting = texts_with base (λ t. contains_number t.id ids) in
    let rows : List CashRow = rows_sorted_by_key cash_move_key (numbered_cash_move_rows 1 (postings_sorted_by_stamp texts)) in
    let e : tables_after_command base now (ChangeCashNames symbol first last) ≡ tables_with_last_stamp stamp (record (sheets base) { moves = rows }) =
    whole (base_with_updated_cash_names ids base) stamp _ (cash_names_rows base ids) in
    record {
      others = e ∙ ap (λ (moves : List CashRow). tables_with_last_stamp stamp (record (sheets base) { moves = moves })) (sym (ap (λ t. t.moves) e));
      rows = ap (λ t. map cash_row_without_text t.moves) e
          ∙ rows_through (λ trade name. []) texts
          ∙ ap (λ ps. rows_sorted_by_key cash_move_key (numbered_cash_move_rows 1 (postings_sorted_by_stamp ps)))
          (posted_nameless (λ t. t.executor) (λ t. t.cash_type) (text_then base (λ t. contains_number t.id ids)) base.accounts (completed_trades base) base.movements)
          ∙ sym (rows_through (λ trade name. []) (postings_of_base base));
    }
