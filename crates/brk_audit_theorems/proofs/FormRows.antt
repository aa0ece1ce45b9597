-- The tables of a base that satisfies both invariants satisfy `Form`.
use Rattle.std.proofs.Common.{◌≡◌, ◌≤◌, ℕ, ◌==◌, ◌+◌, Bool, true, false, not, cond, List, [], ◌∷◌, refl, sym, ◌∙◌, ap, subst, map, filter, length, Option, Some, None, arith}
use Rattle.std.specs.Prelude.{◌&&◌, ◌||◌, IfSome, bytes_eq, find, flat_map, is_none, is_some, nat_abs, nat_le, nat_lt, option_map, unwrap_or}
use Rattle.std.specs.List.{AllByRecursion, last_or, list_all, list_any, range_with_len}
use Rattle.std.specs.Option.{option_map_or}
use Rattle.std.proofs.lemmas.Bool.{and_from, eq-eqb, le-leb, and_parts, leb-true}
use Rattle.std.proofs.lemmas.Slice.Eq.{bytes_eq-Decides}
use Rattle.brk_money.specs.Spelling.{Text, is_within_amount_limit}
use Rattle.brk_money.specs.Moments.{greatest_day, greatest_stamp}
use Rattle.brk_money.specs.Kinds.{is_same_trade_status}
use Rattle.brk_money.specs.declared.status.Status.TheVariants.{Completed, Pending}
use Rattle.brk_trade_books.proofs.MoveReading.{moves_counted}
use Rattle.brk_audit_theorems.proofs.UpgradedBase.{moves_own}
use Rattle.brk_audit_theorems.proofs.UpgradedForm.{HasForm, few_postings, numbered_form}
use Rattle.brk_model.specs.Schemas.{third_schema}
use Rattle.brk_model.specs.Limits.{greatest_amount, greatest_charge, greatest_summary_quantity, greatest_tax_rate, most_accounts_per_customer, greatest_id}
use Rattle.brk_model.specs.Lists.{all_distinct, is_zero, sort_by}
use Rattle.brk_model.specs.Records.{Account, Customer, StatusChange, Permission, Security, Trade, Movement}
use Rattle.brk_model.specs.Base.{Base, account_with_id, broker_id_in_accounts, broker_with_id, completed_trades, customer_with_id, has_last_status}
use Rattle.brk_model.specs.Base.{is_completed, last_status_change, last_status_stamp_of_trade, completion_price, tax_rate_sum_of_customer, security_name}
use Rattle.brk_model.specs.Base.{security_with_symbol, tax_rate_record_with_id, trade_with_id}
use Rattle.brk_model.specs.Derived.{settlement_amount, balance_of_account, cash_trades, commission_total_of_broker, deal_of_trade, due_day, trades_of_account}
use Rattle.brk_model.specs.Derived.{trades_of_position, pending_trades, holding_summary_quantity, postings_sorted_by_stamp, posting_of_movement}
use Rattle.brk_model.specs.Derived.{posting_of_trade, postings_of_base, due_day_of_completion_stamp}
use Rattle.brk_model.specs.Tables.{HistoryRow, HoldingHistoryRow, Tables, account_row, broker_row, history_rows, holding_row, last_trade_row, request_row}
use Rattle.brk_model.specs.Tables.{security_row, settlement_row, summary_rows, tables_of_base_in_schema, trade_row, numbered_cash_move_rows}
use Rattle.brk_lots.proofs.HistoryRows.{rows_of_lots_are}
use Rattle.brk_lots.specs.HistoryRows.{lot_rows_with_quantity_change}
use Rattle.brk_model.specs.Sheets.{sheets, tables_sorted_by_key}
use Rattle.brk_model.specs.Adopted.{base_of_tables}
use Rattle.brk_model.specs.Joins.{history_rows_with_trade_id, trade_row_with_id}
use Rattle.brk_model.specs.Form.{is_well_formed_account_row, is_well_formed_band_row, is_well_formed_broker_row, is_well_formed_cash_transaction_row}
use Rattle.brk_model.specs.Form.{is_well_formed_charge_row, is_well_formed_customer_row, is_within_customer_limits, is_well_formed_customer_tax_row}
use Rattle.brk_model.specs.Form.{has_account, has_broker, has_customer, satisfies_form_condition, has_security, has_trade, is_well_formed_history_row}
use Rattle.brk_model.specs.Form.{is_well_formed_holding_row, is_well_formed_holding_history_row, is_cash_row_name_of_trade, is_cash_type_of_trade, is_id}
use Rattle.brk_model.specs.Form.{is_up_to_last_stamp, is_price, is_quantity_in_schema, is_well_formed_kept_row, is_well_formed_last_trade_row}
use Rattle.brk_model.specs.Form.{is_well_formed_permission_row, has_price_matching_completion, is_well_formed_request_row, are_equal_number_lists}
use Rattle.brk_model.specs.Form.{is_well_formed_security_row, is_well_formed_settlement_row, is_well_formed_summary_row, is_well_formed_tax_rate_row}
use Rattle.brk_model.specs.Form.{is_well_formed_trade_row, is_movement_name_and_amount, is_well_formed_cash_move_row, trade_ids_of_cash_rows}
use Rattle.brk_model.specs.Form.{has_well_formed_permission_texts}
use Rattle.brk_model.specs.Forms.{is_acl, is_exchange, is_name, is_symbol, is_tax_id}
use Rattle.brk_model.specs.Keys.{KeyPart, word, rows_sorted_by_key, is_row_key_less, account_key, band_key, broker_key, cash_transaction_key, charge_key}
use Rattle.brk_model.specs.Keys.{customer_key, customer_tax_key, history_key, holding_history_key, holding_key, kept_key, last_trade_key, permission_key}
use Rattle.brk_model.specs.Keys.{request_key, security_key, settlement_key, summary_key, tax_rate_key, trade_key, cash_move_key}
use Rattle.brk_model.specs.Ways.{is_valid_status_sequence}
use Rattle.brk_model.specs.Names.{AccountOfTradeExists, BrokerOfAccountExists, CustomerOfAccountExists, SecurityOfTradeExists, TradesAreNumberedFrom}
use Rattle.brk_model_theorems.proofs.FormParts.{form_whole}
use Rattle.brk_model_theorems.proofs.Conjunctions.{and10, and3, and4, and5, and6, parts3, parts4, parts5, parts6}
use Rattle.brk_trade_books.specs.Books.{BooksInvariant, HasVolumeWithinLimit, MovementAccountExists, MovementStampIsAtMostLastStamp}
use Rattle.brk_trade_books.proofs.Bools.{numbers_back}
use Rattle.brk_trade_books.proofs.Postings.{numbered_stay}
use Rattle.brk_trade_books.proofs.Order.{by_key-filter}
use Rattle.brk_trade_books.proofs.Same.{All-filter, All-map, All-mapped, All-of, find-each, All-append}
use Rattle.brk_trade_books.proofs.Reading.{any-sorted, find-key, is_some-map, reads_account, reads_broker, reads_count, reads_customer, some-is-any}
use Rattle.brk_trade_books.proofs.TermReading.{map-or, reads_last_trade, reads_rates, reads_security, reads_tax_rate}
use Rattle.brk_trade_books.proofs.TradeReading.{reads_trade, trades_in_order}
use Rattle.brk_trade_books.proofs.LotReading.{All-sort, IdsApart, numbered_rise, rise_apart}
use Rattle.brk_trade_books.proofs.References.{broker_found}
use Rattle.brk_audit_theorems.specs.Histories.{HasValidHistories}
use Rattle.brk_audit_theorems.proofs.Again.{IsRead, base_again, both_all, reads}
use Rattle.brk_audit_theorems.proofs.AgainStatus.{all_list, first_of_two, some_last}
use Rattle.brk_audit_theorems.proofs.Marks.{filtered, last_has, no_more_ways, three_ways}
use Rattle.brk_audit_theorems.proofs.Members.{All-flat_map}
use Rattle.brk_audit_theorems.proofs.Sorted.{All-rows}
use Rattle.brk_audit_theorems.specs.Sound.{HasDueDayInCalendar, StatusStampIsAtMostLastStamp, AuditInvariant, BaseTradeAuditInvariant}
use Rattle.brk_audit_theorems.specs.Sound.{PermissionAccountIsListed, TaxCustomerIsListed, TaxRateIsListed, is_well_formed_account, is_well_formed_security}
use Rattle.brk_audit_theorems.specs.Sound.{has_cash_text_with_security_name, is_well_formed_movement}
use Rattle.brk_audit_theorems.proofs.OneTrade.{false_true, price_of_done}
use Rattle.brk_audit_theorems.proofs.SoundRecords.{sum-same}
use Rattle.brk_audit_theorems.proofs.SortedRows.{bands_sort, overlap_none, tax_ids_apart}
use Rattle.brk_audit_theorems.proofs.SortedRows as rows
use Rattle.brk_audit_theorems.proofs.FormKeys.{All-history, keys_of}

-- ---- what is there

pub has_trade_is : (base : Base) (id : ℕ) → has_trade (sheets base) id ≡ is_some (trade_with_id base id)
has_trade_is base id = ap is_some (reads_trade base id) ∙ is_some-map trade_row (trade_with_id base id)

pub has_account_is : (base : Base) (id : ℕ) → has_account (sheets base) id ≡ is_some (account_with_id base id)
has_account_is base id = ap is_some (reads_account base id) ∙ is_some-map (account_row base.accounts (postings_of_base base)) (account_with_id base id)

pub has_security_is : (base : Base) (symbol : Text) → has_security (sheets base) symbol ≡ is_some (security_with_symbol base symbol)
has_security_is base symbol = ap is_some (reads_security base symbol) ∙ is_some-map security_row (security_with_symbol base symbol)

pub has_customer_is : (base : Base) (id : ℕ) → has_customer (sheets base) id ≡ is_some (customer_with_id base id)
has_customer_is base id = ap is_some (reads_customer base id)

pub has_broker_is : (base : Base) (id : ℕ) → has_broker (sheets base) id ≡ is_some (broker_with_id base id)
has_broker_is base id = ap is_some (reads_broker base id) ∙ is_some-map (broker_row base.accounts (completed_trades base)) (broker_with_id base id)

pub has_rate_is : (base : Base) (id : ℕ) → list_any (λ r. r.id == id) (sheets base).tax_rates ≡ is_some (tax_rate_record_with_id base id)
has_rate_is base id = sym (some-is-any (λ r. r.id == id) (sheets base).tax_rates) ∙ ap is_some (reads_tax_rate base id)

pub has_last_is : (base : Base) (symbol : Text) → list_any (λ l. bytes_eq l.symbol symbol) (sheets base).last_trades ≡ is_some (security_with_symbol base symbol)
has_last_is base symbol =
    sym (some-is-any (λ l. bytes_eq l.symbol symbol) (sheets base).last_trades) ∙ ap is_some (reads_last_trade base symbol) ∙ is_some-map last_trade_row (security_with_symbol base symbol)

pub listed_each : (base : Base) → AllByRecursion (λ s. is_some (security_with_symbol base s.symbol) ≡ true) base.securities
listed_each base = find-each (λ b c. bytes_eq c.symbol b.symbol) base.securities (λ s. (bytes_eq-Decides s.symbol s.symbol).1 refl)

pub held_each : (base : Base) → AllByRecursion (λ a. is_some (account_with_id base a.id) ≡ true) base.accounts
held_each base = find-each (λ b c. c.id == b.id) base.accounts (λ a. eq-eqb a.id a.id refl)

-- ---- trades

pub found_trades : (ts : List Trade) → IdsApart ts → AllByRecursion (λ t. find (λ u. u.id == t.id) ts ≡ Some t) ts
found_trades [] d = tt
found_trades (t ∷ ts) d = (
  ap (λ b. cond b (Some t) (find (λ u. u.id == t.id) ts)) (eq-eqb t.id t.id refl),
  All-map ts (λ u h. ap (λ b. cond b (Some t) (find (λ v. v.id == u.id) ts)) (numbers_back t.id u.id ∙ h.0) ∙ h.1)
      (both_all (λ u. (u.id == t.id) ≡ false) (λ u. find (λ v. v.id == u.id) ts ≡ Some u) ts d.0 (found_trades ts d.1)),
)

-- what is known of each trade
record Known (base : Base) (t : Trade) : Type 0 where
  pub sound : BaseTradeAuditInvariant base t
  pub account : AccountOfTradeExists base t
  pub security : SecurityOfTradeExists base t
  pub found : trade_with_id base t.id ≡ Some t
  pub read : IsRead base t

known_all : (base : Base) → BooksInvariant base → AuditInvariant base → AllByRecursion (Known base) base.trades
known_all base books k =
    let rise = numbered_rise 1 base.trades books.numbered in
    All-map base.trades (λ t h. record { sound = h.0; account = h.1.0; security = h.1.1.0; found = h.1.1.1.0; read = h.1.1.1.1 })
    (both_all (BaseTradeAuditInvariant base) _ base.trades k.trades
    (both_all (AccountOfTradeExists base) _ base.trades books.accounts
    (both_all (SecurityOfTradeExists base) _ base.trades books.securities
    (both_all (λ t. trade_with_id base t.id ≡ Some t) (IsRead base) base.trades (found_trades base.trades (rise_apart base.trades rise)) (reads base books.numbered)))))

-- what is known of each completed one
abbrev Done : Base → Trade → Type 0
Done base t = Known base t × (is_completed t ≡ true)

done_all : (base : Base) → BooksInvariant base → AuditInvariant base → AllByRecursion (Done base) (completed_trades base)
done_all base books k = filtered (Known base) is_completed base.trades (known_all base books k)

there : (base : Base) (t : Trade) → Known base t → has_trade (sheets base) t.id ≡ true
there base t h = has_trade_is base t.id ∙ ap is_some h.found

last_of : (t : Trade) (ms : List StatusChange) → t.marks ≡ ms → is_valid_status_sequence (map (λ m. m.status) ms) ≡ true → (n : StatusChange) × (last_status_change t ≡ Some n)
last_of t [] e w = false_true w
last_of t (m ∷ ms) e w = let l = some_last m ms in (l.0, ap (last_or None) e ∙ l.1)

moment_past : (base : Base) (t : Trade) → BaseTradeAuditInvariant base t → is_up_to_last_stamp base.last (last_status_stamp_of_trade t) ≡ true
moment_past base t h =
    let l = last_of t t.marks refl h.way in
    ap (λ o. is_up_to_last_stamp base.last (option_map_or (λ m. m.stamp) o 0)) l.1 ∙ last_has (StatusStampIsAtMostLastStamp base.last) None t.marks l.0 tt h.past l.1

moment_due : (base : Base) (t : Trade) → BaseTradeAuditInvariant base t → is_completed t ≡ true → nat_le (due_day base.rule t) greatest_day ≡ true
moment_due base t h d =
    let l = last_of t t.marks refl h.way in
    let m : StatusChange = l.0 in
    let c : is_same_trade_status m.status Completed ≡ true = sym (ap (λ o. option_map_or (λ m. is_same_trade_status m.status Completed) o false) l.1) ∙ d in
    let due = last_has (HasDueDayInCalendar base.rule) None t.marks m tt h.due l.1 in
    ap (λ o. nat_le (due_day_of_completion_stamp base.rule (option_map_or (λ m. m.stamp) o 0)) greatest_day) l.1
    ∙ sym (ap (λ b. not b || nat_le (due_day_of_completion_stamp base.rule m.stamp) greatest_day) c) ∙ due

or_false : (b : Bool) → (b || false) ≡ b
or_false true = refl
or_false false = refl

abbrev pub row_of : ℕ → StatusChange → HistoryRow
row_of id m = record { trade = id; status = m.status; stamp = m.stamp }

pub any_mark : (id : ℕ) (ms : List StatusChange) → is_valid_status_sequence (map (λ m. m.status) ms) ≡ true
    → list_any (λ h. is_same_trade_status h.status Completed) (map (row_of id) ms) ≡ option_map_or (λ m. is_same_trade_status m.status Completed) (last_or None ms) false
any_mark id [] w = refl
any_mark id (m ∷ []) w = or_false (is_same_trade_status m.status Completed)
any_mark id (m ∷ n ∷ []) w =
    ap (λ b. b || (is_same_trade_status n.status Completed || false)) (first_of_two m.status n.status w) ∙ or_false (is_same_trade_status n.status Completed)
any_mark id (m ∷ n ∷ o ∷ []) w =
    let k = three_ways m.status n.status o.status w in
    (λ i. is_same_trade_status (k.0 i) Completed || (is_same_trade_status (k.1 i) Completed || (is_same_trade_status o.status Completed || false))) ∙ or_false (is_same_trade_status o.status Completed)
any_mark id (m ∷ n ∷ o ∷ p ∷ ms) w = absurd (no_more_ways m.status n.status o.status p.status (map (λ m. m.status) ms) w)

priced_row : (base : Base) (t : Trade) → Known base t → has_price_matching_completion (sheets base) (trade_row t) ≡ true
unfolding tables_sorted_by_key tables_of_base_in_schema
priced_row base t h =
    let done : list_any (λ h. is_same_trade_status h.status Completed) (history_rows_with_trade_id (sheets base) t.id) ≡ is_completed t =
    ap (list_any (λ h. is_same_trade_status h.status Completed))
    (sym (by_key-filter history_key (λ h. h.trade == t.id) (flat_map history_rows base.trades)) ∙ ap (rows_sorted_by_key history_key) h.read.history)
    ∙ any-sorted history_key (λ h. is_same_trade_status h.status Completed) (history_rows t) ∙ any_mark t.id t.marks h.sound.way in
    ap (λ b. cond b (option_map_or is_price t.price false) (is_none t.price)) done ∙ h.sound.priced

trade_whole : (base : Base) (t : Trade) → Known base t → is_well_formed_trade_row third_schema (sheets base) (trade_row t) ≡ true
unfolding tables_sorted_by_key tables_of_base_in_schema
trade_whole base t h =
    let f = parts6 (is_id t.id) (is_quantity_in_schema third_schema t.qty) (is_price t.bid) (nat_le t.charge greatest_charge)
    (nat_le t.commission greatest_amount) (nat_le t.tax greatest_amount) h.sound.fields in
    and10 (is_id t.id) (is_quantity_in_schema third_schema t.qty) (is_price t.bid) (nat_le t.charge greatest_charge) (nat_le t.commission greatest_amount) (nat_le t.tax greatest_amount)
    (is_up_to_last_stamp base.last (last_status_stamp_of_trade t)) (has_security (sheets base) t.symbol) (has_account (sheets base) t.account)
    (has_price_matching_completion (sheets base) (trade_row t))
    f.0 f.1 f.2 f.3 f.4 f.5 (moment_past base t h.sound) (has_security_is base t.symbol ∙ h.security) (has_account_is base t.account ∙ h.account) (priced_row base t h)

numbers_whole : (n : ℕ) (ts : List Trade) → TradesAreNumberedFrom n ts → are_equal_number_lists (map (λ row. row.id) (map trade_row ts)) (range_with_len n (length (map trade_row ts))) ≡ true
numbers_whole n [] k = refl
numbers_whole n (t ∷ ts) k =
    and_from (t.id == n) (are_equal_number_lists (map (λ row. row.id) (map trade_row ts)) (range_with_len (n + 1) (length (map trade_row ts)))) (eq-eqb t.id n k.0) (numbers_whole (n + 1) ts k.1)

mark_whole : (base : Base) (t : Trade) (m : StatusChange) → Known base t → StatusStampIsAtMostLastStamp base.last m → HasDueDayInCalendar base.rule m
    → is_well_formed_history_row (sheets base) (row_of t.id m) ≡ true
unfolding tables_sorted_by_key tables_of_base_in_schema
mark_whole base t m h p d =
    and3 (has_trade (sheets base) t.id) (is_up_to_last_stamp base.last m.stamp)
    (not (is_same_trade_status m.status Completed) || nat_le (due_day_of_completion_stamp base.rule m.stamp) greatest_day) (there base t h) p d

request_whole : (base : Base) (t : Trade) → BooksInvariant base → Known base t → is_well_formed_request_row third_schema (sheets base) (request_row base.accounts t) ≡ true
request_whole base t books h =
    let f = parts6 (is_id t.id) (is_quantity_in_schema third_schema t.qty) (is_price t.bid) (nat_le t.charge greatest_charge)
    (nat_le t.commission greatest_amount) (nat_le t.tax greatest_amount) h.sound.fields in
    and5 (has_trade (sheets base) t.id) (has_security (sheets base) t.symbol) (is_quantity_in_schema third_schema t.qty) (is_price t.bid)
    (has_broker (sheets base) (broker_id_in_accounts base.accounts t.account))
    (there base t h) (has_security_is base t.symbol ∙ h.security) f.1 f.2
    (has_broker_is base (broker_id_in_accounts base.accounts t.account) ∙ broker_found base t.account (account_with_id base t.account) refl h.account books.brokers)

holding_whole : (base : Base) (done : List Trade) (t : Trade) → Done base t → is_well_formed_holding_row (sheets base) (holding_row done t) ≡ true
unfolding tables_sorted_by_key tables_of_base_in_schema
holding_whole base done t h =
    and5 (has_trade (sheets base) t.id) (has_account (sheets base) t.account) (has_security (sheets base) t.symbol)
    (is_up_to_last_stamp base.last (last_status_stamp_of_trade t)) (is_price (completion_price t))
    (there base t h.0) (has_account_is base t.account ∙ h.0.account) (has_security_is base t.symbol ∙ h.0.security) (moment_past base t h.0.sound) (price_of_done t h.0.sound.priced h.1)

row_in : (base : Base) (t : Trade) → Known base t → trade_row_with_id (sheets base) t.id ≡ Some (trade_row t)
row_in base t h = reads_trade base t.id ∙ ap (option_map trade_row) h.found

settlement_whole : (base : Base) (t : Trade) → Done base t → is_well_formed_settlement_row (sheets base) (settlement_row base.accounts base.rule t) ≡ true
settlement_whole base t h =
    and3 (option_map_or (λ row. is_cash_type_of_trade row.is_cash t.cash_type) (trade_row_with_id (sheets base) t.id) false)
    (nat_le (due_day base.rule t) greatest_day) (is_within_amount_limit (settlement_amount base.accounts t))
    (ap (λ o. option_map_or (λ row. is_cash_type_of_trade row.is_cash t.cash_type) o false) (row_in base t h.0) ∙ h.0.sound.cash_type h.1) (moment_due base t h.0.sound h.1) (h.0.sound.amount h.1)

pub same_name : (base : Base) (symbol : Text) → BooksInvariant base → HasValidHistories base → security_name (base_of_tables (sheets base)) symbol ≡ security_name base symbol
same_name base symbol books told =
    ap (λ b. security_name b symbol) (base_again base books told)
    ∙ ap (λ o. option_map_or (λ s. s.name) o []) (find-key (λ s. word s.symbol ∷ []) (λ s. bytes_eq s.symbol symbol) (word symbol ∷ []) base.securities
    (λ s e. let i : s.symbol ≡ symbol = (bytes_eq-Decides s.symbol symbol).0 e in λ j. word (i j) ∷ []))

-- what a completed cash trade posts has form
posted_whole : (base : Base) (t : Trade) → BooksInvariant base → HasValidHistories base → Done base t → t.is_cash ≡ true → HasForm (sheets base) (posting_of_trade base.accounts t)
unfolding tables_sorted_by_key tables_of_base_in_schema
posted_whole base t books told h c = record {
  account = has_account_is base t.account ∙ h.0.account;
  name = ap (λ o. option_map_or (is_cash_row_name_of_trade (sheets base) t.cash_name) o false) (row_in base t h.0) ∙ ap (has_cash_text_with_security_name t) (same_name base t.symbol books told)
      ∙ h.0.sound.cash_name (and_from (is_completed t) t.is_cash h.1 c);
  stamp = moment_past base t h.0.sound;
  amount = h.0.sound.amount h.1;
}

made_past : (o : Option ℕ) (m : Movement) → MovementStampIsAtMostLastStamp o m → is_up_to_last_stamp o m.stamp ≡ true
made_past None m e = absurd e
made_past (Some l) m e = le-leb m.stamp l e

-- and so has what a movement posts
moved_whole : (base : Base) (m : Movement) → is_well_formed_movement m ≡ true → MovementAccountExists base.accounts m
    → MovementStampIsAtMostLastStamp base.last m → HasForm (sheets base) (posting_of_movement m)
unfolding tables_sorted_by_key tables_of_base_in_schema
moved_whole base m f h e =
    let k = and_parts (is_movement_name_and_amount m.name m.amount) (is_within_amount_limit m.amount) f in
    record { account = has_account_is base m.account ∙ h; name = k.0; stamp = made_past base.last m e; amount = k.1 }

all_posted : (base : Base) → BooksInvariant base → AuditInvariant base → HasValidHistories base → AllByRecursion (Done base) (completed_trades base)
    → AllByRecursion (HasForm (sheets base)) (postings_of_base base)
all_posted base books k told dones =
    let P = posting_of_trade base.accounts in
    All-append (HasForm (sheets base)) (map P (cash_trades (completed_trades base))) (map posting_of_movement base.movements)
    (All-mapped (HasForm (sheets base)) P (cash_trades (completed_trades base))
    (All-map (cash_trades (completed_trades base)) (λ t h. posted_whole base t books told h.0 h.1) (filtered (Done base) (λ t. t.is_cash) (completed_trades base) dones)))
    (All-mapped (HasForm (sheets base)) posting_of_movement base.movements
    (All-map base.movements (λ m h. moved_whole base m h.0 h.1.0 h.1.1)
    (both_all (λ m. is_well_formed_movement m ≡ true) (λ m. MovementAccountExists base.accounts m × MovementStampIsAtMostLastStamp base.last m) base.movements k.cash.fields
    (both_all (MovementAccountExists base.accounts) (MovementStampIsAtMostLastStamp base.last) base.movements books.movements.holders books.movements.early))))

ids_low : (base : Base) → AuditInvariant base → AllByRecursion (λ u. u.id ≤ greatest_id) base.trades
ids_low base k = All-map base.trades (λ t h.
    let f = parts6 (is_id t.id) (is_quantity_in_schema third_schema t.qty) (is_price t.bid) (nat_le t.charge greatest_charge)
    (nat_le t.commission greatest_amount) (nat_le t.tax greatest_amount) h.fields in
    leb-true t.id greatest_id (and_parts (nat_le 1 t.id) (nat_le t.id greatest_id) f.0).1) k.trades

moves_whole : (base : Base) → BooksInvariant base → AuditInvariant base → HasValidHistories base → AllByRecursion (Done base) (completed_trades base)
    → AllByRecursion (λ r. is_well_formed_cash_move_row (sheets base) r ≡ true) (numbered_cash_move_rows 1 (postings_sorted_by_stamp (postings_of_base base)))
moves_whole base books k told dones =
    numbered_form (sheets base) 1 (postings_sorted_by_stamp (postings_of_base base)) (omega arith) (few_postings base books.numbered (ids_low base k) k.cash.few)
    (All-sort (HasForm (sheets base)) (λ a b. nat_lt a.stamp b.stamp) (postings_of_base base) (all_posted base books k told dones))

-- ---- all rows of a table

rows_form : {Row : Type 0} (form : Row → Bool) (key : Row → List KeyPart) (rows : List Row) → AllByRecursion (λ r. form r ≡ true) rows → list_all form (rows_sorted_by_key key rows) ≡ true
rows_form form key rows h = all_list form (rows_sorted_by_key key rows) (All-sort (λ r. form r ≡ true) (is_row_key_less key) rows h)

mapped_form : {X Row : Type 0} (form : Row → Bool) (key : Row → List KeyPart) (row : X → Row) (xs : List X) → AllByRecursion (λ x. form (row x) ≡ true) xs
    → list_all form (rows_sorted_by_key key (map row xs)) ≡ true
mapped_form form key row xs h = rows_form form key (map row xs) (All-mapped (λ r. form r ≡ true) row xs h)

-- ---- the records

account_whole : (base : Base) (a : Account) → AuditInvariant base → is_well_formed_account a ≡ true → CustomerOfAccountExists base a → BrokerOfAccountExists base a
    → is_well_formed_account_row (sheets base) (account_row base.accounts (postings_of_base base) a) ≡ true
account_whole base a k h c b =
    let f = parts3 (is_id a.id) (is_name a.name) (is_within_amount_limit a.opening) h in
    and6 (is_id a.id) (is_name a.name) (is_within_amount_limit a.opening)
    (is_within_amount_limit (balance_of_account base.accounts (postings_of_base base) a.id)) (has_customer (sheets base) a.customer)
    (has_broker (sheets base) a.broker)
    f.0 f.1 f.2 (le-leb _ greatest_amount (k.balances a.id)) (has_customer_is base a.customer ∙ c) (has_broker_is base a.broker ∙ b)

permission_whole : (base : Base) (p : Permission) → has_well_formed_permission_texts p ≡ true → PermissionAccountIsListed base.accounts p → is_well_formed_permission_row (sheets base) p ≡ true
permission_whole base p h n =
    let f = parts4 (is_acl p.acl) (is_tax_id p.tax_id) (is_name p.last_name) (is_name p.first_name) h in
    and5 (is_acl p.acl) (is_tax_id p.tax_id) (is_name p.last_name) (is_name p.first_name) (has_account (sheets base) p.account) f.0 f.1 f.2 f.3 (has_account_is base p.account ∙ n)

security_whole : (base : Base) (s : Security) → is_well_formed_security s ≡ true → is_some (security_with_symbol base s.symbol) ≡ true
    → is_well_formed_security_row (sheets base) (security_row s) ≡ true
security_whole base s h n =
    let f = parts5 (is_symbol s.symbol) (is_name s.name) (is_exchange s.exchange) (is_name s.sector) (is_price s.last_price) h in
    and5 (is_symbol s.symbol) (is_name s.name) (is_exchange s.exchange) (is_name s.sector) (list_any (λ l. bytes_eq l.symbol s.symbol) (sheets base).last_trades)
    f.0 f.1 f.2 f.3 (has_last_is base s.symbol ∙ n)

last_trade_whole : (base : Base) (s : Security) → is_well_formed_security s ≡ true → is_some (security_with_symbol base s.symbol) ≡ true
    → is_up_to_last_stamp base.last s.moment ≡ true → HasVolumeWithinLimit s
    → is_well_formed_last_trade_row (sheets base) (last_trade_row s) ≡ true
unfolding tables_sorted_by_key tables_of_base_in_schema
last_trade_whole base s h n m v =
    let f = parts5 (is_symbol s.symbol) (is_name s.name) (is_exchange s.exchange) (is_name s.sector) (is_price s.last_price) h in
    and4 (has_security (sheets base) s.symbol) (is_up_to_last_stamp base.last s.moment) (is_price s.last_price) (nat_le s.volume greatest_amount)
    (has_security_is base s.symbol ∙ n) m f.4 (le-leb s.volume greatest_amount v)

pub rates_same : (base : Base) (customer : ℕ) → tax_rate_sum_of_customer (base_of_tables (sheets base)) customer ≡ tax_rate_sum_of_customer base customer
unfolding base_of_tables
rates_same base customer =
    let T : Tables = sheets base in
    sum-same (λ x. option_map_or (λ r. r.rate) (find (λ r. r.id == x.tax) T.tax_rates) 0) (λ x. unwrap_or (option_map (λ r. r.rate) (find (λ r. r.id == x.tax) T.tax_rates)) 0)
    (filter (λ x. x.customer == customer) T.customer_taxes)
    (All-of (filter (λ x. x.customer == customer) T.customer_taxes) (λ x. sym (map-or (find (λ r. r.id == x.tax) T.tax_rates))))
    ∙ reads_rates base customer

limits_whole : (base : Base) (c : Customer) → AuditInvariant base → is_within_customer_limits (sheets base) c ≡ true
limits_whole base c k =
    and_from (nat_le (length (filter (λ a. a.customer == c.id) (sheets base).accounts)) most_accounts_per_customer)
    (nat_le (tax_rate_sum_of_customer (base_of_tables (sheets base)) c.id) greatest_tax_rate)
    (ap (λ n. nat_le n most_accounts_per_customer) (reads_count base c.id) ∙ le-leb _ most_accounts_per_customer (k.owned c.id))
    (ap (λ n. nat_le n greatest_tax_rate) (rates_same base c.id) ∙ le-leb _ greatest_tax_rate (k.rates c.id))

clock_whole : (o : Option ℕ) → IfSome o (λ last. last ≤ greatest_stamp) → option_map_or (λ last. nat_le last greatest_stamp) o true ≡ true
clock_whole None h = refl
clock_whole (Some n) h = le-leb n greatest_stamp h

-- ---- all tables

pub sound_told : (base : Base) → AuditInvariant base → HasValidHistories base
sound_told base k = record {
  stamps = All-map base.trades (λ t h. h.stamps) k.trades;
  ways = All-map base.trades (λ t h. h.way) k.trades;
  words = All-map base.trades (λ t h. h.words) k.trades;
  movements = k.cash.risen;
}

pub form_of : (base : Base) → BooksInvariant base → AuditInvariant base → satisfies_form_condition third_schema (sheets base) ≡ true
unfolding tables_sorted_by_key tables_of_base_in_schema
form_of base books k =
    let T : Tables = sheets base in
    let done : List Trade = completed_trades base in
    let known : AllByRecursion (Known base) base.trades = known_all base books k in
    let dones : AllByRecursion (Done base) done = done_all base books k in
    let told : HasValidHistories base = sound_told base k in
    let listed = listed_each base in
    form_whole third_schema T (record {
      clock = clock_whole base.last books.clock;
      keys = keys_of base books k;
      tax_ids = tax_ids_apart (rows_sorted_by_key customer_key base.customers) (rows.apart_sort _ (is_row_key_less customer_key) base.customers k.tax_ids);
      kept = rows_form is_well_formed_kept_row kept_key base.kept k.kept;
      brokers = mapped_form is_well_formed_broker_row broker_key (broker_row base.accounts done) base.brokers
          (All-map base.brokers
          (λ b h. and_from (is_id b.id && is_name b.name) (nat_le (commission_total_of_broker base.accounts done b.id) greatest_amount) h
          (le-leb _ greatest_amount (k.commissions b.id))) k.brokers);
      customers = rows_form is_well_formed_customer_row customer_key base.customers k.customers;
      limits = rows_form (is_within_customer_limits T) customer_key base.customers (All-of base.customers (λ c. limits_whole base c k));
      accounts = mapped_form (is_well_formed_account_row T) account_key (account_row base.accounts (postings_of_base base)) base.accounts
          (All-map base.accounts (λ a h. account_whole base a k h.0 h.1.0 h.1.1)
          (both_all (λ a. is_well_formed_account a ≡ true) (λ a. CustomerOfAccountExists base a × BrokerOfAccountExists base a) base.accounts k.accounts
          (both_all (CustomerOfAccountExists base) (BrokerOfAccountExists base) base.accounts books.customers books.brokers)));
      permissions = rows_form (is_well_formed_permission_row T) permission_key base.permissions
          (All-map base.permissions (λ p h. permission_whole base p h.0 h.1)
          (both_all (λ p. has_well_formed_permission_texts p ≡ true) (PermissionAccountIsListed base.accounts) base.permissions k.permissions k.permitted));
      securities = mapped_form (is_well_formed_security_row T) security_key security_row base.securities
          (All-map base.securities (λ s h. security_whole base s h.0 h.1)
          (both_all (λ s. is_well_formed_security s ≡ true) (λ s. is_some (security_with_symbol base s.symbol) ≡ true) base.securities k.securities
          listed));
      last_trades = mapped_form (is_well_formed_last_trade_row T) last_trade_key last_trade_row base.securities
          (All-map base.securities (λ s h. last_trade_whole base s h.0.0 h.0.1 h.1.0 h.1.1)
          (both_all (λ s. (is_well_formed_security s ≡ true) × (is_some (security_with_symbol base s.symbol) ≡ true))
          (λ s. (is_up_to_last_stamp base.last s.moment ≡ true) × HasVolumeWithinLimit s) base.securities
          (both_all (λ s. is_well_formed_security s ≡ true) (λ s. is_some (security_with_symbol base s.symbol) ≡ true) base.securities k.securities listed)
          (both_all (λ s. is_up_to_last_stamp base.last s.moment ≡ true) HasVolumeWithinLimit base.securities k.moments books.volumes)));
      charges = rows_form is_well_formed_charge_row charge_key base.charges k.charges;
      bands = rows_form (is_well_formed_band_row third_schema) band_key base.bands k.bands;
      apart = overlap_none (rows_sorted_by_key band_key base.bands) (bands_sort (is_row_key_less band_key) base.bands books.apart);
      tax_rates = rows_form is_well_formed_tax_rate_row tax_rate_key base.tax_rates k.tax_rates;
      customer_taxes = rows_form (is_well_formed_customer_tax_row T) customer_tax_key base.customer_taxes
          (All-map base.customer_taxes (λ x h. and_from (has_customer T x.customer) (list_any (λ r. r.id == x.tax) T.tax_rates) (has_customer_is base x.customer ∙ h.0) (has_rate_is base x.tax ∙ h.1))
          (both_all (TaxCustomerIsListed base.customers) (TaxRateIsListed base.tax_rates) base.customer_taxes k.payers k.taxes));
      trades = mapped_form (is_well_formed_trade_row third_schema T) trade_key trade_row base.trades (All-map base.trades (λ t h. trade_whole base t h) known);
      numbers = subst (λ rows. are_equal_number_lists (map (λ row. row.id) rows) (range_with_len 1 (length rows)) ≡ true)
          (sym (trades_in_order base books.numbered)) (numbers_whole 1 base.trades books.numbered);
      history = rows_form (is_well_formed_history_row T) history_key (flat_map history_rows base.trades)
          (All-flat_map (λ r. is_well_formed_history_row T r ≡ true) history_rows base.trades (All-map base.trades (λ t h. All-mapped (λ r. is_well_formed_history_row T r ≡ true) (row_of t.id) t.marks
          (All-map t.marks (λ m p. mark_whole base t m h p.0 p.1) (both_all (StatusStampIsAtMostLastStamp base.last) (HasDueDayInCalendar base.rule) t.marks h.sound.past h.sound.due))) known));
      requests = mapped_form (is_well_formed_request_row third_schema T) request_key (request_row base.accounts) (pending_trades base.trades)
          (All-map (pending_trades base.trades) (λ t h. request_whole base t books h) (All-filter (Known base) (has_last_status Pending) base.trades known));
      holdings = rows_form (is_well_formed_holding_row T) holding_key (filter (λ row. not (is_zero row.qty)) (map (holding_row done) done))
          (All-filter (λ r. is_well_formed_holding_row T r ≡ true) (λ row. not (is_zero row.qty)) (map (holding_row done) done)
          (All-mapped (λ r. is_well_formed_holding_row T r ≡ true) (holding_row done) done (All-map done (λ t h. holding_whole base done t h) dones)));
      summaries = rows_form (is_well_formed_summary_row third_schema T) summary_key (flat_map (λ a. flat_map (λ s. summary_rows done a.id s.symbol) base.securities) base.accounts)
          (All-flat_map (λ r. is_well_formed_summary_row third_schema T r ≡ true) (λ a. flat_map (λ s. summary_rows done a.id s.symbol) base.securities) base.accounts (All-map base.accounts (λ a f.
          All-flat_map (λ r. is_well_formed_summary_row third_schema T r ≡ true) (λ s. summary_rows done a.id s.symbol) base.securities (All-map base.securities (λ s g.
          All-rows (λ r. is_well_formed_summary_row third_schema T r ≡ true) done a.id s.symbol
          (and3 (has_account T a.id) (has_security T s.symbol) (nat_le (nat_abs (holding_summary_quantity done a.id s.symbol)) greatest_summary_quantity)
          (has_account_is base a.id ∙ f) (has_security_is base s.symbol ∙ g)
          (le-leb _ greatest_summary_quantity (k.summaries a.id s.symbol)))) listed)) (held_each base)));
      holding_history = subst
          (λ (rows : List HoldingHistoryRow). list_all (is_well_formed_holding_history_row T) (rows_sorted_by_key holding_history_key rows) ≡ true)
          (sym (rows_of_lots_are done done))
          (rows_form (is_well_formed_holding_history_row T) holding_history_key (flat_map (lot_rows_with_quantity_change done) done)
          (All-flat_map (λ r. is_well_formed_holding_history_row T r ≡ true) (lot_rows_with_quantity_change done) done (All-map done (λ t h.
          All-history (λ l n. has_trade T l && has_trade T n ≡ true) done t
          (All-mapped (λ d. has_trade T t.id && has_trade T d.trade ≡ true) deal_of_trade
          (sort_by (λ x y. nat_lt (last_status_stamp_of_trade x) (last_status_stamp_of_trade y)) (trades_of_position done t.account t.symbol))
          (All-sort (λ u. has_trade T t.id && has_trade T u.id ≡ true) (λ x y. nat_lt (last_status_stamp_of_trade x) (last_status_stamp_of_trade y)) (trades_of_position done t.account t.symbol)
          (All-filter (λ u. has_trade T t.id && has_trade T u.id ≡ true) (λ u. bytes_eq u.symbol t.symbol) (trades_of_account done t.account)
          (All-filter (λ u. has_trade T t.id && has_trade T u.id ≡ true) (λ u. u.account == t.account) done
          (All-map done (λ u g. and_from (has_trade T t.id) (has_trade T u.id) (there base t h.0) (there base u g.0)) dones)))))) dones)));
      settlements = mapped_form (is_well_formed_settlement_row T) settlement_key (settlement_row base.accounts base.rule) done (All-map done (λ t h. settlement_whole base t h) dones);
      cash = rows_form (is_well_formed_cash_transaction_row T) cash_transaction_key [] tt;
      moves = rows_form (is_well_formed_cash_move_row T) cash_move_key (numbered_cash_move_rows 1 (postings_sorted_by_stamp (postings_of_base base))) (moves_whole base books k told dones);
      own_moves = ap (λ rows. all_distinct (trade_ids_of_cash_rows rows)) (numbered_stay 1 (postings_sorted_by_stamp (postings_of_base base))) ∙ moves_own base books;
      counted = ap (λ n. nat_le n greatest_id) (moves_counted base) ∙ le-leb (length base.movements) greatest_id k.cash.few;
      rule = k.cash.day;
      fits = refl;
    })
