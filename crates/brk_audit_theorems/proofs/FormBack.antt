-- A base with the books invariant, valid histories and tables that satisfy `Form` satisfies the
-- audit invariant.
use Rattle.std.proofs.Common.{◌≡◌, ◌≤◌, ℕ, ◌==◌, ◌+◌, Bool, true, false, not, cond, List, [], ◌∷◌, refl, sym, ◌∙◌, ap, subst, map, filter, length, arith}
use Rattle.std.proofs.Common.{Option, Some, None, pos, negsuc, zero, suc, ℤ, ◌+ℤ◌}
use Rattle.std.specs.Prelude.{◌&&◌, ◌||◌, bytes_eq, find, flat_map, is_none, is_some, nat_abs, nat_le, option_map, sum_by, nat_lt}
use Rattle.std.specs.List.{AllByRecursion, list_all, list_any}
use Rattle.std.specs.Option.{option_map_or}
use Rattle.std.proofs.lemmas.Bool.{and_parts, eqb-true, leb-true, not-true, and_from}
use Rattle.std.proofs.lemmas.Slice.Eq.{bytes_eq-Decides}
use Rattle.brk_money.specs.Spelling.{Text, is_within_amount_limit}
use Rattle.brk_money.specs.Moments.{greatest_day}
use Rattle.brk_money.specs.Kinds.{is_same_trade_status, side_of_trade_type}
use Rattle.brk_money.specs.declared.status.Status.TheVariants.{Completed}
use Rattle.brk_trade_books.proofs.MoveReading.{moves_counted, rows_posted}
use Rattle.brk_audit_theorems.proofs.UpgradedForm.{HasForm, move_posted}
use Rattle.brk_model.specs.Schemas.{third_schema}
use Rattle.brk_model.specs.Limits.{greatest_amount, greatest_charge, greatest_summary_quantity, greatest_tax_rate, most_accounts_per_customer, greatest_id}
use Rattle.brk_model.specs.Lists.{insert_by, is_zero, sort_by, total_by}
use Rattle.brk_model.specs.Records.{Account, Customer, Trade}
use Rattle.brk_model.specs.Base.{Base, account_with_id, broker_with_id, completed_trades, customer_with_id, is_completed, last_status_stamp_of_trade}
use Rattle.brk_model.specs.Base.{tax_rate_sum_of_customer, security_with_symbol, tax_rate_record_with_id, trade_with_id}
use Rattle.brk_model.specs.Derived.{settlement_amount, balance_of_account, cash_trades, commission_total_of_broker, due_day, trades_of_account}
use Rattle.brk_model.specs.Derived.{trades_of_broker, trades_of_position, holding_summary_quantity, postings_to_account, posting_of_movement, posting_of_trade}
use Rattle.brk_model.specs.Derived.{postings_of_base, due_day_of_completion_stamp}
use Rattle.brk_model.specs.Shares.{signed_by_side}
use Rattle.brk_model.specs.Tables.{Tables, account_row, broker_row, history_rows, last_trade_row, security_row, settlement_row, summary_rows, tables_of_base_in_schema, trade_row}
use Rattle.brk_model.specs.Sheets.{sheets, tables_sorted_by_key}
use Rattle.brk_model.specs.Adopted.{base_of_tables, posting_of_cash_move_row}
use Rattle.brk_model.specs.Joins.{history_rows_with_trade_id, trade_row_with_id}
use Rattle.brk_model.specs.Form.{is_well_formed_account_row, is_well_formed_broker_row, is_well_formed_charge_row}
use Rattle.brk_model.specs.Form.{is_well_formed_customer_row, is_within_customer_limits, is_well_formed_customer_tax_row, has_account, has_broker, has_customer}
use Rattle.brk_model.specs.Form.{satisfies_form_condition, has_security, has_trade, is_well_formed_history_row, is_cash_row_name_of_trade}
use Rattle.brk_model.specs.Form.{is_cash_type_of_trade, is_id, is_up_to_last_stamp, is_price, is_quantity_in_schema, is_well_formed_last_trade_row}
use Rattle.brk_model.specs.Form.{has_distinct_tax_ids, is_well_formed_permission_row, has_price_matching_completion, is_well_formed_security_row}
use Rattle.brk_model.specs.Form.{is_well_formed_settlement_row, is_well_formed_summary_row, is_well_formed_trade_row, is_movement_name_and_amount}
use Rattle.brk_model.specs.Form.{is_well_formed_cash_move_row}
use Rattle.brk_model.specs.Forms.{is_acl, is_exchange, is_name, is_symbol, is_tax_id}
use Rattle.brk_model.specs.Keys.{KeyPart, word, rows_sorted_by_key, is_row_key_less, account_key, band_key, broker_key, charge_key}
use Rattle.brk_model.specs.Keys.{customer_key, customer_tax_key, history_key, kept_key, last_trade_key, permission_key, security_key, settlement_key}
use Rattle.brk_model.specs.Keys.{summary_key, tax_rate_key, trade_key}
use Rattle.brk_trade_books.specs.Books.{BooksInvariant}
use Rattle.brk_trade_books.proofs.NewKeys.{same_bytes, unused}
use Rattle.brk_trade_books.proofs.Order.{NewKey, by_key-filter}
use Rattle.brk_trade_books.proofs.Same.{All-filter, All-map, any-none, filter-none, All-mapped}
use Rattle.brk_trade_books.proofs.Completing.{All-unfilter, All-unsort}
use Rattle.brk_trade_books.proofs.Reading.{any-sorted, reads_count}
use Rattle.brk_trade_books.proofs.References.{no_broker_trades, no_trades_of, nothing_posted}
use Rattle.brk_trade_books.proofs.LotReading.{numbered_rise, rise_apart}
use Rattle.brk_trade_books.proofs.TradeReading.{reads_trade}
use Rattle.brk_trade_books.proofs.Tested.{All-back, All-front}
use Rattle.brk_audit_theorems.specs.Histories.{HasValidStatusSequence, HasSettlementAndCashTextsOnlyIfCompleted, HasValidHistories, HasAscendingStatusStamps, broker_id_key}
use Rattle.brk_audit_theorems.proofs.Again.{IsRead, both_all, reads}
use Rattle.brk_audit_theorems.proofs.Climbs.{Climbs, list_all_true, not_itself, of_all}
use Rattle.brk_audit_theorems.proofs.Members.{found_in}
use Rattle.brk_audit_theorems.proofs.Parts.{KeyParts, key_parts}
use Rattle.brk_model_theorems.specs.FormParts.{SatisfiesFormParts}
use Rattle.brk_model_theorems.proofs.FormParts.{form_parts}
use Rattle.brk_model_theorems.proofs.Conjunctions.{parts3, parts4, parts5, parts6, parts10}
use Rattle.brk_audit_theorems.specs.Sound.{AuditInvariant, BaseTradeAuditInvariant, HasDistinctKeys, TaxCustomerIsListed, customer_tax_id_key}
use Rattle.brk_audit_theorems.specs.Sound.{has_cash_text_with_security_name, is_well_formed_movement}
use Rattle.brk_audit_theorems.proofs.OneTrade.{false_true}
use Rattle.brk_model_theorems.proofs.Conjunctions.{and5, and6}
use Rattle.brk_audit_theorems.proofs.FormRows.{any_mark, found_trades, has_account_is, has_customer_is, has_rate_is, rates_same, row_of, same_name}
use Rattle.brk_model_theorems.proofs.Conjunctions.{and3, and4}

-- ---- back from sorted lists and lists made of others

pub All-unmapped : {X Y : Type 0} (P : Y → Type 0) (f : X → Y) (xs : List X) → AllByRecursion P (map f xs) → AllByRecursion (λ x. P (f x)) xs
All-unmapped P f [] h = tt
All-unmapped P f (x ∷ xs) h = (h.0, All-unmapped P f xs h.1)

All-unflat : {X Y : Type 0} (P : Y → Type 0) (f : X → List Y) (xs : List X) → AllByRecursion P (flat_map f xs) → AllByRecursion (λ x. AllByRecursion P (f x)) xs
All-unflat P f [] h = tt
All-unflat P f (x ∷ xs) h = (All-front P (f x) (flat_map f xs) h, All-unflat P f xs (All-back P (f x) (flat_map f xs) h))

back_rows : {Row : Type 0} (form : Row → Bool) (key : Row → List KeyPart) (rows : List Row) → list_all form (rows_sorted_by_key key rows) ≡ true → AllByRecursion (λ r. form r ≡ true) rows
back_rows form key rows h = All-unsort (λ r. form r ≡ true) (is_row_key_less key) rows (list_all_true form (rows_sorted_by_key key rows) h)

back_mapped : {X Row : Type 0} (form : Row → Bool) (key : Row → List KeyPart) (row : X → Row) (xs : List X)
    → list_all form (rows_sorted_by_key key (map row xs)) ≡ true → AllByRecursion (λ x. form (row x) ≡ true) xs
back_mapped form key row xs h = All-unmapped (λ r. form r ≡ true) row xs (back_rows form key (map row xs) h)

climbs_apart : {Row : Type 0} (key : Row → List KeyPart) (xs : List Row) → Climbs key xs → HasDistinctKeys key xs
climbs_apart key [] c = tt
climbs_apart key (x ∷ xs) c = (All-map xs (λ y h e. not_itself (key x) (key y) (sym e) h) c.0, climbs_apart key xs c.1)

apart_taken : {Row : Type 0} (key : Row → List KeyPart) (before : Row → Row → Bool) (x : Row) (ys : List Row) → HasDistinctKeys key (insert_by before x ys) → NewKey key x ys × HasDistinctKeys key ys
apart_taken key before x [] a = (tt, tt)
apart_taken {Row = Row} key before x (y ∷ ys) a = by_test (before y x) a (apart_taken key before x ys)
  where
    by_test : (b : Bool) → HasDistinctKeys key (cond b (y ∷ insert_by before x ys) (x ∷ y ∷ ys))
        → (HasDistinctKeys key (insert_by before x ys) → NewKey key x ys × HasDistinctKeys key ys) → NewKey key x (y ∷ ys) × HasDistinctKeys key (y ∷ ys)
    by_test true k ih =
        let r = ih k.1 in
        let new : AllByRecursion (λ z. key z ≡ key y → ⊥) (x ∷ ys) = out (λ z. key z ≡ key y → ⊥) x ys k.0 in
        (((λ e. new.0 (sym e)), r.0), (new.1, r.1))
      where
        out : (P : Row → Type 0) (x : Row) (ys : List Row) → AllByRecursion P (insert_by before x ys) → AllByRecursion P (x ∷ ys)
        out P x [] h = h
        out P x (z ∷ zs) h = by_place (before z x) h (out P x zs)
          where
            by_place : (b : Bool) → AllByRecursion P (cond b (z ∷ insert_by before x zs) (x ∷ z ∷ zs))
                → (AllByRecursion P (insert_by before x zs) → AllByRecursion P (x ∷ zs)) → AllByRecursion P (x ∷ z ∷ zs)
            by_place true h ih = let g = ih h.1 in (g.0, (h.0, g.1))
            by_place false h ih = h
    by_test false k ih = k

apart_unsort : {Row : Type 0} (key : Row → List KeyPart) (before : Row → Row → Bool) (xs : List Row) → HasDistinctKeys key (sort_by before xs) → HasDistinctKeys key xs
unfolding sort_by
apart_unsort key before [] a = tt
apart_unsort key before (x ∷ xs) a = let k = apart_taken key before x (sort_by before xs) a in (All-unsort (λ y. key y ≡ key x → ⊥) before xs k.0, apart_unsort key before xs k.1)

apart_unmap : {X Row : Type 0} (key : X → List KeyPart) (key' : Row → List KeyPart) (f : X → Row) (xs : List X) → ((z : X) → key' (f z) ≡ key z)
    → HasDistinctKeys key' (map f xs) → HasDistinctKeys key xs
apart_unmap key key' f [] e a = tt
apart_unmap key key' f (x ∷ xs) e a =
    (All-map xs (λ y h p. h (e y ∙ p ∙ sym (e x))) (All-unmapped (λ r. key' r ≡ key' (f x) → ⊥) f xs a.0), apart_unmap key key' f xs e a.1)

back_keys : {Row : Type 0} (key : Row → List KeyPart) (xs : List Row) → Climbs key (rows_sorted_by_key key xs) → HasDistinctKeys key xs
back_keys key xs c = apart_unsort key (is_row_key_less key) xs (climbs_apart key (rows_sorted_by_key key xs) c)

word_of : (s t : Text) → word s ∷ [] ≡ word t ∷ [] → s ≡ t
word_of s t e = cc

tax_ids_each : (cs : List Customer) → has_distinct_tax_ids cs ≡ true → HasDistinctKeys customer_tax_id_key cs
tax_ids_each [] e = tt
tax_ids_each (c ∷ cs) e =
    let p = and_parts (not (list_any (λ d. bytes_eq d.tax_id c.tax_id) cs)) (has_distinct_tax_ids cs) e in (
      All-map cs (λ d h q. false_true (sym h ∙ same_bytes d.tax_id c.tax_id (word_of d.tax_id c.tax_id q)))
          (any-none (λ d. bytes_eq d.tax_id c.tax_id) cs (not-true (list_any (λ d. bytes_eq d.tax_id c.tax_id) cs) p.0)),
      tax_ids_each cs p.1,
    )

-- ---- limits of what is there, and of what is not

found_item : {X : Type 0} (p : X → Bool) (xs : List X) (P : X → Type 0) → AllByRecursion P xs → is_some (find p xs) ≡ true → (x : X) × (P x × (p x ≡ true))
found_item p xs P h e = let f = found_in p xs e in (f.item, (of_all P xs f.item h f.there, f.passes))

-- what is found is not what is not found
other_id : {X : Type 0} (found : ℕ → Option X) (id other : ℕ) → is_some (found id) ≡ false → is_some (found other) ≡ true → (other == id) ≡ false
other_id found id other h k = by_test (other == id) refl
  where
    by_test : (b : Bool) → (other == id) ≡ b → (other == id) ≡ false
    by_test false e = e
    by_test true e = false_true (sym h ∙ ap (λ n. is_some (found n)) (sym (eqb-true other id e)) ∙ k)

by_some : (b : Bool) (A : Type 0) → (b ≡ true → A) → (b ≡ false → A) → A
by_some true A f g = f refl
by_some false A f g = g refl

sum_none : {X : Type 0} (f : X → ℕ) (xs : List X) (m : ℕ) → xs ≡ [] → sum_by f xs ≤ m
sum_none f xs m e = subst (λ ys. sum_by f ys ≤ m) (sym e) (omega arith)

commissions_back : (base : Base) (broker : ℕ) → BooksInvariant base → AllByRecursion (λ b. commission_total_of_broker base.accounts (completed_trades base) b.id ≤ greatest_amount) base.brokers
    → commission_total_of_broker base.accounts (completed_trades base) broker ≤ greatest_amount
unfolding commission_total_of_broker
commissions_back base broker books h =
    by_some (is_some (broker_with_id base broker)) _
    (λ e. let f = found_item (λ b. b.id == broker) base.brokers (λ b. commission_total_of_broker base.accounts (completed_trades base) b.id ≤ greatest_amount) h e in
    subst (λ n. commission_total_of_broker base.accounts (completed_trades base) n ≤ greatest_amount) (eqb-true f.0.id broker f.1.1) f.1.0)
    (λ e. sum_none (λ t. t.commission) (trades_of_broker base.accounts (completed_trades base) broker) greatest_amount (no_broker_trades base broker books e))

no_account : (base : Base) (o : Option Account) → is_some o ≡ false → option_map_or (λ a. a.opening) o (pos 0) ≡ pos 0
no_account base None e = refl
no_account base (Some a) e = false_true (sym e)

no_balance : (base : Base) (account : ℕ) → BooksInvariant base → is_some (account_with_id base account) ≡ false
    → nat_abs (balance_of_account base.accounts (postings_of_base base) account) ≤ greatest_amount
unfolding balance_of_account total_by
no_balance base account books e =
    subst (λ z. nat_abs (z +ℤ total_by (λ p. p.amount) (postings_to_account (postings_of_base base) account)) ≤ greatest_amount) (sym (no_account base (account_with_id base account) e))
    (subst (λ ps. nat_abs (pos 0 +ℤ total_by (λ p. p.amount) ps) ≤ greatest_amount) (sym (nothing_posted base account books e)) (omega arith))

balances_back : (base : Base) (account : ℕ) → BooksInvariant base → AllByRecursion (λ a. nat_abs (balance_of_account base.accounts (postings_of_base base) a.id) ≤ greatest_amount) base.accounts
    → nat_abs (balance_of_account base.accounts (postings_of_base base) account) ≤ greatest_amount
balances_back base account books h =
    by_some (is_some (account_with_id base account)) _
    (λ e. let f = found_item (λ a. a.id == account) base.accounts (λ a. nat_abs (balance_of_account base.accounts (postings_of_base base) a.id) ≤ greatest_amount) h e in
    subst (λ n. nat_abs (balance_of_account base.accounts (postings_of_base base) n) ≤ greatest_amount) (eqb-true f.0.id account f.1.1) f.1.0)
    (no_balance base account books)

length_none : {X : Type 0} (xs : List X) (m : ℕ) → xs ≡ [] → length xs ≤ m
length_none xs m e = subst (λ ys. length ys ≤ m) (sym e) (omega arith)

owned_back : (base : Base) (customer : ℕ) → BooksInvariant base → AllByRecursion (λ c. length (filter (λ a. a.customer == c.id) base.accounts) ≤ most_accounts_per_customer) base.customers
    → length (filter (λ a. a.customer == customer) base.accounts) ≤ most_accounts_per_customer
owned_back base customer books h =
    by_some (is_some (customer_with_id base customer)) _
    (λ e. let f = found_item (λ c. c.id == customer) base.customers (λ c. length (filter (λ a. a.customer == c.id) base.accounts) ≤ most_accounts_per_customer) h e in
    subst (λ n. length (filter (λ a. a.customer == n) base.accounts) ≤ most_accounts_per_customer) (eqb-true f.0.id customer f.1.1) f.1.0)
    (λ e. length_none (filter (λ a. a.customer == customer) base.accounts) most_accounts_per_customer (filter-none (λ a. a.customer == customer) base.accounts
    (All-map base.accounts (λ a k. other_id (customer_with_id base) customer a.customer e k) books.customers)))

rates_back : (base : Base) (customer : ℕ) → AllByRecursion (TaxCustomerIsListed base.customers) base.customer_taxes
    → AllByRecursion (λ c. tax_rate_sum_of_customer base c.id ≤ greatest_tax_rate) base.customers
    → tax_rate_sum_of_customer base customer ≤ greatest_tax_rate
rates_back base customer payers h =
    by_some (is_some (customer_with_id base customer)) _
    (λ e. let f = found_item (λ c. c.id == customer) base.customers (λ c. tax_rate_sum_of_customer base c.id ≤ greatest_tax_rate) h e in
    subst (λ n. tax_rate_sum_of_customer base n ≤ greatest_tax_rate) (eqb-true f.0.id customer f.1.1) f.1.0)
    (λ e. sum_none (λ x. option_map_or (λ r. r.rate) (tax_rate_record_with_id base x.tax) 0) (filter (λ x. x.customer == customer) base.customer_taxes) greatest_tax_rate
    (filter-none (λ x. x.customer == customer) base.customer_taxes (All-map base.customer_taxes (λ x k. other_id (customer_with_id base) customer x.customer e k) payers)))

-- the summary of a position whose row is in form, if there is one
row_low : (T : Tables) (done : List Trade) (account : ℕ) (symbol : Text) → AllByRecursion (λ r. is_well_formed_summary_row third_schema T r ≡ true) (summary_rows done account symbol)
    → nat_abs (holding_summary_quantity done account symbol) ≤ greatest_summary_quantity
row_low T done account symbol h = by_zero (not (is_zero (holding_summary_quantity done account symbol))) refl h
  where
    zero_low : (z : ℤ) → not (is_zero z) ≡ false → nat_abs z ≤ greatest_summary_quantity
    zero_low (pos zero) e = omega arith
    zero_low (pos (suc n)) e = false_true (sym e)
    zero_low (negsuc n) e = false_true (sym e)

    by_zero : (b : Bool) → not (is_zero (holding_summary_quantity done account symbol)) ≡ b
        → AllByRecursion (λ r. is_well_formed_summary_row third_schema T r ≡ true)
        (cond b (record { account = account; symbol = symbol; qty = holding_summary_quantity done account symbol } ∷ []) [])
        → nat_abs (holding_summary_quantity done account symbol) ≤ greatest_summary_quantity
    by_zero true e k =
        leb-true (nat_abs (holding_summary_quantity done account symbol)) greatest_summary_quantity
        (parts3 (has_account T account) (has_security T symbol) (nat_le (nat_abs (holding_summary_quantity done account symbol)) greatest_summary_quantity) k.0).2
    by_zero false e k = zero_low (holding_summary_quantity done account symbol) e

no_summary_low : (done : List Trade) (account : ℕ) (symbol : Text) → trades_of_position done account symbol ≡ [] → nat_abs (holding_summary_quantity done account symbol) ≤ greatest_summary_quantity
unfolding holding_summary_quantity total_by
no_summary_low done account symbol e = subst (λ ts. nat_abs (total_by (λ t. signed_by_side (side_of_trade_type t.kind) t.qty) ts) ≤ greatest_summary_quantity) (sym e) (omega arith)

summaries_back : (base : Base) (account : ℕ) (symbol : Text) → BooksInvariant base
    → AllByRecursion (λ a. AllByRecursion (λ s. nat_abs (holding_summary_quantity (completed_trades base) a.id s.symbol) ≤ greatest_summary_quantity) base.securities) base.accounts
    → nat_abs (holding_summary_quantity (completed_trades base) account symbol) ≤ greatest_summary_quantity
summaries_back base account symbol books h =
    let done : List Trade = completed_trades base in
    by_some (is_some (account_with_id base account)) _
    (λ e. let f = found_item (λ a. a.id == account) base.accounts (λ a. AllByRecursion (λ s. nat_abs (holding_summary_quantity done a.id s.symbol) ≤ greatest_summary_quantity) base.securities) h e in
    by_some (is_some (security_with_symbol base symbol)) _
    (λ g. let s = found_item (λ s. bytes_eq s.symbol symbol) base.securities (λ s. nat_abs (holding_summary_quantity done f.0.id s.symbol) ≤ greatest_summary_quantity) f.1.0 g in
    subst (λ n. nat_abs (holding_summary_quantity done n symbol) ≤ greatest_summary_quantity) (eqb-true f.0.id account f.1.1)
    (subst (λ x. nat_abs (holding_summary_quantity done f.0.id x) ≤ greatest_summary_quantity) ((bytes_eq-Decides s.0.symbol symbol).0 s.1.1) s.1.0))
    (λ g. no_summary_low done account symbol (filter-none (λ t. bytes_eq t.symbol symbol) (trades_of_account done account)
    (All-filter (λ t. bytes_eq t.symbol symbol ≡ false) (λ t. t.account == account) done
    (All-filter (λ t. bytes_eq t.symbol symbol ≡ false) is_completed base.trades (unused base symbol base.trades g books.securities))))))
    (λ e. no_summary_low done account symbol (ap (filter (λ t. bytes_eq t.symbol symbol)) (no_trades_of base account books e)))

-- ---- trades

-- what is known of each trade
record Read (base : Base) (t : Trade) : Type 0 where
  pub row : is_well_formed_trade_row third_schema (sheets base) (trade_row t) ≡ true
  pub history : AllByRecursion (λ r. is_well_formed_history_row (sheets base) r ≡ true) (history_rows t)
  pub stamps : HasAscendingStatusStamps t
  pub way : HasValidStatusSequence t
  pub words : HasSettlementAndCashTextsOnlyIfCompleted t
  pub found : trade_with_id base t.id ≡ Some t
  pub read : IsRead base t
  pub settled : is_completed t ≡ true → is_well_formed_settlement_row (sheets base) (settlement_row base.accounts base.rule t) ≡ true
  pub moved : is_completed t ≡ true → t.is_cash ≡ true → HasForm (sheets base) (posting_of_trade base.accounts t)

row_of_trade : (base : Base) (t : Trade) → trade_with_id base t.id ≡ Some t → trade_row_with_id (sheets base) t.id ≡ Some (trade_row t)
row_of_trade base t e = reads_trade base t.id ∙ ap (option_map trade_row) e

trade_back : (base : Base) (t : Trade) → BooksInvariant base → HasValidHistories base → Read base t → BaseTradeAuditInvariant base t
unfolding tables_sorted_by_key tables_of_base_in_schema
trade_back base t books told h =
    let T : Tables = sheets base in
    let f = parts10 (is_id t.id) (is_quantity_in_schema third_schema t.qty) (is_price t.bid) (nat_le t.charge greatest_charge) (nat_le t.commission greatest_amount) (nat_le t.tax greatest_amount)
    (is_up_to_last_stamp base.last (last_status_stamp_of_trade t)) (has_security T t.symbol) (has_account T t.account) (has_price_matching_completion T (trade_row t)) h.row in
    let marks = All-map t.marks
    (λ m k. parts3 (has_trade T t.id) (is_up_to_last_stamp base.last m.stamp)
    (not (is_same_trade_status m.status Completed) || nat_le (due_day_of_completion_stamp base.rule m.stamp) greatest_day) k)
    (All-unmapped (λ r. is_well_formed_history_row T r ≡ true) (row_of t.id) t.marks h.history) in
    let done : list_any (λ h. is_same_trade_status h.status Completed) (history_rows_with_trade_id T t.id) ≡ is_completed t =
    ap (list_any (λ h. is_same_trade_status h.status Completed))
    (sym (by_key-filter history_key (λ h. h.trade == t.id) (flat_map history_rows base.trades)) ∙ ap (rows_sorted_by_key history_key) h.read.history)
    ∙ any-sorted history_key (λ h. is_same_trade_status h.status Completed) (history_rows t) ∙ any_mark t.id t.marks h.way in
    let row = row_of_trade base t h.found in
    record {
      alone = record {
        fields = and6 (is_id t.id) (is_quantity_in_schema third_schema t.qty) (is_price t.bid) (nat_le t.charge greatest_charge)
            (nat_le t.commission greatest_amount) (nat_le t.tax greatest_amount) f.0 f.1 f.2 f.3 f.4 f.5;
        stamps = h.stamps;
        way = h.way;
        priced = sym (ap (λ b. cond b (option_map_or is_price t.price false) (is_none t.price)) done) ∙ f.9;
        words = h.words;
        cash_type = λ d.
            let p = parts3 (option_map_or (λ row. is_cash_type_of_trade row.is_cash t.cash_type) (trade_row_with_id T t.id) false)
            (nat_le (due_day base.rule t) greatest_day) (is_within_amount_limit (settlement_amount base.accounts t)) (h.settled d) in
            sym (ap (λ o. option_map_or (λ row. is_cash_type_of_trade row.is_cash t.cash_type) o false) row) ∙ p.0;
      };
      past = All-map t.marks (λ m k. k.1) marks;
      due = All-map t.marks (λ m k. k.2) marks;
      cash_name = λ d.
          let c = and_parts (is_completed t) t.is_cash d in
          sym (ap (has_cash_text_with_security_name t) (same_name base t.symbol books told))
          ∙ sym (ap (λ o. option_map_or (is_cash_row_name_of_trade T t.cash_name) o false) row) ∙ (h.moved c.0 c.1).name;
      amount = λ d. (parts3 (option_map_or (λ row. is_cash_type_of_trade row.is_cash t.cash_type) (trade_row_with_id T t.id) false)
          (nat_le (due_day base.rule t) greatest_day) (is_within_amount_limit (settlement_amount base.accounts t)) (h.settled d)).2;
    }

-- the postings of a base whose cash rows have form
posted_back : (base : Base) → list_all (is_well_formed_cash_move_row (sheets base)) (sheets base).moves ≡ true → AllByRecursion (HasForm (sheets base)) (postings_of_base base)
posted_back base f =
    All-unsort (HasForm (sheets base)) (λ a b. nat_lt a.stamp b.stamp) (postings_of_base base)
    (subst (AllByRecursion (HasForm (sheets base))) (rows_posted base)
    (All-mapped (HasForm (sheets base)) posting_of_cash_move_row (sheets base).moves
    (All-map (sheets base).moves (move_posted (sheets base)) (list_all_true (is_well_formed_cash_move_row (sheets base)) (sheets base).moves f))))

cash_back : (base : Base) → AllByRecursion (HasForm (sheets base)) (postings_of_base base)
    → AllByRecursion (λ t. HasForm (sheets base) (posting_of_trade base.accounts t)) (cash_trades (completed_trades base))
cash_back base h =
    All-unmapped (HasForm (sheets base)) (posting_of_trade base.accounts) (cash_trades (completed_trades base))
    (All-front (HasForm (sheets base)) (map (posting_of_trade base.accounts) (cash_trades (completed_trades base))) (map posting_of_movement base.movements) h)

movements_formed : (base : Base) → AllByRecursion (HasForm (sheets base)) (postings_of_base base) → AllByRecursion (λ m. is_well_formed_movement m ≡ true) base.movements
movements_formed base h =
    All-map base.movements (λ m k. and_from (is_movement_name_and_amount m.name m.amount) (is_within_amount_limit m.amount) k.name k.amount)
    (All-unmapped (HasForm (sheets base)) posting_of_movement base.movements
    (All-back (HasForm (sheets base)) (map (posting_of_trade base.accounts) (cash_trades (completed_trades base))) (map posting_of_movement base.movements) h))

reads_back : (base : Base) → BooksInvariant base → HasValidHistories base → SatisfiesFormParts third_schema (sheets base) → AllByRecursion (Read base) base.trades
unfolding tables_sorted_by_key tables_of_base_in_schema
reads_back base books told f =
    let T : Tables = sheets base in
    let done : List Trade = completed_trades base in
    let S = All-unfilter (λ t. is_well_formed_settlement_row T (settlement_row base.accounts base.rule t) ≡ true) is_completed base.trades
    (back_mapped (is_well_formed_settlement_row T) settlement_key (settlement_row base.accounts base.rule) done f.settlements) in
    let C = All-unfilter (λ t. t.is_cash ≡ true → HasForm T (posting_of_trade base.accounts t)) is_completed base.trades
    (All-unfilter (λ t. HasForm T (posting_of_trade base.accounts t)) (λ t. t.is_cash) done (cash_back base (posted_back base f.moves))) in
    All-map base.trades (λ t h. record {
      row = h.0;
      history = h.1.0;
      stamps = h.1.1.0;
      way = h.1.1.1.0;
      words = h.1.1.1.1.0;
      found = h.1.1.1.1.1.0;
      read = h.1.1.1.1.1.1.0;
      settled = h.1.1.1.1.1.1.1.0;
      moved = h.1.1.1.1.1.1.1.1;
    })
    (both_all _ _ base.trades (back_mapped (is_well_formed_trade_row third_schema T) trade_key trade_row base.trades f.trades)
    (both_all _ _ base.trades
    (All-unflat (λ r. is_well_formed_history_row T r ≡ true) history_rows base.trades
    (back_rows (is_well_formed_history_row T) history_key (flat_map history_rows base.trades) f.history))
    (both_all _ _ base.trades told.stamps
    (both_all _ _ base.trades told.ways
    (both_all _ _ base.trades told.words
    (both_all _ _ base.trades (found_trades base.trades (rise_apart base.trades (numbered_rise 1 base.trades books.numbered)))
    (both_all _ _ base.trades (reads base books.numbered)
    (both_all _ _ base.trades S C))))))))

-- ---- all of it

pub sound_back : (base : Base) → BooksInvariant base → HasValidHistories base → satisfies_form_condition third_schema (sheets base) ≡ true → AuditInvariant base
unfolding tables_sorted_by_key tables_of_base_in_schema
sound_back base books told form =
    let T : Tables = sheets base in
    let done : List Trade = completed_trades base in
    let f : SatisfiesFormParts third_schema T = form_parts third_schema T form in
    let r : KeyParts T = key_parts T f.keys in
    let brokers = All-map base.brokers (λ b h. and_parts (is_id b.id && is_name b.name) (nat_le (commission_total_of_broker base.accounts done b.id) greatest_amount) h)
    (back_mapped is_well_formed_broker_row broker_key (broker_row base.accounts done) base.brokers f.brokers) in
    let accounts = All-map base.accounts
    (λ a h. parts6 (is_id a.id) (is_name a.name) (is_within_amount_limit a.opening)
    (is_within_amount_limit (balance_of_account base.accounts (postings_of_base base) a.id)) (has_customer T a.customer) (has_broker T a.broker) h)
    (back_mapped (is_well_formed_account_row T) account_key (account_row base.accounts (postings_of_base base)) base.accounts f.accounts) in
    let permissions = All-map base.permissions (λ p h. parts5 (is_acl p.acl) (is_tax_id p.tax_id) (is_name p.last_name) (is_name p.first_name) (has_account T p.account) h)
    (back_rows (is_well_formed_permission_row T) permission_key base.permissions f.permissions) in
    let securities = All-map base.securities
    (λ s h. parts5 (is_symbol s.symbol) (is_name s.name) (is_exchange s.exchange) (is_name s.sector)
    (list_any (λ l. bytes_eq l.symbol s.symbol) T.last_trades) h)
    (back_mapped (is_well_formed_security_row T) security_key security_row base.securities f.securities) in
    let lasts = All-map base.securities (λ s h. parts4 (has_security T s.symbol) (is_up_to_last_stamp base.last s.moment) (is_price s.last_price) (nat_le s.volume greatest_amount) h)
    (back_mapped (is_well_formed_last_trade_row T) last_trade_key last_trade_row base.securities f.last_trades) in
    let paid = All-map base.customer_taxes (λ x h. and_parts (has_customer T x.customer) (list_any (λ r. r.id == x.tax) T.tax_rates) h)
    (back_rows (is_well_formed_customer_tax_row T) customer_tax_key base.customer_taxes f.customer_taxes) in
    let payers : AllByRecursion (TaxCustomerIsListed base.customers) base.customer_taxes = All-map base.customer_taxes (λ x h. sym (has_customer_is base x.customer) ∙ h.0) paid in
    let limits = All-map base.customers
    (λ c h. and_parts (nat_le (length (filter (λ a. a.customer == c.id) T.accounts)) most_accounts_per_customer) (nat_le (tax_rate_sum_of_customer (base_of_tables T) c.id) greatest_tax_rate) h)
    (back_rows (is_within_customer_limits T) customer_key base.customers f.limits) in
    record {
      keyed = record { kept = back_rows _ kept_key base.kept f.kept; kept_keys = back_keys kept_key base.kept r.kept };
      parties = record {
        brokers = All-map base.brokers (λ b h. h.0) brokers;
        customers = back_rows is_well_formed_customer_row customer_key base.customers f.customers;
        accounts = All-map base.accounts (λ a h. and3 (is_id a.id) (is_name a.name) (is_within_amount_limit a.opening) h.0 h.1 h.2) accounts;
        permissions = All-map base.permissions (λ p h. and4 (is_acl p.acl) (is_tax_id p.tax_id) (is_name p.last_name) (is_name p.first_name) h.0 h.1 h.2 h.3) permissions;
        broker_keys = apart_unmap broker_id_key broker_key (broker_row base.accounts done) base.brokers (λ b. refl) (back_keys broker_key (map (broker_row base.accounts done) base.brokers) r.brokers);
        customer_keys = back_keys customer_key base.customers r.customers;
        tax_ids = apart_unsort customer_tax_id_key (is_row_key_less customer_key) base.customers (tax_ids_each (rows_sorted_by_key customer_key base.customers) f.tax_ids);
        permitted = All-map base.permissions (λ p h. sym (has_account_is base p.account) ∙ h.4) permissions;
        owned = λ customer. owned_back base customer books
            (All-map base.customers
            (λ c h. leb-true _ most_accounts_per_customer (sym (ap (λ n. nat_le n most_accounts_per_customer) (reads_count base c.id)) ∙ h.0)) limits);
      };
      terms = record {
        charges = back_rows is_well_formed_charge_row charge_key base.charges f.charges;
        bands = back_rows _ band_key base.bands f.bands;
        tax_rates = back_rows _ tax_rate_key base.tax_rates f.tax_rates;
        charge_keys = back_keys charge_key base.charges r.charges;
        tax_rate_keys = back_keys tax_rate_key base.tax_rates r.tax_rates;
        customer_tax_keys = back_keys customer_tax_key base.customer_taxes r.customer_taxes;
        payers = payers;
        taxes = All-map base.customer_taxes (λ x h. sym (has_rate_is base x.tax) ∙ h.1) paid;
        rates = λ customer. rates_back base customer payers
            (All-map base.customers (λ c h. leb-true _ greatest_tax_rate (sym (ap (λ n. nat_le n greatest_tax_rate) (rates_same base c.id)) ∙ h.1)) limits);
      };
      listed = record {
        securities = All-map base.securities (λ s h. and5 (is_symbol s.symbol) (is_name s.name) (is_exchange s.exchange) (is_name s.sector) (is_price s.last_price) h.0.0 h.0.1 h.0.2 h.0.3 h.1.2)
            (both_all _ _ base.securities securities lasts);
        moments = All-map base.securities (λ s h. h.1) lasts;
      };
      trades = All-map base.trades (λ t h. trade_back base t books told h) (reads_back base books told f);
      cash = record {
        fields = movements_formed base (posted_back base f.moves);
        risen = told.movements;
        few = leb-true (length base.movements) greatest_id (sym (ap (λ n. nat_le n greatest_id) (moves_counted base)) ∙ f.counted);
        day = f.rule;
      };
      sums = record {
        summaries = λ account symbol. summaries_back base account symbol books
            (All-map base.accounts
            (λ a h. All-map base.securities (λ s g. row_low T done a.id s.symbol g)
            (All-unflat (λ r. is_well_formed_summary_row third_schema T r ≡ true) (λ s. summary_rows done a.id s.symbol) base.securities h))
            (All-unflat (λ r. is_well_formed_summary_row third_schema T r ≡ true) (λ a. flat_map (λ s. summary_rows done a.id s.symbol) base.securities) base.accounts
            (back_rows (is_well_formed_summary_row third_schema T) summary_key (flat_map (λ a. flat_map (λ s. summary_rows done a.id s.symbol) base.securities) base.accounts) f.summaries)));
        balances = λ account. balances_back base account books (All-map base.accounts (λ a h. leb-true _ greatest_amount h.3) accounts);
        commissions = λ broker. commissions_back base broker books (All-map base.brokers (λ b h. leb-true _ greatest_amount h.1) brokers);
      };
    }
