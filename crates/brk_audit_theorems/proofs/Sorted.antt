-- The tables do not depend on the order in which reference records were accepted.
use Rattle.std.proofs.Common.{◌≡◌, ℕ, ◌+◌, ◌==◌, Bool, true, false, not, cond, List, [], ◌∷◌, ◌++◌, refl, sym, ◌∙◌, ap, map, filter, length, pos}
use Rattle.std.specs.Prelude.{◌+ℤ◌, ◌-ℤ◌, ◌*◌, if◌then◌else◌, flat_map, sum_by, bytes_eq}
use Rattle.std.specs.List.{AllByRecursion}
use Rattle.std.specs.Option.{option_map_or}
use Rattle.std.proofs.lemmas.Bool.{eqb-false}
use Rattle.std.proofs.lemmas.Slice.Eq.{bytes_eq-Decides}
use Rattle.brk_money.specs.Spelling.{Text}
use Rattle.brk_money.specs.Kinds.{side_of_trade_type}
use Rattle.brk_money.specs.declared.tax_status.TaxStatus.TheVariants.{Untaxed}
use Rattle.brk_model.specs.Lists.{total_by, is_zero}
use Rattle.brk_model.specs.Records.{Account, Broker, Movement, Security, Trade}
use Rattle.brk_model.specs.Base.{Base, completed_trades, account_with_id_in_list, completion_price, is_withholding_status}
use Rattle.brk_model.specs.Derived.{settlement_amount, balance_of_account, cash_trades, commission_total_of_broker, postings_sorted_by_stamp, pending_trades}
use Rattle.brk_model.specs.Derived.{postings_to_account, posting_of_movement, posting_of_trade, postings, signed_proceeds, holding_summary_quantity}
use Rattle.brk_model.specs.Derived.{trade_count_of_broker}
use Rattle.brk_model.specs.Tables.{SummaryRow, account_row, broker_row, rows_by_position, last_trade_row, numbered_cash_move_rows, security_row, settlement_row, summary_rows, tables_of_base_in_schema}
use Rattle.brk_model.specs.Sheets.{sheets, tables_sorted_by_key}
use Rattle.brk_model.specs.Keys.{KeyPart, number, word, is_row_key_less, rows_sorted_by_key, insert_row_by_key, account_key, band_key, broker_key, charge_key}
use Rattle.brk_model.specs.Keys.{customer_key, customer_tax_key, kept_key, last_trade_key, cash_move_key, permission_key, request_key, security_key}
use Rattle.brk_model.specs.Keys.{settlement_key, summary_key, tax_rate_key}
use Rattle.brk_trade_books.specs.Books.{HasDistinctAccountIds, HasDistinctSymbols, BooksInvariant}
use Rattle.brk_trade_books.proofs.Order.{by_key-map, key_one_way, key_splits, rows_commute, sort_sorted, sorted_sort}
use Rattle.brk_trade_books.proofs.Same.{All-map, All-of, map-same}
use Rattle.brk_trade_books.proofs.Reading.{find-id}
use Rattle.brk_trade_books.proofs.Each.{AllCommute, Commute, each, each_sort}
use Rattle.brk_audit_theorems.specs.Histories.{account_id_key, broker_id_key, base_sorted_by_keys, security_symbol_key}
use Rattle.brk_audit_theorems.proofs.Members.{each-append, sorted_each}

-- rows sorted twice are sorted once
pub twice : {Row : Type 0} (key : Row → List KeyPart) (xs : List Row) → rows_sorted_by_key key (rows_sorted_by_key key xs) ≡ rows_sorted_by_key key xs
twice key xs =
    sort_sorted (is_row_key_less key) (rows_sorted_by_key key xs)
    (sorted_sort (is_row_key_less key) xs (λ a b c. key_splits (key a) (key b) (key c)) (λ a b. key_one_way (key a) (key b)))

sorted_map : {X Y : Type 0} (key : X → List KeyPart) (key' : Y → List KeyPart) (f g : X → Y) (xs : List X)
    → ((x : X) → key' (f x) ≡ key x) → ((x : X) → key' (g x) ≡ key x) → ((x : X) → f x ≡ g x)
    → rows_sorted_by_key key' (map f (rows_sorted_by_key key xs)) ≡ rows_sorted_by_key key' (map g xs)
sorted_map key key' f g xs e h s =
    by_key-map key key' f (rows_sorted_by_key key xs) e ∙ ap (map f) (twice key xs) ∙ map-same f g (rows_sorted_by_key key xs) (All-of (rows_sorted_by_key key xs) s) ∙ sym (by_key-map key key' g xs h)

-- ---- what is found of an account

abbrev found : (accounts : List Account) (id : ℕ) → account_with_id_in_list (rows_sorted_by_key account_id_key accounts) id ≡ account_with_id_in_list accounts id
found accounts id = find-id (λ a. a.id) id accounts

same_amount : (accounts : List Account) (t : Trade) → settlement_amount (rows_sorted_by_key account_id_key accounts) t ≡ settlement_amount accounts t
same_amount accounts t = λ i.
    signed_proceeds (side_of_trade_type t.kind) (t.qty * completion_price t)
    -ℤ pos (t.charge + t.commission + (if is_withholding_status (option_map_or (λ a. a.tax_status) (found accounts t.account i) Untaxed) then t.tax else 0))

same_broker_row : (accounts : List Account) (done : List Trade) (b : Broker) → broker_row (rows_sorted_by_key account_id_key accounts) done b ≡ broker_row accounts done b
unfolding trade_count_of_broker commission_total_of_broker
same_broker_row accounts done b = λ i. record {
  id = b.id;
  name = b.name;
  trades = pos (length (filter (λ t. option_map_or (λ a. a.broker) (found accounts t.account i) 0 == b.id) done));
  commissions = sum_by (λ t. t.commission) (filter (λ t. option_map_or (λ a. a.broker) (found accounts t.account i) 0 == b.id) done);
}

same_postings : (accounts : List Account) (done : List Trade) (ms : List Movement) → postings (rows_sorted_by_key account_id_key accounts) done ms ≡ postings accounts done ms
same_postings accounts done ms =
    ap (λ ps. ps ++ map posting_of_movement ms)
    (map-same (posting_of_trade (rows_sorted_by_key account_id_key accounts)) (posting_of_trade accounts) (cash_trades done) (All-of (cash_trades done)
    (λ t. λ i. record (posting_of_trade accounts t) { amount = same_amount accounts t i })))

same_account_row : (accounts : List Account) (done : List Trade) (ms : List Movement) (a : Account)
    → account_row (rows_sorted_by_key account_id_key accounts) (postings (rows_sorted_by_key account_id_key accounts) done ms) a ≡ account_row accounts (postings accounts done ms) a
unfolding balance_of_account
same_account_row accounts done ms a = λ i. record {
  id = a.id;
  customer = a.customer;
  broker = a.broker;
  name = a.name;
  tax_status = a.tax_status;
  opening = a.opening;
  balance = option_map_or (λ a. a.opening) (found accounts a.id i) (pos 0) +ℤ total_by (λ p. p.amount) (postings_to_account (same_postings accounts done ms i) a.id);
}

-- ---- summaries

abbrev rows_at : List Trade → ℕ → Security → List SummaryRow
rows_at done account s = summary_rows done account s.symbol

abbrev rows_of : List Trade → List Security → Account → List SummaryRow
rows_of done securities a = flat_map (rows_at done a.id) securities

abbrev put : List SummaryRow → List SummaryRow → List SummaryRow
put rows s = each (insert_row_by_key summary_key) rows s

-- rows put in past others whose keys differ
one_past : (r : SummaryRow) (ys : List SummaryRow) (s : List SummaryRow) → AllByRecursion (λ y. summary_key r ≡ summary_key y → ⊥) ys
    → insert_row_by_key summary_key r (put ys s) ≡ put ys (insert_row_by_key summary_key r s)
one_past r [] s h = refl
one_past r (y ∷ ys) s h = rows_commute summary_key r y (put ys s) h.0 ∙ ap (insert_row_by_key summary_key y) (one_past r ys s h.1)

all_past : (xs ys : List SummaryRow) (s : List SummaryRow) → AllByRecursion (λ x. AllByRecursion (λ y. summary_key x ≡ summary_key y → ⊥) ys) xs
    → put xs (put ys s) ≡ put ys (put xs s)
all_past [] ys s h = refl
all_past (x ∷ xs) ys s h = ap (insert_row_by_key summary_key x) (all_past xs ys s h.1) ∙ one_past x ys (put xs s) h.0

each_flat_map : {X : Type 0} (g : X → List SummaryRow) (xs : List X) (s : List SummaryRow) → put (flat_map g xs) s ≡ each (λ x s. put (g x) s) xs s
each_flat_map g [] s = refl
each_flat_map g (x ∷ xs) s = each-append (insert_row_by_key summary_key) (g x) (flat_map g xs) s ∙ ap (put (g x)) (each_flat_map g xs s)

pub All-rows : (P : SummaryRow → Type 0) (done : List Trade) (account : ℕ) (symbol : Text)
    → P (record { account = account; symbol = symbol; qty = holding_summary_quantity done account symbol }) → AllByRecursion P (summary_rows done account symbol)
All-rows P done account symbol p = by_test (not (is_zero (holding_summary_quantity done account symbol)))
  where
    by_test : (b : Bool) → AllByRecursion P (cond b (record { account = account; symbol = symbol; qty = holding_summary_quantity done account symbol } ∷ []) [])
    by_test true = (p, tt)
    by_test false = tt

pub All-append' : (P : SummaryRow → Type 0) (xs ys : List SummaryRow) → AllByRecursion P xs → AllByRecursion P ys → AllByRecursion P (xs ++ ys)
All-append' P [] ys g h = h
All-append' P (x ∷ xs) ys g h = (g.0, All-append' P xs ys g.1 h)

pub All-block : (P : SummaryRow → Type 0) (done : List Trade) (account : ℕ) (ss : List Security)
    → ((symbol : Text) → P (record { account = account; symbol = symbol; qty = holding_summary_quantity done account symbol })) → AllByRecursion P (flat_map (rows_at done account) ss)
All-block P done account [] p = tt
All-block P done account (s ∷ ss) p =
    All-append' P (summary_rows done account s.symbol) (flat_map (rows_at done account) ss) (All-rows P done account s.symbol (p s.symbol))
    (All-block P done account ss p)

other_key : (m n : ℕ) (j k : List KeyPart) → number m ∷ j ≡ number n ∷ k → m ≡ n
other_key m n j k e = cc

-- two accounts' rows may be put in either way round
accounts_commute : (done : List Trade) (ss : List Security) (a b : Account) → (b.id == a.id) ≡ false → Commute (λ a s. put (rows_of done ss a) s) a b
accounts_commute done ss a b e s =
    all_past (rows_of done ss a) (rows_of done ss b) s
    (All-block (λ x. AllByRecursion (λ y. summary_key x ≡ summary_key y → ⊥) (rows_of done ss b)) done a.id ss (λ symbol.
    All-block (λ y. summary_key (record { account = a.id; symbol = symbol; qty = holding_summary_quantity done a.id symbol }) ≡ summary_key y → ⊥) done b.id ss (λ other p.
    eqb-false b.id a.id e (sym (other_key a.id b.id (word symbol ∷ []) (word other ∷ []) p)))))

all_accounts_commute : (done : List Trade) (ss : List Security) (accounts : List Account) → HasDistinctAccountIds accounts → AllCommute (λ a s. put (rows_of done ss a) s) accounts
all_accounts_commute done ss [] d = tt
all_accounts_commute done ss (a ∷ rest) d = (All-map rest (λ b e. accounts_commute done ss a b e) d.0, all_accounts_commute done ss rest d.1)

same_word : (m n : ℕ) (s u : Text) → number m ∷ word s ∷ [] ≡ number n ∷ word u ∷ [] → s ≡ u
same_word m n s u e = cc

false_true : {A : Type 0} → false ≡ true → A
false_true e = absurd (cc)

securities_commute : (done : List Trade) (account : ℕ) (s u : Security) → bytes_eq u.symbol s.symbol ≡ false → Commute (λ s rows. put (rows_at done account s) rows) s u
securities_commute done account s u e rows =
    all_past (rows_at done account s) (rows_at done account u) rows
    (All-rows (λ x. AllByRecursion (λ y. summary_key x ≡ summary_key y → ⊥) (rows_at done account u)) done account s.symbol
    (All-rows (λ y. summary_key (record { account = account; symbol = s.symbol; qty = holding_summary_quantity done account s.symbol }) ≡ summary_key y → ⊥) done account u.symbol (λ p.
    false_true (sym e ∙ (bytes_eq-Decides u.symbol s.symbol).1 (sym (same_word account account s.symbol u.symbol p))))))

all_securities_commute : (done : List Trade) (account : ℕ) (ss : List Security) → HasDistinctSymbols ss → AllCommute (λ s rows. put (rows_at done account s) rows) ss
all_securities_commute done account [] d = tt
all_securities_commute done account (s ∷ ss) d = (All-map ss (λ u e. securities_commute done account s u e) d.0, all_securities_commute done account ss d.1)

same_block : (done : List Trade) (ss : List Security) (a : Account) (rows : List SummaryRow) → HasDistinctSymbols ss
    → put (rows_of done (rows_sorted_by_key security_symbol_key ss) a) rows ≡ put (rows_of done ss a) rows
same_block done ss a rows d =
    each_flat_map (rows_at done a.id) (rows_sorted_by_key security_symbol_key ss) rows
    ∙ each_sort (λ s rows. put (rows_at done a.id s) rows) (is_row_key_less security_symbol_key) ss rows (all_securities_commute done a.id ss d)
    ∙ sym (each_flat_map (rows_at done a.id) ss rows)

same_blocks : (done : List Trade) (ss : List Security) (accounts : List Account) (rows : List SummaryRow) → HasDistinctSymbols ss
    → each (λ a s. put (rows_of done (rows_sorted_by_key security_symbol_key ss) a) s) accounts rows ≡ each (λ a s. put (rows_of done ss a) s) accounts rows
same_blocks done ss [] rows d = refl
same_blocks done ss (a ∷ rest) rows d =
    same_block done ss a (each (λ a s. put (rows_of done (rows_sorted_by_key security_symbol_key ss) a) s) rest rows) d ∙ ap (put (rows_of done ss a)) (same_blocks done ss rest rows d)

same_summaries : (base : Base) (done : List Trade) → HasDistinctAccountIds base.accounts → HasDistinctSymbols base.securities
    → rows_sorted_by_key summary_key (rows_by_position (base_sorted_by_keys base) (summary_rows done)) ≡ rows_sorted_by_key summary_key (rows_by_position base (summary_rows done))
same_summaries base done d e =
    let ss : List Security = base.securities in
    sorted_each summary_key (rows_by_position (base_sorted_by_keys base) (summary_rows done))
    ∙ each_flat_map (rows_of done (rows_sorted_by_key security_symbol_key ss)) (rows_sorted_by_key account_id_key base.accounts) []
    ∙ same_blocks done ss (rows_sorted_by_key account_id_key base.accounts) [] e
    ∙ each_sort (λ a s. put (rows_of done ss a) s) (is_row_key_less account_id_key) base.accounts [] (all_accounts_commute done ss base.accounts d)
    ∙ sym (each_flat_map (rows_of done ss) base.accounts [])
    ∙ sym (sorted_each summary_key (rows_by_position base (summary_rows done)))

-- ---- all tables

pub sorted_tables : (base : Base) → BooksInvariant base → sheets (base_sorted_by_keys base) ≡ sheets base
unfolding tables_sorted_by_key tables_of_base_in_schema
sorted_tables base books =
    let done : List Trade = completed_trades base in
    let accounts : List Account = base.accounts in
    let brokers = sorted_map broker_id_key broker_key (broker_row (rows_sorted_by_key account_id_key accounts) done) (broker_row accounts done) base.brokers
    (λ b. refl) (λ b. refl) (same_broker_row accounts done) in
    let rows = sorted_map account_id_key account_key
    (account_row (rows_sorted_by_key account_id_key accounts) (postings (rows_sorted_by_key account_id_key accounts) done base.movements))
    (account_row accounts (postings accounts done base.movements)) accounts (λ a. refl) (λ a. refl) (same_account_row accounts done base.movements) in
    let securities = sorted_map security_symbol_key security_key security_row security_row base.securities (λ s. refl) (λ s. refl) (λ s. refl) in
    let last_trades = sorted_map security_symbol_key last_trade_key last_trade_row last_trade_row base.securities (λ s. refl) (λ s. refl) (λ s. refl) in
    let summaries = same_summaries base done books.owners books.symbols in
    λ i. record (sheets base) {
      kept = twice kept_key base.kept i;
      brokers = brokers i;
      customers = twice customer_key base.customers i;
      accounts = rows i;
      permissions = twice permission_key base.permissions i;
      securities = securities i;
      last_trades = last_trades i;
      charges = twice charge_key base.charges i;
      bands = twice band_key base.bands i;
      tax_rates = twice tax_rate_key base.tax_rates i;
      customer_taxes = twice customer_tax_key base.customer_taxes i;
      requests = rows_sorted_by_key request_key
          (map (λ t. record {
            trade = t.id;
            kind = t.kind;
            symbol = t.symbol;
            qty = t.qty;
            bid = t.bid;
            broker =
                option_map_or (λ a. a.broker) (found accounts t.account i) 0;
          }) (pending_trades base.trades));
      summaries = summaries i;
      settlements = rows_sorted_by_key settlement_key (map (λ t. record (settlement_row accounts base.rule t) { amount = same_amount accounts t i }) done);
      moves = rows_sorted_by_key cash_move_key (numbered_cash_move_rows 1 (postings_sorted_by_stamp (same_postings accounts done base.movements i)));
    }
