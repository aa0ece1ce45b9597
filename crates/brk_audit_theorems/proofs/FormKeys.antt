-- The tables of a base that satisfies both invariants are sorted by key.
use Rattle.std.proofs.Common.{◌≡◌, ℕ, ◌==◌, Bool, true, false, not, List, [], ◌∷◌, refl, sym, ap, subst, map, filter, ◌∙◌}
use Rattle.std.specs.Prelude.{bytes_eq, flat_map, nat_lt, ◌-ℤ◌}
use Rattle.std.specs.List.{AllByRecursion}
use Rattle.std.proofs.lemmas.Bool.{eqb-false}
use Rattle.brk_money.specs.Spelling.{Text}
use Rattle.brk_money.specs.Kinds.{trade_status_code}
use Rattle.brk_money.specs.declared.status.Status.{Status}
use Rattle.brk_money.specs.declared.status.Status.TheVariants.{Completed, Submitted, Pending, Canceled}
use Rattle.brk_trade_books.proofs.Postings.{numbered_stay}
use Rattle.brk_audit_theorems.proofs.UpgradedForm.{numbered_rises}
use Rattle.brk_model.specs.Lists.{is_zero, sort_by}
use Rattle.brk_model.specs.Records.{Account, StatusChange, Security, Trade}
use Rattle.brk_model.specs.Base.{Base, completed_trades, has_last_status, is_completed, last_status_stamp_of_trade}
use Rattle.brk_model.specs.Derived.{deal_of_trade, deals_of_position, trades_of_account, trades_of_position, pending_trades}
use Rattle.brk_model.specs.Derived.{holding_summary_quantity, postings_sorted_by_stamp, postings_of_base}
use Rattle.brk_model.specs.Shares.{Deal, Share, shares_after_deal}
use Rattle.brk_model.specs.Tables.{HistoryRow, HoldingHistoryRow, SummaryRow, account_row, broker_row, history_rows, holding_row}
use Rattle.brk_model.specs.Tables.{last_trade_row, request_row, security_row, settlement_row, summary_rows, tables_of_base_in_schema, trade_row}
use Rattle.brk_lots.proofs.HistoryRows.{rows_of_lots_are}
use Rattle.brk_lots.specs.HistoryRows.{lot_rows_with_quantity_change, lot_history_rows_per_deal}
use Rattle.brk_model.specs.Sheets.{sheets, tables_sorted_by_key}
use Rattle.brk_model.specs.Form.{has_tables_sorted_by_unique_key, is_sorted_by_unique_key}
use Rattle.brk_model.specs.Keys.{KeyPart, number, word, rows_sorted_by_key, kept_key, broker_key, customer_key, account_key, permission_key, security_key}
use Rattle.brk_model.specs.Keys.{last_trade_key, charge_key, band_key, tax_rate_key, customer_tax_key, trade_key, history_key, request_key, holding_key}
use Rattle.brk_model.specs.Keys.{summary_key, holding_history_key, settlement_key, cash_transaction_key, cash_move_key}
use Rattle.brk_model.specs.Ways.{is_valid_status_sequence}
use Rattle.brk_model_theorems.proofs.FormParts.{keys_whole}
use Rattle.brk_trade_books.specs.Books.{HasDistinctAccountIds, HasDistinctSymbols, BooksInvariant}
use Rattle.brk_trade_books.proofs.NewKeys.{not_both, same_bytes}
use Rattle.brk_trade_books.proofs.Same.{All-filter, All-map, All-mapped, All-of}
use Rattle.brk_trade_books.proofs.LotReading.{IdsApart, numbered_rise, rise_apart}
use Rattle.brk_trade_books.proofs.LotReading.{rise_filter}
use Rattle.brk_audit_theorems.proofs.Marks.{no_more_ways, three_ways}
use Rattle.brk_audit_theorems.proofs.Sorted.{All-block, All-rows}
use Rattle.brk_audit_theorems.specs.Histories.{account_id_key, broker_id_key}
use Rattle.brk_audit_theorems.specs.Sound.{AuditInvariant, HasDistinctKeys}
use Rattle.brk_audit_theorems.proofs.OneTrade.{false_true}
use Rattle.brk_audit_theorems.proofs.SortedRows.{OtherKeys, OthersApart, accounts_apart, apart_filter, apart_flat_map, apart_map, apart_rises, apart_sort}
use Rattle.brk_audit_theorems.proofs.SortedRows.{bands_apart, ids_apart, permissions_apart, symbols_apart}

abbrev id_key : Trade → List KeyPart
id_key t = number t.id ∷ []

first_part : (m n : ℕ) (j k : List KeyPart) → number m ∷ j ≡ number n ∷ k → m ≡ n
first_part m n j k e = cc

second_word : (m n : ℕ) (s u : Text) → number m ∷ word s ∷ [] ≡ number n ∷ word u ∷ [] → s ≡ u
second_word m n s u e = cc

second_number : (l k m n : ℕ) → number l ∷ number m ∷ [] ≡ number k ∷ number n ∷ [] → m ≡ n
second_number l k m n e = cc

-- ---- histories

abbrev row_of : ℕ → StatusChange → HistoryRow
row_of id m = record { trade = id; status = m.status; stamp = m.stamp }

two_codes : (a b : Status) → is_valid_status_sequence (a ∷ b ∷ []) ≡ true → bytes_eq (trade_status_code b) (trade_status_code a) ≡ false
two_codes Submitted Completed w = refl
two_codes Pending Canceled w = refl
two_codes Pending Submitted w = refl
two_codes a b w = false_true w

other_code : (id : ℕ) (m n : StatusChange) → bytes_eq (trade_status_code n.status) (trade_status_code m.status) ≡ false → history_key (row_of id n) ≡ history_key (row_of id m) → ⊥
other_code id m n h e =
    not_both (bytes_eq (trade_status_code n.status) (trade_status_code m.status))
    (same_bytes (trade_status_code n.status) (trade_status_code m.status) (second_word id id (trade_status_code n.status) (trade_status_code m.status) e)) h

marks_apart : (id : ℕ) (ms : List StatusChange) → is_valid_status_sequence (map (λ m. m.status) ms) ≡ true → HasDistinctKeys history_key (map (row_of id) ms)
marks_apart id [] w = tt
marks_apart id (m ∷ []) w = (tt, tt)
marks_apart id (m ∷ n ∷ []) w = ((other_code id m n (two_codes m.status n.status w), tt), (tt, tt))
marks_apart id (m ∷ n ∷ o ∷ []) w =
    let k = three_ways m.status n.status o.status w in (
      (
        other_code id m n (λ i. bytes_eq (trade_status_code (k.1 i)) (trade_status_code (k.0 i))),
        (other_code id m o (λ i. bytes_eq (trade_status_code (k.2 i)) (trade_status_code (k.0 i))), tt),
      ),
      ((other_code id n o (λ i. bytes_eq (trade_status_code (k.2 i)) (trade_status_code (k.1 i))), tt), (tt, tt)),
    )
marks_apart id (m ∷ n ∷ o ∷ p ∷ ms) w = absurd (no_more_ways m.status n.status o.status p.status (map (λ m. m.status) ms) w)

other_histories : (t u : Trade) → (u.id == t.id) ≡ false → OtherKeys history_key (history_rows t) (history_rows u)
other_histories t u h =
    All-mapped (λ r. AllByRecursion (λ s. history_key s ≡ history_key r → ⊥) (history_rows u)) (row_of t.id) t.marks (All-of t.marks (λ m.
    All-mapped (λ s. history_key s ≡ history_key (row_of t.id m) → ⊥) (row_of u.id) u.marks (All-of u.marks (λ n e.
    eqb-false u.id t.id h (first_part u.id t.id (word (trade_status_code n.status) ∷ []) (word (trade_status_code m.status) ∷ []) e)))))

histories_other : (ts : List Trade) → IdsApart ts → OthersApart history_key history_rows ts
histories_other [] d = tt
histories_other (t ∷ ts) d = (All-map ts (λ u h. other_histories t u h) d.0, histories_other ts d.1)

-- ---- summaries

abbrev rows_at : List Trade → ℕ → Security → List SummaryRow
rows_at done account s = summary_rows done account s.symbol

abbrev rows_of : List Trade → List Security → Account → List SummaryRow
rows_of done ss a = flat_map (rows_at done a.id) ss

one_apart : (done : List Trade) (account : ℕ) (symbol : Text) → HasDistinctKeys summary_key (summary_rows done account symbol)
one_apart done account symbol =
    apart_filter summary_key (λ row. not (is_zero row.qty)) (record { account = account; symbol = symbol; qty = holding_summary_quantity done account symbol } ∷ []) (tt, tt)

symbols_other : (done : List Trade) (account : ℕ) (ss : List Security) → HasDistinctSymbols ss → OthersApart summary_key (rows_at done account) ss
symbols_other done account [] d = tt
symbols_other done account (s ∷ ss) d = (
  All-map ss (λ u h.
      All-rows (λ r. AllByRecursion (λ q. summary_key q ≡ summary_key r → ⊥) (rows_at done account u)) done account s.symbol
      (All-rows (λ q. summary_key q ≡ number account ∷ word s.symbol ∷ [] → ⊥) done account u.symbol (λ e.
      not_both (bytes_eq u.symbol s.symbol) (same_bytes u.symbol s.symbol (second_word account account u.symbol s.symbol e)) h))) d.0,
  symbols_other done account ss d.1,
)

accounts_other : (done : List Trade) (ss : List Security) (as' : List Account) → HasDistinctAccountIds as' → OthersApart summary_key (rows_of done ss) as'
accounts_other done ss [] d = tt
accounts_other done ss (a ∷ as') d = (
  All-map as' (λ b h.
      All-block (λ r. AllByRecursion (λ q. summary_key q ≡ summary_key r → ⊥) (rows_of done ss b)) done a.id ss (λ symbol.
      All-block (λ q. summary_key q ≡ number a.id ∷ word symbol ∷ [] → ⊥) done b.id ss (λ other e.
      eqb-false b.id a.id h (first_part b.id a.id (word other ∷ []) (word symbol ∷ []) e)))) d.0,
  accounts_other done ss as' d.1,
)

-- ---- the histories of lots

-- what holds of a lot and of each deal's trade holds of the rows of that lot
pub All-lots : (P : ℕ → ℕ → Type 0) (lot : ℕ) (shares : List Share) (deals : List Deal) → AllByRecursion (λ d. P lot d.trade) deals
    → AllByRecursion (λ r. P r.lot r.trade) (lot_history_rows_per_deal lot shares deals)
All-lots P lot shares [] h = tt
All-lots P lot shares (d ∷ deals) h = (h.0, All-lots P lot (shares_after_deal shares d) deals h.1)

pub All-history : (P : ℕ → ℕ → Type 0) (done : List Trade) (t : Trade) → AllByRecursion (λ d. P t.id d.trade) (deals_of_position done t.account t.symbol)
    → AllByRecursion (λ r. P r.lot r.trade) (lot_rows_with_quantity_change done t)
All-history P done t h =
    All-filter (λ r. P r.lot r.trade) (λ row. not (is_zero (row.before -ℤ row.after)))
    (lot_history_rows_per_deal t.id [] (deals_of_position done t.account t.symbol)) (All-lots P t.id [] (deals_of_position done t.account t.symbol) h)

lots_apart : (lot : ℕ) (shares : List Share) (deals : List Deal) → HasDistinctKeys (λ d. number d.trade ∷ []) deals → HasDistinctKeys holding_history_key (lot_history_rows_per_deal lot shares deals)
lots_apart lot shares [] a = tt
lots_apart lot shares (d ∷ deals) a = (
  All-lots (λ l n. number l ∷ number n ∷ [] ≡ number lot ∷ number d.trade ∷ [] → ⊥) lot (shares_after_deal shares d) deals
      (All-map deals (λ x h e. h (ap (λ n. number n ∷ []) (second_number lot lot x.trade d.trade e))) a.0),
  lots_apart lot (shares_after_deal shares d) deals a.1,
)

history_apart : (done : List Trade) (t : Trade) → HasDistinctKeys id_key done → HasDistinctKeys holding_history_key (lot_rows_with_quantity_change done t)
history_apart done t a =
    let before : Trade → Trade → Bool = λ x y. nat_lt (last_status_stamp_of_trade x) (last_status_stamp_of_trade y) in
    apart_filter holding_history_key (λ row. not (is_zero (row.before -ℤ row.after))) (lot_history_rows_per_deal t.id [] (deals_of_position done t.account t.symbol))
    (lots_apart t.id [] (deals_of_position done t.account t.symbol)
    (apart_map id_key (λ d. number d.trade ∷ []) deal_of_trade (sort_by before (trades_of_position done t.account t.symbol)) (λ u. refl)
    (apart_sort id_key before (trades_of_position done t.account t.symbol)
    (apart_filter id_key (λ u. bytes_eq u.symbol t.symbol) (trades_of_account done t.account) (apart_filter id_key (λ u. u.account == t.account) done a)))))

lots_other : (done ts : List Trade) → IdsApart ts → OthersApart holding_history_key (lot_rows_with_quantity_change done) ts
lots_other done [] d = tt
lots_other done (t ∷ ts) d = (
  All-map ts (λ u h.
      All-history (λ l n. AllByRecursion (λ s. holding_history_key s ≡ number l ∷ number n ∷ [] → ⊥) (lot_rows_with_quantity_change done u)) done t
      (All-of (deals_of_position done t.account t.symbol) (λ x.
      All-history (λ l n. number l ∷ number n ∷ [] ≡ number t.id ∷ number x.trade ∷ [] → ⊥) done u (All-of (deals_of_position done u.account u.symbol) (λ y e.
      eqb-false u.id t.id h (first_part u.id t.id (number y.trade ∷ []) (number x.trade ∷ []) e)))))) d.0,
  lots_other done ts d.1,
)

-- ---- all tables

pub keys_of : (base : Base) → BooksInvariant base → AuditInvariant base → has_tables_sorted_by_unique_key (sheets base) ≡ true
unfolding tables_sorted_by_key tables_of_base_in_schema
keys_of base books k =
    let done : List Trade = completed_trades base in
    let rise = numbered_rise 1 base.trades books.numbered in
    let trades : HasDistinctKeys id_key base.trades = ids_apart base.trades (rise_apart base.trades rise) in
    let doneIds : IdsApart done = rise_apart done (rise_filter is_completed base.trades rise) in
    let dones : HasDistinctKeys id_key done = ids_apart done doneIds in
    keys_whole (sheets base) (record {
      kept = apart_rises kept_key base.kept k.kept_keys;
      brokers = apart_rises broker_key (map (broker_row base.accounts done) base.brokers) (apart_map broker_id_key broker_key (broker_row base.accounts done) base.brokers (λ b. refl) k.broker_keys);
      customers = apart_rises customer_key base.customers k.customer_keys;
      accounts = apart_rises account_key (map (account_row base.accounts (postings_of_base base)) base.accounts)
          (apart_map account_id_key account_key (account_row base.accounts (postings_of_base base)) base.accounts (λ a. refl) (accounts_apart base.accounts books.owners));
      permissions = apart_rises permission_key base.permissions (permissions_apart base.permissions books.permissions);
      securities = apart_rises security_key (map security_row base.securities)
          (apart_map (λ s. word s.symbol ∷ []) security_key security_row base.securities (λ s. refl) (symbols_apart base.securities books.symbols));
      last_trades = apart_rises last_trade_key (map last_trade_row base.securities)
          (apart_map (λ s. word s.symbol ∷ []) last_trade_key last_trade_row base.securities (λ s. refl) (symbols_apart base.securities books.symbols));
      charges = apart_rises charge_key base.charges k.charge_keys;
      bands = apart_rises band_key base.bands (bands_apart base.bands books.bands books.apart);
      tax_rates = apart_rises tax_rate_key base.tax_rates k.tax_rate_keys;
      customer_taxes = apart_rises customer_tax_key base.customer_taxes k.customer_tax_keys;
      trades = apart_rises trade_key (map trade_row base.trades) (apart_map id_key trade_key trade_row base.trades (λ t. refl) trades);
      history = apart_rises history_key (flat_map history_rows base.trades)
          (apart_flat_map history_key history_rows base.trades (All-map base.trades (λ t h. marks_apart t.id t.marks h.way) k.trades) (histories_other base.trades (rise_apart base.trades rise)));
      requests = apart_rises request_key (map (request_row base.accounts) (pending_trades base.trades))
          (apart_map id_key request_key (request_row base.accounts) (pending_trades base.trades) (λ t. refl) (apart_filter id_key (has_last_status Pending) base.trades trades));
      holdings = apart_rises holding_key (filter (λ row. not (is_zero row.qty)) (map (holding_row done) done))
          (apart_filter holding_key (λ row. not (is_zero row.qty)) (map (holding_row done) done) (apart_map id_key holding_key (holding_row done) done (λ t. refl) dones));
      summaries = apart_rises summary_key (flat_map (rows_of done base.securities) base.accounts)
          (apart_flat_map summary_key (rows_of done base.securities) base.accounts
          (All-of base.accounts
          (λ a. apart_flat_map summary_key (rows_at done a.id) base.securities (All-of base.securities (λ s. one_apart done a.id s.symbol))
          (symbols_other done a.id base.securities books.symbols)))
          (accounts_other done base.securities base.accounts books.owners));
      holding_history = subst (λ (rows : List HoldingHistoryRow). is_sorted_by_unique_key holding_history_key (rows_sorted_by_key holding_history_key rows) ≡ true) (sym (rows_of_lots_are done done))
          (apart_rises holding_history_key (flat_map (lot_rows_with_quantity_change done) done)
          (apart_flat_map holding_history_key (lot_rows_with_quantity_change done) done (All-of done (λ t. history_apart done t dones)) (lots_other done done doneIds)));
      settlements = apart_rises settlement_key (map (settlement_row base.accounts base.rule) done) (apart_map id_key settlement_key (settlement_row base.accounts base.rule) done (λ t. refl) dones);
      cash = apart_rises cash_transaction_key [] tt;
      moves = ap (is_sorted_by_unique_key cash_move_key) (numbered_stay 1 (postings_sorted_by_stamp (postings_of_base base))) ∙ numbered_rises 1 (postings_sorted_by_stamp (postings_of_base base));
    })
