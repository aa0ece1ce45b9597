-- The conditions `Requests`, `Settlement` and `Cash`, each as one equation of two lists of rows.
use Rattle.std.proofs.Common.{◌≡◌, ℕ, ◌+◌, ◌*◌, ◌==◌, Bool, true, false, cond, List, [], ◌∷◌, ◌++◌, refl, sym, ◌∙◌, ap, map, filter, pos, unwrap_or, Option, Some, None}
use Rattle.std.specs.Prelude.{◌&&◌, ◌-ℤ◌, if◌then◌else◌, find, is_some, option_map}
use Rattle.std.specs.List.{AllByRecursion}
use Rattle.std.specs.Option.{option_map_or}
use Rattle.std.proofs.lemmas.Bool.{eqb-true, eq-eqb}
use Rattle.brk_money.specs.Kinds.{side_of_trade_type}
use Rattle.brk_money.specs.declared.fault.Condition.TheVariants as condition
use Rattle.brk_money.specs.declared.tax_status.TaxStatus.TheVariants.{Untaxed}
use Rattle.brk_model.specs.Records.{Account}
use Rattle.brk_model.specs.Base.{broker_id_in_accounts, completed_trades, account_with_id_in_list, is_withholding_status, tax_status_in_accounts}
use Rattle.brk_model.specs.Derived.{settlement_amount, cash_trades, due_day_of_completion_stamp, postings_sorted_by_stamp, postings_of_base, signed_proceeds}
use Rattle.brk_model.specs.Joins.{account_row_with_id}
use Rattle.brk_model.specs.Tables.{Tables, numbered_cash_move_rows, AccountRow, OldCashRow, RequestRow, SettlementRow, TradeRow, cash_transaction_row, request_row, settlement_row, tables_of_base_in_schema}
use Rattle.brk_model.specs.Sheets.{tables_sorted_by_key}
use Rattle.brk_model.specs.Keys.{number, rows_sorted_by_key, is_row_key_less, cash_transaction_key, cash_move_key, request_key, settlement_key, trade_key}
use Rattle.brk_model.specs.Adopted.{account_of_row, base_of_tables, is_posting_of_trade, posting_of_cash_transaction_row, posting_of_cash_move_row, postings_of_tables, trade_of_row}
use Rattle.brk_model.specs.Ways.{satisfies_status_condition, has_valid_status_history}
use Rattle.brk_model.specs.Audit.{ConditionHolds, expected_tables}
use Rattle.brk_trade_books.proofs.Same.{All-filter, All-map, find-each, map-same}
use Rattle.brk_model.specs.Lists.{sort_by}
use Rattle.brk_trade_books.proofs.Order.{append_nil}
use Rattle.brk_trade_books.proofs.Reading.{find-map}
use Rattle.brk_audit_theorems.proofs.Climbs.{Climbs, In, climbs_filter, climbs_map, each_in, stays}
use Rattle.brk_audit_theorems.proofs.Members.{FoundIn, found_in, map-map, one_of_key}
use Rattle.brk_audit_theorems.proofs.AdoptedBooks.{filter-map}
use Rattle.brk_audit_sums.specs.Completed.{is_completed_trade_row, is_pending_trade_row}
use Rattle.brk_audit_sums.specs.Settling.{settlement_amount_at_tax_status, settlement_figures_of_row, settlement_figures_of_trade}
use Rattle.brk_audit_sums.specs.Settling.{is_completed_cash_trade, cash_transaction_figures_of_trade, cash_transaction_figures_of_row, request_row_of_trade}
use Rattle.brk_audit_sums.proofs.Sums.{completed_trade_rows, pending_trade_rows, account_broker_or_zero, account_tax_status_or_untaxed}
use Rattle.brk_audit_sums.proofs.Completed.{completed_rows, pending_rows, right_rows, row_moment}
use Rattle.brk_model.specs.Schemas.{Schema}

-- ---- what is found of an account

abbrev pub accounts_in : Tables → List Account
accounts_in t = map account_of_row t.accounts

pub same_account : (t : Tables) (id : ℕ) → account_with_id_in_list (accounts_in t) id ≡ option_map account_of_row (account_row_with_id t id)
same_account t id = find-map (λ a. a.id == id) account_of_row t.accounts

pub same_broker : (t : Tables) (id : ℕ) → broker_id_in_accounts (accounts_in t) id ≡ account_broker_or_zero t id
same_broker t id = ap (λ o. option_map_or (λ a. a.broker) o 0) (same_account t id) ∙ of_row (account_row_with_id t id)
  where
    of_row : (o : Option AccountRow) → option_map_or (λ a. a.broker) (option_map account_of_row o) 0 ≡ option_map_or (λ a. a.broker) o 0
    of_row None = refl
    of_row (Some a) = refl

same_tax_status : (t : Tables) (id : ℕ) → tax_status_in_accounts (accounts_in t) id ≡ account_tax_status_or_untaxed t id
same_tax_status t id = ap (λ o. option_map_or (λ a. a.tax_status) o Untaxed) (same_account t id) ∙ of_row (account_row_with_id t id)
  where
    of_row : (o : Option AccountRow) → option_map_or (λ a. a.tax_status) (option_map account_of_row o) Untaxed ≡ option_map_or (λ a. a.tax_status) o Untaxed
    of_row None = refl
    of_row (Some a) = refl

pub same_amount : (t : Tables) (r : TradeRow) → settlement_amount (accounts_in t) (trade_of_row t r) ≡ settlement_amount_at_tax_status (account_tax_status_or_untaxed t r.account) r
same_amount t r = λ i.
    signed_proceeds (side_of_trade_type r.kind) (r.qty * unwrap_or r.price 0) -ℤ pos (r.charge + r.commission + (if is_withholding_status (same_tax_status t r.account i) then r.tax else 0))

-- ---- the rows that are expected

wanted_requests : (schema : Schema) (t : Tables) → Climbs trade_key t.trades → satisfies_status_condition t ≡ true
    → (expected_tables schema t).requests ≡ map (λ r. request_row (accounts_in t) (trade_of_row t r)) (pending_trade_rows t)
unfolding base_of_tables tables_sorted_by_key tables_of_base_in_schema
wanted_requests schema t c s =
    let f : TradeRow → RequestRow = λ r. request_row (accounts_in t) (trade_of_row t r) in
    ap (λ ts. rows_sorted_by_key request_key (map (request_row (accounts_in t)) ts)) (pending_rows t s)
    ∙ ap (rows_sorted_by_key request_key) (map-map (request_row (accounts_in t)) (trade_of_row t) (pending_trade_rows t))
    ∙ stays request_key (map f (pending_trade_rows t)) (climbs_map trade_key request_key f (pending_trade_rows t) (λ r. refl) (climbs_filter trade_key is_pending_trade_row t.trades c))

wanted_settlements : (schema : Schema) (t : Tables) → Climbs trade_key t.trades → satisfies_status_condition t ≡ true
    → (expected_tables schema t).settlements ≡ map (λ r. settlement_row (accounts_in t) t.rule (trade_of_row t r)) (completed_trade_rows t)
unfolding base_of_tables tables_sorted_by_key tables_of_base_in_schema
wanted_settlements schema t c s =
    let f : TradeRow → SettlementRow = λ r. settlement_row (accounts_in t) t.rule (trade_of_row t r) in
    ap (λ ts. rows_sorted_by_key settlement_key (map (settlement_row (accounts_in t) t.rule) ts)) (completed_rows t s)
    ∙ ap (rows_sorted_by_key settlement_key) (map-map (settlement_row (accounts_in t) t.rule) (trade_of_row t) (completed_trade_rows t))
    ∙ stays settlement_key (map f (completed_trade_rows t)) (climbs_map trade_key settlement_key f (completed_trade_rows t) (λ r. refl) (climbs_filter trade_key is_completed_trade_row t.trades c))

pub filter-filter : {X : Type 0} (p q : X → Bool) (xs : List X) → filter p (filter q xs) ≡ filter (λ x. q x && p x) xs
filter-filter p q [] = refl
filter-filter {X = X} p q (x ∷ xs) = by_test (q x) (filter-filter p q xs)
  where
    by_test : (b : Bool) → filter p (filter q xs) ≡ filter (λ x. q x && p x) xs
        → filter p (cond b (x ∷ filter q xs) (filter q xs)) ≡ cond (b && p x) (x ∷ filter (λ x. q x && p x) xs) (filter (λ x. q x && p x) xs)
    by_test true h = ap (λ ys. cond (p x) (x ∷ ys) ys) h
    by_test false h = h

pub cash_rows : (t : Tables) → satisfies_status_condition t ≡ true → cash_trades (completed_trades (base_of_tables t)) ≡ map (trade_of_row t) (filter is_completed_cash_trade t.trades)
cash_rows t s =
    ap cash_trades (completed_rows t s) ∙ filter-map (λ u. u.is_cash) (trade_of_row t) (completed_trade_rows t)
    ∙ ap (map (trade_of_row t)) (filter-filter (λ r. r.is_cash) is_completed_trade_row t.trades)

wanted_cash : (schema : Schema) (t : Tables) → schema.has_cash_move_table ≡ false → Climbs trade_key t.trades → satisfies_status_condition t ≡ true
    → (expected_tables schema t).cash ≡ map (λ r. cash_transaction_row (accounts_in t) (trade_of_row t r)) (filter is_completed_cash_trade t.trades)
unfolding base_of_tables tables_sorted_by_key tables_of_base_in_schema
wanted_cash schema t n c s =
    let f : TradeRow → OldCashRow = λ r. cash_transaction_row (accounts_in t) (trade_of_row t r) in
    let rows : List TradeRow = filter is_completed_cash_trade t.trades in
    ap (λ b. rows_sorted_by_key cash_transaction_key (cond b [] (map (cash_transaction_row (accounts_in t)) (cash_trades (completed_trades (base_of_tables t)))))) n
    ∙ ap (λ ts. rows_sorted_by_key cash_transaction_key (map (cash_transaction_row (accounts_in t)) ts)) (cash_rows t s)
    ∙ ap (rows_sorted_by_key cash_transaction_key) (map-map (cash_transaction_row (accounts_in t)) (trade_of_row t) rows)
    ∙ stays cash_transaction_key (map f rows) (climbs_map trade_key cash_transaction_key f rows (λ r. refl) (climbs_filter trade_key is_completed_cash_trade t.trades c))

pub no_rows : {Row : Type 0} (before : Row → Row → Bool) → sort_by before [] ≡ []
unfolding sort_by
no_rows before = refl

wanted_no_moves : (schema : Schema) (t : Tables) → schema.has_cash_move_table ≡ false → (expected_tables schema t).moves ≡ []
unfolding tables_sorted_by_key tables_of_base_in_schema
wanted_no_moves schema t n =
    ap (λ b. rows_sorted_by_key cash_move_key (cond b (numbered_cash_move_rows 1 (postings_sorted_by_stamp (postings_of_base (base_of_tables t)))) [])) n
    ∙ no_rows (is_row_key_less cash_move_key)

-- ---- requests

abbrev HasRequests : Tables → Type 0
HasRequests t = t.requests ≡ map (request_row_of_trade (account_broker_or_zero t)) (pending_trade_rows t)

same_requests : (t : Tables) (rs : List TradeRow) → map (λ r. request_row (accounts_in t) (trade_of_row t r)) rs ≡ map (request_row_of_trade (account_broker_or_zero t)) rs
same_requests t [] = refl
same_requests t (r ∷ rs) =
    λ i. record { trade = r.id; kind = r.kind; symbol = r.symbol; qty = r.qty; bid = r.bid; broker = same_broker t r.account i } ∷ same_requests t rs i

pub requests_by_rows : (schema : Schema) (t : Tables) → Climbs trade_key t.trades → satisfies_status_condition t ≡ true
    → (ConditionHolds schema condition.Requests t → HasRequests t) × (HasRequests t → ConditionHolds schema condition.Requests t)
unfolding ConditionHolds
requests_by_rows schema t c s =
    let e : (expected_tables schema t).requests ≡ map (request_row_of_trade (account_broker_or_zero t)) (pending_trade_rows t) = wanted_requests schema t c s
    ∙ same_requests t (pending_trade_rows t) in
    ((λ h. h ∙ e), (λ h. h ∙ sym e))

-- ---- settlements

abbrev HasSettlements : Tables → Type 0
HasSettlements t = map settlement_figures_of_row t.settlements ≡ map (settlement_figures_of_trade t.rule (account_tax_status_or_untaxed t)) (completed_trade_rows t)

abbrev IsRight : Tables → TradeRow → Type 0
IsRight t r = has_valid_status_history t r ≡ true

due_right : (t : Tables) (r : TradeRow) → IsRight t r
    → settlement_figures_of_row (settlement_row (accounts_in t) t.rule (trade_of_row t r))
    ≡ settlement_figures_of_trade t.rule (account_tax_status_or_untaxed t) r
due_right t r e = λ i. record { trade = r.id; due_day = due_day_of_completion_stamp t.rule (row_moment t r e i); amount = same_amount t r i }

right_done : (t : Tables) (p : TradeRow → Bool) → satisfies_status_condition t ≡ true → AllByRecursion (IsRight t) (filter p t.trades)
right_done t p s = All-filter (IsRight t) p t.trades (right_rows t s)

-- a row is found by its own trade
settlement_found : (ss : List SettlementRow) → Climbs settlement_key ss → AllByRecursion (λ s. find (λ x. x.trade == s.trade) ss ≡ Some s) ss
settlement_found ss c = both ss (each_in ss) (find-each (λ s x. x.trade == s.trade) ss (λ s. eq-eqb s.trade s.trade refl))
  where
    one : (s : SettlementRow) → In s ss → is_some (find (λ x. x.trade == s.trade) ss) ≡ true → find (λ x. x.trade == s.trade) ss ≡ Some s
    one s m e =
        let f : FoundIn SettlementRow (λ x. x.trade == s.trade) ss = found_in (λ x. x.trade == s.trade) ss e in
        let k : f.item.trade ≡ s.trade = eqb-true f.item.trade s.trade f.passes in
        f.is ∙ ap Some (one_of_key settlement_key ss f.item s c f.there m (λ i. number (k i) ∷ []))

    both : (xs : List SettlementRow) → AllByRecursion (λ s. In s ss) xs → AllByRecursion (λ s. is_some (find (λ x. x.trade == s.trade) ss) ≡ true) xs
        → AllByRecursion (λ s. find (λ x. x.trade == s.trade) ss ≡ Some s) xs
    both [] m e = tt
    both (s ∷ xs) m e = (one s m.0 e.0, both xs m.1 e.1)

same_settlement : (t : Tables) (s : SettlementRow) (r : TradeRow) → find (λ x. x.trade == s.trade) t.settlements ≡ Some s → IsRight t r
    → settlement_figures_of_row s ≡ settlement_figures_of_trade t.rule (account_tax_status_or_untaxed t) r → s ≡ settlement_row (accounts_in t) t.rule (trade_of_row t r)
same_settlement t s r f e d =
    let g : settlement_figures_of_row s ≡ settlement_figures_of_row (settlement_row (accounts_in t) t.rule (trade_of_row t r)) = d ∙ sym (due_right t r e) in
    let id : s.trade ≡ r.id = ap (λ x. x.trade) g in
    let w : s.cash_type ≡ option_map_or (λ x. x.cash_type) (find (λ x. x.trade == r.id) t.settlements) [] =
    sym (ap (λ o. option_map_or (λ x. x.cash_type) o []) f) ∙ ap (λ n. option_map_or (λ x. x.cash_type) (find (λ x. x.trade == n) t.settlements) []) id in
    λ i. record { trade = (g i).trade; cash_type = w i; due_day = (g i).due_day; amount = (g i).amount }

same_settlements : (t : Tables) (ss : List SettlementRow) (rs : List TradeRow) → AllByRecursion (λ s. find (λ x. x.trade == s.trade) t.settlements ≡ Some s) ss
    → AllByRecursion (IsRight t) rs → map settlement_figures_of_row ss ≡ map (settlement_figures_of_trade t.rule (account_tax_status_or_untaxed t)) rs
    → ss ≡ map (λ r. settlement_row (accounts_in t) t.rule (trade_of_row t r)) rs
same_settlements t [] [] f e d = refl
same_settlements t [] (r ∷ rs) f e d = absurd (cc)
same_settlements t (s ∷ ss) [] f e d = absurd (cc)
same_settlements t (s ∷ ss) (r ∷ rs) f e d =
    let h : settlement_figures_of_row s ≡ settlement_figures_of_trade t.rule (account_tax_status_or_untaxed t) r = cc in
    let k : map settlement_figures_of_row ss ≡ map (settlement_figures_of_trade t.rule (account_tax_status_or_untaxed t)) rs = cc in
    let g = same_settlement t s r f.0 e.0 h in
    let more = same_settlements t ss rs f.1 e.1 k in
    λ i. g i ∷ more i

pub settlements_by_rows : (schema : Schema) (t : Tables) → Climbs trade_key t.trades → Climbs settlement_key t.settlements → satisfies_status_condition t ≡ true
    → (ConditionHolds schema condition.Settlement t → HasSettlements t) × (HasSettlements t → ConditionHolds schema condition.Settlement t)
unfolding ConditionHolds
settlements_by_rows schema t c d s =
    let f : TradeRow → SettlementRow = λ r. settlement_row (accounts_in t) t.rule (trade_of_row t r) in
    let right : AllByRecursion (IsRight t) (completed_trade_rows t) = right_done t is_completed_trade_row s in
    let e = wanted_settlements schema t c s in (
      (λ h. ap (map settlement_figures_of_row) (h ∙ e) ∙ map-map settlement_figures_of_row f (completed_trade_rows t)
          ∙ map-same (λ r. settlement_figures_of_row (f r)) (settlement_figures_of_trade t.rule (account_tax_status_or_untaxed t)) (completed_trade_rows t)
          (All-map (completed_trade_rows t) (due_right t) right)),
      (λ h. same_settlements t t.settlements (completed_trade_rows t) (settlement_found t.settlements d) right h ∙ sym e),
    )

-- ---- cash rows

abbrev HasCash : Tables → Type 0
HasCash t = map cash_transaction_figures_of_row t.cash ≡ map (cash_transaction_figures_of_trade (account_tax_status_or_untaxed t)) (filter is_completed_cash_trade t.trades)

moved_right : (t : Tables) (r : TradeRow) → IsRight t r
    → cash_transaction_figures_of_row (cash_transaction_row (accounts_in t) (trade_of_row t r))
    ≡ cash_transaction_figures_of_trade (account_tax_status_or_untaxed t) r
moved_right t r e = λ i. record { trade = r.id; stamp = row_moment t r e i; amount = same_amount t r i }

cash_found : (cs : List OldCashRow) → Climbs cash_transaction_key cs → AllByRecursion (λ c. find (λ x. x.trade == c.trade) cs ≡ Some c) cs
cash_found cs c = both cs (each_in cs) (find-each (λ c x. x.trade == c.trade) cs (λ c. eq-eqb c.trade c.trade refl))
  where
    one : (r : OldCashRow) → In r cs → is_some (find (λ x. x.trade == r.trade) cs) ≡ true → find (λ x. x.trade == r.trade) cs ≡ Some r
    one r m e =
        let f : FoundIn OldCashRow (λ x. x.trade == r.trade) cs = found_in (λ x. x.trade == r.trade) cs e in
        let k : f.item.trade ≡ r.trade = eqb-true f.item.trade r.trade f.passes in
        f.is ∙ ap Some (one_of_key cash_transaction_key cs f.item r c f.there m (λ i. number (k i) ∷ []))

    both : (xs : List OldCashRow) → AllByRecursion (λ r. In r cs) xs → AllByRecursion (λ r. is_some (find (λ x. x.trade == r.trade) cs) ≡ true) xs
        → AllByRecursion (λ r. find (λ x. x.trade == r.trade) cs ≡ Some r) xs
    both [] m e = tt
    both (r ∷ xs) m e = (one r m.0 e.0, both xs m.1 e.1)

-- what is posted by a trade, where no rows are numbered
posted_cash : (t : Tables) → t.moves ≡ [] → (id : ℕ) → find (is_posting_of_trade id) (postings_of_tables t) ≡ option_map (posting_of_cash_transaction_row t) (find (λ x. x.trade == id) t.cash)
posted_cash t e id =
    ap (λ ms. find (is_posting_of_trade id) (map (posting_of_cash_transaction_row t) t.cash ++ map posting_of_cash_move_row ms)) e
    ∙ ap (find (is_posting_of_trade id)) (append_nil (map (posting_of_cash_transaction_row t) t.cash))
    ∙ find-map (is_posting_of_trade id) (posting_of_cash_transaction_row t) t.cash

same_cash_row : (t : Tables) (c : OldCashRow) (r : TradeRow) → t.moves ≡ [] → find (λ x. x.trade == c.trade) t.cash ≡ Some c → IsRight t r
    → cash_transaction_figures_of_row c ≡ cash_transaction_figures_of_trade (account_tax_status_or_untaxed t) r → c ≡ cash_transaction_row (accounts_in t) (trade_of_row t r)
same_cash_row t c r n f e d =
    let g : cash_transaction_figures_of_row c ≡ cash_transaction_figures_of_row (cash_transaction_row (accounts_in t) (trade_of_row t r)) = d ∙ sym (moved_right t r e) in
    let id : c.trade ≡ r.id = ap (λ x. x.trade) g in
    let w : c.name ≡ option_map_or (λ p. p.name) (find (is_posting_of_trade r.id) (postings_of_tables t)) [] =
    sym (ap (λ o. option_map_or (λ p. p.name) (option_map (posting_of_cash_transaction_row t) o) []) f)
    ∙ ap (λ k. option_map_or (λ p. p.name) (option_map (posting_of_cash_transaction_row t) (find (λ x. x.trade == k) t.cash)) []) id
    ∙ ap (λ o. option_map_or (λ p. p.name) o []) (sym (posted_cash t n r.id)) in
    λ i. record { trade = (g i).trade; stamp = (g i).stamp; amount = (g i).amount; name = w i }

same_cash : (t : Tables) (cs : List OldCashRow) (rs : List TradeRow) → t.moves ≡ [] → AllByRecursion (λ c. find (λ x. x.trade == c.trade) t.cash ≡ Some c) cs
    → AllByRecursion (IsRight t) rs → map cash_transaction_figures_of_row cs ≡ map (cash_transaction_figures_of_trade (account_tax_status_or_untaxed t)) rs
    → cs ≡ map (λ r. cash_transaction_row (accounts_in t) (trade_of_row t r)) rs
same_cash t [] [] n f e d = refl
same_cash t [] (r ∷ rs) n f e d = absurd (cc)
same_cash t (c ∷ cs) [] n f e d = absurd (cc)
same_cash t (c ∷ cs) (r ∷ rs) n f e d =
    let h : cash_transaction_figures_of_row c ≡ cash_transaction_figures_of_trade (account_tax_status_or_untaxed t) r = cc in
    let k : map cash_transaction_figures_of_row cs ≡ map (cash_transaction_figures_of_trade (account_tax_status_or_untaxed t)) rs = cc in
    let g = same_cash_row t c r n f.0 e.0 h in
    let more = same_cash t cs rs n f.1 e.1 k in
    λ i. g i ∷ more i

pub cash_by_rows : (schema : Schema) (t : Tables) → schema.has_cash_move_table ≡ false → t.moves ≡ [] → Climbs trade_key t.trades
    → Climbs cash_transaction_key t.cash → satisfies_status_condition t ≡ true
    → (ConditionHolds schema condition.Cash t → HasCash t) × (HasCash t → ConditionHolds schema condition.Cash t)
unfolding ConditionHolds
cash_by_rows schema t n m c d s =
    let f : TradeRow → OldCashRow = λ r. cash_transaction_row (accounts_in t) (trade_of_row t r) in
    let rows : List TradeRow = filter is_completed_cash_trade t.trades in
    let right : AllByRecursion (IsRight t) rows = right_done t is_completed_cash_trade s in
    let e = wanted_cash schema t n c s in (
      (λ h. ap (map cash_transaction_figures_of_row) (h.0 ∙ e) ∙ map-map cash_transaction_figures_of_row f rows
          ∙ map-same (λ r. cash_transaction_figures_of_row (f r)) (cash_transaction_figures_of_trade (account_tax_status_or_untaxed t)) rows (All-map rows (moved_right t) right)),
      (λ h. (same_cash t t.cash rows m (cash_found t.cash d) right h ∙ sym e, m ∙ sym (wanted_no_moves schema t n))),
    )
