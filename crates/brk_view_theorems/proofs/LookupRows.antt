-- Sorting the tables by key changes no looked-up trade, and neither its settlement, its cash row
-- nor its statuses.
use Rattle.std.proofs.Common.{◌≡◌, ℕ, ◌==◌, List, [], ◌∷◌, ◌++◌, Bool, true, false, not, ap, ◌∙◌, map, filter, arith, take}
use Rattle.std.specs.Prelude.{codes, decimal, flat_map, nat_lt}
use Rattle.std.specs.List.{AllByRecursion}
use Rattle.std.proofs.lemmas.Bool.{eqb-true}
use Rattle.std.proofs.lemmas.Bool.Decides.{nat_tests}
use Rattle.brk_money.specs.Kinds.{trade_status_code}
use Rattle.brk_model.specs.Base.{Base}
use Rattle.brk_model.specs.Derived.{postings_sorted_by_stamp, postings_of_base}
use Rattle.brk_model.specs.Joins.{history_rows_with_trade_id, trade_rows_oldest_first}
use Rattle.brk_model.specs.Keys.{history_key, number, is_row_key_less, settlement_key}
use Rattle.brk_model.specs.Lists.{sort_by}
use Rattle.brk_model.specs.LookupView.{cash_record, is_cash_row_of_trade, trade_lookup_records, trade_lookup_view, settlement_record, trade_record}
use Rattle.brk_model.specs.Sheets.{sheets, tables_sorted_by_key}
use Rattle.brk_model.specs.Tables.{HistoryRow, TradeRow, tables_of_base_in_schema, tables_of_base}
use Rattle.brk_audit_theorems.specs.Sound.{AuditInvariant}
use Rattle.brk_trade_books.specs.Books.{BooksInvariant}
use Rattle.brk_trade_books.proofs.Order.{Splits}
use Rattle.brk_trade_books.proofs.Postings.{numbered_stay}
use Rattle.brk_trade_books.proofs.Same.{flat_map-same}
use Rattle.brk_view_theorems.proofs.OneRow.{rows_of_key}
use Rattle.brk_view_theorems.proofs.Sorting.{AllApart, All-sort, sort_twice}
use Rattle.brk_view_theorems.proofs.Trades.{AllRise, All-each, All-filter, All-take, Earlier, history_by_code, same_trades, statuses_rise}

-- ---- what became of a trade

same_settlements : (base : Base) (id : ℕ) → filter (λ s. s.trade == id) (sheets base).settlements ≡ filter (λ s. s.trade == id) (tables_of_base base).settlements
unfolding tables_sorted_by_key
same_settlements base id = rows_of_key settlement_key (λ s. s.trade == id) (number id ∷ []) (tables_of_base base).settlements (λ s e. ap (λ n. number n ∷ []) (eqb-true s.trade id e))

same_cash : (base : Base) (id : ℕ) → filter (is_cash_row_of_trade id) (sheets base).moves ≡ filter (is_cash_row_of_trade id) (tables_of_base base).moves
unfolding tables_sorted_by_key tables_of_base_in_schema
same_cash base id = ap (filter (is_cash_row_of_trade id)) (numbered_stay 1 (postings_sorted_by_stamp (postings_of_base base)))

-- ---- its statuses, the oldest first

abbrev older : HistoryRow → HistoryRow → Bool
older a b = nat_lt a.stamp b.stamp

number_splits : (x y z : ℕ) → nat_lt z x ≡ true → nat_lt z y ≡ false → nat_lt y x ≡ true
number_splits x y z g h = grind (arith, nat_tests)

splits : Splits older
splits x y z g h = number_splits x.stamp y.stamp z.stamp g h

number_apart : (x y : ℕ) → nat_lt x y ≡ true → nat_lt x y ≡ not (nat_lt y x)
number_apart x y h = grind (arith, nat_tests)

one_apart : (h : HistoryRow) (others : List HistoryRow) → Earlier h others → AllByRecursion (λ k. older h k ≡ not (older k h)) others
one_apart h [] e = tt
one_apart h (k ∷ others) e = (number_apart h.stamp k.stamp e.0, one_apart h others e.1)

apart : (rows : List HistoryRow) → AllRise rows → AllApart older rows
apart [] h = tt
apart (h ∷ rows) e = (one_apart h rows e.0, apart rows e.1)

same_history : (base : Base) (id : ℕ) → AllRise (history_rows_with_trade_id (tables_of_base base) id)
    → sort_by older (history_rows_with_trade_id (sheets base) id) ≡ sort_by older (history_rows_with_trade_id (tables_of_base base) id)
same_history base id rise =
    ap (sort_by older) (history_by_code base id)
    ∙ sort_twice older (is_row_key_less history_key) (history_rows_with_trade_id (tables_of_base base) id) splits
    (apart (history_rows_with_trade_id (tables_of_base base) id) rise)

-- ---- the view

same_records : (base : Base) (r : TradeRow) → AllRise (history_rows_with_trade_id (tables_of_base base) r.id) → trade_lookup_records (sheets base) r ≡ trade_lookup_records (tables_of_base base) r
same_records base r rise i =
    trade_record r ∷ map settlement_record (same_settlements base r.id i) ++ map cash_record (same_cash base r.id i)
    ++ map (λ h. codes "history" ∷ decimal h.stamp ∷ trade_status_code h.status ∷ []) (same_history base r.id rise i)

pub same_lookup : (base : Base) (test : TradeRow → Bool) → BooksInvariant base → AuditInvariant base → trade_lookup_view (sheets base) test ≡ trade_lookup_view (tables_of_base base) test
unfolding trade_lookup_view
same_lookup base test books sound =
    let rows : List TradeRow = take 20 (trade_rows_oldest_first (filter test (tables_of_base base).trades)) in
    let rise : AllByRecursion (λ (r : TradeRow). trade_lookup_records (sheets base) r ≡ trade_lookup_records (tables_of_base base) r) rows =
    All-take _ 20 (trade_rows_oldest_first (filter test (tables_of_base base).trades)) (All-sort _ _ (filter test (tables_of_base base).trades) (All-filter _ test (tables_of_base base).trades
    (All-each (λ (r : TradeRow). AllRise (history_rows_with_trade_id (tables_of_base base) r.id))
    (λ (r : TradeRow). trade_lookup_records (sheets base) r ≡ trade_lookup_records (tables_of_base base) r) (tables_of_base base).trades
    (λ r h. same_records base r h) (statuses_rise base books sound)))) in
    ap (λ (ts : List TradeRow). flat_map (trade_lookup_records (sheets base)) (take 20 (trade_rows_oldest_first (filter test ts)))) (same_trades base books)
    ∙ flat_map-same (trade_lookup_records (sheets base)) (trade_lookup_records (tables_of_base base)) rows rise
