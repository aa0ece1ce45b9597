-- Sorting the tables by key changes neither an account's recent trades nor their statuses.
use Rattle.std.proofs.Common.{◌≡◌, ℕ, ◌==◌, List, [], ◌∷◌, ◌++◌, Bool, true, false, not, ap, ◌∙◌, map, filter, arith, take}
use Rattle.std.specs.Prelude.{codes, decimal, flat_map, nat_lt}
use Rattle.std.specs.List.{AllByRecursion}
use Rattle.std.proofs.lemmas.Bool.Decides.{nat_tests}
use Rattle.brk_money.specs.Kinds.{trade_status_name}
use Rattle.brk_model.specs.Base.{Base}
use Rattle.brk_model.specs.Joins.{history_rows_with_trade_id, trade_rows_recent_first, trade_rows_of_account}
use Rattle.brk_model.specs.Keys.{history_key, is_row_key_less}
use Rattle.brk_model.specs.Lists.{is_pair_less, sort_by}
use Rattle.brk_model.specs.PositionView.{last_ten_trade_rows, recent_trades_view}
use Rattle.brk_model.specs.Sheets.{sheets}
use Rattle.brk_model.specs.Tables.{HistoryRow, TradeRow, tables_of_base}
use Rattle.brk_audit_theorems.specs.Sound.{AuditInvariant}
use Rattle.brk_trade_books.specs.Books.{BooksInvariant}
use Rattle.brk_trade_books.proofs.Order.{Splits}
use Rattle.brk_view_theorems.proofs.Sorting.{AllApart, All-sort, sort_pieces}
use Rattle.brk_view_theorems.proofs.Trades.{AllRise, All-each, All-filter, All-take, Earlier, history_by_code, same_trades, statuses_rise}

-- ---- the newest statuses first

abbrev newest : HistoryRow → HistoryRow → Bool
newest a b = is_pair_less b.stamp a.stamp b.trade a.trade

rising_splits : (x y z x' y' z' : ℕ) → is_pair_less x z x' z' ≡ true → is_pair_less y z y' z' ≡ false → is_pair_less x y x' y' ≡ true
rising_splits x y z x' y' z' g h = grind (arith, nat_tests)

splits : Splits newest
splits x y z g h = rising_splits x.stamp y.stamp z.stamp x.trade y.trade z.trade g h

rising_apart : (x y x' y' : ℕ) → nat_lt x y ≡ true → is_pair_less y x y' x' ≡ not (is_pair_less x y x' y')
rising_apart x y x' y' h = grind (arith, nat_tests)

one_apart : (h : HistoryRow) (others : List HistoryRow) → Earlier h others → AllByRecursion (λ k. newest h k ≡ not (newest k h)) others
one_apart h [] e = tt
one_apart h (k ∷ others) e = (rising_apart h.stamp k.stamp h.trade k.trade e.0, one_apart h others e.1)

apart : (rows : List HistoryRow) → AllRise rows → AllApart newest rows
apart [] h = tt
apart (h ∷ rows) e = (one_apart h rows e.0, apart rows e.1)

-- ---- the view

same_last : (base : Base) (account : ℕ) → BooksInvariant base → last_ten_trade_rows (sheets base) account ≡ last_ten_trade_rows (tables_of_base base) account
same_last base account books = ap (λ rows. take 10 (trade_rows_recent_first (filter (λ (r : TradeRow). r.account == account) rows))) (same_trades base books)

abbrev history_records : List HistoryRow → List (List (List ℕ))
history_records rows = map (λ h. codes "history" ∷ decimal h.trade ∷ trade_status_name h.status ∷ decimal h.stamp ∷ []) rows

pub same_recent : (base : Base) (account : ℕ) → BooksInvariant base → AuditInvariant base → recent_trades_view (sheets base) account ≡ recent_trades_view (tables_of_base base) account
unfolding recent_trades_view
same_recent base account books sound =
    let rows : List TradeRow = last_ten_trade_rows (tables_of_base base) account in
    let shown : List TradeRow → List (List (List ℕ)) = map (λ t. codes "trade" ∷ decimal t.id ∷ t.symbol ∷ decimal t.qty ∷ []) in
    let rise : AllByRecursion (λ (r : TradeRow). AllApart newest (history_rows_with_trade_id (tables_of_base base) r.id)) rows =
    All-take _ 10 (trade_rows_recent_first (trade_rows_of_account (tables_of_base base) account))
    (All-sort _ _ (trade_rows_of_account (tables_of_base base) account) (All-filter _ (λ r. r.account == account) (tables_of_base base).trades
    (All-each (λ (r : TradeRow). AllRise (history_rows_with_trade_id (tables_of_base base) r.id))
    (λ (r : TradeRow). AllApart newest (history_rows_with_trade_id (tables_of_base base) r.id)) (tables_of_base base).trades
    (λ r h. apart (history_rows_with_trade_id (tables_of_base base) r.id) h) (statuses_rise base books sound)))) in
    ap (λ ts. shown ts ++ history_records (sort_by newest (flat_map (λ t. history_rows_with_trade_id (sheets base) t.id) ts))) (same_last base account books)
    ∙ ap (λ hs. shown rows ++ history_records hs)
    (sort_pieces newest (is_row_key_less history_key) (λ t. history_rows_with_trade_id (sheets base) t.id)
    (λ t. history_rows_with_trade_id (tables_of_base base) t.id) rows splits (λ t. history_by_code base t.id) rise)
