-- Sorting the tables by key changes neither the balances nor the market values of customers'
-- accounts.
use Rattle.std.proofs.Common.{◌≡◌, ℕ, ◌==◌, ℤ, pos, List, [], ◌∷◌, Bool, true, false, not, sym, ap, ◌∙◌, map, filter, arith}
use Rattle.std.specs.Prelude.{◌&&◌, ◌||◌, ◌*ℤ◌, nat_lt, int_lt, bytes_eq, decimal}
use Rattle.std.specs.List.{AllByRecursion, list_any}
use Rattle.std.specs.Option.{option_map_or}
use Rattle.std.proofs.lemmas.Bool.Decides.{nat_tests}
use Rattle.std.proofs.lemmas.Int.{ints}
use Rattle.brk_money.specs.Spelling.{Text, cents_text}
use Rattle.brk_model.specs.Base.{Base}
use Rattle.brk_model.specs.Derived.{postings_of_base}
use Rattle.brk_model.specs.Joins.{last_price_in_tables}
use Rattle.brk_model.specs.Keys.{account_key, customer_key, summary_key}
use Rattle.brk_model.specs.Lists.{sort_by, total_by}
use Rattle.brk_model.specs.PositionView.{market_value_of_account_row, is_before_by_market_value, customer_position_view}
use Rattle.brk_model.specs.Records.{Account, Customer}
use Rattle.brk_model.specs.Sheets.{sheets, tables_sorted_by_key}
use Rattle.brk_model.specs.Tables.{AccountRow, SummaryRow, Tables, account_row, last_trade_row, tables_of_base, tables_of_base_in_schema}
use Rattle.brk_trade_books.specs.Books.{HasDistinctAccountIds, BooksInvariant}
use Rattle.brk_trade_books.proofs.Order.{Splits, by_key-filter}
use Rattle.brk_trade_books.proofs.Reading.{any-sorted, find-map}
use Rattle.brk_trade_books.proofs.TermReading.{reads_last_trade}
use Rattle.brk_trade_books.proofs.Worth.{total-sorted}
use Rattle.brk_view_theorems.proofs.Sorting.{AllApart, apart_filter, same_map, same_order, same_rows, sort_chosen}

-- ---- one account

pub same_price : (base : Base) (symbol : Text) → last_price_in_tables (sheets base) symbol ≡ last_price_in_tables (tables_of_base base) symbol
unfolding tables_of_base_in_schema
same_price base symbol =
    ap (λ o. option_map_or (λ r. r.price) o 0) (reads_last_trade base symbol ∙ sym (find-map (λ r. bytes_eq r.symbol symbol) last_trade_row base.securities))

pub same_assets : (base : Base) (a : AccountRow) → market_value_of_account_row (sheets base) a ≡ market_value_of_account_row (tables_of_base base) a
unfolding tables_sorted_by_key
same_assets base a =
    let own : SummaryRow → Bool = λ row. row.account == a.id in
    let worth : (Text → ℕ) → SummaryRow → ℤ = λ price row. row.qty *ℤ pos (price row.symbol) in
    ap (total_by (worth (last_price_in_tables (sheets base)))) (sym (by_key-filter summary_key own (tables_of_base base).summaries))
    ∙ total-sorted summary_key (worth (last_price_in_tables (sheets base))) (filter own (tables_of_base base).summaries)
    ∙ (λ i. total_by (worth (λ s. same_price base s i)) (filter own (tables_of_base base).summaries))

-- ---- accounts by worth

-- first by a signed number, and then by another
abbrev worth_first : ℤ → ℕ → ℤ → ℕ → Bool
worth_first a i b j = int_lt a b || (not (int_lt b a) && nat_lt i j)

worth_splits : (x y z : ℤ) (x' y' z' : ℕ) → worth_first z z' x x' ≡ true → worth_first z z' y y' ≡ false → worth_first y y' x x' ≡ true
worth_splits x y z x' y' z' g h = grind (arith, ints, nat_tests)

worth_apart : (x y : ℤ) (x' y' : ℕ) → (y' == x') ≡ false → worth_first x x' y y' ≡ not (worth_first y y' x x')
worth_apart x y x' y' h = grind (arith, ints, nat_tests)

splits : (t : Tables) → Splits (is_before_by_market_value t)
splits t x y z g h = worth_splits (market_value_of_account_row t x) (market_value_of_account_row t y) (market_value_of_account_row t z) x.id y.id z.id g h

apart : (base : Base) (t : Tables) (accounts : List Account) → HasDistinctAccountIds accounts
    → AllApart (is_before_by_market_value t) (map (account_row base.accounts (postings_of_base base)) accounts)
apart base t [] d = tt
apart base t (a ∷ accounts) d = (from_one accounts d.0, apart base t accounts d.1)
  where
    row : Account → AccountRow
    row = account_row base.accounts (postings_of_base base)

    from_one : (others : List Account) → AllByRecursion (λ b. (b.id == a.id) ≡ false) others
        → AllByRecursion (λ y. is_before_by_market_value t (row a) y ≡ not (is_before_by_market_value t y (row a))) (map row others)
    from_one [] h = tt
    from_one (b ∷ others) h = (worth_apart (market_value_of_account_row t (row a)) (market_value_of_account_row t (row b)) a.id b.id h.0, from_one others h.1)

-- ---- the view

abbrev owned_by : (Customer → Bool) → List Customer → AccountRow → Bool
owned_by test customers a = list_any (λ c. test c && (c.id == a.customer)) customers

pub same_position : (base : Base) (test : Customer → Bool) → BooksInvariant base → customer_position_view (sheets base) test ≡ customer_position_view (tables_of_base base) test
unfolding customer_position_view tables_sorted_by_key tables_of_base_in_schema
same_position base test books =
    let t : Tables = tables_of_base base in
    let s : Tables = sheets base in
    let owned : AccountRow → Bool = owned_by test base.customers in
    let record_in : Tables → AccountRow → List Text = λ t a. decimal a.id ∷ cents_text a.balance ∷ cents_text (market_value_of_account_row t a) ∷ [] in
    ap (λ rows. map (record_in s) (sort_by (is_before_by_market_value s) rows))
    (same_rows (owned_by test s.customers) owned s.accounts (λ a. any-sorted customer_key (λ c. test c && (c.id == a.customer)) base.customers))
    ∙ ap (map (record_in s)) (same_order (is_before_by_market_value s) (is_before_by_market_value t) (filter owned s.accounts)
    (λ a b. λ i. int_lt (same_assets base a i) (same_assets base b i) || (not (int_lt (same_assets base b i) (same_assets base a i)) && nat_lt a.id b.id)))
    ∙ ap (map (record_in s))
    (sort_chosen (is_before_by_market_value t) account_key owned t.accounts (splits t)
    (apart_filter (is_before_by_market_value t) owned t.accounts (apart base t base.accounts books.owners)))
    ∙ same_map (record_in s) (record_in t) (sort_by (is_before_by_market_value t) (filter owned t.accounts))
    (λ a. ap (λ n. decimal a.id ∷ cents_text a.balance ∷ cents_text n ∷ []) (same_assets base a))
