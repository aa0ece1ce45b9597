-- The assets of an account, from its balance and its summaries at last prices.
use Rattle.std.proofs.Common.{◌≡◌, ℕ, ◌==◌, Bool, true, false, not, cond, List, [], ◌∷◌, ◌++◌, refl, sym, ◌∙◌, ap, subst, filter, arith, ℤ, pos, negsuc, suc, zero, ◌+ℤ◌, Option, Some, None}
use Rattle.std.specs.Prelude.{◌*◌, ◌*ℤ◌, flat_map, find, option_map}
use Rattle.std.specs.Option.{option_map_or}
use Rattle.std.specs.List.{AllByRecursion}
use Rattle.std.proofs.lemmas.Bool.{eqb-true}
use lib.IntN.{+ℤ_assoc, +ℤ_comm, +ℤ_idr, +ℤ_idl}
use Rattle.brk_money.specs.Spelling.{Text}
use Rattle.brk_model.specs.Lists.{insert_by, sort_by, is_zero, total_by}
use Rattle.brk_model.specs.Records.{Account, Security, Trade}
use Rattle.brk_model.specs.Base.{Base, account_with_id, completed_trades, security_with_symbol}
use Rattle.brk_model.specs.Derived.{balance_of_account, holdings_market_value, postings_of_base, holding_summary_quantity}
use Rattle.brk_model.specs.Joins.{account_row_with_id, last_price_in_tables}
use Rattle.brk_model.specs.Keys.{KeyPart, rows_sorted_by_key, is_row_key_less, summary_key}
use Rattle.brk_model.specs.Orders.{assets_of_account}
use Rattle.brk_model.specs.PositionView.{market_value_of_account_row}
use Rattle.brk_model.specs.Sheets.{sheets, tables_sorted_by_key}
use Rattle.brk_model.specs.Tables.{AccountRow, SummaryRow, Tables, tables_of_base_in_schema, account_row, last_trade_row, summary_rows}
use Rattle.brk_trade_books.specs.Books.{BooksInvariant, HasDistinctAccountIds}
use Rattle.brk_trade_books.proofs.Order.{by_key-filter}
use Rattle.brk_trade_books.proofs.Same.{NonePass, All-map, flat_map-append, flat_map-empty}
use Rattle.brk_trade_books.proofs.Places.{FoundAt, filter-append, find-at}
use Rattle.brk_trade_books.proofs.Reading.{reads_account}
use Rattle.brk_trade_books.proofs.TermReading.{reads_last_trade}
use Rattle.brk_trade_books.proofs.References.{append_nil}
use Rattle.brk_trade_books.proofs.Volumes.{each_found}

-- ---- sums

pub total-insert : {X : Type 0} (f : X → ℤ) (before : X → X → Bool) (x : X) (ys : List X) → total_by f (insert_by before x ys) ≡ f x +ℤ total_by f ys
unfolding total_by
total-insert f before x [] = refl
total-insert {X = X} f before x (y ∷ ys) = by_test (total-insert f before x ys) (before y x)
  where
    swap : (a b c : ℤ) → b +ℤ (a +ℤ c) ≡ a +ℤ (b +ℤ c)
    swap a b c = sym (+ℤ_assoc b a c) ∙ ap (λ n. n +ℤ c) (+ℤ_comm b a) ∙ +ℤ_assoc a b c

    by_test : total_by f (insert_by before x ys) ≡ f x +ℤ total_by f ys → (b : Bool) → total_by f (cond b (y ∷ insert_by before x ys) (x ∷ y ∷ ys)) ≡ f x +ℤ total_by f (y ∷ ys)
    by_test e true = ap (λ n. f y +ℤ n) e ∙ swap (f x) (f y) (total_by f ys)
    by_test e false = refl

pub total-sorted : {Row : Type 0} (key : Row → List KeyPart) (f : Row → ℤ) (xs : List Row) → total_by f (rows_sorted_by_key key xs) ≡ total_by f xs
unfolding total_by sort_by
total-sorted key f [] = refl
total-sorted key f (x ∷ xs) = total-insert f (is_row_key_less key) x (rows_sorted_by_key key xs) ∙ ap (λ n. f x +ℤ n) (total-sorted key f xs)

pub total-append : {X : Type 0} (f : X → ℤ) (xs ys : List X) → total_by f (xs ++ ys) ≡ total_by f xs +ℤ total_by f ys
unfolding total_by
total-append f [] ys = sym (+ℤ_idl (total_by f ys))
total-append f (x ∷ xs) ys = ap (λ n. f x +ℤ n) (total-append f xs ys) ∙ sym (+ℤ_assoc (f x) (total_by f xs) (total_by f ys))

-- ---- the summaries of one account

-- an account's summaries in the symbols of some securities
abbrev pub summaries_in : List Trade → List Security → ℕ → List SummaryRow
summaries_in done ss account = flat_map (λ s. summary_rows done account s.symbol) ss

-- they are of the account
own : (done : List Trade) (account id : ℕ) (b : Bool) → (account == id) ≡ b → (symbol : Text) (zero : Bool)
    → filter {X = SummaryRow} (λ r. r.account == id) (cond (not zero) (record { account = account; symbol = symbol; qty = holding_summary_quantity done account symbol } ∷ []) [])
    ≡ cond b (cond (not zero) (record { account = account; symbol = symbol; qty = holding_summary_quantity done account symbol } ∷ []) []) []
own done account id true e symbol true = refl
own done account id false e symbol true = refl
own done account id true e symbol false = ap (λ b. cond b (record { account = account; symbol = symbol; qty = holding_summary_quantity done account symbol } ∷ []) []) e
own done account id false e symbol false = ap (λ b. cond b (record { account = account; symbol = symbol; qty = holding_summary_quantity done account symbol } ∷ []) []) e

none_appended : {X : Type 0} (b : Bool) (xs ys : List X) → cond b xs [] ++ cond b ys [] ≡ cond b (xs ++ ys) []
none_appended true xs ys = refl
none_appended false xs ys = refl

no_rows : (b : Bool) → filter {X = SummaryRow} (λ r. true) [] ≡ cond b [] []
no_rows true = refl
no_rows false = refl

of_one : (done : List Trade) (ss : List Security) (account id : ℕ) → filter (λ r. r.account == id) (summaries_in done ss account) ≡ cond (account == id) (summaries_in done ss account) []
of_one done [] account id = no_rows (account == id)
of_one done (s ∷ ss) account id =
    filter-append (λ r. r.account == id) (summary_rows done account s.symbol) (summaries_in done ss account)
    ∙ (λ i. own done account id (account == id) refl s.symbol (is_zero (holding_summary_quantity done account s.symbol)) i ++ of_one done ss account id i)
    ∙ none_appended (account == id) (summary_rows done account s.symbol) (summaries_in done ss account)

pub of_all : (done : List Trade) (ss : List Security) (accounts : List Account) (id : ℕ)
    → filter (λ r. r.account == id) (flat_map (λ a. summaries_in done ss a.id) accounts) ≡ flat_map (λ a. cond (a.id == id) (summaries_in done ss a.id) []) accounts
of_all done ss [] id = refl
of_all done ss (a ∷ accounts) id =
    filter-append (λ r. r.account == id) (summaries_in done ss a.id) (flat_map (λ a. summaries_in done ss a.id) accounts)
    ∙ (λ i. of_one done ss a.id id i ++ of_all done ss accounts id i)

accounts_after : (xs : List Account) (a : Account) (ys : List Account) → HasDistinctAccountIds (xs ++ a ∷ ys) → NonePass (λ b. b.id == a.id) ys
accounts_after [] a ys d = d.0
accounts_after (x ∷ xs) a ys d = accounts_after xs a ys d.1

pub of_account_alone : (done : List Trade) (ss : List Security) (accounts : List Account) (id : ℕ) (a : Account) → HasDistinctAccountIds accounts → find (λ a. a.id == id) accounts ≡ Some a
    → flat_map (λ a. cond (a.id == id) (summaries_in done ss a.id) []) accounts ≡ summaries_in done ss id
of_account_alone done ss accounts id a d e =
    let f : FoundAt Account (λ a. a.id == id) a accounts = find-at (λ a. a.id == id) accounts a e in
    let same : a.id ≡ id = eqb-true a.id id f.passes in
    let after : NonePass (λ b. b.id == id) f.after = subst (λ m. NonePass (λ b. b.id == m) f.after) same (accounts_after f.before a f.after (subst HasDistinctAccountIds f.stands d)) in
    let F : Account → List SummaryRow = λ a. cond (a.id == id) (summaries_in done ss a.id) [] in
    let none : (xs : List Account) → NonePass (λ b. b.id == id) xs → flat_map F xs ≡ [] = λ xs h.
    flat_map-empty F xs (All-map xs (λ b k. ap (λ c. cond c (summaries_in done ss b.id) []) k) h) in
    ap (flat_map F) f.stands ∙ flat_map-append F f.before (a ∷ f.after)
    ∙ (λ i. none f.before f.others i ++ (F a ++ none f.after after i))
    ∙ append_nil (F a) ∙ ap (λ b. cond b (summaries_in done ss a.id) []) f.passes ∙ ap (summaries_in done ss) same

-- ---- their worth

zero_worth : (q : ℤ) (price : ℕ) (b : Bool) → is_zero q ≡ b → (row : SummaryRow) → row.qty ≡ q → (g : SummaryRow → ℤ) → g row ≡ q *ℤ pos price
    → total_by g (cond (not b) (row ∷ []) []) ≡ q *ℤ pos price
unfolding total_by
zero_worth q price false e row k g h = +ℤ_idr (g row) ∙ h
zero_worth (pos zero) price true e row k g h = nothing price
  where
    no_times : (n : ℕ) → 0 ≡ 0 * n
    no_times n = omega arith

    nothing : (n : ℕ) → pos 0 ≡ pos 0 *ℤ pos n
    nothing n = ap pos (no_times n)
zero_worth (pos (suc n)) price true e row k g h = absurd (cc)
zero_worth (negsuc n) price true e row k g h = absurd (cc)

-- the worth of a row at the prices of some tables
abbrev worth : Tables → SummaryRow → ℤ
worth t r = r.qty *ℤ pos (last_price_in_tables t r.symbol)

price_found : (base : Base) (s : Security) → security_with_symbol base s.symbol ≡ Some s → last_price_in_tables (sheets base) s.symbol ≡ s.last_price
price_found base s e = ap (λ o. option_map_or (λ r. r.price) o 0) (reads_last_trade base s.symbol ∙ ap (option_map last_trade_row) e)

worth_of : (base : Base) (id : ℕ) (ss : List Security) → AllByRecursion (λ s. security_with_symbol base s.symbol ≡ Some s) ss
    → total_by (worth (sheets base)) (summaries_in (completed_trades base) ss id) ≡ total_by (λ s. holding_summary_quantity (completed_trades base) id s.symbol *ℤ pos s.last_price) ss
unfolding total_by
worth_of base id [] h = refl
worth_of base id (s ∷ ss) h =
    let row : SummaryRow = record { account = id; symbol = s.symbol; qty = holding_summary_quantity (completed_trades base) id s.symbol } in
    total-append (worth (sheets base)) (summary_rows (completed_trades base) id s.symbol) (summaries_in (completed_trades base) ss id)
    ∙ (λ i. zero_worth (holding_summary_quantity (completed_trades base) id s.symbol) s.last_price
    (is_zero (holding_summary_quantity (completed_trades base) id s.symbol)) refl row refl (worth (sheets base))
    (ap (λ n. holding_summary_quantity (completed_trades base) id s.symbol *ℤ pos n) (price_found base s h.0)) i +ℤ worth_of base id ss h.1 i)

summaries_read : (base : Base) (id : ℕ) (a : Account) → BooksInvariant base → account_with_id base id ≡ Some a
    → total_by (worth (sheets base)) (filter (λ r. r.account == id) (sheets base).summaries) ≡ holdings_market_value base.securities (completed_trades base) id
unfolding tables_of_base_in_schema tables_sorted_by_key holdings_market_value
summaries_read base id a books e =
    let done : List Trade = completed_trades base in
    let rows : List SummaryRow = flat_map (λ a. summaries_in done base.securities a.id) base.accounts in
    ap (total_by (worth (sheets base))) (sym (by_key-filter summary_key (λ r. r.account == id) rows))
    ∙ total-sorted summary_key (worth (sheets base)) (filter (λ r. r.account == id) rows)
    ∙ ap (total_by (worth (sheets base))) (of_all done base.securities base.accounts id ∙ of_account_alone done base.securities base.accounts id a books.owners e)
    ∙ worth_of base id base.securities (each_found base.securities books.symbols)

pub reads_assets : (base : Base) (id : ℕ) (r : AccountRow) → BooksInvariant base → account_row_with_id (sheets base) id ≡ Some r
    → r.balance +ℤ market_value_of_account_row (sheets base) r ≡ assets_of_account base id
reads_assets base id r books e = by_account (account_with_id base id) refl
  where
    same_row : (x y : AccountRow) → Some x ≡ Some y → x ≡ y
    same_row x y e = cc

    by_account : (o : Option Account) → account_with_id base id ≡ o → r.balance +ℤ market_value_of_account_row (sheets base) r ≡ assets_of_account base id
    by_account None f =
        let k : Some r ≡ None = sym e ∙ reads_account base id ∙ ap (option_map (account_row base.accounts (postings_of_base base))) f in
        absurd (cc)
    by_account (Some a) f =
        let g : FoundAt Account (λ a. a.id == id) a base.accounts = find-at (λ a. a.id == id) base.accounts a f in
        let same : a.id ≡ id = eqb-true a.id id g.passes in
        let row : r ≡ account_row base.accounts (postings_of_base base) a =
        same_row r (account_row base.accounts (postings_of_base base) a) (sym e ∙ reads_account base id ∙ ap (option_map (account_row base.accounts (postings_of_base base))) f) in
        ap (λ r. r.balance +ℤ market_value_of_account_row (sheets base) r) row
        ∙ (λ i. balance_of_account base.accounts (postings_of_base base) (same i) +ℤ total_by (worth (sheets base)) (filter (λ row. row.account == same i) (sheets base).summaries))
        ∙ ap (λ n. balance_of_account base.accounts (postings_of_base base) id +ℤ n) (summaries_read base id a books f)
