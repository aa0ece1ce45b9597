-- The summaries as they are read, and after a result.
use Rattle.std.proofs.Common.{◌≡◌, ℕ, ◌==◌, ◌&&◌, Bool, true, false, not, cond, List, [], ◌∷◌, ◌++◌, refl, sym, ◌∙◌, ap, subst, map, filter, ℤ, pos, negsuc, zero, suc, Some, None}
use Rattle.std.specs.Prelude.{bytes_eq, find, flat_map, is_some}
use Rattle.std.specs.List.{AllByRecursion}
use Rattle.std.proofs.lemmas.Bool.{eq-eqb}
use Rattle.std.proofs.lemmas.Slice.Eq.{bytes_eq-Decides}
use Rattle.brk_money.specs.Spelling.{Text}
use Rattle.brk_model.specs.Lists.{insert_by, is_zero, sort_by, update_where}
use Rattle.brk_model.specs.Records.{Account, Security, Trade}
use Rattle.brk_model.specs.Base.{Base, account_with_id, completed_trades, security_with_symbol}
use Rattle.brk_model.specs.Derived.{holding_summary_quantity}
use Rattle.brk_model.specs.Keys.{number, word, rows_sorted_by_key, insert_row_by_key, is_key_less, is_row_key_less, summary_key}
use Rattle.brk_model.specs.Sheets.{sheets, tables_sorted_by_key}
use Rattle.brk_model.specs.Tables.{SummaryRow, summary_rows, tables_of_base_in_schema}
use Rattle.brk_trade_books.specs.Books.{HasDistinctSymbols, BooksInvariant}
use Rattle.brk_trade_books.specs.TradeReads.{summary_row_if_nonzero, summary_quantity_or_zero, summary_row_of_position}
use Rattle.brk_trade_books.proofs.Bools.{numbers_back, same_text, texts_back}
use Rattle.brk_trade_books.proofs.NewKeys.{and_both}
use Rattle.brk_trade_books.proofs.Order.{by_key-filter, map-insert_by}
use Rattle.brk_trade_books.proofs.Same.{NonePass, All-map, flat_map-append, flat_map-empty, flat_map-same}
use Rattle.brk_trade_books.proofs.Places.{FoundAt, filter-all, find-at, some_of}
use Rattle.brk_trade_books.proofs.References.{append_nil}
use Rattle.brk_trade_books.proofs.LotReading.{All-sort, all_pass, filter-both}
use Rattle.brk_trade_books.proofs.Worth.{of_account_alone, of_all, summaries_in}
use Rattle.brk_trade_books.proofs.Each.{by_key-parts, each}
use Rattle.brk_trade_books.proofs.Positions.{summary_other}
use Rattle.brk_trade_books.proofs.Completing.{Completes}
use Rattle.brk_trade_books.proofs.Histories.{filter-flat_map}

-- ---- the summary of a position, alone

-- whether a row is of an account and a symbol
abbrev pub is_of : ℕ → Text → SummaryRow → Bool
is_of account symbol r = (r.account == account) && bytes_eq r.symbol symbol

-- the row of a summary, or none where it is 0
abbrev pub row_of : ℕ → Text → ℤ → List SummaryRow
row_of account symbol q = filter (λ r. not (is_zero r.qty)) (record { account = account; symbol = symbol; qty = q } ∷ [])

symbols_after : (xs : List Security) (s : Security) (ys : List Security) → HasDistinctSymbols (xs ++ s ∷ ys) → NonePass (λ u. bytes_eq u.symbol s.symbol) ys
symbols_after [] s ys d = d.0
symbols_after (x ∷ xs) s ys d = symbols_after xs s ys d.1

of_symbol : (done : List Trade) (account : ℕ) (symbol wanted : Text) (b : Bool) → bytes_eq symbol wanted ≡ b
    → filter (λ r. bytes_eq r.symbol wanted) (summary_rows done account symbol) ≡ cond b (summary_rows done account symbol) []
of_symbol done account symbol wanted b e = by_test b e (is_zero (holding_summary_quantity done account symbol))
  where
    row : SummaryRow
    row = record { account = account; symbol = symbol; qty = holding_summary_quantity done account symbol }

    by_test : (b : Bool) → bytes_eq symbol wanted ≡ b → (z : Bool) → filter (λ r. bytes_eq r.symbol wanted) (cond (not z) (row ∷ []) []) ≡ cond b (cond (not z) (row ∷ []) []) []
    by_test true e true = refl
    by_test false e true = refl
    by_test true e false = ap (λ b. cond b (row ∷ []) []) e
    by_test false e false = ap (λ b. cond b (row ∷ []) []) e

symbol_alone : (done : List Trade) (account : ℕ) (symbol : Text) (ss : List Security) (s : Security) → HasDistinctSymbols ss → find (λ s. bytes_eq s.symbol symbol) ss ≡ Some s
    → filter (λ r. bytes_eq r.symbol symbol) (summaries_in done ss account) ≡ summary_rows done account symbol
symbol_alone done account symbol ss s d e =
    let f : FoundAt Security (λ s. bytes_eq s.symbol symbol) s ss = find-at (λ s. bytes_eq s.symbol symbol) ss s e in
    let same : s.symbol ≡ symbol = same_text s.symbol symbol f.passes in
    let after : NonePass (λ u. bytes_eq u.symbol symbol) f.after =
    subst (λ m. NonePass (λ u. bytes_eq u.symbol m) f.after) same (symbols_after f.before s f.after (subst HasDistinctSymbols f.stands d)) in
    let F : Security → List SummaryRow = λ s. filter (λ r. bytes_eq r.symbol symbol) (summary_rows done account s.symbol) in
    let none : (xs : List Security) → NonePass (λ u. bytes_eq u.symbol symbol) xs → flat_map F xs ≡ [] = λ xs h.
    flat_map-empty F xs (All-map xs (λ u k. of_symbol done account u.symbol symbol false k) h) in
    filter-flat_map (λ r. bytes_eq r.symbol symbol) (λ s. summary_rows done account s.symbol) ss
    ∙ ap (flat_map F) f.stands ∙ flat_map-append F f.before (s ∷ f.after)
    ∙ (λ i. none f.before f.others i ++ (F s ++ none f.after after i))
    ∙ append_nil (F s) ∙ of_symbol done account s.symbol symbol true f.passes ∙ ap (summary_rows done account) same

-- the rows of all positions
abbrev pub all_summaries : Base → List Trade → List SummaryRow
all_summaries base done = flat_map (λ a. summaries_in done base.securities a.id) base.accounts

pub own_summary : (base : Base) (done : List Trade) (account : ℕ) (symbol : Text) (a : Account) (s : Security) → BooksInvariant base
    → account_with_id base account ≡ Some a → security_with_symbol base symbol ≡ Some s
    → filter (is_of account symbol) (all_summaries base done) ≡ summary_rows done account symbol
own_summary base done account symbol a s books e f =
    filter-both (λ r. r.account == account) (λ r. bytes_eq r.symbol symbol) (all_summaries base done)
    ∙ ap (filter (λ r. bytes_eq r.symbol symbol)) (of_all done base.securities base.accounts account ∙ of_account_alone done base.securities base.accounts account a books.owners e)
    ∙ symbol_alone done account symbol base.securities s books.symbols f

-- ---- as it is read

find-filter : {X : Type 0} (p : X → Bool) (xs : List X) → find p xs ≡ find p (filter p xs)
find-filter p [] = refl
find-filter {X = X} p (x ∷ xs) = by_test (p x) refl (find-filter p xs)
  where
    by_test : (b : Bool) → p x ≡ b → find p xs ≡ find p (filter p xs) → find p (x ∷ xs) ≡ find p (cond b (x ∷ filter p xs) (filter p xs))
    by_test true e ih = ap (λ b. cond b (Some x) (find p xs)) e ∙ sym (ap (λ b. cond b (Some x) (find p (filter p xs))) e)
    by_test false e ih = ap (λ b. cond b (Some x) (find p xs)) e ∙ ih

of_itself : (account : ℕ) (symbol : Text) (q : ℤ) → is_of account symbol (record { account = account; symbol = symbol; qty = q }) ≡ true
of_itself account symbol q = and_both (account == account) (bytes_eq symbol symbol) (eq-eqb account account refl) ((bytes_eq-Decides symbol symbol).1 refl)

sort_one : (rows : List SummaryRow) (q : ℤ) (account : ℕ) (symbol : Text) → rows ≡ row_of account symbol q → rows_sorted_by_key summary_key rows ≡ row_of account symbol q
unfolding sort_by
sort_one rows q account symbol e = ap (rows_sorted_by_key summary_key) e ∙ by_test (is_zero q)
  where
    row : SummaryRow
    row = record { account = account; symbol = symbol; qty = q }

    by_test : (z : Bool) → rows_sorted_by_key summary_key (cond (not z) (row ∷ []) []) ≡ cond (not z) (row ∷ []) []
    by_test true = refl
    by_test false = refl

find_one : (q : ℤ) (account : ℕ) (symbol : Text) → find (is_of account symbol) (row_of account symbol q) ≡ cond (is_zero q) None (Some (record { account = account; symbol = symbol; qty = q }))
find_one q account symbol = by_test (is_zero q)
  where
    row : SummaryRow
    row = record { account = account; symbol = symbol; qty = q }

    by_test : (z : Bool) → find (is_of account symbol) (cond (not z) (row ∷ []) []) ≡ cond z None (Some row)
    by_test true = refl
    by_test false = ap (λ b. cond b (Some row) None) (of_itself account symbol q)

pub reads_summary : (base : Base) (account : ℕ) (symbol : Text) (a : Account) (s : Security) → BooksInvariant base → account_with_id base account ≡ Some a → security_with_symbol base symbol ≡ Some s
    → find (is_of account symbol) (sheets base).summaries
    ≡ cond (is_zero (holding_summary_quantity (completed_trades base) account symbol)) None
    (Some (record { account = account; symbol = symbol; qty = holding_summary_quantity (completed_trades base) account symbol }))
unfolding tables_of_base_in_schema tables_sorted_by_key
reads_summary base account symbol a s books e f =
    let rows : List SummaryRow = all_summaries base (completed_trades base) in
    let q : ℤ = holding_summary_quantity (completed_trades base) account symbol in
    find-filter (is_of account symbol) (rows_sorted_by_key summary_key rows)
    ∙ ap (find (is_of account symbol)) (sym (by_key-filter summary_key (is_of account symbol) rows)
    ∙ sort_one (filter (is_of account symbol) rows) q account symbol (own_summary base (completed_trades base) account symbol a s books e f))
    ∙ find_one q account symbol

pub reads_summary_row : (base : Base) (account : ℕ) (symbol : Text) → BooksInvariant base → is_some (account_with_id base account) ≡ true → is_some (security_with_symbol base symbol) ≡ true
    → summary_row_of_position (sheets base) account symbol ≡ summary_row_if_nonzero account symbol (holding_summary_quantity (completed_trades base) account symbol)
reads_summary_row base account symbol books e f =
    let a : (a : Account) × (account_with_id base account ≡ Some a) = some_of (account_with_id base account) e in
    let s : (s : Security) × (security_with_symbol base symbol ≡ Some s) = some_of (security_with_symbol base symbol) f in
    reads_summary base account symbol a.0 s.0 books a.1 s.1

held_of : (account : ℕ) (symbol : Text) (q : ℤ) → summary_quantity_or_zero (summary_row_if_nonzero account symbol q) ≡ q
held_of account symbol (pos zero) = refl
held_of account symbol (pos (suc n)) = refl
held_of account symbol (negsuc n) = refl

pub reads_held : (base : Base) (account : ℕ) (symbol : Text) → BooksInvariant base → is_some (account_with_id base account) ≡ true → is_some (security_with_symbol base symbol) ≡ true
    → summary_quantity_or_zero (summary_row_of_position (sheets base) account symbol) ≡ holding_summary_quantity (completed_trades base) account symbol
reads_held base account symbol books e f =
    ap summary_quantity_or_zero (reads_summary_row base account symbol books e f) ∙ held_of account symbol (holding_summary_quantity (completed_trades base) account symbol)

-- ---- after a result

other_of : (done after : List Trade) (account id : ℕ) (symbol wanted : Text)
    → ((account == id) && bytes_eq symbol wanted ≡ false → holding_summary_quantity after account symbol ≡ holding_summary_quantity done account symbol)
    → filter (λ r. not (is_of id wanted r)) (summary_rows after account symbol) ≡ filter (λ r. not (is_of id wanted r)) (summary_rows done account symbol)
other_of done after account id symbol wanted h = by_test ((account == id) && bytes_eq symbol wanted) refl
  where
    N : SummaryRow → Bool
    N r = not (is_of id wanted r)

    row : ℤ → SummaryRow
    row q = record { account = account; symbol = symbol; qty = q }

    none : (account == id) && bytes_eq symbol wanted ≡ true → (q : ℤ) (z : Bool) → filter N (cond (not z) (row q ∷ []) []) ≡ []
    none e q true = refl
    none e q false = ap (λ b. cond (not b) (row q ∷ []) []) e

    by_test : (b : Bool) → (account == id) && bytes_eq symbol wanted ≡ b
        → filter N (row_of account symbol (holding_summary_quantity after account symbol))
        ≡ filter N (row_of account symbol (holding_summary_quantity done account symbol))
    by_test true e = none e (holding_summary_quantity after account symbol) (is_zero (holding_summary_quantity after account symbol))
        ∙ sym (none e (holding_summary_quantity done account symbol) (is_zero (holding_summary_quantity done account symbol)))
    by_test false e = ap (λ q. filter N (row_of account symbol q)) (h e)

others_same : (base : Base) (done after : List Trade) (id : ℕ) (wanted : Text)
    → ((account : ℕ) (symbol : Text) → (account == id) && bytes_eq symbol wanted ≡ false → holding_summary_quantity after account symbol ≡ holding_summary_quantity done account symbol)
    → filter (λ r. not (is_of id wanted r)) (all_summaries base after) ≡ filter (λ r. not (is_of id wanted r)) (all_summaries base done)
others_same base done after id wanted h =
    filter-flat_map N (λ a. summaries_in after base.securities a.id) base.accounts
    ∙ flat_map-same (λ a. filter N (summaries_in after base.securities a.id)) (λ a. filter N (summaries_in done base.securities a.id)) base.accounts (accounts base.accounts)
    ∙ sym (filter-flat_map N (λ a. summaries_in done base.securities a.id) base.accounts)
  where
    N : SummaryRow → Bool
    N r = not (is_of id wanted r)

    symbols : (account : ℕ) (ss : List Security) → AllByRecursion (λ s. filter N (summary_rows after account s.symbol) ≡ filter N (summary_rows done account s.symbol)) ss
    symbols account [] = tt
    symbols account (s ∷ ss) = (other_of done after account id s.symbol wanted (h account s.symbol), symbols account ss)

    of_one : (account : ℕ) → filter N (summaries_in after base.securities account) ≡ filter N (summaries_in done base.securities account)
    of_one account =
        filter-flat_map N (λ s. summary_rows after account s.symbol) base.securities
        ∙ flat_map-same (λ s. filter N (summary_rows after account s.symbol)) (λ s. filter N (summary_rows done account s.symbol)) base.securities (symbols account base.securities)
        ∙ sym (filter-flat_map N (λ s. summary_rows done account s.symbol) base.securities)

    accounts : (bs : List Account) → AllByRecursion (λ a. filter N (summaries_in after base.securities a.id) ≡ filter N (summaries_in done base.securities a.id)) bs
    accounts [] = tt
    accounts (a ∷ bs) = (of_one a.id, accounts bs)

-- the row that is moved from one number to another, among rows of other positions
abbrev pub changed_summary_rows : ℤ → ℤ → SummaryRow → List SummaryRow → List SummaryRow
changed_summary_rows before after row rows =
    cond (is_zero after) (filter (λ r. not (is_of row.account row.symbol r)) rows)
    (cond (is_zero before) (insert_row_by_key summary_key row rows) (update_where (is_of row.account row.symbol) (λ r. record r { qty = row.qty }) rows))

no_change : (p : SummaryRow → Bool) (f : SummaryRow → SummaryRow) (rows : List SummaryRow) → AllByRecursion (λ r. p r ≡ false) rows → update_where p f rows ≡ rows
no_change p f [] h = refl
no_change p f (r ∷ rows) h = λ i. cond (h.0 i) (f r) r ∷ no_change p f rows h.1 i

-- a row among others of other positions, and without it
gone : (before : SummaryRow → SummaryRow → Bool) (p : SummaryRow → Bool) (row : SummaryRow) (rows : List SummaryRow) → p row ≡ false → filter p (insert_by before row rows) ≡ filter p rows
gone before p row [] e = ap (λ b. cond b (row ∷ []) []) e
gone before p row (r ∷ rows) e = by_test (before r row) (gone before p row rows e)
  where
    by_test : (b : Bool) → filter p (insert_by before row rows) ≡ filter p rows → filter p (cond b (r ∷ insert_by before row rows) (row ∷ r ∷ rows)) ≡ filter p (r ∷ rows)
    by_test true ih = ap (λ us. cond (p r) (r ∷ us) us) ih
    by_test false ih = ap (λ b. cond b (row ∷ filter p (r ∷ rows)) (filter p (r ∷ rows))) e

moved_row : (account : ℕ) (symbol : Text) (before after : ℤ) (others : List SummaryRow) → AllByRecursion (λ r. is_of account symbol r ≡ false) others
    → each (insert_row_by_key summary_key) (row_of account symbol after) others
    ≡ changed_summary_rows before after (record { account = account; symbol = symbol; qty = after }) (each (insert_row_by_key summary_key) (row_of account symbol before) others)
moved_row account symbol before after others h = by_test (is_zero after) (is_zero before)
  where
    I : SummaryRow → List SummaryRow → List SummaryRow
    I = insert_row_by_key summary_key

    row : ℤ → SummaryRow
    row q = record { account = account; symbol = symbol; qty = q }

    N : SummaryRow → Bool
    N r = not (is_of account symbol r)

    U : SummaryRow → SummaryRow
    U r = cond (is_of account symbol r) (record r { qty = after }) r

    same_key : (r : SummaryRow) (b : Bool) → summary_key (cond b (record r { qty = after }) r) ≡ summary_key r
    same_key r true = refl
    same_key r false = refl

    stay : filter N others ≡ others
    stay = filter-all N others (All-map others (λ r e. ap not e) h)

    by_test : (z y : Bool) → each I (cond (not z) (row after ∷ []) []) others
        ≡ cond z (filter N (each I (cond (not y) (row before ∷ []) []) others))
        (cond y (I (row after) (each I (cond (not y) (row before ∷ []) []) others)) (map U (each I (cond (not y) (row before ∷ []) []) others)))
    by_test true true = sym stay
    by_test true false = sym (gone (is_row_key_less summary_key) N (row before) others (ap not (of_itself account symbol before)) ∙ stay)
    by_test false true = refl
    by_test false false =
        sym (map-insert_by (is_row_key_less summary_key) (is_row_key_less summary_key) U (row before) others
        (λ a b i. is_key_less (same_key a (is_of account symbol a) i) (same_key b (is_of account symbol b) i))
        ∙ (λ i. I (cond (of_itself account symbol before i) (row after) (row before)) (no_change (is_of account symbol) (λ r. record r { qty = after }) others h i)))

apart_keys : (account : ℕ) (symbol : Text) (x y : SummaryRow) → is_of account symbol x ≡ false → is_of account symbol y ≡ true → summary_key x ≡ summary_key y → ⊥
apart_keys account symbol x y e f k =
    let j : (x.account ≡ y.account) × (x.symbol ≡ y.symbol) = parts x.account y.account x.symbol y.symbol k in
    let i : true ≡ false = sym f ∙ (λ i. (sym j.0 i == account) && bytes_eq (sym j.1 i) symbol) ∙ e in
    absurd (cc)
  where
    parts : (m n : ℕ) (s t : Text) → number m ∷ word s ∷ [] ≡ number n ∷ word t ∷ [] → (m ≡ n) × (s ≡ t)
    parts m n s t e = (cc, cc)

none_of : (account : ℕ) (symbol : Text) (rows : List SummaryRow)
    → AllByRecursion (λ r. is_of account symbol r ≡ false) (rows_sorted_by_key summary_key (filter (λ r. not (is_of account symbol r)) rows))
none_of account symbol rows =
    All-sort (λ r. is_of account symbol r ≡ false) (is_row_key_less summary_key) (filter (λ r. not (is_of account symbol r)) rows)
    (All-map (filter (λ r. not (is_of account symbol r)) rows) (λ r e. not_true (is_of account symbol r) e) (all_pass (λ r. not (is_of account symbol r)) rows))
  where
    not_true : (b : Bool) → not b ≡ true → b ≡ false
    not_true true e = cc
    not_true false e = refl

pub summaries_after : (base : Base) (xs : List Trade) (t : Trade) (ys : List Trade) → Completes base xs t ys → (a : Account) (s : Security)
    → account_with_id base t.account ≡ Some a → security_with_symbol base t.symbol ≡ Some s
    → rows_sorted_by_key summary_key (all_summaries base (xs ++ t ∷ ys))
    ≡ changed_summary_rows (holding_summary_quantity (completed_trades base) t.account t.symbol) (holding_summary_quantity (xs ++ t ∷ ys) t.account t.symbol)
    (record { account = t.account; symbol = t.symbol; qty = holding_summary_quantity (xs ++ t ∷ ys) t.account t.symbol }) (rows_sorted_by_key summary_key (all_summaries base (completed_trades base)))
summaries_after base xs t ys c a s e f =
    let P : SummaryRow → Bool = is_of t.account t.symbol in
    let N : SummaryRow → Bool = λ r. not (is_of t.account t.symbol r) in
    let K = summary_key in
    let O : List SummaryRow = rows_sorted_by_key K (filter N (all_summaries base (completed_trades base))) in
    let before : ℤ = holding_summary_quantity (completed_trades base) t.account t.symbol in
    let after : ℤ = holding_summary_quantity (xs ++ t ∷ ys) t.account t.symbol in
    by_key-parts K P (all_summaries base (xs ++ t ∷ ys)) (apart_keys t.account t.symbol)
    ∙ (λ i. each (insert_row_by_key K) (own_summary base (xs ++ t ∷ ys) t.account t.symbol a s c.books e f i)
    (rows_sorted_by_key K (others_same base (completed_trades base) (xs ++ t ∷ ys) t.account t.symbol elsewhere i)))
    ∙ moved_row t.account t.symbol before after O (none_of t.account t.symbol (all_summaries base (completed_trades base)))
    ∙ ap (λ rows. changed_summary_rows before after (record { account = t.account; symbol = t.symbol; qty = after }) rows)
    (sym (by_key-parts K P (all_summaries base (completed_trades base)) (apart_keys t.account t.symbol)
    ∙ ap (λ rows. each (insert_row_by_key K) rows O) (own_summary base (completed_trades base) t.account t.symbol a s c.books e f)))
  where
    elsewhere : (account : ℕ) (symbol : Text) → (account == t.account) && bytes_eq symbol t.symbol ≡ false
        → holding_summary_quantity (xs ++ t ∷ ys) account symbol ≡ holding_summary_quantity (completed_trades base) account symbol
    elsewhere account symbol k =
        summary_other xs t ys account symbol ((λ i. numbers_back t.account account i && texts_back t.symbol symbol i) ∙ k)
        ∙ ap (λ ts. holding_summary_quantity ts account symbol) (sym c.split)
