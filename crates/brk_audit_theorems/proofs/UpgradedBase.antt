-- Upgraded rows are the tables of the base that the rows described, and describe this base.
use Rattle.std.proofs.Common.{◌≡◌, ℕ, ◌==◌, Bool, true, false, not, cond, List, [], ◌∷◌, ◌++◌, refl, sym, ◌∙◌, ap, subst, map, filter, Option, Some, None}
use Rattle.std.specs.Prelude.{⊤, ◌&&◌, ◌||◌, if◌then◌else◌, find, is_none, nat_lt, option_map, option_to_list}
use Rattle.std.specs.Option.{option_map_or}
use Rattle.std.specs.List.{AllByRecursion}
use Rattle.std.proofs.lemmas.Bool.{eqb-true, eq-eqb}
use Rattle.brk_model.specs.Lists.{all_distinct, contains_number, sort_by, sort_by_key}
use Rattle.brk_model.specs.Records.{Account, Movement, Trade}
use Rattle.brk_model.specs.Base.{Base, completed_trades, is_completed, trade_with_id}
use Rattle.brk_model.specs.Derived.{Posting, cash_trades, postings_sorted_by_stamp, posting_of_movement, posting_of_trade, postings_of_base}
use Rattle.brk_model.specs.Schemas.{Schema, third_schema}
use Rattle.brk_model.specs.Tables.{CashRow, Tables, TradeRow, cash_transaction_row, numbered_cash_move_rows, tables_of_base_in_schema, trade_row}
use Rattle.brk_model.specs.Sheets.{sheets, sheets_in_schema, tables_sorted_by_key}
use Rattle.brk_model.specs.Keys.{number, rows_sorted_by_key, cash_transaction_key, cash_move_key, is_row_key_less}
use Rattle.brk_model.specs.Adopted.{base_of_tables, is_posting_of_trade, movement_of_row, posting_of_cash_transaction_row, posting_of_cash_move_row, postings_of_tables, trade_of_row}
use Rattle.brk_model.specs.Form.{trade_ids_of_cash_rows}
use Rattle.brk_model.specs.LookupView.{is_cash_row_of_trade}
use Rattle.brk_model.specs.Upgraded.{tables_with_merged_cash_rows, tables_upgraded_from_schema}
use Rattle.brk_trade_books.specs.Books.{BooksInvariant}
use Rattle.brk_trade_books.proofs.LotReading.{IdsApart, numbered_rise, rise_apart, rise_filter}
use Rattle.brk_trade_books.proofs.MoveReading.{movements_back, postings_back, stamp_one_way, stamp_splits, turn_filter}
use Rattle.brk_trade_books.proofs.Order.{append_nil, by_key-map, sort_sorted, sorted_filter, sorted_sort}
use Rattle.brk_trade_books.proofs.Places.{filter-append}
use Rattle.brk_trade_books.proofs.Postings.{numbered_stay}
use Rattle.brk_trade_books.proofs.Same.{All-filter, All-map, All-of, NonePass, filter-none, map-same}
use Rattle.brk_trade_books.proofs.SumReading.{found_each}
use Rattle.brk_trade_books.proofs.TradeReading.{reads_trade, trades_stand}
use Rattle.brk_audit_theorems.proofs.Again.{found_first}
use Rattle.brk_audit_theorems.proofs.Members.{map-map}

-- ---- what was posted, in either table

-- postings in turn stay so
pub turned_twice : (ps : List Posting) → postings_sorted_by_stamp (postings_sorted_by_stamp ps) ≡ postings_sorted_by_stamp ps
turned_twice ps = sort_sorted (λ a b. nat_lt a.stamp b.stamp) (postings_sorted_by_stamp ps) (sorted_sort (λ a b. nat_lt a.stamp b.stamp) ps stamp_splits stamp_one_way)

cash_at : (schema : Schema) (base : Base) (b : Bool) → schema.has_cash_move_table ≡ b
    → (sheets_in_schema schema base).cash ≡ rows_sorted_by_key cash_transaction_key (cond b [] (map (cash_transaction_row base.accounts) (cash_trades (completed_trades base))))
unfolding tables_sorted_by_key tables_of_base_in_schema
cash_at schema base b e = ap (λ c. rows_sorted_by_key cash_transaction_key (cond c [] (map (cash_transaction_row base.accounts) (cash_trades (completed_trades base))))) e

moves_at : (schema : Schema) (base : Base) (b : Bool) → schema.has_cash_move_table ≡ b
    → (sheets_in_schema schema base).moves
    ≡ rows_sorted_by_key cash_move_key (cond b (numbered_cash_move_rows 1 (postings_sorted_by_stamp (postings_of_base base))) [])
unfolding tables_sorted_by_key tables_of_base_in_schema
moves_at schema base b e = ap (λ c. rows_sorted_by_key cash_move_key (cond c (numbered_cash_move_rows 1 (postings_sorted_by_stamp (postings_of_base base))) [])) e

trades_at : (schema : Schema) (base : Base) → (sheets_in_schema schema base).trades ≡ (sheets base).trades
unfolding tables_sorted_by_key tables_of_base_in_schema
trades_at schema base = refl

no_rows : {Row : Type 0} (before : Row → Row → Bool) → sort_by before [] ≡ []
unfolding sort_by
no_rows before = refl

-- where they are numbered
posted_in_moves : (schema : Schema) (base : Base) → schema.has_cash_move_table ≡ true → postings_of_tables (sheets_in_schema schema base) ≡ postings_sorted_by_stamp (postings_of_base base)
posted_in_moves schema base e =
    (λ i. map (posting_of_cash_transaction_row (sheets_in_schema schema base)) ((cash_at schema base true e ∙ no_rows (is_row_key_less cash_transaction_key)) i)
    ++ map posting_of_cash_move_row ((moves_at schema base true e ∙ numbered_stay 1 (postings_sorted_by_stamp (postings_of_base base))) i))
    ∙ postings_back 1 (postings_sorted_by_stamp (postings_of_base base))

-- where they stand by their trades
cash_in_order : (base : Base) → BooksInvariant base
    → rows_sorted_by_key cash_transaction_key (map (cash_transaction_row base.accounts) (cash_trades (completed_trades base)))
    ≡ map (cash_transaction_row base.accounts) (cash_trades (completed_trades base))
cash_in_order base books =
    by_key-map (λ t. number t.id ∷ []) cash_transaction_key (cash_transaction_row base.accounts) (cash_trades (completed_trades base)) (λ t. refl)
    ∙ ap (map (cash_transaction_row base.accounts)) (sort_sorted (is_row_key_less (λ t. number t.id ∷ [])) (cash_trades (completed_trades base))
    (sorted_filter (is_row_key_less (λ t. number t.id ∷ [])) (λ t. t.is_cash) (completed_trades base)
    (sorted_filter (is_row_key_less (λ t. number t.id ∷ [])) is_completed base.trades (trades_stand 1 base.trades books.numbered))))

cash_found : (base : Base) → BooksInvariant base → AllByRecursion (λ t. trade_with_id base t.id ≡ Some t) (cash_trades (completed_trades base))
cash_found base books =
    All-filter (λ t. trade_with_id base t.id ≡ Some t) (λ t. t.is_cash) (completed_trades base)
    (All-filter (λ t. trade_with_id base t.id ≡ Some t) is_completed base.trades (found_each base.trades (rise_apart base.trades (numbered_rise 1 base.trades books.numbered))))

posted_by_trades : (schema : Schema) (base : Base) → BooksInvariant base → schema.has_cash_move_table ≡ false
    → postings_of_tables (sheets_in_schema schema base) ≡ map (posting_of_trade base.accounts) (cash_trades (completed_trades base))
posted_by_trades schema base books e =
    let rows : Tables = sheets_in_schema schema base in
    let C : List Trade = cash_trades (completed_trades base) in
    (λ i. map (posting_of_cash_transaction_row rows) ((cash_at schema base false e ∙ cash_in_order base books) i)
    ++ map posting_of_cash_move_row ((moves_at schema base false e ∙ no_rows (is_row_key_less cash_move_key)) i))
    ∙ append_nil (map (posting_of_cash_transaction_row rows) (map (cash_transaction_row base.accounts) C)) ∙ map-map (posting_of_cash_transaction_row rows) (cash_transaction_row base.accounts) C
    ∙ map-same (λ t. posting_of_cash_transaction_row rows (cash_transaction_row base.accounts t)) (posting_of_trade base.accounts) C
    (All-map C (λ t k. λ i. record (posting_of_trade base.accounts t) {
      account = option_map_or (λ r. r.account) ((ap (find (λ r. r.id == t.id)) (trades_at schema base) ∙ reads_trade base t.id ∙ ap (option_map trade_row) k) i) 0;
    }) (cash_found base books))

-- what is posted by trades alone
no_movements : (base : Base) → base.movements ≡ [] → postings_of_base base ≡ map (posting_of_trade base.accounts) (cash_trades (completed_trades base))
no_movements base e =
    ap (λ ms. map (posting_of_trade base.accounts) (cash_trades (completed_trades base)) ++ map posting_of_movement ms) e
    ∙ append_nil (map (posting_of_trade base.accounts) (cash_trades (completed_trades base)))

-- ---- one posting to a trade

abbrev pub IsShort : {X : Type 0} → List X → Type 0
IsShort [] = ⊤
IsShort (x ∷ []) = ⊤
IsShort (x ∷ y ∷ xs) = ⊥

pub short_turn : (ps : List Posting) → IsShort ps → postings_sorted_by_stamp ps ≡ ps
unfolding sort_by
short_turn [] h = refl
short_turn (p ∷ []) h = refl
short_turn (p ∷ q ∷ ps) h = absurd h

pub one_of_id : (ts : List Trade) (id : ℕ) → IdsApart ts → IsShort (filter (λ u. u.id == id) ts)
one_of_id [] id d = tt
one_of_id (t ∷ ts) id d = by_test (t.id == id) refl (one_of_id ts id d.1)
  where
    by_test : (b : Bool) → (t.id == id) ≡ b → IsShort (filter (λ u. u.id == id) ts) → IsShort (cond b (t ∷ filter (λ u. u.id == id) ts) (filter (λ u. u.id == id) ts))
    by_test true e ih =
        subst (λ us. IsShort (t ∷ us))
        (sym (filter-none (λ u. u.id == id) ts (subst (λ (n : ℕ). NonePass (λ u. u.id == n) ts) (eqb-true t.id id e) d.0))) tt
    by_test false e ih = ih

pub posted_alone : (accounts : List Account) (ts : List Trade) (id : ℕ) → IsShort (filter (λ u. u.id == id) ts) → IsShort (filter (is_posting_of_trade id) (map (posting_of_trade accounts) ts))
posted_alone accounts ts id h = subst IsShort (sym (of_trades ts)) (short_map (filter (λ u. u.id == id) ts) h)
  where
    short_map : (us : List Trade) → IsShort us → IsShort (map (posting_of_trade accounts) us)
    short_map [] h = tt
    short_map (u ∷ []) h = tt
    short_map (u ∷ v ∷ us) h = absurd h

    of_trades : (us : List Trade) → filter (is_posting_of_trade id) (map (posting_of_trade accounts) us) ≡ map (posting_of_trade accounts) (filter (λ u. u.id == id) us)
    of_trades [] = refl
    of_trades (u ∷ us) = put (u.id == id) (of_trades us)
      where
        put : (b : Bool) → filter (is_posting_of_trade id) (map (posting_of_trade accounts) us) ≡ map (posting_of_trade accounts) (filter (λ u. u.id == id) us)
            → cond b (posting_of_trade accounts u ∷ filter (is_posting_of_trade id) (map (posting_of_trade accounts) us)) (filter (is_posting_of_trade id) (map (posting_of_trade accounts) us))
            ≡ map (posting_of_trade accounts) (cond b (u ∷ filter (λ u. u.id == id) us) (filter (λ u. u.id == id) us))
        put true ih = ap (λ ps. posting_of_trade accounts u ∷ ps) ih
        put false ih = ih

found_alone : (ps : List Posting) (id : ℕ) → IsShort (filter (is_posting_of_trade id) ps) → find (is_posting_of_trade id) (postings_sorted_by_stamp ps) ≡ find (is_posting_of_trade id) ps
found_alone ps id h =
    found_first (is_posting_of_trade id) (postings_sorted_by_stamp ps)
    ∙ ap (find (λ p. true)) (turn_filter (is_posting_of_trade id) ps ∙ short_turn (filter (is_posting_of_trade id) ps) h)
    ∙ sym (found_first (is_posting_of_trade id) ps)

-- ---- one row to a trade

-- a trade posts at most once
pub posted_once : (base : Base) (id : ℕ) → BooksInvariant base → IsShort (filter (is_posting_of_trade id) (postings_sorted_by_stamp (postings_of_base base)))
posted_once base id books =
    subst IsShort (sym (turn_filter (is_posting_of_trade id) (postings_of_base base) ∙ ap postings_sorted_by_stamp by_trades ∙ short_turn own short)) short
  where
    C : List Trade
    C = cash_trades (completed_trades base)

    own : List Posting
    own = filter (is_posting_of_trade id) (map (posting_of_trade base.accounts) C)

    short : IsShort own
    short = posted_alone base.accounts C id
        (one_of_id C id (rise_apart C
        (rise_filter (λ t. t.is_cash) (completed_trades base) (rise_filter is_completed base.trades (numbered_rise 1 base.trades books.numbered)))))

    no_trade : (ms : List Movement) → filter (is_posting_of_trade id) (map posting_of_movement ms) ≡ []
    no_trade [] = refl
    no_trade (m ∷ ms) = no_trade ms

    by_trades : filter (is_posting_of_trade id) (postings_of_base base) ≡ own
    by_trades =
        filter-append (is_posting_of_trade id) (map (posting_of_trade base.accounts) C) (map posting_of_movement base.movements)
        ∙ ap (λ ps. own ++ ps) (no_trade base.movements) ∙ append_nil own

-- rows of a trade are as many as what it posts
pub short_rows : (id n : ℕ) (ps : List Posting) → IsShort (filter (is_posting_of_trade id) ps) → IsShort (filter (is_cash_row_of_trade id) (numbered_cash_move_rows n ps))
short_rows id n ps h =
    of_postings (filter (is_cash_row_of_trade id) (numbered_cash_move_rows n ps))
    (subst IsShort (sym (as_postings (numbered_cash_move_rows n ps) ∙ ap (filter (is_posting_of_trade id)) (postings_back n ps))) h)
  where
    of_postings : (rows : List CashRow) → IsShort (map posting_of_cash_move_row rows) → IsShort rows
    of_postings [] h = tt
    of_postings (r ∷ []) h = tt
    of_postings (r ∷ q ∷ rows) h = absurd h

    as_postings : (rows : List CashRow) → map posting_of_cash_move_row (filter (is_cash_row_of_trade id) rows) ≡ filter (is_posting_of_trade id) (map posting_of_cash_move_row rows)
    as_postings [] = refl
    as_postings (r ∷ rows) = put (is_cash_row_of_trade id r) (as_postings rows)
      where
        put : (b : Bool) → map posting_of_cash_move_row (filter (is_cash_row_of_trade id) rows) ≡ filter (is_posting_of_trade id) (map posting_of_cash_move_row rows)
            → map posting_of_cash_move_row (cond b (r ∷ filter (is_cash_row_of_trade id) rows) (filter (is_cash_row_of_trade id) rows))
            ≡ cond b (posting_of_cash_move_row r ∷ filter (is_posting_of_trade id) (map posting_of_cash_move_row rows)) (filter (is_posting_of_trade id) (map posting_of_cash_move_row rows))
        put true ih = ap (λ ps. posting_of_cash_move_row r ∷ ps) ih
        put false ih = ih

unseen : (r : CashRow) (id : ℕ) (qs : List CashRow) → IsShort (r ∷ filter (is_cash_row_of_trade id) qs) → contains_number id (trade_ids_of_cash_rows qs) ≡ false
unseen r id [] k = refl
unseen r id (q ∷ qs) k = by_own (is_cash_row_of_trade id q) refl k (unseen r id qs)
  where
    by_other : (o : Option ℕ) → option_map_or (λ n. n == id) o false ≡ false → contains_number id (trade_ids_of_cash_rows qs) ≡ false
        → contains_number id (option_to_list o ++ trade_ids_of_cash_rows qs) ≡ false
    by_other None g h = h
    by_other (Some n) g h = λ i. g i || h i

    by_own : (b : Bool) → is_cash_row_of_trade id q ≡ b → IsShort (r ∷ cond b (q ∷ filter (is_cash_row_of_trade id) qs) (filter (is_cash_row_of_trade id) qs))
        → (IsShort (r ∷ filter (is_cash_row_of_trade id) qs) → contains_number id (trade_ids_of_cash_rows qs) ≡ false)
        → contains_number id (option_to_list q.trade ++ trade_ids_of_cash_rows qs) ≡ false
    by_own true f k ih = absurd k
    by_own false f k ih = by_other q.trade f (ih k)

-- where each trade has at most one of some rows, none occurs twice among their trades
rows_own : (rows : List CashRow) → ((id : ℕ) → IsShort (filter (is_cash_row_of_trade id) rows)) → all_distinct (trade_ids_of_cash_rows rows) ≡ true
rows_own [] h = refl
rows_own (r ∷ rows) h = by_trade r.trade refl (rows_own rows (λ id. shorter (is_cash_row_of_trade id r) (filter (is_cash_row_of_trade id) rows) (h id)))
  where
    shorter : (b : Bool) (qs : List CashRow) → IsShort (cond b (r ∷ qs) qs) → IsShort qs
    shorter false qs h = h
    shorter true [] h = tt
    shorter true (q ∷ qs) h = absurd h

    by_trade : (o : Option ℕ) → r.trade ≡ o → all_distinct (trade_ids_of_cash_rows rows) ≡ true → all_distinct (option_to_list o ++ trade_ids_of_cash_rows rows) ≡ true
    by_trade None e ih = ih
    by_trade (Some id) e ih =
        let own : is_cash_row_of_trade id r ≡ true = ap (λ o. option_map_or (λ n. n == id) o false) e ∙ eq-eqb id id refl in
        λ i. not (unseen r id rows (subst (λ b. IsShort (cond b (r ∷ filter (is_cash_row_of_trade id) rows) (filter (is_cash_row_of_trade id) rows))) own (h id)) i) && ih i

-- so it is of the cash rows of a base
pub moves_own : (base : Base) → BooksInvariant base → all_distinct (trade_ids_of_cash_rows (numbered_cash_move_rows 1 (postings_sorted_by_stamp (postings_of_base base)))) ≡ true
moves_own base books =
    rows_own (numbered_cash_move_rows 1 (postings_sorted_by_stamp (postings_of_base base)))
    (λ id. short_rows id 1 (postings_sorted_by_stamp (postings_of_base base)) (posted_once base id books))

-- ---- upgraded rows

-- what is posted to the tables of a base, in either of them: in turn it is what the base posts, a
-- trade posts once, and movements are in turn
pub record IsPosted (t : Tables) : Type 0 where
  pub turned : postings_sorted_by_stamp (postings_of_tables t) ≡ postings_sorted_by_stamp (postings_of_base (base_of_tables t))
  pub once : (id : ℕ) → find (is_posting_of_trade id) (postings_sorted_by_stamp (postings_of_tables t)) ≡ find (is_posting_of_trade id) (postings_of_tables t)
  pub risen : sort_by_key (λ m. m.stamp) (base_of_tables t).movements ≡ (base_of_tables t).movements

movements_of_rows : (t : Tables) → (base_of_tables t).movements ≡ map movement_of_row (filter (λ r. is_none r.trade) t.moves)
unfolding base_of_tables
movements_of_rows t = refl

pub posted : (schema : Schema) (t : Tables) → BooksInvariant (base_of_tables t) → sheets_in_schema schema (base_of_tables t) ≡ t → IsPosted t
posted schema t books e = by_schema schema.has_cash_move_table refl
  where
    base : Base
    base = base_of_tables t

    by_schema : (b : Bool) → schema.has_cash_move_table ≡ b → IsPosted t
    by_schema true h =
        let all : postings_of_tables t ≡ postings_sorted_by_stamp (postings_of_base base) = ap postings_of_tables (sym e) ∙ posted_in_moves schema base h in
        let rows : t.moves ≡ (sheets base).moves = ap (λ u. u.moves) (sym e) ∙ moves_at schema base true h ∙ sym (moves_at third_schema base true refl) in
        record {
          turned = ap postings_sorted_by_stamp all ∙ turned_twice (postings_of_base base);
          once = λ id. ap (find (is_posting_of_trade id)) (ap postings_sorted_by_stamp all ∙ turned_twice (postings_of_base base) ∙ sym all);
          risen = sym (movements_back base) ∙ ap (λ rs. map movement_of_row (filter (λ r. is_none r.trade) rs)) (sym rows) ∙ sym (movements_of_rows t);
        }
    by_schema false h =
        let C : List Trade = cash_trades (completed_trades base) in
        let all : postings_of_tables t ≡ map (posting_of_trade base.accounts) C = ap postings_of_tables (sym e) ∙ posted_by_trades schema base books h in
        let none : t.moves ≡ [] = ap (λ u. u.moves) (sym e) ∙ moves_at schema base false h ∙ no_rows (is_row_key_less cash_move_key) in
        let no_moves : base.movements ≡ [] = movements_of_rows t ∙ ap (λ rs. map movement_of_row (filter (λ r. is_none r.trade) rs)) none in
        let apart : IdsApart C = rise_apart C (rise_filter (λ t. t.is_cash) (completed_trades base) (rise_filter is_completed base.trades (numbered_rise 1 base.trades books.numbered))) in
        record {
          turned = ap postings_sorted_by_stamp (all ∙ sym (no_movements base no_moves));
          once = λ id. found_alone (postings_of_tables t) id (subst (λ ps. IsShort (filter (is_posting_of_trade id) ps)) (sym all) (posted_alone base.accounts C id (one_of_id C id apart)));
          risen = ap (sort_by_key (λ m. m.stamp)) no_moves ∙ no_rows (λ x y. nat_lt x.stamp y.stamp) ∙ sym no_moves;
        }

moved_cash : (base : Base) → (sheets base).cash ≡ []
moved_cash base = cash_at third_schema base true refl ∙ no_rows (is_row_key_less cash_transaction_key)

-- upgraded rows are the tables of the base
pub upgraded_tables : (schema : Schema) (t : Tables) → sheets_in_schema schema (base_of_tables t) ≡ t → IsPosted t → tables_with_merged_cash_rows t ≡ sheets (base_of_tables t)
unfolding tables_with_merged_cash_rows tables_sorted_by_key tables_of_base_in_schema
upgraded_tables schema t e p =
    (λ i. record (sym e i) { cash = sym (moved_cash (base_of_tables t)) i; moves = numbered_cash_move_rows 1 (p.turned i) })
    ∙ (λ i. record (sheets (base_of_tables t)) { moves = sym (numbered_stay 1 (postings_sorted_by_stamp (postings_of_base (base_of_tables t)))) i })

-- in a schema that numbers its cash rows a base has the tables that it has in the third
pub same_sheets : (schema : Schema) (base : Base) → schema.has_cash_move_table ≡ true → sheets_in_schema schema base ≡ sheets base
unfolding tables_sorted_by_key tables_of_base_in_schema
same_sheets schema base e = λ i. record (sheets base) {
  cash = (cash_at schema base true e ∙ sym (cash_at third_schema base true refl)) i;
  moves = (moves_at schema base true e ∙ sym (moves_at third_schema base true refl)) i;
}

-- so what is left of rows there are the upgraded ones
pub upgraded_from_upgraded : (schema : Schema) (t : Tables) → sheets_in_schema schema (base_of_tables t) ≡ t → IsPosted t → tables_upgraded_from_schema schema t ≡ tables_with_merged_cash_rows t
upgraded_from_upgraded schema t e p = by_test schema.has_cash_move_table refl
  where
    by_test : (b : Bool) → schema.has_cash_move_table ≡ b → (if b then t else tables_with_merged_cash_rows t) ≡ tables_with_merged_cash_rows t
    by_test true has = sym e ∙ same_sheets schema (base_of_tables t) has ∙ sym (upgraded_tables schema t e p)
    by_test false has = refl

posted_upgraded : (t : Tables) → postings_of_tables (tables_with_merged_cash_rows t) ≡ postings_sorted_by_stamp (postings_of_tables t)
unfolding tables_with_merged_cash_rows
posted_upgraded t = postings_back 1 (postings_sorted_by_stamp (postings_of_tables t))

trade_upgraded : (t : Tables) → IsPosted t → (r : TradeRow) → trade_of_row (tables_with_merged_cash_rows t) r ≡ trade_of_row t r
unfolding tables_with_merged_cash_rows
trade_upgraded t p r = λ i. record (trade_of_row t r) { cash_name = option_map_or (λ p. p.name) ((ap (find (is_posting_of_trade r.id)) (posted_upgraded t) ∙ p.once r.id) i) [] }

-- and give the same base
pub base_upgraded : (schema : Schema) (t : Tables) → sheets_in_schema schema (base_of_tables t) ≡ t → IsPosted t → base_of_tables (tables_with_merged_cash_rows t) ≡ base_of_tables t
unfolding base_of_tables tables_with_merged_cash_rows
base_upgraded schema t e p = λ i. record (base_of_tables t) {
  trades = map-same (trade_of_row (tables_with_merged_cash_rows t)) (trade_of_row t) t.trades (All-of t.trades (trade_upgraded t p)) i;
  movements = movements i;
}
  where
    movements : map movement_of_row (filter (λ r. is_none r.trade) (numbered_cash_move_rows 1 (postings_sorted_by_stamp (postings_of_tables t))))
        ≡ map movement_of_row (filter (λ r. is_none r.trade) t.moves)
    movements =
        ap (λ u. map movement_of_row (filter (λ r. is_none r.trade) u.moves)) (upgraded_tables schema t e p) ∙ movements_back (base_of_tables t) ∙ p.risen
