-- Cash rows in the order of the postings, the movements among them, and the number of both.
use Rattle.std.proofs.Common.{◌≡◌, ℕ, ◌+◌, Bool, true, false, cond, List, [], ◌∷◌, ◌++◌, refl, sym, ◌∙◌, ap, map, filter, length, arith, Option, Some, None}
use Rattle.std.specs.Prelude.{is_none, nat_lt, option_map, reverse, slice_get, unwrap_or}
use Rattle.std.proofs.lemmas.List.{reverse-append}
use Rattle.brk_model.specs.Lists.{insert_by, sort_by, sort_by_key}
use Rattle.brk_model.specs.Records.{Account, Movement, Trade}
use Rattle.brk_model.specs.Base.{Base, completed_trades}
use Rattle.brk_model.specs.Derived.{Posting, cash_trades, postings_sorted_by_stamp, posting_of_movement, posting_of_trade, postings, postings_of_base}
use Rattle.brk_model.specs.Adopted.{movement_of_row, posting_of_cash_move_row}
use Rattle.brk_model.specs.Sheets.{sheets, tables_sorted_by_key}
use Rattle.brk_model.specs.Tables.{CashRow, cash_move_row, numbered_cash_move_rows, tables_of_base_in_schema}
use Rattle.brk_trade_books.specs.TradeReads.{last_cash_row_number_or_zero}
use Rattle.brk_trade_books.proofs.Order.{OneWay, Splits, map-insert_by, nat_one_way, nat_splits, sort_filter}
use Rattle.brk_trade_books.proofs.Places.{filter-append}
use Rattle.brk_trade_books.proofs.Postings.{length_sort, numbered_stay}
use Rattle.brk_trade_books.proofs.TradeReading.{first_of_more}

-- ---- rows as postings

pub postings_back : (n : ℕ) (ps : List Posting) → map posting_of_cash_move_row (numbered_cash_move_rows n ps) ≡ ps
postings_back n [] = refl
postings_back n (p ∷ ps) = ap (λ qs. p ∷ qs) (postings_back (n + 1) ps)

-- the cash rows of a base are its postings in turn
pub rows_posted : (base : Base) → map posting_of_cash_move_row (sheets base).moves ≡ postings_sorted_by_stamp (postings_of_base base)
unfolding tables_of_base_in_schema tables_sorted_by_key
rows_posted base = ap (map posting_of_cash_move_row) (numbered_stay 1 (postings_sorted_by_stamp (postings_of_base base))) ∙ postings_back 1 (postings_sorted_by_stamp (postings_of_base base))

-- ---- movements

abbrev movement_of : Posting → Movement
movement_of p = record { account = p.account; stamp = p.stamp; amount = p.amount; name = p.name }

abbrev is_moved : Posting → Bool
is_moved p = is_none p.trade

numbered_moved : (n : ℕ) (ps : List Posting) → map movement_of_row (filter (λ r. is_none r.trade) (numbered_cash_move_rows n ps)) ≡ map movement_of (filter is_moved ps)
numbered_moved n [] = refl
numbered_moved n (p ∷ ps) = by_test (is_none p.trade) (numbered_moved (n + 1) ps)
  where
    by_test : (b : Bool) → map movement_of_row (filter (λ r. is_none r.trade) (numbered_cash_move_rows (n + 1) ps)) ≡ map movement_of (filter is_moved ps)
        → map movement_of_row (cond b (cash_move_row n p ∷ filter (λ r. is_none r.trade) (numbered_cash_move_rows (n + 1) ps)) (filter (λ r. is_none r.trade) (numbered_cash_move_rows (n + 1) ps)))
        ≡ map movement_of (cond b (p ∷ filter is_moved ps) (filter is_moved ps))
    by_test true ih = ap (λ ms. movement_of p ∷ ms) ih
    by_test false ih = ih

no_trades_moved : (accounts : List Account) (ts : List Trade) → filter is_moved (map (posting_of_trade accounts) ts) ≡ []
no_trades_moved accounts [] = refl
no_trades_moved accounts (t ∷ ts) = no_trades_moved accounts ts

all_moved : (ms : List Movement) → filter is_moved (map posting_of_movement ms) ≡ map posting_of_movement ms
all_moved [] = refl
all_moved (m ∷ ms) = ap (λ ps. posting_of_movement m ∷ ps) (all_moved ms)

pub movements_of : (accounts : List Account) (done : List Trade) (ms : List Movement) → filter is_moved (postings accounts done ms) ≡ map posting_of_movement ms
movements_of accounts done ms =
    filter-append is_moved (map (posting_of_trade accounts) (cash_trades done)) (map posting_of_movement ms)
    ∙ (λ i. no_trades_moved accounts (cash_trades done) i ++ all_moved ms i)

pub stamp_splits : Splits {X = Posting} (λ a b. nat_lt a.stamp b.stamp)
stamp_splits x y z g h = nat_splits x.stamp y.stamp z.stamp g h

pub stamp_one_way : OneWay {X = Posting} (λ a b. nat_lt a.stamp b.stamp)
stamp_one_way x y g = nat_one_way x.stamp y.stamp g

-- what passes a test stands in turn as it does among all
pub turn_filter : (p : Posting → Bool) (ps : List Posting) → filter p (postings_sorted_by_stamp ps) ≡ postings_sorted_by_stamp (filter p ps)
turn_filter p ps = sym (sort_filter (λ a b. nat_lt a.stamp b.stamp) p ps stamp_splits stamp_one_way)

map_sort : (ms : List Movement) → postings_sorted_by_stamp (map posting_of_movement ms) ≡ map posting_of_movement (sort_by_key (λ m. m.stamp) ms)
unfolding sort_by
map_sort [] = refl
map_sort (m ∷ ms) =
    ap (insert_by (λ a b. nat_lt a.stamp b.stamp) (posting_of_movement m)) (map_sort ms)
    ∙ sym (map-insert_by (λ a b. nat_lt a.stamp b.stamp) (λ a b. nat_lt a.stamp b.stamp) posting_of_movement m (sort_by_key (λ m. m.stamp) ms) (λ a b. refl))

there_and_back : (ms : List Movement) → map movement_of (map posting_of_movement ms) ≡ ms
there_and_back [] = refl
there_and_back (m ∷ ms) = ap (λ ns. m ∷ ns) (there_and_back ms)

-- the cash rows without a trade are the movements
pub movements_back : (base : Base) → map movement_of_row (filter (λ r. is_none r.trade) (sheets base).moves) ≡ sort_by_key (λ m. m.stamp) base.movements
unfolding tables_of_base_in_schema tables_sorted_by_key
movements_back base =
    ap (λ rows. map movement_of_row (filter (λ r. is_none r.trade) rows)) (numbered_stay 1 (postings_sorted_by_stamp (postings_of_base base)))
    ∙ numbered_moved 1 (postings_sorted_by_stamp (postings_of_base base))
    ∙ ap (map movement_of) (turn_filter is_moved (postings_of_base base) ∙ ap postings_sorted_by_stamp (movements_of base.accounts (completed_trades base) base.movements) ∙ map_sort base.movements)
    ∙ there_and_back (sort_by_key (λ m. m.stamp) base.movements)

length_mapped : {X Y : Type 0} (f : X → Y) (xs : List X) → length (map f xs) ≡ length xs
length_mapped f [] = refl
length_mapped f (x ∷ xs) = let h = length_mapped f xs in omega (arith, h)

pub moves_counted : (base : Base) → length (filter (λ r. is_none r.trade) (sheets base).moves) ≡ length base.movements
moves_counted base =
    sym (length_mapped movement_of_row (filter (λ r. is_none r.trade) (sheets base).moves)) ∙ ap length (movements_back base)
    ∙ length_sort (λ a b. nat_lt a.stamp b.stamp) base.movements

-- ---- the last number

id_or : (o : Option CashRow) (r : CashRow) → (unwrap_or o r).id ≡ unwrap_or (option_map (λ r. r.id) o) r.id
id_or None r = refl
id_or (Some q) r = refl

number_last : (m : ℕ) (ps : List Posting) → unwrap_or (option_map (λ r. r.id) (slice_get (reverse (numbered_cash_move_rows (m + 1) ps)) 0)) m ≡ m + length ps
number_last m [] = omega arith
number_last m (p ∷ ps) =
    let rows : List CashRow = reverse (numbered_cash_move_rows (m + 1 + 1) ps) in
    let more : m + 1 + length ps ≡ m + length (p ∷ ps) = omega arith in
    ap (λ rs. unwrap_or (option_map (λ r. r.id) (slice_get rs 0)) m) (reverse-append (cash_move_row (m + 1) p ∷ []) (numbered_cash_move_rows (m + 1 + 1) ps))
    ∙ ap (λ o. unwrap_or (option_map (λ r. r.id) o) m) (first_of_more rows (cash_move_row (m + 1) p)) ∙ id_or (slice_get rows 0) (cash_move_row (m + 1) p)
    ∙ number_last (m + 1) ps ∙ more

from_none : (m n : ℕ) → m ≡ n → 0 + m ≡ n
from_none m n e = omega (arith, e)

pub reads_last_move : (base : Base) → last_cash_row_number_or_zero (sheets base) ≡ length (postings_of_base base)
unfolding tables_of_base_in_schema tables_sorted_by_key
reads_last_move base =
    ap (λ rows. unwrap_or (option_map (λ r. r.id) (slice_get (reverse rows) 0)) 0) (numbered_stay 1 (postings_sorted_by_stamp (postings_of_base base)))
    ∙ number_last 0 (postings_sorted_by_stamp (postings_of_base base))
    ∙ from_none (length (postings_sorted_by_stamp (postings_of_base base))) (length (postings_of_base base)) (length_sort (λ a b. nat_lt a.stamp b.stamp) (postings_of_base base))
