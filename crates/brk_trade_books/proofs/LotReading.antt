-- The shares of an account in a symbol are the shares of its lots, the oldest first.
use Rattle.std.proofs.Common.{◌≡◌, ℕ, ◌+◌, ◌==◌, ◌&&◌, Bool, true, false, not, cond, List, [], ◌∷◌, ◌++◌, refl, sym, ◌∙◌, ap, map, filter, replicate, arith, ℤ, pos, negsuc, zero, suc, ◌+ℤ◌}
use Rattle.std.specs.Prelude.{⊤, flat_map, nat_lt, bytes_eq}
use Rattle.std.specs.List.{AllByRecursion}
use Rattle.std.specs.Int.RustNames.{unsigned_abs}
use Rattle.std.proofs.lemmas.Bool.{eqb-true}
use Rattle.std.proofs.lemmas.Bool.Decides.{nat_tests}
use lib.IntN.{+ℤ_idr}
use Rattle.brk_money.specs.Spelling.{Text}
use Rattle.brk_money.specs.Kinds.{side_of_trade_type}
use Rattle.brk_model.specs.Lists.{insert_by, is_zero, sort_by, sort_by_key}
use Rattle.brk_model.specs.Records.{Trade}
use Rattle.brk_model.specs.Base.{Base, completed_trades, is_completed, last_status_stamp_of_trade, completion_price}
use Rattle.brk_model.specs.Derived.{deal_of_trade, trades_of_account, trades_of_position, shares_of_position}
use Rattle.brk_model.specs.Keys.{KeyPart, number, rows_sorted_by_key, is_key_less, is_row_key_less, holding_key}
use Rattle.brk_model.specs.Shares.{Share, lot_quantity, opened_share, signed_by_side}
use Rattle.brk_model.specs.Sheets.{sheets, tables_sorted_by_key}
use Rattle.brk_model.specs.Tables.{HoldingRow, tables_of_base_in_schema, holding_row}
use Rattle.brk_model.specs.Names.{TradesAreNumberedFrom}
use Rattle.brk_trade_books.specs.Books.{BooksInvariant}
use Rattle.brk_lots.specs.Lots.{side_of_qty}
use Rattle.brk_trade_books.specs.TradeReads.{shares_of_lot_row, holding_rows_of_position}
use Rattle.brk_trade_books.proofs.Bools.{numbers_back, same_text}
use Rattle.brk_trade_books.proofs.Order.{All-insert, by_key-filter, by_key-map, sort_sorted, sorted_filter}
use Rattle.brk_trade_books.proofs.Same.{NonePass, All-filter, All-map}
use Rattle.brk_trade_books.proofs.Runs.{AreRuns, lot_other, lot_own, no_lot, run_told, runs_of}
use Rattle.brk_trade_books.proofs.TradeReading.{ids_rise, trades_stand}

-- ---- trades of different ids

abbrev pub IdsApart : List Trade → Type 0
IdsApart [] = ⊤
IdsApart (t ∷ ts) = NonePass (λ u. u.id == t.id) ts × IdsApart ts

-- ids that rise
abbrev pub IdsRise : List Trade → Type 0
IdsRise [] = ⊤
IdsRise (t ∷ ts) = AllByRecursion (λ u. nat_lt t.id u.id ≡ true) ts × IdsRise ts

pub All-sort : {X : Type 0} (P : X → Type 0) (before : X → X → Bool) (xs : List X) → AllByRecursion P xs → AllByRecursion P (sort_by before xs)
unfolding sort_by
All-sort P before [] h = tt
All-sort P before (x ∷ xs) h = All-insert P before x (sort_by before xs) h.0 (All-sort P before xs h.1)

apart_insert : (before : Trade → Trade → Bool) (t : Trade) (ts : List Trade) → NonePass (λ u. u.id == t.id) ts → IdsApart ts → IdsApart (insert_by before t ts)
apart_insert before t [] h d = (tt, tt)
apart_insert before t (u ∷ ts) h d =
    elim (before u t) as (λ b. IdsApart (cond b (u ∷ insert_by before t ts) (t ∷ u ∷ ts)))
    [ true ↦ (All-insert (λ v. (v.id == u.id) ≡ false) before t ts (numbers_back t.id u.id ∙ h.0) d.0, apart_insert before t ts h.1 d.1) | false ↦ (h, d) ]

pub apart_sort : (before : Trade → Trade → Bool) (ts : List Trade) → IdsApart ts → IdsApart (sort_by before ts)
unfolding sort_by
apart_sort before [] d = tt
apart_sort before (t ∷ ts) d = apart_insert before t (sort_by before ts) (All-sort (λ u. (u.id == t.id) ≡ false) before ts d.0) (apart_sort before ts d.1)

pub rise_apart : (ts : List Trade) → IdsRise ts → IdsApart ts
rise_apart [] r = tt
rise_apart (t ∷ ts) r = (All-map ts (λ u h. other t.id u.id h) r.0, rise_apart ts r.1)
  where
    other : (m n : ℕ) → nat_lt m n ≡ true → (n == m) ≡ false
    other m n h = grind (arith, nat_tests)

pub numbered_rise : (n : ℕ) (ts : List Trade) → TradesAreNumberedFrom n ts → IdsRise ts
numbered_rise n [] k = tt
numbered_rise n (t ∷ ts) k = (ids_rise t.id (n + 1) ts (omega (arith, k.0)) k.1, numbered_rise (n + 1) ts k.1)

pub rise_filter : (p : Trade → Bool) (ts : List Trade) → IdsRise ts → IdsRise (filter p ts)
rise_filter p [] r = tt
rise_filter p (t ∷ ts) r =
    elim (p t) as (λ b. IdsRise (cond b (t ∷ filter p ts) (filter p ts)))
    [ true ↦ (All-filter (λ u. nat_lt t.id u.id ≡ true) p ts r.0, rise_filter p ts r.1) | false ↦ rise_filter p ts r.1 ]

-- ---- by age, and by completion

abbrev age_of : Trade → List KeyPart
age_of t = number (last_status_stamp_of_trade t) ∷ number t.id ∷ []

age_before : (my mx iy ix : ℕ) → nat_lt ix iy ≡ true → is_key_less (number my ∷ number iy ∷ []) (number mx ∷ number ix ∷ []) ≡ nat_lt my mx
age_before my mx iy ix h = grind (arith, nat_tests)

insert_same : {X : Type 0} (b c : X → X → Bool) (x : X) (ys : List X) → AllByRecursion (λ y. b y x ≡ c y x) ys → insert_by b x ys ≡ insert_by c x ys
insert_same b c x [] h = refl
insert_same b c x (y ∷ ys) h = λ i. cond (h.0 i) (y ∷ insert_same b c x ys h.1 i) (x ∷ y ∷ ys)

sort_same : (ts : List Trade) → IdsRise ts → rows_sorted_by_key age_of ts ≡ sort_by_key last_status_stamp_of_trade ts
unfolding sort_by
sort_same [] r = refl
sort_same (t ∷ ts) r =
    insert_same (is_row_key_less age_of) (λ u v. nat_lt (last_status_stamp_of_trade u) (last_status_stamp_of_trade v)) t (rows_sorted_by_key age_of ts)
    (All-map (rows_sorted_by_key age_of ts) (λ u h. age_before (last_status_stamp_of_trade u) (last_status_stamp_of_trade t) u.id t.id h)
    (All-sort (λ u. nat_lt t.id u.id ≡ true) (is_row_key_less age_of) ts r.0))
    ∙ ap (insert_by (λ u v. nat_lt (last_status_stamp_of_trade u) (last_status_stamp_of_trade v)) t) (sort_same ts r.1)

-- ---- the shares of rows

-- the row of a trade's lot, upon some shares
abbrev row_upon : List Share → Trade → HoldingRow
row_upon shares t = record { trade = t.id; account = t.account; symbol = t.symbol; stamp = last_status_stamp_of_trade t; price = completion_price t; qty = lot_quantity shares t.id }

opened_by_deals : (id : ℕ) (ts : List Trade) → NonePass (λ u. u.id == id) ts → AllByRecursion (λ d. (d.trade == id) ≡ false) (map deal_of_trade ts)
opened_by_deals id [] h = tt
opened_by_deals id (t ∷ ts) h = (h.0, opened_by_deals id ts h.1)

-- shares that are runs of the trades' deals are the shares of the trades' lots
rows_told : (whole : List Share) (ts : List Trade) (shares : List Share) → IdsApart ts → AreRuns (map deal_of_trade ts) shares
    → AllByRecursion (λ t. lot_quantity whole t.id ≡ lot_quantity shares t.id) ts → flat_map (λ t. shares_of_lot_row (row_upon whole t)) ts ≡ shares
rows_told whole [] shares d r h = sym r
rows_told whole (t ∷ ts) shares d r h =
    let none : lot_quantity r.1 t.id ≡ pos 0 = no_lot t.id (map deal_of_trade ts) r.1 (opened_by_deals t.id ts d.0) r.3 in
    let qty : lot_quantity whole t.id ≡ signed_by_side (side_of_trade_type t.kind) r.0 =
    h.0 ∙ ap (λ xs. lot_quantity xs t.id) r.2 ∙ lot_own (opened_share (deal_of_trade t)) r.0 r.1
    ∙ ap (λ z. signed_by_side (side_of_trade_type t.kind) r.0 +ℤ z) none ∙ +ℤ_idr (signed_by_side (side_of_trade_type t.kind) r.0) in
    let run : shares_of_lot_row (row_upon whole t) ≡ replicate r.0 (opened_share (deal_of_trade t)) =
    ap (λ q. shares_of_lot_row (record (row_upon whole t) { qty = q })) qty ∙ run_told (side_of_trade_type t.kind) r.0 t.id (completion_price t) (last_status_stamp_of_trade t) in
    let others : AllByRecursion (λ u. lot_quantity whole u.id ≡ lot_quantity r.1 u.id) ts = left ts h.1 d.0 in
    (λ i. run i ++ rows_told whole ts r.1 d.1 r.3 others i) ∙ sym r.2
  where
    left : (us : List Trade) → AllByRecursion (λ u. lot_quantity whole u.id ≡ lot_quantity shares u.id) us → NonePass (λ u. u.id == t.id) us
        → AllByRecursion (λ u. lot_quantity whole u.id ≡ lot_quantity r.1 u.id) us
    left [] h n = tt
    left (u ∷ us) h n = (h.0 ∙ ap (λ xs. lot_quantity xs u.id) r.2 ∙ lot_other u.id (opened_share (deal_of_trade t)) r.0 r.1 (numbers_back t.id u.id ∙ n.0), left us h.1 n.1)

-- ---- the rows of a position

pub filter-swap : {X : Type 0} (p q : X → Bool) (xs : List X) → filter p (filter q xs) ≡ filter q (filter p xs)
filter-swap p q [] = refl
filter-swap {X = X} p q (x ∷ xs) = by_test (p x) (q x) refl refl (filter-swap p q xs)
  where
    by_test : (b c : Bool) → p x ≡ b → q x ≡ c → filter p (filter q xs) ≡ filter q (filter p xs) → filter p (filter q (x ∷ xs)) ≡ filter q (filter p (x ∷ xs))
    by_test true true e f h =
        ap (λ b. filter p (cond b (x ∷ filter q xs) (filter q xs))) f ∙ ap (λ b. cond b (x ∷ filter p (filter q xs)) (filter p (filter q xs))) e ∙ ap (λ ys. x ∷ ys) h
        ∙ sym (ap (λ b. filter q (cond b (x ∷ filter p xs) (filter p xs))) e ∙ ap (λ b. cond b (x ∷ filter q (filter p xs)) (filter q (filter p xs))) f)
    by_test true false e f h =
        ap (λ b. filter p (cond b (x ∷ filter q xs) (filter q xs))) f ∙ h
        ∙ sym (ap (λ b. filter q (cond b (x ∷ filter p xs) (filter p xs))) e ∙ ap (λ b. cond b (x ∷ filter q (filter p xs)) (filter q (filter p xs))) f)
    by_test false true e f h =
        ap (λ b. filter p (cond b (x ∷ filter q xs) (filter q xs))) f ∙ ap (λ b. cond b (x ∷ filter p (filter q xs)) (filter p (filter q xs))) e ∙ h
        ∙ sym (ap (λ b. filter q (cond b (x ∷ filter p xs) (filter p xs))) e)
    by_test false false e f h = ap (λ b. filter p (cond b (x ∷ filter q xs) (filter q xs))) f ∙ h ∙ sym (ap (λ b. filter q (cond b (x ∷ filter p xs) (filter p xs))) e)

pub filter-map : {X Y : Type 0} (p : Y → Bool) (f : X → Y) (xs : List X) → filter p (map f xs) ≡ map f (filter (λ x. p (f x)) xs)
filter-map p f [] = refl
filter-map p f (x ∷ xs) = by_test (p (f x)) (filter-map p f xs)
  where
    by_test : (b : Bool) → filter p (map f xs) ≡ map f (filter (λ x. p (f x)) xs)
        → cond b (f x ∷ filter p (map f xs)) (filter p (map f xs)) ≡ map f (cond b (x ∷ filter (λ x. p (f x)) xs) (filter (λ x. p (f x)) xs))
    by_test true e = ap (λ ys. f x ∷ ys) e
    by_test false e = e

pub filter-both : {X : Type 0} (p q : X → Bool) (xs : List X) → filter (λ x. p x && q x) xs ≡ filter q (filter p xs)
filter-both p q [] = refl
filter-both {X = X} p q (x ∷ xs) = by_test (p x) (filter-both p q xs)
  where
    by_test : (b : Bool) → filter (λ x. p x && q x) xs ≡ filter q (filter p xs)
        → cond (b && q x) (x ∷ filter (λ x. p x && q x) xs) (filter (λ x. p x && q x) xs) ≡ filter q (cond b (x ∷ filter p xs) (filter p xs))
    by_test true e = ap (λ ys. cond (q x) (x ∷ ys) ys) e
    by_test false e = e

pub all_pass : {X : Type 0} (p : X → Bool) (xs : List X) → AllByRecursion (λ x. p x ≡ true) (filter p xs)
all_pass p [] = tt
all_pass p (x ∷ xs) = by_test (p x) refl (all_pass p xs)
  where
    by_test : (b : Bool) → p x ≡ b → AllByRecursion (λ x. p x ≡ true) (filter p xs) → AllByRecursion (λ x. p x ≡ true) (cond b (x ∷ filter p xs) (filter p xs))
    by_test true e h = (e, h)
    by_test false e h = h

-- whether a lot is left of a row
abbrev pub is_left : HoldingRow → Bool
is_left r = not (is_zero r.qty)

pub holdings_in_order : (base : Base) → TradesAreNumberedFrom 1 base.trades → (sheets base).holdings ≡ filter is_left (map (holding_row (completed_trades base)) (completed_trades base))
unfolding tables_of_base_in_schema tables_sorted_by_key
holdings_in_order base n =
    by_key-filter holding_key is_left (map (holding_row (completed_trades base)) (completed_trades base))
    ∙ ap (filter is_left) (by_key-map (λ t. number t.id ∷ []) holding_key (holding_row (completed_trades base)) (completed_trades base) (λ t. refl)
    ∙ ap (map (holding_row (completed_trades base))) (sort_sorted (is_row_key_less (λ t. number t.id ∷ [])) (completed_trades base)
    (sorted_filter (is_row_key_less (λ t. number t.id ∷ [])) is_completed base.trades (trades_stand 1 base.trades n))))

abbrev age_row : HoldingRow → List KeyPart
age_row r = number r.stamp ∷ number r.trade ∷ []

pub position_rise : (base : Base) (account : ℕ) (symbol : Text) → TradesAreNumberedFrom 1 base.trades → IdsRise (trades_of_position (completed_trades base) account symbol)
position_rise base account symbol n =
    rise_filter (λ t. bytes_eq t.symbol symbol) (trades_of_account (completed_trades base) account)
    (rise_filter (λ t. t.account == account) (completed_trades base) (rise_filter is_completed base.trades (numbered_rise 1 base.trades n)))

pub lots_are : (base : Base) (account : ℕ) (symbol : Text) → TradesAreNumberedFrom 1 base.trades
    → holding_rows_of_position (sheets base) account symbol
    ≡ filter is_left (map (holding_row (completed_trades base))
    (sort_by_key last_status_stamp_of_trade (trades_of_position (completed_trades base) account symbol)))
lots_are base account symbol n =
    let done : List Trade = completed_trades base in
    let row : Trade → HoldingRow = holding_row done in
    let p : HoldingRow → Bool = λ r. (r.account == account) && bytes_eq r.symbol symbol in
    let P : List Trade = trades_of_position done account symbol in
    ap (λ rows. rows_sorted_by_key age_row (filter p rows)) (holdings_in_order base n)
    ∙ ap (rows_sorted_by_key age_row) (filter-swap p is_left (map row done)
    ∙ ap (filter is_left) (filter-map p row done ∙ ap (map row) (filter-both (λ t. t.account == account) (λ t. bytes_eq t.symbol symbol) done)))
    ∙ by_key-filter age_row is_left (map row P)
    ∙ ap (filter is_left) (by_key-map age_of age_row row P (λ t. refl) ∙ ap (map row) (sort_same P (position_rise base account symbol n)))

-- ---- their shares

no_shares : (q : ℤ) (s : Share) → is_zero q ≡ true → replicate (unsigned_abs q) s ≡ []
no_shares (pos zero) s e = refl
no_shares (pos (suc n)) s e = absurd (cc)
no_shares (negsuc n) s e = absurd (cc)

shares_left : (rows : List HoldingRow) → flat_map shares_of_lot_row (filter is_left rows) ≡ flat_map shares_of_lot_row rows
shares_left [] = refl
shares_left (r ∷ rows) = by_test (is_zero r.qty) refl (shares_left rows)
  where
    by_test : (b : Bool) → is_zero r.qty ≡ b → flat_map shares_of_lot_row (filter is_left rows) ≡ flat_map shares_of_lot_row rows
        → flat_map shares_of_lot_row (cond (not b) (r ∷ filter is_left rows) (filter is_left rows)) ≡ shares_of_lot_row r ++ flat_map shares_of_lot_row rows
    by_test true e h = h ∙ ap (λ xs. xs ++ flat_map shares_of_lot_row rows) (sym (no_shares r.qty (record { side = side_of_qty r.qty; trade = r.trade; price = r.price; stamp = r.stamp }) e))
    by_test false e h = ap (λ xs. shares_of_lot_row r ++ xs) h

-- the rows of a position are upon its shares
rows_upon : (done : List Trade) (account : ℕ) (symbol : Text) (ts : List Trade) → AllByRecursion (λ t. (t.account == account) ≡ true) ts → AllByRecursion (λ t. bytes_eq t.symbol symbol ≡ true) ts
    → flat_map shares_of_lot_row (map (holding_row done) ts) ≡ flat_map (λ t. shares_of_lot_row (row_upon (shares_of_position done account symbol) t)) ts
rows_upon done account symbol [] g h = refl
rows_upon done account symbol (t ∷ ts) g h =
    let a : t.account ≡ account = eqb-true t.account account g.0 in
    let s : t.symbol ≡ symbol = same_text t.symbol symbol h.0 in
    λ i. shares_of_lot_row (record (holding_row done t) { qty = lot_quantity (shares_of_position done (a i) (s i)) t.id }) ++ rows_upon done account symbol ts g.1 h.1 i

pub reads_lots : (base : Base) (account : ℕ) (symbol : Text) → BooksInvariant base
    → flat_map shares_of_lot_row (holding_rows_of_position (sheets base) account symbol) ≡ shares_of_position (completed_trades base) account symbol
unfolding shares_of_position
reads_lots base account symbol books =
    let done : List Trade = completed_trades base in
    let P : List Trade = trades_of_position done account symbol in
    let before : Trade → Trade → Bool = λ t u. nat_lt (last_status_stamp_of_trade t) (last_status_stamp_of_trade u) in
    let ts : List Trade = sort_by before P in
    let accounts : AllByRecursion (λ t. (t.account == account) ≡ true) ts =
    All-sort (λ t. (t.account == account) ≡ true) before P
    (All-filter (λ t. (t.account == account) ≡ true) (λ t. bytes_eq t.symbol symbol) (trades_of_account done account)
    (all_pass (λ t. t.account == account) done)) in
    let symbols : AllByRecursion (λ t. bytes_eq t.symbol symbol ≡ true) ts =
    All-sort (λ t. bytes_eq t.symbol symbol ≡ true) before P (all_pass (λ t. bytes_eq t.symbol symbol) (trades_of_account done account)) in
    let apart : IdsApart ts = apart_sort before P (rise_apart P (position_rise base account symbol books.numbered)) in
    ap (flat_map shares_of_lot_row) (lots_are base account symbol books.numbered)
    ∙ shares_left (map (holding_row done) ts)
    ∙ rows_upon done account symbol ts accounts symbols
    ∙ rows_told (shares_of_position done account symbol) ts (shares_of_position done account symbol) apart (runs_of (map deal_of_trade ts)) (same ts)
  where
    same : (us : List Trade)
        → AllByRecursion (λ t. lot_quantity (shares_of_position (completed_trades base) account symbol) t.id
        ≡ lot_quantity (shares_of_position (completed_trades base) account symbol) t.id) us
    same [] = tt
    same (u ∷ us) = (refl, same us)
