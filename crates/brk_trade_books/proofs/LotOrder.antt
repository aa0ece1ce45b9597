-- The lots of an account in a symbol, in the order in which they are read, form a position.
use Rattle.std.proofs.Common.{◌≡◌, ◌≢◌, ◌<◌, ℕ, ◌==◌, zero, suc, Bool, true, false, not, cond, List, [], ◌∷◌, ◌++◌, refl, sym, ◌∙◌, ap, subst, map, filter, arith, ℤ, pos}
use Rattle.std.specs.Prelude.{⊤, bytes_eq, flat_map, nat_lt}
use Rattle.std.specs.List.{AllByRecursion}
use Rattle.std.proofs.lemmas.Bool.{eqb-true, eqb-false}
use Rattle.std.proofs.lemmas.Bool.Decides.{nat_tests}
use Rattle.brk_money.specs.Spelling.{Text}
use Rattle.brk_money.specs.declared.side.Side.{Side}
use Rattle.brk_money.specs.declared.side.Side.TheVariants.{Buy, Sell}
use Rattle.brk_model.specs.Lists.{insert_by, is_zero, sort_by, sort_by_key}
use Rattle.brk_model.specs.Records.{Trade}
use Rattle.brk_model.specs.Base.{Base, completed_trades, last_status_stamp_of_trade, completion_price}
use Rattle.brk_model.specs.Derived.{deals_of_position, trades_of_account, trades_of_position, shares_of_position}
use Rattle.brk_model.specs.Shares.{Share, lot_quantity, signed_by_side}
use Rattle.brk_model.specs.Sheets.{sheets}
use Rattle.brk_model.specs.Tables.{HoldingRow, holding_row}
use Rattle.brk_lots.specs.Lots.{shares_of_lots, side_of_qty}
use Rattle.brk_lots.specs.Position.{AreOpenedBeforeStamp, PrecedesInPosition, AreOpenedByOtherTrades, IsPosition}
use Rattle.brk_lots.specs.declared.lot.Lot.{Lot}
use Rattle.brk_lots.proofs.Books.{sides_after}
use Rattle.brk_lots.proofs.Counts.{OneSide, lot_counts}
use Rattle.brk_lots.proofs.Runs.{count_of}
use Rattle.brk_trade_books.specs.Books.{BooksInvariant, HasDistinctLastStatusStamps}
use Rattle.brk_trade_books.specs.TradeReads.{shares_of_lot_row, holding_rows_of_position, lots_of_position, lot_of_row}
use Rattle.brk_trade_books.proofs.Bools.{numbers_back, same_text}
use Rattle.brk_trade_books.proofs.Order.{All-insert}
use Rattle.brk_trade_books.proofs.Same.{NonePass, All-filter, All-map}
use Rattle.brk_trade_books.proofs.LotReading.{All-sort, IdsApart, all_pass, is_left, lots_are, position_rise, reads_lots, rise_apart}

-- ---- the trades of a position, by rising completion

-- of another number, and completed later
abbrev pub Follows : Trade → Trade → Type 0
Follows t u = ((u.id == t.id) ≡ false) × (last_status_stamp_of_trade t < last_status_stamp_of_trade u)

-- completed one after another
abbrev pub InOrder : List Trade → Type 0
InOrder [] = ⊤
InOrder (t ∷ ts) = AllByRecursion (Follows t) ts × InOrder ts

-- of another number, and completed at another moment
abbrev Differs : Trade → Trade → Type 0
Differs t u = ((u.id == t.id) ≡ false) × ((last_status_stamp_of_trade u == last_status_stamp_of_trade t) ≡ false)

abbrev AllDiffer : List Trade → Type 0
AllDiffer [] = ⊤
AllDiffer (t ∷ ts) = AllByRecursion (Differs t) ts × AllDiffer ts

pub both_hold : {X : Type 0} (P Q : X → Type 0) (xs : List X) → AllByRecursion P xs → AllByRecursion Q xs → AllByRecursion (λ x. P x × Q x) xs
both_hold P Q [] g h = tt
both_hold P Q (x ∷ xs) g h = ((g.0, h.0), both_hold P Q xs g.1 h.1)

all_differ : (ts : List Trade) → IdsApart ts → HasDistinctLastStatusStamps ts → AllDiffer ts
all_differ [] d m = tt
all_differ (t ∷ ts) d m = (both_hold (λ u. (u.id == t.id) ≡ false) (λ u. (last_status_stamp_of_trade u == last_status_stamp_of_trade t) ≡ false) ts d.0 m.0, all_differ ts d.1 m.1)

is_earlier : (m n : ℕ) → nat_lt m n ≡ true → m < n
is_earlier m n e = grind (arith, nat_tests)

is_later : (m n : ℕ) → nat_lt m n ≡ false → (m == n) ≡ false → n < m
is_later m n e f = grind (arith, nat_tests)

abbrev earlier : Trade → Trade → Bool
earlier t u = nat_lt (last_status_stamp_of_trade t) (last_status_stamp_of_trade u)

order_insert : (t : Trade) (ts : List Trade) → AllByRecursion (Differs t) ts → InOrder ts → InOrder (insert_by earlier t ts)
order_insert t [] d o = (tt, tt)
order_insert t (u ∷ ts) d o = by_test (order_insert t ts d.1 o.1) (earlier u t) refl
  where
    by_test : InOrder (insert_by earlier t ts) → (b : Bool) → earlier u t ≡ b → InOrder (cond b (u ∷ insert_by earlier t ts) (t ∷ u ∷ ts))
    by_test ih true e = (All-insert (Follows u) earlier t ts (numbers_back t.id u.id ∙ d.0.0, is_earlier (last_status_stamp_of_trade u) (last_status_stamp_of_trade t) e) o.0, ih)
    by_test ih false e =
        let lt : last_status_stamp_of_trade t < last_status_stamp_of_trade u = is_later (last_status_stamp_of_trade u) (last_status_stamp_of_trade t) e d.0.1 in
        (((d.0.0, lt), All-map ts (λ v h. let m : last_status_stamp_of_trade u < last_status_stamp_of_trade v = h.1.1 in (h.0.0, omega arith)) (both_hold (Differs t) (Follows u) ts d.1 o.0)), o)

order_sort : (ts : List Trade) → AllDiffer ts → InOrder (sort_by earlier ts)
unfolding sort_by
order_sort [] d = tt
order_sort (t ∷ ts) d = order_insert t (sort_by earlier ts) (All-sort (Differs t) earlier ts d.0) (order_sort ts d.1)

moments_filter : (p : Trade → Bool) (ts : List Trade) → HasDistinctLastStatusStamps ts → HasDistinctLastStatusStamps (filter p ts)
moments_filter p [] m = tt
moments_filter p (t ∷ ts) m =
    elim (p t) as (λ b. HasDistinctLastStatusStamps (cond b (t ∷ filter p ts) (filter p ts)))
    [ true ↦ (All-filter (λ u. (last_status_stamp_of_trade u == last_status_stamp_of_trade t) ≡ false) p ts m.0, moments_filter p ts m.1) | false ↦ moments_filter p ts m.1 ]

-- the trades of a position, by rising completion
abbrev pub trades_held : Base → ℕ → Text → List Trade
trades_held base account symbol = sort_by_key last_status_stamp_of_trade (trades_of_position (completed_trades base) account symbol)

pub held_in_order : (base : Base) (account : ℕ) (symbol : Text) → BooksInvariant base → InOrder (trades_held base account symbol)
held_in_order base account symbol books =
    order_sort (trades_of_position (completed_trades base) account symbol)
    (all_differ (trades_of_position (completed_trades base) account symbol) (rise_apart _ (position_rise base account symbol books.numbered))
    (moments_filter (λ t. bytes_eq t.symbol symbol) (trades_of_account (completed_trades base) account) (moments_filter (λ t. t.account == account) (completed_trades base) books.moments)))

-- what holds of all completed trades holds of those of a position
pub of_held : (P : Trade → Type 0) (base : Base) (account : ℕ) (symbol : Text) → AllByRecursion P (completed_trades base) → AllByRecursion P (trades_held base account symbol)
of_held P base account symbol h =
    All-sort P earlier (trades_of_position (completed_trades base) account symbol)
    (All-filter P (λ t. bytes_eq t.symbol symbol) (trades_of_account (completed_trades base) account) (All-filter P (λ t. t.account == account) (completed_trades base) h))

-- ---- their lots

-- the lot of a trade, upon some shares
abbrev pub lot_upon : List Share → Trade → Lot
lot_upon shares t = record { trade = t.id; price = completion_price t; qty = lot_quantity shares t.id; stamp = last_status_stamp_of_trade t }

abbrev pub is_some_left : Lot → Bool
is_some_left l = not (is_zero l.qty)

-- the lots that are left
abbrev pub lots_left : List Share → List Trade → List Lot
lots_left shares ts = filter is_some_left (map (lot_upon shares) ts)

not_zero : (q : ℤ) → is_zero q ≡ false → q ≢ pos 0
not_zero q e k = let h : true ≡ false = sym (ap is_zero k) ∙ e in absurd (cc)

side_told : (s : Side) (n : ℕ) → is_zero (signed_by_side s n) ≡ false → side_of_qty (signed_by_side s n) ≡ s
side_told Buy n e = refl
side_told Sell zero e = absurd (cc)
side_told Sell (suc n) e = refl

side_of_lot : (s : Side) (shares : List Share) (id : ℕ) → OneSide s shares → is_zero (lot_quantity shares id) ≡ false → side_of_qty (lot_quantity shares id) ≡ s
side_of_lot s shares id one e =
    let k : lot_quantity shares id ≡ signed_by_side s (count_of id shares) = lot_counts s id shares one in
    ap side_of_qty k ∙ side_told s (count_of id shares) (sym (ap is_zero k) ∙ e)

pub position_upon : (s : Side) (shares : List Share) (ts : List Trade) → OneSide s shares → InOrder ts → IsPosition (lots_left shares ts)
position_upon s shares [] one o = tt
position_upon s shares (t ∷ ts) one o = by_test (position_upon s shares ts one o.1) (is_zero (lot_quantity shares t.id)) refl
  where
    l : Lot
    l = lot_upon shares t

    behind : is_zero (lot_quantity shares t.id) ≡ false → (us : List Trade) → AllByRecursion (Follows t) us → AllByRecursion (PrecedesInPosition l) (lots_left shares us)
    behind e [] h = tt
    behind e (u ∷ us) h = one_more (behind e us h.1) (is_zero (lot_quantity shares u.id)) refl
      where
        one_more : AllByRecursion (PrecedesInPosition l) (lots_left shares us) → (b : Bool) → is_zero (lot_quantity shares u.id) ≡ b
            → AllByRecursion (PrecedesInPosition l) (cond (not b) (lot_upon shares u ∷ lots_left shares us) (lots_left shares us))
        one_more rest true f = rest
        one_more rest false f =
            (((side_of_lot s shares u.id one f ∙ sym (side_of_lot s shares t.id one e), eqb-false u.id t.id h.0.0), h.0.1), rest)

    by_test : IsPosition (lots_left shares ts) → (b : Bool) → is_zero (lot_quantity shares t.id) ≡ b
        → IsPosition (cond (not b) (l ∷ lots_left shares ts) (lots_left shares ts))
    by_test ih true e = ih
    by_test ih false e = (not_zero (lot_quantity shares t.id) e, behind e ts o.0, ih)

-- ---- as they are read

rows_left : (done : List Trade) (shares : List Share) (ts : List Trade) → AllByRecursion (λ t. (holding_row done t).qty ≡ lot_quantity shares t.id) ts
    → map lot_of_row (filter is_left (map (holding_row done) ts)) ≡ lots_left shares ts
rows_left done shares [] h = refl
rows_left done shares (t ∷ ts) h =
    ap (λ (q : ℤ). map lot_of_row (cond (not (is_zero q)) (record (holding_row done t) { qty = q } ∷ R) R)) h.0
    ∙ by_test (rows_left done shares ts h.1) (is_zero (lot_quantity shares t.id))
  where
    R : List HoldingRow
    R = filter is_left (map (holding_row done) ts)

    by_test : map lot_of_row R ≡ lots_left shares ts → (b : Bool)
        → map lot_of_row (cond (not b) (record (holding_row done t) { qty = lot_quantity shares t.id } ∷ R) R) ≡ cond (not b) (lot_upon shares t ∷ lots_left shares ts) (lots_left shares ts)
    by_test ih true = ih
    by_test ih false = ap (λ ls. lot_upon shares t ∷ ls) ih

-- the trades of a position are of its account and its symbol
pub of_its_account : (done : List Trade) (account : ℕ) (symbol : Text) → AllByRecursion (λ t. (t.account == account) ≡ true) (trades_of_position done account symbol)
of_its_account done account symbol =
    All-filter (λ t. (t.account == account) ≡ true) (λ t. bytes_eq t.symbol symbol) (trades_of_account done account) (all_pass (λ t. t.account == account) done)

pub of_its_symbol : (done : List Trade) (account : ℕ) (symbol : Text) → AllByRecursion (λ t. bytes_eq t.symbol symbol ≡ true) (trades_of_position done account symbol)
of_its_symbol done account symbol = all_pass (λ t. bytes_eq t.symbol symbol) (trades_of_account done account)

pub qty_here : (done : List Trade) (account : ℕ) (symbol : Text) (t : Trade) → (t.account == account) ≡ true → bytes_eq t.symbol symbol ≡ true
    → lot_quantity (shares_of_position done t.account t.symbol) t.id ≡ lot_quantity (shares_of_position done account symbol) t.id
qty_here done account symbol t a s = λ i. lot_quantity (shares_of_position done (eqb-true t.account account a i) (same_text t.symbol symbol s i)) t.id

pub lots_read : (base : Base) (account : ℕ) (symbol : Text) → BooksInvariant base
    → lots_of_position (sheets base) account symbol ≡ lots_left (shares_of_position (completed_trades base) account symbol) (trades_held base account symbol)
lots_read base account symbol books =
    let done : List Trade = completed_trades base in
    let P : List Trade = trades_of_position done account symbol in
    ap (map lot_of_row) (lots_are base account symbol books.numbered)
    ∙ rows_left done (shares_of_position done account symbol) (trades_held base account symbol)
    (All-map (trades_held base account symbol) (λ t h. qty_here done account symbol t h.0 h.1)
    (both_hold (λ t. (t.account == account) ≡ true) (λ t. bytes_eq t.symbol symbol ≡ true) (trades_held base account symbol)
    (All-sort (λ t. (t.account == account) ≡ true) earlier P (of_its_account done account symbol))
    (All-sort (λ t. bytes_eq t.symbol symbol ≡ true) earlier P (of_its_symbol done account symbol))))

-- the rows have the shares of the account in the symbol
shares_held : (rows : List HoldingRow) → shares_of_lots (map lot_of_row rows) ≡ flat_map shares_of_lot_row rows
shares_held [] = refl
shares_held (r ∷ rows) = ap (λ shares. shares_of_lot_row r ++ shares) (shares_held rows)

pub shares_read : (base : Base) (account : ℕ) (symbol : Text) → BooksInvariant base
    → shares_of_lots (lots_of_position (sheets base) account symbol) ≡ shares_of_position (completed_trades base) account symbol
shares_read base account symbol books = shares_held (holding_rows_of_position (sheets base) account symbol) ∙ reads_lots base account symbol books

pub position_read : (base : Base) (account : ℕ) (symbol : Text) → BooksInvariant base → IsPosition (lots_of_position (sheets base) account symbol)
unfolding shares_of_position
position_read base account symbol books =
    let s = sides_after Buy (deals_of_position (completed_trades base) account symbol) [] tt in
    subst IsPosition (sym (lots_read base account symbol books))
    (position_upon s.0 (shares_of_position (completed_trades base) account symbol) (trades_held base account symbol) s.1 (held_in_order base account symbol books))

-- what holds of each completed trade's lot holds of each lot
left_all : (P : Lot → Type 0) (shares : List Share) (ts : List Trade) → AllByRecursion (λ t. P (lot_upon shares t)) ts → AllByRecursion P (lots_left shares ts)
left_all P shares [] h = tt
left_all P shares (t ∷ ts) h =
    elim (is_some_left (lot_upon shares t)) as (λ b. AllByRecursion P (cond b (lot_upon shares t ∷ lots_left shares ts) (lots_left shares ts)))
    [ true ↦ (h.0, left_all P shares ts h.1) | false ↦ left_all P shares ts h.1 ]

pub new_read : (base : Base) (account : ℕ) (symbol : Text) (id : ℕ) → BooksInvariant base → NonePass (λ t. t.id == id) (completed_trades base)
    → AreOpenedByOtherTrades id (lots_of_position (sheets base) account symbol)
new_read base account symbol id books h =
    let S : List Share = shares_of_position (completed_trades base) account symbol in
    let ts : List Trade = trades_held base account symbol in
    subst (AreOpenedByOtherTrades id) (sym (lots_read base account symbol books))
    (left_all (λ l. l.trade ≢ id) S ts (All-map ts (λ t e. eqb-false t.id id e) (of_held (λ t. (t.id == id) ≡ false) base account symbol h)))

pub older_read : (base : Base) (account : ℕ) (symbol : Text) (stamp : ℕ) → BooksInvariant base → AllByRecursion (λ t. last_status_stamp_of_trade t < stamp) (completed_trades base)
    → AreOpenedBeforeStamp stamp (lots_of_position (sheets base) account symbol)
older_read base account symbol stamp books h =
    let S : List Share = shares_of_position (completed_trades base) account symbol in
    let ts : List Trade = trades_held base account symbol in
    subst (AreOpenedBeforeStamp stamp) (sym (lots_read base account symbol books)) (left_all (λ l. l.stamp < stamp) S ts (of_held (λ t. last_status_stamp_of_trade t < stamp) base account symbol h))
