-- The lots that remain after the completed trades, position by position, are the lots in the tables
-- of their base.
use Rattle.std.proofs.Common.{◌≡◌, ℕ, ◌+◌, ◌==◌, ◌&&◌, Bool, true, false, cond, List, [], ◌∷◌, ◌++◌, refl, sym, ap, ◌∙◌, map, filter, arith, inl, inr}
use Rattle.std.specs.Prelude.{bytes_eq}
use Rattle.std.specs.List.{AllByRecursion, list_any, sum_by}
use Rattle.std.proofs.lemmas.Bool.{and_from, and_parts, eq-eqb, eqb-true}
use Rattle.std.proofs.lemmas.Slice.Eq.{bytes_eq-Decides}
use Rattle.brk_model.specs.Base.{Base, completed_trades}
use Rattle.brk_model.specs.Derived.{deals_of_position, shares_of_position}
use Rattle.brk_model.specs.Keys.{number, is_row_key_less}
use Rattle.brk_model.specs.Shares.{Deal, Share, lots_of_shares, replay}
use Rattle.brk_model.specs.Tables.{HoldingRow, TradeRow}
use Rattle.brk_model.specs.Sheets.{sheets}
use Rattle.brk_lots.specs.declared.lot.Lot.{Lot}
use Rattle.brk_lots.specs.Lots.{abstract_lot}
use Rattle.brk_lots.proofs.Ends.{walk_of}
use Rattle.brk_lots.proofs.Plain.{lots_walk}
use Rattle.brk_trade_books.specs.Books.{BooksInvariant}
use Rattle.brk_trade_books.specs.TradeReads.{holding_rows_of_position, lots_of_position, lot_of_row}
use Rattle.brk_trade_books.proofs.LotOrder.{position_read, shares_read}
use Rattle.brk_trade_books.proofs.LotReading.{All-sort, all_pass}
use Rattle.brk_trade_books.proofs.Places.{filter-all, filter-append}
use Rattle.brk_trade_books.proofs.Same.{All-map, All-of, filter-none}
use Rattle.brk_audit_theorems.proofs.Climbs.{In}
use Rattle.brk_audit.specs.Positions.{AreLotsLeftByTrades, holding_row_in_position_of_trade, nothing, position, deal_of_completed_row, holding_rows_left_by_trades, has_same_position}
use Rattle.brk_trade_books.proofs.Orders.{sum_append, sum_both, sum_filter, sum_same, sum_sort}
use Rattle.brk_audit.proofs.Places.{all_back, at_one, one_place, same_self}

-- ---- rows of lots at a trade's position

-- whether the row of a lot is of a trade's position
abbrev pub at_place : TradeRow → HoldingRow → Bool
at_place r h = (h.account == r.account) && bytes_eq h.symbol r.symbol

-- whether it is of one of some positions
abbrev pub at_any : List TradeRow → HoldingRow → Bool
at_any rs h = list_any (λ r. at_place r h) rs

record IsAt (r : TradeRow) (h : HoldingRow) : Type 0 where
  account : h.account ≡ r.account
  symbol : h.symbol ≡ r.symbol

is_at : (r : TradeRow) (h : HoldingRow) → at_place r h ≡ true → IsAt r h
is_at r h e =
    let k = and_parts (h.account == r.account) (bytes_eq h.symbol r.symbol) e in
    record { account = eqb-true h.account r.account k.0; symbol = (bytes_eq-Decides h.symbol r.symbol).0 k.1 }

at_it : (r : TradeRow) (h : HoldingRow) → IsAt r h → at_place r h ≡ true
at_it r h e = and_from (h.account == r.account) (bytes_eq h.symbol r.symbol) (eq-eqb h.account r.account e.account) ((bytes_eq-Decides h.symbol r.symbol).1 e.symbol)

-- a row is of two positions only where these are one
two_places : (r s : TradeRow) (h : HoldingRow) → at_place r h ≡ true → at_place s h ≡ true → has_same_position r s ≡ true
two_places r s h e f =
    let k = is_at r h e in
    let l = is_at s h f in
    one_place r s (record { account = sym k.account ∙ l.account; symbol = sym k.symbol ∙ l.symbol })

along : (r s : TradeRow) (h : HoldingRow) → has_same_position r s ≡ true → at_place s h ≡ true → at_place r h ≡ true
along r s h e f =
    let k = at_one r s e in
    let l = is_at s h f in
    at_it r h (record { account = l.account ∙ sym k.account; symbol = l.symbol ∙ sym k.symbol })

-- ---- a position

rows_back : (r : TradeRow) (hs : List HoldingRow) → AllByRecursion (λ h. at_place r h ≡ true) hs → map (holding_row_in_position_of_trade r) (map abstract_lot (map lot_of_row hs)) ≡ hs
rows_back r [] p = refl
rows_back r (h ∷ hs) p = let k = is_at r h p.0 in λ i. record h { account = sym k.account i; symbol = sym k.symbol i } ∷ rows_back r hs p.1 i

-- what a position's deals leave is what the tables have of it
rows_there : (base : Base) → BooksInvariant base → (r : TradeRow) (run : List TradeRow) → map deal_of_completed_row run ≡ deals_of_position (completed_trades base) r.account r.symbol
    → holding_rows_left_by_trades r run ≡ holding_rows_of_position (sheets base) r.account r.symbol
unfolding shares_of_position
rows_there base books r run e =
    let P : List Lot = lots_of_position (sheets base) r.account r.symbol in
    ap (λ (ds : List Deal). map (holding_row_in_position_of_trade r) (lots_of_shares (replay ds))) e
    ∙ ap (λ (us : List Share). map (holding_row_in_position_of_trade r) (lots_of_shares us)) (sym (shares_read base r.account r.symbol books))
    ∙ ap (map (holding_row_in_position_of_trade r)) (lots_walk P (walk_of P (position_read base r.account r.symbol books)))
    ∙ rows_back r (holding_rows_of_position (sheets base) r.account r.symbol)
    (All-sort (λ h. at_place r h ≡ true) (is_row_key_less (λ h. number h.stamp ∷ number h.trade ∷ [])) (filter (at_place r) (sheets base).holdings) (all_pass (at_place r) (sheets base).holdings))

sum_there : (base : Base) (r : TradeRow) (f : HoldingRow → ℕ) → sum_by f (holding_rows_of_position (sheets base) r.account r.symbol) ≡ sum_by f (filter (at_place r) (sheets base).holdings)
sum_there base r f = sum_sort f (is_row_key_less (λ h. number h.stamp ∷ number h.trade ∷ [])) (filter (at_place r) (sheets base).holdings)

-- ---- position by position

any_append : {X : Type 0} (p : X → Bool) (xs ys : List X) → list_any p xs ≡ false → list_any p (xs ++ ys) ≡ list_any p ys
any_append p [] ys e = refl
any_append {X = X} p (x ∷ xs) ys e = by_test (p x) refl e (any_append p xs ys)
  where
    by_test : (b : Bool) → p x ≡ b → list_any p (x ∷ xs) ≡ false → (list_any p xs ≡ false → list_any p (xs ++ ys) ≡ list_any p ys) → list_any p (x ∷ xs ++ ys) ≡ list_any p ys
    by_test true f g ih = let k : true ≡ false = rw f at g in absurd (cc)
    by_test false f g ih = let k : list_any p xs ≡ false = rw f at g in rw f (ih k)

any_none : {X : Type 0} (p : X → Bool) (xs : List X) → AllByRecursion (λ x. p x ≡ false) xs → list_any p xs ≡ false
any_none p [] h = refl
any_none p (x ∷ xs) h = rw h.0 (any_none p xs h.1)

pub any_in : {X : Type 0} (p : X → Bool) (xs : List X) (x : X) → In x xs → p x ≡ true → list_any p xs ≡ true
any_in p [] x m e = absurd m
any_in p (y ∷ ys) x (inl k) e = let g : p y ≡ true = ap p (sym k) ∙ e in rw g refl
any_in {X = X} p (y ∷ ys) x (inr m) e = by_test (p y) refl (any_in p ys x m e)
  where
    by_test : (b : Bool) → p y ≡ b → list_any p ys ≡ true → list_any p (y ∷ ys) ≡ true
    by_test true f h = rw f refl
    by_test false f h = rw f h

-- a row is of the first position or of one behind it, and not of both
parted : (r : TradeRow) (run later : List TradeRow) (h : HoldingRow) (v : ℕ) → AllByRecursion (λ s. has_same_position r s ≡ true) run → AllByRecursion (λ s. has_same_position r s ≡ false) later
    → cond (at_any (r ∷ run ++ later) h) v 0 ≡ cond (at_place r h) v 0 + cond (at_any later h) v 0
parted r run later h v same apart = by_test (at_place r h) refl
  where
    none_later : at_place r h ≡ true → (s : TradeRow) → has_same_position r s ≡ false → (b : Bool) → at_place s h ≡ b → at_place s h ≡ false
    none_later e s n false f = f
    none_later e s n true f = let k : has_same_position r s ≡ true = two_places r s h e f in absurd (cc)

    none_run : at_place r h ≡ false → (s : TradeRow) → has_same_position r s ≡ true → (b : Bool) → at_place s h ≡ b → at_place s h ≡ false
    none_run e s n false f = f
    none_run e s n true f = let k : at_place r h ≡ true = along r s h n f in absurd (cc)

    by_test : (b : Bool) → at_place r h ≡ b → cond (at_any (r ∷ run ++ later) h) v 0 ≡ cond (at_place r h) v 0 + cond (at_any later h) v 0
    by_test true e =
        let k : at_any later h ≡ false = any_none (λ s. at_place s h) later (All-map later (λ s n. none_later e s n (at_place s h) refl) apart) in
        rw (k, e) (omega arith)
    by_test false e =
        let k : at_any (run ++ later) h ≡ at_any later h = any_append (λ s. at_place s h) run later (any_none (λ s. at_place s h) run (All-map run (λ s n. none_run e s n (at_place s h) refl) same)) in
        rw (e, k) (omega arith)

-- the deals of a position's trades, among others
pub deals_among : (r x : TradeRow) (run later : List TradeRow) → AllByRecursion (λ s. has_same_position r s ≡ true) run → has_same_position r x ≡ false
    → filter (has_same_position x) (r ∷ run ++ later) ≡ filter (has_same_position x) later
deals_among r x run later same n =
    filter-append (has_same_position x) (r ∷ run) later
    ∙ ap (λ (rs : List TradeRow). rs ++ filter (has_same_position x) later)
    (filter-none (has_same_position x) (r ∷ run) (All-map (r ∷ run) (λ s e. other s e (has_same_position x s) refl) (same_self r, same)))
  where
    other : (s : TradeRow) → has_same_position r s ≡ true → (b : Bool) → has_same_position x s ≡ b → has_same_position x s ≡ false
    other s e false f = f
    other s e true f =
        let k = at_one r s e in
        let l = at_one x s f in
        let m : has_same_position r x ≡ true = one_place r x (record { account = k.account ∙ sym l.account; symbol = k.symbol ∙ sym l.symbol }) in
        absurd (cc)

pub own_run : (r : TradeRow) (run later : List TradeRow) → AllByRecursion (λ s. has_same_position r s ≡ true) run
    → AllByRecursion (λ s. has_same_position r s ≡ false) later → filter (has_same_position r) (r ∷ run ++ later) ≡ r ∷ run
own_run r run later same apart =
    filter-append (has_same_position r) (r ∷ run) later
    ∙ (λ i. filter-all (has_same_position r) (r ∷ run) (same_self r, same) i ++ filter-none (has_same_position r) later apart i)
    ∙ append_nil (r ∷ run)
  where
    append_nil : {X : Type 0} (xs : List X) → xs ++ [] ≡ xs
    append_nil [] = refl
    append_nil (x ∷ xs) = ap (λ ys. x ∷ ys) (append_nil xs)

-- the base has the same deals of each position
abbrev pub AreDealt : Base → List TradeRow → Type 0
AreDealt base rs = AllByRecursion (λ r. map deal_of_completed_row (filter (has_same_position r) rs) ≡ deals_of_position (completed_trades base) r.account r.symbol) rs

pub leave_sums : (base : Base) → BooksInvariant base → {rs : List TradeRow} {rows : List HoldingRow} → AreLotsLeftByTrades rs rows → AreDealt base rs
    → (f : HoldingRow → ℕ) → sum_by f rows ≡ sum_by f (filter (at_any rs) (sheets base).holdings)
leave_sums base books nothing d f = sym (ap (sum_by f) (filter-none (at_any []) (sheets base).holdings (All-of (sheets base).holdings (λ h. refl))))
leave_sums base books (position r run later rows same apart l) d f =
    let E : List HoldingRow = (sheets base).holdings in
    let here : sum_by f (holding_rows_left_by_trades r (r ∷ run)) ≡ sum_by f (filter (at_place r) E) =
    ap (sum_by f) (rows_there base books r (r ∷ run) (ap (map deal_of_completed_row) (sym (own_run r run later same apart)) ∙ d.0)) ∙ sum_there base r f in
    let rest : AreDealt base later =
    both later apart (all_back (λ s. map deal_of_completed_row (filter (has_same_position s) (r ∷ run ++ later)) ≡ deals_of_position (completed_trades base) s.account s.symbol) run later d.1) in
    let ih : sum_by f rows ≡ sum_by f (filter (at_any later) E) = leave_sums base books l rest f in
    sum_append f (holding_rows_left_by_trades r (r ∷ run)) rows ∙ (λ i. here i + ih i)
    ∙ (λ i. sum_filter f (at_place r) E i + sum_filter f (at_any later) E i)
    ∙ sym (sum_both (λ h. cond (at_place r h) (f h) 0) (λ h. cond (at_any later h) (f h) 0) E)
    ∙ sym (sum_same (λ h. cond (at_any (r ∷ run ++ later) h) (f h) 0) (λ h. cond (at_place r h) (f h) 0 + cond (at_any later h) (f h) 0) E (All-of E (λ h. parted r run later h (f h) same apart)))
    ∙ sym (sum_filter f (at_any (r ∷ run ++ later)) E)
  where
    both : (ss : List TradeRow) → AllByRecursion (λ s. has_same_position r s ≡ false) ss
        → AllByRecursion (λ s. map deal_of_completed_row (filter (has_same_position s) (r ∷ run ++ later))
        ≡ deals_of_position (completed_trades base) s.account s.symbol) ss
        → AllByRecursion (λ s. map deal_of_completed_row (filter (has_same_position s) later) ≡ deals_of_position (completed_trades base) s.account s.symbol) ss
    both [] a e = tt
    both (s ∷ ss) a e = (ap (map deal_of_completed_row) (sym (deals_among r s run later same a.0)) ∙ e.0, both ss a.1 e.1)
