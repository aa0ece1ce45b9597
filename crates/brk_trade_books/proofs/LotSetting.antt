-- The quantities of lots set in any order.
use Rattle.std.proofs.Common.{◌≡◌, ◌⊎◌, inl, inr, ℕ, ◌==◌, Bool, true, false, not, cond, List, [], ◌∷◌, refl, sym, ◌∙◌, ap, map, filter, ℤ}
use Rattle.std.specs.Prelude.{fold}
use Rattle.std.specs.List.{AllByRecursion}
use Rattle.brk_model.specs.Lists.{is_zero, update_where}
use Rattle.brk_model.specs.Records.{Trade}
use Rattle.brk_model.specs.Base.{last_status_stamp_of_trade, completion_price}
use Rattle.brk_model.specs.Shares.{Touch}
use Rattle.brk_model.specs.Tables.{HoldingRow}
use Rattle.brk_trade_books.proofs.Same.{All-map}
use Rattle.brk_trade_books.proofs.LotReading.{is_left}
use Rattle.brk_trade_books.proofs.LotOrder.{both_hold}

-- ---- rows with other quantities

-- the lot of a trade, with a quantity
abbrev pub row_with : (Trade → ℤ) → Trade → HoldingRow
row_with g v = record { trade = v.id; account = v.account; symbol = v.symbol; stamp = last_status_stamp_of_trade v; price = completion_price v; qty = g v }

abbrev pub rows_with : (Trade → ℤ) → List Trade → List HoldingRow
rows_with g ts = filter is_left (map (row_with g) ts)

-- what a touch leaves of a lot, among others
abbrev pub set_lot : Touch → List HoldingRow → List HoldingRow
set_lot touch rows =
    cond (is_zero touch.after) (filter (λ r. not (r.trade == touch.lot)) rows) (update_where (λ r. r.trade == touch.lot) (λ r. record r { qty = touch.after }) rows)

-- the quantities with that of one lot set
abbrev qty_set : ℕ → ℤ → (Trade → ℤ) → Trade → ℤ
qty_set n q g v = cond (v.id == n) q (g v)

abbrev told : (Trade → ℤ) → Trade → ℤ → List HoldingRow → List HoldingRow
told g v q rows = cond (not (is_zero q)) (record (row_with g v) { qty = q } ∷ rows) rows

lot_gone : (n : ℕ) (q : ℤ) (g : Trade → ℤ) (ts : List Trade) → is_zero q ≡ true → filter (λ r. not (r.trade == n)) (rows_with g ts) ≡ rows_with (qty_set n q g) ts
lot_gone n q g [] z = refl
lot_gone n q g (v ∷ ts) z = by_test (v.id == n) (is_zero (g v)) refl refl (lot_gone n q g ts z)
  where
    P : HoldingRow → Bool
    P r = not (r.trade == n)

    R : List HoldingRow
    R = rows_with g ts

    R' : List HoldingRow
    R' = rows_with (qty_set n q g) ts

    row : HoldingRow
    row = row_with g v

    front : (y : Bool) → is_zero (g v) ≡ y → filter P (rows_with g (v ∷ ts)) ≡ filter P (cond (not y) (row ∷ R) R)
    front y f = ap (λ y. filter P (cond (not y) (row ∷ R) R)) f

    after : (b : Bool) → (v.id == n) ≡ b → told g v (cond b q (g v)) R' ≡ rows_with (qty_set n q g) (v ∷ ts)
    after b e = sym (ap (λ b. told g v (cond b q (g v)) R') e)

    none : told g v q R' ≡ R'
    none = ap (λ z. cond (not z) (record row { qty = q } ∷ R') R') z

    by_test : (b y : Bool) → (v.id == n) ≡ b → is_zero (g v) ≡ y → filter P R ≡ R' → filter P (rows_with g (v ∷ ts)) ≡ rows_with (qty_set n q g) (v ∷ ts)
    by_test true true e f ih = front true f ∙ ih ∙ sym none ∙ after true e
    by_test true false e f ih = front false f ∙ ap (λ b. cond (not b) (row ∷ filter P R) (filter P R)) e ∙ ih ∙ sym none ∙ after true e
    by_test false true e f ih = front true f ∙ ih ∙ sym (ap (λ y. cond (not y) (row ∷ R') R') f) ∙ after false e
    by_test false false e f ih =
        front false f ∙ ap (λ b. cond (not b) (row ∷ filter P R) (filter P R)) e ∙ ap (λ rows. row ∷ rows) ih
        ∙ sym (ap (λ y. cond (not y) (row ∷ R') R') f) ∙ after false e

lot_moved : (n : ℕ) (q : ℤ) (g : Trade → ℤ) (ts : List Trade) → is_zero q ≡ false → AllByRecursion (λ v. (v.id == n) ≡ true → is_zero (g v) ≡ true → is_zero q ≡ true) ts
    → update_where (λ r. r.trade == n) (λ r. record r { qty = q }) (rows_with g ts) ≡ rows_with (qty_set n q g) ts
lot_moved n q g [] z h = refl
lot_moved n q g (v ∷ ts) z h = by_test (v.id == n) (is_zero (g v)) refl refl (lot_moved n q g ts z h.1)
  where
    U : List HoldingRow → List HoldingRow
    U rows = update_where (λ r. r.trade == n) (λ r. record r { qty = q }) rows

    R : List HoldingRow
    R = rows_with g ts

    R' : List HoldingRow
    R' = rows_with (qty_set n q g) ts

    row : HoldingRow
    row = row_with g v

    front : (y : Bool) → is_zero (g v) ≡ y → U (rows_with g (v ∷ ts)) ≡ U (cond (not y) (row ∷ R) R)
    front y f = ap (λ y. U (cond (not y) (row ∷ R) R)) f

    after : (b : Bool) → (v.id == n) ≡ b → told g v (cond b q (g v)) R' ≡ rows_with (qty_set n q g) (v ∷ ts)
    after b e = sym (ap (λ b. told g v (cond b q (g v)) R') e)

    some : told g v q R' ≡ record row { qty = q } ∷ R'
    some = ap (λ z. cond (not z) (record row { qty = q } ∷ R') R') z

    by_test : (b y : Bool) → (v.id == n) ≡ b → is_zero (g v) ≡ y → U R ≡ R' → U (rows_with g (v ∷ ts)) ≡ rows_with (qty_set n q g) (v ∷ ts)
    by_test true true e f ih = let k : true ≡ false = sym (h.0 e f) ∙ z in absurd (cc)
    by_test true false e f ih = front false f ∙ (λ i. cond (e i) (record row { qty = q }) row ∷ ih i) ∙ sym some ∙ after true e
    by_test false true e f ih = front true f ∙ ih ∙ sym (ap (λ y. cond (not y) (row ∷ R') R') f) ∙ after false e
    by_test false false e f ih =
        front false f ∙ (λ i. cond (e i) (record row { qty = q }) row ∷ ih i) ∙ sym (ap (λ y. cond (not y) (row ∷ R') R') f) ∙ after false e

lot_set : (touch : Touch) (g : Trade → ℤ) (ts : List Trade) → AllByRecursion (λ v. (v.id == touch.lot) ≡ true → is_zero (g v) ≡ true → is_zero touch.after ≡ true) ts
    → set_lot touch (rows_with g ts) ≡ rows_with (qty_set touch.lot touch.after g) ts
lot_set touch g ts h = by_test (is_zero touch.after) refl
  where
    F : List HoldingRow
    F = filter (λ r. not (r.trade == touch.lot)) (rows_with g ts)

    U : List HoldingRow
    U = update_where (λ r. r.trade == touch.lot) (λ r. record r { qty = touch.after }) (rows_with g ts)

    by_test : (b : Bool) → is_zero touch.after ≡ b → set_lot touch (rows_with g ts) ≡ rows_with (qty_set touch.lot touch.after g) ts
    by_test true e = ap (λ b. cond b F U) e ∙ lot_gone touch.lot touch.after g ts e
    by_test false e = ap (λ b. cond b F U) e ∙ lot_moved touch.lot touch.after g ts e h

-- ---- all touched lots, in whatever order

-- a touch leaves what is there in the end, of a lot that is there
abbrev pub Fits : (Trade → ℤ) → (Trade → ℤ) → List Trade → Touch → Type 0
Fits before after ts touch = AllByRecursion (λ v. (v.id == touch.lot) ≡ true → (touch.after ≡ after v) × (is_zero (before v) ≡ false)) ts

-- each quantity is as it was or as it is in the end
abbrev pub Between : (Trade → ℤ) → (Trade → ℤ) → (Trade → ℤ) → List Trade → Type 0
Between before after g ts = AllByRecursion (λ v. (g v ≡ before v) ⊎ (g v ≡ after v)) ts

-- none of the touches is of the lot
abbrev pub Untouched : List Touch → ℕ → Type 0
Untouched touched n = AllByRecursion (λ touch. (n == touch.lot) ≡ false) touched

-- what no touch to come is of is as it is in the end
abbrev pub Settled : (Trade → ℤ) → (Trade → ℤ) → List Trade → List Touch → Type 0
Settled after g ts touched = AllByRecursion (λ v. Untouched touched v.id → g v ≡ after v) ts

set_between : (before after g : Trade → ℤ) (touch : Touch) (v : Trade) → ((v.id == touch.lot) ≡ true → (touch.after ≡ after v) × (is_zero (before v) ≡ false))
    → (g v ≡ before v) ⊎ (g v ≡ after v) → (qty_set touch.lot touch.after g v ≡ before v) ⊎ (qty_set touch.lot touch.after g v ≡ after v)
set_between before after g touch v k s = by_test (v.id == touch.lot) refl s
  where
    by_test : (b : Bool) → (v.id == touch.lot) ≡ b → (g v ≡ before v) ⊎ (g v ≡ after v) → (qty_set touch.lot touch.after g v ≡ before v) ⊎ (qty_set touch.lot touch.after g v ≡ after v)
    by_test true e s = inr (ap (λ b. cond b touch.after (g v)) e ∙ (k e).0)
    by_test false e (inl a) = inl (ap (λ b. cond b touch.after (g v)) e ∙ a)
    by_test false e (inr a) = inr (ap (λ b. cond b touch.after (g v)) e ∙ a)

none_lost : (before after g : Trade → ℤ) (touch : Touch) (v : Trade) → (g v ≡ before v) ⊎ (g v ≡ after v) → ((v.id == touch.lot) ≡ true → (touch.after ≡ after v) × (is_zero (before v) ≡ false))
    → (v.id == touch.lot) ≡ true → is_zero (g v) ≡ true → is_zero touch.after ≡ true
none_lost before after g touch v (inl a) k e z = let j : true ≡ false = sym z ∙ ap is_zero a ∙ (k e).1 in absurd (cc)
none_lost before after g touch v (inr a) k e z = ap is_zero ((k e).0 ∙ sym a) ∙ z

set_settled : (after g : Trade → ℤ) (touch : Touch) (touched : List Touch) (v : Trade) → ((v.id == touch.lot) ≡ true → touch.after ≡ after v)
    → (Untouched (touch ∷ touched) v.id → g v ≡ after v) → Untouched touched v.id → qty_set touch.lot touch.after g v ≡ after v
set_settled after g touch touched v k s w = by_test (v.id == touch.lot) refl
  where
    by_test : (b : Bool) → (v.id == touch.lot) ≡ b → qty_set touch.lot touch.after g v ≡ after v
    by_test true e = ap (λ b. cond b touch.after (g v)) e ∙ k e
    by_test false e = ap (λ b. cond b touch.after (g v)) e ∙ s (e, w)

all_rows : (g h : Trade → ℤ) (ts : List Trade) → AllByRecursion (λ v. g v ≡ h v) ts → rows_with g ts ≡ rows_with h ts
all_rows g h [] e = refl
all_rows g h (v ∷ ts) e = λ i. cond (not (is_zero (e.0 i))) (record (row_with g v) { qty = e.0 i } ∷ all_rows g h ts e.1 i) (all_rows g h ts e.1 i)

abbrev pub set_lots : List Touch → List HoldingRow → List HoldingRow
set_lots touched rows = fold (λ rows touch. set_lot touch rows) rows touched

pub all_set : (before after : Trade → ℤ) (touched : List Touch) (g : Trade → ℤ) (ts : List Trade) → AllByRecursion (Fits before after ts) touched
    → Between before after g ts → Settled after g ts touched → set_lots touched (rows_with g ts) ≡ rows_with after ts
all_set before after [] g ts f b s = all_rows g after ts (All-map ts (λ v k. k tt) s)
all_set before after (touch ∷ touched) g ts f b s =
    let B : Trade → Type 0 = λ v. (g v ≡ before v) ⊎ (g v ≡ after v) in
    let F : Trade → Type 0 = λ v. (v.id == touch.lot) ≡ true → (touch.after ≡ after v) × (is_zero (before v) ≡ false) in
    let S : Trade → Type 0 = λ v. Untouched (touch ∷ touched) v.id → g v ≡ after v in
    ap (set_lots touched) (lot_set touch g ts (All-map ts (λ v k. none_lost before after g touch v k.0 k.1) (both_hold B F ts b f.0)))
    ∙ all_set before after touched (qty_set touch.lot touch.after g) ts f.1
    (All-map ts (λ v k. set_between before after g touch v k.1 k.0) (both_hold B F ts b f.0))
    (All-map ts (λ v k. set_settled after g touch touched v (λ e. (k.0 e).0) k.1) (both_hold F S ts f.0 s))
