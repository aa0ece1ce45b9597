-- The results of the reads of trades by stamp.
use Rattle.std.proofs.Common.{◌≡◌, ℕ, List, [], ◌∷◌, Bool, true, false, not, cond, ◌&&◌, ◌||◌, map, filter, take, ◌==◌, Ordering, Less, Equal, Greater, is_eq, Some, refl, sym, ap, ◌∙◌, arith}
use Rattle.std.specs.Prelude.{bytes_eq, nat_le, nat_lt}
use Rattle.std.specs.Ordering.{ordering_then}
use Rattle.std.proofs.lemmas.Bool.Decides.{nat_tests}
use Rattle.sqlite_value.specs.declared.value.Value.TheVariants.{Text as Words}
use Rattle.sqlite_value.specs.Order.{Row, value_cmp}
use Rattle.sqlite_keyed.specs.Lists.{sort_by}
use Rattle.sqlite.specs.State.{State, Shown}
use Rattle.brk_model.specs.Joins.{trade_rows_oldest_first, trade_rows_of_account}
use Rattle.brk_model.specs.Keys.{KeyPart, number, rows_sorted_by_key, insert_row_by_key}
use Rattle.brk_model.specs.Lists as model
use Rattle.brk_model.specs.LookupView.{row_stamp_is_between}
use Rattle.brk_model.specs.Tables.{TradeRow}
use Rattle.brk_tables_sql.specs.Desk.{TablesSatisfy}
use Rattle.brk_tables_sql.proofs.Answer.{limited_map}
use Rattle.brk_tables_sql.proofs.Told.{told_sorted}
use Rattle.brk_tables_schema.specs.Cells.{natural_as_value, trade_cells}
use Rattle.brk_tables_schema.specs.Desk.{Trades, desk_tables}
use Rattle.brk_tables_schema.specs.Order.{ordering_by_key}
use Rattle.brk_tables_schema.proofs.Compared.{at_least, at_most}
use Rattle.brk_tables_schema.proofs.Order.{key_total, inserted}
use Rattle.brk_tables_schema.proofs.Tests.{same_number, same_text}
use Rattle.brk_tables_views.proofs.FirstSince
use Rattle.brk_tables_views.proofs.TwentyOfAccount
use Rattle.brk_tables_views.proofs.TwentyOfSymbol

-- ---- the oldest trades first

-- the moment of a trade, and then its id
abbrev pub trade_age : TradeRow → List KeyPart
trade_age r = number r.stamp ∷ number r.id ∷ []

abbrev pub rising : TradeRow → TradeRow → Ordering
rising = ordering_by_key trade_age

by_numbers : (m n j k : ℕ) → nat_lt m n || ((m == n) && nat_lt j k) ≡ nat_lt m n || (not (nat_lt n m) && (nat_lt j k || (not (nat_lt k j) && false)))
by_numbers m n j k = grind (arith, nat_tests)

-- the order of the model and that of the database are one
sorted : {X : Type 0} (key : X → List KeyPart) (xs : List X) → rows_sorted_by_key key xs ≡ sort_by (ordering_by_key key) xs
unfolding Rattle.brk_model.specs.Lists.sort_by
sorted key [] = refl
sorted key (x ∷ xs) = ap (insert_row_by_key key x) (sorted key xs) ∙ inserted key x (sort_by (ordering_by_key key) xs)

pub oldest_are : (rows : List TradeRow) → trade_rows_oldest_first rows ≡ sort_by rising rows
oldest_are rows = (λ i. model.sort_by (λ (a b : TradeRow). by_numbers a.stamp b.stamp a.id b.id i) rows) ∙ sorted trade_age rows

-- trades of one moment and one id are one
pub second : (a b : Ordering) → is_eq (ordering_then a b) ≡ true → is_eq b ≡ true
second Less b h = absurd (let f = h in cc)
second Equal b h = h
second Greater b h = absurd (let f = h in cc)

-- the first of those that are shown are the first of those that there are
first_shown : (n : ℕ) (rows : List TradeRow) → take n (map trade_cells (sort_by rising rows)) ≡ map trade_cells (take n (trade_rows_oldest_first rows))
first_shown n rows = limited_map trade_cells (Some n) (sort_by rising rows) ∙ ap (λ rs. map trade_cells (take n rs)) (sym (oldest_are rows))

-- ---- between two stamps

pub tells_twenty_of_account : (old new : State) (account first last : ℕ) (rows : List Row)
    → Shown TwentyOfAccount.statement (natural_as_value account ∷ natural_as_value first ∷ natural_as_value last ∷ []) old new rows
    → TablesSatisfy desk_tables (λ t. rows ≡ map trade_cells (take 20 (trade_rows_oldest_first (filter (λ r. (r.account == account) && row_stamp_is_between first last r) t.trades)))) old.now
tells_twenty_of_account old new account first last rows shown = λ t tree h.
    let test : TradeRow → Bool = λ r. (r.account == account) && row_stamp_is_between first last r in
    let params : Row = natural_as_value account ∷ natural_as_value first ∷ natural_as_value last ∷ [] in
    told_sorted desk_tables Trades TwentyOfAccount.statement TwentyOfAccount.ask TwentyOfAccount.paging TwentyOfAccount.is_asked params
    test (λ tree x. rw (same_number x.account account, at_least x.stamp first, at_most x.stamp last) refl)
    trade_cells (λ x. refl) rising (key_total trade_age) (λ tree x y. refl) old new rows shown (λ x y e. second (value_cmp (natural_as_value x.stamp) (natural_as_value y.stamp)) _ e) t tree h
    ∙ first_shown 20 (filter test t.trades)

pub tells_twenty_of_symbol : (old new : State) (symbol : List ℕ) (first last : ℕ) (rows : List Row)
    → Shown TwentyOfSymbol.statement (Words symbol ∷ natural_as_value first ∷ natural_as_value last ∷ []) old new rows
    → TablesSatisfy desk_tables (λ t. rows ≡ map trade_cells (take 20 (trade_rows_oldest_first (filter (λ r. bytes_eq r.symbol symbol && row_stamp_is_between first last r) t.trades)))) old.now
tells_twenty_of_symbol old new symbol first last rows shown = λ t tree h.
    let test : TradeRow → Bool = λ r. bytes_eq r.symbol symbol && row_stamp_is_between first last r in
    let params : Row = Words symbol ∷ natural_as_value first ∷ natural_as_value last ∷ [] in
    told_sorted desk_tables Trades TwentyOfSymbol.statement TwentyOfSymbol.ask TwentyOfSymbol.paging TwentyOfSymbol.is_asked params
    test (λ tree x. rw (same_text x.symbol symbol, at_least x.stamp first, at_most x.stamp last) refl)
    trade_cells (λ x. refl) rising (key_total trade_age) (λ tree x y. refl) old new rows shown (λ x y e. second (value_cmp (natural_as_value x.stamp) (natural_as_value y.stamp)) _ e) t tree h
    ∙ first_shown 20 (filter test t.trades)

-- ---- at or after a stamp

-- what passes one test of what passes another passes both
filter_twice : {X : Type 0} (p q : X → Bool) (xs : List X) → filter (λ x. q x && p x) xs ≡ filter p (filter q xs)
filter_twice p q [] = refl
filter_twice {X} p q (x ∷ xs) = by_test (q x) (filter_twice p q xs)
  where
    by_test : (b : Bool) → filter (λ x. q x && p x) xs ≡ filter p (filter q xs)
        → cond (b && p x) (x ∷ filter (λ x. q x && p x) xs) (filter (λ x. q x && p x) xs) ≡ filter p (cond b (x ∷ filter q xs) (filter q xs))
    by_test true h = ap (λ ys. cond (p x) (x ∷ ys) ys) h
    by_test false h = h

pub tells_first_since : (old new : State) (account first : ℕ) (rows : List Row) → Shown FirstSince.statement (natural_as_value account ∷ natural_as_value first ∷ []) old new rows
    → TablesSatisfy desk_tables (λ t. rows ≡ map trade_cells (take 1 (trade_rows_oldest_first (filter (λ r. nat_le first r.stamp) (trade_rows_of_account t account))))) old.now
tells_first_since old new account first rows shown = λ t tree h.
    let test : TradeRow → Bool = λ r. (r.account == account) && nat_le first r.stamp in
    let params : Row = natural_as_value account ∷ natural_as_value first ∷ [] in
    told_sorted desk_tables Trades FirstSince.statement FirstSince.ask FirstSince.paging FirstSince.is_asked params
    test (λ tree x. rw (same_number x.account account, at_least x.stamp first) refl)
    trade_cells (λ x. refl) rising (key_total trade_age) (λ tree x y. refl) old new rows shown (λ x y e. second (value_cmp (natural_as_value x.stamp) (natural_as_value y.stamp)) _ e) t tree h
    ∙ first_shown 1 (filter test t.trades)
    ∙ ap (λ (rs : List TradeRow). map trade_cells (take 1 (trade_rows_oldest_first rs))) (filter_twice (λ (r : TradeRow). nat_le first r.stamp) (λ (r : TradeRow). r.account == account) t.trades)
