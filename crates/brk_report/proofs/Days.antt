-- A walk from one stamp to another passes the rows of the days between them.
use Rattle.std.proofs.Common.{◌≡◌, ℕ, ◌+◌, ◌*◌, ◌/◌, ◌<◌, ◌≤◌, ◌&&◌, Bool, true, false, cond, List, [], ◌∷◌, ◌++◌, filter, arith, refl, sym, ap, ◌∙◌}
use Rattle.std.specs.Prelude.{nat_le, nat_lt}
use Rattle.std.specs.List.{AllByRecursion}
use Rattle.std.proofs.lemmas.Bool.{le-leb, leb-true, lt-ltb, ltb-true, ltb-false}
use Rattle.std.proofs.lemmas.Bool.Decides.{nat_tests}
use Rattle.brk_trade_books.proofs.Order.{Sorted, nat_one_way, nat_splits, sorted_sort}
use Rattle.brk_money.specs.Moments.{day_of}
use Rattle.brk_model.specs.Limits.{is_in_range}
use Rattle.brk_model.specs.Joins.{cash_move_rows_of_account}
use Rattle.brk_model.specs.Statement.{cash_move_rows_before_day, sorted_cash_rows_of_account, cash_move_rows_within_days}
use Rattle.brk_model.specs.Tables.{CashRow, Tables}
use Rattle.brk_store.specs.Walked.{cash_rows_in_span}
use Rattle.brk_report_lines.proofs.DayStamps.{within_days}
use Rattle.brk_report.proofs.CashLists.{AreBefore, AreNotBefore}

pub rows_within : (t : Tables) (account from to first last : ℕ) → first ≡ from * 86400000 → last ≡ to * 86400000 + 86399999
    → cash_rows_in_span account first last t ≡ cash_move_rows_within_days from to (sorted_cash_rows_of_account t account)
rows_within t account from to first last f l = (λ i. cash_rows_in_span account (f i) (l i) t)
    ∙ (λ i. filter (λ (row : CashRow). within_days from to row.stamp i) (sorted_cash_rows_of_account t account))

-- ---- the rows before a day, and those from it on

-- What follows from a test holds of each row that passes it.
passing : {X : Type 0} (p : X → Bool) (Q : X → Type 0) → ((x : X) → p x ≡ true → Q x) → (xs : List X) → AllByRecursion Q (filter p xs)
passing p Q f [] = tt
passing p Q f (x ∷ xs) = by_test (passing p Q f xs) (p x) refl
  where
    by_test : AllByRecursion Q (filter p xs) → (b : Bool) → p x ≡ b → AllByRecursion Q (cond b (x ∷ filter p xs) (filter p xs))
    by_test more true e = (f x e, more)
    by_test more false e = more

left_of_and : (a b : Bool) → a && b ≡ true → a ≡ true
left_of_and true b e = refl
left_of_and false b e = e

not_less : (a b : ℕ) → b ≤ a → nat_lt a b ≡ false
not_less a b h = grind (arith, nat_tests)

not_at_most : (a b : ℕ) → b < a → nat_le a b ≡ false
not_at_most a b h = grind (arith, nat_tests)

-- A row before a day has a stamp before the first stamp of the day.
early_stamp : (from stamp first : ℕ) → first ≡ from * 86400000 → nat_lt (day_of stamp) from ≡ true → nat_lt stamp first ≡ true
early_stamp from stamp first f e = lt-ltb stamp first (omega (arith, f, ltb-true (stamp / 86400000) from e))

late_stamp : (from to stamp first : ℕ) → first ≡ from * 86400000 → is_in_range from to (day_of stamp) ≡ true → nat_lt stamp first ≡ false
late_stamp from to stamp first f e =
    not_less stamp first (omega (arith, f, leb-true from (stamp / 86400000) (left_of_and (nat_le from (day_of stamp)) (nat_le (day_of stamp) to) e)))

pub before_first : (from first : ℕ) (rows : List CashRow) → first ≡ from * 86400000 → AreBefore first (cash_move_rows_before_day from rows)
before_first from first rows f = passing (λ (r : CashRow). nat_lt (day_of r.stamp) from) (λ r. nat_lt r.stamp first ≡ true) (λ r e. early_stamp from r.stamp first f e) rows

pub not_before_first : (from to first : ℕ) (rows : List CashRow) → first ≡ from * 86400000 → AreNotBefore first (cash_move_rows_within_days from to rows)
not_before_first from to first rows f = passing (λ (r : CashRow). is_in_range from to (day_of r.stamp)) (λ r. nat_lt r.stamp first ≡ false) (λ r e. late_stamp from to r.stamp first f e) rows

module _ (from to last : ℕ) (span : from ≤ to) (l : last ≡ to * 86400000 + 86399999) where
  -- A row up to the last stamp, of a day before the first, or within the days.
  abbrev up_to : CashRow → Bool
  up_to r = is_in_range 0 last r.stamp

  abbrev early : CashRow → Bool
  early r = nat_lt (day_of r.stamp) from

  abbrev within : CashRow → Bool
  within r = is_in_range from to (day_of r.stamp)

  early_up_to : (r : CashRow) → early r ≡ true → up_to r ≡ true
  early_up_to r e =
      let day : r.stamp / 86400000 < from = ltb-true (r.stamp / 86400000) from e in
      let low : nat_le 0 r.stamp ≡ true = le-leb 0 r.stamp (omega arith) in
      let high : nat_le r.stamp last ≡ true = le-leb r.stamp last (omega arith) in
      λ i. low i && high i

  early_not_within : (r : CashRow) → early r ≡ true → within r ≡ false
  early_not_within r e = ap (λ b. b && nat_le (day_of r.stamp) to) (not_at_most from (day_of r.stamp) (ltb-true (r.stamp / 86400000) from e))

  late_same : (r : CashRow) → early r ≡ false → up_to r ≡ within r
  late_same r e =
      let day : from ≤ r.stamp / 86400000 = ltb-false (r.stamp / 86400000) from e in
      let low : nat_le 0 r.stamp ≡ nat_le (from * 86400000) r.stamp = le-leb 0 r.stamp (omega arith) ∙ sym (le-leb (from * 86400000) r.stamp (omega arith)) in
      (λ i. low i && nat_le r.stamp (l i)) ∙ within_days from to r.stamp

  all_late : (x : CashRow) (rows : List CashRow) → early x ≡ false → AllByRecursion (λ y. nat_lt y.stamp x.stamp ≡ false) rows → AllByRecursion (λ y. early y ≡ false) rows
  all_late x [] e h = tt
  all_late x (y ∷ rows) e h = (later x.stamp y.stamp e h.0, all_late x rows e h.1)
    where
      later : (a b : ℕ) → nat_lt (day_of a) from ≡ false → nat_lt b a ≡ false → nat_lt (day_of b) from ≡ false
      later a b e f = not_less (b / 86400000) from (omega (arith, ltb-false (a / 86400000) from e, ltb-false b a f))

  none_early : (rows : List CashRow) → AllByRecursion (λ y. early y ≡ false) rows → filter early rows ≡ []
  none_early [] h = refl
  none_early (y ∷ rows) h = rw h.0 (none_early rows h.1)

  same_late : (rows : List CashRow) → AllByRecursion (λ y. early y ≡ false) rows → filter up_to rows ≡ filter within rows
  same_late [] h = refl
  same_late (y ∷ rows) h = λ i. cond (late_same y h.0 i) (y ∷ same_late rows h.1 i) (same_late rows h.1 i)

  split : (rows : List CashRow) → Sorted (λ x y. nat_lt x.stamp y.stamp) rows → filter up_to rows ≡ filter early rows ++ filter within rows
  split [] h = refl
  split (x ∷ rows) h = by_test (split rows h.1) (early x) refl
    where
      by_test : filter up_to rows ≡ filter early rows ++ filter within rows → (b : Bool) → early x ≡ b
          → filter up_to (x ∷ rows) ≡ cond b (x ∷ filter early rows) (filter early rows) ++ filter within (x ∷ rows)
      by_test more true e =
          (λ i. cond (early_up_to x e i) (x ∷ filter up_to rows) (filter up_to rows)) ∙ ap (λ (l : List CashRow). x ∷ l) more
          ∙ (λ i. x ∷ (filter early rows ++ cond (sym (early_not_within x e) i) (x ∷ filter within rows) (filter within rows)))
      by_test more false e =
          let later = all_late x rows e h.0 in
          same_late (x ∷ rows) (e, later) ∙ (λ i. sym (none_early rows later) i ++ filter within (x ∷ rows))

-- The rows of an account up to the last stamp of a day are those before the first day, and those of
-- the days after them.
pub rows_up_to : (t : Tables) (account from to last : ℕ) → from ≤ to → last ≡ to * 86400000 + 86399999
    → cash_rows_in_span account 0 last t ≡ cash_move_rows_before_day from (sorted_cash_rows_of_account t account) ++ cash_move_rows_within_days from to (sorted_cash_rows_of_account t account)
rows_up_to t account from to last span l =
    split from to last span l (sorted_cash_rows_of_account t account)
    (sorted_sort (λ (x y : CashRow). nat_lt x.stamp y.stamp) (cash_move_rows_of_account t account) (λ x y w. nat_splits x.stamp y.stamp w.stamp) (λ x y. nat_one_way x.stamp y.stamp))
