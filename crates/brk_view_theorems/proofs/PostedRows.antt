-- All cash rows of an account are printed, and its assets are its balance and its holdings.
use Rattle.std.proofs.Common.{◌≡◌, ◌≤◌, ℕ, ◌+◌, ◌/◌, ◌==◌, ◌&&◌, Bool, true, List, [], ◌∷◌, Option, Some, None, sym, ◌∙◌, ap, subst, map, filter, arith, ◌+ℤ◌}
use Rattle.std.specs.Prelude.{IfSome, nat_le, nat_lt}
use Rattle.std.specs.List.{AllByRecursion}
use Rattle.std.proofs.lemmas.Bool.{eqb-true}
use Rattle.std.proofs.lemmas.Bool.Decides.{nat_tests}
use Rattle.brk_money.specs.Moments.{day_of, greatest_day, greatest_stamp}
use Rattle.brk_model.specs.Base.{Base, completed_trades, last_status_stamp_of_trade}
use Rattle.brk_model.specs.Derived.{Posting, cash_trades, postings_sorted_by_stamp, posting_of_movement, posting_of_trade, postings_of_base}
use Rattle.brk_model.specs.Joins.{account_row_with_id}
use Rattle.brk_model.specs.Orders.{assets_of_account}
use Rattle.brk_model.specs.Records.{Movement, Trade}
use Rattle.brk_model.specs.Sheets.{sheets, tables_sorted_by_key}
use Rattle.brk_model.specs.Statement.{sorted_cash_rows_of_account}
use Rattle.brk_model.specs.Tables.{AccountRow, CashRow, SummaryRow, numbered_cash_move_rows, tables_of_base_in_schema}
use Rattle.brk_model_explain.specs.AccountLines.{priced_holding, account_cash_rows_by_stamp, market_value_of_holding}
use Rattle.brk_model_explain.specs.Running.{running_totals}
use Rattle.brk_trade_books.specs.Books.{BooksInvariant, TradeStampIsAtMostLastStamp, MovementStampIsAtMostLastStamp}
use Rattle.brk_trade_books.proofs.LotReading.{All-sort}
use Rattle.brk_trade_books.proofs.Places.{FoundAt, filter-all, find-at}
use Rattle.brk_trade_books.proofs.Postings.{numbered_stay}
use Rattle.brk_trade_books.proofs.Same.{All-append, All-filter, All-map, All-mapped}
use Rattle.brk_trade_books.proofs.SumReading.{total-map}
use Rattle.brk_trade_books.proofs.Worth.{reads_assets}
use Rattle.brk_view_theorems.specs.Balances.{PrintedAccountMatchesBase, last_number_or_default}
use Rattle.brk_view_theorems.proofs.BalanceSums.{last_is_balance}

-- ---- no stamp is after the last day

-- the day of the stamp is one of those of a statement over all days
abbrev on_some_day : ℕ → Bool
on_some_day n = nat_le 0 (day_of n) && nat_le (day_of n) greatest_day

days_end : (n : ℕ) → n ≤ greatest_stamp → n / 86400000 ≤ 2932896
days_end n h = omega (arith, h)

by_test : (m n : ℕ) → m ≤ n → nat_le 0 m && nat_le m n ≡ true
by_test m n h = grind (arith, nat_tests)

some_day : (n : ℕ) → n ≤ greatest_stamp → on_some_day n ≡ true
some_day n h = by_test (n / 86400000) 2932896 (days_end n h)

trade_in_time : (last : Option ℕ) → IfSome last (λ l. l ≤ greatest_stamp) → (t : Trade) → TradeStampIsAtMostLastStamp last t → last_status_stamp_of_trade t ≤ greatest_stamp
trade_in_time None c t e = absurd e
trade_in_time (Some l) c t e = let a : l ≤ greatest_stamp = c in let b : last_status_stamp_of_trade t ≤ l = e in omega (arith, a, b)

moved_in_time : (last : Option ℕ) → IfSome last (λ l. l ≤ greatest_stamp) → (m : Movement) → MovementStampIsAtMostLastStamp last m → m.stamp ≤ greatest_stamp
moved_in_time None c m e = absurd e
moved_in_time (Some l) c m e = let a : l ≤ greatest_stamp = c in let b : m.stamp ≤ l = e in omega (arith, a, b)

all_posted : (base : Base) → BooksInvariant base → AllByRecursion (λ p. on_some_day p.stamp ≡ true) (postings_of_base base)
all_posted base books =
    All-append (λ p. on_some_day p.stamp ≡ true) (map (posting_of_trade base.accounts) (cash_trades (completed_trades base))) (map posting_of_movement base.movements)
    (All-mapped (λ p. on_some_day p.stamp ≡ true) (posting_of_trade base.accounts) (cash_trades (completed_trades base))
    (All-filter (λ t. on_some_day (last_status_stamp_of_trade t) ≡ true) (λ t. t.is_cash) (completed_trades base)
    (All-map (completed_trades base) (λ t e. some_day (last_status_stamp_of_trade t) (trade_in_time base.last books.clock t e)) books.early)))
    (All-mapped (λ p. on_some_day p.stamp ≡ true) posting_of_movement base.movements
    (All-map base.movements (λ m e. some_day m.stamp (moved_in_time base.last books.clock m e)) books.movements.early))

all_numbered : (n : ℕ) (ps : List Posting) → AllByRecursion (λ p. on_some_day p.stamp ≡ true) ps → AllByRecursion (λ r. on_some_day r.stamp ≡ true) (numbered_cash_move_rows n ps)
all_numbered n [] h = tt
all_numbered n (p ∷ ps) h = (h.0, all_numbered (n + 1) ps h.1)

moves_are : (base : Base) → (sheets base).moves ≡ numbered_cash_move_rows 1 (postings_sorted_by_stamp (postings_of_base base))
unfolding tables_of_base_in_schema tables_sorted_by_key
moves_are base = numbered_stay 1 (postings_sorted_by_stamp (postings_of_base base))

pub all_listed : (base : Base) (account : ℕ) → BooksInvariant base → account_cash_rows_by_stamp (sheets base) account ≡ sorted_cash_rows_of_account (sheets base) account
all_listed base account books =
    filter-all (λ (r : CashRow). on_some_day r.stamp) (sorted_cash_rows_of_account (sheets base) account)
    (All-sort (λ (r : CashRow). on_some_day r.stamp ≡ true) (λ a b. nat_lt a.stamp b.stamp) (filter (λ (r : CashRow). r.account == account) (sheets base).moves)
    (All-filter (λ (r : CashRow). on_some_day r.stamp ≡ true) (λ r. r.account == account) (sheets base).moves
    (subst (AllByRecursion (λ (r : CashRow). on_some_day r.stamp ≡ true)) (sym (moves_are base))
    (all_numbered 1 (postings_sorted_by_stamp (postings_of_base base)) (All-sort (λ p. on_some_day p.stamp ≡ true) (λ a b. nat_lt a.stamp b.stamp) (postings_of_base base) (all_posted base books))))))

-- ---- the account

pub account_as_told : (base : Base) (id : ℕ) (r : AccountRow) → BooksInvariant base → account_row_with_id (sheets base) id ≡ Some r → PrintedAccountMatchesBase base r
account_as_told base id r books e = record {
  posted = all_listed base r.id books;
  last = ap (λ rows. last_number_or_default r.opening (running_totals (λ (row : CashRow). row.amount) r.opening rows)) (all_listed base r.id books) ∙ last_is_balance base id r books e;
  assets = ap (λ z. r.balance +ℤ z) (total-map market_value_of_holding (priced_holding (sheets base)) (filter (λ (row : SummaryRow). row.account == r.id) (sheets base).summaries))
      ∙ reads_assets base id r books e ∙ ap (assets_of_account base) (sym same);
}
  where
    same : r.id ≡ id
    same = let f : FoundAt AccountRow (λ a. a.id == id) r (sheets base).accounts = find-at (λ a. a.id == id) (sheets base).accounts r e in eqb-true r.id id f.passes
