-- The tables and the base after a movement, and after the first day of one-day settlement is set.
use Rattle.std.proofs.Common.{◌≡◌, ◌<◌, ◌≤◌, ℕ, ◌+◌, ◌==◌, true, false, cond, [], ◌∷◌, ◌++◌, refl, sym, ◌∙◌, ap, subst, map, filter, arith, ℤ, ◌+ℤ◌, Option, Some, None}
use Rattle.std.specs.Prelude.{is_none, is_some, nat_le}
use Rattle.std.specs.List.{AllByRecursion}
use Rattle.std.proofs.lemmas.Bool.Decides.{nat_tests}
use Rattle.std.proofs.lemmas.Nat.{le-div}
use Rattle.std.proofs.Math.Nat.{div-mul-le_self}
use Rattle.brk_money.specs.Moments.{day_of}
use Rattle.brk_model.specs.Lists.{total_by}
use Rattle.brk_model.specs.Records.{Account, Movement, SettleRule, Trade}
use Rattle.brk_model.specs.Base.{Base, account_with_id, completed_trades, last_status_stamp_of_trade, opening_balance_in_accounts}
use Rattle.brk_model.specs.Commands.{Command, DepositCash, WithdrawCash, SetOneDay}
use Rattle.brk_model.specs.Derived.{balance_of_account, due_day, postings_sorted_by_stamp, postings_to_account, posting_of_movement, postings_of_base}
use Rattle.brk_model.specs.Keys.{rows_sorted_by_key, cash_move_key, settlement_key}
use Rattle.brk_model.specs.Movements.{deposit_movement, withdrawal_movement, base_after_movement, base_with_one_day_settlement_start}
use Rattle.brk_model.specs.Sheets.{sheets, tables_sorted_by_key}
use Rattle.brk_model.specs.Step.{base_after_command_unstamped}
use Rattle.brk_model.specs.Tables.{numbered_cash_move_rows, settlement_row, tables_of_base_in_schema}
use Rattle.brk_model.specs.Tests.{stamp_of_next_command, refusal_of_command, checks_of_command}
use Rattle.brk_trade_rows.specs.Changes.{tables_with_last_stamp, tables_with_one_day_settlement_start}
use Rattle.brk_trade_books.specs.Books.{MovementBooksInvariant, BooksInvariant}
use Rattle.brk_trade_books.specs.Movements.{tables_after_movement}
use Rattle.brk_trade_books.specs.Steps.{HasTableEffect, PreservesBooksInvariant}
use Rattle.brk_trade_books.proofs.Bools.{numbers_back}
use Rattle.brk_trade_books.proofs.Completions.{later_times}
use Rattle.brk_trade_books.proofs.MovementOrder.{movements_before, movements_later, movements_more}
use Rattle.brk_trade_books.proofs.Keepers.{books_last}
use Rattle.brk_trade_books.proofs.Order.{append_nil}
use Rattle.brk_trade_books.proofs.Places.{filter-not_one}
use Rattle.brk_trade_books.proofs.Postings.{postings_moved, rows_end}
use Rattle.brk_trade_books.proofs.ResultKeeping.{all_before}
use Rattle.brk_trade_books.proofs.Same.{All-map, map-same}
use Rattle.brk_trade_books.proofs.Sums.{accounts_posted, posted_before}
use Rattle.brk_trade_books.proofs.Tested.{in_time, not_too_early, passed}

-- ---- a movement

there : (o : Option Account) → is_none o ≡ false → is_some o ≡ true
there None h = absurd (cc)
there (Some x) h = refl

-- the balances of other accounts stay
pub others_stay : (base : Base) (m : Movement) (id : ℕ) → (id == m.account) ≡ false
    → balance_of_account base.accounts (postings_of_base (base_after_movement base m)) id ≡ balance_of_account base.accounts (postings_of_base base) id
unfolding balance_of_account
others_stay base m id e =
    ap (λ ps. opening_balance_in_accounts base.accounts id +ℤ total_by (λ p. p.amount) ps)
    (ap (λ ps. postings_to_account ps id) (postings_moved base.accounts (completed_trades base) base.movements m)
    ∙ filter-not_one (λ p. p.account == id) (postings_of_base base) (posting_of_movement m) [] (numbers_back m.account id ∙ e)
    ∙ append_nil (postings_to_account (postings_of_base base) id))

-- its row is the last one
row_stands : (base : Base) (now : ℕ) (m : Movement) → BooksInvariant base → m.stamp ≡ stamp_of_next_command base now
    → (sheets (base_after_movement base m)).moves ≡ (tables_after_movement base m (sheets base)).moves
unfolding tables_of_base_in_schema tables_sorted_by_key
row_stands base now m books e =
    ap (λ ps. rows_sorted_by_key cash_move_key (numbered_cash_move_rows 1 (postings_sorted_by_stamp ps))) (postings_moved base.accounts (completed_trades base) base.movements m)
    ∙ rows_end (postings_of_base base) (posting_of_movement m) (posted_before base.accounts (completed_trades base) base.movements m.stamp
    (subst (λ (n : ℕ). AllByRecursion (λ t. last_status_stamp_of_trade t < n) (completed_trades base)) (sym e) (all_before base now books))
    (subst (λ (n : ℕ). AllByRecursion (λ x. x.stamp < n) base.movements) (sym e) (movements_before base now books.movements)))

accounts_stand : (base : Base) (m : Movement) → (sheets (base_after_movement base m)).accounts ≡ (tables_after_movement base m (sheets base)).accounts
unfolding tables_of_base_in_schema tables_sorted_by_key
accounts_stand base m =
    accounts_posted base.accounts base.accounts (postings_of_base base) (postings_of_base (base_after_movement base m)) m.account (others_stay base m)

movement_sheets : (base : Base) (now : ℕ) (m : Movement) → BooksInvariant base → m.stamp ≡ stamp_of_next_command base now
    → sheets (record (base_after_movement base m) { last = Some (stamp_of_next_command base now) })
    ≡ tables_with_last_stamp (stamp_of_next_command base now) (tables_after_movement base m (sheets base))
unfolding tables_of_base_in_schema tables_sorted_by_key
movement_sheets base now m books e = λ i. record (tables_with_last_stamp (stamp_of_next_command base now) (sheets base)) {
  accounts = accounts_stand base m i;
  moves = row_stands base now m books e i;
}

pub step_deposit : (base : Base) (now account amount : ℕ)
    → HasTableEffect base now (DepositCash account amount) (tables_after_movement base (deposit_movement (stamp_of_next_command base now) account amount))
unfolding base_after_command_unstamped
step_deposit base now account amount books e = movement_sheets base now (deposit_movement (stamp_of_next_command base now) account amount) books refl

pub step_withdrawal : (base : Base) (now account amount : ℕ)
    → HasTableEffect base now (WithdrawCash account amount) (tables_after_movement base (withdrawal_movement (stamp_of_next_command base now) account amount))
unfolding base_after_command_unstamped
step_withdrawal base now account amount books e = movement_sheets base now (withdrawal_movement (stamp_of_next_command base now) account amount) books refl

-- ---- one-day settlement

same_day : (m n : ℕ) → m ≤ n → day_of m ≤ day_of n
same_day m n h = let k = div-mul-le_self m 86400000 in le-div (day_of m) n 86400000 (omega arith) (omega (arith, h, k))

too_late : (day n k : ℕ) → nat_le day n ≡ false → k ≤ n → nat_le day k ≡ false
too_late day n k h l = grind (arith, nat_tests)

-- a completion before the day that is set keeps its due day
due_day_stays : (base : Base) (now day : ℕ) (t : Trade) → last_status_stamp_of_trade t < stamp_of_next_command base now
    → nat_le day (day_of (stamp_of_next_command base now)) ≡ false → due_day (Some day) t ≡ due_day None t
due_day_stays base now day t h e =
    ap (λ b. day_of (last_status_stamp_of_trade t) + cond b 1 2)
    (too_late day (day_of (stamp_of_next_command base now)) (day_of (last_status_stamp_of_trade t)) e
    (same_day (last_status_stamp_of_trade t) (stamp_of_next_command base now) (omega (arith, h))))

pub unset : (rule : SettleRule) → is_some rule ≡ false → rule ≡ None
unset None e = refl
unset (Some day) e = absurd (cc)

pub due_days_stay : (base : Base) (now day : ℕ) → BooksInvariant base → refusal_of_command base now (SetOneDay day) ≡ None
    → AllByRecursion (λ t. due_day (Some day) t ≡ due_day base.rule t) (completed_trades base)
unfolding checks_of_command
due_days_stay base now day books e =
    let none : base.rule ≡ None = unset base.rule (passed base now (SetOneDay day) e).0 in
    All-map (completed_trades base)
    (λ t h. due_day_stays base now day t h (not_too_early base now (SetOneDay day) e) ∙ ap (λ (rule : SettleRule). due_day rule t) (sym none))
    (all_before base now books)

pub step_one_day : (base : Base) (now day : ℕ) → HasTableEffect base now (SetOneDay day) (tables_with_one_day_settlement_start day)
unfolding base_after_command_unstamped tables_of_base_in_schema tables_sorted_by_key
step_one_day base now day books e =
    let same = map-same (settlement_row base.accounts (Some day)) (settlement_row base.accounts base.rule) (completed_trades base) (All-map (completed_trades base)
    (λ t h. λ i. record (settlement_row base.accounts base.rule t) { due_day = h i }) (due_days_stay base now day books e)) in
    λ i. record (tables_with_last_stamp (stamp_of_next_command base now) (tables_with_one_day_settlement_start day (sheets base))) { settlements = rows_sorted_by_key settlement_key (same i) }

-- ---- the base after them

books_movement : (base : Base) (now : ℕ) (command : Command) (m : Movement) → m.stamp ≡ stamp_of_next_command base now → is_some (account_with_id base m.account) ≡ true → BooksInvariant base
    → refusal_of_command base now command ≡ None → BooksInvariant (record (base_after_movement base m) { last = Some (stamp_of_next_command base now) })
books_movement base now command m s h k e = record {
  parties = k.parties;
  market = k.market;
  trades = k.trades;
  times = later_times base now (in_time base now command e) k.times;
  movements = subst (λ (n : ℕ). MovementBooksInvariant base.accounts (Some n) (completed_trades base) (base.movements ++ m ∷ [])) s (movements_more m h
      (subst (λ (n : ℕ). AllByRecursion (λ t. last_status_stamp_of_trade t < n) (completed_trades base)) (sym s) (all_before base now k))
      (subst (λ (n : ℕ). AllByRecursion (λ x. x.stamp < n) base.movements) (sym s) (movements_before base now k.movements))
      (subst (λ (n : ℕ). MovementBooksInvariant base.accounts (Some n) (completed_trades base) base.movements) (sym s) (movements_later base now k.movements)));
}

pub books_deposit : (base : Base) (now account amount : ℕ) → PreservesBooksInvariant base now (DepositCash account amount)
unfolding base_after_command_unstamped checks_of_command
books_deposit base now account amount k e =
    books_movement base now (DepositCash account amount) (deposit_movement (stamp_of_next_command base now) account amount) refl
    (there (account_with_id base account) (passed base now (DepositCash account amount) e).0) k e

pub books_withdrawal : (base : Base) (now account amount : ℕ) → PreservesBooksInvariant base now (WithdrawCash account amount)
unfolding base_after_command_unstamped checks_of_command
books_withdrawal base now account amount k e =
    books_movement base now (WithdrawCash account amount) (withdrawal_movement (stamp_of_next_command base now) account amount) refl
    (there (account_with_id base account) (passed base now (WithdrawCash account amount) e).0) k e

pub books_one_day : (base : Base) (now day : ℕ) → PreservesBooksInvariant base now (SetOneDay day)
unfolding base_after_command_unstamped
books_one_day base now day k e = books_last (base_with_one_day_settlement_start base day) now (in_time base now (SetOneDay day) e) (record {
  parties = k.parties;
  market = k.market;
  trades = k.trades;
  times = k.times;
  movements = k.movements;
})
