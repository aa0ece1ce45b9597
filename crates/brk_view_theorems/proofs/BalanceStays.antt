-- No run of calls changes the printed balance after a completed trade.
use Rattle.std.proofs.Common.{◌≡◌, ◌≤◌, ℕ, ◌+◌, ◌*◌, ◌-ℤ◌, ◌==◌, Bool, true, cond, List, ◌++◌, Option, Some, None, refl, sym, ◌∙◌, ap, subst, map, filter, arith, ℤ, pos, ◌+ℤ◌, is_some}
use Rattle.std.specs.Prelude.{nat_le}
use Rattle.std.specs.Option.{option_map_or}
use Rattle.std.specs.List.{AllByRecursion}
use Rattle.std.proofs.lemmas.Bool.Decides.{nat_tests}
use Rattle.brk_money.specs.declared.status.Status.TheVariants.{Completed}
use Rattle.brk_model.specs.Base.{Base, account_with_id, completed_trades, account_with_id_in_list, is_completed, last_status_stamp_of_trade}
use Rattle.brk_model.specs.Base.{opening_balance_in_accounts, completion_price, is_withholding_status, trade_with_id}
use Rattle.brk_model.specs.Commands.{CompleteTrade}
use Rattle.brk_money.specs.Kinds.{side_of_trade_type}
use Rattle.brk_money.specs.declared.tax_status.TaxStatus.TheVariants.{Untaxed}
use Rattle.brk_model.specs.Derived.{Posting, settlement_amount, balance_of_account, cash_trades, postings_to_account, posting_of_movement, posting_of_trade}
use Rattle.brk_model.specs.Derived.{postings, postings_of_base, signed_proceeds}
use Rattle.brk_model.specs.Lists.{total_by}
use Rattle.brk_model.specs.Records.{Account, Movement, Trade}
use Rattle.brk_model.specs.Results.{trade_after_completion}
use Rattle.brk_model.specs.Tests.{stamp_of_next_command, refusal_of_command}
use Rattle.brk_trade_books.specs.Books.{BooksInvariant, TradeStampIsAtMostLastStamp, MovementStampIsAtMostLastStamp}
use Rattle.brk_trade_books.specs.Steps.{base_after_command}
use Rattle.brk_trade_books.proofs.LotReading.{filter-map, filter-swap}
use Rattle.brk_trade_books.proofs.Places.{filter-all, filter-append}
use Rattle.brk_trade_books.proofs.Postings.{balance_parts}
use Rattle.brk_trade_books.proofs.References.{known_completed}
use Rattle.brk_trade_books.proofs.RunKeeping.{books_command, run_books}
use Rattle.brk_trade_books.proofs.ResultRows.{moment_then, status_then}
use Rattle.brk_trade_books.proofs.Same.{All-filter, All-map, All-mapped, find-All, find-more, total_by-same}
use Rattle.brk_trade_books.proofs.SumReading.{total-map}
use Rattle.brk_view_theorems.specs.Balances.{RunsPreservePrintedBalanceAfterTrade, balance_at_stamp, postings_up_to_stamp}
use Rattle.brk_view_theorems.proofs.BalanceSums.{balances_as_told}
use Rattle.brk_view_theorems.proofs.Kept.{Keeps, core, done_by, keeps_run, moved_by}
use Rattle.brk_view_theorems.proofs.SameTrade.{found_then, id_of, same_trade}

-- ---- postings by a stamp

by_stamp : (s : ℕ) (accounts : List Account) (done : List Trade) (ms : List Movement)
    → postings_up_to_stamp s (postings accounts done ms) ≡ postings accounts (filter (λ t. nat_le (last_status_stamp_of_trade t) s) done) (filter (λ m. nat_le m.stamp s) ms)
by_stamp s accounts done ms =
    filter-append L (map P (cash_trades done)) (map posting_of_movement ms)
    ∙ (λ i. (filter-map L P (cash_trades done) ∙ ap (map P) (filter-swap (λ t. nat_le (last_status_stamp_of_trade t) s) (λ t. t.is_cash) done)) i ++ filter-map L posting_of_movement ms i)
  where
    P : Trade → Posting
    P = posting_of_trade accounts

    L : Posting → Bool
    L p = nat_le p.stamp s

-- ---- the amounts of trades, but for their words

-- the sum of the amounts of an account's cash trades
abbrev paid_to : List Account → ℕ → List Trade → ℤ
paid_to accounts account ts = total_by (settlement_amount accounts) (filter (λ t. t.account == account) (cash_trades ts))

by_core : (accounts : List Account) (account : ℕ) (ts : List Trade) → paid_to accounts account (map core ts) ≡ paid_to accounts account ts
by_core accounts account ts =
    ap (λ us. total_by (settlement_amount accounts) (filter (λ t. t.account == account) us)) (filter-map (λ t. t.is_cash) core ts)
    ∙ ap (total_by (settlement_amount accounts)) (filter-map (λ t. t.account == account) core (cash_trades ts))
    ∙ total-map (settlement_amount accounts) core (filter (λ t. t.account == account) (cash_trades ts))

-- more accounts change no amount of a known one's trade
pub same_account : (accounts more : List Account) (id : ℕ) → is_some (account_with_id_in_list accounts id) ≡ true → account_with_id_in_list (accounts ++ more) id ≡ account_with_id_in_list accounts id
same_account accounts more id h = find-more (λ a. a.id == id) accounts more h

pub same_amount : (accounts more : List Account) (t : Trade) → is_some (account_with_id_in_list accounts t.account) ≡ true → settlement_amount (accounts ++ more) t ≡ settlement_amount accounts t
same_amount accounts more t h = ap amount_by (same_account accounts more t.account h)
  where
    amount_by : Option Account → ℤ
    amount_by o = signed_proceeds (side_of_trade_type t.kind) (t.qty * completion_price t) -ℤ pos
        (t.charge + t.commission + cond (is_withholding_status (option_map_or (λ a. a.tax_status) o Untaxed)) t.tax 0)

with_more : (accounts more : List Account) (account : ℕ) (ts : List Trade) → AllByRecursion (λ t. is_some (account_with_id_in_list accounts t.account) ≡ true) ts
    → paid_to (accounts ++ more) account ts ≡ paid_to accounts account ts
with_more accounts more account ts h =
    total_by-same (settlement_amount (accounts ++ more)) (settlement_amount accounts) (filter (λ t. t.account == account) (cash_trades ts))
    (All-map (filter (λ t. t.account == account) (cash_trades ts)) (λ t k. same_amount accounts more t k)
    (All-filter (λ t. is_some (account_with_id_in_list accounts t.account) ≡ true) (λ t. t.account == account) (cash_trades ts)
    (All-filter (λ t. is_some (account_with_id_in_list accounts t.account) ≡ true) (λ t. t.is_cash) ts h)))

-- ---- the balance by a stamp

balance_is : (base : Base) (s account : ℕ)
    → balance_at_stamp base s account
    ≡ opening_balance_in_accounts base.accounts account +ℤ
    (paid_to base.accounts account (done_by base s) +ℤ total_by (λ p. p.amount) (postings_to_account (map posting_of_movement (moved_by base s)) account))
balance_is base s account =
    ap (λ ps. balance_of_account base.accounts ps account) (by_stamp s base.accounts (completed_trades base) base.movements)
    ∙ balance_parts base.accounts (filter (λ t. nat_le (last_status_stamp_of_trade t) s) (completed_trades base)) (moved_by base s) account
    ∙ ap (λ z. opening_balance_in_accounts base.accounts account +ℤ (z +ℤ total_by (λ p. p.amount) (postings_to_account (map posting_of_movement (moved_by base s)) account)))
    (sym (by_core base.accounts account (filter (λ t. nat_le (last_status_stamp_of_trade t) s) (completed_trades base))))

known_by : (base : Base) (s : ℕ) → BooksInvariant base → AllByRecursion (λ t. is_some (account_with_id_in_list base.accounts t.account) ≡ true) (done_by base s)
known_by base s books =
    All-mapped (λ t. is_some (account_with_id_in_list base.accounts t.account) ≡ true) core (filter (λ t. nat_le (last_status_stamp_of_trade t) s) (completed_trades base))
    (All-filter (λ t. is_some (account_with_id_in_list base.accounts t.account) ≡ true) (λ t. nat_le (last_status_stamp_of_trade t) s) (completed_trades base) (known_completed base books))

pub balance_kept : (s : ℕ) (base later : Base) (account : ℕ) → BooksInvariant base → is_some (account_with_id base account) ≡ true → Keeps s base later
    → balance_at_stamp later s account ≡ balance_at_stamp base s account
balance_kept s base later account books h k =
    balance_is later s account
    ∙ (λ i. option_map_or (λ a. a.opening) (opening i) (pos 0) +ℤ (paid i +ℤ total_by (λ p. p.amount) (postings_to_account (map posting_of_movement (k.moved i)) account)))
    ∙ sym (balance_is base s account)
  where
    opening : account_with_id_in_list later.accounts account ≡ account_with_id_in_list base.accounts account
    opening = ap (λ accounts. account_with_id_in_list accounts account) k.accounts ∙ same_account base.accounts k.more account h

    paid : paid_to later.accounts account (done_by later s) ≡ paid_to base.accounts account (done_by base s)
    paid = (λ i. paid_to (k.accounts i) account (k.done i)) ∙ with_more base.accounts k.more account (done_by base s) (known_by base s books)

-- ---- at the last stamp all is posted

is_by : (m n : ℕ) → m ≤ n → nat_le m n ≡ true
is_by m n h = grind (arith, nat_tests)

pub all_by : (base : Base) (s account : ℕ) → BooksInvariant base → base.last ≡ Some s → balance_at_stamp base s account ≡ balance_of_account base.accounts (postings_of_base base) account
all_by base s account books e =
    ap (λ ps. balance_of_account base.accounts ps account)
    (by_stamp s base.accounts (completed_trades base) base.movements
    ∙ (λ i. postings base.accounts (filter-all (λ t. nat_le (last_status_stamp_of_trade t) s) (completed_trades base) trades i) (filter-all (λ m. nat_le m.stamp s) base.movements moved i)))
  where
    trades : AllByRecursion (λ t. nat_le (last_status_stamp_of_trade t) s ≡ true) (completed_trades base)
    trades = All-map (completed_trades base) (λ t h. is_by (last_status_stamp_of_trade t) s h) (subst (λ o. AllByRecursion (TradeStampIsAtMostLastStamp o) (completed_trades base)) e books.early)

    moved : AllByRecursion (λ m. nat_le m.stamp s ≡ true) base.movements
    moved = All-map base.movements (λ m h. is_by m.stamp s h) (subst (λ o. AllByRecursion (MovementStampIsAtMostLastStamp o) base.movements) e books.movements.early)

-- ---- after the result

pub stays_after : (base : Base) (now id price : ℕ) (t : Trade) → BooksInvariant base → trade_with_id base id ≡ Some t
    → refusal_of_command base now (CompleteTrade id price) ≡ None → RunsPreservePrintedBalanceAfterTrade base now id price
stays_after base now id price t books e accepted calls outcomes later u run found =
    (balances_as_told later u next (ap (trade_with_id later) (id_of later id u found) ∙ found) done).after
    ∙ ap (λ (n : ℕ). balance_at_stamp later n u.account) moment
    ∙ balance_kept stamp mid later u.account books_mid known keeps
    ∙ all_by mid stamp u.account books_mid refl
  where
    stamp : ℕ
    stamp = stamp_of_next_command base now

    mid : Base
    mid = base_after_command base now (CompleteTrade id price)

    v : Trade
    v = trade_after_completion base stamp price t

    books_mid : BooksInvariant mid
    books_mid = books_command base now (CompleteTrade id price) books accepted

    next : BooksInvariant later
    next = run_books mid calls outcomes later books_mid run

    here : trade_with_id mid id ≡ Some v
    here = found_then base now id price t books e accepted

    keeps : Keeps stamp mid later
    keeps = keeps_run stamp mid calls outcomes later books_mid (at_most stamp) run
      where
        at_most : (n : ℕ) → n ≤ n
        at_most n = omega arith

    same : core u ≡ core v
    same = same_trade stamp mid later id v u books_mid next keeps here (status_then base stamp price t Completed) (no_more (last_status_stamp_of_trade v) stamp (moment_then base stamp price t)) found
      where
        no_more : (m n : ℕ) → m ≡ n → m ≤ n
        no_more m n e = omega (arith, e)

    done : is_completed u ≡ true
    done = ap is_completed same ∙ status_then base stamp price t Completed

    moment : last_status_stamp_of_trade u ≡ stamp
    moment = ap last_status_stamp_of_trade same ∙ moment_then base stamp price t

    known : is_some (account_with_id mid u.account) ≡ true
    known = ap (λ w. is_some (account_with_id mid w.account)) same ∙ find-All (λ w. is_some (account_with_id mid w.account) ≡ true) (λ w. w.id == id) mid.trades v books_mid.accounts here
