-- The rows of an accepted result, and the books invariant after it.
use Rattle.std.proofs.Common.{◌≡◌, ◌<◌, ◌≤◌, ℕ, ◌==◌, ◌+◌, true, false, max, List, [], ◌∷◌, ◌++◌, refl, sym, subst, ◌∙◌, ap, filter, arith, Option, Some, None}
use Rattle.std.specs.Option.{option_map_or}
use Rattle.std.specs.List.{AllByRecursion}
use Rattle.std.proofs.lemmas.Bool.{eqb-true}
use Rattle.std.proofs.lemmas.Bool.Decides.{nat_tests}
use Rattle.brk_money.specs.Spelling.{Text}
use Rattle.brk_money.specs.declared.refusal.Refusal.TheVariants.{NoTrade}
use Rattle.brk_money.specs.declared.status.Status.TheVariants.{Submitted, Pending}
use Rattle.brk_model.specs.Records.{Account, Security, Trade}
use Rattle.brk_model.specs.Base.{Base, account_with_id, completed_trades, has_last_status, is_completed, last_status_stamp_of_trade, security_with_symbol, trade_with_id}
use Rattle.brk_model.specs.Commands.{CompleteTrade}
use Rattle.brk_model.specs.Results.{trade_after_completion, base_after_result}
use Rattle.brk_model.specs.Sheets.{sheets}
use Rattle.brk_model.specs.Step.{base_after_command_unstamped, base_after_result_by_id}
use Rattle.brk_model.specs.Tests.{stamp_of_next_command, refusal_of_command, checks_of_result, checks_of_command}
use Rattle.brk_lots.specs.Position.{AreOpenedByOtherTrades}
use Rattle.brk_model.specs.Names.{AccountOfTradeExists, SecurityOfTradeExists, TradesAreNumberedFrom}
use Rattle.brk_trade_books.specs.Books.{HasNoCompletionIfSubmitted, BooksInvariant, TradeStampIsAtMostLastStamp, IsNotCompletion, HasDistinctLastStatusStamps, HasOneStatusChangeIfPending}
use Rattle.brk_trade_books.specs.Steps.{HasTableEffect, PreservesBooksInvariant}
use Rattle.brk_trade_books.specs.Results.{tables_after_result, result_rows_of_trade}
use Rattle.brk_trade_books.specs.TradeReads.{lots_of_position}
use Rattle.brk_trade_books.proofs.MovementOrder.{movements_before, movements_beside, movements_completion, movements_later}
use Rattle.brk_trade_books.proofs.Same.{NonePass, All-append, All-filter, All-map, find-All}
use Rattle.brk_trade_books.proofs.Places.{All-updated, FoundAt, filter-not_one, find-at, some_of}
use Rattle.brk_trade_books.proofs.Numbering.{numbered_after, numbered_updated}
use Rattle.brk_trade_books.proofs.Completions.{later}
use Rattle.brk_trade_books.proofs.Tested.{All-back, All-front, in_time, not_not, passed}
use Rattle.brk_trade_books.proofs.Trades.{whole}
use Rattle.brk_trade_books.proofs.LotOrder.{new_read}
use Rattle.brk_trade_books.proofs.ResultRows.{IsResult, done_now, done_then, moment_then, sheets_then, status_then}

-- ---- what an accepted result finds

before_next : (last : Option ℕ) (now : ℕ) (t : Trade) → TradeStampIsAtMostLastStamp last t → last_status_stamp_of_trade t < option_map_or (λ l. max now (l + 1)) last now
before_next None now t e = absurd e
before_next (Some l) now t e = omega arith

-- no trade was completed at the next stamp
pub all_before : (base : Base) (now : ℕ) → BooksInvariant base → AllByRecursion (λ t. last_status_stamp_of_trade t < stamp_of_next_command base now) (completed_trades base)
all_before base now books = All-map (completed_trades base) (λ t e. before_next base.last now t e) books.early

-- a trade that is not completed opened no lot
pub new_of_waiting : (base : Base) (id account : ℕ) (symbol : Text) (t : Trade) → BooksInvariant base → trade_with_id base id ≡ Some t → is_completed t ≡ false
    → AreOpenedByOtherTrades id (lots_of_position (sheets base) account symbol)
new_of_waiting base id account symbol t books e w =
    let f : FoundAt Trade (λ u. u.id == id) t base.trades = find-at (λ u. u.id == id) base.trades t e in
    let same : t.id ≡ id = eqb-true t.id id f.passes in
    let behind : NonePass (λ u. u.id == id) f.after =
    subst (λ (m : ℕ). NonePass (λ u. u.id == m) f.after) same
    (numbered_after 1 f.before t f.after (subst (TradesAreNumberedFrom 1) f.stands books.numbered)) in
    let done : completed_trades base ≡ filter is_completed f.before ++ filter is_completed f.after = ap (filter is_completed) f.stands ∙ filter-not_one is_completed f.before t f.after w in
    new_read base account symbol id books
    (subst (NonePass (λ u. u.id == id)) (sym done)
    (All-append (λ u. (u.id == id) ≡ false) (filter is_completed f.before) (filter is_completed f.after)
    (All-filter (λ u. (u.id == id) ≡ false) is_completed f.before f.others) (All-filter (λ u. (u.id == id) ≡ false) is_completed f.after behind)))

-- what its tests say of its trade
pub result_passed : (base : Base) (now id price : ℕ) (t : Trade) → trade_with_id base id ≡ Some t → refusal_of_command base now (CompleteTrade id price) ≡ None
    → AllByRecursion (λ test. test.0 ≡ false) (checks_of_result base (base_after_result base (stamp_of_next_command base now) price t) (stamp_of_next_command base now) t)
unfolding checks_of_command
result_passed base now id price t e accepted =
    subst (λ o. AllByRecursion (λ test. test.0 ≡ false)
    (option_map_or (λ t. checks_of_result base (base_after_result base (stamp_of_next_command base now) price t) (stamp_of_next_command base now) t) o
    ((true, NoTrade) ∷ []))) e
    (passed base now (CompleteTrade id price) accepted)

-- it names a trade
pub result_named : (base : Base) (now id price : ℕ) → refusal_of_command base now (CompleteTrade id price) ≡ None → (t : Trade) × (trade_with_id base id ≡ Some t)
unfolding checks_of_command
result_named base now id price accepted = by_trade (trade_with_id base id) refl
  where
    by_trade : (o : Option Trade) → trade_with_id base id ≡ o → (t : Trade) × (trade_with_id base id ≡ Some t)
    by_trade (Some t) e = (t, e)
    by_trade None e =
        let k = subst (λ o. AllByRecursion (λ test. test.0 ≡ false)
        (option_map_or (λ t. checks_of_result base (base_after_result base (stamp_of_next_command base now) price t) (stamp_of_next_command base now) t) o
        ((true, NoTrade) ∷ []))) e
        (passed base now (CompleteTrade id price) accepted) in
        let h : true ≡ false = k.0 in absurd (cc)

-- where it stands
pub record Found (base : Base) (now price : ℕ) (t : Trade) : Type 0 where
  pub front : List Trade
  pub back : List Trade
  pub result : IsResult base (stamp_of_next_command base now) price t front back

pub found_at : (base : Base) (now id price : ℕ) (t : Trade) → BooksInvariant base → trade_with_id base id ≡ Some t → has_last_status Submitted t ≡ true → Found base now price t
found_at base now id price t books e s =
    let f : FoundAt Trade (λ u. u.id == id) t base.trades = find-at (λ u. u.id == id) base.trades t e in
    record {
      front = f.before;
      back = f.after;
      result =
          record { books = books; stands = f.stands; submitted = s; later = all_before base now books; moved = movements_before base now books.movements };
    }

pub submitted : (base : Base) (now id price : ℕ) (t : Trade) → trade_with_id base id ≡ Some t → refusal_of_command base now (CompleteTrade id price) ≡ None → has_last_status Submitted t ≡ true
submitted base now id price t e accepted = not_not (has_last_status Submitted t) (result_passed base now id price t e accepted).0

-- ---- its rows

pub step_result : (base : Base) (now id price : ℕ) (t : Trade) → trade_with_id base id ≡ Some t
    → HasTableEffect base now (CompleteTrade id price) (tables_after_result (result_rows_of_trade base (stamp_of_next_command base now) price t))
unfolding base_after_command_unstamped
step_result base now id price t e books accepted =
    let stamp : ℕ = stamp_of_next_command base now in
    let s : has_last_status Submitted t ≡ true = submitted base now id price t e accepted in
    let f : Found base now price t = found_at base now id price t books e s in
    let a : (a : Account)
    × (account_with_id base t.account ≡ Some a) =
    some_of (account_with_id base t.account) (find-All (AccountOfTradeExists base) (λ u. u.id == id) base.trades t books.accounts e) in
    let y : (y : Security)
    × (security_with_symbol base t.symbol ≡ Some y) =
    some_of (security_with_symbol base t.symbol) (find-All (SecurityOfTradeExists base) (λ u. u.id == id) base.trades t books.securities e) in
    let marks : AllByRecursion IsNotCompletion t.marks = find-All HasNoCompletionIfSubmitted (λ u. u.id == id) base.trades t books.completions e s in
    whole (base_after_result_by_id base stamp id price) stamp _
    (ap (λ o. sheets (option_map_or (base_after_result base stamp price) o base)) e
    ∙ sheets_then base stamp price t f.front f.back f.result a.0 y.0 a.1 y.1 marks)

-- ---- the base after it

other_moment : (m n : ℕ) → m < n → (n == m) ≡ false
other_moment m n h = grind (arith, nat_tests)

same_moment : (m n : ℕ) → m < n → (m == n) ≡ false
same_moment m n h = grind (arith, nat_tests)

moments_more : (xs : List Trade) (t : Trade) (ys : List Trade) → AllByRecursion (λ u. last_status_stamp_of_trade u < last_status_stamp_of_trade t) (xs ++ ys)
    → HasDistinctLastStatusStamps (xs ++ ys) → HasDistinctLastStatusStamps (xs ++ t ∷ ys)
moments_more [] t ys h m = (All-map ys (λ u k. same_moment (last_status_stamp_of_trade u) (last_status_stamp_of_trade t) k) h, m)
moments_more (x ∷ xs) t ys h m = (
  All-append (λ u. (last_status_stamp_of_trade u == last_status_stamp_of_trade x) ≡ false) xs (t ∷ ys)
      (All-front (λ u. (last_status_stamp_of_trade u == last_status_stamp_of_trade x) ≡ false) xs ys m.0)
      (other_moment (last_status_stamp_of_trade x) (last_status_stamp_of_trade t) h.0, All-back (λ u. (last_status_stamp_of_trade u == last_status_stamp_of_trade x) ≡ false) xs ys m.0),
  moments_more xs t ys h.1 m.1,
)

not_waiting : (base : Base) (stamp price : ℕ) (t : Trade) → HasOneStatusChangeIfPending (trade_after_completion base stamp price t)
not_waiting base stamp price t p = let k : has_last_status Pending (trade_after_completion base stamp price t) ≡ false = status_then base stamp price t Pending in absurd (cc)

not_at_market : (base : Base) (stamp price : ℕ) (t : Trade) → HasNoCompletionIfSubmitted (trade_after_completion base stamp price t)
not_at_market base stamp price t p = let k : has_last_status Submitted (trade_after_completion base stamp price t) ≡ false = status_then base stamp price t Submitted in absurd (cc)

same_id : (base : Base) (stamp price : ℕ) (t : Trade) → (trade_after_completion base stamp price t).id ≡ t.id
unfolding trade_after_completion
same_id base stamp price t = refl

same_account : (base : Base) (stamp price : ℕ) (t : Trade) → AccountOfTradeExists base t → AccountOfTradeExists base (trade_after_completion base stamp price t)
unfolding trade_after_completion
same_account base stamp price t h = h

same_security : (base : Base) (stamp price : ℕ) (t : Trade) → SecurityOfTradeExists base t → SecurityOfTradeExists base (trade_after_completion base stamp price t)
unfolding trade_after_completion
same_security base stamp price t h = h

no_later : (m n : ℕ) → m ≡ n → m ≤ n
no_later m n e = omega (arith, e)

books_then : (base : Base) (now id price : ℕ) (t : Trade) → BooksInvariant base → trade_with_id base id ≡ Some t → refusal_of_command base now (CompleteTrade id price) ≡ None
    → BooksInvariant (record (base_after_result base (stamp_of_next_command base now) price t) { last = Some (stamp_of_next_command base now) })
books_then base now id price t k e accepted =
    let stamp : ℕ = stamp_of_next_command base now in
    let u : Trade = trade_after_completion base stamp price t in
    let f : Found base now price t = found_at base now id price t k e (submitted base now id price t e accepted) in
    let A : List Trade = filter is_completed f.front in
    let Z : List Trade = filter is_completed f.back in
    let done : completed_trades base ≡ A ++ Z = done_now base stamp price t f.front f.back f.result in
    let after : completed_trades (base_after_result base stamp price t) ≡ A ++ u ∷ Z = done_then base stamp price t f.front f.back f.result in
    let moment : last_status_stamp_of_trade u ≡ stamp = moment_then base stamp price t in
    let early : AllByRecursion (TradeStampIsAtMostLastStamp (Some stamp)) (A ++ Z) = subst (AllByRecursion (TradeStampIsAtMostLastStamp (Some stamp))) done (later base now k.early) in
    let last : AllByRecursion (λ v. last_status_stamp_of_trade v < last_status_stamp_of_trade u) (A ++ Z) =
    subst (λ (m : ℕ). AllByRecursion (λ v. last_status_stamp_of_trade v < m) (A ++ Z)) (sym moment) (subst (AllByRecursion (λ v. last_status_stamp_of_trade v < stamp)) done (all_before base now k)) in
    record {
      parties = k.parties;
      market = k.market;
      trades = record {
        accounts = All-updated (AccountOfTradeExists base) (λ v. v.id == t.id) (trade_after_completion base stamp price) base.trades (λ v h. same_account base stamp price v h) k.accounts;
        securities = All-updated (SecurityOfTradeExists base) (λ v. v.id == t.id) (trade_after_completion base stamp price) base.trades (λ v h. same_security base stamp price v h) k.securities;
        numbered = numbered_updated 1 (λ v. v.id == t.id) (trade_after_completion base stamp price) base.trades (λ v. same_id base stamp price v) k.numbered;
        ways = All-updated HasOneStatusChangeIfPending (λ v. v.id == t.id) (trade_after_completion base stamp price) base.trades (λ v h. not_waiting base stamp price v) k.ways;
        completions = All-updated HasNoCompletionIfSubmitted (λ v. v.id == t.id) (trade_after_completion base stamp price) base.trades (λ v h. not_at_market base stamp price v) k.completions;
      };
      times = record {
        early = subst (AllByRecursion (TradeStampIsAtMostLastStamp (Some stamp))) (sym after)
            (All-append (TradeStampIsAtMostLastStamp (Some stamp)) A (u ∷ Z) (All-front (TradeStampIsAtMostLastStamp (Some stamp)) A Z early)
            (no_later (last_status_stamp_of_trade u) stamp moment, All-back (TradeStampIsAtMostLastStamp (Some stamp)) A Z early));
        moments = subst HasDistinctLastStatusStamps (sym after) (moments_more A u Z last (subst HasDistinctLastStatusStamps done k.moments));
        clock = in_time base now (CompleteTrade id price) accepted;
      };
      movements = movements_beside (sym after) (movements_completion A u Z base.movements
          (subst (λ (m : ℕ). AllByRecursion (λ n. n.stamp < m) base.movements) (sym moment) (movements_before base now k.movements))
          (movements_beside done (movements_later base now k.movements)));
    }

pub books_result : (base : Base) (now id price : ℕ) → PreservesBooksInvariant base now (CompleteTrade id price)
unfolding base_after_command_unstamped
books_result base now id price k accepted =
    let named = result_named base now id price accepted in
    subst (λ o. BooksInvariant (record (option_map_or (base_after_result base (stamp_of_next_command base now) price) o base) { last = Some (stamp_of_next_command base now) })) (sym named.1)
    (books_then base now id price named.0 k named.1 accepted)
