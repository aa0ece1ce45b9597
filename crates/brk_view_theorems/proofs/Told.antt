-- After an accepted result, the explanation of its trade prints the figures of the reply.
use Rattle.std.proofs.Common.{◌≡◌, ◌<◌, ℕ, Bool, true, false, List, Option, Some, None, refl, sym, ◌∙◌, ap, subst, filter, arith}
use Rattle.std.specs.Prelude.{Ok, nat_lt}
use Rattle.std.specs.Option.{option_map_or}
use Rattle.std.proofs.lemmas.Bool.Decides.{nat_tests}
use Rattle.brk_money.specs.declared.refusal.Refusal.{Refusal}
use Rattle.brk_money.specs.declared.status.Status.TheVariants.{Completed}
use Rattle.brk_model.specs.Base.{Base, completed_trades, is_completed, last_status_stamp_of_trade, trade_with_id}
use Rattle.brk_model.specs.Commands.{Booked, CompleteTrade, CompletedTrade, Completion, Reply}
use Rattle.brk_model.specs.Derived.{shares_of_position}
use Rattle.brk_model.specs.Records.{Trade}
use Rattle.brk_model.specs.Results.{trade_after_completion, completion_of_trade, base_after_result}
use Rattle.brk_model.specs.Shares.{buy_value, sell_value}
use Rattle.brk_model.specs.Step.{base_after_accepted_command, base_after_command_unstamped, reply_to_command, step, value_unless_refused}
use Rattle.brk_model.specs.Tests.{stamp_of_next_command, refusal_of_command}
use Rattle.brk_trade_books.specs.Books.{BooksInvariant}
use Rattle.brk_trade_books.specs.Steps.{base_after_command}
use Rattle.brk_trade_books.proofs.Places.{filter-all, filter-append, filter-not_one}
use Rattle.brk_trade_books.proofs.ResultKeeping.{Found, all_before, found_at, result_named, submitted}
use Rattle.brk_trade_books.proofs.ResultRows.{deal_then, done_now, done_then, moment_then, status_then}
use Rattle.brk_trade_books.proofs.RunKeeping.{books_command}
use Rattle.brk_trade_books.proofs.Same.{All-map}
use Rattle.brk_view_theorems.specs.Before.{trades_completed_before_stamp, shares_before_trade}
use Rattle.brk_view_theorems.specs.Balances.{balance_at_stamp}
use Rattle.brk_view_theorems.specs.Closings.{PrintedClosingsMatchDeal}
use Rattle.brk_view_theorems.specs.Equations.{PrintedSettlementMatchesBase}
use Rattle.brk_view_theorems.specs.ReplyFigures.{PrintsReplyFigures}
use Rattle.brk_view_theorems.proofs.BalanceStays.{all_by}
use Rattle.brk_view_theorems.proofs.BalanceSums.{balances_as_told}
use Rattle.brk_view_theorems.proofs.ClosingLaws.{closes_as_told}
use Rattle.brk_view_theorems.proofs.SameTrade.{found_then, id_of}
use Rattle.brk_view_theorems.proofs.Amounts.{settles_as_told}

-- ---- the shares before a result are the shares of the base

goes_before : (m n : ℕ) → m < n → nat_lt m n ≡ true
goes_before m n h = grind (arith, nat_tests)

not_itself : (n : ℕ) → nat_lt n n ≡ false
not_itself n = grind (arith, nat_tests)

-- the base after the result of a trade that it names
abbrev then_of : Base → ℕ → ℕ → Trade → Base
then_of base now price t = record (base_after_result base (stamp_of_next_command base now) price t) { last = Some (stamp_of_next_command base now) }

then_is : (base : Base) (now id price : ℕ) (t : Trade) → trade_with_id base id ≡ Some t → base_after_command base now (CompleteTrade id price) ≡ then_of base now price t
unfolding base_after_command_unstamped
then_is base now id price t e = ap (λ o. record (option_map_or (base_after_result base (stamp_of_next_command base now) price) o base) { last = Some (stamp_of_next_command base now) }) e

before_result : (base : Base) (now id price : ℕ) (t : Trade) → BooksInvariant base → trade_with_id base id ≡ Some t → refusal_of_command base now (CompleteTrade id price) ≡ None
    → trades_completed_before_stamp (then_of base now price t) (last_status_stamp_of_trade (trade_after_completion base (stamp_of_next_command base now) price t)) ≡ completed_trades base
before_result base now id price t books e accepted =
    ap (λ (n : ℕ). filter (λ v. nat_lt (last_status_stamp_of_trade v) n) (completed_trades (base_after_result base stamp price t))) (moment_then base stamp price t)
    ∙ ap (filter E) (done_then base stamp price t f.front f.back f.result)
    ∙ filter-not_one E A u Z (ap (λ (n : ℕ). nat_lt n stamp) (moment_then base stamp price t) ∙ not_itself stamp) ∙ sym (filter-append E A Z)
    ∙ ap (filter E) (sym (done_now base stamp price t f.front f.back f.result))
    ∙ filter-all E (completed_trades base) (All-map (completed_trades base) (λ v h. goes_before (last_status_stamp_of_trade v) stamp h) (all_before base now books))
  where
    stamp : ℕ
    stamp = stamp_of_next_command base now

    f : Found base now price t
    f = found_at base now id price t books e (submitted base now id price t e accepted)

    A : List Trade
    A = filter is_completed f.front

    Z : List Trade
    Z = filter is_completed f.back

    u : Trade
    u = trade_after_completion base stamp price t

    E : Trade → Bool
    E v = nat_lt (last_status_stamp_of_trade v) stamp

-- ---- the figures

tells : (base : Base) (now id price : ℕ) (t : Trade) → BooksInvariant base → trade_with_id base id ≡ Some t → refusal_of_command base now (CompleteTrade id price) ≡ None
    → PrintsReplyFigures (then_of base now price t) (trade_after_completion base (stamp_of_next_command base now) price t) (completion_of_trade base (stamp_of_next_command base now) price t)
unfolding completion_of_trade
tells base now id price t books e accepted = record {
  commission = refl;
  tax = refl;
  settlement = settled.amount;
  due = settled.day;
  bought = closed.bought ∙ (λ i. buy_value (deal_then base stamp price t i) (shares i));
  sold = closed.sold ∙ (λ i. sell_value (deal_then base stamp price t i) (shares i));
  balance = (balances_as_told mid u next found done).after ∙ ap (λ (n : ℕ). balance_at_stamp mid n u.account) (moment_then base stamp price t) ∙ all_by mid stamp u.account next refl;
}
  where
    stamp : ℕ
    stamp = stamp_of_next_command base now

    mid : Base
    mid = then_of base now price t

    u : Trade
    u = trade_after_completion base stamp price t

    is_then : base_after_command base now (CompleteTrade id price) ≡ mid
    is_then = then_is base now id price t e

    next : BooksInvariant mid
    next = subst BooksInvariant is_then (books_command base now (CompleteTrade id price) books accepted)

    named : trade_with_id mid id ≡ Some u
    named = subst (λ b. trade_with_id b id ≡ Some u) is_then (found_then base now id price t books e accepted)

    found : trade_with_id mid u.id ≡ Some u
    found = ap (trade_with_id mid) (id_of mid id u named) ∙ named

    done : is_completed u ≡ true
    done = status_then base stamp price t Completed

    settled : PrintedSettlementMatchesBase mid u
    settled = settles_as_told mid u next found done

    closed : PrintedClosingsMatchDeal mid u
    closed = closes_as_told mid u next found done

    shares : shares_before_trade mid u ≡ shares_of_position (completed_trades base) u.account u.symbol
    shares = ap (λ ts. shares_of_position ts u.account u.symbol) (before_result base now id price t books e accepted)

-- ---- the reply

told_of : (base after : Base) (now id price stamp : ℕ) (c : Completion) → BooksInvariant base → (o : Option Refusal) → refusal_of_command base now (CompleteTrade id price) ≡ o
    → value_unless_refused {A = Reply × Base} o (
      reply_to_command base (stamp_of_next_command base now) (CompleteTrade id price),
      base_after_accepted_command base (stamp_of_next_command base now)
          (CompleteTrade id price),
    ) ≡ Ok (CompletedTrade stamp c, after)
    → (u : Trade) × (trade_with_id after id ≡ Some u) × PrintsReplyFigures after u c
unfolding reply_to_command
told_of base after now id price stamp c books (Some refusal) e k = absurd (cc)
told_of base after now id price stamp c books None e k =
    let t = result_named base now id price e in
    let made : Reply × Base = (reply_to_command base (stamp_of_next_command base now) (CompleteTrade id price), base_after_command base now (CompleteTrade id price)) in
    let wanted : Reply × Base = (CompletedTrade stamp c, after) in
    let both : made ≡ wanted = cc in
    let reply : option_map_or (λ t. CompletedTrade (stamp_of_next_command base now) (completion_of_trade base (stamp_of_next_command base now) price t))
    (trade_with_id base id) (Booked (stamp_of_next_command base now)) ≡ CompletedTrade stamp c = ap (λ p. p.0) both in
    let same : CompletedTrade (stamp_of_next_command base now) (completion_of_trade base (stamp_of_next_command base now) price t.0) ≡ CompletedTrade stamp c =
    sym (ap (λ o. option_map_or (λ t. CompletedTrade (stamp_of_next_command base now) (completion_of_trade base (stamp_of_next_command base now) price t)) o
    (Booked (stamp_of_next_command base now))) t.1) ∙ reply in
    let figures : completion_of_trade base (stamp_of_next_command base now) price t.0 ≡ c = cc in
    let later : then_of base now price t.0 ≡ after = sym (then_is base now id price t.0 t.1) ∙ ap (λ p. p.1) both in (
      trade_after_completion base (stamp_of_next_command base now) price t.0,
      subst (λ b. trade_with_id b id ≡ Some (trade_after_completion base (stamp_of_next_command base now) price t.0)) (ap (λ p. p.1) both) (found_then base now id price t.0 books t.1 e),
      subst (PrintsReplyFigures after (trade_after_completion base (stamp_of_next_command base now) price t.0)) figures
          (subst (λ b. PrintsReplyFigures b (trade_after_completion base (stamp_of_next_command base now) price t.0)
          (completion_of_trade base (stamp_of_next_command base now) price t.0)) later (tells base now id price t.0 books t.1 e)),
    )

pub replies_told : (base after : Base) (now id price stamp : ℕ) (c : Completion) → BooksInvariant base → step base now (CompleteTrade id price) ≡ Ok (CompletedTrade stamp c, after)
    → (u : Trade) × (trade_with_id after id ≡ Some u) × PrintsReplyFigures after u c
unfolding step
replies_told base after now id price stamp c books k = told_of base after now id price stamp c books (refusal_of_command base now (CompleteTrade id price)) refl k
