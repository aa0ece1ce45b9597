-- An accepted movement in the audit's formats, and an accepted first day of one-day settlement,
-- preserve the audit invariant.
use Rattle.std.proofs.Common.{◌≡◌, ◌≤◌, ◌<◌, ℕ, zero, suc, ◌+◌, ◌==◌, Bool, true, false, not, cond, List, [], ◌∷◌, ◌++◌, refl, sym, ◌∙◌, ap, subst, map, length, arith, Some, None, pos, neg_ℤ}
use Rattle.std.specs.Prelude.{◌&&◌, ◌||◌, codes, nat_abs, nat_le, nat_lt}
use Rattle.std.specs.List.{AllByRecursion}
use Rattle.std.proofs.lemmas.Bool.{and_from, and_parts, eqb-true, leb-true, le-leb, ltb-false, or_left}
use Rattle.std.proofs.lemmas.Bool.Decides.{nat_tests}
use Rattle.brk_money.specs.Spelling.{is_within_amount_limit}
use Rattle.brk_money.specs.Kinds.{is_same_trade_status}
use Rattle.brk_money.specs.Moments.{day_of, greatest_day}
use Rattle.brk_money.specs.declared.status.Status.TheVariants.{Completed}
use Rattle.brk_model.specs.Limits.{greatest_amount, greatest_id}
use Rattle.brk_model.specs.Records.{StatusChange, Movement, SettleRule, Trade}
use Rattle.brk_model.specs.Base.{Base}
use Rattle.brk_model.specs.Commands.{DepositCash, WithdrawCash, SetOneDay}
use Rattle.brk_model.specs.Derived.{balance_of_account, due_day_of_completion_stamp, postings_of_base}
use Rattle.brk_model.specs.Form.{is_movement_name_and_amount}
use Rattle.brk_model.specs.Movements.{deposit_movement, withdrawal_movement, base_after_movement}
use Rattle.brk_model.specs.Step.{base_after_command_unstamped}
use Rattle.brk_model.specs.Ways.{is_strictly_ascending}
use Rattle.brk_model.specs.Tests.{stamp_of_next_command, checks_of_command}
use Rattle.brk_trade_books.specs.Books.{BooksInvariant}
use Rattle.brk_trade_books.proofs.MovementOrder.{movements_before}
use Rattle.brk_trade_books.proofs.Movements.{others_stay, unset}
use Rattle.brk_trade_books.proofs.Same.{All-append, All-map, All-mapped, map-last}
use Rattle.brk_trade_books.proofs.Tested.{passed}
use Rattle.brk_audit_theorems.specs.Sound.{HasDueDayInCalendar, AuditInvariant, TradeAuditInvariant, BaseTradeAuditInvariant, is_well_formed_movement}
use Rattle.brk_audit_theorems.specs.InForm.{is_movement_amount_within_limits}
use Rattle.brk_audit_theorems.proofs.OneTrade.{rising_more, sound_last}
use Rattle.brk_audit_theorems.proofs.SoundRecords.{LeavesSound}

-- ---- a movement

deposited : (n : ℕ) → is_movement_amount_within_limits n ≡ true → is_movement_name_and_amount (codes "Deposit") (pos n) && is_within_amount_limit (pos n) ≡ true
deposited zero e = e
deposited (suc n) e =
    let k = and_parts (nat_le 1 (suc n)) (nat_le (suc n) greatest_amount) e in
    and_from (nat_le 1 (suc n) || false) (nat_le (suc n) greatest_amount) (or_left (nat_le 1 (suc n)) false k.0) k.1

withdrawn : (n : ℕ) → is_movement_amount_within_limits n ≡ true → is_movement_name_and_amount (codes "Withdrawal") (neg_ℤ (pos n)) && is_within_amount_limit (neg_ℤ (pos n)) ≡ true
withdrawn zero e = e
withdrawn (suc n) e = (and_parts (nat_le 1 (suc n)) (nat_le (suc n) greatest_amount) e).1

balances_moved : (base : Base) (m : Movement) → ((id : ℕ) → nat_abs (balance_of_account base.accounts (postings_of_base base) id) ≤ greatest_amount)
    → nat_lt greatest_amount (nat_abs (balance_of_account base.accounts (postings_of_base (base_after_movement base m)) m.account)) ≡ false
    → (id : ℕ) → nat_abs (balance_of_account base.accounts (postings_of_base (base_after_movement base m)) id) ≤ greatest_amount
balances_moved base m h tested id = by_test (id == m.account) refl
  where
    Low : ℕ → Type 0
    Low n = nat_abs (balance_of_account base.accounts (postings_of_base (base_after_movement base m)) n) ≤ greatest_amount

    by_test : (b : Bool) → (id == m.account) ≡ b → Low id
    by_test true e = subst Low (sym (eqb-true id m.account e)) (ltb-false greatest_amount _ tested)
    by_test false e = subst (λ z. nat_abs z ≤ greatest_amount) (sym (others_stay base m id e)) (h id)

one_more : (ms : List Movement) (m : Movement) → nat_le greatest_id (length ms) ≡ false → length (ms ++ m ∷ []) ≤ greatest_id
one_more ms m e = let k = grown ms in few (length ms) (length (ms ++ m ∷ [])) e k
  where
    grown : (ns : List Movement) → length (ns ++ m ∷ []) ≡ length ns + 1
    grown [] = refl
    grown (n ∷ ns) = let h = grown ns in omega (arith, h)

    few : (a b : ℕ) → nat_le greatest_id a ≡ false → b ≡ a + 1 → b ≤ greatest_id
    few a b e h = grind (arith, nat_tests)

-- the tests of a movement, of which none found anything wrong
abbrev Tested : Base → Movement → Type 0
Tested base m = (nat_lt greatest_amount (nat_abs (balance_of_account base.accounts (postings_of_base (base_after_movement base m)) m.account)) ≡ false)
    × (nat_le greatest_id (length base.movements) ≡ false)

sound_movement : (base : Base) (now : ℕ) (m : Movement) → m.stamp ≡ stamp_of_next_command base now → is_well_formed_movement m ≡ true → Tested base m → AuditInvariant base → BooksInvariant base
    → AuditInvariant (record (base_after_movement base m) { last = Some (stamp_of_next_command base now) })
sound_movement base now m s f tested k books =
    let l = sound_last base now k in
    record {
      keyed = l.keyed;
      parties = l.parties;
      terms = l.terms;
      listed = l.listed;
      trades = l.trades;
      cash = record {
        fields = All-append (λ m. is_well_formed_movement m ≡ true) base.movements (m ∷ []) k.cash.fields (f, tt);
        risen = ap is_strictly_ascending (map-last (λ m. m.stamp) base.movements m)
            ∙ rising_more (map (λ m. m.stamp) base.movements) m.stamp k.cash.risen (All-mapped (λ n. n < m.stamp) (λ m. m.stamp) base.movements
            (subst (λ (n : ℕ). AllByRecursion (λ x. x.stamp < n) base.movements) (sym s) (movements_before base now books.movements)));
        few = one_more base.movements m tested.1;
        day = k.cash.day;
      };
      sums = record { summaries = l.summaries; balances = balances_moved base m k.balances tested.0; commissions = l.commissions };
    }

pub sound_deposit : (base : Base) (now account amount : ℕ) → LeavesSound base now (DepositCash account amount)
unfolding base_after_command_unstamped checks_of_command
sound_deposit base now account amount k books form e =
    let p = passed base now (DepositCash account amount) e in
    sound_movement base now (deposit_movement (stamp_of_next_command base now) account amount) refl (deposited amount form) (p.1.0, p.1.1.0) k books

pub sound_withdrawal : (base : Base) (now account amount : ℕ) → LeavesSound base now (WithdrawCash account amount)
unfolding base_after_command_unstamped checks_of_command
sound_withdrawal base now account amount k books form e =
    let p = passed base now (WithdrawCash account amount) e in
    sound_movement base now (withdrawal_movement (stamp_of_next_command base now) account amount) refl (withdrawn amount form) (p.1.0, p.1.1.0) k books

-- ---- one-day settlement

-- one day is no later than two
earlier : (n : ℕ) (b : Bool) → nat_le (n + 2) greatest_day ≡ true → nat_le (n + cond b 1 2) greatest_day ≡ true
earlier n true h = le-leb (n + 1) greatest_day (let k = leb-true (n + 2) greatest_day h in omega (arith, k))
earlier n false h = h

due_earlier : (rule : SettleRule) (day : ℕ) (m : StatusChange) → rule ≡ None → HasDueDayInCalendar rule m → HasDueDayInCalendar (Some day) m
due_earlier rule day m e h = by_status (is_same_trade_status m.status Completed) refl (subst (λ r. HasDueDayInCalendar r m) e h)
  where
    by_status : (b : Bool) → is_same_trade_status m.status Completed ≡ b → HasDueDayInCalendar None m → HasDueDayInCalendar (Some day) m
    by_status true s h =
        ap (λ b. not b || nat_le (due_day_of_completion_stamp (Some day) m.stamp) greatest_day) s
        ∙ earlier (day_of m.stamp) (nat_le day (day_of m.stamp)) (sym (ap (λ b. not b || nat_le (due_day_of_completion_stamp None m.stamp) greatest_day) s) ∙ h)
    by_status false s h = ap (λ b. not b || nat_le (due_day_of_completion_stamp (Some day) m.stamp) greatest_day) s

trade_dated : (c : Base) (day : ℕ) (t : Trade) → c.rule ≡ None → BaseTradeAuditInvariant c t → TradeAuditInvariant c.last (Some day) c.accounts c.securities t
trade_dated c day t e k = record { alone = k.alone; past = k.past; due = All-map t.marks (λ m h. due_earlier c.rule day m e h) k.due; cash_name = k.cash_name; amount = k.amount }

pub sound_one_day : (base : Base) (now day : ℕ) → LeavesSound base now (SetOneDay day)
unfolding base_after_command_unstamped checks_of_command
sound_one_day base now day k books form e =
    let l = sound_last base now k in
    let c : Base = record base { last = Some (stamp_of_next_command base now) } in
    let none : base.rule ≡ None = unset base.rule (passed base now (SetOneDay day) e).0 in
    record {
      keyed = l.keyed;
      parties = l.parties;
      terms = l.terms;
      listed = l.listed;
      trades = All-map base.trades (λ t h. trade_dated c day t none h) l.trades;
      cash = record { fields = k.cash.fields; risen = k.cash.risen; few = k.cash.few; day = form };
      sums = l.sums;
    }
