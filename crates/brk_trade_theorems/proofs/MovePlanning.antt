-- Movements and the first day of one-day settlement are refused by the facts as in the model, and
-- their plans implement the commands.
use Rattle.std.proofs.Common.{◌≡◌, ◌≤◌, ℕ, ◌+◌, ◌==◌, Bool, true, false, List, [], ◌∷◌, ◌++◌, refl, sym, ◌∙◌, ap, length, filter, arith, ℤ, pos, ◌+ℤ◌, Option, Some, None}
use Rattle.std.specs.Prelude.{is_none, is_some, nat_abs, nat_le, nat_lt, option_map, unwrap_or, Ok, Err}
use Rattle.std.specs.Option.{option_map_or}
use Rattle.std.proofs.lemmas.Bool.{eq-eqb, eqb-true}
use Rattle.std.proofs.lemmas.Int.{ints}
use Rattle.brk_money.specs.Moments.{day_of, greatest_stamp, stamp_after}
use Rattle.brk_money.specs.declared.refusal.Limit.TheVariants as limit
use Rattle.brk_money.specs.declared.refusal.Refusal.{Refusal}
use Rattle.brk_money.specs.declared.refusal.Refusal.TheVariants.{NoAccount, Range, ClockEnd, TooEarly, Exists}
use Rattle.brk_model.specs.Base.{Base, account_with_id, completed_trades, opening_balance_in_accounts}
use Rattle.brk_model.specs.Commands.{Command, Booked, MovedCash, SetOneDay}
use Rattle.brk_model.specs.Derived.{Posting, balance_of_account, postings_to_account, posting_of_movement, postings_of_base}
use Rattle.brk_model.specs.Limits.{greatest_amount, greatest_id}
use Rattle.brk_model.specs.Lists.{total_by}
use Rattle.brk_model.specs.Movements.{reply_to_movement}
use Rattle.brk_model.specs.Records as records
use Rattle.brk_model.specs.Records.{Account}
use Rattle.brk_model.specs.Sheets.{sheets, tables_sorted_by_key}
use Rattle.brk_model.specs.Step.{reply_to_command, step}
use Rattle.brk_model.specs.Tables.{Tables, account_row, tables_of_base_in_schema}
use Rattle.brk_model.specs.Tests.{RefusalCheck, first_refusal, checks_of_movement, stamp_of_next_command, refusal_of_command, checks_of_command}
use Rattle.brk_trade_rows.specs.Changes.{tables_after_changes, tables_with_balance, tables_with_last_stamp, tables_with_cash_row, tables_with_one_day_settlement_start}
use Rattle.brk_ref.specs.Rows.{abstract_cash_row}
use Rattle.brk_ref_orders.specs.Records.{cash_movement_command, movement_command}
use Rattle.brk_ref_orders.specs.declared.movement.Direction.{Direction}
use Rattle.brk_ref_orders.specs.declared.movement.Direction.TheVariants.{Deposit, Withdrawal}
use Rattle.brk_ref_orders.specs.declared.movement.Movement.{Movement}
use Rattle.brk_trade_plans.specs.Movement as planner
use Rattle.brk_trade_plans.specs.Movement.{IsMovementPlan, movement_checks, cash_text_of_direction, signed_cash_amount}
use Rattle.brk_trade_plans.specs.OneDay.{IsOneDaySettlementPlan, later_one_day_settlement_start_check, one_day_settlement_checks}
use Rattle.brk_trade_plans.specs.Reference.{later_stamp_check}
use Rattle.brk_trade_plans.specs.Replies.{abstract_reply}
use Rattle.brk_trade_plans.specs.declared.movement.MovementPlanFacts.{MovementPlanFacts}
use Rattle.brk_trade_plans.specs.declared.plan.Plan.{Plan}
use Rattle.brk_trade_books.specs.Books.{BooksInvariant}
use Rattle.brk_trade_books.specs.Movements.{account_balance_after_movement, numbered_cash_row_of_movement, tables_after_movement}
use Rattle.brk_trade_books.specs.Steps.{HasTableEffect, IsAcceptedWithEffect, PreservesBooksInvariant, base_after_command}
use Rattle.brk_trade_books.proofs.MoveReading.{moves_counted, reads_last_move}
use Rattle.brk_trade_books.proofs.Movements.{books_deposit, books_one_day, books_withdrawal, step_deposit, step_one_day, step_withdrawal}
use Rattle.brk_trade_books.proofs.Order.{append_nil}
use Rattle.brk_trade_books.proofs.Places.{FoundAt, filter-one, find-at}
use Rattle.brk_trade_books.proofs.Postings.{postings_moved, total_one}
use Rattle.brk_trade_books.proofs.Reading.{is_none-map, reads_account}
use Rattle.brk_trade_theorems.specs.MovePlans.{MovementFactsMatchTables, PlanMovementPrecondition, PlanOneDaySettlementPrecondition}
use Rattle.brk_trade_theorems.specs.Plans.{PlanImplementsCommand}
use Rattle.brk_trade_theorems.proofs.OrderFinding.{same_first}
use Rattle.brk_trade_theorems.proofs.Planning.{clock_read}
use Rattle.brk_trade_theorems.proofs.TradePlanning.{is_done, refused_step, stamp_read}

-- ---- a movement in a direction

-- what a movement is in the base
abbrev moved : Direction → ℕ → ℕ → ℕ → records.Movement
moved direction stamp account amount = record { account = account; stamp = stamp; amount = signed_cash_amount direction amount; name = cash_text_of_direction direction }

-- an account that was found has the balance of the base
balance_found : (base : Base) (account : ℕ) (balance : Option ℤ) (o : Option Account) → account_with_id base account ≡ o
    → balance ≡ option_map (λ r. r.balance) (option_map (account_row base.accounts (postings_of_base base)) o) → is_none o ≡ false
    → unwrap_or balance (pos 0) ≡ balance_of_account base.accounts (postings_of_base base) account
balance_found base account balance None e h n = absurd (cc)
balance_found base account balance (Some a) e h n =
    let g : FoundAt Account (λ a. a.id == account) a base.accounts = find-at (λ a. a.id == account) base.accounts a e in
    ap (λ b. unwrap_or b (pos 0)) h ∙ ap (balance_of_account base.accounts (postings_of_base base)) (eqb-true a.id account g.passes)

summed : (opening total amount : ℤ) → opening +ℤ total +ℤ amount ≡ opening +ℤ (total +ℤ amount)
summed opening total amount = omega (arith, ints)

-- a movement adds its amount to its account's balance
balance_moved : (base : Base) (m : records.Movement)
    → balance_of_account base.accounts (postings_of_base base) m.account +ℤ m.amount ≡ account_balance_after_movement base m
unfolding balance_of_account
balance_moved base m =
    let posted : List Posting = postings_of_base base in
    let one : postings_to_account (posted ++ posting_of_movement m ∷ []) m.account ≡ postings_to_account posted m.account ++ posting_of_movement m ∷ [] =
    filter-one (λ p. p.account == m.account) posted (posting_of_movement m) [] (eq-eqb m.account m.account refl) in
    summed (opening_balance_in_accounts base.accounts m.account) (total_by (λ p. p.amount) (postings_to_account posted m.account)) m.amount
    ∙ sym (ap (λ total. opening_balance_in_accounts base.accounts m.account +ℤ total)
    (ap (λ ps. total_by (λ p. p.amount) (postings_to_account ps m.account)) (postings_moved base.accounts (completed_trades base) base.movements m)
    ∙ ap (total_by (λ p. p.amount)) one
    ∙ total_one (λ p. p.amount) (postings_to_account posted m.account) (posting_of_movement m) []
    ∙ ap (λ ps. total_by (λ p. p.amount) ps +ℤ m.amount) (append_nil (postings_to_account posted m.account))))

account_read : (base : Base) (m : Movement) (found : MovementPlanFacts) → MovementFactsMatchTables (sheets base) m found → is_none found.balance ≡ is_none (account_with_id base m.account)
account_read base m found k =
    ap is_none (k.balance ∙ ap (option_map (λ r. r.balance)) (reads_account base m.account))
    ∙ is_none-map (λ r. r.balance) (option_map (account_row base.accounts (postings_of_base base)) (account_with_id base m.account))
    ∙ is_none-map (account_row base.accounts (postings_of_base base)) (account_with_id base m.account)

balance_read : (base : Base) (m : Movement) (found : MovementPlanFacts) (stamp : ℕ) → MovementFactsMatchTables (sheets base) m found → is_none found.balance ≡ false
    → planner.balance_after_movement m found ≡ account_balance_after_movement base (moved m.direction stamp m.account m.amount)
balance_read base m found stamp k there =
    let balance = balance_found base m.account found.balance (account_with_id base m.account) refl
    (k.balance ∙ ap (option_map (λ r. r.balance)) (reads_account base m.account)) (sym (account_read base m found k) ∙ there) in
    ap (λ z. z +ℤ planner.signed_amount_of_movement m) balance ∙ balance_moved base (moved m.direction stamp m.account m.amount)

tests_read : (base : Base) (m : Movement) (found : MovementPlanFacts) (last : Option ℕ) (now stamp : ℕ) → PlanMovementPrecondition base m found last now
    → first_refusal (movement_checks m found ++ later_stamp_check last now ∷ [])
    ≡ first_refusal (checks_of_movement base (moved m.direction stamp m.account m.amount) ++ (nat_lt greatest_stamp (stamp_of_next_command base now), ClockEnd) ∷ (false, TooEarly) ∷ [])
tests_read base m found last now stamp k =
    let alike = same_first (is_none found.balance) (is_none (account_with_id base m.account)) NoAccount
    ((nat_lt greatest_amount (nat_abs (planner.balance_after_movement m found)), Range limit.Balance) ∷ (found.has_all_movements, Range limit.Moves) ∷ later_stamp_check last now ∷ [])
    ((nat_lt greatest_amount (nat_abs (account_balance_after_movement base (moved m.direction stamp m.account m.amount))), Range limit.Balance)
    ∷ (nat_le greatest_id (length base.movements), Range limit.Moves) ∷ (nat_lt greatest_stamp (stamp_of_next_command base now), ClockEnd) ∷ (false, TooEarly) ∷ [])
    (account_read base m found k.looked_up) (λ there.
    same_first _ _ (Range limit.Balance) _ _ (ap (λ z. nat_lt greatest_amount (nat_abs z)) (balance_read base m found stamp k.looked_up there)) (λ _.
    same_first _ _ (Range limit.Moves) _ _ (k.looked_up.counted ∙ ap (nat_le greatest_id) (moves_counted base)) (λ _.
    same_first _ _ ClockEnd _ _ (clock_read base last now k.books k.last_read k.moment) (λ _. record { first = refl })))) in
    alike.first

refused_as : (base : Base) (now : ℕ) (m : Movement) (d : Direction) → m.direction ≡ d
    → first_refusal (checks_of_movement base (moved d (stamp_of_next_command base now) m.account m.amount)
    ++ (nat_lt greatest_stamp (stamp_of_next_command base now), ClockEnd) ∷ (false, TooEarly) ∷ [])
    ≡ refusal_of_command base now (cash_movement_command d m.account m.amount)
unfolding refusal_of_command checks_of_command
refused_as base now m Deposit e = refl
refused_as base now m Withdrawal e = refl

pub move_read : (base : Base) (m : Movement) (found : MovementPlanFacts) (last : Option ℕ) (now : ℕ) → PlanMovementPrecondition base m found last now
    → first_refusal (movement_checks m found ++ later_stamp_check last now ∷ []) ≡ refusal_of_command base now (movement_command m)
move_read base m found last now k = tests_read base m found last now (stamp_of_next_command base now) k ∙ refused_as base now m m.direction refl

pub move_refused : (base : Base) (m : Movement) (found : MovementPlanFacts) (last : Option ℕ) (now : ℕ) (refusal : Refusal) → PlanMovementPrecondition base m found last now
    → first_refusal (movement_checks m found ++ later_stamp_check last now ∷ []) ≡ Some refusal → step base now (movement_command m) ≡ Err refusal
move_refused base m found last now refusal k e = refused_step base now (movement_command m) refusal (sym (move_read base m found last now k) ∙ e)

-- the rows, the books and the reply, in either direction
rows_as : (base : Base) (now account amount : ℕ) (d : Direction)
    → HasTableEffect base now (cash_movement_command d account amount) (tables_after_movement base (moved d (stamp_of_next_command base now) account amount))
rows_as base now account amount Deposit = step_deposit base now account amount
rows_as base now account amount Withdrawal = step_withdrawal base now account amount

books_as : (base : Base) (now account amount : ℕ) (d : Direction) → PreservesBooksInvariant base now (cash_movement_command d account amount)
books_as base now account amount Deposit = books_deposit base now account amount
books_as base now account amount Withdrawal = books_withdrawal base now account amount

reply_as : (base : Base) (stamp account amount : ℕ) (d : Direction) → reply_to_command base stamp (cash_movement_command d account amount) ≡ reply_to_movement base (moved d stamp account amount)
unfolding reply_to_command
reply_as base stamp account amount Deposit = refl
reply_as base stamp account amount Withdrawal = refl

-- a first test that finds nothing wrong
first_passes : (b : Bool) (refusal : Refusal) (ts : List RefusalCheck) → first_refusal ((b, refusal) ∷ ts) ≡ None → b ≡ false
first_passes true refusal ts e = absurd (cc)
first_passes false refusal ts e = refl

pub move_plan_does : (base : Base) (m : Movement) (found : MovementPlanFacts) (last : Option ℕ) (now : ℕ) (plan : Plan) → PlanMovementPrecondition base m found last now
    → IsMovementPlan m found last now plan → PlanImplementsCommand base now (movement_command m) plan
move_plan_does base m found last now plan k p =
    let command : Command = movement_command m in
    let next : p.stamp ≡ stamp_of_next_command base now = stamp_read base last now p.stamp k.last_read p.stamped in
    let accepted : refusal_of_command base now command ≡ None = sym (move_read base m found last now k) ∙ p.accepted in
    let there : is_none found.balance ≡ false = first_passes (is_none found.balance) NoAccount
    ((nat_lt greatest_amount (nat_abs (planner.balance_after_movement m found)), Range limit.Balance) ∷ (found.has_all_movements, Range limit.Moves) ∷ later_stamp_check last now ∷ []) p.accepted in
    let number : found.next ≡ length (postings_of_base base) + 1 = k.looked_up.next ∙ ap (λ n. n + 1) (reads_last_move base) in
    let balance : planner.balance_after_movement m found ≡ account_balance_after_movement base (moved m.direction p.stamp m.account m.amount) = balance_read base m found p.stamp k.looked_up there in
    let row : abstract_cash_row p.moves.row ≡ numbered_cash_row_of_movement base (moved m.direction p.stamp m.account m.amount) = p.moves.posted
    ∙ (λ i. record (planner.cash_row_of_movement m found.next p.stamp) { id = number i }) in
    let told : reply_to_movement base (moved m.direction p.stamp m.account m.amount) ≡ abstract_reply plan.reply =
    (λ i. MovedCash p.stamp (sym number i) (sym balance i)) ∙ sym (ap abstract_reply p.moves.replied) in
    let change : ℕ → Tables → Tables = λ stamp. tables_after_movement base (moved m.direction stamp m.account m.amount) in
    let done : IsAcceptedWithEffect base now command p.stamp (abstract_reply plan.reply) (change p.stamp) =
    is_done base now command p.stamp (abstract_reply plan.reply) change k.books accepted next
    (reply_as base (stamp_of_next_command base now) m.account m.amount m.direction ∙ ap (λ stamp. reply_to_movement base (moved m.direction stamp m.account m.amount)) (sym next) ∙ told)
    (rows_as base now m.account m.amount m.direction) (books_as base now m.account m.amount m.direction) in
    record {
      steps = done.steps;
      rows = done.rows ∙ (λ i. tables_with_last_stamp p.stamp (tables_with_balance m.account (sym balance i) (tables_with_cash_row (sym row i) (sheets base))))
          ∙ ap (λ changes. tables_after_changes changes (sheets base)) (sym p.moves.changes);
      books_after = done.books_after;
    }

-- ---- one-day settlement

rule_is : (base : Base) → (sheets base).rule ≡ base.rule
unfolding tables_of_base_in_schema tables_sorted_by_key
rule_is base = refl

-- where no stamp is left, it does not matter whether the day is too early
early_read : (base : Base) (day : ℕ) (last : Option ℕ) (now : ℕ) (o : Option ℕ) → BooksInvariant base → last ≡ (sheets base).last → now ≤ greatest_stamp → stamp_after last now ≡ o
    → first_refusal ((is_none o, ClockEnd) ∷ (option_map_or (λ stamp. nat_le day (day_of stamp)) o false, TooEarly) ∷ [])
    ≡ first_refusal ((nat_lt greatest_stamp (stamp_of_next_command base now), ClockEnd) ∷ (nat_le day (day_of (stamp_of_next_command base now)), TooEarly) ∷ [])
early_read base day last now None books l h e =
    let late : true ≡ nat_lt greatest_stamp (stamp_of_next_command base now) = sym (ap is_none e) ∙ clock_read base last now books l h in
    ap (λ b. first_refusal ((b, ClockEnd) ∷ (nat_le day (day_of (stamp_of_next_command base now)), TooEarly) ∷ [])) late
early_read base day last now (Some stamp) books l h e =
    let in_time : false ≡ nat_lt greatest_stamp (stamp_of_next_command base now) = sym (ap is_none e) ∙ clock_read base last now books l h in
    λ i. first_refusal ((in_time i, ClockEnd) ∷ (nat_le day (day_of (stamp_read base last now stamp l e i)), TooEarly) ∷ [])

pub one_day_read : (base : Base) (day : ℕ) (rule last : Option ℕ) (now : ℕ) → PlanOneDaySettlementPrecondition base rule last now
    → first_refusal (one_day_settlement_checks day rule last now) ≡ refusal_of_command base now (SetOneDay day)
unfolding refusal_of_command checks_of_command
one_day_read base day rule last now k =
    let later = early_read base day last now (stamp_after last now) k.books k.last_read k.moment refl in
    (same_first (is_some rule) (is_some base.rule) Exists (later_stamp_check last now ∷ later_one_day_settlement_start_check day last now ∷ [])
    ((nat_lt greatest_stamp (stamp_of_next_command base now), ClockEnd) ∷ (nat_le day (day_of (stamp_of_next_command base now)), TooEarly) ∷ [])
    (ap is_some (k.rule_read ∙ rule_is base)) (λ _. record { first = later })).first

pub one_day_refused : (base : Base) (day : ℕ) (rule last : Option ℕ) (now : ℕ) (refusal : Refusal) → PlanOneDaySettlementPrecondition base rule last now
    → first_refusal (one_day_settlement_checks day rule last now) ≡ Some refusal → step base now (SetOneDay day) ≡ Err refusal
one_day_refused base day rule last now refusal k e = refused_step base now (SetOneDay day) refusal (sym (one_day_read base day rule last now k) ∙ e)

pub one_day_plan_does : (base : Base) (day : ℕ) (rule last : Option ℕ) (now : ℕ) (plan : Plan) → PlanOneDaySettlementPrecondition base rule last now
    → IsOneDaySettlementPlan day rule last now plan → PlanImplementsCommand base now (SetOneDay day) plan
unfolding reply_to_command
one_day_plan_does base day rule last now plan k p =
    let next : p.stamp ≡ stamp_of_next_command base now = stamp_read base last now p.stamp k.last_read p.stamped in
    let accepted : refusal_of_command base now (SetOneDay day) ≡ None = sym (one_day_read base day rule last now k) ∙ p.accepted in
    let done : IsAcceptedWithEffect base now (SetOneDay day) p.stamp (Booked p.stamp) (tables_with_one_day_settlement_start day) =
    is_done base now (SetOneDay day) p.stamp (Booked p.stamp) (λ stamp. tables_with_one_day_settlement_start day) k.books accepted next (ap Booked (sym next))
    (step_one_day base now day) (books_one_day base now day) in
    record {
      steps = done.steps ∙ ap (λ reply. Ok (reply, base_after_command base now (SetOneDay day))) (sym (ap abstract_reply p.replied));
      rows = done.rows ∙ ap (λ changes. tables_after_changes changes (sheets base)) (sym p.changes);
      books_after = done.books_after;
    }
