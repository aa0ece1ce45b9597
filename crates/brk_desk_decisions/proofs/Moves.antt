-- The decision on a deposit or a withdrawal, from the facts read, is the model's.
use Rattle.std.proofs.Common.{◌≡◌, ◌≤◌, ◌∙◌, Bool, ℕ, ℤ, Option, Result, Ok, Err, IfOk, ap, filter, length, subst}
use Rattle.std.specs.Prelude.{MatchResult, ◌∷◌, ◌++◌, [], Some, is_none, nat_le, option_map}
use Rattle.sqlite_trees.specs.declared.store.Store.{Ghosts}
use Rattle.sqlite.specs.Held.{Held}
use Rattle.brk_money.specs.Moments.{greatest_stamp}
use Rattle.brk_money.specs.declared.fault.Fault.{Fault}
use Rattle.brk_money.specs.declared.refusal.Refusal.{Refusal}
use Rattle.brk_model.specs.Base.{Base}
use Rattle.brk_model.specs.Joins.{account_row_with_id}
use Rattle.brk_model.specs.Limits.{greatest_id}
use Rattle.brk_model.specs.Sheets.{sheets}
use Rattle.brk_model.specs.Tables.{Tables}
use Rattle.brk_model.specs.Tests.{first_refusal}
use Rattle.brk_ref_orders.specs.Records.{movement_command}
use Rattle.brk_ref_orders.specs.declared.movement.Movement.{Movement}
use Rattle.brk_trade_plans.specs.Movement.{IsMovementPlan, movement_checks}
use Rattle.brk_trade_plans.specs.Reference.{later_stamp_check}
use Rattle.brk_trade_plans.specs.declared.movement.MovementPlanFacts.{MovementPlanFacts}
use Rattle.brk_trade_plans.specs.declared.plan.Plan.{Plan}
use Rattle.brk_trade_books.specs.Books.{BooksInvariant}
use Rattle.brk_trade_theorems.specs.MovePlans.{MovementFactsMatchTables, PlanMovementPrecondition}
use Rattle.brk_trade_theorems.proofs.MovePlanning.{move_plan_does, move_refused}
use Rattle.brk_store_transactions.specs.Holds.{ReadPost}
use Rattle.brk_trade_theorems.specs.Decisions.{DecidesCommand}
use Rattle.brk_store_reads.proofs.Sequences.{read_with}

-- `balance` is the balance of the account with the id `account`, or `None` if the account does not
-- exist.
abbrev pub IsBalanceOfAccount : ℕ → Option ℤ → Tables → Type 0
IsBalanceOfAccount account balance t = balance ≡ option_map (λ r. r.balance) (account_row_with_id t account)

-- `all` is true if and only if there are at least `greatest_id` deposits and withdrawals.
abbrev pub IsTrueIfMovementsAreMaximum : Bool → Tables → Type 0
IsTrueIfMovementsAreMaximum all t = all ≡ nat_le greatest_id (length (filter (λ r. is_none r.trade) t.moves))

-- `last` is the last stamp of the tables, and the facts for the movement equal those of the tables.
abbrev pub MovementFactsAndLastStampMatch : Movement → MovementPlanFacts → Option ℕ → Tables → Type 0
MovementFactsAndLastStampMatch m found last t = (last ≡ t.last) × MovementFactsMatchTables t m found

-- they are known after two reads
pub last_and_found : {S E F : Type 0} (g : Ghosts S) (old mid end : Held S) (m : Movement) (found : MovementPlanFacts) (last : Option ℕ)
    → ReadPost {E = E} g old mid (Ok last) (λ last t. last ≡ t.last)
    → ReadPost {E = F} g mid end (Ok found) (λ found t. MovementFactsMatchTables t m found) → ReadPost {E = Fault} g old end (Ok found) (λ f. MovementFactsAndLastStampMatch m f last)
last_and_found g old mid end m found last at_last at_found =
    read_with g old mid end {H = Fault} last found found (λ last t. last ≡ t.last) (λ found t. MovementFactsMatchTables t m found)
    (λ f. MovementFactsAndLastStampMatch m f last) (λ t e f. (e, f)) at_last at_found

-- a movement's plan does it, and its refusal is that of the command
module _ (m : Movement) (found : MovementPlanFacts) (last : Option ℕ) (now : ℕ) (moment : now ≤ greatest_stamp) where
  looked_up : (t : Tables) → MovementFactsAndLastStampMatch m found last t → (base : Base) → BooksInvariant base → t ≡ sheets base → PlanMovementPrecondition base m found last now
  looked_up t known base books e = record {
    books = books;
    looked_up = subst (λ x. MovementFactsMatchTables x m found) e known.1;
    last_read = known.0 ∙ ap (λ x. x.last) e;
    moment = moment;
  }

  pub move_decided : (result : Result (Result Plan Refusal) Fault)
      → IfOk result (λ planned. MatchResult planned (IsMovementPlan m found last now) (λ refusal. first_refusal (movement_checks m found ++ later_stamp_check last now ∷ []) ≡ Some refusal))
      → IfOk result (λ planned. (t : Tables) → MovementFactsAndLastStampMatch m found last t → DecidesCommand now (movement_command m) planned t)
  move_decided (Ok (Ok plan)) p = λ t known base books e. move_plan_does base m found last now plan (looked_up t known base books e) p
  move_decided (Ok (Err refusal)) p = λ t known base books e. move_refused base m found last now refusal (looked_up t known base books e) p
  move_decided (Err fault) p = tt
