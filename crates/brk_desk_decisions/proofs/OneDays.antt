-- The decision on the first day of one-day settlement, from the facts read, is the model's.
use Rattle.std.proofs.Common.{◌≡◌, ◌≤◌, ◌∙◌, ℕ, Option, Result, Ok, Err, IfOk, ap}
use Rattle.std.specs.Prelude.{MatchResult, Some}
use Rattle.sqlite_trees.specs.declared.store.Store.{Ghosts}
use Rattle.sqlite.specs.Held.{Held}
use Rattle.brk_money.specs.Moments.{greatest_stamp}
use Rattle.brk_money.specs.declared.fault.Fault.{Fault}
use Rattle.brk_money.specs.declared.refusal.Refusal.{Refusal}
use Rattle.brk_model.specs.Base.{Base}
use Rattle.brk_model.specs.Commands.{SetOneDay}
use Rattle.brk_model.specs.Sheets.{sheets}
use Rattle.brk_model.specs.Tables.{Tables}
use Rattle.brk_model.specs.Tests.{first_refusal}
use Rattle.brk_trade_plans.specs.OneDay.{IsOneDaySettlementPlan, one_day_settlement_checks}
use Rattle.brk_trade_plans.specs.declared.plan.Plan.{Plan}
use Rattle.brk_trade_books.specs.Books.{BooksInvariant}
use Rattle.brk_trade_theorems.specs.MovePlans.{PlanOneDaySettlementPrecondition}
use Rattle.brk_trade_theorems.proofs.MovePlanning.{one_day_plan_does, one_day_refused}
use Rattle.brk_store_transactions.specs.Holds.{ReadPost}
use Rattle.brk_trade_theorems.specs.Decisions.{DecidesCommand}
use Rattle.brk_store_reads.proofs.Sequences.{read_with}

-- `last` is the last stamp of the tables, and `rule` is the first day of one-day settlement, or `None` if none is
-- set.
abbrev pub OneDaySettlementAndLastStampMatch : Option ℕ → Option ℕ → Tables → Type 0
OneDaySettlementAndLastStampMatch rule last t = (last ≡ t.last) × (rule ≡ t.rule)

-- they are known after two reads
pub last_and_rule : {S E F : Type 0} (g : Ghosts S) (old mid end : Held S) (rule last : Option ℕ) → ReadPost {E = E} g old mid (Ok last) (λ last t. last ≡ t.last)
    → ReadPost {E = F} g mid end (Ok rule) (λ rule t. rule ≡ t.rule) → ReadPost {E = Fault} g old end (Ok rule) (λ r. OneDaySettlementAndLastStampMatch r last)
last_and_rule g old mid end rule last at_last at_rule =
    read_with g old mid end {H = Fault} last rule rule (λ last t. last ≡ t.last) (λ rule t. rule ≡ t.rule) (λ r. OneDaySettlementAndLastStampMatch r last) (λ t e f. (e, f)) at_last at_rule

-- a first day of one-day settlement's plan sets it, and its refusal is that of the command
module _ (day : ℕ) (rule last : Option ℕ) (now : ℕ) (moment : now ≤ greatest_stamp) where
  looked_up : (t : Tables) → OneDaySettlementAndLastStampMatch rule last t → (base : Base) → BooksInvariant base → t ≡ sheets base → PlanOneDaySettlementPrecondition base rule last now
  looked_up t known base books e = record {
    books = books;
    rule_read = known.1 ∙ ap (λ x. x.rule) e;
    last_read = known.0 ∙ ap (λ x. x.last) e;
    moment = moment;
  }

  pub one_day_decided : (result : Result (Result Plan Refusal) Fault)
      → IfOk result (λ planned. MatchResult planned (IsOneDaySettlementPlan day rule last now) (λ refusal. first_refusal (one_day_settlement_checks day rule last now) ≡ Some refusal))
      → IfOk result (λ planned. (t : Tables) → OneDaySettlementAndLastStampMatch rule last t → DecidesCommand now (SetOneDay day) planned t)
  one_day_decided (Ok (Ok plan)) p = λ t known base books e. one_day_plan_does base day rule last now plan (looked_up t known base books e) p
  one_day_decided (Ok (Err refusal)) p = λ t known base books e. one_day_refused base day rule last now refusal (looked_up t known base books e) p
  one_day_decided (Err fault) p = tt
