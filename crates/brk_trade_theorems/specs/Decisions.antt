-- Decisions: a command becomes a plan or a refusal.
use Rattle.std.specs.Prelude.{◌≡◌, ℕ, Result, Err, MatchResult}
use Rattle.brk_money.specs.declared.refusal.Refusal.{Refusal}
use Rattle.brk_model.specs.Base.{Base}
use Rattle.brk_model.specs.Sheets.{sheets}
use Rattle.brk_model.specs.Commands.{Command}
use Rattle.brk_model.specs.Step.{step}
use Rattle.brk_model.specs.Tables.{Tables}
use Rattle.brk_trade_plans.specs.declared.plan.Plan.{Plan}
use Rattle.brk_trade_books.specs.Books.{BooksInvariant}
use Rattle.brk_trade_theorems.specs.Plans.{PlanImplementsCommand}

-- `planned` is the model's decision on `command` at `now`, in milliseconds since 1970-01-01 UTC,
-- for every base with the tables `t` and the books invariant: a plan implements the command
-- (`PlanImplementsCommand`), a refusal is the one of the step. Vacuous without such a base.
abbrev pub DecidesCommand : ℕ → Command → Result Plan Refusal → Tables → Type 0
DecidesCommand now command planned t =
    (base : Base) → BooksInvariant base → t ≡ sheets base
    → MatchResult planned (PlanImplementsCommand base now command) (λ refusal. step base now command ≡ Err refusal)
