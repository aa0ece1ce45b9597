-- Correct plans: their row changes lead from the tables before the command to those after it.
use Rattle.std.specs.Prelude.{◌≡◌, ◌≤◌, ℕ, Option, Ok}
use Rattle.brk_money.specs.Moments.{greatest_stamp}
use Rattle.brk_model.specs.Base.{Base}
use Rattle.brk_model.specs.Sheets.{sheets}
use Rattle.brk_model.specs.Commands.{Command}
use Rattle.brk_model.specs.Step.{step}
use Rattle.brk_trade_rows.specs.Changes.{tables_after_changes}
use Rattle.brk_trade_plans.specs.declared.plan.Plan.{Plan}
use Rattle.brk_trade_plans.specs.declared.reference.ReferenceFacts.{ReferenceFacts}
use Rattle.brk_trade_plans.specs.declared.reference.Reference.{Reference}
use Rattle.brk_trade_books.specs.Books.{BooksInvariant}
use Rattle.brk_trade_plans.specs.Replies.{abstract_reply}
use Rattle.brk_trade_theorems.specs.Found.{ReferenceFactsMatchTables}
use Rattle.brk_trade_books.specs.Steps.{base_after_command}

-- The precondition of planning a record of reference data: the base satisfies the books invariant,
-- `found` and the last stamp are read from its tables, and `now` is within the range of stamps.
pub record PlanReferencePrecondition (base : Base) (reference : Reference) (found : ReferenceFacts) (last : Option ℕ) (now : ℕ) : Type 0 where
  pub books : BooksInvariant base
  pub looked_up : ReferenceFactsMatchTables (sheets base) reference found
  pub last_read : last ≡ (sheets base).last
  pub moment : now ≤ greatest_stamp

-- The plan implements the command: the base accepts it at `now` with the plan's reply, the plan's
-- row changes lead to the tables after it, and the base after it satisfies the books invariant.
pub record PlanImplementsCommand (base : Base) (now : ℕ) (command : Command) (plan : Plan) : Type 0 where
  pub steps : step base now command ≡ Ok (abstract_reply plan.reply, base_after_command base now command)
  pub rows : sheets (base_after_command base now command) ≡ tables_after_changes plan.changes.items (sheets base)
  pub books_after : BooksInvariant (base_after_command base now command)
