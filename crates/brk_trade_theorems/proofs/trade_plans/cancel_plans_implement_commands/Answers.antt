use Rattle.brk_trade_theorems.proofs.CancelPlanning.{cancel_read, cancel_refused, cancel_plan_does}
use Rattle.brk_trade_theorems.proofs.trade_plans.cancel_plans_implement_commands.Goals as goal

pub returns : goal.returns
returns c = λ base id found last now given. record {
  first = cancel_read base id found last now given;
  refused = λ refusal. cancel_refused base id found last now refusal given;
  done = λ plan. cancel_plan_does base id found last now plan given;
}
