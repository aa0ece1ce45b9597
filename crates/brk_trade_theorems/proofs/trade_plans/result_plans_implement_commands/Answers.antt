use Rattle.brk_lots.specs.Sources.{EqualsLots}
use Rattle.brk_trade_theorems.proofs.ResultDoing.{result_plan_does}
use Rattle.brk_trade_theorems.proofs.ResultRefusing.{result_refused}
use Rattle.brk_trade_theorems.proofs.trade_plans.result_plans_implement_commands.Goals as goal

pub returns : goal.returns
returns c = λ base id price found lots last now given. record {
  refused = λ refusal. result_refused base id price found (EqualsLots lots) last now refusal given;
  done = λ plan. result_plan_does base id price found (EqualsLots lots) last now plan given;
}
