use Rattle.brk_trade_theorems.proofs.FeedPlanning.{feed_read, feed_refused, feed_plan_does}
use Rattle.brk_trade_theorems.proofs.trade_plans.feed_plans_implement_commands.Goals as goal

pub returns : goal.returns
returns c = λ base ticks quotes last now given. record {
  first = λ stamp. feed_read base stamp ticks quotes last now given;
  refused = λ stamp refusal. feed_refused base stamp ticks quotes last now refusal given;
  done = λ plan. feed_plan_does base ticks quotes last now plan given;
}
