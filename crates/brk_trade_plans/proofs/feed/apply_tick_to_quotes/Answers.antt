use Rattle.std.proofs.Common.{◌∙◌}
use Rattle.std.proofs.lemmas.Iterator.Adapters.{YieldsList-from_vec}
use Rattle.std.proofs.lemmas.Iterator.Consumers.{YieldsList-turn}
use Rattle.brk_trade_plans.proofs.Volumes.{one_of_all}
use Rattle.brk_trade_plans.proofs.feed.apply_tick_to_quotes.Goals as goal

pub returns-in-Err-clause-refusal : goal.returns-in-Err-clause-refusal
returns-in-Err-clause-refusal c =
    let quotes = c.args.quotes.items in
    let refused = rw c.in-Err.is at c.in_ok-quote.ensures.refusal in
    let given = c.into_iter-quote-iterator.ensures.into_iter_gives in
    let turn = YieldsList-turn (YieldsList-from_vec {s = c.into_iter-quote-iterator.result} quotes given.0 (given.1 ∙ c.args.quotes.ok.0)) c.loop-quote.yielded
    c.loop-quote.quote-iterator c.loop-quote.yielded_by c.next.result c.next.new.self c.in-Some.quote c.in-Some.is c.next.ensures.steps in
    (refused.0, one_of_all c.args.stamp c.args.tick.now quotes _ c.in-Some.quote turn refused.1)
