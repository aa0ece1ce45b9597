use Rattle.std.proofs.Common.{◌≡◌, true, false, sym, ap, ◌∙◌, rules}
use Rattle.std.specs.Prelude.{None, Some, is_none}
use Rattle.std.specs.List.{list_any}
use Rattle.brk_money.specs.Moments.{stamp_after}
use Rattle.brk_trade_plans.specs.Feed.{states_of_quotes, has_no_state_of_symbol}
use Rattle.brk_trade_plans.specs.Reference.{later_stamp_check}
use Rattle.brk_trade_plans.proofs.Refusals.{volume_refused, clock_refused}
use Rattle.brk_trade_plans.proofs.Volumes.{at_any_stamp}
use Rattle.brk_trade_plans.proofs.feed.plan_feed.Goals as goal
use Rattle.brk_trade_plans.proofs.feed.plan_feed.Goals.{in-Some, in-None}

pub returns-in-Err-clause-planned : goal.returns-in-Err-clause-planned
returns-in-Err-clause-planned c = λ stamp.
    let quotes = states_of_quotes c.args.quotes.items in
    let refused = rw c.in-Err.is at c.in_ok-taken.ensures.refusal in
    let beyond = at_any_stamp c.match-moved.at stamp c.ticks-ticks.result.now quotes true refused.1 in
    let known : list_any (has_no_state_of_symbol quotes) c.ticks-ticks.result.now ≡ false = search rules in
    rw (← c.ticks-ticks.ensures) (volume_refused _ _ (later_stamp_check c.args.last c.args.now) known beyond ∙ ap Some (sym refused.0))

pub returns-in_default-moved-clause-planned : goal.returns-in_default-moved-clause-planned
returns-in_default-moved-clause-planned c = λ stamp.
    let quotes = states_of_quotes c.args.quotes.items in
    let within = rw c.in_default.is at c.in_ok-taken.ensures.within in
    let none = at_any_stamp c.match-moved.at stamp c.ticks-ticks.result.now quotes false within in
    let known : list_any (has_no_state_of_symbol quotes) c.ticks-ticks.result.now ≡ false = search rules in
    let ended : stamp_after c.args.last c.args.now ≡ None = elim c.match-moved.branch [ in-Some w ↦ search rules | in-None w ↦ search rules ] in
    rw (← c.ticks-ticks.ensures) (clock_refused _ _ (is_none (stamp_after c.args.last c.args.now)) known none (ap is_none ended))
