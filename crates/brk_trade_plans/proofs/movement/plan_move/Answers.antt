use Rattle.std.proofs.Common.{[], ◌∷◌, ap, ◌∙◌}
use Rattle.brk_model.specs.Tests.{first_refusal}
use Rattle.brk_trade_plans.specs.Movement.{movement_checks}
use Rattle.brk_trade_plans.specs.Reference.{later_stamp_check}
use Rattle.brk_trade_plans.proofs.Refusals.{first_joined, first_of}
use Rattle.brk_trade_plans.proofs.movement.plan_move.Goals as goal

pub returns-in-Err-clause-planned : goal.returns-in-Err-clause-planned
returns-in-Err-clause-planned c =
    let clock = later_stamp_check c.args.last c.args.now ∷ [] in
    first_joined (movement_checks c.args.movement.now c.args.found.now) clock ∙ ap (λ refusal. first_of refusal (first_refusal clock)) c.in-Err.ensures
