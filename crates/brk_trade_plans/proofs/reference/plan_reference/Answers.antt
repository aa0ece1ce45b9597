use Rattle.std.proofs.Common.{[], ◌∷◌, sym, ap, ◌∙◌}
use Rattle.brk_model.specs.Tests.{first_refusal}
use Rattle.brk_trade_plans.specs.Reference.{later_stamp_check, reference_checks}
use Rattle.brk_trade_plans.proofs.Refusals.{first_joined, first_of}
use Rattle.brk_trade_plans.proofs.reference.plan_reference.Goals as goal

pub returns-in-Some-clause-planned : goal.returns-in-Some-clause-planned
returns-in-Some-clause-planned c =
    let clock = later_stamp_check c.args.last c.args.now ∷ [] in
    first_joined (reference_checks c.args.reference.now c.args.found) clock ∙ ap (λ refusal. first_of refusal (first_refusal clock)) (sym c.in-Some.ensures)
