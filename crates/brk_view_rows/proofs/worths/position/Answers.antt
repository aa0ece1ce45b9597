use Rattle.std.proofs.Common.{◌∙◌, ap, map, refl}
use Rattle.brk_view_rows.specs.Worths.{account_worth_record}
use Rattle.brk_view_rows.proofs.Shown.{position_shown}
use Rattle.brk_view_rows.proofs.worths.position.Goals as goal

pub returns-clause-view : goal.returns-clause-view
returns-clause-view c = λ t test e. ap (map account_worth_record) c.in_ok-ordered.ensures.order ∙ position_shown t test c.args.accounts.items e

pub returns-clause-value : goal.returns-clause-value
returns-clause-value c = (c.in_ok-ordered.ordered, refl, c.in_ok-ordered.ensures.order)
