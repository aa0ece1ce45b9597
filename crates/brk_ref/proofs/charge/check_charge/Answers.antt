use Rattle.std.proofs.Common.{arith}
use Rattle.std.proofs.lemmas.Bool.{ltb-true, ltb-false}
use Rattle.brk_model.specs.Parse.{read_charge}
use Rattle.brk_ref.specs.Fields.{ParsesAs}
use Rattle.brk_ref.specs.Records.{abstract_charge}
use Rattle.brk_ref.proofs.FieldLists.{of_three}
use Rattle.brk_ref.proofs.Texts.{not_charge}
use Rattle.brk_ref.proofs.charge.check_charge.Goals as goal
use Rattle.brk_ref.proofs.charge.check_charge.Goals.{in_default-via-then-fields-lt3, in_default-via-else-fields-lt3+else-fields-lt4}

pub returns-in_default : goal.returns-in_default
returns-in_default c =
    elim c.in_default.branch [
      | in_default-via-then-fields-lt3 w ↦ not_charge c.args.fields.now (λ e. omega (arith, ltb-true, ltb-false))
      | in_default-via-else-fields-lt3+else-fields-lt4 w ↦ not_charge c.args.fields.now (λ e. omega (arith, ltb-true, ltb-false))
    ]

pub returns : goal.returns
returns c =
    of_three (λ texts. ParsesAs abstract_charge c.parse_charge.result (read_charge texts)) c.args.fields.now c.in-len3.len_at_least c.in-len3.len_below c.parse_charge.ensures
