use Rattle.std.proofs.Common.{arith}
use Rattle.std.proofs.lemmas.Bool.{ltb-true, ltb-false}
use Rattle.brk_model.specs.Parse.{read_broker}
use Rattle.brk_ref.specs.Fields.{ParsesAs}
use Rattle.brk_ref.specs.Records.{abstract_broker}
use Rattle.brk_ref.proofs.FieldLists.{of_two}
use Rattle.brk_ref.proofs.Texts.{not_broker}
use Rattle.brk_ref.proofs.broker.check_broker.Goals as goal
use Rattle.brk_ref.proofs.broker.check_broker.Goals.{in_default-via-then-fields-lt2, in_default-via-else-fields-lt2+else-fields-lt3}

pub returns-in_default-clause-read : goal.returns-in_default-clause-read
returns-in_default-clause-read c =
    elim c.in_default.branch [
      | in_default-via-then-fields-lt2 w ↦ not_broker c.args.fields.now (λ e. omega (arith, ltb-true, ltb-false))
      | in_default-via-else-fields-lt2+else-fields-lt3 w ↦ not_broker c.args.fields.now (λ e. omega (arith, ltb-true, ltb-false))
    ]

pub returns-clause-read : goal.returns-clause-read
returns-clause-read c =
    of_two (λ texts. ParsesAs abstract_broker c.in_ok-parse_broker.field-0 (read_broker texts)) c.args.fields.now c.in-len2.len_at_least c.in-len2.len_below c.in_ok-parse_broker.ensures
