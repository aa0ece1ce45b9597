use Rattle.std.proofs.Common.{arith}
use Rattle.std.proofs.lemmas.Bool.{ltb-true, ltb-false}
use Rattle.brk_model.specs.Parse.{read_customer}
use Rattle.brk_ref.specs.Fields.{ParsesAs}
use Rattle.brk_ref.specs.Records.{abstract_customer}
use Rattle.brk_ref.proofs.FieldLists.{of_five}
use Rattle.brk_ref.proofs.Texts.{not_customer}
use Rattle.brk_ref.proofs.customer.check_customer.Goals as goal
use Rattle.brk_ref.proofs.customer.check_customer.Goals.{in_default-via-then-fields-lt5, in_default-via-else-fields-lt5+else-fields-lt6}

pub returns-in_default-clause-read : goal.returns-in_default-clause-read
returns-in_default-clause-read c =
    elim c.in_default.branch [
      | in_default-via-then-fields-lt5 w ↦ not_customer c.args.fields.now (λ e. omega (arith, ltb-true, ltb-false))
      | in_default-via-else-fields-lt5+else-fields-lt6 w ↦ not_customer c.args.fields.now (λ e. omega (arith, ltb-true, ltb-false))
    ]

pub returns-clause-read : goal.returns-clause-read
returns-clause-read c =
    of_five (λ texts. ParsesAs abstract_customer c.in_ok-parse_customer_fields.field-0 (read_customer texts)) c.args.fields.now c.in-len5.len_at_least c.in-len5.len_below c.in_ok-parse_customer_fields.ensures
