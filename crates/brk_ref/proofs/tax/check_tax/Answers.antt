use Rattle.std.proofs.Common.{arith}
use Rattle.std.proofs.lemmas.Bool.{ltb-true, ltb-false}
use Rattle.brk_model.specs.Parse.{read_tax_rate}
use Rattle.brk_ref.specs.Fields.{ParsesAs}
use Rattle.brk_ref.specs.Records.{abstract_tax_rate}
use Rattle.brk_ref.proofs.FieldLists.{of_three}
use Rattle.brk_ref.proofs.Texts.{not_tax}
use Rattle.brk_ref.proofs.tax.check_tax.Goals as goal
use Rattle.brk_ref.proofs.tax.check_tax.Goals.{in_default-via-then-fields-lt3, in_default-via-else-fields-lt3+else-fields-lt4}

pub returns-in_default-clause-read : goal.returns-in_default-clause-read
returns-in_default-clause-read c =
    elim c.in_default.branch [
      | in_default-via-then-fields-lt3 w ↦ not_tax c.args.fields.now (λ e. omega (arith, ltb-true, ltb-false))
      | in_default-via-else-fields-lt3+else-fields-lt4 w ↦ not_tax c.args.fields.now (λ e. omega (arith, ltb-true, ltb-false))
    ]

pub returns-clause-read : goal.returns-clause-read
returns-clause-read c =
    of_three (λ texts. ParsesAs abstract_tax_rate c.in_ok-parse_tax.field-0 (read_tax_rate texts)) c.args.fields.now c.in-len3.len_at_least c.in-len3.len_below c.in_ok-parse_tax.ensures
