use Rattle.std.proofs.Common.{arith}
use Rattle.std.proofs.lemmas.Bool.{ltb-true, ltb-false}
use Rattle.brk_model.specs.Parse.{read_commission_band}
use Rattle.brk_ref.specs.Fields.{ParsesAs}
use Rattle.brk_ref.specs.Records.{abstract_band}
use Rattle.brk_ref.proofs.FieldLists.{of_six}
use Rattle.brk_ref.proofs.Texts.{not_band}
use Rattle.brk_ref.proofs.band.check_band.Goals as goal
use Rattle.brk_ref.proofs.band.check_band.Goals.{in_default-via-then-fields-lt6, in_default-via-else-fields-lt6+else-fields-lt7}

pub returns-in_default-clause-read : goal.returns-in_default-clause-read
returns-in_default-clause-read c =
    elim c.in_default.branch [
      | in_default-via-then-fields-lt6 w ↦ not_band c.args.fields.now (λ e. omega (arith, ltb-true, ltb-false))
      | in_default-via-else-fields-lt6+else-fields-lt7 w ↦ not_band c.args.fields.now (λ e. omega (arith, ltb-true, ltb-false))
    ]

pub returns-clause-read : goal.returns-clause-read
returns-clause-read c =
    of_six (λ texts. ParsesAs abstract_band c.in_ok-parse_band.field-0 (read_commission_band texts)) c.args.fields.now c.in-len6.len_at_least c.in-len6.len_below c.in_ok-parse_band.ensures
