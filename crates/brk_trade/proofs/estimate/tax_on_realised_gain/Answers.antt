use Rattle.std.specs.Prelude.{nat_abs, pos}
use Rattle.std.proofs.Common.{ap, sym, ◌∙◌}
use Rattle.brk_money.specs.Amounts.{tax}
use Rattle.brk_trade.proofs.estimate.tax_on_realised_gain.Goals as goal

pub returns-then-is_taxable_status : goal.returns-then-is_taxable_status
returns-then-is_taxable_status c =
    rw (sym c.is_taxable_status.ensures ∙ c.if-is_taxable_status.true) (c.unsigned_abs.ensures
    ∙ ap nat_abs (c.tax.ensures ∙ ap (λ gain. pos (tax gain c.args.rates)) c.gain_of_values.ensures))
