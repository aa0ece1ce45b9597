use Rattle.std.proofs.Common.{rules, ◌≡◌, ◌+◌, ◌∙◌, ap, length, nat_abs}
use Rattle.brk_lots.specs.Lots.{shares_of_lots}
use Rattle.brk_trade.specs.Estimates.{commission_from_terms}
use Rattle.brk_trade.proofs.Estimating.{made_is}
use Rattle.brk_trade.proofs.estimate.estimate_order.Goals as goal

pub returns-clause-estimate : goal.returns-clause-estimate
returns-clause-estimate g c base o ls terms shares e h =
    let v = c.in_ok-values.ensures.values ls (length base.trades + 1) 0 o.is_lifo e h in
    let commission : c.unsigned_abs.result ≡ commission_from_terms c.args.terms.now = c.unsigned_abs.ensures ∙ ap nat_abs c.commission.ensures in
    let charge : c.unwrap.result ≡ c.args.terms.now.charge = search rules in
    rw (c.tax_on_realised_gain.ensures, commission, charge) (made_is base o (shares_of_lots ls) c.args.terms.now c.in_ok-values.values terms shares v)

pub returns-in_err-values-clause-leads : goal.returns-in_err-values-clause-leads
returns-in_err-values-clause-leads g c = c.closing_values.ensures.source.leads

pub returns-in_err-values-clause-asked : goal.returns-in_err-values-clause-asked
returns-in_err-values-clause-asked g c = c.closing_values.ensures.asked

pub returns-in_err-values-clause-reads_no_lot : goal.returns-in_err-values-clause-reads_no_lot
returns-in_err-values-clause-reads_no_lot g c = c.closing_values.ensures.reads_no_lot

pub returns-in_err-values-clause-rest : goal.returns-in_err-values-clause-rest
returns-in_err-values-clause-rest g c = c.closing_values.ensures.source.remaining

pub returns-clause-leads : goal.returns-clause-leads
returns-clause-leads g c = c.closing_values.ensures.source.leads

pub returns-clause-asked : goal.returns-clause-asked
returns-clause-asked g c = c.closing_values.ensures.asked

pub returns-clause-reads_no_lot : goal.returns-clause-reads_no_lot
returns-clause-reads_no_lot g c = c.closing_values.ensures.reads_no_lot

pub returns-clause-rest : goal.returns-clause-rest
returns-clause-rest g c = c.closing_values.ensures.source.remaining
