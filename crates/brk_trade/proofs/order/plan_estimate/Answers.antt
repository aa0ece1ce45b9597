use Rattle.std.proofs.Common.{arith, ◌≡◌, false, refl, subst}
use Rattle.brk_lots.specs.Against.{is_trade_closing_lots}
use Rattle.brk_lots.specs.Sources.{AreLotsOfFaithfulSource}
use Rattle.brk_trade.specs.Estimates.{OrderReadsAtMostOneLotMore}
use Rattle.brk_trade.specs.Orders.{MatchesModelEstimate}
use Rattle.brk_trade.specs.declared.estimate.Terms.{Terms}
use Rattle.brk_trade.proofs.order.plan_estimate.Goals as goal

pub returns-in-Err-clause-leads : goal.returns-in-Err-clause-leads
returns-in-Err-clause-leads g c = g.met.L.LotSource.reflexive c.args.source.now

pub returns-in-Err-clause-asked : goal.returns-in-Err-clause-asked
returns-in-Err-clause-asked g c ls trade stamp lifo yields fresh = omega arith

pub returns-in-Err-clause-reads_no_lot : goal.returns-in-Err-clause-reads_no_lot
returns-in-Err-clause-reads_no_lot g c closes = refl

pub returns-in-Err-clause-rest : goal.returns-in-Err-clause-rest
returns-in-Err-clause-rest g c ls given = (0, given.1)

pub returns-in_err-estimate-clause-leads : goal.returns-in_err-estimate-clause-leads
returns-in_err-estimate-clause-leads g c = c.estimate_order.ensures.leads

pub returns-in_err-estimate-clause-asked : goal.returns-in_err-estimate-clause-asked
returns-in_err-estimate-clause-asked g c =
    subst (λ (terms : Terms). OrderReadsAtMostOneLotMore terms (AreLotsOfFaithfulSource (g.L.LotSource.reads_faithfully c.estimate_order.new.source) (g.L.LotSource.remaining c.args.source.now))
    (g.L.LotSource.asked c.args.source.now) (g.L.LotSource.asked c.estimate_order.new.source)) c.in-Ok.ensures.terms c.estimate_order.ensures.asked

pub returns-in_err-estimate-clause-reads_no_lot : goal.returns-in_err-estimate-clause-reads_no_lot
returns-in_err-estimate-clause-reads_no_lot g c =
    subst (λ (terms : Terms). is_trade_closing_lots terms.side terms.held ≡ false → c.estimate_order.new.source ≡ c.args.source.now) c.in-Ok.ensures.terms c.estimate_order.ensures.reads_no_lot

pub returns-in_err-estimate-clause-rest : goal.returns-in_err-estimate-clause-rest
returns-in_err-estimate-clause-rest g c = c.estimate_order.ensures.rest

pub returns-clause-leads : goal.returns-clause-leads
returns-clause-leads g c = c.estimate_order.ensures.leads

pub returns-clause-asked : goal.returns-clause-asked
returns-clause-asked g c =
    subst (λ (terms : Terms). OrderReadsAtMostOneLotMore terms (AreLotsOfFaithfulSource (g.L.LotSource.reads_faithfully c.estimate_order.new.source) (g.L.LotSource.remaining c.args.source.now))
    (g.L.LotSource.asked c.args.source.now) (g.L.LotSource.asked c.estimate_order.new.source)) c.in-Ok.ensures.terms c.estimate_order.ensures.asked

pub returns-clause-reads_no_lot : goal.returns-clause-reads_no_lot
returns-clause-reads_no_lot g c =
    subst (λ (terms : Terms). is_trade_closing_lots terms.side terms.held ≡ false → c.estimate_order.new.source ≡ c.args.source.now) c.in-Ok.ensures.terms c.estimate_order.ensures.reads_no_lot

pub returns-clause-rest : goal.returns-clause-rest
returns-clause-rest g c = c.estimate_order.ensures.rest

pub returns-in-Err-clause-planned : goal.returns-in-Err-clause-planned
returns-in-Err-clause-planned g c = c.in-Err.ensures

pub returns-clause-planned : goal.returns-clause-planned
returns-clause-planned g c =
    let estimate = c.in_ok-estimate.estimate in
    record {
      estimate = estimate;
      replied = refl;
      checked = record {
        accepted = c.in-Ok.ensures.tested;
        estimated = subst (λ (terms : Terms). MatchesModelEstimate terms (AreLotsOfFaithfulSource (g.L.LotSource.reads_faithfully c.estimate_order.new.source) (g.L.LotSource.remaining c.args.source.now))
            estimate) c.in-Ok.ensures.terms c.in_ok-estimate.ensures.estimate;
      };
    }
