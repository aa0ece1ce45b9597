use Rattle.std.proofs.Common.{arith, ◌≡◌, false, refl, rules, subst}
use Rattle.std.specs.Option.{option_map_or}
use Rattle.brk_lots.specs.Against.{is_trade_closing_lots}
use Rattle.brk_lots.specs.Sources.{AreLotsOfFaithfulSource}
use Rattle.brk_trade.specs.Estimates.{OrderReadsAtMostOneLotMore}
use Rattle.brk_trade.specs.Orders.{AreOrderChanges, MatchesModelEstimate, terms_of_order}
use Rattle.brk_trade.specs.declared.estimate.Terms.{Terms}
use Rattle.brk_trade.proofs.order.plan_order.Goals as goal

pub returns-in-Err-clause-leads : goal.returns-in-Err-clause-leads
returns-in-Err-clause-leads g c = g.met.L.LotSource.reflexive c.args.source.now

pub returns-in-Err-clause-asked : goal.returns-in-Err-clause-asked
returns-in-Err-clause-asked g c ls trade stamp lifo yields fresh = omega arith

pub returns-in-Err-clause-reads_no_lot : goal.returns-in-Err-clause-reads_no_lot
returns-in-Err-clause-reads_no_lot g c closes = refl

pub returns-in-Err-clause-rest : goal.returns-in-Err-clause-rest
returns-in-Err-clause-rest g c ls given = (0, given.1)

pub returns-in_err-estimate-clause-leads : goal.returns-in_err-estimate-clause-leads
returns-in_err-estimate-clause-leads g c = c.estimate_order.ensures.leads

pub returns-in_err-estimate-clause-asked : goal.returns-in_err-estimate-clause-asked
returns-in_err-estimate-clause-asked g c =
    subst (λ (terms : Terms). OrderReadsAtMostOneLotMore terms (AreLotsOfFaithfulSource (g.L.LotSource.reads_faithfully c.estimate_order.new.source) (g.L.LotSource.remaining c.args.source.now))
    (g.L.LotSource.asked c.args.source.now) (g.L.LotSource.asked c.estimate_order.new.source)) c.in-Ok.ensures.1.terms c.estimate_order.ensures.asked

pub returns-in_err-estimate-clause-reads_no_lot : goal.returns-in_err-estimate-clause-reads_no_lot
returns-in_err-estimate-clause-reads_no_lot g c =
    subst (λ (terms : Terms). is_trade_closing_lots terms.side terms.held ≡ false → c.estimate_order.new.source ≡ c.args.source.now) c.in-Ok.ensures.1.terms c.estimate_order.ensures.reads_no_lot

pub returns-in_err-estimate-clause-rest : goal.returns-in_err-estimate-clause-rest
returns-in_err-estimate-clause-rest g c = c.estimate_order.ensures.rest

pub returns-in_err-changes-clause-leads : goal.returns-in_err-changes-clause-leads
returns-in_err-changes-clause-leads g c = c.estimate_order.ensures.leads

pub returns-in_err-changes-clause-asked : goal.returns-in_err-changes-clause-asked
returns-in_err-changes-clause-asked g c =
    subst (λ (terms : Terms). OrderReadsAtMostOneLotMore terms (AreLotsOfFaithfulSource (g.L.LotSource.reads_faithfully c.estimate_order.new.source) (g.L.LotSource.remaining c.args.source.now))
    (g.L.LotSource.asked c.args.source.now) (g.L.LotSource.asked c.estimate_order.new.source)) c.in-Ok.ensures.1.terms c.estimate_order.ensures.asked

pub returns-in_err-changes-clause-reads_no_lot : goal.returns-in_err-changes-clause-reads_no_lot
returns-in_err-changes-clause-reads_no_lot g c =
    subst (λ (terms : Terms). is_trade_closing_lots terms.side terms.held ≡ false → c.estimate_order.new.source ≡ c.args.source.now) c.in-Ok.ensures.1.terms c.estimate_order.ensures.reads_no_lot

pub returns-in_err-changes-clause-rest : goal.returns-in_err-changes-clause-rest
returns-in_err-changes-clause-rest g c = c.estimate_order.ensures.rest

pub returns-clause-leads : goal.returns-clause-leads
returns-clause-leads g c = c.estimate_order.ensures.leads

pub returns-clause-asked : goal.returns-clause-asked
returns-clause-asked g c =
    subst (λ (terms : Terms). OrderReadsAtMostOneLotMore terms (AreLotsOfFaithfulSource (g.L.LotSource.reads_faithfully c.estimate_order.new.source) (g.L.LotSource.remaining c.args.source.now))
    (g.L.LotSource.asked c.args.source.now) (g.L.LotSource.asked c.estimate_order.new.source)) c.in-Ok.ensures.1.terms c.estimate_order.ensures.asked

pub returns-clause-reads_no_lot : goal.returns-clause-reads_no_lot
returns-clause-reads_no_lot g c =
    subst (λ (terms : Terms). is_trade_closing_lots terms.side terms.held ≡ false → c.estimate_order.new.source ≡ c.args.source.now) c.in-Ok.ensures.1.terms c.estimate_order.ensures.reads_no_lot

pub returns-clause-rest : goal.returns-clause-rest
returns-clause-rest g c = c.estimate_order.ensures.rest

pub returns-in-Err-clause-planned : goal.returns-in-Err-clause-planned
returns-in-Err-clause-planned g c = c.in-Err.ensures

pub returns-clause-planned : goal.returns-clause-planned
returns-clause-planned g c =
    let order = c.args.order.now in
    let trade = c.in-Ok.trade in
    let known = c.in-Ok.ensures in
    let placement = trade.placement in
    let changes = c.in_ok-changes.changes.items in
    record {
      stamp = trade.stamp;
      estimate = c.in_ok-estimate.estimate;
      accepted = known.0;
      stamped = known.3;
      estimated = subst (λ (terms : Terms). MatchesModelEstimate terms (AreLotsOfFaithfulSource (g.L.LotSource.reads_faithfully c.estimate_order.new.source) (g.L.LotSource.remaining c.args.source.now))
          c.in_ok-estimate.estimate) known.1.terms c.in_ok-estimate.ensures.estimate;
      replied = search rules;
      changes = subst (λ id. AreOrderChanges order (terms_of_order order c.args.found.now) (option_map_or (λ a. a.broker) c.args.found.now.account 0) id trade.stamp changes) known.2
          (subst (λ broker. AreOrderChanges order (terms_of_order order c.args.found.now) broker trade.id trade.stamp changes) known.1.broker
          (subst (λ (terms : Terms). AreOrderChanges order terms placement.broker trade.id trade.stamp changes) known.1.terms c.in_ok-changes.ensures));
    }
