use Rattle.std.proofs.Common.{◌++◌, map, ◌∙◌}
use Rattle.brk_model.specs.Tables.{holding_history_row}
use Rattle.brk_lots.specs.Chains.{opening_touch, abstract_deal_touch}
use Rattle.brk_lots.specs.Lots.{abstract_deal}
use Rattle.brk_lots.proofs.Deals.{old_lots}
use Rattle.brk_lots.proofs.position.Position.apply_deal.Goals as goal

pub apply-requires : goal.apply-requires
apply-requires c =
    let d = c.args.deal.now in
    let old = old_lots (abstract_deal d) c.args.self.now c.from_end-end.ensures.walk c.requires in
    let k = c.in-Ok.ensures.closing c.args.self.now d.lifo ((tt, c.from_end-end.ensures.remaining), c.from_end-end.ensures.walk) old.0 in
    (abstract_deal d, record { closes = k; fresh = old.0; later = old.1 })

pub returns-clause-shares : goal.returns-clause-shares
returns-clause-shares c =
    let d = c.args.deal.now in
    let old = old_lots (abstract_deal d) c.args.self.now c.from_end-end.ensures.walk c.requires in
    let k = c.in-Ok.ensures.closing c.args.self.now d.lifo ((tt, c.from_end-end.ensures.remaining), c.from_end-end.ensures.walk) old.0 in
    c.in-Ok-apply.ensures.shares (abstract_deal d) (record { closes = k; fresh = old.0; later = old.1 })

pub returns-clause-rows : goal.returns-clause-rows
returns-clause-rows c =
    let d = c.args.deal.now in
    let old = old_lots (abstract_deal d) c.args.self.now c.from_end-end.ensures.walk c.requires in
    let k = c.in-Ok.ensures.closing c.args.self.now d.lifo ((tt, c.from_end-end.ensures.remaining), c.from_end-end.ensures.walk) old.0 in
    c.in_ok-append_changes.ensures.added ∙ (λ j. map abstract_deal_touch c.args.rows.now.items ++ map (holding_history_row d.trade) (k.lots.touched j ++ map opening_touch (k.lots.opened j)))
