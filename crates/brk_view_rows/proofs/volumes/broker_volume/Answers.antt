use Rattle.std.proofs.Common.{◌∙◌, ap, map, refl}
use Rattle.brk_view_rows.specs.Volume.{broker_volume_record}
use Rattle.brk_view_rows.proofs.Shown.{volumes_shown}
use Rattle.brk_view_rows.proofs.volumes.broker_volume.Goals as goal

pub returns-clause-view : goal.returns-clause-view
returns-clause-view c = λ t sector names rows e f.
    ap (map broker_volume_record) c.in_ok-ordered.ensures.order ∙ volumes_shown t sector names rows c.args.brokers.items e f

pub returns-clause-value : goal.returns-clause-value
returns-clause-value c = (c.in_ok-ordered.ordered, refl, c.in_ok-ordered.ensures.order)
