use Rattle.brk_model.specs.Parse.{read_ticks}
use Rattle.brk_ref.specs.Fields.{texts_of_fields}
use Rattle.brk_ref_orders.specs.Reading.{abstract_parse_result}
use Rattle.brk_ref_orders.specs.Records.{abstract_ticks_of_vector}
use Rattle.brk_ref_orders.proofs.Joined.{next_fields, not_ticks}
use Rattle.brk_ref_orders.proofs.feed.parse_ticks.Goals as goal

pub loop-rest-preserved : goal.loop-rest-preserved
loop-rest-preserved c =
    next_fields (abstract_parse_result abstract_ticks_of_vector c.loop-rest.ticks) (abstract_parse_result abstract_ticks_of_vector c.in_ok-ticks.ticks) c.in_ok-tick.tick c.loop-rest.rest.now _
    (read_ticks (texts_of_fields c.args.fields.now)) c.in-len3-up.len_at_least c.loop-rest.invariant c.in_ok-tick.ensures.read c.in_ok-ticks.ensures.read

pub returns-then-not-is_empty : goal.returns-then-not-is_empty
returns-then-not-is_empty c =
    not_ticks (abstract_parse_result abstract_ticks_of_vector c.loop-rest.ticks) (read_ticks (texts_of_fields c.args.fields.now)) c.loop-rest.rest.now
    c.in_default.len_below c.if-not-is_empty.ensures c.loop-rest.invariant
