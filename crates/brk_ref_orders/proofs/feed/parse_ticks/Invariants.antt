use Rattle.std.proofs.Common.{◌≡◌, length}
use Rattle.brk_model.specs.Parse.{read_ticks}
use Rattle.brk_ref.specs.Fields.{texts_of_fields}
use Rattle.brk_ref_orders.specs.Records.{abstract_ticks_of_vector}
use Rattle.brk_ref_orders.specs.Reading.{appended_parse_results, abstract_parse_result}
use Rattle.brk_ref_orders.proofs.feed.parse_ticks.Given as goal

abbrev pub invariant-loop-rest : goal.invariant-loop-rest
invariant-loop-rest l = read_ticks (texts_of_fields l.fields) ≡ appended_parse_results (abstract_parse_result abstract_ticks_of_vector l.ticks) (read_ticks (texts_of_fields l.rest))

abbrev pub decreases-loop-rest : goal.decreases-loop-rest
decreases-loop-rest l = length l.rest
