use Rattle.std.proofs.Common.{◌≡◌, drop, Ok}
use Rattle.brk_model.specs.Forms.{read_each_text, read_id}
use Rattle.brk_ref_orders.specs.Reading.{appended_parse_results}
use Rattle.brk_ref.specs.Fields.{texts_of_fields}
use Rattle.brk_ref_orders.proofs.trade_ids.parse_ids.Given as goal

abbrev pub invariant-loop-field : goal.invariant-loop-field
invariant-loop-field l = read_each_text read_id (texts_of_fields l.fields) ≡ appended_parse_results (Ok l.ids.items) (read_each_text read_id (texts_of_fields (drop l.field-index l.fields)))
