use Rattle.std.proofs.Common.{◌≡◌, drop}
use Rattle.brk_model.specs.Forms.{read_each_text, read_name}
use Rattle.brk_model.specs.Lists.{distinct_texts}
use Rattle.brk_ref.specs.Fields.{texts_of_fields}
use Rattle.brk_view_rows.specs.BrokerNames.{distinct_parsed_names}
use Rattle.brk_view_rows.proofs.Distinct.{names_then_new_names}
use Rattle.brk_view_rows.proofs.broker_names.parse_distinct_names.Given as goal

abbrev pub invariant-loop-field : goal.invariant-loop-field
invariant-loop-field l = record {
  read : distinct_parsed_names (read_each_text read_name (texts_of_fields l.fields)) ≡ names_then_new_names l.names.items (read_each_text read_name (texts_of_fields (drop l.field-index l.fields)));
  distinct : distinct_texts l.names.items ≡ l.names.items;
}
