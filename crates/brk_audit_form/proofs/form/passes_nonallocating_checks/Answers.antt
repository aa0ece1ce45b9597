use Rattle.std.proofs.Common.{sym, ◌∙◌, ap, map}
use Rattle.std.specs.List.{list_all}
use Rattle.brk_model.specs.Keys.{band_key}
use Rattle.brk_model.specs.Form.{is_sorted_by_unique_key, is_well_formed_band_row}
use Rattle.brk_ref.specs.Records.{abstract_band}
use Rattle.brk_trade_rows.specs.Schemas.{abstract_schema}
use Rattle.brk_trade_rows.specs.Sheets.{abstract_sheets}
use Rattle.brk_audit_form.proofs.FormGroups.{bands_rise, reference_forms_parts}
use Rattle.brk_audit_form.proofs.form.passes_nonallocating_checks.Goals as goal

pub are_disjoint-requires-clause-keys : goal.are_disjoint-requires-clause-keys
are_disjoint-requires-clause-keys c =
    ap (λ l. is_sorted_by_unique_key band_key (map abstract_band l)) c.deref.ensures.value
    ∙ bands_rise (abstract_sheets c.args.sheets.now) (sym c.has_sorted_tables.ensures ∙ c.if-not-has_sorted_tables.false)

pub are_disjoint-requires-clause-bounds : goal.are_disjoint-requires-clause-bounds
are_disjoint-requires-clause-bounds c =
    ap (λ l. list_all (is_well_formed_band_row (abstract_schema c.args.schema)) (map abstract_band l)) c.deref.ensures.value
    ∙ (reference_forms_parts (abstract_schema c.args.schema) c.args.sheets.now (sym c.are_reference_rows_valid.ensures ∙ c.if-not-are_reference_rows_valid.false)).bands
