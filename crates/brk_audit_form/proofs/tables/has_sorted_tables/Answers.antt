use Rattle.std.proofs.Common.{sym, ◌∙◌, ap}
use Rattle.std.specs.Prelude.{◌&&◌}
use Rattle.brk_audit_form.specs.Groups.{trading_tables_are_sorted}
use Rattle.brk_audit_form.proofs.FormGroups.{keys_whole}
use Rattle.brk_audit_form.proofs.tables.has_sorted_tables.Goals as goal

pub returns-then-are_reference_tables_sorted : goal.returns-then-are_reference_tables_sorted
returns-then-are_reference_tables_sorted c =
    let s = c.args.sheets.now in
    c.are_trading_tables_sorted.ensures ∙ sym (ap (λ b. b && trading_tables_are_sorted s) (sym c.are_reference_tables_sorted.ensures ∙ c.if-are_reference_tables_sorted.true)) ∙ keys_whole s

pub returns-else-are_reference_tables_sorted : goal.returns-else-are_reference_tables_sorted
returns-else-are_reference_tables_sorted c =
    let s = c.args.sheets.now in
    c.if-are_reference_tables_sorted.false ∙ sym (ap (λ b. b && trading_tables_are_sorted s) (sym c.are_reference_tables_sorted.ensures ∙ c.if-are_reference_tables_sorted.false)) ∙ keys_whole s
