use Rattle.std.proofs.Common.{◌∙◌, ap, map, refl, sym}
use Rattle.std.specs.Prelude.{nat_lt}
use Rattle.brk_model_explain.specs.Holdings.{LotChange}
use Rattle.brk_explain_rows.specs.Details.{abstract_priced_lot_change}
use Rattle.brk_explain_rows.specs.declared.holding_details.PricedLotChange as row
use Rattle.brk_explain_reads.proofs.Sorted.{map_sorted}
use Rattle.brk_explain_reads.proofs.lot_changes.sort_changes.Goals as goal

pub returns : goal.returns
returns c =
    ap (map abstract_priced_lot_change) c.in_ok-sorted.ensures
    ∙ sym (map_sorted (λ (a b : row.PricedLotChange). nat_lt a.stamp b.stamp) (λ (a b : LotChange). nat_lt a.stamp b.stamp) abstract_priced_lot_change c.args.changes_by_others.items (λ a b. refl))
