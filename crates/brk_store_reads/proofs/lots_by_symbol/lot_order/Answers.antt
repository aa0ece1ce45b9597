use Rattle.std.proofs.Common.{rules, ◌≡◌, ap, ◌∙◌, nat_cmp, sym}
use Rattle.std.specs.Ordering.{is_lt, ordering_then}
use Rattle.std.specs.Cmp.Lexicographic.{slice_cmp}
use Rattle.brk_audit_form.proofs.KeyOrders.{key_lt}
use Rattle.brk_ref.specs.Rows.{abstract_holding_row}
use Rattle.brk_tables_views.specs.Lists.{lot_sort_key}
use Rattle.brk_store_reads.proofs.lots_by_symbol.lot_order.Goals as goal

pub returns : goal.returns
returns c =
    let x = c.args.one.now in
    let y = c.args.other.now in
    let s : c.cmp-symbols.result ≡ slice_cmp nat_cmp x.symbol y.symbol = search rules in
    let m : c.cmp-stamps.result ≡ nat_cmp x.stamp y.stamp = search rules in
    let n : c.cmp-trades.result ≡ nat_cmp x.trade y.trade = search rules in
    let e : c.then-2.result ≡ ordering_then c.cmp-symbols.result (ordering_then c.cmp-stamps.result c.cmp-trades.result) = c.then-2.ensures
    ∙ ap (ordering_then c.cmp-symbols.result) c.then.ensures in
    ap is_lt (e ∙ (λ i. ordering_then (s i) (ordering_then (m i) (n i)))) ∙ sym (key_lt (lot_sort_key (abstract_holding_row x)) (lot_sort_key (abstract_holding_row y)))
