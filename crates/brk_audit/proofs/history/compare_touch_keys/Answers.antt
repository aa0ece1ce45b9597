use Rattle.std.proofs.Common.{rules, ◌≡◌, ap, ◌∙◌, nat_cmp}
use Rattle.std.specs.Ordering.{is_lt, ordering_then}
use Rattle.brk_audit.proofs.Places.{pairs_compare}
use Rattle.brk_audit.proofs.history.compare_touch_keys.Goals as goal

pub returns : goal.returns
returns c =
    let x = c.args.one.now in
    let y = c.args.other.now in
    let a : c.cmp-lots.result ≡ nat_cmp x.touch.lot y.touch.lot = search rules in
    let m : c.cmp-trades.result ≡ nat_cmp x.trade y.trade = search rules in
    ap is_lt (c.then.ensures ∙ (λ i. ordering_then (a i) (m i))) ∙ pairs_compare x.touch.lot y.touch.lot x.trade y.trade
