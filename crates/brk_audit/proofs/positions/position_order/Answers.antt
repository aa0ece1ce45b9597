use Rattle.std.proofs.Common.{rules, ◌≡◌, ap, ◌∙◌, nat_cmp}
use Rattle.std.specs.Ordering.{is_lt, ordering_then}
use Rattle.std.specs.Cmp.Lexicographic.{slice_cmp}
use Rattle.brk_audit.proofs.Places.{places_compare}
use Rattle.brk_audit.proofs.positions.position_order.Goals as goal

pub returns : goal.returns
returns c =
    let x = c.args.one.now in
    let y = c.args.other.now in
    let a : c.cmp-accounts.result ≡ nat_cmp x.account y.account = search rules in
    let s : c.cmp-symbols.result ≡ slice_cmp nat_cmp x.symbol y.symbol = search rules in
    let m : c.cmp-moments.result ≡ nat_cmp x.stamp y.stamp = search rules in
    let e : c.then-2.result ≡ ordering_then c.cmp-accounts.result (ordering_then c.cmp-symbols.result c.cmp-moments.result) = c.then-2.ensures
    ∙ ap (ordering_then c.cmp-accounts.result) c.then.ensures in
    ap is_lt (e ∙ (λ i. ordering_then (a i) (ordering_then (s i) (m i)))) ∙ places_compare x.account y.account x.symbol y.symbol x.stamp y.stamp
