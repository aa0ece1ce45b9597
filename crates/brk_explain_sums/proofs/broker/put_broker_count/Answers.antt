use Rattle.brk_explain_columns.proofs.Chains.{more, more2, first2, on_ok}
use Rattle.std.proofs.Common.{◌≡◌, ◌++◌, ◌∷◌, [], codes, decimal}
use Rattle.brk_explain_sums.proofs.broker.put_broker_count.Goals as goal

pub returns : goal.returns
returns c =
    let o = c.args.out.now.items in
    let x1 = c.put_numbered.new.out.items in
    let t1a = codes "Accounts " in
    let t1b = decimal c.args.accounts in
    let s1 = t1a ++ t1b in
    let h1 = first2 o t1a t1b x1 (c.in_ok-put_numbered.ensures) in
    let x2 = c.put_numbered-2.new.out.items in
    let t2a = codes ", trades " in
    let t2b = decimal c.args.trades in
    let s2 = s1 ++ t2a ++ t2b in
    let h2 = more2 o s1 t2a t2b x1 x2 h1 c.in_ok-put_numbered-2.ensures in
    let x3 = c.end_line.new.out.items in
    let t3a = 10 ∷ [] in
    on_ok {P = x3 ≡ x2 ++ t3a} c.end_line.result c.end_line.ensures (λ h. more o s2 t3a x2 x3 h2 h)
