use Rattle.brk_explain_columns.proofs.Chains.{more, more2, first2, on_ok}
use Rattle.std.proofs.Common.{◌≡◌, ◌++◌, ◌∷◌, [], codes, decimal}
use Rattle.brk_explain_sums.proofs.holding_totals.put_holding_counts.Goals as goal

pub returns : goal.returns
returns c =
    let o = c.args.out.now.items in
    let x1 = c.put_numbered.new.out.items in
    let t1a = codes "Trades " in
    let t1b = decimal c.args.trades in
    let s1 = t1a ++ t1b in
    let h1 = first2 o t1a t1b x1 (c.in_ok-put_numbered.ensures) in
    let x2 = c.put_numbered-2.new.out.items in
    let t2a = codes ", lots " in
    let t2b = decimal c.args.lots in
    let s2 = s1 ++ t2a ++ t2b in
    let h2 = more2 o s1 t2a t2b x1 x2 h1 c.in_ok-put_numbered-2.ensures in
    let x3 = c.put_numbered-3.new.out.items in
    let t3a = codes ", open lots " in
    let t3b = decimal c.args.open_lots in
    let s3 = s2 ++ t3a ++ t3b in
    let h3 = more2 o s2 t3a t3b x2 x3 h2 c.in_ok-put_numbered-3.ensures in
    let x4 = c.put_numbered-4.new.out.items in
    let t4a = codes ", changes " in
    let t4b = decimal c.args.changes in
    let s4 = s3 ++ t4a ++ t4b in
    let h4 = more2 o s3 t4a t4b x3 x4 h3 c.in_ok-put_numbered-4.ensures in
    let x5 = c.end_line.new.out.items in
    let t5a = 10 ∷ [] in
    on_ok {P = x5 ≡ x4 ++ t5a} c.end_line.result c.end_line.ensures (λ h. more o s4 t5a x4 x5 h4 h)
