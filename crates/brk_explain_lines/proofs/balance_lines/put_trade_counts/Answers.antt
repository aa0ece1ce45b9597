use Rattle.brk_explain_columns.proofs.Chains.{more, more2, first2, on_ok}
use Rattle.std.proofs.Common.{◌≡◌, ◌++◌, ◌∷◌, [], codes, decimal}
use Rattle.brk_explain_lines.proofs.balance_lines.put_trade_counts.Goals as goal

pub returns : goal.returns
returns c =
    let o = c.args.out.now.items in
    let x1 = c.put_numbered.new.out.items in
    let t1a = codes "Statuses " in
    let t1b = decimal c.args.statuses in
    let s1 = t1a ++ t1b in
    let h1 = first2 o t1a t1b x1 (c.in_ok-put_numbered.ensures) in
    let x2 = c.put_numbered-2.new.out.items in
    let t2a = codes ", lots closed " in
    let t2b = decimal c.args.lots in
    let s2 = s1 ++ t2a ++ t2b in
    let h2 = more2 o s1 t2a t2b x1 x2 h1 c.in_ok-put_numbered-2.ensures in
    let x3 = c.put_numbered-3.new.out.items in
    let t3a = codes ", cash rows before " in
    let t3b = decimal c.args.cash in
    let s3 = s2 ++ t3a ++ t3b in
    let h3 = more2 o s2 t3a t3b x2 x3 h2 c.in_ok-put_numbered-3.ensures in
    let x4 = c.end_line.new.out.items in
    let t4a = 10 ∷ [] in
    on_ok {P = x4 ≡ x3 ++ t4a} c.end_line.result c.end_line.ensures (λ h. more o s3 t4a x3 x4 h3 h)
