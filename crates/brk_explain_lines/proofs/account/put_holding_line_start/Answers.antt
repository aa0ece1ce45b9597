use Rattle.brk_model.specs.Statement.{left_aligned_text, right_aligned_text}
use Rattle.brk_explain_columns.proofs.Chains.{more, on_ok}
use Rattle.std.proofs.Common.{◌≡◌, ◌++◌, ◌∷◌, [], codes}
use Rattle.brk_model_explain.specs.AccountLines.{holding_line_start}
use Rattle.brk_explain_lines.proofs.account.put_holding_line_start.Goals as goal

pub returns : goal.returns
unfolding holding_line_start
returns c =
    let o = c.args.out.now.items in
    let x1 = c.put_text.new.out.items in
    let t1a = codes "Held   " in
    let s1 = t1a in
    let h1 = c.in_ok-put_text.ensures in
    let x2 = c.append_left_aligned.new.out.items in
    let t2a = left_aligned_text 15 c.args.symbol.now in
    let s2 = s1 ++ t2a in
    let h2 = more o s1 t2a x1 x2 h1 c.in_ok-append_left_aligned.ensures in
    let x3 = c.put_column.new.out.items in
    let t3a = 32 ∷ right_aligned_text 13 [] in
    on_ok {P = x3 ≡ x2 ++ t3a} c.put_column.result c.put_column.ensures (λ h. more o s2 t3a x2 x3 h2 h)
