use Rattle.std.proofs.Common.{◌==◌, ◌+◌, sym, ◌∙◌, ap, cond, filter, length, take, arith}
use Rattle.std.proofs.lemmas.List.{take_all}
use Rattle.std.proofs.lemmas.List.Filters.{length-filter_more}
use Rattle.brk_audit_form.proofs.CustomerSums.{filter-le, taken}
use Rattle.brk_audit_form.proofs.customer_limits.count_accounts.Goals as goal

pub add_to_sum-requires : goal.add_to_sum-requires
add_to_sum-requires c =
    let q = c.row-item.result.account.customer in
    let i = c.loop-row.invariant q in
    let f = filter-le (λ a. a.account.customer == q) (take c.loop-row.row-index c.args.accounts.now) in
    let t = taken c.loop-row.row-index c.args.accounts.now in
    let h = c.loop-row-test.true in
    omega arith

pub loop-row-preserved : goal.loop-row-preserved
loop-row-preserved c = λ q.
    let rows = c.args.accounts.now in
    let i = c.loop-row.row-index in
    c.in_ok-add_to_sum.ensures.more q ∙ ap (λ n. n + cond (c.row-item.result.account.customer == q) 1 0) (c.loop-row.invariant q)
    ∙ ap (λ row. length (filter (λ a. a.account.customer == q) (take i rows)) + cond (row.account.customer == q) 1 0) c.row-item.is
    ∙ sym (length-filter_more (λ a. a.account.customer == q) rows i c.row-item.result c.loop-row-test.true)

pub returns : goal.returns
returns c = λ q.
    c.loop-row.invariant q ∙ ap (λ l. length (filter (λ a. a.account.customer == q) l)) (take_all c.loop-row.row-index c.args.accounts.now c.loop-row-test.false)
