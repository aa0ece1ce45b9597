use Rattle.std.proofs.Common.{◌≡◌, rules, sym, ◌∙◌}
use Rattle.std.specs.Ordering.{is_lt}
use Rattle.std.proofs.lemmas.List.Sorted.{answers_always}
use Rattle.brk_model.specs.Keys.{is_key_less}
use Rattle.brk_audit_form.specs.Keys.{key_cmp}
use Rattle.brk_audit_form.proofs.KeyOrders.{key_lt, rises_told}
use Rattle.brk_audit_form.proofs.keys.keys_ascend.Goals as goal

pub returns : goal.returns
returns g c =
    let key = g.R.Keyed.key in
    rises_told key c.args.rows.now c.is_sorted_by.result
    (c.is_sorted_by.ensures.cases (λ x y. is_key_less (key x) (key y)) (answers_always _ _ _ (λ f a r h called.
    let e : r ≡ is_lt (key_cmp (key a.0.now) (key a.1.0.now)) = search rules in e ∙ sym (key_lt (key a.0.now) (key a.1.0.now)))))
