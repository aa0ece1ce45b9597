use Rattle.std.proofs.Common.{◌≡◌, true, false, not, Bool, refl, sym, ◌∙◌, ap, take}
use Rattle.std.specs.Prelude.{bytes_eq}
use Rattle.std.specs.List.{list_any}
use Rattle.std.proofs.lemmas.List.{take_all}
use Rattle.brk_audit_form.proofs.OwnTaxIds.{are_own, own-mapped, own_more, own_not, there_more}
use Rattle.brk_audit_form.proofs.tax_ids.have_distinct_tax_ids.Goals as goal

back : (a b : Bool) → a ≡ not b → a ≡ false → b ≡ true
back a true e f = refl
back a false e f = absurd (cc)

forth : (a b : Bool) → a ≡ not b → a ≡ true → b ≡ false
forth a false e f = refl
forth a true e f = absurd (cc)

pub returns-then-not-added : goal.returns-then-not-added
returns-then-not-added c =
    let xs = c.args.customers.now in
    let i = c.loop-customer.customer-index in
    let x = c.customer-item.result in
    let key = c.as_str-tax_id.result in
    let there = back _ _ c.in_ok-added.ensures.added c.if-not-added.true in
    sym (own_not xs i x c.loop-customer-test.true c.customer-item.is
    (sym (ap (λ k. list_any (λ d. bytes_eq k d.tax_id) (take i xs)) c.as_str-tax_id.ensures) ∙ sym (c.loop-customer.invariant.seen key) ∙ there))
    ∙ own-mapped xs

pub loop-customer-preserved : goal.loop-customer-preserved
loop-customer-preserved c =
    let xs = c.args.customers.now in
    let i = c.loop-customer.customer-index in
    let x = c.customer-item.result in
    let key = c.as_str-tax_id.result in
    let none = forth _ _ c.in_ok-added.ensures.added c.if-not-added.false in
    record {
      seen = λ q. c.in_ok-added.ensures.updates.0 q ∙ there_more xs i x key.now q.now _ c.loop-customer-test.true c.customer-item.is c.as_str-tax_id.ensures (c.loop-customer.invariant.seen q);
      own = own_more xs i x c.loop-customer-test.true c.customer-item.is c.loop-customer.invariant.own
          (sym (ap (λ k. list_any (λ d. bytes_eq k d.tax_id) (take i xs)) c.as_str-tax_id.ensures) ∙ sym (c.loop-customer.invariant.seen key) ∙ none);
    }

pub returns : goal.returns
returns c =
    sym (ap are_own (sym (take_all c.loop-customer.customer-index c.args.customers.now c.loop-customer-test.false)) ∙ c.loop-customer.invariant.own) ∙ own-mapped c.args.customers.now
