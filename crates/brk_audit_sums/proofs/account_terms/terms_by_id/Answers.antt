use Rattle.std.proofs.Common.{◌≡◌, ◌==◌, true, false, sym, ◌∙◌, ap, take, ⊎_elim}
use Rattle.std.specs.Prelude.{find, option_map, is_some}
use Rattle.std.specs.Ordering.{nat_cmp}
use Rattle.std.specs.BTreeMap.{get}
use Rattle.brk_audit_sums.specs.AccountTerms.{terms_of_account_row}
use Rattle.std.proofs.lemmas.Bool.{eqb-true, eq-eqb, cases_eq}
use Rattle.brk_audit_sums.proofs.Finding.{find_more_new, find_more_old}
use Rattle.brk_audit_sums.proofs.Maps.{apart}
use Rattle.brk_audit_sums.proofs.account_terms.terms_by_id.Goals as goal
use Rattle.brk_audit_sums.proofs.account_terms.terms_by_id.Goals.{then-not-contains_key+in_ok-insert, else-not-contains_key}

-- src/counts.rt:19:5
pub loop-row-preserved : goal.loop-row-preserved
loop-row-preserved c = λ id.
    let old = c.loop-row.terms in
    let x = c.row-item.result in
    let k : c.get-id.result ≡ x.account.id = c.get-id.ensures.value in
    let inv : get nat_cmp old id ≡ option_map terms_of_account_row (find (λ a. a.account.id == id) (take c.loop-row.row-index c.args.accounts.now)) = c.loop-row.invariant id in
    let there = c.contains_key.ensures in
    elim c.if-not-contains_key.branch [
      | then-not-contains_key+in_ok-insert w ↦
          let u = w.in_ok-insert.ensures.updates in
          let no : c.contains_key.result ≡ false = w.if-not-contains_key.true in
          let was_none : is_some (get nat_cmp old c.get-id.result) ≡ false = sym there ∙ no in
          ap (λ m. get nat_cmp m id) w.terms-is ∙ ⊎_elim
          (λ e. let n : is_some (get nat_cmp old id) ≡ false = sym (ap (λ q. is_some (get nat_cmp old q)) e) ∙ was_none in
          sym (ap (get nat_cmp w.insert.new.self) e) ∙ u.1
          ∙ find_more_new (λ a. a.account.id == id) terms_of_account_row c.args.accounts.now c.loop-row.row-index x (get nat_cmp old id)
          c.loop-row-test.true c.row-item.is inv n (eq-eqb x.account.id id (sym k ∙ e)))
          (λ ne. u.2 id (apart c.get-id.result id ne)
          ∙ find_more_old (λ a. a.account.id == id) terms_of_account_row c.args.accounts.now c.loop-row.row-index x (get nat_cmp old id)
          c.loop-row-test.true c.row-item.is inv (λ p. absurd (ne (k ∙ eqb-true x.account.id id p))))
          (cases_eq c.get-id.result id)
      | else-not-contains_key w ↦
          let yes : c.contains_key.result ≡ true = w.if-not-contains_key.false in
          let same : get nat_cmp c.if-not-contains_key.terms id ≡ get nat_cmp old id = ap (λ m. get nat_cmp m id) w.terms-is in
          same ∙ find_more_old (λ a. a.account.id == id) terms_of_account_row c.args.accounts.now c.loop-row.row-index x (get nat_cmp old id)
          c.loop-row-test.true c.row-item.is inv (λ p. let e : c.get-id.result ≡ id = k ∙ eqb-true x.account.id id p in
          sym (ap (λ q. is_some (get nat_cmp old q)) e) ∙ sym there ∙ yes)
    ]
