use Rattle.std.proofs.Common.{◌≡◌, ℕ, ◌==◌, ◌∙◌, sym, ap, pos}
use Rattle.std.specs.Prelude.{find, option_map}
use Rattle.std.specs.BTreeMap.{BTreeMap}
use Rattle.std.specs.List.{filter_map}
use Rattle.std.specs.Ordering.{nat_cmp}
use Rattle.brk_model.specs.Tables.{Tables}
use Rattle.brk_ref.specs.Records.{abstract_broker_row}
use Rattle.brk_ref.specs.Rows.{abstract_trade_row}
use Rattle.brk_trade_rows.specs.Sheets.{abstract_sheets}
use Rattle.brk_trade_rows.specs.declared.sheets.Sheets.{Sheets}
use Rattle.brk_audit_theorems.proofs.Parts.{key_parts}
use Rattle.brk_model_theorems.proofs.FormParts.{form_parts}
use Rattle.brk_audit_sums.specs.declared.account_terms.AccountTerms.{AccountTerms}
use Rattle.brk_audit_sums.specs.AccountTerms.{account_broker_in_terms, terms_of_account_row}
use Rattle.brk_audit_sums.specs.Sums.{broker_posting_of_trade_row}
use Rattle.brk_audit_sums.specs.Tally.{sum_at_key, total_amount_at_key}
use Rattle.brk_audit_sums.proofs.AccountTerms.{HasTerms}
use Rattle.brk_audit_sums.proofs.Checked.{broker_sums, told_by}
use Rattle.brk_audit_sums.proofs.SumRows.{counts_by_rows}
use Rattle.brk_audit_sums.proofs.counts.meets_count.Goals as goal
use Rattle.brk_audit_sums.proofs.Sums.{sum_over_broker_trades}

pub returns : goal.returns
returns c = λ schema.
    let s : Sheets = c.args.sheets.now in
    let t : Tables = abstract_sheets s in
    let terms : BTreeMap ℕ AccountTerms = c.in_ok-terms.terms in
    let has : HasTerms terms s.accounts.items = λ id. c.in_ok-terms.ensures.terms id ∙ ap (λ rows. option_map terms_of_account_row (find (λ a. a.account.id == id) rows)) c.deref.ensures.value in
    let sum : (q : ℕ) → sum_at_key nat_cmp c.in_ok-sums.sums q ≡ sum_over_broker_trades t (λ r. pos 1) q =
    broker_sums s terms (λ r. pos 1) c.in_ok-sums.sums c.in_ok-postings.postings.items has (λ q. c.in_ok-sums.ensures.sums q ∙ ap (λ ps. total_amount_at_key nat_cmp ps q) c.deref-3.ensures.value)
    (c.in_ok-postings.ensures.all ∙ ap (filter_map (λ r. broker_posting_of_trade_row (account_broker_in_terms terms) (abstract_trade_row r) (pos 1))) c.deref-2.ensures.value) in
    told_by (λ row. row.trades ≡ sum_at_key nat_cmp c.in_ok-sums.sums row.broker.id) (λ row. row.trades ≡ sum_over_broker_trades t (λ r. pos 1) row.id)
    abstract_broker_row s.brokers.items c.deref-4.result.now c.deref-4.ensures.value c.all_match_sums.ensures
    (λ row e. e ∙ sum row.broker.id)
    (λ row e. e ∙ sym (sum row.broker.id))
    (counts_by_rows schema t (key_parts t (form_parts c.requires.form.schema t c.requires.form.form).keys).brokers c.requires.status)
