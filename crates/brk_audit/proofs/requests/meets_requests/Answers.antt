use Rattle.std.proofs.Common.{◌==◌, ap, ◌∙◌}
use Rattle.std.specs.Prelude.{find, option_map}
use Rattle.brk_audit_sums.specs.AccountTerms.{terms_of_account_row}
use Rattle.brk_audit_sums.proofs.AccountTerms.{HasTerms}
use Rattle.brk_audit.proofs.SettlingHolds.{requests_hold}
use Rattle.brk_audit.proofs.requests.meets_requests.Goals as goal

pub returns : goal.returns
returns c = λ schema.
    let terms : HasTerms c.in_ok-terms.terms c.args.sheets.now.accounts.items =
    λ id. c.in_ok-terms.ensures.terms id ∙ ap (λ accounts. option_map terms_of_account_row (find (λ a. a.account.id == id) accounts)) c.deref.ensures.value in
    let law = requests_hold schema c.args.sheets.now c.in_ok-terms.terms c.deref-2.result.now c.deref-3.result.now c.requires.form c.requires.status terms
    c.deref-2.ensures.value c.deref-3.ensures.value in
    ((λ h. law.0 (c.requests_match_trades.ensures.0 h)), (λ h. c.requests_match_trades.ensures.1 (law.1 h)))
