use Rattle.std.proofs.Common.{◌∙◌, refl, sym}
use Rattle.brk_explain_reads.proofs.Skipped.{if_err_more, on_ok_more, takes_passed, takes_skipped}
use Rattle.brk_explain_reads.proofs.brokers.AccountFilterVisitorTradeRow.visit.Goals as goal

pub returns-then-has_account-clause-takes : goal.returns-then-has_account-clause-takes
returns-then-has_account-clause-takes g c =
    let is = sym c.has_account.ensures ∙ c.if-has_account.true in
    on_ok_more c.visit.result (λ h. (refl, takes_passed _ g.V.Visitor.takes _ _ _ is h)) c.visit.ensures.takes

pub returns-then-has_account-clause-stops : goal.returns-then-has_account-clause-stops
returns-then-has_account-clause-stops g c =
    let is = sym c.has_account.ensures ∙ c.if-has_account.true in
    if_err_more _ _ c.visit.result (λ e h. (is, h)) c.visit.ensures.stops

pub returns-clause-takes : goal.returns-clause-takes
returns-clause-takes g c =
    let is = sym c.has_account.ensures ∙ c.if-has_account.false in
    (refl, takes_skipped _ g.V.Visitor.takes _ _ is)
