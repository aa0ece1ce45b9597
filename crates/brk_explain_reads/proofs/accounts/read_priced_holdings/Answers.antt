use Rattle.std.proofs.Common.{◌≡◌, ◌==◌, ◌∙◌, ◌++◌, ◌∷◌, [], ℕ, List, ap, filter, map, reverse, sym}
use Rattle.brk_money.specs.declared.fault.CallFault.{CallFault}
use Rattle.brk_ref.specs.Rows.{abstract_summary_row}
use Rattle.brk_ref.specs.declared.summary_row.SummaryRow as row
use Rattle.brk_model.specs.Tables.{SummaryRow, Tables}
use Rattle.brk_store_reads.proofs.Retelling.{retold}
use Rattle.brk_model_explain.specs.AccountLines.{priced_holding, priced_holdings_of_account}
use Rattle.brk_explain_rows.specs.Details.{abstract_priced_holding}
use Rattle.brk_explain_rows.specs.declared.account_details.PricedHolding.{PricedHolding}
use Rattle.brk_explain_reads.proofs.Each.{all_made, map_map, none_made, popped}
use Rattle.brk_store_reads.proofs.Sequences.{read_with, none_read}
use Rattle.brk_explain_reads.proofs.Reading.{both_change_nothing}
use Rattle.std.proofs.lemmas.Result.{err_from_is_err_and}
use Rattle.brk_explain_reads.proofs.accounts.read_priced_holdings.Goals as goal

-- summaries that are left, and those after them with their prices, are an account's
abbrev AreHeld : ℕ → List row.SummaryRow → List PricedHolding → Tables → Type 0
AreHeld account rest held t = map (λ r. priced_holding t (abstract_summary_row r)) rest ++ map abstract_priced_holding (reverse held) ≡ priced_holdings_of_account t account

pub loop-summary-init : goal.loop-summary-init
loop-summary-init g c =
    let rest = c.in_ok-rest.rest in
    retold g.S.Store c.args.store.now c.read_summaries.new.self rest tt
    (λ all (t : Tables). map abstract_summary_row all.items ≡ filter (λ (r : SummaryRow). r.account == c.args.account) t.summaries)
    (λ _. AreHeld c.args.account rest.items c.new-held.result.items)
    (λ t e. none_made (λ r. priced_holding t (abstract_summary_row r)) abstract_priced_holding rest.items c.new-held.result.items c.new-held.ensures.items
    ∙ sym (map_map (priced_holding t) abstract_summary_row rest.items) ∙ ap (map (priced_holding t)) e)
    c.in_ok-rest.ensures.read

pub loop-summary-preserved : goal.loop-summary-preserved
loop-summary-preserved g c =
    let before = c.loop-summary.rest.items in
    let rest = c.pop.new.self.items in
    let summary = c.in-Some.summary in
    let all = c.loop-summary.held.items in
    let one = c.in_ok-one.one in
    rw c.in_ok-push.ensures.items
    (read_with g.S.Store c.args.store.now c.loop-summary.store c.price_holding.new.store {H = CallFault} tt one tt
    (λ _. AreHeld c.args.account before all)
    (λ held (t : Tables). abstract_priced_holding held ≡ priced_holding t (abstract_summary_row summary))
    (λ _. AreHeld c.args.account rest (all ++ one ∷ []))
    (λ t p e. popped (λ r. priced_holding t (abstract_summary_row r)) abstract_priced_holding before rest summary all one _ c.in-Some.ensures.items p e)
    c.loop-summary.invariant c.in_ok-one.ensures)

pub returns : goal.returns
returns g c =
    let rest = c.loop-summary.rest in
    let held = c.loop-summary.held.items in
    retold g.S.Store c.args.store.now c.loop-summary.store tt c.reverse.new.self
    (λ _. AreHeld c.args.account rest.items held)
    (λ held (t : Tables). map abstract_priced_holding held.items ≡ priced_holdings_of_account t c.args.account)
    (λ t p. ap (map abstract_priced_holding) c.reverse.ensures.items
    ∙ all_made (λ r. priced_holding t (abstract_summary_row r)) abstract_priced_holding rest.items held _ (sym rest.ok.0 ∙ c.in_default.ensures.cases.0) p)
    c.loop-summary.invariant

pub returns-in_err-one : goal.returns-in_err-one
returns-in_err-one g c =
    let old = c.args.store.now in
    let mid = c.loop-summary.store in
    let end = c.price_holding.new.store in
    let left = λ (_ : Unit {0}). AreHeld c.args.account c.loop-summary.rest.items c.loop-summary.held.items in
    let p = err_from_is_err_and c.from_residual-in_err-one.result c.from_residual-in_err-one.ensures.1 in
    rw p.1 (none_read g.S.Store old end p.0 _ (both_change_nothing g.S.Store old mid end _ _ left _ c.loop-summary.invariant c.in_err-one.ensures))

pub returns-in_err-push : goal.returns-in_err-push
returns-in_err-push g c =
    let old = c.args.store.now in
    let mid = c.loop-summary.store in
    let end = c.price_holding.new.store in
    let left = λ (_ : Unit {0}). AreHeld c.args.account c.loop-summary.rest.items c.loop-summary.held.items in
    let p = err_from_is_err_and c.from_residual-in_err-push.result c.from_residual-in_err-push.ensures.1 in
    rw p.1 (none_read g.S.Store old end p.0 _ (both_change_nothing g.S.Store old mid end _ _ left _ c.loop-summary.invariant c.in_ok-one.ensures))
