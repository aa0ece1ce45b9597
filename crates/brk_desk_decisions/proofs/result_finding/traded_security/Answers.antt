use Rattle.std.proofs.Common.{◌≡◌, option_map, refl, subst, sym}
use Rattle.std.specs.Prelude.{IfSome}
use Rattle.brk_money.specs.declared.fault.CallFault.{CallFault}
use Rattle.brk_model.specs.Joins.{security_row_with_symbol}
use Rattle.brk_model.specs.Records.{Band}
use Rattle.brk_model.specs.Tables.{SecurityRow, Tables}
use Rattle.brk_trade_books.specs.TradeReads.{commission_band_of_quantity}
use Rattle.brk_desk_decisions.specs.ResultFactReads.{SecurityFactsMatchTables}
use Rattle.brk_store_required.specs.Required.{IsSecurityWithSymbol}
use Rattle.brk_trade.specs.declared.result_found.TradedSecurity.{TradedSecurity}
use Rattle.brk_store_reads.proofs.Sequences.{failed_after, read_with}
use Rattle.std.proofs.lemmas.Result.{err_from_is_err_and}
use Rattle.brk_store_reads.specs.ReadSequences.{single_read_changes_nothing}
use Rattle.brk_desk_decisions.proofs.result_finding.traded_security.Goals as goal

pub returns : goal.returns
returns g c =
    let trade = c.args.trade.now in
    let security = c.in_ok-security.security in
    let rate = c.in_ok-rate.rate in
    let listed : TradedSecurity = record { security = security; rate = rate } in
    read_with g.S.Store c.args.store.now c.require_security.new.store c.read_band_rate.new.store {H = CallFault} security rate listed
    (λ security (t : Tables). IsSecurityWithSymbol t trade.symbol security)
    (λ rate (t : Tables). rate ≡ option_map (λ (b : Band). b.rate) (commission_band_of_quantity t c.args.tier trade.kind security.exchange trade.qty))
    (λ listed (t : Tables). IfSome (security_row_with_symbol t trade.symbol) (λ s. SecurityFactsMatchTables t trade c.args.tier s listed))
    (λ t e r. subst (λ x. IfSome x (λ (s : SecurityRow). SecurityFactsMatchTables t trade c.args.tier s listed)) (sym e) (record { security = refl; rate = r }))
    c.in_ok-security.ensures.read c.in_ok-rate.ensures

pub returns-in_err-rate : goal.returns-in_err-rate
returns-in_err-rate g c =
    let old = c.args.store.now in
    let p = err_from_is_err_and c.from_residual-in_err-rate.result c.from_residual-in_err-rate.ensures.1 in
    rw p.1 (failed_after g.S.Store old c.require_security.new.store c.read_band_rate.new.store _ p.0 _ _
    (single_read_changes_nothing old c.require_security.new.store _ _ c.in_ok-security.ensures.read) c.in_err-rate.ensures)
