use Rattle.brk_money.specs.declared.fault.CallFault.{CallFault}
use Rattle.brk_ref.specs.Rows.{abstract_trade_row}
use Rattle.brk_model.specs.Tables.{Tables}
use Rattle.brk_explain_reads.specs.Found.{AreTradeLotsInClosingOrder, AreTaxRatesAndBand, IsCashSumBeforeStamp, IsResultOfOrder, IsSettlementAndCashOfTrade}
use Rattle.brk_store_reads.proofs.Sequences.{read_with, none_read}
use Rattle.brk_explain_reads.proofs.Reading.{both_change_nothing}
use Rattle.brk_explain_reads.proofs.DetailParts.{result_known, result_with}
use Rattle.std.proofs.lemmas.Result.{err_from_is_err_and}
use Rattle.brk_store_reads.specs.ReadSequences.{joined_reads_change_nothing, single_read_changes_nothing}
use Rattle.brk_explain_reads.proofs.results.read_result_details.Goals as goal

pub returns : goal.returns
returns g c =
    let old = c.args.store.now in
    let order = c.args.order.now in
    let u = abstract_trade_row order.trade in
    let price = c.in-Some.price in
    let lots = c.in_ok-lots.lots in
    let terms = c.in_ok-terms.terms in
    let settled = c.in_ok-settled.settled in
    let cash = c.in_ok-cash.cash in
    read_with g.S.Store old c.read_settlement.new.store c.cash_sum_before.new.store {H = CallFault} settled cash (result_with price lots terms settled cash)
    (λ settled (t : Tables). AreTradeLotsInClosingOrder t u lots × AreTaxRatesAndBand t order terms × IsSettlementAndCashOfTrade t u.id settled)
    (λ cash (t : Tables). IsCashSumBeforeStamp t u.account u.stamp cash)
    (λ details (t : Tables). IsResultOfOrder order details t)
    (λ t k e. result_known t order price lots terms settled cash c.in-Some.is k.0 k.1 k.2 e)
    (read_with g.S.Store old c.read_tax_rates_with_band.new.store c.read_settlement.new.store {H = CallFault} terms settled settled
    (λ terms (t : Tables). AreTradeLotsInClosingOrder t u lots × AreTaxRatesAndBand t order terms)
    (λ settled (t : Tables). IsSettlementAndCashOfTrade t u.id settled)
    (λ settled (t : Tables). AreTradeLotsInClosingOrder t u lots × AreTaxRatesAndBand t order terms × IsSettlementAndCashOfTrade t u.id settled)
    (λ t k s. (k.0, k.1, s))
    (read_with g.S.Store old c.read_trade_lots.new.store c.read_tax_rates_with_band.new.store {H = CallFault} lots terms terms
    (λ lots (t : Tables). AreTradeLotsInClosingOrder t u lots) (λ terms (t : Tables). AreTaxRatesAndBand t order terms)
    (λ terms (t : Tables). AreTradeLotsInClosingOrder t u lots × AreTaxRatesAndBand t order terms)
    (λ t a b. (a, b)) c.in_ok-lots.ensures c.in_ok-terms.ensures)
    c.in_ok-settled.ensures)
    c.in_ok-cash.ensures

pub returns-in_err-terms : goal.returns-in_err-terms
returns-in_err-terms g c =
    let old = c.args.store.now in
    let mid = c.read_trade_lots.new.store in
    let end = c.read_tax_rates_with_band.new.store in
    let p = err_from_is_err_and c.from_residual-in_err-terms.result c.from_residual-in_err-terms.ensures.1 in
    rw p.1 (none_read g.S.Store old end p.0 _ (both_change_nothing g.S.Store old mid end _ _ _ _ c.in_ok-lots.ensures c.in_err-terms.ensures))

pub returns-in_err-settled : goal.returns-in_err-settled
returns-in_err-settled g c =
    let old = c.args.store.now in
    let mid = c.read_trade_lots.new.store in
    let late = c.read_tax_rates_with_band.new.store in
    let end = c.read_settlement.new.store in
    let p = err_from_is_err_and c.from_residual-in_err-settled.result c.from_residual-in_err-settled.ensures.1 in
    rw p.1
    (none_read g.S.Store old end p.0 _
    (joined_reads_change_nothing old late end (both_change_nothing g.S.Store old mid late _ _ _ _ c.in_ok-lots.ensures c.in_ok-terms.ensures)
    (single_read_changes_nothing late end _ _ c.in_err-settled.ensures)))
