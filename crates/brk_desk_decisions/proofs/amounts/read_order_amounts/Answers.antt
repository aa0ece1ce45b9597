use Rattle.std.proofs.Common.{◌≡◌, ℤ, Option}
use Rattle.brk_money.specs.declared.fault.CallFault.{CallFault}
use Rattle.brk_model.specs.Tables.{Tables}
use Rattle.brk_trade_books.specs.Reads.{customer_tax_rate_sum}
use Rattle.brk_desk_decisions.specs.OrderFactReads.{AreAssetsAndSharesOfAccount, EstimateAmountsMatchTables}
use Rattle.brk_desk_decisions.specs.declared.amounts.Amounts.{Amounts}
use Rattle.brk_store_reads.proofs.Sequences.{failed_after, read_with}
use Rattle.std.proofs.lemmas.Result.{err_from_is_err_and}
use Rattle.brk_store_reads.specs.ReadSequences.{single_read_changes_nothing}
use Rattle.brk_desk_decisions.proofs.amounts.read_order_amounts.Goals as goal

pub returns : goal.returns
returns g c =
    let account = c.args.account.now in
    let order = c.args.order.now in
    let rates = c.in_ok-rates.rates in
    let assets = c.in_ok-assets.assets in
    let summary = c.in_ok-assets.summary in
    let amounts : Amounts = record { rates = rates; assets = assets; summary = summary } in
    read_with g.S.Store c.args.store.now c.require_tax_rate_sum.new.store c.read_account_amounts.new.store {H = CallFault} rates (assets, summary) amounts
    (λ rates (t : Tables). rates ≡ customer_tax_rate_sum t account.account.customer)
    (λ (held : ℤ × Option ℤ) (t : Tables). AreAssetsAndSharesOfAccount t account order.symbol held.0 held.1)
    (λ amounts (t : Tables). EstimateAmountsMatchTables t account order amounts)
    (λ t e h. record { rates = e; held = h })
    c.in_ok-rates.ensures c.in_ok-assets.ensures

pub returns-in_err-assets : goal.returns-in_err-assets
returns-in_err-assets g c =
    let old = c.args.store.now in
    let p = err_from_is_err_and c.from_residual-in_err-assets.result c.from_residual-in_err-assets.ensures.1 in
    rw p.1 (failed_after g.S.Store old c.require_tax_rate_sum.new.store c.read_account_amounts.new.store _ p.0 _ _
    (single_read_changes_nothing old c.require_tax_rate_sum.new.store _ _ c.in_ok-rates.ensures) c.in_err-assets.ensures)
