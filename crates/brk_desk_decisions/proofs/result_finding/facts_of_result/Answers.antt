use Rattle.std.proofs.Common.{◌≡◌, ◌==◌, None, Option, Some, find, option_map, sym}
use Rattle.brk_money.specs.declared.fault.CallFault.{CallFault}
use Rattle.brk_model.specs.Tables as tables
use Rattle.brk_model.specs.Tables.{Tables}
use Rattle.brk_ref.specs.Rows.{abstract_trade_row}
use Rattle.brk_trade.specs.declared.result_found.ResultPlanFacts.{ResultPlanFacts}
use Rattle.brk_ref.specs.declared.trade_row.TradeRow.{TradeRow}
use Rattle.brk_desk_decisions.specs.ResultFactReads.{AreResultFactsOfTradeWithId, AreResultFactsOfTrade}
use Rattle.brk_store_reads.proofs.Retelling.{retold}
use Rattle.brk_store_reads.proofs.Sequences.{failed_after, read_with}
use Rattle.brk_desk_decisions.proofs.ResultReading.{there}
use Rattle.std.proofs.lemmas.Result.{err_from_is_err_and}
use Rattle.brk_store_reads.specs.ReadSequences.{single_read_changes_nothing}
use Rattle.brk_desk_decisions.proofs.result_finding.facts_of_result.Goals as goal

pub returns-in_ok-found-in-Some-clause-read : goal.returns-in_ok-found-in-Some-clause-read
returns-in_ok-found-in-Some-clause-read g c =
    let row : TradeRow = c.in-Some.row in
    let found = c.in_ok-found-in-Some.found in
    read_with g.S.Store c.args.store.now c.trade.new.self c.result_facts_of_row.new.store {H = CallFault} (Some row) found (Some found)
    (λ o (t : Tables). option_map abstract_trade_row o ≡ find (λ (r : tables.TradeRow). r.id == c.args.trade) t.trades)
    (λ found (t : Tables). AreResultFactsOfTrade t row found)
    (λ o (t : Tables). AreResultFactsOfTradeWithId t c.args.trade o)
    (λ t e k. there t c.args.trade row found e k)
    (rw c.in-Some.is at c.in_ok-row.ensures.read) c.in_ok-found-in-Some.ensures.read

pub returns-in-None-clause-read : goal.returns-in-None-clause-read
returns-in-None-clause-read g c =
    retold g.S.Store c.args.store.now c.trade.new.self {V = Option TradeRow} {X = Option ResultPlanFacts} None None
    (λ o (t : Tables). option_map abstract_trade_row o ≡ find (λ (r : tables.TradeRow). r.id == c.args.trade) t.trades)
    (λ o (t : Tables). AreResultFactsOfTradeWithId t c.args.trade o)
    (λ t e. record { trade = sym e; read = tt })
    (rw c.in-None.is at c.in_ok-row.ensures.read)

pub returns-in_err-found-in-Some-clause-read : goal.returns-in_err-found-in-Some-clause-read
returns-in_err-found-in-Some-clause-read g c =
    let old = c.args.store.now in
    let p = err_from_is_err_and c.from_residual-in_err-found-in-Some.result c.from_residual-in_err-found-in-Some.ensures.1 in
    rw p.1 (failed_after g.S.Store old c.trade.new.self c.result_facts_of_row.new.store _ p.0 _ _
    (single_read_changes_nothing old c.trade.new.self _ _ c.in_ok-row.ensures.read) c.in_err-found-in-Some.ensures.read)
