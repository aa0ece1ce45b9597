use Rattle.std.proofs.Common.{◌≡◌, option_map}
use Rattle.brk_money.specs.declared.fault.CallFault.{CallFault}
use Rattle.brk_model.specs.Tables.{Tables}
use Rattle.brk_ref.specs.Rows.{abstract_summary_row}
use Rattle.brk_trade_books.specs.TradeReads.{summary_row_of_position}
use Rattle.brk_desk_decisions.specs.ResultFactReads.{AreResultFactsOfTrade, PostingFactsMatchTables}
use Rattle.brk_store_reads.proofs.Sequences.{failed_after, read_with, unchanged_after}
use Rattle.brk_desk_decisions.proofs.ResultReading.{PartyFactsMatchIfAccountExists, SecurityFactsMatchIfSecurityExists, SummaryMatches, found_known, result_facts_with}
use Rattle.std.proofs.lemmas.Result.{err_from_is_err_and}
use Rattle.brk_store_reads.specs.ReadSequences.{single_read_changes_nothing}
use Rattle.brk_desk_decisions.proofs.result_finding.result_facts_of_row.Goals as goal

pub returns-clause-read : goal.returns-clause-read
returns-clause-read g c =
    let old = c.args.store.now in
    let trade = c.args.trade in
    let parties = c.in_ok-parties.parties in
    let listed = c.in_ok-listed.listed in
    let summary = c.in_ok-summary.summary in
    let posting = c.in_ok-posting.posting in
    read_with g.S.Store old c.read_summary.new.self c.posting_facts.new.store {H = CallFault} summary posting (result_facts_with trade parties listed summary posting)
    (λ summary (t : Tables). (PartyFactsMatchIfAccountExists t trade parties listed summary × SecurityFactsMatchIfSecurityExists t trade parties listed summary)
    × SummaryMatches t trade parties listed summary)
    (λ posting (t : Tables). PostingFactsMatchTables t posting)
    (λ found (t : Tables). AreResultFactsOfTrade t trade found)
    (λ t k p. found_known t trade parties listed summary posting k.0.0 k.0.1 k.1 p)
    (read_with g.S.Store old c.traded_security.new.store c.read_summary.new.self {H = CallFault} listed summary summary
    (λ listed (t : Tables). PartyFactsMatchIfAccountExists t trade parties listed summary × SecurityFactsMatchIfSecurityExists t trade parties listed summary)
    (λ held (t : Tables). option_map abstract_summary_row held ≡ summary_row_of_position t trade.account trade.symbol)
    (λ summary (t : Tables). (PartyFactsMatchIfAccountExists t trade parties listed summary × SecurityFactsMatchIfSecurityExists t trade parties listed summary)
    × SummaryMatches t trade parties listed summary)
    (λ t k h. (k, h))
    (read_with g.S.Store old c.party_facts.new.store c.traded_security.new.store {H = CallFault} parties listed listed
    (λ parties (t : Tables). PartyFactsMatchIfAccountExists t trade parties listed summary) (λ listed (t : Tables). SecurityFactsMatchIfSecurityExists t trade parties listed summary)
    (λ listed (t : Tables). PartyFactsMatchIfAccountExists t trade parties listed summary × SecurityFactsMatchIfSecurityExists t trade parties listed summary)
    (λ t o s. (o, s)) c.in_ok-parties.ensures c.in_ok-listed.ensures)
    c.in_ok-summary.ensures.read)
    c.in_ok-posting.ensures

pub returns-in_err-listed-clause-read : goal.returns-in_err-listed-clause-read
returns-in_err-listed-clause-read g c =
    let old = c.args.store.now in
    let p = err_from_is_err_and c.from_residual-in_err-listed.result c.from_residual-in_err-listed.ensures.1 in
    rw p.1 (failed_after g.S.Store old c.party_facts.new.store c.traded_security.new.store _ p.0 _ _
    (single_read_changes_nothing old c.party_facts.new.store _ _ c.in_ok-parties.ensures) c.in_err-listed.ensures)

pub returns-in_err-summary-clause-read : goal.returns-in_err-summary-clause-read
returns-in_err-summary-clause-read g c =
    let old = c.args.store.now in
    let p = err_from_is_err_and c.from_residual-in_err-summary.result c.from_residual-in_err-summary.ensures.1 in
    rw p.1 (failed_after g.S.Store old c.traded_security.new.store c.read_summary.new.self _ p.0 _ _
    (unchanged_after g.S.Store old c.party_facts.new.store c.traded_security.new.store _ _
    (single_read_changes_nothing old c.party_facts.new.store _ _ c.in_ok-parties.ensures) c.in_ok-listed.ensures)
    c.in_err-summary.ensures.read)

pub returns-in_err-posting-clause-read : goal.returns-in_err-posting-clause-read
returns-in_err-posting-clause-read g c =
    let old = c.args.store.now in
    let p = err_from_is_err_and c.from_residual-in_err-posting.result c.from_residual-in_err-posting.ensures.1 in
    rw p.1 (failed_after g.S.Store old c.read_summary.new.self c.posting_facts.new.store _ p.0 _ _
    (unchanged_after g.S.Store old c.traded_security.new.store c.read_summary.new.self _ _
    (unchanged_after g.S.Store old c.party_facts.new.store c.traded_security.new.store _ _
    (single_read_changes_nothing old c.party_facts.new.store _ _ c.in_ok-parties.ensures) c.in_ok-listed.ensures)
    c.in_ok-summary.ensures.read) c.in_err-posting.ensures)
