use Rattle.std.proofs.Common.{◌≡◌, ◌==◌, ◌∙◌, ◌+◌, ◌+ℤ◌, ℤ, ℕ, IfSome, List, Option, Some, ap, filter, map, sym, take}
use Rattle.std.proofs.lemmas.List.{take_all}
use Rattle.std.specs.Global.{Vec}
use Rattle.brk_money.specs.declared.fault.CallFault.{CallFault}
use Rattle.brk_model.specs.Lists.{total_by}
use Rattle.brk_model.specs.Tables as tables
use Rattle.brk_model.specs.Tables.{Tables}
use Rattle.brk_ref.specs.Rows.{abstract_summary_row}
use Rattle.brk_ref.specs.declared.summary_row.SummaryRow.{SummaryRow}
use Rattle.brk_store_index.specs.Prices.{market_value_of_summary}
use Rattle.brk_store_index.proofs.Pricing.{total_by-none, worth_more}
use Rattle.brk_store_required.specs.Valuation.{AreValuedSummariesOfAccount}
use Rattle.brk_store_required.specs.declared.valuation.ValuedSummaries.{ValuedSummaries}
use Rattle.brk_store_reads.proofs.Retelling.{retold}
use Rattle.brk_store_reads.proofs.Sequences.{failed_after, read_with}
use Rattle.std.proofs.lemmas.Result.{err_from_is_err_and}
use Rattle.brk_store_reads.specs.ReadSequences.{single_read_changes_nothing}
use Rattle.brk_store_required.proofs.valuation.read_valued_summaries.Goals as goal

-- the worth of the first rows, which are an account's
abbrev FirstWorth : ℕ → List SummaryRow → ℤ → ℕ → Tables → Type 0
FirstWorth account rows total i t =
    (map abstract_summary_row rows ≡ filter (λ (r : tables.SummaryRow). r.account == account) t.summaries)
    × (total ≡ total_by (market_value_of_summary t) (map abstract_summary_row (take i rows)))

-- the summaries of an account, and their worth if it is known
abbrev AreSummaries : ℕ → Vec SummaryRow × Option ℤ → Tables → Type 0
AreSummaries account held t =
    (map abstract_summary_row held.0.items ≡ filter (λ (r : tables.SummaryRow). r.account == account) t.summaries)
    × IfSome held.1 (λ value. value ≡ total_by (market_value_of_summary t) (map abstract_summary_row held.0.items))

pub returns-in-Some : goal.returns-in-Some
returns-in-Some g c =
    let account = c.args.account in
    let all = c.in_ok-rows.rows in
    let held : ValuedSummaries = record { rows = all; value = c.in-Some.value } in
    record {
      read = retold g.S.Store c.args.store.now c.summaries_with_value.new.self (all, Some c.in-Some.value) held
          (AreSummaries account) (λ held (t : Tables). AreValuedSummariesOfAccount t account held)
          (λ t are. record { rows = are.0; value = are.1 ∙ ap (total_by (market_value_of_summary t)) are.0 })
          (rw c.in-Some.is at c.in_ok-rows.ensures.read);
    }

pub loop-row-init : goal.loop-row-init
loop-row-init g c =
    retold g.S.Store c.args.store.now c.summaries_with_value.new.self (c.in_ok-rows.rows, c.in_ok-rows.value) tt (AreSummaries c.args.account)
    (λ _. FirstWorth c.args.account c.deref-row-items.result.now c.new-total.result 0)
    (λ t are. (ap (map abstract_summary_row) c.deref-row-items.ensures.value ∙ are.0, c.new-total.ensures ∙ sym (total_by-none (market_value_of_summary t))))
    c.in_ok-rows.ensures.read

pub loop-row-preserved : goal.loop-row-preserved
loop-row-preserved g c =
    let rows = c.deref-row-items.result.now in
    let i = c.loop-row.row-index in
    let row = c.row-item.result in
    let sum = c.in_ok-sum.sum in
    read_with g.S.Store c.args.store.now c.loop-row.store c.add_value_at_last_price.new.store {H = CallFault} tt sum tt
    (λ _. FirstWorth c.args.account rows c.loop-row.total i)
    (λ sum (t : Tables). sum ≡ c.loop-row.total +ℤ market_value_of_summary t (abstract_summary_row row))
    (λ _. FirstWorth c.args.account rows sum (i + 1))
    (λ t p e. (
      p.0,
      e ∙ ap (λ n. n +ℤ market_value_of_summary t (abstract_summary_row row)) p.1 ∙ worth_more abstract_summary_row (market_value_of_summary t) rows i row c.loop-row-test.true c.row-item.is,
    ))
    c.loop-row.invariant c.in_ok-sum.ensures.read

pub returns : goal.returns
returns g c =
    let account = c.args.account in
    let all = c.in_ok-rows.rows in
    let rows = c.deref-row-items.result.now in
    let i = c.loop-row.row-index in
    let held : ValuedSummaries = record { rows = all; value = c.loop-row.total } in
    record {
      read = retold g.S.Store c.args.store.now c.loop-row.store tt held
          (λ _. FirstWorth account rows c.loop-row.total i)
          (λ held (t : Tables). AreValuedSummariesOfAccount t account held)
          (λ t p. record {
            rows = sym (ap (map abstract_summary_row) c.deref-row-items.ensures.value) ∙ p.0;
            value = p.1 ∙ ap (λ xs. total_by (market_value_of_summary t) (map abstract_summary_row xs)) (take_all i rows c.loop-row-test.false) ∙ ap (total_by (market_value_of_summary t)) p.0;
          })
          c.loop-row.invariant;
    }

pub returns-in_err-sum : goal.returns-in_err-sum
returns-in_err-sum g c =
    let old = c.args.store.now in
    let p = err_from_is_err_and c.from_residual-in_err-sum.result c.from_residual-in_err-sum.ensures.1 in
    record {
      read = rw p.1 (failed_after g.S.Store old c.loop-row.store c.add_value_at_last_price.new.store _ p.0 _ _
          (single_read_changes_nothing old c.loop-row.store _ _ c.loop-row.invariant) c.in_err-sum.ensures.read);
    }
