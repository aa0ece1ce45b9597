use Rattle.std.proofs.Common.{◌≡◌, ◌+◌, Bool, ℕ}
use Rattle.brk_money.specs.declared.fault.CallFault.{CallFault}
use Rattle.brk_model.specs.Tables.{Tables}
use Rattle.brk_trade_plans.specs.declared.movement.MovementPlanFacts.{MovementPlanFacts}
use Rattle.brk_trade_books.specs.TradeReads.{last_cash_row_number_or_zero}
use Rattle.brk_trade_theorems.specs.MovePlans.{MovementFactsMatchTables}
use Rattle.brk_store_reads.proofs.Sequences.{failed_after, read_with}
use Rattle.brk_desk_decisions.proofs.Moves.{IsBalanceOfAccount, IsTrueIfMovementsAreMaximum}
use Rattle.std.proofs.lemmas.Result.{err_from_is_err_and}
use Rattle.brk_store_reads.specs.ReadSequences.{single_read_changes_nothing}
use Rattle.brk_desk_decisions.proofs.movement_finding.movement_facts.Goals as goal

pub returns : goal.returns
returns g c =
    let m = c.args.movement.now in
    let balance = c.in_ok-balance.balance in
    let next = c.in_ok-next.next in
    let all = c.in_ok-next.has_all_movements in
    let found : MovementPlanFacts = record { balance = balance; has_all_movements = all; next = next } in
    read_with g.S.Store c.args.store.now c.read_balance.new.self c.next_movement_number.new.self {H = CallFault} balance (next, all) found
    (IsBalanceOfAccount m.account)
    (λ (number : ℕ × Bool) (t : Tables). (number.0 ≡ last_cash_row_number_or_zero t + 1) × IsTrueIfMovementsAreMaximum number.1 t)
    (λ found (t : Tables). MovementFactsMatchTables t m found)
    (λ t b n. record { balance = b; counted = n.1; next = n.0 })
    c.in_ok-balance.ensures.read c.in_ok-next.ensures.read

pub returns-in_err-next : goal.returns-in_err-next
returns-in_err-next g c =
    let old = c.args.store.now in
    let p = err_from_is_err_and c.from_residual-in_err-next.result c.from_residual-in_err-next.ensures.1 in
    rw p.1 (failed_after g.S.Store old c.read_balance.new.self c.next_movement_number.new.self _ p.0 _ _
    (single_read_changes_nothing old c.read_balance.new.self _ _ c.in_ok-balance.ensures.read) c.in_err-next.ensures.read)
