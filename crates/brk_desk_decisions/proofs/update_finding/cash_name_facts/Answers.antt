use Rattle.std.proofs.Common.{◌≡◌, Option, Some, None, true}
use Rattle.std.specs.Prelude.{MatchOption, is_none}
use Rattle.brk_money.specs.Spelling.{Text}
use Rattle.brk_money.specs.declared.fault.CallFault.{CallFault}
use Rattle.brk_model.specs.Joins.{security_row_with_symbol}
use Rattle.brk_model.specs.Tables.{Tables}
use Rattle.brk_trade_rows.specs.Chosen.{first_twenty_completed_cash_trade_rows_of_symbol}
use Rattle.brk_ref_orders.specs.declared.update.Update.TheVariants as update
use Rattle.brk_trade_plans.specs.declared.corrected.TextUpdate.{TextUpdate}
use Rattle.brk_trade_plans.specs.declared.corrected.TextUpdate.TheVariants.{CashNames}
use Rattle.brk_store_reads.proofs.Sequences.{failed_after, read_with}
use Rattle.brk_store_reads.proofs.Retelling.{retold}
use Rattle.brk_trade_theorems.specs.Corrections.{CashTextsMatchTables, UpdateFactsMatchTables, SecurityHasName}
use Rattle.std.proofs.lemmas.Result.{err_from_is_err_and}
use Rattle.brk_store_reads.specs.ReadSequences.{single_read_changes_nothing}
use Rattle.brk_desk_decisions.proofs.update_finding.cash_name_facts.Goals as goal

-- the name that a look-up gave, none where there is no such security
abbrev IsNameOf : Text → Option Text → Tables → Type 0
IsNameOf symbol name t = MatchOption name (is_none (security_row_with_symbol t symbol) ≡ true) (SecurityHasName t symbol)

pub returns-in_default : goal.returns-in_default
returns-in_default g c =
    retold g.S.Store c.args.store.now c.security_name.new.store {V = Option Text} {X = Option TextUpdate} None None
    (IsNameOf c.args.symbol.now)
    (λ found (t : Tables). UpdateFactsMatchTables t (update.CashNames c.args.symbol.now c.args.span) found)
    (λ t e. e)
    (rw c.in_default.is at c.in_ok-name.ensures)

pub returns : goal.returns
returns g c =
    let span = c.args.span in
    let paid = c.in_ok-paid.paid in
    read_with g.S.Store c.args.store.now c.security_name.new.store c.read_cash_names.new.store {X = Option TextUpdate} {H = CallFault}
    (Some c.in-Some.name) paid (Some (CashNames c.in-Some.name paid))
    (IsNameOf c.args.symbol.now)
    (λ paid (t : Tables). CashTextsMatchTables t (first_twenty_completed_cash_trade_rows_of_symbol c.args.symbol.now span.first span.last t) paid.items)
    (λ found (t : Tables). UpdateFactsMatchTables t (update.CashNames c.args.symbol.now span) found)
    (λ t e k. (e, k))
    (rw c.in-Some.is at c.in_ok-name.ensures) c.in_ok-paid.ensures

pub returns-in_err-paid : goal.returns-in_err-paid
returns-in_err-paid g c =
    let old = c.args.store.now in
    let p = err_from_is_err_and c.from_residual-in_err-paid.result c.from_residual-in_err-paid.ensures.1 in
    rw p.1 (failed_after g.S.Store old c.security_name.new.store c.read_cash_names.new.store _ p.0 _ _
    (single_read_changes_nothing old c.security_name.new.store _ _ c.in_ok-name.ensures) c.in_err-paid.ensures)
