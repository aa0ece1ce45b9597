use Rattle.std.proofs.Common.{◌≡◌, Err, None, Ok, Option, Some, find, option_map}
use Rattle.std.specs.Prelude.{Result, bytes_eq}
use Rattle.brk_money.specs.declared.fault.CallFault.{CallFault}
use Rattle.brk_money.specs.declared.fault.CallFault.TheVariants as call
use Rattle.brk_money.specs.declared.refusal.Refusal.{Refusal}
use Rattle.brk_money.specs.declared.refusal.Refusal.TheVariants.{NoCustomer}
use Rattle.brk_model.specs.Queries.{PositionOfTaxId}
use Rattle.brk_model.specs.Tables.{Tables}
use Rattle.brk_ref.specs.Records.{abstract_customer}
use Rattle.brk_ref.specs.declared.customer.Customer.{Customer}
use Rattle.brk_store_reads.proofs.Retelling.{retold}
use Rattle.brk_view_rows.specs.declared.view.View.{View}
use Rattle.brk_desk_queries.specs.QueryResults.{AnswersQueryAsModel}
use Rattle.brk_desk_queries.proofs.AccountViews.{AreAccountWorthsOfCustomer, no_tax_id, position_seen_by_tax_id}
use Rattle.std.proofs.lemmas.Result.{err_from_is_err_and}
use Rattle.brk_store_reads.specs.ReadSequences.{single_read_changes_nothing}
use Rattle.brk_store_reads.proofs.Sequences.{failed_after, none_read, read_with, unchanged_after}
use Rattle.brk_desk_queries.proofs.accounts.customer_by_tax_id_view.Goals as goal

pub returns-in_default : goal.returns-in_default
returns-in_default g c =
    let tax_id = c.args.tax_id.now in
    retold g.S.Store c.args.store.now c.customer_by_tax_id.new.self {V = Option Customer} {X = Result View Refusal} None (Err NoCustomer)
    (λ o (t : Tables). option_map abstract_customer o ≡ find (λ r. bytes_eq r.tax_id tax_id) t.customers) (AnswersQueryAsModel (PositionOfTaxId tax_id)) (no_tax_id tax_id)
    (rw c.in_default.is at c.in_ok-found.ensures.read)

pub returns-in-Ok : goal.returns-in-Ok
returns-in-Ok g c =
    let tax_id = c.args.tax_id.now in
    let x = c.in-Some.found in
    let worths = c.in_ok-worths.worths in
    let view = c.in-Ok.view in
    read_with g.S.Store c.args.store.now c.customer_by_tax_id.new.self c.read_worths.new.store {X = Result View Refusal} {H = CallFault} (Some x) worths (Ok view)
    (λ o (t : Tables). option_map abstract_customer o ≡ find (λ r. bytes_eq r.tax_id tax_id) t.customers)
    (λ all (t : Tables). AreAccountWorthsOfCustomer x.id all.items t)
    (AnswersQueryAsModel (PositionOfTaxId tax_id))
    (λ t e w. position_seen_by_tax_id tax_id (abstract_customer x) worths.items c.in-Ok.ensures.value.0 view c.in-Ok.ensures.view c.in-Ok.ensures.value.1 t e w)
    (rw c.in-Some.is at c.in_ok-found.ensures.read) c.in_ok-worths.ensures

pub returns-in_err-worths : goal.returns-in_err-worths
returns-in_err-worths g c =
    let old = c.args.store.now in
    let p = err_from_is_err_and c.from_residual-in_err-worths.result c.from_residual-in_err-worths.ensures.1 in
    rw p.1 (failed_after g.S.Store old c.customer_by_tax_id.new.self c.read_worths.new.store _ p.0 _ _
    (single_read_changes_nothing old c.customer_by_tax_id.new.self _ _ c.in_ok-found.ensures.read) c.in_err-worths.ensures)

pub returns : goal.returns
returns g c =
    let old = c.args.store.now in
    none_read g.S.Store old c.read_worths.new.store call.Memory _
    (unchanged_after g.S.Store old c.customer_by_tax_id.new.self c.read_worths.new.store _ _
    (single_read_changes_nothing old c.customer_by_tax_id.new.self _ _ c.in_ok-found.ensures.read) c.in_ok-worths.ensures)
