use Rattle.std.proofs.Common.{◌≡◌}
use Rattle.std.specs.Prelude.{IfSome, option_map}
use Rattle.brk_money.specs.OrderTypes.{trade_type_of_order_type}
use Rattle.brk_money.specs.declared.fault.CallFault.{CallFault}
use Rattle.brk_model.specs.Joins.{security_row_with_symbol}
use Rattle.brk_model.specs.Orders.{is_customer_or_has_permission}
use Rattle.brk_model.specs.Records.{Band}
use Rattle.brk_model.specs.Tables.{SecurityRow, Tables}
use Rattle.brk_ref.specs.Records.{abstract_customer, abstract_executor}
use Rattle.brk_trade_books.specs.OrderReads.{charge_of_type_and_tier, last_price_of_symbol}
use Rattle.brk_trade_books.specs.TradeReads.{commission_band_of_quantity, permission_list_for_tax_id}
use Rattle.brk_desk_decisions.specs.OrderFactReads.{CustomerOrderFactsMatchTables}
use Rattle.brk_desk_decisions.specs.declared.order_check_reads.OrderCheckFacts.{OrderCheckFacts}
use Rattle.brk_store_reads.proofs.Sequences.{failed_after, read_with, unchanged_after}
use Rattle.std.proofs.lemmas.Result.{err_from_is_err_and}
use Rattle.brk_store_reads.specs.ReadSequences.{single_read_changes_nothing}
use Rattle.brk_desk_decisions.proofs.order_check_reads.order_check_facts.Goals as goal

pub returns : goal.returns
returns g c =
    let old = c.args.store.now in
    let order = c.args.order.now in
    let customer = c.args.customer.now in
    let last_price = c.in_ok-last_price.last_price in
    let is_permitted = c.in_ok-is_permitted.is_permitted in
    let charge = c.in_ok-charge.charge in
    let rate = c.in_ok-rate.rate in
    let price_read : Tables → Type 0 = λ t. last_price ≡ last_price_of_symbol t order.symbol in
    let permission_read : Tables
    → Type 0 = λ t. is_permitted
    ≡ is_customer_or_has_permission (abstract_customer customer) (permission_list_for_tax_id t order.account order.executor.tax_id)
    (abstract_executor order.executor) in
    let charge_read : Tables → Type 0 = λ t. charge ≡ charge_of_type_and_tier t (trade_type_of_order_type order.order_type) customer.tier in
    let one =
    read_with g.S.Store old c.last_price.new.self c.is_executor_permitted.new.store {X = Unit {0}} {H = CallFault} last_price is_permitted tt
    (λ price (t : Tables). price ≡ last_price_of_symbol t order.symbol)
    (λ is (t : Tables). is ≡ is_customer_or_has_permission (abstract_customer customer) (permission_list_for_tax_id t order.account order.executor.tax_id) (abstract_executor order.executor))
    (λ _ t. price_read t × permission_read t) (λ t a b. (a, b))
    c.in_ok-last_price.ensures.read c.in_ok-is_permitted.ensures in
    let two =
    read_with g.S.Store old c.is_executor_permitted.new.store c.charge_of_tier.new.store {X = Unit {0}} {H = CallFault} tt charge tt
    (λ _ t. price_read t × permission_read t) (λ charge (t : Tables). charge ≡ charge_of_type_and_tier t (trade_type_of_order_type order.order_type) customer.tier)
    (λ _ t. (price_read t × permission_read t) × charge_read t) (λ t a b. (a, b))
    one (rw c.kind.ensures at c.in_ok-charge.ensures) in
    let tested : OrderCheckFacts = record { last_price = last_price; is_permitted = is_permitted; charge = charge; rate = rate } in
    read_with g.S.Store old c.charge_of_tier.new.store c.read_order_rate.new.store {H = CallFault} tt rate tested
    (λ _ t. (price_read t × permission_read t) × charge_read t)
    (λ rate (t : Tables). IfSome (security_row_with_symbol t order.symbol)
    (λ (s : SecurityRow). rate
    ≡ option_map (λ (b : Band). b.rate) (commission_band_of_quantity t customer.tier (trade_type_of_order_type order.order_type) s.exchange order.qty)))
    (λ tested (t : Tables). CustomerOrderFactsMatchTables t order customer tested)
    (λ t k r. record { last_price = k.0.0; is_permitted = k.0.1; charge = k.1; rate = r })
    two c.in_ok-rate.ensures

pub returns-in_err-is_permitted : goal.returns-in_err-is_permitted
returns-in_err-is_permitted g c =
    let old = c.args.store.now in
    let p = err_from_is_err_and c.from_residual-in_err-is_permitted.result c.from_residual-in_err-is_permitted.ensures.1 in
    rw p.1 (failed_after g.S.Store old c.last_price.new.self c.is_executor_permitted.new.store _ p.0 _ _
    (single_read_changes_nothing old c.last_price.new.self _ _ c.in_ok-last_price.ensures.read) c.in_err-is_permitted.ensures)

pub returns-in_err-charge : goal.returns-in_err-charge
returns-in_err-charge g c =
    let old = c.args.store.now in
    let p = err_from_is_err_and c.from_residual-in_err-charge.result c.from_residual-in_err-charge.ensures.1 in
    rw p.1 (failed_after g.S.Store old c.is_executor_permitted.new.store c.charge_of_tier.new.store _ p.0 _ _
    (unchanged_after g.S.Store old c.last_price.new.self c.is_executor_permitted.new.store _ _
    (single_read_changes_nothing old c.last_price.new.self _ _ c.in_ok-last_price.ensures.read) c.in_ok-is_permitted.ensures)
    c.in_err-charge.ensures)

pub returns-in_err-rate : goal.returns-in_err-rate
returns-in_err-rate g c =
    let old = c.args.store.now in
    let p = err_from_is_err_and c.from_residual-in_err-rate.result c.from_residual-in_err-rate.ensures.1 in
    rw p.1 (failed_after g.S.Store old c.charge_of_tier.new.store c.read_order_rate.new.store _ p.0 _ _
    (unchanged_after g.S.Store old c.is_executor_permitted.new.store c.charge_of_tier.new.store _ _
    (unchanged_after g.S.Store old c.last_price.new.self c.is_executor_permitted.new.store _ _
    (single_read_changes_nothing old c.last_price.new.self _ _ c.in_ok-last_price.ensures.read) c.in_ok-is_permitted.ensures)
    c.in_ok-charge.ensures) c.in_err-rate.ensures)
